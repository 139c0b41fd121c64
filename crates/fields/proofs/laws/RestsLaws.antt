-- What a lent value is left as: a clause that says more than its trait's.
use mathlib.Core.Option.{Option}
use seplogic.Ra.Ura.{Ura}
use base.Logic.{SProp, ent, sep, ex_e, ex_i, via, fst∗, mono_r}
use base.Fml.{GName}
use base.Stored.{Gv}
use types.Logic.{Logic, sem}
use denote.Follow.{such_by, follows_by}

-- a weaker fact of the value holds, too
such_by-weaken : {M : Type 1} {𝓤 : Ura M} (𝓛 : Logic 𝓤) (D E : Type 0) (c : D → Gv) (d : E → Gv) (γ : GName) (m : Option GName) (P : E → D → Type 0) (P₀ Q₀ : D → Type 0)
    → ((x : D) → P₀ x → Q₀ x) → ent 𝓤 (sem 𝓛 (such_by D E c d γ m P P₀)) (sem 𝓛 (such_by D E c d γ m P Q₀))
unfolding such_by
such_by-weaken {𝓤 = 𝓤} 𝓛 D E c d γ m P P₀ Q₀ f =
    ex_e 𝓤 _ (λ s. ex_i 𝓤 (λ (t : (p : (E → D) × D) × ((w : E) → P w (p.0 w)) × Q₀ p.1). sem 𝓛 (follows_by D E c d γ m t.0.0 t.0.1)) (s.0, s.1, f _ s.2))

-- the same below two facts, where the first clause has one more fact after it
pub third-weaken : {M : Type 1} {𝓤 : Ura M} (𝓛 : Logic 𝓤) (D E : Type 0) (c : D → Gv) (d : E → Gv) (γ : GName) (m : Option GName) (P : E → D → Type 0) (P₀ Q₀ : D → Type 0) (front end due : SProp 𝓤)
    → ((x : D) → P₀ x → Q₀ x) → ent 𝓤 (sep 𝓤 front (sep 𝓤 end (sep 𝓤 (sem 𝓛 (such_by D E c d γ m P P₀)) due))) (sep 𝓤 front (sep 𝓤 end (sem 𝓛 (such_by D E c d γ m P Q₀))))
third-weaken {𝓤 = 𝓤} 𝓛 D E c d γ m P P₀ Q₀ front end due f =
    let more : SProp 𝓤 = sem 𝓛 (such_by D E c d γ m P P₀) in
    mono_r 𝓤 front (mono_r 𝓤 end (via 𝓤 more (fst∗ 𝓤 more due) (such_by-weaken 𝓛 D E c d γ m P P₀ Q₀ f)))
