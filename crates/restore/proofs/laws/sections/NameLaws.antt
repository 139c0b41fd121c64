-- Sets of names, by the keys that stand for them.
use Rattle.std.proofs.Common.{◌≡◌, ℕ, Bool, true, false, ◌||◌, List, [], ◌∷◌, map, refl, sym, ◌∙◌, ap}
use Rattle.std.specs.BTreeMap.{is_at}
use Rattle.std.specs.BTreeSet.{insert_key}
use Rattle.std.specs.Cmp.Lexicographic.{slice_cmp, nat_list_cmp_total}
use Rattle.std.specs.FinSet.{contains, insert, from_list, contains-empty, contains-insert, same_set, nat_cmp-IsAntisymmetric, slice_cmp-IsAntisymmetric}
use Rattle.std.specs.Global.{Vec}
use Rattle.std.specs.List.{list_any}
use Rattle.std.specs.Ordering.{nat_cmp, eq_by_cmp, match_ordering}
use Rattle.std.specs.declared.cmp.Ordering.{Ordering}
use Rattle.std.specs.declared.cmp.Ordering.TheVariants.{Less, Equal, Greater}
use Rattle.restore.specs.sections.Section.{Names}

-- one name is another
abbrev is_name : List ℕ → List ℕ → Bool
is_name q k = eq_by_cmp (slice_cmp nat_cmp) q k

or_again : (a b : Bool) → (a || (a || b)) ≡ (a || b)
or_again true b = refl
or_again false b = refl

or_swapped : (a b c : Bool) → (a || (b || c)) ≡ (b || (a || c))
or_swapped true true c = refl
or_swapped true false c = refl
or_swapped false b c = refl

-- sets with the same names are one
same : (s t : Names) → ((q : List ℕ) → contains s q ≡ contains t q) → s ≡ t
same s t each = same_set nat_list_cmp_total (slice_cmp-IsAntisymmetric nat_cmp-IsAntisymmetric) s t each

holds : (s : Names) (k q : List ℕ) → contains (insert s k) q ≡ (is_name q k || contains s q)
holds s k q = contains-insert nat_list_cmp_total s k q

again : (s : Names) (k : List ℕ) → insert (insert s k) k ≡ insert s k
again s k = same _ _ (λ q. holds (insert s k) k q ∙ ap (λ b. is_name q k || b) (holds s k q) ∙ or_again (is_name q k) _ ∙ sym (holds s k q))

swapped : (s : Names) (k x : List ℕ) → insert (insert s k) x ≡ insert (insert s x) k
swapped s k x =
    same _ _ (λ q. holds (insert s k) x q ∙ ap (λ b. is_name q x || b) (holds s k q) ∙ or_swapped (is_name q x) (is_name q k) _ ∙ sym (holds (insert s x) k q ∙ ap (λ b. is_name q k || b) (holds s x q)))

-- the texts of keys
abbrev texts : List (Vec ℕ) → List (List ℕ)
texts keys = map (λ (k : Vec ℕ). k.items) keys

-- the order of keys is that of their texts
abbrev by_text : Vec ℕ → Vec ℕ → Ordering
by_text a b = slice_cmp nat_cmp a.items b.items

-- a name is found among the keys where it is in the set
pub found : (q : List ℕ) (keys : List (Vec ℕ)) → list_any (is_at (λ (k : Vec ℕ). slice_cmp nat_cmp q k.items)) keys ≡ contains {R = slice_cmp nat_cmp} (from_list (texts keys)) q
found q [] = sym (contains-empty (slice_cmp nat_cmp) q)
found q (k ∷ keys) = ap (λ b. is_name q k.items || b) (found q keys) ∙ sym (holds (from_list (texts keys)) k.items q)

-- a key put at its place puts its name into the set
pub inserted : (k : Vec ℕ) (keys : List (Vec ℕ)) → from_list {R = slice_cmp nat_cmp} (texts (insert_key by_text keys k)) ≡ insert (from_list (texts keys)) k.items
inserted k [] = refl
inserted k (x ∷ xs) =
    elim (by_text k x) as (λ (o : Ordering). by_text k x ≡ o → from_list {R = slice_cmp nat_cmp} (texts (match_ordering o (k ∷ x ∷ xs) (x ∷ xs) (x ∷ insert_key by_text xs k))) ≡ insert (insert (from_list (texts xs)) x.items) k.items) [
      | Less ↦ λ e. refl
      | Equal ↦ λ e. sym (again (from_list (texts xs)) x.items) ∙ ap (insert (insert (from_list (texts xs)) x.items)) (sym (slice_cmp-IsAntisymmetric nat_cmp-IsAntisymmetric k.items x.items e))
      | Greater ↦ λ e. ap (λ (s : Names). insert s x.items) (inserted k xs) ∙ swapped (from_list (texts xs)) k.items x.items
    ] refl

-- the same, of a set that keys stand for, and a key of the name
pub put : (s : Names) (keys more : List (Vec ℕ)) (k : Vec ℕ) (name : List ℕ) → from_list (texts keys) ≡ s → more ≡ insert_key by_text keys k → k.items ≡ name → from_list (texts more) ≡ insert s name
put s keys more k name shown is text =
    ap (λ (ks : List (Vec ℕ)). from_list {R = slice_cmp nat_cmp} (texts ks)) is ∙ inserted k keys ∙ (λ i. insert (shown i) (text i))
