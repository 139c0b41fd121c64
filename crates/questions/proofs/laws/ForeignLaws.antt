-- The table that is left once it is known which conditions hold is sound.
use Rattle.std.proofs.Common.{◌≡◌, inl, inr, ℕ, zero, suc, ◌<◌, Bool, true, false, ◌||◌, ◌&&◌, List, [], length, get_or, refl, sym, ◌∙◌, ap, arith, subst, All}
use Rattle.std.specs.Str.{bytes_eq}
use Rattle.fields.specs.declared.packet.hook.Hook.TheVariants.{Input, Output}
use Rattle.fields.specs.Hook.{name as hook_name}
use Rattle.rules.specs.rule.Rules.{Rule}
use Rattle.table.specs.chains.Sound.{AreListed, IsSound, IsSoundChain, MayStand, Names, Path}
use Rattle.table.specs.chains.Table.{Chain, Table, chain_named_by, rules_of}
use Rattle.questions.specs.Foreign.{Assignment, never, resolved, resolved_rules}
use Rattle.questions.specs.declared.foreign.need.Need.{Need}
use Rattle.questions.proofs.laws.ResolvedLaws.{never_names_nothing, never_reads_back, chain_named, chain_resolved, has_same, is_or_never, length_same, names_same, rule_resolved, rule_there, rules_by_name, rules_length, users_same}

neither : (b c : Bool) → (b && false || c && false) ≡ false
neither true true = refl
neither true false = refl
neither false true = refl
neither false false = refl

-- ---- jumps and gotos that are left were there

module _ (needs : List (List (List Need))) (a : Assignment) (t : Table) where
  names_kept : (x y : List ℕ) → Names (resolved needs a t).chains x y → Names t.chains x y
  names_kept x y (rule, there, named) =
      let (own, is) = rules_by_name needs a t.chains x in
      elim (rule_there own a (rules_of t.chains x) rule (rw is at there)) [
        | inl gone ↦ absurd (never_names_nothing y (ap chain_named_by (sym gone) ∙ named))
        | inr kept ↦ (rule, kept, named)
      ]

  pub path_kept : (n : ℕ) (x y : List ℕ) → Path (resolved needs a t).chains n x y → Path t.chains n x y
  path_kept zero x y p = p
  path_kept (suc n) x y (z, named, p) = (z, names_kept x z named, path_kept n z y p)

-- ---- the table that is left

module _ (needs : List (List (List Need))) (a : Assignment) (t : Table) (sound : IsSound t) where
  abbrev left : Table
  left = resolved needs a t

  stands : (chain : List ℕ) (rule : Rule) → MayStand t chain rule → MayStand left chain rule
  stands chain rule h = record {
    readable = h.readable;
    interface = h.interface;
    target = λ name is. (let target = h.target name is in record { there = has_same needs a name t.chains ∙ target.there; user = target.user });
  }

  never_stands : (chain : List ℕ) → MayStand left chain never
  never_stands chain = record { readable = never_reads_back; interface = neither (bytes_eq chain (hook_name Input)) (bytes_eq chain (hook_name Output)); target = λ name is. absurd (never_names_nothing name is) }

  chain_sound : (c d : Chain) (own : List (List Need)) → c.name ≡ d.name → c.rules ≡ resolved_rules a own d.rules → IsSoundChain t d → IsSoundChain left c
  chain_sound c d own named is h = record {
    rules = subst Q (sym is) (subst R (sym named) each);
    few = omega (arith, ap (λ (rs : List Rule). length rs) is, rules_length own a d.rules, h.few);
  }
    where
      Q : List Rule → Type 0
      Q rs = All (MayStand left c.name) rs

      R : List ℕ → Type 0
      R n = All (MayStand left n) (resolved_rules a own d.rules)

      each : All (MayStand left d.name) (resolved_rules a own d.rules)
      each k r lt =
          let within : k < length d.rules = omega (arith, lt, rules_length own a d.rules) in
          let P : Rule → Type 0 = λ x. MayStand left d.name x in
          subst P (sym (rule_resolved own a d.rules k r within))
          (elim (is_or_never a (get_or own k []) (get_or d.rules k r)) [
            | inl same ↦ subst P (sym same) (stands d.name (get_or d.rules k r) (h.rules k r within))
            | inr gone ↦ subst P (sym gone) (never_stands d.name)
          ])

  pub left_sound : IsSound left
  left_sound = record {
    policies = sound.policies;
    listed = (let P : List (List ℕ) → Type 0 = λ ns. AreListed ns in subst P (sym (names_same needs a t.chains)) sound.listed);
    chains = λ k c lt. (let within : k < length t.chains = omega (arith, lt, length_same needs a t.chains) in
        chain_sound (get_or left.chains k c) (get_or t.chains k c) (get_or needs k []) (chain_named needs a t.chains k c) (chain_resolved needs a t.chains k c within) (sound.chains k c within));
    no_loop = λ n x p. sound.no_loop n x (path_kept needs a t (suc n) x x p);
    few = omega (arith, users_same needs a t.chains, sound.few);
  }
