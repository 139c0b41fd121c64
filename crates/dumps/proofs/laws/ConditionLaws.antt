-- The conditions of what is left of a line, one part on, and the needs of which the conditions aren't known.
use Rattle.std.proofs.Common.{◌≡◌, ℕ, ◌+◌, ◌<◌, List, [], ◌∷◌, ◌++◌, length, take, drop, get_or, refl, sym, ap, ◌∙◌, arith, Bool, true, false, cond, filter}
use Rattle.std.proofs.lemmas.List.{drop_more, take_more, map_push, length-drop}
use Rattle.dumps.specs.Options.{Table, Known}
use Rattle.dumps.specs.Conditions.{asked_first, conditions_after}
use Rattle.dumps.specs.Views.{part_in, parts_of}
use Rattle.dumps.specs.declared.apart.part.Part.{Part}
use Rattle.dumps.specs.Foreign.{needed_in, needs_in, is_unknown, unknown_needs}
use Rattle.dumps.specs.declared.reading.foreign.NeededText.{NeededText}

-- ---- The conditions of what is left of a line, one part on.

with-default : (table : Table) (parts : List Part) (i : ℕ) (d : Part) → i < length parts
    → conditions_after table (parts_of (take i parts)) (parts_of (drop i parts))
    ≡ asked_first table (parts_of (take i parts)) (parts_of (drop i parts)) ++ conditions_after table (parts_of (take (i + 1) parts)) (parts_of (drop (i + 1) parts))
with-default table parts i d inside =
    let before = parts_of (take i parts) in
    let part = get_or parts i d in
    let rest = parts_of (drop (i + 1) parts) in
    let split : parts_of (drop i parts) ≡ part_in part ∷ rest = ap parts_of (drop_more parts i d inside) in
    let more : parts_of (take (i + 1) parts) ≡ before ++ part_in part ∷ [] = ap parts_of (take_more parts i d inside) ∙ map_push part_in (take i parts) part in
    ap (conditions_after table before) split
    ∙ ap (λ l. l ++ conditions_after table (before ++ part_in part ∷ []) rest) (ap (asked_first table before) (sym split))
    ∙ ap (λ l. asked_first table before (parts_of (drop i parts)) ++ conditions_after table l rest) (sym more)

pub conditions-more : (table : Table) (parts : List Part) (i : ℕ) → i < length parts
    → conditions_after table (parts_of (take i parts)) (parts_of (drop i parts))
    ≡ asked_first table (parts_of (take i parts)) (parts_of (drop i parts)) ++ conditions_after table (parts_of (take (i + 1) parts)) (parts_of (drop (i + 1) parts))
conditions-more table parts i inside = go (drop i parts) refl
  where
    go : (l : List Part) → drop i parts ≡ l
        → conditions_after table (parts_of (take i parts)) (parts_of (drop i parts))
        ≡ asked_first table (parts_of (take i parts)) (parts_of (drop i parts)) ++ conditions_after table (parts_of (take (i + 1) parts)) (parts_of (drop (i + 1) parts))
    go [] e = absurd (omega (arith, length-drop i parts, ap length e))
    go (p ∷ ps) e = with-default table parts i p inside

-- ---- The needs of which the conditions aren't known.

-- they are those of the code's values that are kept
pub unknown_kept : (known : List Known) (needs : List NeededText)
    → unknown_needs known (needs_in needs) ≡ needs_in (filter (λ (need : NeededText). is_unknown known (needed_in need)) needs)
unknown_kept known [] = refl
unknown_kept known (need ∷ needs) = go (is_unknown known (needed_in need)) (unknown_kept known needs)
  where
    kept : List NeededText
    kept = filter (λ (other : NeededText). is_unknown known (needed_in other)) needs

    go : (b : Bool) → unknown_needs known (needs_in needs) ≡ needs_in kept
        → cond b (needed_in need ∷ unknown_needs known (needs_in needs)) (unknown_needs known (needs_in needs)) ≡ needs_in (cond b (need ∷ kept) kept)
    go true rest = ap (λ l. needed_in need ∷ l) rest
    go false rest = rest
