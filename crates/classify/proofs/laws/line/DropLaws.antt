-- The cuts that only one box's answers make, taken out from the last piece to the first.
use Rattle.std.proofs.Common.{◌≡◌, inl, inr, ℕ, zero, suc, ◌+◌, ◌-◌, ◌<◌, ◌≤◌, Bool, false, List, [], ◌∷◌, length, take, get_or, refl, sym, ◌∙◌, ap, arith, subst, map}
use Rattle.std.specs.List.{remove}
use Rattle.std.proofs.lemmas.List.{length-map, get_or-map, get_or-take}
use Rattle.classify.specs.steps.Pieces.{IsRising}
use Rattle.classify.specs.steps.Edits.{IsMergeOf, IsJoinedBeside, KeepsApart, row_of, without_answer}
use Rattle.classify.proofs.laws.line.JoinLaws.{take-less}
use Rattle.classify.proofs.laws.line.LoopLaws.{Merging, merging_first, merging_skip, merging_drop, merging_done, no_cut}

abbrev Cut : Type 0
Cut = ℕ × List Bool

map-remove : (g : Cut → Cut) (line : List Cut) (k : ℕ) → map g (remove line k) ≡ remove (map g line) k
map-remove g [] zero = refl
map-remove g [] (suc k) = refl
map-remove g (p ∷ ps) zero = refl
map-remove g (p ∷ ps) (suc k) = ap (λ (cs : List Cut). g p ∷ cs) (map-remove g ps k)

take-remove-at : (line : List Cut) (k : ℕ) → take k (remove line k) ≡ take k line
take-remove-at [] zero = refl
take-remove-at [] (suc k) = refl
take-remove-at (p ∷ ps) zero = refl
take-remove-at (p ∷ ps) (suc k) = ap (λ (cs : List Cut). p ∷ cs) (take-remove-at ps k)

-- down to the k-th piece, no cut is left that only the answers at the place make; the pieces up to it are those of the old line
pub record Dropping (at : ℕ) (old now : List Cut) (k : ℕ) : Type 0 where
  pub fits : k < length old
  pub prefix : take (suc k) now ≡ take (suc k) old
  pub merging : Merging (map (without_answer at) old) (map (without_answer at) now) k

there : (at : ℕ) (old now : List Cut) (k : ℕ) → Dropping at old now k → k < length now
there at old now k h = omega (arith, h.merging.place, length-map now (without_answer at))

pub dropping_first : (at : ℕ) (line : List Cut) (k : ℕ) → 0 < length line → k ≡ length line - 1 → Dropping at line line k
dropping_first at line k some e = record {
  fits = omega (arith, e);
  prefix = refl;
  merging = merging_first (map (without_answer at) line) k (omega (arith, length-map line (without_answer at))) (omega (arith, e, length-map line (without_answer at)));
}

-- a row without the answer
row_without : (at : ℕ) (line : List Cut) (k : ℕ) → k < length line → (get_or (map (without_answer at) line) k no_cut).1 ≡ remove (row_of line k) at
row_without at line k lt = ap (λ (c : Cut). c.1) (get_or-map (without_answer at) line k no_cut no_cut lt)

-- a piece compared with the one after it
pub dropping_step : (at : ℕ) (old now final : List Cut) (j : ℕ) → Dropping at old now (suc j) → IsJoinedBeside at j now final → Dropping at old final j
dropping_step at old now final j h joined =
    let g : Cut → Cut = without_answer at in
    let P : List Cut → Type 0 = λ cs. Dropping at old cs j in
    let in' : suc j < length now = there at old now (suc j) h in
    let next : j + 1 ≡ suc j = omega arith in
    let one : (get_or (map g now) j no_cut).1 ≡ remove (row_of now j) at = row_without at now j (omega arith) in
    let other : (get_or (map g now) (suc j) no_cut).1 ≡ remove (row_of now (j + 1)) at = row_without at now (suc j) in' ∙ ap (λ k. remove (row_of now k) at) (sym next) in
    elim joined [
      | inl kept ↦ subst P (sym kept.0) (record {
        fits = omega (arith, h.fits);
        prefix = take-less now old (suc j) h.prefix;
        merging = merging_skip (map g old) (map g now) j h.merging (λ rows. kept.1 (sym one ∙ rows ∙ other));
      })
      | inr gone ↦ (
          let dropped : Merging (map g old) (remove (map g now) (suc j)) j = merging_drop (map g old) (map g now) j h.merging (one ∙ gone.1 ∙ sym other) in
          let Q : List Cut → Type 0 = λ cs. Merging (map g old) cs j in
          subst P (sym (gone.0 ∙ ap (λ k. remove now k) next)) (record {
            fits = omega (arith, h.fits);
            prefix = take-remove-at now (suc j) ∙ take-less now old (suc j) h.prefix;
            merging = subst Q (sym (map-remove g now (suc j))) dropped;
          }))
    ]

-- the same for a loop's counter
pub dropping_next : (at : ℕ) (old now final : List Cut) (k : ℕ) → Dropping at old now k → 0 < k → IsJoinedBeside at (k - 1) now final → Dropping at old final (k - 1)
dropping_next at old now final k h some joined = let e : k ≡ suc (k - 1) = omega arith in dropping_step at old now final (k - 1) (subst (Dropping at old now) e h) joined

-- a piece that has the bit of the one after it: their rows differ elsewhere
dropping_keep : (at : ℕ) (old now : List Cut) (j : ℕ) → KeepsApart (without_answer at) at old → Dropping at old now (suc j) → get_or (row_of now j) at false ≡ get_or (row_of now (suc j)) at false → Dropping at old now j
dropping_keep at old now j apart h bits =
    let next : j + 1 ≡ suc j = omega arith in
    let same : (k : ℕ) → k < suc (suc j) → get_or now k no_cut ≡ get_or old k no_cut = λ k lt.
    sym (get_or-take (suc (suc j)) now k no_cut lt) ∙ ap (λ (cs : List Cut). get_or cs k no_cut) h.prefix ∙ get_or-take (suc (suc j)) old k no_cut lt in
    let one : row_of now j ≡ row_of old j = ap (λ (c : Cut). c.1) (same j (omega arith)) in
    let other : row_of now (suc j) ≡ row_of old (suc j) = ap (λ (c : Cut). c.1) (same (suc j) (omega arith)) in
    let bit : List Bool → Bool = λ row. get_or row at false in
    let out : List Bool → List Bool = λ row. remove row at in
    dropping_step at old now now j h
    (inl (refl, λ rows. apart j h.fits (sym (ap bit one) ∙ bits ∙ ap bit other) (sym (ap out one) ∙ rows ∙ ap (λ k. remove (row_of now k) at) next ∙ ap out other)))

-- pieces side by side with one bit
dropping_by : (at : ℕ) (old now : List Cut) (d i k : ℕ) → i + d ≡ k → KeepsApart (without_answer at) at old → Dropping at old now k → ((j : ℕ) → i ≤ j → j ≤ k → get_or (row_of now j) at false ≡ get_or (row_of now k) at false) → Dropping at old now i
dropping_by at old now zero i k e apart h alike = let f : k ≡ i = omega (arith, e) in subst (Dropping at old now) f h
dropping_by at old now (suc d) i k e apart h alike =
    let j : ℕ = i + d in
    let f : k ≡ suc j = omega (arith, e) in
    let bits : get_or (row_of now j) at false ≡ get_or (row_of now k) at false = alike j (omega arith) (omega (arith, f)) in
    dropping_by at old now d i j refl apart (dropping_keep at old now j apart (subst (Dropping at old now) f h) (bits ∙ ap (λ n. get_or (row_of now n) at false) f))
    (λ n low high. alike n low (omega (arith, high, f)) ∙ sym bits)

pub dropping_run : (at : ℕ) (old now : List Cut) (i k : ℕ) → i ≤ k → KeepsApart (without_answer at) at old → Dropping at old now k → ((j : ℕ) → i ≤ j → j ≤ k → get_or (row_of now j) at false ≡ get_or (row_of now k) at false) → Dropping at old now i
dropping_run at old now i k le apart h alike = dropping_by at old now (k - i) i k (omega (arith, le)) apart h alike

pub dropping_done : (at : ℕ) (old now : List Cut) (k : ℕ) → Dropping at old now k → k ≡ 0 → (top : ℕ) → IsRising top (map (without_answer at) old) → IsMergeOf top (map (without_answer at) old) (map (without_answer at) now)
dropping_done at old now k h e top r = merging_done (map (without_answer at) old) (map (without_answer at) now) k h.merging e top r
