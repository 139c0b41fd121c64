-- A pass over the pieces from the last to the first: each row is changed once, and pieces that only the old bits kept apart are joined.
use Rattle.std.proofs.Common.{◌≡◌, ◌≢◌, inl, inr, ℕ, zero, suc, ◌-◌, ◌<◌, ◌≤◌, Bool, false, List, [], ◌∷◌, ◌++◌, length, take, drop, get_or, refl, sym, ◌∙◌, ap, arith, subst, map}
use Rattle.std.proofs.Math.ListN.{set}
use Rattle.std.specs.List.{remove}
use Rattle.std.proofs.lemmas.List.{length-map, length-set, get_or-set_same, get_or-set_other, get_or-take, take_all, drop_all, append-nil}
use Rattle.std.proofs.lemmas.List.Edits.{get_or-remove_below, length-remove}
use Rattle.std.proofs.lemmas.Bool.{cases_lt}
use Rattle.classify.specs.steps.Pieces.{IsRising}
use Rattle.classify.specs.steps.Edits.{IsMergeOf, IsJoined, KeepsApart}
use Rattle.classify.proofs.laws.line.LineLaws.{cases_same}
use Rattle.classify.proofs.laws.line.LoopLaws.{Merging, merging_first, merging_skip, merging_drop, merging_done, no_cut}

abbrev Cut : Type 0
Cut = ℕ × List Bool

-- the pieces as they will be: those before k changed too
abbrev changed : (Cut → Cut) → List Cut → ℕ → List Cut
changed g line k = map g (take k line) ++ drop k line

changed-set : (g : Cut → Cut) (line : List Cut) (j : ℕ) (d : Cut) → j < length line → changed g (set line j (g (get_or line j d))) j ≡ changed g line (suc j)
changed-set g [] j d lt = absurd (omega arith)
changed-set g (p ∷ ps) zero d lt = refl
changed-set g (p ∷ ps) (suc j) d lt = ap (λ (cs : List Cut). g p ∷ cs) (changed-set g ps j d (omega arith))

changed-remove : (g : Cut → Cut) (line : List Cut) (j : ℕ) → changed g (remove line (suc j)) j ≡ remove (changed g line j) (suc j)
changed-remove g [] zero = refl
changed-remove g [] (suc j) = refl
changed-remove g (p ∷ ps) zero = refl
changed-remove g (p ∷ ps) (suc j) = ap (λ (cs : List Cut). g p ∷ cs) (changed-remove g ps j)

changed_at : (g : Cut → Cut) (line : List Cut) (j : ℕ) (d : Cut) → j < length line → get_or (changed g line (suc j)) j d ≡ g (get_or line j d)
changed_at g [] j d lt = absurd (omega arith)
changed_at g (p ∷ ps) zero d lt = refl
changed_at g (p ∷ ps) (suc j) d lt = changed_at g ps j d (omega arith)

changed_next : (g : Cut → Cut) (line : List Cut) (j : ℕ) (d : Cut) → j < length line → get_or (changed g line (suc j)) (suc j) d ≡ get_or line (suc j) d
changed_next g [] j d lt = absurd (omega arith)
changed_next g (p ∷ ps) zero d lt = refl
changed_next g (p ∷ ps) (suc j) d lt = changed_next g ps j d (omega arith)

take-remove : (line : List Cut) (j : ℕ) → take j (remove line (suc j)) ≡ take j line
take-remove [] zero = refl
take-remove [] (suc j) = refl
take-remove (p ∷ ps) zero = refl
take-remove (p ∷ ps) (suc j) = ap (λ (cs : List Cut). p ∷ cs) (take-remove ps j)

take-write : (line : List Cut) (j : ℕ) (q : Cut) → take j (set line j q) ≡ take j line
take-write [] zero q = refl
take-write [] (suc j) q = refl
take-write (p ∷ ps) zero q = refl
take-write (p ∷ ps) (suc j) q = ap (λ (cs : List Cut). p ∷ cs) (take-write ps j q)

pub take-less : (xs ys : List Cut) (j : ℕ) → take (suc j) xs ≡ take (suc j) ys → take j xs ≡ take j ys
take-less xs ys zero e = refl
take-less [] [] (suc j) e = refl
take-less [] (y ∷ ys) (suc j) e = absurd (let n : 0 ≡ suc (length (take (suc j) ys)) = ap length e in omega arith)
take-less (x ∷ xs) [] (suc j) e = absurd (let n : suc (length (take (suc j) xs)) ≡ 0 = ap length e in omega arith)
take-less (x ∷ xs) (y ∷ ys) (suc j) e =
    let head : x ≡ y = cc in
    let tail : take (suc j) xs ≡ take (suc j) ys = cc in
    let rest : take j xs ≡ take j ys = take-less xs ys j tail in
    λ i. head i ∷ rest i

-- ---- from the last piece down to the k-th

pub record Working (g : Cut → Cut) (at : ℕ) (old now : List Cut) (k : ℕ) (above : Bool) : Type 0 where
  pub place : k ≤ length now
  pub fits : k ≤ length old
  pub start : length old ≤ k → now ≡ old
  pub prefix : take k now ≡ take k old
  pub head : k < length old → get_or now k no_cut ≡ g (get_or old k no_cut)
  pub bit_above : k < length old → above ≡ get_or (get_or old k no_cut).1 at false
  pub merging : k < length old → Merging (map g old) (changed g now k) k

pub working_first : (g : Cut → Cut) (at : ℕ) (line : List Cut) (k : ℕ) (above : Bool) → k ≡ length line → Working g at line line k above
working_first g at line k above e = record {
  place = omega arith;
  fits = omega arith;
  start = λ _. refl;
  prefix = refl;
  head = λ lt. absurd (omega arith);
  bit_above = λ lt. absurd (omega arith);
  merging = λ lt. absurd (omega arith);
}

-- the piece before the k-th is one of the old line
pub working_read : (g : Cut → Cut) (at : ℕ) (old now : List Cut) (j : ℕ) (above : Bool) → Working g at old now (suc j) above → get_or now j no_cut ≡ get_or old j no_cut
working_read g at old now j above h =
    let lt : j < suc j = omega arith in
    sym (get_or-take (suc j) now j no_cut lt) ∙ ap (λ (cs : List Cut). get_or cs j no_cut) h.prefix ∙ get_or-take (suc j) old j no_cut lt

pub working_next : (g : Cut → Cut) (at : ℕ) (old now new final : List Cut) (j : ℕ) (above bit : Bool) → 0 < length old → KeepsApart g at old → Working g at old now (suc j) above
    → new ≡ set now j (g (get_or now j no_cut)) → bit ≡ get_or (get_or now j no_cut).1 at false → IsJoined bit above j new final → Working g at old final j bit
working_next g at old now new final j above bit filled keeps_apart h made tested joined =
    let in' : j < length now = omega (arith, h.place) in
    let in_old : j < length old = omega (arith, h.fits) in
    let was : get_or now j no_cut ≡ get_or old j no_cut = working_read g at old now j above h in
    let long : length new ≡ length now = ap length made ∙ length-set now j (g (get_or now j no_cut)) in
    let own : get_or new j no_cut ≡ g (get_or old j no_cut) = ap (λ (cs : List Cut). get_or cs j no_cut) made ∙ get_or-set_same now j (g (get_or now j no_cut)) no_cut in' ∙ ap g was in
    let ne : suc j ≢ j = omega arith in
    let next : get_or new (suc j) no_cut ≡ get_or now (suc j) no_cut = ap (λ (cs : List Cut). get_or cs (suc j) no_cut) made ∙ get_or-set_other now j (suc j) (g (get_or now j no_cut)) no_cut ne in
    let full : changed g new j ≡ changed g now (suc j) = ap (λ (cs : List Cut). changed g cs j) made ∙ changed-set g now j no_cut in' in
    let front : take j new ≡ take j old = ap (λ (cs : List Cut). take j cs) made ∙ take-write now j (g (get_or now j no_cut)) ∙ take-less now old j h.prefix in
    let bit_is : bit ≡ get_or (get_or old j no_cut).1 at false = tested ∙ ap (λ (c : Cut). get_or c.1 at false) was in
    elim joined [
      | inl kept ↦ (
          let same : final ≡ new = kept.0 in
          let P : List Cut → Type 0 = λ cs. Working g at old cs j bit in
          let merged : Merging (map g old) (changed g new j) j =
          (let Q : List Cut → Type 0 = λ cs. Merging (map g old) cs j in
          subst Q (sym full) (elim (cases_lt (suc j) (length old)) [
            | inl lt ↦ (
                let m = h.merging lt in
                merging_skip (map g old) (changed g now (suc j)) j m (λ rows.
                (let rows' : (g (get_or old j no_cut)).1 ≡ (get_or now (suc j) no_cut).1 =
                ap (λ (c : Cut). c.1) (sym (changed_at g now j no_cut in' ∙ ap g was)) ∙ rows ∙ ap (λ (c : Cut). c.1) (changed_next g now j no_cut in') in
                elim (cases_same bit above) [
                  | inl e ↦ keeps_apart j lt (sym bit_is ∙ e ∙ h.bit_above lt) (rows' ∙ ap (λ (c : Cut). c.1) (h.head lt))
                  | inr apart ↦ (
                      let more : suc j < length new = omega (arith, long, room old now g h lt) in
                      kept.1 more apart (ap (λ (c : Cut). c.1) own ∙ rows' ∙ sym (ap (λ (c : Cut). c.1) next)))
                ])))
            | inr ge ↦ (
                let whole : now ≡ old = h.start ge in
                let all : changed g now (suc j) ≡ map g old =
                ap (λ (cs : List Cut). changed g cs (suc j)) whole ∙ ap (λ (cs : List Cut). map g cs ++ drop (suc j) old) (take_all (suc j) old ge) ∙ ap (λ (cs : List Cut). map g old ++ cs) (drop_all (suc j) old ge) ∙ append-nil (map g old) in
                let R : List Cut → Type 0 = λ cs. Merging (map g old) cs j in
                let last : j ≡ length (map g old) - 1 = omega (arith, length-map old g, h.fits) in
                subst R (sym all) (merging_first (map g old) j (omega (arith, length-map old g, filled)) last))
          ])) in
          subst P (sym same) (record {
            place = omega arith;
            fits = omega arith;
            start = λ ge. absurd (omega arith);
            prefix = front;
            head = λ _. own;
            bit_above = λ _. bit_is;
            merging = λ _. merged;
          }))
      | inr gone ↦ (
          let more : suc j < length new = gone.0 in
          let lt : suc j < length old = later old now new g h long more in
          let same : final ≡ remove new (suc j) = gone.2 in
          let below : j < suc j = omega arith in
          let P : List Cut → Type 0 = λ cs. Working g at old cs j bit in
          let rows : (get_or (changed g now (suc j)) j no_cut).1 ≡ (get_or (changed g now (suc j)) (suc j) no_cut).1 =
          ap (λ (c : Cut). c.1) (changed_at g now j no_cut in' ∙ ap g was ∙ sym own) ∙ gone.1 ∙ ap (λ (c : Cut). c.1) (next ∙ sym (changed_next g now j no_cut in')) in
          let merged : Merging (map g old) (changed g (remove new (suc j)) j) j =
          (let Q : List Cut → Type 0 = λ cs. Merging (map g old) cs j in
          subst Q (sym (changed-remove g new j ∙ ap (λ (cs : List Cut). remove cs (suc j)) full)) (merging_drop (map g old) (changed g now (suc j)) j (h.merging lt) rows)) in
          subst P (sym same) (record {
            place = omega (arith, length-remove new (suc j) more);
            fits = omega arith;
            start = λ ge. absurd (omega arith);
            prefix = take-remove new j ∙ front;
            head = λ _. get_or-remove_below new (suc j) no_cut j below more ∙ own;
            bit_above = λ _. bit_is;
            merging = λ _. merged;
          }))
    ]
  where
    length-changed : (line : List Cut) (k : ℕ) (f : Cut → Cut) → length (changed f line k) ≡ length line
    length-changed [] zero f = refl
    length-changed [] (suc k) f = refl
    length-changed (p ∷ ps) zero f = refl
    length-changed (p ∷ ps) (suc k) f = ap suc (length-changed ps k f)

    room : (o n : List Cut) (f : Cut → Cut) → Working f at o n (suc j) above → suc j < length o → suc j < length n
    room o n f w lt = omega (arith, (w.merging lt).place, length-changed n (suc j) f)

    later : (o n m : List Cut) (f : Cut → Cut) → Working f at o n (suc j) above → length m ≡ length n → suc j < length m → suc j < length o
    later o n m f w e lt = elim (cases_lt (suc j) (length o)) [ inl in'' ↦ in'' | inr ge ↦ absurd (let whole : n ≡ o = w.start ge in omega (arith, ap length whole)) ]

pub working_done : (g : Cut → Cut) (at : ℕ) (old now : List Cut) (k : ℕ) (above : Bool) → 0 < length old → Working g at old now k above → k ≡ 0 → (top : ℕ) → IsRising top (map g old) → IsMergeOf top (map g old) now
working_done g at [] now k above filled h e top r = absurd (omega arith)
working_done g at (p ∷ ps) now k above filled h e top r =
    let P : ℕ → Type 0 = λ n. Working g at (p ∷ ps) now n above in
    let w : Working g at (p ∷ ps) now 0 above = subst P e h in
    let some : 0 < length (p ∷ ps) = omega arith in
    merging_done (map g (p ∷ ps)) now 0 (w.merging some) refl top r

-- the same for the loop's counter, which is one above the place
pub working_step : (g : Cut → Cut) (at : ℕ) (old now new final : List Cut) (k : ℕ) (above bit : Bool) → 0 < length old → KeepsApart g at old → Working g at old now k above → 0 < k
    → new ≡ set now (k - 1) (g (get_or now (k - 1) no_cut)) → bit ≡ get_or (get_or now (k - 1) no_cut).1 at false → IsJoined bit above (k - 1) new final → Working g at old final (k - 1) bit
working_step g at old now new final k above bit filled keeps_apart h some made tested joined =
    let e : k ≡ suc (k - 1) = omega arith in
    let P : ℕ → Type 0 = λ n. Working g at old now n above in
    working_next g at old now new final (k - 1) above bit filled keeps_apart (subst P e h) made tested joined
