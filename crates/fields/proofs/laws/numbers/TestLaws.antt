-- The numbers of which a test holds, found in one pass.
use Rattle.std.proofs.Common.{◌≡◌, inl, inr, ℕ, ◌+◌, ◌-◌, ◌<◌, ◌≤◌, Bool, true, false, List, [], ◌∷◌, ◌++◌, refl, sym, arith, subst}
use Rattle.std.proofs.lemmas.Bool.{cases_lt}
use Rattle.std.proofs.lemmas.List.{append_assoc, append-nil}
use Rattle.fields.specs.declared.numbers.spans.Interval.{Interval}
use Rattle.fields.specs.numbers.Spans.{has, AreSpansFrom}
use Rattle.fields.proofs.laws.numbers.SpanLaws.{none_below, has_first, has_above, from_lower}

-- the intervals have the numbers from low on of which the test holds
pub record AreTestedFrom (T : ℕ → Bool → Type 0) (top low : ℕ) (spans : List Interval) : Type 0 where
  pub rise : AreSpansFrom top low spans
  pub members : (x : ℕ) → low ≤ x → x ≤ top → T x (has spans x)

-- behind the top there are none
pub none_tested : (T : ℕ → Bool → Type 0) (top low : ℕ) → top < low → AreTestedFrom T top low []
none_tested T top low lt = record { rise = tt; members = λ x ge le. absurd (omega arith) }

-- up to `i`, where `low` is the first number of a run that isn't in the list yet
pub record Testing (T : ℕ → Bool → Type 0) (top low i : ℕ) (done : List Interval) : Type 0 where
  pub behind : low ≤ i
  pub run : (x : ℕ) → low ≤ x → x < i → T x true
  pub within : low < i → i ≤ top + 1
  pub rest : (more : List Interval) → AreTestedFrom T top low more → AreTestedFrom T top 0 (done ++ more)

pub testing_begun : (T : ℕ → Bool → Type 0) (top : ℕ) → Testing T top 0 0 []
testing_begun T top = record { behind = omega arith; run = λ x ge lt. absurd (omega arith); within = λ lt. absurd (omega arith); rest = λ more h. h }

-- a number of which the test holds makes the run longer
pub testing_held : (T : ℕ → Bool → Type 0) (top low i : ℕ) (done : List Interval) → Testing T top low i done → i ≤ top → T i true → Testing T top low (i + 1) done
testing_held T top low i done t le is =
    record {
      behind = omega (arith, t.behind);
      run = λ x ge lt. elim (cases_lt x i) [
        | inl before ↦ t.run x ge before
        | inr from ↦ (let same : i ≡ x = omega arith in subst (λ (n : ℕ). T n true) same is)
      ];
      within = λ lt. omega arith;
      rest = t.rest;
    }

-- from a number on of which the test doesn't hold
none_at : (T : ℕ → Bool → Type 0) (top i : ℕ) (more : List Interval) → (i ≤ top → T i false) → AreTestedFrom T top (i + 1) more → (x : ℕ) → i ≤ x → x ≤ top → T x (has more x)
none_at T top i more not_i h x from le =
    elim (cases_lt i x) [
      | inl above ↦ h.members x (omega arith) le
      | inr at ↦ (
          let same : i ≡ x = omega arith in
          let none : has more x ≡ false = none_below top (i + 1) x more h.rise (omega arith) in
          subst (T x) (sym none) (subst (λ (n : ℕ). T n false) same (not_i (omega arith))))
    ]

-- a run ended by a number of which the test doesn't hold, or by the top
run_before : (T : ℕ → Bool → Type 0) (top low i : ℕ) (span : Interval) (more : List Interval) → ((x : ℕ) → low ≤ x → x < i → T x true) → low < i → i ≤ top + 1
    → (i ≤ top → T i false) → span.first ≡ low → span.last + 1 ≡ i → AreTestedFrom T top (i + 1) more → AreTestedFrom T top low (span ∷ more)
run_before T top low i span more run lt within not_i first last h =
    record {
      rise = (omega arith, omega arith, omega arith, from_lower top (i + 1) (span.last + 2) more (omega arith) h.rise);
      members = λ x ge le. elim (cases_lt x i) [
        | inl before ↦ subst (T x) (sym (has_first span more x (omega arith) (omega arith))) (run x ge before)
        | inr from ↦ subst (T x) (sym (has_above span more x (omega arith))) (none_at T top i more not_i h x from le)
      ];
    }

-- the run before a number, appended, if there is one
pub record RunAppended (low i : ℕ) (done now : List Interval) : Type 0 where
  pub run : low < i → now ≡ done ++ record { first = low; last = i - 1 } ∷ []
  pub no_run : i ≤ low → now ≡ done

pub run_appended : (low i first last : ℕ) (done now : List Interval) → low < i → first ≡ low → last ≡ i - 1 → now ≡ done ++ record { first = first; last = last } ∷ [] → RunAppended low i done now
run_appended low i first last done now lt f l is =
    let P : ℕ → ℕ → Type 0 = λ m n. now ≡ done ++ record { first = m; last = n } ∷ [] in
    record { run = λ _. subst (P low) l (subst (λ (m : ℕ). P m last) f is); no_run = λ le. absurd (omega arith) }

pub no_run : (low i : ℕ) (done now : List Interval) → i ≤ low → now ≡ done → RunAppended low i done now
no_run low i done now le is = record { run = λ lt. absurd (omega arith); no_run = λ _. is }

pub testing_ended : (T : ℕ → Bool → Type 0) (top low i : ℕ) (done now : List Interval) → Testing T top low i done → (i ≤ top → T i false) → RunAppended low i done now
    → Testing T top (i + 1) (i + 1) now
testing_ended T top low i done now t not_i a =
    let P : List Interval → List Interval → Type 0 = λ more l. AreTestedFrom T top 0 (l ++ more) in
    record {
      behind = omega arith;
      run = λ x ge lt. absurd (omega arith);
      within = λ lt. absurd (omega arith);
      rest = λ more h. elim (cases_lt low i) [
        | inl lt ↦ (
            let span : Interval = record { first = low; last = i - 1 } in
            subst (P more) (sym (a.run lt)) (rw append_assoc (t.rest (span ∷ more) (run_before T top low i span more t.run lt (t.within lt) not_i refl (omega arith) h))))
        | inr le ↦ (
            let same : i ≡ low = omega (arith, t.behind) in
            subst (P more) (sym (a.no_run le)) (t.rest more (record {
              rise = from_lower top (i + 1) low more (omega arith) h.rise;
              members = λ x ge within. none_at T top i more not_i h x (omega arith) within;
            })))
      ];
    }

-- behind the number behind the top, the list is complete
pub tested : (T : ℕ → Bool → Type 0) (top low i : ℕ) (done : List Interval) → top + 2 ≤ i → Testing T top low i done → AreTestedFrom T top 0 done
tested T top low i done end t =
    let above : top < low = elim (cases_lt low i) [
      | inl lt ↦ absurd (omega (arith, t.within lt))
      | inr ge ↦ omega arith
    ] in
    subst (λ (l : List Interval). AreTestedFrom T top 0 l) (append-nil done) (t.rest [] (none_tested T top low above))
