use Rattle.std.proofs.Common.{◌≡◌, ◌≤◌, ◌+◌, ℕ, Bool, false, arith, ap, sym, ◌∙◌, subst}
use Rattle.smallvec.specs.SmallVec.{SmallVec}
use Rattle.fields.specs.declared.numbers.spans.Interval.{Interval}
use Rattle.fields.specs.numbers.Spans.{AreSpansFrom}
use Rattle.fields.proofs.laws.numbers.TestLaws.{Testing, testing_held, testing_ended, tested, RunAppended, run_appended, no_run}
use Rattle.fields.proofs.numbers.spans.Spans.of_test.Goals as goal
use Rattle.fields.proofs.numbers.spans.Spans.of_test.Goals.{then-x-top, then-x-top-via-then-x-top, then-x-top-via-else-x-top+then-not-test, then-first-x+in_ok-push, else-first-x, else-x-top+else-not-test}

pub loop-x-preserved : goal.loop-x-preserved
loop-x-preserved g c =
    let T : ℕ → Bool → Type 0 = λ x b. goal.F-post g c.args.test x b in
    let items = λ (v : SmallVec Interval). v.items in
    elim c.if-x-top.branch [
      | then-x-top w ↦ (
          let fails : c.loop-x.x ≤ c.args.top → T c.loop-x.x false = elim w.then-x-top.branch [
            | then-x-top-via-then-x-top w' ↦ (λ le. absurd (omega (arith, le, w'.if-x-top.true)))
            | then-x-top-via-else-x-top+then-not-test w' ↦ (λ le. w'.if-not-test.ensures)
          ] in
          let appended : RunAppended c.loop-x.first c.loop-x.x c.loop-x.runs.items c.if-x-top.runs.items = elim w.if-first-x.branch [
            | then-first-x+in_ok-push w' ↦ (
                let same : c.if-x-top.runs.items ≡ w'.push.new.self.items = ap items w.runs-is ∙ ap items w'.runs-is in
                run_appended _ _ _ _ _ _ w'.if-first-x.true w'.into.ensures w'.into-then-first-x.ensures (rw same w'.in_ok-push.ensures.ok))
            | else-first-x w' ↦ no_run _ _ _ _ w'.if-first-x.false (ap items w.runs-is ∙ ap items w'.runs-is)
          ] in
          subst (λ (n : ℕ). Testing T c.args.top n (c.loop-x.x + 1) c.if-x-top.runs.items) (sym w.first-is)
          (testing_ended T c.args.top _ _ _ _ c.loop-x.invariant fails appended))
      | else-x-top+else-not-test w ↦ (
          let P : ℕ → SmallVec Interval → Type 0 = λ n v. Testing T c.args.top n (c.loop-x.x + 1) v.items in
          let held : P c.loop-x.first c.loop-x.runs = testing_held T c.args.top _ _ _ c.loop-x.invariant w.if-x-top.false w.if-not-test.ensures in
          subst (P c.if-x-top.first) (sym w.runs-is) (subst (λ (n : ℕ). P n c.loop-x.runs) (sym w.first-is) held))
    ]

pub invariant_of-result : goal.invariant_of-result
invariant_of-result g c = subst (λ (n : ℕ). AreSpansFrom n 0 c.loop-x.runs.items) (sym c.into-2.ensures) (tested (λ x b. goal.F-post g c.args.test x b) _ _ _ _ c.loop-x-test.false c.loop-x.invariant).rise

pub returns-clause-members : goal.returns-clause-members
returns-clause-members g c x le = (tested (λ x b. goal.F-post g c.args.test x b) _ _ _ _ c.loop-x-test.false c.loop-x.invariant).members x (omega arith) le
