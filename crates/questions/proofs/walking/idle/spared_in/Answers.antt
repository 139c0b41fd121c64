use Rattle.std.proofs.Common.{ℕ, [], ◌∷◌, length, arith, sym, subst, ap, length-append}
use Rattle.std.proofs.lemmas.List.{length-map}
use Rattle.questions.specs.Scopes.{table_of}
use Rattle.questions.specs.steps.Ending.{items_in}
use Rattle.questions.proofs.laws.IdleLaws.{IsSparedAt, spared_more}
use Rattle.questions.proofs.walking.idle.spared_in.Goals as goal

pub loop-passed-init : goal.loop-passed-init
loop-passed-init c = record { long = ap length c.new-lists.ensures.items; each = λ values are k lt. absurd (omega (arith, lt, length-map c.new-lists.result.items items_in, ap length c.new-lists.ensures.items)) }

pub spared_at-requires-clause-passed : goal.spared_at-requires-clause-passed
spared_at-requires-clause-passed c = omega (arith, c.loop-passed-test.true, c.rule_count-count.ensures)

pub loop-passed-preserved : goal.loop-passed-preserved
loop-passed-preserved c =
    let t = table_of c.args.subject.now in
    let needs = c.args.subject.now.needs.now in
    let before = c.loop-passed.lists.items in
    let own = c.in_ok-spared_at.field-0 in
    record {
      long = omega (arith, ap length c.in_ok-push.ensures.items, length-append before (own ∷ []), c.loop-passed.invariant.long);
      each = λ values are. spared_more t values needs c.args.place before c.push.new.self.items own c.in_ok-push.ensures.items
          (subst (λ (k : ℕ). IsSparedAt t values needs c.args.place k own.items) (sym c.loop-passed.invariant.long) (c.in_ok-spared_at.ensures values are)) (c.loop-passed.invariant.each values are);
    }

pub returns : goal.returns
returns c = λ values are. record {
  long = omega (arith, length-map c.loop-passed.lists.items items_in, c.loop-passed.invariant.long, c.rule_count-count.ensures, c.loop-passed-test.false, c.loop-passed.auto.passed-end);
  each = c.loop-passed.invariant.each values are;
}
