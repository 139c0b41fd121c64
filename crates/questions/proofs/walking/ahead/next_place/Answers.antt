use Rattle.std.proofs.Common.{ℕ, List, get_or, subst, arith}
use Rattle.rules.specs.rule.Rules.{Rule, empty_rule}
use Rattle.table.specs.chains.Table.{chain_at}
use Rattle.questions.specs.boxes.Cut.{IsAllowedIn, IsApart}
use Rattle.questions.specs.declared.walking.task.Pending.{Pending}
use Rattle.questions.specs.steps.Straying.{IsApartIn}
use Rattle.questions.specs.steps.Waiting.{rule_ahead}
use Rattle.questions.proofs.laws.BranchLaws.{below_next, past_next}
use Rattle.questions.proofs.walking.ahead.next_place.Goals as goal

pub loop-passed-init : goal.loop-passed-init
loop-passed-init c = record {
  low = c.next_of-passed.ensures.low;
  none = λ start are k le lt numbers point first has. (c.next_of-passed.ensures.others c.args.subject.now.table.table start are k le lt).none numbers point first;
}

pub loop-passed-preserved : goal.loop-passed-preserved
loop-passed-preserved c =
    let t = c.args.subject.now.table.table in
    let now = c.loop-passed.passed in
    let next : ℕ → Pending = λ k. record { chain = c.args.at.chain; passed = k } in
    let own : List Rule = (chain_at t c.args.at.chain).rules in
    let P : ℕ → Type 0 = λ j. IsApart (get_or own j empty_rule) c.args.area.now in
    let apart : IsApart (rule_ahead t (next now)) c.args.area.now = subst P (omega arith) (c.is_apart.ensures.none c.if-not-is_apart.false) in
    record {
      low = omega (arith, c.loop-passed.invariant.low, c.next_of-passed-in-loop-passed.ensures.low);
      none = λ start are. past_next (λ k. IsApartIn (rule_ahead t (next k)) start c.args.area.now) c.args.at.passed now c.next_of-passed-in-loop-passed.result
          (below_next (λ k. IsApartIn (rule_ahead t (next k)) start c.args.area.now) c.args.at.passed now (c.loop-passed.invariant.none start are) (λ numbers point first. apart.none numbers point))
          (λ k le lt numbers point first has. (c.next_of-passed-in-loop-passed.ensures.others t start are k le lt).none numbers point first);
    }

pub returns-clause-none : goal.returns-clause-none
returns-clause-none c = λ start are k le lt. c.loop-passed.invariant.none start are k le (omega (arith, le, lt, c.loop-passed-test.false, c.max.ensures))

pub is_apart-requires-clause-outline : goal.is_apart-requires-clause-outline
is_apart-requires-clause-outline c = rw c.sets.ensures.value at c.outline_of-outline.ensures

pub returns-then-not-is_apart-clause-stops : goal.returns-then-not-is_apart-clause-stops
returns-then-not-is_apart-clause-stops c = λ some lt.
    let own : List Rule = (chain_at c.args.subject.now.table.table c.args.at.chain).rules in
    let P : ℕ → Type 0 = λ j. IsAllowedIn (get_or own j empty_rule) c.args.area.now in
    subst P (omega arith) (c.is_apart.ensures.some c.if-not-is_apart.true some)

pub returns-clause-stops : goal.returns-clause-stops
returns-clause-stops c = λ some lt. absurd (omega (arith, lt, c.max.ensures, c.rule_count-count.ensures))
