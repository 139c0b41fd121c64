use Rattle.std.proofs.Common.{sym, ◌∙◌, inl, inr, arith, true≢false}
use Rattle.questions.specs.Scopes.{whole_of}
use Rattle.questions.proofs.laws.SharedLaws.{none_next}
use Rattle.questions.proofs.asked.pairs.next_of.Goals as goal

pub returns-then-are_equal_at : goal.returns-then-are_equal_at
returns-then-are_equal_at c = c.are_equal_at.ensures.0 c.if-are_equal_at.true

pub loop-ahead-init : goal.loop-ahead-init
loop-ahead-init c = λ own k first last. absurd (omega arith)

pub loop-ahead-preserved : goal.loop-ahead-preserved
loop-ahead-preserved c =
    none_next (whole_of c.args.old.now) (whole_of c.args.new.now) c.args.chains c.args.passed c.loop-ahead.ahead c.loop-ahead.invariant
    (λ is. true≢false (sym (c.is_ahead.ensures.1 is) ∙ c.if-is_ahead.false)) (λ is. true≢false (sym (c.is_ahead-in-loop-ahead.ensures.1 is) ∙ c.if-is_ahead-2.false))

pub returns-then-is_ahead : goal.returns-then-is_ahead
returns-then-is_ahead c = (
  λ same. true≢false (sym (c.are_equal_at.ensures.1 same) ∙ c.if-are_equal_at.false),
  inl (record { steps = c.loop-ahead.ahead; first = omega arith; last = omega arith; ahead = c.is_ahead.ensures.0 c.if-is_ahead.true; before = c.loop-ahead.invariant }),
)

pub returns-then-is_ahead-2 : goal.returns-then-is_ahead-2
returns-then-is_ahead-2 c = (
  λ same. true≢false (sym (c.are_equal_at.ensures.1 same) ∙ c.if-are_equal_at.false),
  record { steps = c.loop-ahead.ahead; first = omega arith; last = omega arith; ahead = c.is_ahead-in-loop-ahead.ensures.0 c.if-is_ahead-2.true; before = c.loop-ahead.invariant },
)

pub returns : goal.returns
returns c = (
  λ same. true≢false (sym (c.are_equal_at.ensures.1 same) ∙ c.if-are_equal_at.false),
  inr (λ own k first last. c.loop-ahead.invariant own k first (omega arith)),
)
