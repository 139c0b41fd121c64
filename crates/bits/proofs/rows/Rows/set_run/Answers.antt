use Rattle.std.proofs.Common.{◌≡◌, ◌∙◌, arith, refl, subst, ℕ}
use Rattle.bits.specs.Rows.{IsRunWritten}
use Rattle.bits.proofs.laws.RunLaws.{writing_first, run_joined, run_reaches}
use Rattle.bits.proofs.rows.Rows.set_run.Goals as goal

pub loop-next-init : goal.loop-next-init
loop-next-init c = record { written = writing_first c.args.at c.args.bit c.args.from c.args.self.now.rows; begun = omega arith; ended = c.requires.order; room = refl }

pub set_part-next-requires-clause-within : goal.set_part-next-requires-clause-within
set_part-next-requires-clause-within c = omega (arith, c.requires.within, c.loop-next.invariant.written.as_long)

pub set_part-next-requires-clause-place : goal.set_part-next-requires-clause-place
set_part-next-requires-clause-place c = run_reaches _ _ _ _ c.args.at _ _ c.loop-next.invariant.written c.requires.place

pub loop-next-preserved : goal.loop-next-preserved
loop-next-preserved c = record {
  written = run_joined _ _ _ _ _ _ _ _ c.loop-next.invariant.written c.set_part-next.ensures.rows c.loop-next.invariant.begun (omega (arith, c.set_part-next.ensures.more));
  begun = omega (arith, c.loop-next.invariant.begun, c.set_part-next.ensures.more);
  ended = c.set_part-next.ensures.end;
  room = c.set_part-next.ensures.room ∙ c.loop-next.invariant.room;
}

pub returns-clause-rows : goal.returns-clause-rows
returns-clause-rows c =
    let done : c.loop-next.next ≡ c.args.to = omega (arith, c.loop-next-test.false, c.loop-next.invariant.ended) in
    let P : ℕ → Type 0 = λ end. IsRunWritten c.args.at c.args.bit c.args.from end c.args.self.now.rows c.loop-next.self.rows in
    subst P done c.loop-next.invariant.written
