use Rattle.std.proofs.Common.{arith, refl, ◌∙◌}
use Rattle.classify.specs.steps.Edits.{with_written}
use Rattle.classify.proofs.laws.line.JoinLaws.{working_first, working_step, working_done}
use Rattle.classify.proofs.laws.line.KeptLaws.{some_piece}
use Rattle.classify.proofs.line.edit.set_answers.Goals as goal

pub loop-k-init : goal.loop-k-init
loop-k-init c = record { working = working_first (with_written c.args.at c.args.spans.now.intervals) c.args.at c.args.line.now.pieces _ _ (omega arith); long = refl; room = refl }

pub write_in-bit-requires-clause-within : goal.write_in-bit-requires-clause-within
write_in-bit-requires-clause-within c = omega (arith, c.loop-k.invariant.working.place)

pub write_in-bit-requires-clause-place : goal.write_in-bit-requires-clause-place
write_in-bit-requires-clause-place c = omega (arith, c.loop-k.invariant.long, c.requires.place)

pub loop-k-preserved : goal.loop-k-preserved
loop-k-preserved c = record {
  working = working_step (with_written c.args.at c.args.spans.now.intervals) c.args.at c.args.line.now.pieces c.loop-k.line.pieces c.write_in-bit.new.line.pieces c.join.new.line.pieces c.loop-k.k c.loop-k.above c.write_in-bit.result (some_piece c.args.line.now) c.requires.keeps_apart
      c.loop-k.invariant.working c.loop-k-test.true c.write_in-bit.ensures.row c.write_in-bit.ensures.bit c.join.ensures.joined;
  long = c.join.ensures.long ∙ c.write_in-bit.ensures.long ∙ c.loop-k.invariant.long;
  room = c.join.ensures.room ∙ c.write_in-bit.ensures.room ∙ c.loop-k.invariant.room;
}

pub returns-clause-merge : goal.returns-clause-merge
returns-clause-merge c top r = working_done (with_written c.args.at c.args.spans.now.intervals) c.args.at c.args.line.now.pieces c.loop-k.line.pieces c.loop-k.k c.loop-k.above (some_piece c.args.line.now) c.loop-k.invariant.working (omega arith) top r
