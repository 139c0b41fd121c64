use Rattle.std.proofs.Common.{arith, refl, ◌∙◌}
use Rattle.classify.proofs.laws.line.DropLaws.{dropping_first, dropping_run, dropping_next, dropping_done}
use Rattle.classify.proofs.laws.line.KeepApartLaws.{apart_without}
use Rattle.classify.proofs.laws.line.KeptLaws.{some_piece}
use Rattle.classify.proofs.line.edit.drop_cuts.Goals as goal

pub loop-k-init : goal.loop-k-init
loop-k-init c = record {
  dropping = dropping_run c.args.at c.args.line.now.pieces c.args.line.now.pieces _ _ c.run_start-k.ensures.within (apart_without c.args.at c.args.line.now c.requires.differ c.requires.place)
      (dropping_first c.args.at c.args.line.now.pieces _ (some_piece c.args.line.now) (omega (arith, c.len-last.ensures))) c.run_start-k.ensures.alike;
  long = refl;
  room = refl;
}

pub loop-k-preserved : goal.loop-k-preserved
loop-k-preserved c = record {
  dropping = dropping_run c.args.at c.args.line.now.pieces c.join_beside.new.line.pieces _ _ c.run_start-k-in-loop-k.ensures.within (apart_without c.args.at c.args.line.now c.requires.differ c.requires.place)
      (dropping_next c.args.at c.args.line.now.pieces c.loop-k.line.pieces c.join_beside.new.line.pieces c.loop-k.k c.loop-k.invariant.dropping c.loop-k-test.true c.join_beside.ensures.joined) c.run_start-k-in-loop-k.ensures.alike;
  long = c.join_beside.ensures.long ∙ c.loop-k.invariant.long;
  room = c.join_beside.ensures.room ∙ c.loop-k.invariant.room;
}

pub returns-clause-merge : goal.returns-clause-merge
returns-clause-merge c = dropping_done c.args.at c.args.line.now.pieces c.loop-k.line.pieces c.loop-k.k c.loop-k.invariant.dropping (omega (arith, c.loop-k-test.false))
