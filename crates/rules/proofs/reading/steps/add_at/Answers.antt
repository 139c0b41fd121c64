use Rattle.std.proofs.Common.{arith}
use Rattle.rules.proofs.laws.reading.StepLaws.{put_back}
use Rattle.rules.proofs.reading.steps.add_at.Goals as goal

pub returns : goal.returns
returns c =
    put_back c.args.matches.now.items c.args.i c.index_mut-one.result.now c.add.new.option_values _ c.add.result (omega arith) c.index_mut-one.ensures.value c.add.ensures.gives
