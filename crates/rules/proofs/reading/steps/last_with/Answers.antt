use Rattle.std.proofs.Common.{arith}
use Rattle.std.proofs.lemmas.Grind.{common_steps}
use Rattle.rules.proofs.laws.reading.StepLaws.{last_with-more}
use Rattle.rules.proofs.reading.steps.last_with.Goals as goal

pub loop-i-preserved : goal.loop-i-preserved
loop-i-preserved c =
    let more = last_with-more c.args.option c.args.matches.now c.loop-i.i c.index-matches-i.result c.loop-i-test.true in
    record { value = grind (arith, common_steps, more); within = grind (arith, common_steps) }
