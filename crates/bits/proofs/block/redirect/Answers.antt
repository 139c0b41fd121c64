use Rattle.std.proofs.Common.{◌∙◌, ap, arith, length-set, get_or, set}
use Rattle.std.proofs.lemmas.List.{get_or_default}
use Rattle.std.proofs.lemmas.List.Edits.{map_over_more}
use Rattle.bits.specs.steps.Held.{redirected}
use Rattle.bits.proofs.block.redirect.Goals as goal

pub loop-k-preserved : goal.loop-k-preserved
loop-k-preserved c =
    let slot = get_or c.loop-k.numbers c.loop-k.k 0 in (
      length-set c.loop-k.numbers c.loop-k.k c.redirected.result ∙ c.loop-k.invariant.0,
      ap (λ s. set c.loop-k.numbers c.loop-k.k s) c.redirected.ensures
          ∙ map_over_more (redirected c.args.from c.args.to) c.args.numbers.now c.loop-k.numbers c.loop-k.k slot c.loop-k-test.true c.loop-k.invariant.1
          (get_or_default c.loop-k.numbers c.loop-k.k 0 slot (omega (arith, c.loop-k-test.true, c.loop-k.invariant.0))),
    )
