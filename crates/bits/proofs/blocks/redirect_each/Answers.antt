use Rattle.std.proofs.Common.{◌∙◌, ap, arith, length-set, get_or, map, set, List, ℕ}
use Rattle.std.proofs.lemmas.List.{get_or_default}
use Rattle.std.proofs.lemmas.List.Edits.{map_over_more}
use Rattle.bits.specs.steps.Held.{redirected}
use Rattle.bits.proofs.blocks.redirect_each.Goals as goal

pub loop-k-preserved : goal.loop-k-preserved
loop-k-preserved c =
    let block : List ℕ = get_or c.loop-k.blocks c.loop-k.k c.index-blocks-k.result in (
      length-set c.loop-k.blocks c.loop-k.k c.redirect.new.self ∙ c.loop-k.invariant.0,
      ap (λ (b : List ℕ). set c.loop-k.blocks c.loop-k.k b) c.redirect.ensures
          ∙ map_over_more (map (redirected c.args.from c.args.to)) c.args.blocks.now c.loop-k.blocks c.loop-k.k block c.loop-k-test.true c.loop-k.invariant.1
          (get_or_default c.loop-k.blocks c.loop-k.k c.index-blocks-k.result block (omega (arith, c.loop-k-test.true, c.loop-k.invariant.0))),
    )
