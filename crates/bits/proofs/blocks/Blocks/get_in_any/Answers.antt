use Rattle.std.proofs.Common.{◌≡◌, ap, arith, length, rules, vec_len, get_or, List, ℕ}
use Rattle.bits.proofs.laws.BlockPlaceLaws.{IsHeld, begins_are, held, held_read}
use Rattle.bits.proofs.blocks.Blocks.get_in_any.Goals.{After-holder-block}
use Rattle.bits.proofs.blocks.Blocks.get_in_any.Goals as goal

pub holder-block-requires-clause-rising : goal.holder-block-requires-clause-rising
holder-block-requires-clause-rising c = begins_are c.self.inside.first _ _ c.self.inside.later.items c.deref.result.now c.self.invariant c.deref.ensures.value

inside : (c : After-holder-block) → IsHeld (length c.self.inside.first) c.self.inside.later.items c.args.k c.holder-block.result
inside c =
    held c.self.inside.first _ _ c.self.inside.later.items c.deref.result.now c.args.k c.holder-block.result c.self.invariant c.deref.ensures.value (omega (arith, c.requires, ap (λ (ns : List ℕ). length ns) c.self.view_is))
    c.holder-block.ensures.there c.holder-block.ensures.from c.holder-block.ensures.to

pub index-requires : goal.index-requires
index-requires c =
    let n : vec_len c.self.inside.later ≡ length c.self.inside.later.items = search rules in
    omega (arith, n, (inside (goal.at.index-requires c).After-holder-block).there)

pub get-requires-2 : goal.get-requires-2
get-requires-2 c =
    (held_read c.self.inside.first _ _ c.self.inside.later.items c.args.k c.holder-block.result c.index.result.now c.index-2.result.now c.self.invariant (inside (goal.at.get-requires-2 c).After-holder-block) c.index.ensures c.index-2.ensures).1

pub returns : goal.returns
returns c =
    let h = held_read c.self.inside.first _ _ c.self.inside.later.items c.args.k c.holder-block.result c.index.result.now c.index-2.result.now c.self.invariant (inside (goal.at.returns c).After-holder-block) c.index.ensures c.index-2.ensures in
    omega (arith, c.get-2.ensures, h.2, ap (λ (ns : List ℕ). get_or ns c.args.k 0) c.self.view_is)
