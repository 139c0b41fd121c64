use Rattle.std.proofs.Common.{◌≡◌, ◌-◌, ◌∙◌, ap, arith, length, length-drop, rules, take, drop, vec_len, List, ℕ}
use Rattle.bits.proofs.laws.BlockPlaceLaws.{IsHeld, begins_are, held, held_read, run_shown}
use Rattle.bits.proofs.blocks.Blocks.run.Goals.{After-holder-block}
use Rattle.bits.proofs.blocks.Blocks.run.Goals as goal

pub holder-block-requires-clause-rising : goal.holder-block-requires-clause-rising
holder-block-requires-clause-rising c = begins_are c.self.inside.first _ _ c.self.inside.later.items c.deref.result.now c.self.invariant c.deref.ensures.value

inside : (c : After-holder-block) → IsHeld (length c.self.inside.first) c.self.inside.later.items c.args.k c.holder-block.result
inside c =
    held c.self.inside.first _ _ c.self.inside.later.items c.deref.result.now c.args.k c.holder-block.result c.self.invariant c.deref.ensures.value (omega (arith, c.requires, ap (λ (ns : List ℕ). length ns) c.self.view_is))
    c.holder-block.ensures.there c.holder-block.ensures.from c.holder-block.ensures.to

pub index-requires : goal.index-requires
index-requires c =
    let n : vec_len c.self.inside.later ≡ length c.self.inside.later.items = search rules in
    omega (arith, n, (inside (goal.at.index-requires c).After-holder-block).there)

pub run-requires-2 : goal.run-requires-2
run-requires-2 c =
    (held_read c.self.inside.first _ _ c.self.inside.later.items c.args.k c.holder-block.result c.index.result.now c.index-2.result.now c.self.invariant (inside (goal.at.run-requires-2 c).After-holder-block) c.index.ensures c.index-2.ensures).1

pub returns-clause-some : goal.returns-clause-some
returns-clause-some c =
    let h = held_read c.self.inside.first _ _ c.self.inside.later.items c.args.k c.holder-block.result c.index.result.now c.index-2.result.now c.self.invariant (inside (goal.at.returns-clause-some c).After-holder-block) c.index.ensures c.index-2.ensures in
    omega (arith, h.1, ap (λ (ns : List ℕ). length ns) c.run-2.ensures, length-drop (c.args.k - c.index-2.result.now) c.index.result.now)

pub returns-clause-part : goal.returns-clause-part
returns-clause-part c =
    run_shown c.self.inside.first _ _ c.self.inside.later.items c.args.k c.holder-block.result c.index.result.now c.index-2.result.now c.run-2.result.now c.self.invariant (inside (goal.at.returns-clause-part c).After-holder-block) c.index.ensures c.index-2.ensures c.run-2.ensures
    ∙ ap (λ (ns : List ℕ). take (length c.run-2.result.now) (drop c.args.k ns)) c.self.view_is
