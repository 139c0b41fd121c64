use Rattle.std.proofs.Common.{◌≡◌, ◌+◌, ◌-◌, ◌++◌, ◌∙◌, ap, arith, length, rules, take, drop, vec_len, List, ℕ}
use Rattle.std.specs.List.{concat}
use Rattle.bits.proofs.laws.BlockPlaceLaws.{IsHeld, begins_are, held, held_read, run_to_shown}
use Rattle.bits.proofs.blocks.Blocks.run_to.Goals.{After-holder-block, After-run_to-2}
use Rattle.bits.proofs.blocks.Blocks.run_to.Goals as goal

pub holder-block-requires-clause-rising : goal.holder-block-requires-clause-rising
holder-block-requires-clause-rising c = begins_are c.self.inside.first _ _ c.self.inside.later.items c.deref.result.now c.self.invariant c.deref.ensures.value

inside : (c : After-holder-block) → IsHeld (length c.self.inside.first) c.self.inside.later.items c.args.k c.holder-block.result
inside c =
    held c.self.inside.first _ _ c.self.inside.later.items c.deref.result.now c.args.k c.holder-block.result c.self.invariant c.deref.ensures.value (omega (arith, c.requires, ap (λ (ns : List ℕ). length ns) c.self.view_is))
    c.holder-block.ensures.there c.holder-block.ensures.from c.holder-block.ensures.to

pub index-requires : goal.index-requires
index-requires c =
    let n : vec_len c.self.inside.later ≡ length c.self.inside.later.items = search rules in
    omega (arith, n, (inside (goal.at.index-requires c).After-holder-block).there)

pub run_to-requires-2 : goal.run_to-requires-2
run_to-requires-2 c =
    (held_read c.self.inside.first _ _ c.self.inside.later.items c.args.k c.holder-block.result c.index.result.now c.index-2.result.now c.self.invariant (inside (goal.at.run_to-requires-2 c).After-holder-block) c.index.ensures c.index-2.ensures).1

run_is : (c : After-run_to-2) → (c.index-2.result.now + length c.run_to-2.result.now ≡ c.args.k + 1) × (c.run_to-2.result.now ≡ drop (c.args.k + 1 - length c.run_to-2.result.now) (take (c.args.k + 1) (c.self.inside.first ++ concat c.self.inside.later.items)))
run_is c =
    run_to_shown c.self.inside.first _ _ c.self.inside.later.items c.args.k c.holder-block.result c.index.result.now c.index-2.result.now c.run_to-2.result.now c.self.invariant (inside (goal.at.returns-clause-part c).After-holder-block) c.index.ensures c.index-2.ensures c.run_to-2.ensures

pub returns-clause-some : goal.returns-clause-some
returns-clause-some c = omega (arith, held_read c.self.inside.first _ _ c.self.inside.later.items c.args.k c.holder-block.result c.index.result.now c.index-2.result.now c.self.invariant (inside (goal.at.returns-clause-some c).After-holder-block) c.index.ensures c.index-2.ensures, run_is c)

pub returns-clause-within : goal.returns-clause-within
returns-clause-within c = omega (arith, run_is c)

pub returns-clause-part : goal.returns-clause-part
returns-clause-part c =
    (run_is c).1 ∙ ap (λ (ns : List ℕ). drop (c.args.k + 1 - length c.run_to-2.result.now) (take (c.args.k + 1) ns)) c.self.view_is
