use Rattle.std.proofs.Common.{◌≡◌, ◌<◌, ◌+◌, ◌-◌, arith, ap, sym, subst, length, rules, vec_len, List, ℕ, get_or, [], length-append}
use Rattle.std.specs.List.{concat}
use Rattle.std.proofs.lemmas.List.{get_or_read}
use Rattle.bits.specs.steps.Blocks.{AreAround}
use Rattle.bits.proofs.laws.BlockPlaceLaws.{Rise, as_many, block_rises, first_rises, found_first, found_later, heads_rise}
use Rattle.bits.proofs.blocks.Blocks.count_in_all.Goals as goal

pub count_to-block-requires : goal.count_to-block-requires
count_to-block-requires c =
    heads_rise c.self.inside.first _ _ c.self.inside.later.items c.deref.result.now c.self.invariant c.deref.ensures.value (subst Rise (sym c.self.view_is) c.requires)

pub count_to-requires : goal.count_to-requires
count_to-requires c = first_rises c.self.inside.first c.self.inside.later.items (subst Rise (sym c.self.view_is) c.requires)

pub returns-then-block-eq0-clause-high : goal.returns-then-block-eq0-clause-high
returns-then-block-eq0-clause-high c =
    let P : ℕ → Type 0 = λ n. AreAround c.args.x n n c.deref.result.now in
    let Q : List ℕ → Type 0 = λ ns. AreAround c.args.x c.count_to.result c.count_to.result ns in
    let around = found_first c.self.inside.first _ _ c.self.inside.later.items c.args.x c.count_to.result c.deref.result.now c.self.invariant c.deref.ensures.value (subst Rise (sym c.self.view_is) c.requires)
    (subst P (omega (arith, c.if-block-eq0.true)) c.count_to-block.ensures) c.count_to.ensures in
    (subst Q c.self.view_is around).above

pub index-requires : goal.index-requires
index-requires c =
    let n : vec_len c.self.inside.begins ≡ length c.self.inside.begins.items = search rules in
    let many = as_many _ _ _ _ c.self.invariant in
    omega (arith, n, many.0, many.1, ap (λ (ns : List ℕ). length ns) c.deref.ensures.value, c.count_to-block.ensures.within, c.if-block-eq0.false)

block_is : (c : goal.After-index-2) → (c.count_to-block.result - 1 < length c.self.inside.later.items) × (c.index-2.result.now ≡ get_or c.self.inside.later.items (c.count_to-block.result - 1) [])
block_is c =
    let many = as_many _ _ _ _ c.self.invariant in
    let lt : c.count_to-block.result - 1 < length c.self.inside.later.items = omega (arith, many.0, ap (λ (ns : List ℕ). length ns) c.deref.ensures.value, c.count_to-block.ensures.within, c.if-block-eq0.false) in
    (lt, get_or_read c.self.inside.later.items (c.count_to-block.result - 1) c.index-2.result.now lt c.index-2.ensures [])

pub count_to-requires-2 : goal.count_to-requires-2
count_to-requires-2 c =
    let block = block_is c in
    subst Rise (sym block.1) (block_rises c.self.inside.first c.self.inside.later.items (c.count_to-block.result - 1) block.0 (subst Rise (sym c.self.view_is) c.requires))

found : (c : goal.After-count_to-2) → AreAround c.args.x (c.index.result.now + c.count_to-2.result) (c.index.result.now + c.count_to-2.result) c.args.self.now
found c =
    let P : ℕ → Type 0 = λ n. AreAround c.args.x n n c.deref.result.now in
    let Q : List ℕ → Type 0 = λ ns. AreAround c.args.x (c.index.result.now + c.count_to-2.result) (c.index.result.now + c.count_to-2.result) ns in
    let e : c.count_to-block.result ≡ c.count_to-block.result - 1 + 1 = omega (arith, c.if-block-eq0.false) in
    subst Q c.self.view_is
    (found_later c.self.inside.first _ _ c.self.inside.later.items c.args.x (c.count_to-block.result - 1) c.count_to-2.result c.deref.result.now c.index-2.result.now c.index.result.now c.self.invariant c.deref.ensures.value
    (subst Rise (sym c.self.view_is) c.requires) (subst P e c.count_to-block.ensures) c.index-2.ensures c.index.ensures c.count_to-2.ensures)

pub overflow_add-result : goal.overflow_add-result
overflow_add-result c =
    let n = found c in
    omega (arith, n.within, c.self.invariant.few, length-append c.self.inside.first (concat c.self.inside.later.items), ap (λ (ns : List ℕ). length ns) c.self.view_is)

pub returns-clause-bound : goal.returns-clause-bound
returns-clause-bound c = (found c).within

pub returns-clause-low : goal.returns-clause-low
returns-clause-low c = (found c).below

pub returns-clause-high : goal.returns-clause-high
returns-clause-high c = (found c).above
