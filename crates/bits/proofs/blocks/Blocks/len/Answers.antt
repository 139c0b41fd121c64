use Rattle.std.proofs.Common.{◌≡◌, ◌+◌, ◌-◌, ap, arith, length, length-append, rules, vec_len, List, ℕ}
use Rattle.std.specs.List.{concat}
use Rattle.bits.proofs.laws.BlockPlaceLaws.{as_many, last_ends}
use Rattle.bits.proofs.blocks.Blocks.len.Goals as goal

pub index-requires : goal.index-requires
index-requires c =
    let n : vec_len c.self.inside.begins ≡ length c.self.inside.begins.items = search rules in
    let m : vec_len c.self.inside.later ≡ length c.self.inside.later.items = search rules in
    omega (arith, n, m, (as_many _ _ _ _ c.self.invariant).1, c.len-count.ensures, c.if-count-eq0.false)

ends : (c : goal.After-len-2) → c.index.result.now + c.len-2.result ≡ length c.args.self.now
ends c =
    let m : vec_len c.self.inside.later ≡ length c.self.inside.later.items = search rules in
    let last : c.len-count.result - 1 + 1 ≡ length c.self.inside.later.items = omega (arith, m, c.len-count.ensures, c.if-count-eq0.false) in
    omega (arith, last_ends c.self.inside.first _ _ c.self.inside.later.items (c.len-count.result - 1) c.index-2.result.now c.index.result.now c.self.invariant last c.index-2.ensures c.index.ensures, c.len-2.ensures, ap (λ (ns : List ℕ). length ns) c.self.view_is)

pub overflow_add-result : goal.overflow_add-result
overflow_add-result c = omega (arith, ends c, c.self.invariant.few, length-append c.self.inside.first (concat c.self.inside.later.items), ap (λ (ns : List ℕ). length ns) c.self.view_is)

pub returns : goal.returns
returns c = ends c
