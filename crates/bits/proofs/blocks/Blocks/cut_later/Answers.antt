use Rattle.std.proofs.Common.{◌≡◌, ◌<◌, ◌+◌, ◌∙◌, ◌++◌, ap, arith, get_or, length, length-append, drop, take, set, suc, rules, refl, vec_len, vec_capacity, insert, [], List, ℕ}
use Rattle.std.specs.List.{concat}
use Rattle.std.proofs.lemmas.List.{get_or_read, length-drop}
use Rattle.bits.specs.steps.Blocks.{head_of}
use Rattle.bits.proofs.laws.HeldLaws.{on_ok}
use Rattle.bits.proofs.laws.BlockLaws.{before, concat_cut}
use Rattle.bits.proofs.laws.BlockPlaceLaws.{as_many, begin_is, within_all}
use Rattle.bits.proofs.laws.BlockEditLaws.{cut_later_kept, kept_as, put_in_room, read_again, same_insert}
use Rattle.bits.proofs.blocks.Blocks.cut_later.Goals.{After-index, After-len-else-k-len, In_ok-block, After-truncate, After-index-3, After-insert}
use Rattle.bits.proofs.blocks.Blocks.cut_later.Goals as goal

-- the block is there
there : (c : After-index) → c.args.k < length c.self.inside.later.items
there c = let n : vec_len c.self.inside.later ≡ length c.self.inside.later.items = search rules in omega (arith, n, c.len.ensures, c.if-k-len.false)

-- and has more numbers than go into its first half
long : (c : After-len-else-k-len) → c.args.k < length c.self.inside.later.items → c.args.most < c.len-else-k-len.result → 128 < length (get_or c.self.inside.later.items c.args.k [])
long c lt more =
    omega (arith, c.requires, more, c.len-else-k-len.ensures, ap (λ (ns : List ℕ). length ns) (get_or_read c.self.inside.later.items c.args.k c.index.result.now lt c.index.ensures []))

high : (c : In_ok-block) → c.args.k < length c.self.inside.later.items → c.in_ok-block.block ≡ drop 128 (get_or c.self.inside.later.items c.args.k [])
high c lt = c.in_ok-block.ensures ∙ ap (λ (ns : List ℕ). drop 128 ns) (read_again c.reserve-3.new.self.items c.self.inside.later.items c.args.k c.index-2.result.now c.in_ok-reserve-3.ensures.items lt c.index-2.ensures)

low : (c : After-truncate) → c.args.k < length c.self.inside.later.items → c.truncate.new.self ≡ take 128 (get_or c.self.inside.later.items c.args.k [])
low c lt = c.truncate.ensures ∙ ap (λ (ns : List ℕ). take 128 ns) (read_again c.reserve-3.new.self.items c.self.inside.later.items c.args.k c.index_mut-low.result.now c.in_ok-reserve-3.ensures.items lt c.index_mut-low.ensures.value)

begin : (c : After-index-3) → c.args.k < length c.self.inside.later.items → c.index-3.result.now ≡ length c.self.inside.first + before c.self.inside.later.items c.args.k
begin c lt =
    begin_is c.self.inside.first _ _ c.self.inside.later.items c.args.k c.index-3.result.now c.self.invariant lt (c.index-3.ensures ∙ ap (λ (ns : List ℕ). get_or ns c.args.k c.index-3.result.now) c.in_ok-reserve-2.ensures.items)

pub index-requires-3 : goal.index-requires-3
index-requires-3 c =
    let m : vec_len c.reserve-2.new.self ≡ length c.reserve-2.new.self.items = search rules in
    omega (arith, m, there (goal.at.index-requires-3 c).After-index, ap (λ (ns : List ℕ). length ns) c.in_ok-reserve-2.ensures.items, (as_many _ _ _ _ c.self.invariant).1)

pub overflow_add-begin : goal.overflow_add-begin
overflow_add-begin c =
    let at = goal.at.overflow_add-begin c in
    let lt = there at.After-index in
    omega (arith, begin at.After-index-3 lt, long at.After-len-else-k-len lt c.if-len-most.false, within_all c.self.inside.first c.self.inside.later.items c.args.k lt, c.self.invariant.few, length-append c.self.inside.first (concat c.self.inside.later.items))

pub get-requires : goal.get-requires
get-requires c =
    let at = goal.at.get-requires c in
    let lt = there at.After-index in
    omega (arith, long at.After-len-else-k-len lt c.if-len-most.false, length-drop 128 (get_or c.self.inside.later.items c.args.k []), ap (λ (ns : List ℕ). length ns) (high at.In_ok-block lt))

pub insert_at-requires-2 : goal.insert_at-requires-2
insert_at-requires-2 c = omega (arith, there (goal.at.insert_at-requires-2 c).After-index, ap (λ (ns : List ℕ). length ns) c.in_ok-reserve-2.ensures.items, (as_many _ _ _ _ c.self.invariant).1)

-- the later blocks then
later : (c : After-insert) → c.truncate.new.self ≡ take 128 (get_or c.self.inside.later.items c.args.k []) → c.in_ok-block.block ≡ drop 128 (get_or c.self.inside.later.items c.args.k [])
    → c.insert.new.self.items ≡ insert (set c.self.inside.later.items c.args.k (take 128 (get_or c.self.inside.later.items c.args.k []))) (suc c.args.k) (drop 128 (get_or c.self.inside.later.items c.args.k []))
later c one other =
    put_in_room c.insert.result _ _ _ c.insert.ensures.items (c.insert.ensures.succeeds (omega (arith, c.in_ok-reserve-3.ensures.ok)))
    ∙ same_insert _ _ (c.args.k + 1) (suc c.args.k) _ _
    (ap (λ (bs : List (List ℕ)). set bs c.args.k c.truncate.new.self) c.in_ok-reserve-3.ensures.items ∙ ap (λ (b : List ℕ). set c.self.inside.later.items c.args.k b) one)
    (omega arith) other

pub invariant_of-self-2 : goal.invariant_of-self-2
invariant_of-self-2 c =
    let at = goal.at.invariant_of-self-2 c in
    let lt = there at.After-index in
    let free_heads : length c.reserve.new.self.items < vec_capacity c.reserve.new.self = let n : vec_len c.reserve.new.self ≡ length c.reserve.new.self.items = search rules in omega (arith, n, c.in_ok-reserve.ensures.ok) in
    let free_begins : length c.reserve-2.new.self.items < vec_capacity c.reserve-2.new.self = let n : vec_len c.reserve-2.new.self ≡ length c.reserve-2.new.self.items = search rules in omega (arith, n, c.in_ok-reserve-2.ensures.ok) in
    kept_as _ _ _ _ _ _ _ _ refl
    (on_ok c.insert_at.result c.insert_at.ensures.ok (c.insert_at.ensures.there free_heads) ∙ same_insert _ _ (c.args.k + 1) (suc c.args.k) _ _ c.in_ok-reserve.ensures.items (omega arith) (c.get.ensures ∙ ap head_of (high at.In_ok-block lt)))
    (on_ok c.insert_at-2.result c.insert_at-2.ensures.ok (c.insert_at-2.ensures.there free_begins) ∙ same_insert _ _ (c.args.k + 1) (suc c.args.k) _ _ c.in_ok-reserve-2.ensures.items (omega arith) (ap (λ n. n + 128) (begin at.After-index-3 lt)))
    (later at.After-insert (low at.After-truncate lt) (high at.In_ok-block lt)) (cut_later_kept c.self.inside.first c.self.inside.heads.items c.self.inside.begins.items c.self.inside.later.items c.args.k 128 c.self.invariant lt (omega arith) (long at.After-len-else-k-len lt c.if-len-most.false))

pub returns : goal.returns
returns c =
    let at = goal.at.returns c in
    let lt = there at.After-index in
    ap (λ (bs : List (List ℕ)). c.self.inside.first ++ concat bs) (later at.After-insert (low at.After-truncate lt) (high at.In_ok-block lt))
    ∙ ap (λ (ns : List ℕ). c.self.inside.first ++ ns) (concat_cut c.self.inside.later.items c.args.k 128 lt) ∙ c.self.view_is
