use Rattle.std.proofs.Common.{◌≡◌, ◌<◌, ◌≤◌, ◌+◌, ◌-◌, ◌++◌, ◌∙◌, ap, arith, get_or, length, refl, remove, rules, set, vec_len, List, ℕ}
use Rattle.std.specs.List.{concat}
use Rattle.bits.specs.steps.Blocks.{head_of}
use Rattle.bits.proofs.laws.BlockPlaceLaws.{IsHeld, as_many, begins_are, held, held_read}
use Rattle.bits.proofs.laws.BlockEditLaws.{IsTaken, begins_after, begins_after_first, emptied_kept, emptied_shown, kept_as, rewritten, take_first_kept, taken_kept, taken_shown, written_read}
use Rattle.bits.proofs.blocks.Blocks.remove.Goals.{After-holder-block, After-index_mut-held, After-remove-x, After-index-2, After-len-2}
use Rattle.bits.proofs.blocks.Blocks.remove.Goals as goal

pub fewer_from-requires : goal.fewer_from-requires
fewer_from-requires c = λ k ge lt.
    begins_after_first c.self.inside.first _ _ c.self.inside.later.items c.as_mut_slice.result.now k c.self.invariant c.as_mut_slice.ensures.value (omega (arith, c.len.ensures, c.if-k-len.true)) lt

pub invariant_of-self : goal.invariant_of-self
invariant_of-self c =
    kept_as _ c.self.inside.heads.items _ _ _ _ c.self.inside.later.items _ c.remove.ensures.numbers refl
    (rewritten (λ (n : ℕ). n - 1) c.self.inside.begins.len 0 c.fewer_from.new.numbers c.as_mut_slice.result.now c.self.inside.begins.items (c.fewer_from.auto.numbers ∙ c.as_mut_slice.ensures.len) c.fewer_from.ensures c.as_mut_slice.ensures.value)
    refl (take_first_kept c.self.inside.first _ _ _ c.args.k c.self.invariant (omega (arith, c.len.ensures, c.if-k-len.true)))

pub holder-block-requires-clause-rising : goal.holder-block-requires-clause-rising
holder-block-requires-clause-rising c = begins_are c.self.inside.first _ _ c.self.inside.later.items c.deref.result.now c.self.invariant c.deref.ensures.value

pub fewer_from-requires-2 : goal.fewer_from-requires-2
fewer_from-requires-2 c = λ k ge lt.
    begins_after c.self.inside.first _ _ c.self.inside.later.items c.as_mut_slice-2.result.now c.holder-block.result k c.self.invariant c.as_mut_slice-2.ensures.value ge lt

inside : (c : After-holder-block) → IsHeld (length c.self.inside.first) c.self.inside.later.items c.args.k c.holder-block.result
inside c =
    held c.self.inside.first _ _ c.self.inside.later.items c.deref.result.now c.args.k c.holder-block.result c.self.invariant c.deref.ensures.value (omega (arith, c.requires, ap (λ (ns : List ℕ). length ns) c.self.view_is))
    c.holder-block.ensures.there c.holder-block.ensures.from c.holder-block.ensures.to

-- the block and where it begins, as they are read
read : (c : After-index_mut-held) → IsHeld (length c.self.inside.first) c.self.inside.later.items c.args.k c.holder-block.result
    → (c.index.result.now ≤ c.args.k) × (c.args.k - c.index.result.now < length c.index_mut-held.result.now) × (get_or (c.self.inside.first ++ concat c.self.inside.later.items) c.args.k 0 ≡ get_or c.index_mut-held.result.now (c.args.k - c.index.result.now) 0)
read c within = held_read c.self.inside.first _ _ c.self.inside.later.items c.args.k c.holder-block.result c.index_mut-held.result.now c.index.result.now c.self.invariant within c.index_mut-held.ensures.value c.index.ensures

taken : (c : After-remove-x) → IsHeld (length c.self.inside.first) c.self.inside.later.items c.args.k c.holder-block.result
    → IsTaken c.self.inside.first c.self.inside.heads.items c.self.inside.begins.items c.self.inside.later.items c.args.k c.holder-block.result c.index.result.now c.index_mut-held.result.now c.remove-x.new.self
taken c within = record {
  kept = c.self.invariant;
  inside = within;
  block = c.index_mut-held.ensures.value;
  begin = c.index.ensures;
  taken = c.remove-x.ensures.numbers;
}

-- what is left of the block, as it is read again
left : (c : After-index-2) → IsHeld (length c.self.inside.first) c.self.inside.later.items c.args.k c.holder-block.result → c.index-2.result.now ≡ c.remove-x.new.self
left c within = written_read c.self.inside.later.items c.holder-block.result c.remove-x.new.self c.index-2.result.now within.there c.index-2.ensures

none : (c : After-len-2) → c.len-2.result ≤ 0 → c.index-2.result.now ≡ c.remove-x.new.self → length c.remove-x.new.self ≡ 0
none c few same = omega (arith, few, c.len-2.ensures, ap (λ (ns : List ℕ). length ns) same)

pub index_mut-held-requires : goal.index_mut-held-requires
index_mut-held-requires c =
    let n : vec_len c.self.inside.later ≡ length c.self.inside.later.items = search rules in
    omega (arith, n, (inside (goal.at.index_mut-held-requires c).After-holder-block).there)

pub remove-x-requires : goal.remove-x-requires
remove-x-requires c =
    (read (goal.at.remove-x-requires c).After-index_mut-held (inside (goal.at.remove-x-requires c).After-holder-block)).1

pub index-requires-2 : goal.index-requires-2
index-requires-2 c =
    let n : vec_len c.self.inside.later ≡ length c.self.inside.later.items = search rules in
    omega (arith, n, (inside (goal.at.index-requires-2 c).After-holder-block).there)

pub index-requires-then-len-gt0 : goal.index-requires-then-len-gt0
index-requires-then-len-gt0 c =
    let n : vec_len c.self.inside.later ≡ length c.self.inside.later.items = search rules in
    omega (arith, n, (inside (goal.at.index-requires-then-len-gt0 c).After-holder-block).there)

pub get-requires : goal.get-requires
get-requires c =
    omega (arith, c.if-len-gt0.true, c.len-2.ensures, ap (λ (ns : List ℕ). length ns) (left (goal.at.get-requires c).After-index-2 (inside (goal.at.get-requires c).After-holder-block)), ap (λ (ns : List ℕ). length ns) (written_read c.self.inside.later.items c.holder-block.result c.remove-x.new.self c.index-then-len-gt0.result.now (inside (goal.at.get-requires c).After-holder-block).there c.index-then-len-gt0.ensures))

pub index_mut-requires : goal.index_mut-requires
index_mut-requires c =
    let n : vec_len c.self.inside.heads ≡ length c.self.inside.heads.items = search rules in
    omega (arith, n, (inside (goal.at.index_mut-requires c).After-holder-block).there, (as_many _ _ _ _ c.self.invariant).0)

pub invariant_of-self-then-len-gt0 : goal.invariant_of-self-then-len-gt0
invariant_of-self-then-len-gt0 c =
    let some : 0 < length c.remove-x.new.self = omega (arith, c.if-len-gt0.true, c.len-2.ensures, ap (λ (ns : List ℕ). length ns) (left (goal.at.invariant_of-self-then-len-gt0 c).After-index-2 (inside (goal.at.invariant_of-self-then-len-gt0 c).After-holder-block))) in
    kept_as _ _ _ _ _ _ _ _ refl (ap (λ n. set c.self.inside.heads.items c.holder-block.result n) (c.get.ensures ∙ ap head_of (written_read c.self.inside.later.items c.holder-block.result c.remove-x.new.self c.index-then-len-gt0.result.now (inside (goal.at.invariant_of-self-then-len-gt0 c).After-holder-block).there c.index-then-len-gt0.ensures)))
    (rewritten (λ (n : ℕ). n - 1) c.self.inside.begins.len (c.holder-block.result + 1) c.fewer_from-2.new.numbers c.as_mut_slice-2.result.now c.self.inside.begins.items (c.fewer_from-2.auto.numbers ∙ c.as_mut_slice-2.ensures.len) c.fewer_from-2.ensures c.as_mut_slice-2.ensures.value)
    refl (taken_kept _ _ _ _ _ _ _ _ _ (taken (goal.at.invariant_of-self-then-len-gt0 c).After-remove-x (inside (goal.at.invariant_of-self-then-len-gt0 c).After-holder-block)) some)

pub returns-then-len-gt0-clause-value : goal.returns-then-len-gt0-clause-value
returns-then-len-gt0-clause-value c =
    omega (arith, c.remove-x.ensures.value, (read (goal.at.returns-then-len-gt0-clause-value c).After-index_mut-held (inside (goal.at.returns-then-len-gt0-clause-value c).After-holder-block)).2, ap (λ (ns : List ℕ). get_or ns c.args.k 0) c.self.view_is)

pub returns-then-len-gt0-clause-numbers : goal.returns-then-len-gt0-clause-numbers
returns-then-len-gt0-clause-numbers c =
    taken_shown _ _ _ _ _ _ _ _ _ (taken (goal.at.returns-then-len-gt0-clause-numbers c).After-remove-x (inside (goal.at.returns-then-len-gt0-clause-numbers c).After-holder-block)) ∙ ap (λ (ns : List ℕ). remove ns c.args.k) c.self.view_is

pub remove-requires-2 : goal.remove-requires-2
remove-requires-2 c =
    let n : vec_len c.self.inside.heads ≡ length c.self.inside.heads.items = search rules in
    omega (arith, n, (inside (goal.at.remove-requires-2 c).After-holder-block).there, (as_many _ _ _ _ c.self.invariant).0)

pub invariant_of-self-2 : goal.invariant_of-self-2
invariant_of-self-2 c =
    kept_as _ _ _ _ _ _ _ _ refl c.remove-2.ensures.items
    (c.remove-3.ensures.items ∙ ap (λ (ns : List ℕ). remove ns c.holder-block.result) (rewritten (λ (n : ℕ). n - 1) c.self.inside.begins.len (c.holder-block.result + 1) c.fewer_from-2.new.numbers c.as_mut_slice-2.result.now c.self.inside.begins.items (c.fewer_from-2.auto.numbers ∙ c.as_mut_slice-2.ensures.len) c.fewer_from-2.ensures c.as_mut_slice-2.ensures.value))
    c.remove-4.ensures.items (emptied_kept _ _ _ _ _ _ _ _ _ (taken (goal.at.invariant_of-self-2 c).After-remove-x (inside (goal.at.invariant_of-self-2 c).After-holder-block)) (none (goal.at.invariant_of-self-2 c).After-len-2 c.if-len-gt0.false (left (goal.at.invariant_of-self-2 c).After-index-2 (inside (goal.at.invariant_of-self-2 c).After-holder-block))))

pub returns-clause-value : goal.returns-clause-value
returns-clause-value c =
    omega (arith, c.remove-x.ensures.value, (read (goal.at.returns-clause-value c).After-index_mut-held (inside (goal.at.returns-clause-value c).After-holder-block)).2, ap (λ (ns : List ℕ). get_or ns c.args.k 0) c.self.view_is)

pub returns-clause-numbers : goal.returns-clause-numbers
returns-clause-numbers c =
    ap (λ (bs : List (List ℕ)). c.self.inside.first ++ concat bs) c.remove-4.ensures.items ∙ emptied_shown _ _ _ _ _ _ _ _ _ (taken (goal.at.returns-clause-numbers c).After-remove-x (inside (goal.at.returns-clause-numbers c).After-holder-block)) (none (goal.at.returns-clause-numbers c).After-len-2 c.if-len-gt0.false (left (goal.at.returns-clause-numbers c).After-index-2 (inside (goal.at.returns-clause-numbers c).After-holder-block))) ∙ ap (λ (ns : List ℕ). remove ns c.args.k) c.self.view_is
