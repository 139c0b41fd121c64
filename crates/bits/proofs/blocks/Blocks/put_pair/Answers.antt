use Rattle.std.proofs.Common.{◌≡◌, ◌≤◌, ◌+◌, ◌-◌, ◌^◌, ◌++◌, ◌∷◌, ◌∙◌, [], ap, arith, insert, length, refl, rules, sym, vec_len, List, ℕ}
use Rattle.std.specs.List.{concat}
use Rattle.bits.proofs.laws.BlockLaws.{size_put}
use Rattle.bits.proofs.laws.BlockEditLaws.{inserted_pair, IsPut, begins_fit, kept_as, put_first_kept, put_kept, put_shown, rewritten}
use Rattle.bits.proofs.laws.BlockPlaceLaws.{IsHeld, begins_are, held, held_read}
use Rattle.bits.proofs.blocks.Blocks.put_pair.Goals.{After-holder-block, In_ok-insert_pair-2}
use Rattle.bits.proofs.blocks.Blocks.put_pair.Goals as goal

pub more_from-requires : goal.more_from-requires
more_from-requires c = λ k ge lt.
    omega (arith, begins_fit c.self.inside.first _ _ c.self.inside.later.items c.as_mut_slice.result.now k c.self.invariant c.as_mut_slice.ensures.value lt, c.requires.few, ap (λ (ns : List ℕ). length ns) c.self.view_is)

pub invariant_of-self-then-k-len : goal.invariant_of-self-then-k-len
invariant_of-self-then-k-len c =
    let few : length (c.self.inside.first ++ concat c.self.inside.later.items) + 2 ≤ 2 ^ 32 = omega (arith, c.requires.few, ap (λ (ns : List ℕ). length ns) c.self.view_is) in
    let size : length c.insert_pair.new.self ≡ length c.self.inside.first + 2 = ap (λ (ns : List ℕ). length ns) (c.in_ok-insert_pair.ensures.ok ∙ inserted_pair c.self.inside.first c.args.k c.args.x c.args.y (omega (arith, c.len.ensures, c.if-k-len.true))) ∙ size_put (c.args.x ∷ c.args.y ∷ []) c.self.inside.first c.args.k in
    kept_as c.insert_pair.new.self c.self.inside.heads.items _ _ _ _ c.self.inside.later.items _ refl refl
    (rewritten (λ (n : ℕ). n + 2) c.self.inside.begins.len 0 c.more_from.new.numbers c.as_mut_slice.result.now c.self.inside.begins.items (c.more_from.auto.numbers ∙ c.as_mut_slice.ensures.len) c.more_from.ensures c.as_mut_slice.ensures.value)
    refl (put_first_kept c.self.inside.first _ _ _ c.insert_pair.new.self 2 c.self.invariant few size)

pub holder-block-requires-clause-rising : goal.holder-block-requires-clause-rising
holder-block-requires-clause-rising c = begins_are c.self.inside.first _ _ c.self.inside.later.items c.deref.result.now c.self.invariant c.deref.ensures.value

inside : (c : After-holder-block) → IsHeld (length c.self.inside.first) c.self.inside.later.items (c.args.k - 1) c.holder-block.result
inside c =
    held c.self.inside.first _ _ c.self.inside.later.items c.deref.result.now (c.args.k - 1) c.holder-block.result c.self.invariant c.deref.ensures.value (omega (arith, c.requires.place, c.len.ensures, c.if-k-len.false, ap (λ (ns : List ℕ). length ns) c.self.view_is))
    c.holder-block.ensures.there c.holder-block.ensures.from c.holder-block.ensures.to

pub index_mut-held-requires : goal.index_mut-held-requires
index_mut-held-requires c =
    let n : vec_len c.self.inside.later ≡ length c.self.inside.later.items = search rules in
    omega (arith, n, (inside (goal.at.index_mut-held-requires c).After-holder-block).there)

pub insert_pair-requires-2 : goal.insert_pair-requires-2
insert_pair-requires-2 c =
    let h = held_read c.self.inside.first _ _ c.self.inside.later.items (c.args.k - 1) c.holder-block.result c.index_mut-held.result.now c.index.result.now c.self.invariant (inside (goal.at.insert_pair-requires-2 c).After-holder-block) c.index_mut-held.ensures.value c.index.ensures in
    omega (arith, h.0, h.1)

pub more_from-requires-2 : goal.more_from-requires-2
more_from-requires-2 c = λ k ge lt.
    omega (arith, begins_fit c.self.inside.first _ _ c.self.inside.later.items c.as_mut_slice-2.result.now k c.self.invariant c.as_mut_slice-2.ensures.value lt, c.requires.few, ap (λ (ns : List ℕ). length ns) c.self.view_is)

put : (c : In_ok-insert_pair-2) → IsHeld (length c.self.inside.first) c.self.inside.later.items (c.args.k - 1) c.holder-block.result
    → IsPut c.self.inside.first c.self.inside.heads.items c.self.inside.begins.items c.self.inside.later.items c.args.k c.holder-block.result c.index.result.now (c.args.x ∷ c.args.y ∷ []) c.index_mut-held.result.now c.insert_pair-2.new.self
put c within =
    let h = held_read c.self.inside.first _ _ c.self.inside.later.items (c.args.k - 1) c.holder-block.result c.index_mut-held.result.now c.index.result.now c.self.invariant within c.index_mut-held.ensures.value c.index.ensures in
    record {
      kept = c.self.invariant;
      room = omega (arith, c.requires.few, ap (λ (ns : List ℕ). length ns) c.self.view_is);
      late = omega (arith, c.len.ensures, c.if-k-len.false);
      inside = within;
      block = c.index_mut-held.ensures.value;
      begin = c.index.ensures;
      put = c.in_ok-insert_pair-2.ensures.ok ∙ inserted_pair c.index_mut-held.result.now (c.args.k - c.index.result.now) c.args.x c.args.y (omega (arith, h.0, h.1));
    }

pub invariant_of-self-2 : goal.invariant_of-self-2
invariant_of-self-2 c =
    kept_as c.self.inside.first c.self.inside.heads.items _ _ _ _ _ _ refl refl
    (rewritten (λ (n : ℕ). n + 2) c.self.inside.begins.len (c.holder-block.result + 1) c.more_from-2.new.numbers c.as_mut_slice-2.result.now c.self.inside.begins.items (c.more_from-2.auto.numbers ∙ c.as_mut_slice-2.ensures.len) c.more_from-2.ensures c.as_mut_slice-2.ensures.value)
    refl (put_kept _ _ _ _ _ _ _ _ _ _ (put (goal.at.invariant_of-self-2 c).In_ok-insert_pair-2 (inside (goal.at.invariant_of-self-2 c).After-holder-block)))

pub returns-clause-ok : goal.returns-clause-ok
returns-clause-ok c =
    put_shown _ _ _ _ _ _ _ _ _ _ (put (goal.at.returns-clause-ok c).In_ok-insert_pair-2 (inside (goal.at.returns-clause-ok c).After-holder-block)) ∙ sym (inserted_pair _ c.args.k c.args.x c.args.y (omega (arith, c.requires.place, ap (λ (ns : List ℕ). length ns) c.self.view_is)))
    ∙ ap (λ (ns : List ℕ). insert (insert ns c.args.k c.args.y) c.args.k c.args.x) c.self.view_is
