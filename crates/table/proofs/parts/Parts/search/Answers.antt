use Rattle.std.proofs.Common.{◌≡◌, true, ℕ, ◌+◌, ◌-◌, ◌/◌, ◌<◌, ◌≤◌, Less, Greater, length, inl, inr, sym, ◌∙◌, ap, arith}
use Rattle.std.specs.Ordering.{nat_cmp}
use Rattle.std.specs.Cmp.Lexicographic.{slice_cmp}
use Rattle.std.specs.Ordering.{is_eq}
use Rattle.std.proofs.lemmas.Bool.{cases_lt}
use Rattle.std.proofs.lemmas.Map.Text.{is_eq-slice_cmp}
use Rattle.std.proofs.lemmas.Slice.Eq.{bytes_eq-Decides}
use Rattle.table.specs.chains.Table.{comes_before}
use Rattle.table.specs.steps.Kept.{name_at}
use Rattle.table.proofs.laws.chains.StoreLaws.{name_here, place_is, built_in_at, long, up_to_middle, from_middle, free_between}
use Rattle.table.proofs.parts.Parts.search.Goals as goal

pub returns-in-Some : goal.returns-in-Some
returns-in-Some c =
    let slots = c.args.self.now.chains.slots in
    let order = c.args.self.now.order.items in
    let at : c.in-Some.place < length order = omega (arith, c.in-Some.ensures.0, long c.args.self.now.policies slots order c.requires) in
    record { within = at; is = place_is c.args.self.now.policies slots order c.args.name.now c.in-Some.place c.requires at (built_in_at c.args.self.now.policies slots order c.requires c.in-Some.place c.in-Some.ensures.0 ∙ c.in-Some.ensures.1) }

pub loop-low-init : goal.loop-low-init
loop-low-init c =
    let slots = c.args.self.now.chains.slots in
    let order = c.args.self.now.order.items in
    record {
      built_in = (omega arith);
      ordered = (omega (arith, c.len-high.ensures, long c.args.self.now.policies slots order c.requires));
      within = (omega (arith, c.len-high.ensures));
      below = λ k ge lt. absurd (omega (arith, ge, lt));
      above = λ k ge lt. absurd (omega (arith, c.len-high.ensures, ge, lt));
    }

pub loop-low-preserved-in-Less : goal.loop-low-preserved-in-Less
loop-low-preserved-in-Less c =
    let slots = c.args.self.now.chains.slots in
    let order = c.args.self.now.order.items in
    let middle : ℕ = c.loop-low.low + (c.loop-low.high - c.loop-low.low) / 2 in
    let at : middle < length order = omega (arith, c.loop-low-test.true, c.loop-low.invariant.within) in
    let named = name_here slots order middle c.index-key.result.now c.index-chain.result.now at c.index-key.ensures c.index-chain.ensures in
    let is : slice_cmp nat_cmp c.args.name.now (name_at slots order middle) ≡ Less = ap (slice_cmp nat_cmp c.args.name.now) (named ∙ sym c.name.ensures ∙ sym c.bytes.ensures.value) ∙ sym c.in-Less.ensures in
    record {
      built_in = c.loop-low.invariant.built_in;
      ordered = (omega arith);
      within = (omega arith);
      below = c.loop-low.invariant.below;
      above = λ k ge lt. from_middle c.args.self.now.policies slots order c.args.name.now middle k c.requires (omega (arith, c.loop-low.invariant.built_in)) ge lt is;
    }

pub returns-in-Equal : goal.returns-in-Equal
returns-in-Equal c =
    let slots = c.args.self.now.chains.slots in
    let order = c.args.self.now.order.items in
    let middle : ℕ = c.loop-low.low + (c.loop-low.high - c.loop-low.low) / 2 in
    let at : middle < length order = omega (arith, c.loop-low-test.true, c.loop-low.invariant.within) in
    let named = name_here slots order middle c.index-key.result.now c.index-chain.result.now at c.index-key.ensures c.index-chain.ensures in
    let same = (bytes_eq-Decides c.args.name.now c.bytes.result.now).0 (sym (is_eq-slice_cmp c.args.name.now c.bytes.result.now) ∙ ap is_eq (sym c.in-Equal.ensures)) in
    record { within = at; is = place_is c.args.self.now.policies slots order c.args.name.now middle c.requires at (named ∙ sym c.name.ensures ∙ sym c.bytes.ensures.value ∙ sym same) }

pub loop-low-preserved : goal.loop-low-preserved
loop-low-preserved c =
    let slots = c.args.self.now.chains.slots in
    let order = c.args.self.now.order.items in
    let middle : ℕ = c.loop-low.low + (c.loop-low.high - c.loop-low.low) / 2 in
    let at : middle < length order = omega (arith, c.loop-low-test.true, c.loop-low.invariant.within) in
    let named = name_here slots order middle c.index-key.result.now c.index-chain.result.now at c.index-key.ensures c.index-chain.ensures in
    let is : slice_cmp nat_cmp c.args.name.now (name_at slots order middle) ≡ Greater = ap (slice_cmp nat_cmp c.args.name.now) (named ∙ sym c.name.ensures ∙ sym c.bytes.ensures.value) ∙ sym c.in-Greater.ensures in
    record {
      built_in = (omega (arith, c.loop-low.invariant.built_in));
      ordered = (omega (arith, c.loop-low-test.true));
      within = c.loop-low.invariant.within;
      below = λ k ge lt.
          elim (cases_lt k c.loop-low.low) [
            | inl early ↦ c.loop-low.invariant.below k ge early
            | inr late ↦ up_to_middle c.args.self.now.policies slots order c.args.name.now middle k c.requires at ge (omega (arith, lt)) is
          ];
      above = c.loop-low.invariant.above;
    }

pub returns : goal.returns
returns c =
    let slots = c.args.self.now.chains.slots in
    let order = c.args.self.now.order.items in
    let after : (k : ℕ) → c.loop-low.low ≤ k → k < length order → comes_before c.args.name.now (name_at slots order k) ≡ true = λ k ge lt. c.loop-low.invariant.above k (omega (arith, ge, c.loop-low-test.false)) lt in
    record {
      free = free_between c.args.self.now.policies slots order c.args.name.now c.loop-low.low c.requires c.in_default.ensures c.loop-low.invariant.below after;
      user = c.loop-low.invariant.built_in;
      within = (omega (arith, c.loop-low.invariant.ordered, c.loop-low.invariant.within));
      before = c.loop-low.invariant.below;
      after = after;
    }
