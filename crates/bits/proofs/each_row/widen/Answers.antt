use Rattle.std.proofs.Common.{◌≡◌, ◌*◌, ◌++◌, ◌∙◌, sym, ap, arith, length, rules, vec_len, subst, List, ℕ}
use Rattle.bits.proofs.laws.HeldLaws.{Widened, widened_first, widened_step}
use Rattle.bits.proofs.each_row.widen.Goals as goal

pub loop-slot-init : goal.loop-slot-init
loop-slot-init c =
    let P : List ℕ → Type 0 = λ us. Widened c.args.width c.args.wider c.args.words.now us 0 in
    subst P (sym c.in_ok-wide.ensures.items) (widened_first c.args.width c.args.wider c.args.words.now)

pub loop-slot-preserved : goal.loop-slot-preserved
loop-slot-preserved c =
    let held : vec_len c.extend_from_slice.new.self ≡ length c.extend_from_slice.new.self.items = search rules in
    widened_step c.args.width c.args.wider c.args.count c.args.words.now c.loop-slot.wide.items c.extend_from_slice.new.self.items c.resize.new.self.items c.loop-slot.slot (vec_len c.extend_from_slice.new.self)
    c.loop-slot.invariant c.requires.whole c.loop-slot-test.true c.requires.more (c.in_ok-extend_from_slice.ensures.items ∙ ap (λ (row : List ℕ). c.loop-slot.wide.items ++ row) c.part.ensures) held c.in_ok-resize.ensures.items

pub returns-clause-len : goal.returns-clause-len
returns-clause-len c =
    let e : c.loop-slot.slot ≡ c.args.count = omega (arith, c.loop-slot-test.false, c.loop-slot.auto.slot-end) in
    c.loop-slot.invariant.size ∙ ap (λ n. n * c.args.wider) e

pub returns-clause-rows : goal.returns-clause-rows
returns-clause-rows c = λ slot lt. c.loop-slot.invariant.rows slot (omega (arith, lt, c.loop-slot-test.false))
