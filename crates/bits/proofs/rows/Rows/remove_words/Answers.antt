use Rattle.std.proofs.Common.{◌≡◌, ◌-◌, ◌*◌, ◌∙◌, ap, arith, map, drop}
use Rattle.bits.specs.steps.Held.{bits_in}
use Rattle.bits.specs.Rows.{RowsAndRoom, two_words}
use Rattle.bits.proofs.laws.HeldLaws.{place_at_most}
use Rattle.bits.proofs.laws.WordMoveLaws.{lowered_held, lowered_shown}
use Rattle.bits.proofs.laws.SlotWordsLaws.{kept_as_wide}
use Rattle.bits.proofs.laws.SummaryLaws.{summed_again}
use Rattle.bits.proofs.rows.Rows.remove_words.Goals as goal

pub move_all-requires-clause-fits : goal.move_all-requires-clause-fits
move_all-requires-clause-fits c = omega (arith, place_at_most _ _ two_words _ _ c.args.self.now c.self.invariant.0 c.self.view_is c.requires.some c.requires.long, c.self.invariant.0.covers)

pub overflow_sub-self : goal.overflow_sub-self
overflow_sub-self c = omega (arith, place_at_most _ _ two_words _ _ c.args.self.now c.self.invariant.0 c.self.view_is c.requires.some c.requires.long)

pub invariant_of-self : goal.invariant_of-self
invariant_of-self c =
    let long = place_at_most _ _ two_words _ _ c.args.self.now c.self.invariant.0 c.self.view_is c.requires.some c.requires.long in
    kept_as_wide _ _ _ _ _ c.move_all.ensures.as_many.width (c.move_all.ensures.as_many.count ∙ c.self.invariant.2)
    (lowered_held c.self.inside.len c.self.inside.words.width c.self.inside.slots c.self.inside.words.words c.move_all.new.words.words c.self.invariant.0 long c.move_all.ensures.as_many.as_long (λ slot lt. c.move_all.ensures.rows slot (omega (arith, lt, c.self.invariant.1.counted))))
    (summed_again _ _ _ _ _ _ c.self.invariant.1 c.move_all.ensures.counted c.move_all.ensures.summed)

pub returns-clause-rows : goal.returns-clause-rows
returns-clause-rows c =
    let long = place_at_most _ _ two_words _ _ c.args.self.now c.self.invariant.0 c.self.view_is c.requires.some c.requires.long in
    ap (λ w. map (bits_in (c.self.inside.len - two_words) w c.move_all.new.words.words) c.self.inside.slots) c.move_all.ensures.as_many.width
    ∙ lowered_shown c.self.inside.len c.self.inside.words.width c.self.inside.slots c.self.inside.words.words c.move_all.new.words.words c.self.invariant.0 long
    (λ slot lt. c.move_all.ensures.rows slot (omega (arith, lt, c.self.invariant.1.counted)))
    ∙ ap (λ (r : RowsAndRoom). map (drop two_words) r.rows) c.self.view_is

pub returns-clause-room : goal.returns-clause-room
returns-clause-room c =
    let room : 64 * c.self.inside.words.width - c.self.inside.len ≡ c.args.self.now.room = ap (λ (r : RowsAndRoom). r.room) c.self.view_is in
    let long = place_at_most _ _ two_words _ _ c.args.self.now c.self.invariant.0 c.self.view_is c.requires.some c.requires.long in
    omega (arith, room, long, c.self.invariant.0.covers)
