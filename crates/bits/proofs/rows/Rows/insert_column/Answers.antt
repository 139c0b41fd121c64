use Rattle.std.proofs.Common.{◌≡◌, ◌+◌, ◌-◌, ◌*◌, ◌∙◌, ap, arith, map, insert, false, List, Bool}
use Rattle.bits.specs.steps.Held.{bits_in}
use Rattle.bits.specs.Rows.{RowsAndRoom}
use Rattle.bits.proofs.laws.HeldLaws.{place_at_most, opened_held, opened_shown, appended_held, appended_shown}
use Rattle.bits.proofs.laws.SlotWordsLaws.{kept_as_wide}
use Rattle.bits.proofs.laws.SummaryLaws.{summed_again}
use Rattle.bits.proofs.rows.Rows.insert_column.Goals as goal

pub invariant_of-self : goal.invariant_of-self
invariant_of-self c =
    let room : 64 * c.self.inside.words.width - c.self.inside.len ≡ c.args.self.now.room = ap (λ (r : RowsAndRoom). r.room) c.self.view_is in
    (appended_held c.self.inside.len c.self.inside.words.width c.self.inside.slots c.self.inside.words.words c.self.invariant.0 (omega (arith, c.requires.room)), c.self.invariant.1, c.self.invariant.2)

pub returns-then-at-self-clause-rows : goal.returns-then-at-self-clause-rows
returns-then-at-self-clause-rows c =
    let room : 64 * c.self.inside.words.width - c.self.inside.len ≡ c.args.self.now.room = ap (λ (r : RowsAndRoom). r.room) c.self.view_is in
    let most = place_at_most _ _ c.args.at _ _ c.args.self.now c.self.invariant.0 c.self.view_is c.requires.some c.requires.place in
    appended_shown c.self.inside.len c.self.inside.words.width c.args.at c.self.inside.slots c.self.inside.words.words c.self.invariant.0 (omega (arith, c.requires.room)) (omega (arith, most, c.if-at-self.true))
    ∙ ap (λ (r : RowsAndRoom). map (λ (row : List Bool). insert row c.args.at false) r.rows) c.self.view_is

pub invariant_of-self-2 : goal.invariant_of-self-2
invariant_of-self-2 c =
    let room : 64 * c.self.inside.words.width - c.self.inside.len ≡ c.args.self.now.room = ap (λ (r : RowsAndRoom). r.room) c.self.view_is in
    let most = place_at_most _ _ c.args.at _ _ c.args.self.now c.self.invariant.0 c.self.view_is c.requires.some c.requires.place in
    kept_as_wide _ _ _ _ _ c.move_all.ensures.as_many.width (c.move_all.ensures.as_many.count ∙ c.self.invariant.2)
    (opened_held c.self.inside.len c.self.inside.words.width c.args.at c.self.inside.slots c.self.inside.words.words c.move_all.new.words.words c.self.invariant.0 (omega (arith, c.requires.room)) most c.move_all.ensures.as_many.as_long (λ slot lt. c.move_all.ensures.rows slot (omega (arith, lt, c.self.invariant.1.counted))))
    (summed_again _ _ _ _ _ _ c.self.invariant.1 c.move_all.ensures.counted c.move_all.ensures.summed)

pub returns-clause-rows : goal.returns-clause-rows
returns-clause-rows c =
    let room : 64 * c.self.inside.words.width - c.self.inside.len ≡ c.args.self.now.room = ap (λ (r : RowsAndRoom). r.room) c.self.view_is in
    let most = place_at_most _ _ c.args.at _ _ c.args.self.now c.self.invariant.0 c.self.view_is c.requires.some c.requires.place in
    ap (λ w. map (bits_in (c.self.inside.len + 1) w c.move_all.new.words.words) c.self.inside.slots) c.move_all.ensures.as_many.width
    ∙ opened_shown c.self.inside.len c.self.inside.words.width c.args.at c.self.inside.slots c.self.inside.words.words c.move_all.new.words.words c.self.invariant.0 (omega (arith, c.requires.room)) most c.move_all.ensures.as_many.as_long
    (λ slot lt. c.move_all.ensures.rows slot (omega (arith, lt, c.self.invariant.1.counted)))
    ∙ ap (λ (r : RowsAndRoom). map (λ (row : List Bool). insert row c.args.at false) r.rows) c.self.view_is
