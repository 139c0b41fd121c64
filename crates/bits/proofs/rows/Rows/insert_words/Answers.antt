use Rattle.std.proofs.Common.{◌≡◌, ◌+◌, ◌-◌, ◌*◌, ◌∙◌, ◌++◌, ap, arith, map, false, replicate, List, Bool}
use Rattle.bits.specs.steps.Held.{bits_in}
use Rattle.bits.specs.Rows.{RowsAndRoom, two_words}
use Rattle.bits.proofs.laws.WordMoveLaws.{raised_held, raised_shown}
use Rattle.bits.proofs.laws.SlotWordsLaws.{kept_as_wide}
use Rattle.bits.proofs.laws.SummaryLaws.{summed_again}
use Rattle.bits.proofs.rows.Rows.insert_words.Goals as goal

pub invariant_of-self : goal.invariant_of-self
invariant_of-self c =
    let room : 64 * c.self.inside.words.width - c.self.inside.len ≡ c.args.self.now.room = ap (λ (r : RowsAndRoom). r.room) c.self.view_is in
    kept_as_wide _ _ _ _ _ c.move_all.ensures.as_many.width (c.move_all.ensures.as_many.count ∙ c.self.invariant.2)
    (raised_held c.self.inside.len c.self.inside.words.width c.self.inside.slots c.self.inside.words.words c.move_all.new.words.words c.self.invariant.0 (omega (arith, c.requires)) c.move_all.ensures.as_many.as_long (λ slot lt. c.move_all.ensures.rows slot (omega (arith, lt, c.self.invariant.1.counted))))
    (summed_again _ _ _ _ _ _ c.self.invariant.1 c.move_all.ensures.counted c.move_all.ensures.summed)

pub returns-clause-rows : goal.returns-clause-rows
returns-clause-rows c =
    let room : 64 * c.self.inside.words.width - c.self.inside.len ≡ c.args.self.now.room = ap (λ (r : RowsAndRoom). r.room) c.self.view_is in
    ap (λ w. map (bits_in (c.self.inside.len + two_words) w c.move_all.new.words.words) c.self.inside.slots) c.move_all.ensures.as_many.width
    ∙ raised_shown c.self.inside.len c.self.inside.words.width c.self.inside.slots c.self.inside.words.words c.move_all.new.words.words c.self.invariant.0 (omega (arith, c.requires))
    (λ slot lt. c.move_all.ensures.rows slot (omega (arith, lt, c.self.invariant.1.counted)))
    ∙ ap (λ (r : RowsAndRoom). map (λ (row : List Bool). replicate two_words false ++ row) r.rows) c.self.view_is
