use Rattle.std.proofs.Common.{◌≡◌, ◌∙◌, ◌-◌, sym, ap, arith, length, set, subst, List, ℕ}
use Rattle.std.proofs.lemmas.List.{get_or_read}
use Rattle.bits.specs.declared.whole_rows.Kept.TheVariants as kept
use Rattle.bits.specs.steps.StoredRows.{AreStored, kept_at}
use Rattle.bits.proofs.laws.LeftLaws.{IsGivenUp, given_up_stored, given_up_freed}
use Rattle.bits.proofs.laws.StoredLaws.{kept_whole}
use Rattle.bits.proofs.whole_rows.free.Goals.{After-take_out-moved, After-blank}
use Rattle.bits.proofs.whole_rows.free.Goals as goal

pub take_out-moved-requires-clause-row : goal.take_out-moved-requires-clause-row
take_out-moved-requires-clause-row c =
    (kept_whole c.args.width c.args.slot c.in-Whole.i c.args.kept.now.items c.args.wholes.now.items c.args.owners.now.items c.requires.stored c.requires.slot (sym (get_or_read _ c.args.slot c.index.result.now c.requires.slot c.index.ensures (kept.Whole 0)) ∙ c.in-Whole.is)).0

given_up : (c : After-blank) → IsGivenUp c.args.width c.args.slot c.in-Whole.i c.take_out-moved.result (length c.args.owners.now.items - 1) c.args.kept.now.items c.args.wholes.now.items c.take_out-moved.new.wholes.items c.args.owners.now.items c.blank.result
given_up c =
    let is : kept_at c.args.kept.now.items c.args.slot ≡ kept.Whole c.in-Whole.i = sym (get_or_read _ c.args.slot c.index.result.now c.requires.slot c.index.ensures (kept.Whole 0)) ∙ c.in-Whole.is in
    let some = (kept_whole c.args.width c.args.slot c.in-Whole.i c.args.kept.now.items c.args.wholes.now.items c.args.owners.now.items c.requires.stored c.requires.slot is).0 in
    record {
      stored = c.requires.stored;
      slot = c.requires.slot;
      whole = is;
      count = omega (arith, some);
      owner = c.take_out-moved.ensures.last;
      moved = record {
        long = c.take_out-moved.ensures.long;
        moved = λ lt. c.take_out-moved.ensures.moved (omega (arith, lt));
        others = λ j lt ne. c.take_out-moved.ensures.others j (omega (arith, lt)) ne;
      };
      within = record { four = ap (λ (ws : List ℕ). length ws) c.blank.ensures.words; ends = omega (arith, c.requires.stored.least, c.blank.ensures.start) };
    }

pub returns-in-Whole-clause-stored : goal.returns-in-Whole-clause-stored
returns-in-Whole-clause-stored c =
    let P : List ℕ → Type 0 = λ os. AreStored c.args.width (set (set c.args.kept.now.items c.take_out-moved.result (kept.Whole c.in-Whole.i)) c.args.slot (kept.Part c.blank.result)) c.take_out-moved.new.wholes.items os in
    subst P (sym c.take_out-moved.ensures.owners) (given_up_stored _ _ _ _ _ _ _ _ _ _ (given_up (goal.at.returns-in-Whole-clause-stored c).After-blank))

pub returns-in-Whole-clause-freed : goal.returns-in-Whole-clause-freed
returns-in-Whole-clause-freed c = given_up_freed _ _ _ _ _ _ _ _ _ _ (given_up (goal.at.returns-in-Whole-clause-freed c).After-blank)
