use Rattle.std.proofs.Common.{◌∙◌, ap, arith, Bool, false, List, Option, get_or}
use Rattle.slab.specs.Slab.{Slab}
use Rattle.table.specs.steps.Kept.{slot_at}
use Rattle.table.specs.steps.StoredChains.{StoredChain}
use Rattle.table.proofs.laws.chains.SoundLaws.{whole_three}
use Rattle.table.proofs.table.Table.with_policies.Goals as goal

pub invariant_of-result : goal.invariant_of-result
invariant_of-result c =
    let w = whole_three c.insert_reserved-input.new.self.slots c.insert_reserved-forward.new.self.slots c.insert_reserved-output.new.self.slots
    c.insert_reserved-input.result c.insert_reserved-forward.result c.insert_reserved-output.result c.in_ok-new.field-0 c.in_ok-new-2.field-0 c.in_ok-new-3.field-0
    (record {
      first = c.insert_reserved-input.ensures.updates.changed;
      others1 = λ k ne. c.insert_reserved-input.ensures.updates.others k ne ∙ ap (λ (s : Slab StoredChain). slot_at s.slots k) c.reserve.ensures.rest_kept ∙ ap (λ (slots : List (Option StoredChain)). slot_at slots k) c.new-chains.ensures.empty;
      free2 = c.insert_reserved-forward.ensures.was_vacant;
      second = c.insert_reserved-forward.ensures.updates.changed;
      others2 = c.insert_reserved-forward.ensures.updates.others;
      free3 = c.insert_reserved-output.ensures.was_vacant;
      third = c.insert_reserved-output.ensures.updates.changed;
      others3 = c.insert_reserved-output.ensures.updates.others;
      input = (record { named = c.in_ok-new.ensures.name ∙ c.built_in_name.ensures; entries = c.in_ok-new.ensures.entries; classified = c.in_ok-new.ensures.classified; references = c.in_ok-new.ensures.references });
      forward = (record { named = c.in_ok-new-2.ensures.name ∙ c.built_in_name-2.ensures; entries = c.in_ok-new-2.ensures.entries; classified = c.in_ok-new-2.ensures.classified; references = c.in_ok-new-2.ensures.references });
      output = (record { named = c.in_ok-new-3.ensures.name ∙ c.built_in_name-3.ensures; entries = c.in_ok-new-3.ensures.entries; classified = c.in_ok-new-3.ensures.classified; references = c.in_ok-new-3.ensures.references });
    }) c.args.policies c.in_ok-order.order.items c.reserve_mark-3.new.seen.items c.requires c.in_ok-order.ensures.items
    (λ k. c.in_ok-reserve_mark-3.ensures.marks k ∙ c.in_ok-reserve_mark-2.ensures.marks k ∙ c.in_ok-reserve_mark.ensures.marks k ∙ ap (λ (xs : List Bool). get_or xs k false) c.new-seen.ensures.items)
    (omega (arith, c.in_ok-reserve_mark.ensures.covered, c.in_ok-reserve_mark-2.ensures.longer, c.in_ok-reserve_mark-3.ensures.longer)) (omega (arith, c.in_ok-reserve_mark-2.ensures.covered, c.in_ok-reserve_mark-3.ensures.longer)) c.in_ok-reserve_mark-3.ensures.covered in
    record { kept = w.0; unmarked = w.1 }
