use Rattle.std.proofs.Common.{◌≡◌, ◌∙◌, sym, subst, List, Option, Some, IsSome, ℕ, get_or}
use Rattle.std.proofs.Math.ListN.{set}
use Rattle.std.proofs.lemmas.List.{get_or_default}
use Rattle.table.specs.steps.Kept.{slot_at, stored_at, table_with}
use Rattle.table.specs.steps.StoredChains.{StoredChain}
use Rattle.table.proofs.laws.chains.StoreLaws.{found_key, some_stored}
use Rattle.table.proofs.laws.edits.EditLaws.{empty_kept, empty_table, kept_same}
use Rattle.table.proofs.parts.Parts.empty.Goals as goal

pub returns : goal.returns
returns c =
    let ps = c.args.self.now.policies in
    let slots = c.args.self.now.chains.slots in
    let order = c.args.self.now.order.items in
    let key = c.index-key.result.now in
    let counted = c.count_all_out.ensures in
    let after : List (Option StoredChain) = set c.count_all_out.new.self.chains.slots key (Some c.clear.new.self) in
    let at : get_or order c.args.place 0 ≡ key = get_or_default order c.args.place 0 key c.requires.place ∙ sym c.index-key.ensures in
    let there : IsSome (slot_at slots key) = let P : ℕ → Type 0 = λ k. IsSome (slot_at slots k) in subst P at (c.requires.kept.stored.present c.args.place c.requires.place) in
    let f = found_key ps slots order c.args.place key (stored_at slots key) c.requires.kept.stored c.requires.place at (some_stored slots key there) in
    record {
      kept = kept_same after counted.policies counted.order
          (empty_kept ps slots c.count_all_out.new.self.chains.slots order c.args.place key (stored_at slots key) c.index_mut.result.now c.clear.new.self c.requires.kept f counted.same c.index_mut.ensures.value counted.counted c.clear.ensures.name c.clear.ensures.references c.clear.ensures.entries
          c.clear.ensures.classified);
      table = (λ i. table_with (counted.policies i) after (counted.order i))
          ∙ empty_table ps slots c.count_all_out.new.self.chains.slots order c.args.place key (stored_at slots key) c.index_mut.result.now c.clear.new.self f counted.same c.index_mut.ensures.value c.clear.ensures.name c.clear.ensures.entries;
      order = counted.order;
    }
