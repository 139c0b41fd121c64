use Rattle.std.proofs.Common.{◌≡◌, ◌∙◌, ◌<◌, refl, sym, ap, arith, length, List, get_or}
use Rattle.std.proofs.lemmas.Option.{same_Some}
use Rattle.table.specs.steps.StoredChains.{StoredChain, key_in}
use Rattle.table.specs.declared.chain.entry.Entry.{Entry}
use Rattle.table.proofs.laws.chains.StoreLaws.{found}
use Rattle.table.proofs.laws.edits.EditLaws.{IsTakenOut, found_entries, counts_out_there, out_kept, out_table}
use Rattle.table.proofs.parts.Parts.remove_rule.Goals as goal

pub count_out-requires : goal.count_out-requires
count_out-requires c =
    let slots = c.args.self.now.chains.slots in
    let order = c.args.self.now.order.items in
    let f = found c.args.self.now.policies slots order c.args.place c.index-key.result.now c.index_mut.result.now c.requires.kept.stored c.requires.place c.index-key.ensures c.index_mut.ensures.value in
    let lt : c.args.at < length c.index_mut.result.now.entries = omega (arith, c.requires.at, ap (λ (es : List Entry). length es) (found_entries c.args.self.now.policies slots order c.args.place c.index-key.result.now c.index_mut.result.now f)) in
    let same : c.index_mut.result.now ≡ c.index.result.now = same_Some _ _ (sym c.index_mut.ensures.value ∙ c.index.ensures) in
    let own : get_or c.index_mut.result.now.entries c.args.at c.entry.result.now ≡ c.entry.result.now = ap (λ (r : StoredChain). get_or r.entries c.args.at c.entry.result.now) same ∙ sym c.entry.ensures in
    counts_out_there c.args.self.now.policies slots order c.args.place c.index-key.result.now c.args.at c.index_mut.result.now c.remove.new.self c.entry.result.now c.key-link.result c.requires.kept f c.remove.ensures.references lt own c.key-link.ensures

pub returns : goal.returns
returns c =
    let ps = c.args.self.now.policies in
    let slots = c.args.self.now.chains.slots in
    let order = c.args.self.now.order.items in
    let key = c.index-key.result.now in
    let stored_chain = c.index_mut.result.now in
    let f = found ps slots order c.args.place key stored_chain c.requires.kept.stored c.requires.place c.index-key.ensures c.index_mut.ensures.value in
    let lt : c.args.at < length stored_chain.entries = omega (arith, c.requires.at, ap (λ (es : List Entry). length es) (found_entries ps slots order c.args.place key stored_chain f)) in
    let same : stored_chain ≡ c.index.result.now = same_Some _ _ (sym c.index_mut.ensures.value ∙ c.index.ensures) in
    let own : get_or stored_chain.entries c.args.at c.entry.result.now ≡ c.entry.result.now = ap (λ (r : StoredChain). get_or r.entries c.args.at c.entry.result.now) same ∙ sym c.entry.ensures in
    let p : IsTakenOut stored_chain c.remove.new.self c.args.at = record { name = c.remove.ensures.name; references = c.remove.ensures.references; entries = c.remove.ensures.entries; classified = c.remove.ensures.classified } in
    record {
      kept = out_kept ps slots c.count_out.new.chains.slots order c.args.place key c.args.at stored_chain c.remove.new.self c.entry.result.now c.key-link.result c.requires.kept f lt p (c.key-link.ensures ∙ ap (λ (e : Entry). key_in e.flow) (sym own)) c.count_out.ensures.same
          c.count_out.ensures.counted;
      table = out_table ps slots c.count_out.new.chains.slots order c.args.place key c.args.at stored_chain c.remove.new.self f p c.count_out.ensures.same;
      order = refl;
    }
