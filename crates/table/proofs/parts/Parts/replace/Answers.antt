use Rattle.std.proofs.Common.{◌≡◌, ◌∙◌, ◌<◌, refl, sym, ap, arith, length, List, Option, get_or, Some}
use Rattle.std.proofs.lemmas.Option.{same_Some}
use Rattle.std.proofs.Math.ListN.{set}
use Rattle.table.specs.steps.Kept.{references_at}
use Rattle.table.specs.steps.StoredChains.{StoredChain, key_in}
use Rattle.table.specs.declared.chain.entry.Entry.{Entry}
use Rattle.table.proofs.laws.chains.StoreLaws.{found}
use Rattle.table.proofs.laws.edits.EditLaws.{IsPutOver, found_entries, counts_in_there, counts_out_there, counts_out_after, counts_on, recounted_on, over_kept, over_table}
use Rattle.table.proofs.parts.Parts.replace.Goals as goal

pub count_in-requires : goal.count_in-requires
count_in-requires c =
    let slots = c.args.self.now.chains.slots in
    let order = c.args.self.now.order.items in
    let f = found c.args.self.now.policies slots order c.args.place c.index-key.result.now c.index_mut.result.now c.requires.kept.stored c.requires.place c.index-key.ensures c.index_mut.ensures.value in
    counts_in_there c.args.self.now.policies slots order c.args.place c.index-key.result.now c.index_mut.result.now c.replace.new.self c.args.entry c.key-link.result c.requires.kept f c.in_ok-replace.ensures.references c.requires.linked c.key-link.ensures

pub count_out-requires : goal.count_out-requires
count_out-requires c =
    let slots = c.args.self.now.chains.slots in
    let order = c.args.self.now.order.items in
    let f = found c.args.self.now.policies slots order c.args.place c.index-key.result.now c.index_mut.result.now c.requires.kept.stored c.requires.place c.index-key.ensures c.index_mut.ensures.value in
    let lt : c.args.at < length c.index_mut.result.now.entries = omega (arith, c.requires.at, ap (λ (es : List Entry). length es) (found_entries c.args.self.now.policies slots order c.args.place c.index-key.result.now c.index_mut.result.now f)) in
    let same : c.index_mut.result.now ≡ c.index.result.now = same_Some _ _ (sym c.index_mut.ensures.value ∙ c.index.ensures) in
    let own : get_or c.index_mut.result.now.entries c.args.at c.entry.result.now ≡ c.entry.result.now = ap (λ (r : StoredChain). get_or r.entries c.args.at c.entry.result.now) same ∙ sym c.entry.ensures in
    let first : List (Option StoredChain) = set slots c.index-key.result.now (Some c.replace.new.self) in
    counts_out_after first c.count_in.new.chains.slots c.key-link.result c.key-before.result c.count_in.ensures.same c.count_in.ensures.counted
    (counts_out_there c.args.self.now.policies slots order c.args.place c.index-key.result.now c.args.at c.index_mut.result.now c.replace.new.self c.entry.result.now c.key-before.result c.requires.kept f c.in_ok-replace.ensures.references lt own c.key-before.ensures)

pub returns : goal.returns
returns c =
    let ps = c.args.self.now.policies in
    let slots = c.args.self.now.chains.slots in
    let order = c.args.self.now.order.items in
    let key = c.index-key.result.now in
    let stored_chain = c.index_mut.result.now in
    let new = c.replace.new.self in
    let f = found ps slots order c.args.place key stored_chain c.requires.kept.stored c.requires.place c.index-key.ensures c.index_mut.ensures.value in
    let lt : c.args.at < length stored_chain.entries = omega (arith, c.requires.at, ap (λ (es : List Entry). length es) (found_entries ps slots order c.args.place key stored_chain f)) in
    let same : stored_chain ≡ c.index.result.now = same_Some _ _ (sym c.index_mut.ensures.value ∙ c.index.ensures) in
    let own : get_or stored_chain.entries c.args.at c.entry.result.now ≡ c.entry.result.now = ap (λ (r : StoredChain). get_or r.entries c.args.at c.entry.result.now) same ∙ sym c.entry.ensures in
    let done = c.in_ok-replace.ensures in
    let p : IsPutOver stored_chain new c.args.at c.args.entry = record { name = done.name; references = done.references; entries = done.ok; classified = done.classified } in
    let first : List (Option StoredChain) = set slots key (Some new) in
    let after = c.count_out.new.chains.slots in
    let recounted = recounted_on first c.count_in.new.chains.slots after c.count_in.ensures.same c.count_out.ensures.same in
    record {
      kept = over_kept ps slots after order c.args.place key c.args.at stored_chain new c.args.entry c.entry.result.now c.key-link.result c.key-before.result c.requires.kept f lt p c.requires.linked c.key-link.ensures
          (c.key-before.ensures ∙ ap (λ (e : Entry). key_in e.flow) (sym own)) c.requires.sound recounted
          (counts_on c.key-link.result c.key-before.result (references_at first) (references_at c.count_in.new.chains.slots) (references_at after) c.count_in.ensures.counted c.count_out.ensures.counted);
      ok = over_table ps slots after order c.args.place key c.args.at stored_chain new c.args.entry f p recounted;
      order = refl;
      err = tt;
      work = done.work;
      boxed = done.boxed;
    }
