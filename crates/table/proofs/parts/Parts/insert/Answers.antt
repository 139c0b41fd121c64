use Rattle.std.proofs.Common.{refl}
use Rattle.table.proofs.laws.chains.StoreLaws.{found}
use Rattle.table.proofs.laws.edits.EditLaws.{IsPutIn, counts_in_there, put_kept, put_table}
use Rattle.table.proofs.parts.Parts.insert.Goals as goal

pub count_in-requires : goal.count_in-requires
count_in-requires c =
    let slots = c.args.self.now.chains.slots in
    let order = c.args.self.now.order.items in
    let f = found c.args.self.now.policies slots order c.args.place c.index-key.result.now c.index_mut.result.now c.requires.kept.stored c.requires.place c.index-key.ensures c.index_mut.ensures.value in
    counts_in_there c.args.self.now.policies slots order c.args.place c.index-key.result.now c.index_mut.result.now c.insert.new.self c.args.entry c.key-link.result c.requires.kept f c.in_ok-insert.ensures.references c.requires.linked c.key-link.ensures

pub returns : goal.returns
returns c =
    let ps = c.args.self.now.policies in
    let slots = c.args.self.now.chains.slots in
    let order = c.args.self.now.order.items in
    let stored_chain = c.index_mut.result.now in
    let new = c.insert.new.self in
    let f = found ps slots order c.args.place c.index-key.result.now stored_chain c.requires.kept.stored c.requires.place c.index-key.ensures c.index_mut.ensures.value in
    let done = c.in_ok-insert.ensures in
    let p : IsPutIn stored_chain new c.args.at c.args.entry = record { name = done.name; references = done.references; entries = done.ok; classified = done.classified } in
    record {
      kept = put_kept ps slots c.count_in.new.chains.slots order c.args.place c.index-key.result.now c.args.at stored_chain new c.args.entry c.key-link.result c.requires.kept f p c.requires.linked c.key-link.ensures c.requires.sound c.count_in.ensures.same c.count_in.ensures.counted;
      ok = put_table ps slots c.count_in.new.chains.slots order c.args.place c.index-key.result.now c.args.at stored_chain new c.args.entry f p c.count_in.ensures.same;
      order = refl;
      err = tt;
      work = done.work;
      boxed = done.boxed;
    }
