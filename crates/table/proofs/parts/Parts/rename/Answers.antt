use Rattle.std.proofs.Common.{◌≡◌, ◌∙◌, sym, ap, get_or, List, ℕ, Option, Some}
use Rattle.std.proofs.Math.ListN.{set}
use Rattle.std.proofs.lemmas.List.{get_or_default}
use Rattle.table.specs.steps.Kept.{stored_at, name_at, table_with, moved_key}
use Rattle.table.specs.steps.StoredChains.{StoredChain}
use Rattle.table.proofs.laws.edits.EditLaws.{kept_same}
use Rattle.table.proofs.laws.edits.RenameLaws.{is_rename, kept_renamed, renamed_set, table_renamed}
use Rattle.table.proofs.parts.Parts.rename.Goals as goal

pub returns : goal.returns
returns c =
    let slots = c.args.self.now.chains.slots in
    let mid = c.retarget_all.new.self.chains.slots in
    let order = c.args.self.now.order.items in
    let key = c.index-key.result.now in
    let new : List (Option StoredChain) = set mid key (Some c.set_name.new.self) in
    let place = c.args.place in
    let name = c.args.name in
    let s = c.requires.kept.stored in
    let at : get_or order place 0 ≡ key = get_or_default order place 0 key c.requires.place ∙ sym c.index-key.ensures in
    let own : (stored_at slots key).name ≡ name_at slots order place = ap (λ (k : ℕ). (stored_at slots k).name) (sym at) in
    let r = renamed_set c.args.self.now.policies slots mid order place key name c.index_mut.result.now c.set_name.new.self s c.requires.place at c.retarget_all.ensures.rules c.index_mut.ensures.value
    c.set_name.ensures.name c.set_name.ensures.entries c.set_name.ensures.references c.set_name.ensures.classified in
    let m = is_rename c.args.self.now.policies slots order place c.args.to name s c.requires.user c.requires.place c.requires.to c.bytes-form.ensures.reads_back in
    let was = c.retarget_all.ensures in
    let moved : c.move_key.new.order.items ≡ moved_key order place c.args.to = c.move_key.ensures ∙ ap (λ (ks : List ℕ). moved_key ks place c.args.to) was.order in
    record {
      kept = kept_same new was.policies moved
          (kept_renamed c.args.self.now.policies slots new order place c.args.to key (name_at slots order place) name c.requires.kept c.requires.place at own c.requires.to m r c.renamed_reads_back.ensures);
      moved = moved;
      table = (λ i. table_with (was.policies i) new (moved i))
          ∙ table_renamed c.args.self.now.policies slots new order place c.args.to key (name_at slots order place) name s c.requires.place at own c.requires.to m r;
    }
