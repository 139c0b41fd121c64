use Rattle.std.proofs.Common.{◌≡◌, ◌∙◌, sym, ap, subst, List, ℕ, get_or}
use Rattle.std.proofs.lemmas.List.{get_or_default}
use Rattle.table.specs.steps.Kept.{IsIn, IsKept, slot_at, table_with}
use Rattle.table.proofs.laws.edits.DeleteLaws.{IsGone, in_left, kept_gone, table_gone}
use Rattle.table.proofs.parts.Parts.remove_chain.Goals as goal

pub returns : goal.returns
returns c =
    let ps = c.args.self.now.policies in
    let slots = c.args.self.now.chains.slots in
    let order = c.args.self.now.order.items in
    let new = c.remove.new.self.slots in
    let key = c.remove-key.result in
    let at : get_or order c.args.place 0 ≡ key = get_or_default order c.args.place 0 key c.requires.place ∙ sym c.remove-key.ensures.value in
    let g : IsGone slots new order c.args.place = record { place = c.requires.place; gone = ap (slot_at new) at ∙ c.remove.ensures.updates.changed; others = λ k ne. c.remove.ensures.updates.others k (λ q. ne (q ∙ sym at)) } in
    let P : List ℕ → Type 0 = λ ks. IsKept ps new ks in
    record {
      kept = subst P (sym c.remove-key.ensures.items) (kept_gone ps slots new order c.args.place c.requires.kept g c.requires.accepted);
      table = ap (table_with ps new) c.remove-key.ensures.items ∙ table_gone ps slots new order c.args.place c.requires.kept.stored g;
      order = c.remove-key.ensures.items;
      fewer = λ key at. (let Q : List ℕ → Type 0 = λ ks. IsIn ks key in in_left order c.args.place key c.requires.place (subst Q c.remove-key.ensures.items at));
    }
