use Rattle.std.proofs.Common.{◌∙◌, sym, ap, subst, List, ℕ}
use Rattle.std.specs.Prelude.{insert}
use Rattle.table.specs.steps.Kept.{IsKept, table_with}
use Rattle.table.proofs.laws.edits.MakeLaws.{IsAdded, kept_made, table_made}
use Rattle.table.proofs.parts.Parts.make.Goals as goal

pub returns-in-Ok-insert-clause-kept : goal.returns-in-Ok-insert-clause-kept
returns-in-Ok-insert-clause-kept c =
    let slots = c.args.self.now.chains.slots in
    let order = c.args.self.now.order.items in
    let key = c.in-Ok.key in
    let P : List ℕ → Type 0 = λ ks. IsKept c.args.self.now.policies c.insert.new.self.slots ks in
    let is = c.in-Ok-insert.ensures.items ∙ ap (λ (ks : List ℕ). insert ks c.args.place key) c.reserve.ensures.items in
    let a : IsAdded slots c.insert.new.self.slots key c.in_ok-chain.chain =
    record { was = c.in-Ok.ensures.was_vacant; is = c.in-Ok.ensures.updates.changed; others = c.in-Ok.ensures.updates.others } in
    subst P (sym is)
    (kept_made c.args.self.now.policies slots c.insert.new.self.slots order c.args.place key c.in_ok-chain.chain c.args.name c.requires.kept a c.requires.place c.in_ok-chain.ensures.name c.in_ok-chain.ensures.entries
    c.in_ok-chain.ensures.references c.in_ok-chain.ensures.classified c.requires.accepted)

pub returns-in-Ok-insert-clause-ok : goal.returns-in-Ok-insert-clause-ok
returns-in-Ok-insert-clause-ok c =
    let slots = c.args.self.now.chains.slots in
    let order = c.args.self.now.order.items in
    let key = c.in-Ok.key in
    let is = c.in-Ok-insert.ensures.items ∙ ap (λ (ks : List ℕ). insert ks c.args.place key) c.reserve.ensures.items in
    let a : IsAdded slots c.insert.new.self.slots key c.in_ok-chain.chain =
    record { was = c.in-Ok.ensures.was_vacant; is = c.in-Ok.ensures.updates.changed; others = c.in-Ok.ensures.updates.others } in
    ap (table_with c.args.self.now.policies c.insert.new.self.slots) is
    ∙ table_made c.args.self.now.policies slots c.insert.new.self.slots order c.args.place key c.in_ok-chain.chain c.args.name c.requires.kept.stored a c.requires.place c.in_ok-chain.ensures.name c.in_ok-chain.ensures.entries
