use Rattle.std.proofs.Common.{◌∙◌, sym, ap, List, [], ◌∷◌, ℕ}
use Rattle.table.specs.edits.Edits.{DeleteChain, NoSuchChain, built_in, edited, fault_of}
use Rattle.table.specs.steps.Kept.{table_of, view_of}
use Rattle.table.proofs.laws.edits.MakeLaws.{fewer_unmarked}
use Rattle.table.proofs.laws.edits.AnswerLaws.{done, refused, nowhere, name_found}
use Rattle.table.proofs.laws.edits.DeleteLaws.{empty_cause, named_cause}
use Rattle.table.proofs.table.Table.delete_chain.Goals as goal

pub returns-in_default : goal.returns-in_default
returns-in_default c =
    let t = table_of c.self.inside.parts in
    let chain = c.args.chain.now in
    refused (DeleteChain chain) c.self.view_is NoSuchChain (nowhere t chain (built_in chain ∷ empty_cause t chain ∷ named_cause t chain ∷ []) (sym c.in_default.ensures.place))

pub returns-in-Some-refusal : goal.returns-in-Some-refusal
returns-in-Some-refusal c =
    let p = c.self.inside.parts in
    let named = name_found p c.args.chain.now c.in-Some.place c.in-Some.ensures.within (sym c.in-Some.ensures.place) in
    refused (DeleteChain c.args.chain.now) c.self.view_is c.in-Some-refusal.fault (ap (λ (n : List ℕ). fault_of (DeleteChain n) (table_of p)) (sym named) ∙ sym c.in-Some-refusal.ensures)

pub returns : goal.returns
returns c =
    let p = c.self.inside.parts in
    let named = name_found p c.args.chain.now c.in-Some.place c.in-Some.ensures.within (sym c.in-Some.ensures.place) in
    done (DeleteChain c.args.chain.now) c.self.view_is (view_of c.remove_chain.new.self)
    (ap (λ (n : List ℕ). fault_of (DeleteChain n) (table_of p)) (sym named) ∙ sym c.in_default-refusal.ensures)
    (c.remove_chain.ensures.table ∙ ap (λ (n : List ℕ). edited (DeleteChain n) (table_of p)) named)

pub invariant_of-self : goal.invariant_of-self
invariant_of-self c =
    record { kept = c.remove_chain.ensures.kept; unmarked = fewer_unmarked c.self.inside.parts.order.items c.remove_chain.new.self.order.items c.self.inside.seen.items c.self.invariant.unmarked c.remove_chain.ensures.fewer }
