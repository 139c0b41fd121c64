use Rattle.std.proofs.Common.{◌∙◌, sym, List, [], ◌∷◌, ◌++◌, ℕ}
use Rattle.std.proofs.lemmas.List.{length-map}
use Rattle.std.specs.Prelude.{insert}
use Rattle.table.specs.edits.Edits.{Append, Cause, NoSuchChain, full, rule_causes}
use Rattle.table.specs.steps.Kept.{stored_in, table_of}
use Rattle.table.specs.steps.StoredChains.{rules_in}
use Rattle.table.proofs.laws.edits.AnswerLaws.{refused_if_room, nowhere, somewhere, name_found, changed_agree}
use Rattle.table.proofs.laws.edits.PutLaws.{put_found, insert_last}
use Rattle.table.proofs.table.Table.append.Goals as goal

pub returns-in_default-clause-step : goal.returns-in_default-clause-step
returns-in_default-clause-step c =
    let t = table_of c.self.inside.parts in
    let chain = c.args.chain.now in
    refused_if_room (Append chain c.args.rule) c.self.view_is NoSuchChain (nowhere t chain (rule_causes t chain c.args.rule ++ full t chain ∷ []) (sym c.in_default.ensures.place))

pub returns-clause-step : goal.returns-clause-step
returns-clause-step c =
    let p = c.self.inside.parts in
    let chain = c.args.chain.now in
    let rule = c.args.rule in
    let place = c.in-Some.place in
    let last = c.count_at-last.result in
    let at = sym c.in-Some.ensures.place in
    let within = c.in-Some.ensures.within in
    let causes : List ℕ → List Cause = λ (n : List ℕ). rule_causes (table_of p) n rule ++ full (table_of p) n ∷ [] in
    put_found (Append chain rule) p c.insert_rule.new.self chain place causes (λ rules. insert rules last rule) c.insert_rule.result c.self.view_is within at (somewhere (table_of p) chain place (causes chain) at)
    (changed_agree p chain place (λ rules. insert rules last rule) (λ rules. rules ++ rule ∷ []) c.self.invariant.kept.stored within (name_found p chain place within at)
    (insert_last (rules_in (stored_in p place)) rule last (c.count_at-last.ensures.value ∙ sym (length-map (stored_in p place).entries (λ x. x.rule)))))
    c.insert_rule.ensures.answer
