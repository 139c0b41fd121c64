use Rattle.std.proofs.Common.{◌∙◌, ◌-◌, refl, sym, ap, List, ◌∷◌, ℕ, length}
use Rattle.std.specs.Prelude.{slice_set}
use Rattle.table.specs.chains.Table.{rules_of}
use Rattle.table.specs.edits.Edits.{Replace, Cause, NoSuchChain, NumberOutOfRange, out_of_range, rule_causes}
use Rattle.table.specs.steps.Kept.{table_of}
use Rattle.table.proofs.laws.edits.AnswerLaws.{refused_if_room, nowhere, somewhere, holds, passes, count_found}
use Rattle.table.proofs.laws.edits.PutLaws.{put_found}
use Rattle.table.proofs.table.Table.replace.Goals as goal

pub returns-in_default-clause-step : goal.returns-in_default-clause-step
returns-in_default-clause-step c =
    let t = table_of c.self.inside.parts in
    let chain = c.args.chain.now in
    let range : Cause = out_of_range c.args.number (length (rules_of t.chains chain)) in
    refused_if_room (Replace chain c.args.number c.args.rule) c.self.view_is NoSuchChain (nowhere t chain (range ∷ (rule_causes t chain c.args.rule)) (sym c.in_default.ensures.place))

pub returns-then-out_of_range-clause-step : goal.returns-then-out_of_range-clause-step
returns-then-out_of_range-clause-step c =
    let p = c.self.inside.parts in
    let t = table_of p in
    let chain = c.args.chain.now in
    let range : Cause = out_of_range c.args.number (length (rules_of t.chains chain)) in
    let at = sym c.in-Some.ensures.place in
    let last = ap (λ n. (out_of_range c.args.number (n)).0) (count_found p chain c.in-Some.place c.in-Some.ensures.within at ∙ sym c.count_at-last.ensures.value) in
    refused_if_room (Replace chain c.args.number c.args.rule) c.self.view_is NumberOutOfRange
    (somewhere t chain c.in-Some.place (range ∷ (rule_causes t chain c.args.rule)) at ∙ holds range (rule_causes t chain c.args.rule) (last ∙ sym c.out_of_range.ensures ∙ c.if-out_of_range.true))

pub returns-clause-step : goal.returns-clause-step
returns-clause-step c =
    let p = c.self.inside.parts in
    let t = table_of p in
    let chain = c.args.chain.now in
    let rule = c.args.rule in
    let range : Cause = out_of_range c.args.number (length (rules_of t.chains chain)) in
    let at = sym c.in-Some.ensures.place in
    let last = ap (λ n. (out_of_range c.args.number (n)).0) (count_found p chain c.in-Some.place c.in-Some.ensures.within at ∙ sym c.count_at-last.ensures.value) in
    let causes : List ℕ → List Cause = λ (n : List ℕ). (rule_causes t n rule) in
    put_found (Replace chain c.args.number rule) p c.replace_rule.new.self chain c.in-Some.place causes (λ rules. slice_set rules (c.args.number - 1) rule) c.replace_rule.result c.self.view_is c.in-Some.ensures.within at
    (somewhere t chain c.in-Some.place (range ∷ causes chain) at ∙ passes range (causes chain) (last ∙ sym c.out_of_range.ensures ∙ c.if-out_of_range.false)) refl c.replace_rule.ensures.answer
