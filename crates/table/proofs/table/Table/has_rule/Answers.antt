use Rattle.std.proofs.Common.{◌∙◌, sym, refl, subst, Ok, [], ◌∷◌}
use Rattle.table.specs.chains.Table.{TableView}
use Rattle.table.specs.edits.Edits.{Has, IsStep, NoSuchChain, NoSuchRule, no_such_rule}
use Rattle.table.specs.steps.Kept.{table_of, view_of}
use Rattle.table.proofs.laws.edits.AnswerLaws.{done, refused, nowhere, somewhere, holds, passes, no_text, some_text}
use Rattle.table.proofs.table.Table.has_rule.Goals as goal

pub returns-in_default : goal.returns-in_default
returns-in_default c =
    let t = table_of c.self.inside.parts in
    refused (Has c.args.chain.now c.args.rule.now) c.self.view_is NoSuchChain (nowhere t c.args.chain.now (no_such_rule t c.args.chain.now c.args.rule.now ∷ []) (sym c.in_default.ensures.place))

pub returns-in-None : goal.returns-in-None
returns-in-None c =
    let p = c.self.inside.parts in
    let at = sym c.in-Some.ensures.place in
    let none = no_such_rule (table_of p) c.args.chain.now c.args.rule.now in
    refused (Has c.args.chain.now c.args.rule.now) c.self.view_is NoSuchRule
    (somewhere (table_of p) c.args.chain.now c.in-Some.place (none ∷ []) at ∙ holds none [] (no_text p c.args.chain.now c.in-Some.place c.args.rule.now c.in-Some.ensures.within at (sym c.in-None.ensures.value)))

pub returns-in-Some-rule_index : goal.returns-in-Some-rule_index
returns-in-Some-rule_index c =
    let p = c.self.inside.parts in
    let at = sym c.in-Some.ensures.place in
    let none = no_such_rule (table_of p) c.args.chain.now c.args.rule.now in
    let P : TableView → Type 0 = λ v. IsStep (Has c.args.chain.now c.args.rule.now) v v (Ok tt) in
    subst P c.self.view_is
    (done (Has c.args.chain.now c.args.rule.now) refl (view_of p)
    (somewhere (table_of p) c.args.chain.now c.in-Some.place (none ∷ []) at
    ∙ passes none [] (some_text p c.args.chain.now c.in-Some.place c.in-Some-rule_index.field-0 c.args.rule.now c.in-Some.ensures.within at (sym c.in-Some-rule_index.ensures.value))) refl)
