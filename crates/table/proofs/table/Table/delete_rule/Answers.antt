use Rattle.std.proofs.Common.{◌∙◌, sym, [], ◌∷◌}
use Rattle.std.specs.Prelude.{remove}
use Rattle.table.specs.edits.Edits.{DeleteRule, NoSuchChain, NoSuchRule, no_such_rule, without_first}
use Rattle.table.proofs.laws.edits.AnswerLaws.{done, refused, nowhere, somewhere, holds, passes, name_found, changed_found, changed_agree, no_text, some_text, without_found}
use Rattle.table.specs.steps.Kept.{stored_in, table_of, view_of}
use Rattle.table.proofs.table.Table.delete_rule.Goals as goal

pub returns-in_default : goal.returns-in_default
returns-in_default c =
    let t = table_of c.self.inside.parts in
    refused (DeleteRule c.args.chain.now c.args.rule.now) c.self.view_is NoSuchChain (nowhere t c.args.chain.now (no_such_rule t c.args.chain.now c.args.rule.now ∷ []) (sym c.in_default.ensures.place))

pub returns-in_default-rule_index : goal.returns-in_default-rule_index
returns-in_default-rule_index c =
    let p = c.self.inside.parts in
    let at = sym c.in-Some.ensures.place in
    let none = no_such_rule (table_of p) c.args.chain.now c.args.rule.now in
    refused (DeleteRule c.args.chain.now c.args.rule.now) c.self.view_is NoSuchRule
    (somewhere (table_of p) c.args.chain.now c.in-Some.place (none ∷ []) at ∙ holds none [] (no_text p c.args.chain.now c.in-Some.place c.args.rule.now c.in-Some.ensures.within at (sym c.in_default-rule_index.ensures.value)))

pub returns : goal.returns
returns c =
    let p = c.self.inside.parts in
    let place = c.in-Some.place in
    let at = sym c.in-Some.ensures.place in
    let within = c.in-Some.ensures.within in
    let found = sym c.in-Some-rule_index.ensures.value in
    let n = c.in-Some-rule_index.at in
    let none = no_such_rule (table_of p) c.args.chain.now c.args.rule.now in
    done (DeleteRule c.args.chain.now c.args.rule.now) c.self.view_is (view_of c.remove_rule.new.self)
    (somewhere (table_of p) c.args.chain.now place (none ∷ []) at ∙ passes none [] (some_text p c.args.chain.now place n c.args.rule.now within at found))
    (changed_found p c.remove_rule.new.self c.args.chain.now place (λ rules. remove rules n) within at c.remove_rule.ensures.table
    ∙ changed_agree p c.args.chain.now place (λ rules. remove rules n) (without_first c.args.rule.now) c.self.invariant.kept.stored within (name_found p c.args.chain.now place within at)
    (sym (without_found c.args.rule.now (stored_in p place).entries n found)))
