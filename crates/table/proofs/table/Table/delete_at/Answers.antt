use Rattle.std.proofs.Common.{◌∙◌, ◌-◌, sym, ap, [], ◌∷◌, length}
use Rattle.std.specs.Prelude.{remove}
use Rattle.table.proofs.laws.edits.AnswerLaws.{done, refused, nowhere, somewhere, holds, passes, count_found, changed_found}
use Rattle.table.specs.chains.Table.{rules_of}
use Rattle.table.specs.edits.Edits.{DeleteAt, NoSuchChain, NumberOutOfRange, out_of_range}
use Rattle.table.specs.steps.Kept.{table_of, view_of}
use Rattle.table.proofs.table.Table.delete_at.Goals as goal

pub returns-in_default : goal.returns-in_default
returns-in_default c =
    let t = table_of c.self.inside.parts in
    refused (DeleteAt c.args.chain.now c.args.number) c.self.view_is NoSuchChain
    (nowhere t c.args.chain.now (out_of_range c.args.number (length (rules_of t.chains c.args.chain.now)) ∷ []) (sym c.in_default.ensures.place))

pub returns-then-out_of_range : goal.returns-then-out_of_range
returns-then-out_of_range c =
    let p = c.self.inside.parts in
    let t = table_of p in
    let at = sym c.in-Some.ensures.place in
    let range = out_of_range c.args.number (length (rules_of t.chains c.args.chain.now)) in
    let many = count_found p c.args.chain.now c.in-Some.place c.in-Some.ensures.within at in
    refused (DeleteAt c.args.chain.now c.args.number) c.self.view_is NumberOutOfRange
    (somewhere t c.args.chain.now c.in-Some.place (range ∷ []) at ∙ holds range [] (ap (λ n. (out_of_range c.args.number n).0) (many ∙ sym c.count_at-last.ensures.value) ∙ sym c.out_of_range.ensures ∙ c.if-out_of_range.true))

pub returns : goal.returns
returns c =
    let p = c.self.inside.parts in
    let t = table_of p in
    let at = sym c.in-Some.ensures.place in
    let range = out_of_range c.args.number (length (rules_of t.chains c.args.chain.now)) in
    let many = count_found p c.args.chain.now c.in-Some.place c.in-Some.ensures.within at in
    done (DeleteAt c.args.chain.now c.args.number) c.self.view_is (view_of c.remove_rule.new.self)
    (somewhere t c.args.chain.now c.in-Some.place (range ∷ []) at ∙ passes range [] (ap (λ n. (out_of_range c.args.number n).0) (many ∙ sym c.count_at-last.ensures.value) ∙ sym c.out_of_range.ensures ∙ c.if-out_of_range.false))
    (changed_found p c.remove_rule.new.self c.args.chain.now c.in-Some.place (λ rules. remove rules (c.args.number - 1)) c.in-Some.ensures.within at c.remove_rule.ensures.table)
