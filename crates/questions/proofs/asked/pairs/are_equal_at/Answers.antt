use Rattle.std.proofs.Common.{sym, ◌∙◌, true≢false}
use Rattle.rules.specs.rule.Rules.{empty_rule}
use Rattle.table.specs.chains.Table.{chain_at}
use Rattle.questions.specs.Scopes.{table_of}
use Rattle.questions.proofs.laws.SharedLaws.{rule_there}
use Rattle.std.proofs.lemmas.Slice.Eq.{slice_eq-Decides}
use Rattle.questions.proofs.laws.EqualLaws.{same_need}
use Rattle.questions.proofs.asked.pairs.are_equal_at.Goals as goal

-- the rules that were asked for are the next ones
pub returns-then-equals : goal.returns-then-equals
returns-then-equals c =
    let xs = (chain_at (table_of c.args.old.now) c.args.chains.old).rules in
    let ys = (chain_at (table_of c.args.new.now) c.args.chains.new).rules in
    let first = rule_there xs c.args.passed.old c.rule-rule.result.now empty_rule c.requires.first c.rule-rule.ensures in
    let second = rule_there ys c.args.passed.new c.rule.result.now empty_rule c.requires.second c.rule.ensures in
    let needs = slice_eq-Decides same_need c.at.result.now c.at-then-equals.result.now c.eq.result c.eq.ensures in (
      λ same. record { rules = first ∙ c.equals.ensures.value.0 c.if-equals.true ∙ sym second; needs = sym c.at.ensures ∙ needs.0 same ∙ c.at-then-equals.ensures },
      λ is. needs.1 (c.at.ensures ∙ is.needs ∙ sym c.at-then-equals.ensures),
    )

pub returns-else-equals : goal.returns-else-equals
returns-else-equals c =
    let xs = (chain_at (table_of c.args.old.now) c.args.chains.old).rules in
    let ys = (chain_at (table_of c.args.new.now) c.args.chains.new).rules in
    let first = rule_there xs c.args.passed.old c.rule-rule.result.now empty_rule c.requires.first c.rule-rule.ensures in
    let second = rule_there ys c.args.passed.new c.rule.result.now empty_rule c.requires.second c.rule.ensures in (
      λ true_is. absurd (true≢false (sym true_is ∙ c.if-equals.false)),
      λ is. c.equals.ensures.value.1 (sym first ∙ is.rules ∙ second),
    )
