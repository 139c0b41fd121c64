use Rattle.std.proofs.Common.{ℕ, ◌+◌, ◌-◌, List, get_or, inl, refl, subst, arith}
use Rattle.rules.specs.rule.Rules.{Rule, empty_rule}
use Rattle.table.specs.chains.Table.{chain_at}
use Rattle.questions.specs.boxes.Cut.{IsApart}
use Rattle.questions.proofs.laws.AreaLaws.{apart_of}
use Rattle.questions.proofs.boxes.candidates.next_from.Goals as goal

pub returns-then-is_outside : goal.returns-then-is_outside
returns-then-is_outside c = λ area outlined.
    let own : List Rule = (chain_at c.args.subject.now.table.table c.args.place).rules in
    let P : ℕ → Type 0 = λ j. IsApart (get_or own j empty_rule) area in
    let apart : IsApart (get_or own (c.args.passed + 1 - 1) empty_rule) area =
    apart_of (get_or own (c.args.passed + 1 - 1) empty_rule) area c.own_at.result.now c.own_at.ensures (c.is_outside.ensures c.if-is_outside.true area outlined) in
    inl (refl, subst P (omega arith) apart)
