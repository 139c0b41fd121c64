use Rattle.std.proofs.Common.{◌≡◌, inl, inr, true, ap, ◌∙◌}
use Rattle.rules.specs.rule.Allows.{matches}
use Rattle.rules.specs.rule.Rules.{Rule}
use Rattle.questions.proofs.seeking.parting.parts_without.Goals as goal

pub returns-then-are_less-clause-all : goal.returns-then-are_less-clause-all
returns-then-are_less-clause-all c = λ a p at here all.
    let (by, place, seen) = c.in-Some.ensures in
    let m : matches p.values c.in-Some.seen.rule.now ≡ true = ap (λ (r : Rule). matches p.values r) seen.rule ∙ all by place seen.is in
    elim (c.in_ok-add_matching.ensures.parted a p at here) [ inl there ↦ there | inr un ↦ absurd (un m) ]
