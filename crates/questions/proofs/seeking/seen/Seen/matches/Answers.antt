use Rattle.std.proofs.Common.{◌≡◌, ◌∙◌, ap, sym, true, false, ◌&&◌}
use Rattle.rules.specs.rule.Allows.{allows_each}
use Rattle.rules.specs.rule.Crossing.{cross}
use Rattle.questions.proofs.laws.AreaLaws.{box_of_rule}
use Rattle.questions.proofs.seeking.seen.Seen.matches.Goals.{After-has}
use Rattle.questions.proofs.seeking.seen.Seen.matches.Goals as goal

-- the box has the packet just where the rule allows each of its numbers
allowed : (c : After-has) → c.has.result ≡ allows_each c.args.packet.now.values c.args.self.now.rule.now
allowed c =
    let seen = c.args.self.now in
    c.has.ensures ∙ box_of_rule seen.rule.now seen.own.now c.args.packet.now.values seen.boxed c.requires.packet.within

pub returns-then-has : goal.returns-then-has
returns-then-has c =
    let rule = c.args.self.now.rule.now in
    let allows : allows_each c.args.packet.now.values rule ≡ true = sym (allowed (goal.at.returns-then-has c).After-has) ∙ c.if-has.true in
    c.cross.ensures ∙ sym (ap (λ b. b && cross c.args.packet.now.values rule) allows)

pub returns-else-has : goal.returns-else-has
returns-else-has c =
    let rule = c.args.self.now.rule.now in
    let lacks : allows_each c.args.packet.now.values rule ≡ false = sym (allowed (goal.at.returns-else-has c).After-has) ∙ c.if-has.false in
    c.if-has.false ∙ sym (ap (λ b. b && cross c.args.packet.now.values rule) lacks)
