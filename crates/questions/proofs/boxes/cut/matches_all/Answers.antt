use Rattle.questions.proofs.laws.AreaLaws.{all_of_box}
use Rattle.questions.proofs.boxes.cut.matches_all.Goals as goal

pub returns-then-not-asks_both : goal.returns-then-not-asks_both
returns-then-not-asks_both c = λ is.
    all_of_box c.args.rule.now c.args.area.now c.args.own.now c.requires (c.has_all.ensures is) (c.asks_both.ensures.alone c.if-not-asks_both.true)
