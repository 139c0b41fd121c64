use Rattle.std.proofs.Common.{sym, ◌∙◌}
use Rattle.questions.proofs.laws.NecessaryLaws.{enough_live, few_necessary}
use Rattle.questions.proofs.laws.PacketLaws.{written_at_hooks}
use Rattle.questions.proofs.asked.shortest.enough_of.Goals as goal

pub first_enough-requires-clause-can : goal.first_enough-requires-clause-can
first_enough-requires-clause-can c = written_at_hooks c.args.words.now c.in-Ok.packet (sym c.read.ensures.value ∙ c.in-Ok.is)

pub necessary_of-requires-clause-can : goal.necessary_of-requires-clause-can
necessary_of-requires-clause-can c = written_at_hooks c.args.words.now c.in-Ok.packet (sym c.read.ensures.value ∙ c.in-Ok.is)

pub returns-then-listed-gt-FEW-clause-enough : goal.returns-then-listed-gt-FEW-clause-enough
returns-then-listed-gt-FEW-clause-enough c =
    enough_live c.args.subject.now c.args.step c.args.words.now c.in-Ok.packet c.args.answers c.in_ok-first.first (sym c.read.ensures.value ∙ c.in-Ok.is) c.stand-then-listed-gt-FEW.ensures c.in_ok-first.ensures

pub returns-clause-enough : goal.returns-clause-enough
returns-clause-enough c =
    enough_live c.args.subject.now c.args.step c.args.words.now c.in-Ok.packet c.args.answers c.in_ok-enough.enough (sym c.read.ensures.value ∙ c.in-Ok.is) c.stand-2.ensures (λ all. c.in_ok-enough.ensures.enough (c.in_ok-first.ensures all))

pub returns-clause-few : goal.returns-clause-few
returns-clause-few c = λ _. few_necessary c.args.subject.now c.args.step c.args.words.now c.in-Ok.packet c.args.budget c.in_ok-enough.enough (sym c.read.ensures.value ∙ c.in-Ok.is) c.in_ok-enough.ensures.necessary
