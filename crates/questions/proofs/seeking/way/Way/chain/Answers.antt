use Rattle.std.proofs.Common.{sym, ap}
use Rattle.table.specs.declared.walk.trail.Step.{Step}
use Rattle.questions.proofs.laws.SeekLaws.{top_is_last}
use Rattle.questions.proofs.seeking.way.Way.chain.Goals as goal

pub returns-in-Some : goal.returns-in-Some
returns-in-Some c =
    let e = rw c.deref.ensures.value at c.in-Some.ensures.value in
    sym (ap (λ (s : Step). s.chain) (top_is_last c.args.self.now.wanted c.args.self.now.places.items c.in-Some.place.now (sym e)))
