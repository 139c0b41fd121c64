use Rattle.questions.proofs.boxes.area.Area.copy.Goals as goal

pub returns : goal.returns
returns c = rw c.sets.ensures.value at c.within.ensures
