use Rattle.classify.proofs.classifier.lines.make_way.Goals as goal

pub returns-then-not-have_room_after-clause-same : goal.returns-then-not-have_room_after-clause-same
returns-then-not-have_room_after-clause-same c k l lt = let closed = c.close_margins.ensures k l lt in (closed.same, closed.places)
