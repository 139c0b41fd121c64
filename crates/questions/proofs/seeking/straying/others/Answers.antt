use Rattle.std.proofs.Common.{◌≡◌, ◌<◌, Some, inl, inr, sym, arith, slice_get}
use Rattle.questions.proofs.laws.SeekLaws.{here_in_copy, not_away}
use Rattle.questions.proofs.seeking.straying.others.Goals as goal

pub returns-then-branch : goal.returns-then-branch
returns-then-branch c = λ a p at may.
    let by = c.in-Some.by.now in
    let first : slice_get c.args.path.now 0 ≡ Some by = sym c.in-Some.ensures.value in
    let parts = rw first at (c.in_ok-part_from.ensures c.if-branch.true) in
    let some : 0 < by.number = omega (arith, c.if-by-eq0.false) in
    elim (parts.parted a p at (here_in_copy a p c.args.way.now.scope c.in_ok-scope.scope at c.in_ok-scope.ensures may.here)) [
      | inl there ↦ there
      | inr away ↦ absurd (not_away c.args.subject.now c.stands.ensures.sound a p c.args.way.now by c.in-Some-place_behind._place some c.in-Some-place_behind.ensures may away)
    ]
