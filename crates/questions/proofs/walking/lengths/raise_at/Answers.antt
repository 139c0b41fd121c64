use Rattle.std.proofs.Common.{◌≡◌, ◌<◌, arith, length}
use Rattle.std.proofs.lemmas.List.{get_or_default}
use Rattle.questions.specs.steps.Lengths.{added_at}
use Rattle.questions.proofs.laws.LengthLaws.{raised, room_less}
use Rattle.questions.proofs.walking.lengths.raise_at.Goals as goal

pub returns-clause-raised : goal.returns-clause-raised
returns-clause-raised c =
    let t = c.args.table.now.table in
    let old = c.args.numbers.now.items in
    let is : c.added_at-least.result ≡ added_at t old c.args.place = rw c.as_slice.ensures.value at c.added_at-least.ensures in
    rw (← is) at (raised t old c.args.place c.requires.place (omega (arith, c.requires.long, c.requires.place)))

pub returns-clause-less : goal.returns-clause-less
returns-clause-less c = λ _.
    (let t = c.args.table.now.table in
    let old = c.args.numbers.now.items in
    let is : c.added_at-least.result ≡ added_at t old c.args.place = rw c.as_slice.ensures.value at c.added_at-least.ensures in
    let within : c.args.place < length old = omega (arith, c.requires.long, c.requires.place) in
    room_less old c.args.place c.added_at-least.result within
    (omega (arith, c.if-least-index.false, c.index.ensures, get_or_default old c.args.place 0 c.index.result.now within)) (omega (arith, is)))
