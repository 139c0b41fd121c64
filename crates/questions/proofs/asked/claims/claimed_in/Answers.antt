use Rattle.std.proofs.Common.{inr}
use Rattle.questions.specs.Scopes.{whole_of}
use Rattle.questions.specs.declared.asked.reach.Given.{Given}
use Rattle.questions.proofs.laws.ClaimLaws.{fails_by, none_is, none_written, some_is}
use Rattle.questions.proofs.asked.claims.claimed_in.Goals as goal

pub returns-then-none_has : goal.returns-then-none_has
returns-then-none_has c =
    let given : Given = record { hook = c.args.hook; area = c.args.area.now } in
    none_is (whole_of c.args.subject.now) given c.args.forbidden.now c.in-Some.exact.items (rw c.in-Some.is at c.in_ok-exact.ensures) (rw c.as_slice.ensures.value at (c.none_has.ensures.none c.if-none_has.true))

pub returns-in-None : goal.returns-in-None
returns-in-None c =
    let given : Given = record { hook = c.args.hook; area = c.args.area.now } in
    let walked = rw c.in-Some.is at c.in_ok-exact.ensures in
    inr (
      some_is (whole_of c.args.subject.now) given c.args.forbidden.now c.in-Some.exact.items walked (rw c.as_slice.ensures.value at (c.none_has.ensures.some c.if-none_has.false)),
      none_written (whole_of c.args.subject.now) given c.args.forbidden.now c.in-Some.exact.items walked (rw (c.in-None.is, c.as_slice-2.ensures.value) at c.in_ok-against.ensures),
    )

pub returns : goal.returns
returns c =
    let given : Given = record { hook = c.args.hook; area = c.args.area.now } in
    fails_by (whole_of c.args.subject.now) given c.args.forbidden.now c.in-Some.exact.items (rw c.in-Some.is at c.in_ok-exact.ensures) c.in-Some-2.shown (rw (c.in-Some-2.is, c.as_slice-2.ensures.value) at c.in_ok-against.ensures)
