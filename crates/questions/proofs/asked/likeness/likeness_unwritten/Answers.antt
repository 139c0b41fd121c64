use Rattle.std.proofs.Common.{inr}
use Rattle.questions.specs.Scopes.{whole_of}
use Rattle.questions.proofs.laws.CompareLaws.{given_in}
use Rattle.questions.proofs.laws.DifferLaws.{other_there, written_given}
use Rattle.questions.proofs.asked.likeness.likeness_unwritten.Goals as goal

pub returns-then-all_give-clause-same : goal.returns-then-all_give-clause-same
returns-then-all_give-clause-same c = λ new walked.
    given_in new c.args.hook c.args.leaf.now c.in_ok-exact.exact.items (c.in_ok-exact.ensures.walked (whole_of new) c.args.leaf.now.answers walked) (rw c.as_slice.ensures.value at (c.all_give.ensures.all c.if-all_give.true))

pub returns-clause-unclear : goal.returns-clause-unclear
returns-clause-unclear c = λ new budget walked.
    let whole = whole_of new in
    let leaf = c.args.leaf.now in
    let exact = c.in_ok-exact.exact.items in
    inr (
      other_there whole c.args.hook leaf exact (c.in_ok-exact.ensures.walked whole leaf.answers walked) (c.in_ok-exact.ensures.some whole leaf.answers walked) (rw c.as_slice.ensures.value at (c.all_give.ensures.some c.if-all_give.false)),
      written_given whole c.args.hook leaf c.args.found.now walked c.requires,
    )
