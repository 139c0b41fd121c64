use Rattle.questions.specs.Scopes.{answered, known_by}
use Rattle.questions.proofs.laws.ExactLaws.{all_shown, exact_walks_of}
use Rattle.questions.proofs.asked.exact.exact_walks.Goals as goal

pub returns-in-None : goal.returns-in-None
returns-in-None c = rw c.in-None.is at c.in_ok-leaves_under.ensures.steps

pub returns : goal.returns
returns c = λ a.
    let t = answered c.args.subject.now a in
    let known = known_by c.args.subject.now a in
    let hook = c.args.hook in
    let start = c.args.start in
    let found = c.in-Some.found.items in
    let shown = all_shown t known hook start found ((rw c.in-Some.is at c.in_ok-leaves_under.ensures.exact) a) ((rw c.in-Some.is at c.in_ok-leaves_under.ensures.decided) a) in
    exact_walks_of t known hook start found c.in_ok-exact_of-in-Some.field-0.items ((rw c.in-Some.is at c.in_ok-leaves_under.ensures.leaves) a)
    (rw (c.as_slice.ensures.value, c.as_slice-in-Some.ensures.value) at c.in_ok-exact_of-in-Some.ensures t known hook start c.in_ok-possible.ensures shown)
