use Rattle.std.proofs.Common.{List, All, Vec, Global}
use Rattle.std.proofs.lemmas.Result.{IfOk-weaker}
use Rattle.questions.specs.Scopes.{Whole, known_under, left_under, under}
use Rattle.questions.specs.asked.Differing.{HasPackets}
use Rattle.questions.specs.declared.foreign.answers.Answer.{Answer}
use Rattle.questions.specs.declared.walking.task.Leaf.{Leaf}
use Rattle.questions.specs.steps.Compared.{AreWalked}
use Rattle.questions.proofs.laws.DifferLaws.{each_has, walked_exact}
use Rattle.questions.proofs.asked.exact.exact_at.Goals as goal

pub returns-clause-walked : goal.returns-clause-walked
returns-clause-walked c =
    let hook = c.args.hook in
    let area = c.args.area.now in
    let found = c.args.found.now in
    let (there, met, are) = c.in_ok-possible.ensures in
    IfOk-weaker c.exact_of.result _ (λ (exact : Vec Leaf Global). (t : Whole) (answers : List Answer) → AreWalked t hook (under area answers) found → AreWalked t hook (under area answers) exact.items)
    (λ exact cut t answers walked. walked_exact hook area there met t answers found exact.items walked (λ a shown. cut (left_under t a) (known_under t a) hook (under there answers) are shown)) (rw c.as_slice.ensures.value at c.exact_of.ensures)

pub returns-clause-some : goal.returns-clause-some
returns-clause-some c =
    let hook = c.args.hook in
    let area = c.args.area.now in
    let found = c.args.found.now in
    let (there, met, are) = c.in_ok-possible.ensures in
    IfOk-weaker c.exact_of.result _ (λ (exact : Vec Leaf Global). (t : Whole) (answers : List Answer) → AreWalked t hook (under area answers) found → All (λ (leaf : Leaf). HasPackets hook leaf.area) exact.items)
    (λ exact cut t answers walked. each_has hook area there met t answers found exact.items walked (λ a shown. cut (left_under t a) (known_under t a) hook (under there answers) are shown)) (rw c.as_slice.ensures.value at c.exact_of.ensures)
