use Rattle.questions.specs.steps.Seeking.{KeepsIn}
use Rattle.questions.proofs.laws.SeekLaws.{keeps_staying, keeps_unmatched, keeps_unseen, parts_none, parts_taken}
use Rattle.questions.proofs.seeking.straying.add_taken.Goals as goal

pub returns-in_default : goal.returns-in_default
returns-in_default c =
    let s = c.args.subject.now in
    parts_none (KeepsIn s c.args.by) c.args.scope.now c.args.scopes.now.items (λ a p at here. keeps_unseen s c.stands.ensures.sound c.args.by a p c.requires (λ is. c.in_default.ensures is))

pub returns-then-not-takes_out : goal.returns-then-not-takes_out
returns-then-not-takes_out c =
    let s = c.args.subject.now in
    let seen = c.in-Some.ensures in
    parts_none (KeepsIn s c.args.by) c.args.scope.now c.args.scopes.now.items
    (λ a p at here. keeps_staying s c.stands.ensures.sound c.args.by a p seen.is (λ l. c.takes_out.ensures.keeps c.if-not-takes_out.true (rw (c.target.ensures, seen.rule) l)))

pub returns-in_ok-add_matching : goal.returns-in_ok-add_matching
returns-in_ok-add_matching c =
    let seen = c.in-Some.ensures in
    let some = rw c.in-Some-2.is at c.in_ok-taken.ensures.all in
    parts_taken c.args.subject.now c.stands.ensures.sound c.args.by c.args.scope.now c.in-Some-2.taken c.args.scopes.now.items c.add_matching.new.scopes.items seen.is
    (λ a p at here m. some a p at here (rw seen.rule m.0) (rw seen.needs m.1)) (rw seen.rule at c.in_ok-add_matching.ensures)

pub returns-in_default-2 : goal.returns-in_default-2
returns-in_default-2 c =
    let s = c.args.subject.now in
    let seen = c.in-Some.ensures in
    let none = rw c.in_default-2.is at c.in_ok-taken.ensures.all in
    parts_none (KeepsIn s c.args.by) c.args.scope.now c.args.scopes.now.items
    (λ a p at here. keeps_unmatched s c.stands.ensures.sound c.args.by a p seen.is (λ m. none a p at here (rw seen.rule m.0) (rw seen.needs m.1)))
