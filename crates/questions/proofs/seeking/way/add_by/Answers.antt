use Rattle.std.proofs.Common.{[], ◌∷◌, ◌++◌, List, ◌∙◌, ap}
use Rattle.table.specs.declared.walk.trail.Step.{Step}
use Rattle.questions.specs.declared.seeking.way.Way.{Way}
use Rattle.questions.specs.Ends.{rule_at}
use Rattle.questions.specs.Scopes.{whole_of}
use Rattle.questions.specs.steps.Takers.{needs_of}
use Rattle.questions.specs.steps.Seeking.{IsLetOn, IsLonger}
use Rattle.questions.proofs.laws.SeekLaws.{taken_by, taken_never}
use Rattle.questions.proofs.laws.WayLaws.{adds_none, adds_one}
use Rattle.questions.proofs.seeking.way.add_by.Goals as goal

pub returns-in_default-clause-takes : goal.returns-in_default-clause-takes
returns-in_default-clause-takes c = taken_never c.args.subject.now c.stands.ensures.sound c.args.way.now c.args.by c.args.ways.now.items (λ a p at is here m. c.in_default.ensures is)

pub returns-in_default-2-clause-takes : goal.returns-in_default-2-clause-takes
returns-in_default-2-clause-takes c =
    let seen = c.in-Some.ensures in
    let none = rw c.in_default-2.is at c.in_ok-scope.ensures.all in
    taken_never c.args.subject.now c.stands.ensures.sound c.args.way.now c.args.by c.args.ways.now.items (λ a p at is here m. none a p at here (rw seen.rule m.0) (rw seen.needs m.1))

pub returns-clause-takes : goal.returns-clause-takes
returns-clause-takes c =
    let seen = c.in-Some.ensures in
    let some = rw c.in-Some-2.is at c.in_ok-scope.ensures.all in
    let more : Way = record { wanted = c.in_ok-more.more.wanted; scope = c.in_ok-more.more.scope; places = c.push.new.self } in
    taken_by c.args.subject.now c.stands.ensures.sound c.args.way.now more c.args.by c.args.ways.now.items c.push-2.new.self.items c.in_ok-more.ensures.wanted
    (c.in_ok-push.ensures.items ∙ ap (λ (places : List Step). places ++ c.args.by ∷ []) c.in_ok-more.ensures.places) c.in_ok-push-2.ensures.items
    (λ a p at own m. rw c.in_ok-more.ensures.scope (some a p at own (rw seen.rule m.0) (rw seen.needs m.1)))

pub returns-in_default-clause-longer : goal.returns-in_default-clause-longer
returns-in_default-clause-longer c = λ call. adds_none (IsLonger (whole_of c.args.subject.now) c.args.way.now) c.args.ways.now.items

pub returns-in_default-2-clause-longer : goal.returns-in_default-2-clause-longer
returns-in_default-2-clause-longer c = λ call. adds_none (IsLonger (whole_of c.args.subject.now) c.args.way.now) c.args.ways.now.items

pub returns-clause-longer : goal.returns-clause-longer
returns-clause-longer c = λ call.
    let more : Way = record { wanted = c.in_ok-more.more.wanted; scope = c.in_ok-more.more.scope; places = c.push.new.self } in
    let t = whole_of c.args.subject.now in
    let seen = c.in-Some.ensures in
    let only = rw c.in-Some-2.is at c.in_ok-scope.ensures.only in
    let scope : IsLetOn (rule_at t.table c.args.by) (needs_of t.needs c.args.by) c.args.way.now.scope c.in-Some-2.scope = rw (seen.rule, seen.needs) at only in
    adds_one (IsLonger (whole_of c.args.subject.now) c.args.way.now) c.args.ways.now.items c.push-2.new.self.items more c.in_ok-push-2.ensures.items (record {
      wanted = c.in_ok-more.ensures.wanted;
      by = c.args.by;
      enters = call;
      places = c.in_ok-push.ensures.items ∙ ap (λ (places : List Step). places ++ c.args.by ∷ []) c.in_ok-more.ensures.places;
      scope = rw c.in_ok-more.ensures.scope scope;
    })
