use Rattle.std.proofs.Common.{◌<◌, length, arith}
use Rattle.std.proofs.lemmas.List.Sums.{list_all-from_AllPass}
use Rattle.questions.specs.Foreign.{need_holds}
use Rattle.questions.proofs.laws.AnswerLaws.{agrees_before, all_more, each_holds, is_met, never_met, one_holds, wanted_holds}
use Rattle.questions.proofs.foreign.need.meeting.Goals as goal
use Rattle.questions.proofs.foreign.need.meeting.Goals.{in-None+in_ok-add-in-None, in-Some+else-holds-wanted}

pub returns-then-holds-wanted : goal.returns-then-holds-wanted
returns-then-holds-wanted c =
    never_met c.args.needs.now c.args.answers c.loop-wanted.answers c.loop-wanted.wanted-index _ c.loop-wanted-test.true c.loop-wanted.invariant.all c.in-Some.holds c.in-Some.ensures.answered c.if-holds-wanted.true

pub loop-wanted-preserved : goal.loop-wanted-preserved
loop-wanted-preserved c =
    let needs = c.args.needs.now in
    let i = c.loop-wanted.wanted-index in
    let inv = c.loop-wanted.invariant in
    let within : i < length needs = c.loop-wanted-test.true in
    elim c.match-to.branch [
      | in-None+in_ok-add-in-None w ↦ rw (w.answers-is, w.in_ok-add-in-None.ensures) (record {
        all = λ a agrees each. all_more needs c.args.answers c.loop-wanted.answers i _ within inv.all a agrees each;
        own = λ a agrees. inv.own a (agrees_before a c.loop-wanted.answers _ agrees);
        met = λ a agrees. one_holds a needs i _ within (inv.met a (agrees_before a c.loop-wanted.answers _ agrees)) (wanted_holds a _ c.loop-wanted.answers agrees);
      })
      | in-Some+else-holds-wanted w ↦ rw w.answers-is (record {
        all = λ a agrees each. inv.all a agrees (λ k e lt. each k e (omega (arith, lt)));
        own = inv.own;
        met = λ a agrees. one_holds a needs i _ within (inv.met a agrees) (is_met c.loop-wanted.answers _ w.in-Some.holds w.in-Some.ensures.answered w.if-holds-wanted.false a agrees);
      })
    ]

pub returns : goal.returns
returns c = record {
  consistent = c.stand.ensures;
  all = λ a agrees held. c.loop-wanted.invariant.all a agrees (λ k d lt. each_holds a c.args.needs.now held k d (omega (arith, lt, c.loop-wanted.auto.wanted-index-end)));
  own = λ a agrees. (c.loop-wanted.invariant.own a agrees, list_all-from_AllPass (need_holds a) c.args.needs.now (λ k d lt. c.loop-wanted.invariant.met a agrees k d (omega (arith, lt, c.loop-wanted-test.false))));
}
