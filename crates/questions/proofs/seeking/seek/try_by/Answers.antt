use Rattle.std.proofs.Common.{inl, inr}
use Rattle.questions.specs.Foreign.{Agrees, Assignment}
use Rattle.questions.specs.Leaves.{entry_of}
use Rattle.questions.specs.Scopes.{answered, table_of, whole_of}
use Rattle.questions.specs.asked.Rule.{IsLiveAt}
use Rattle.questions.specs.steps.Seeking.{IsForOne, TakesPlace, IsLonger}
use Rattle.questions.proofs.laws.PacketLaws.{written_at_hooks}
use Rattle.questions.proofs.laws.ResolvedLaws.{entry_left}
use Rattle.questions.proofs.laws.SeekLaws.{all_match}
use Rattle.questions.proofs.laws.TakerLaws.{met_on}
use Rattle.questions.proofs.laws.WayLaws.{adds_ways_as, one_less}
use Rattle.questions.proofs.seeking.seek.try_by.Goals as goal

pub is_shown-requires-clause-can : goal.is_shown-requires-clause-can
is_shown-requires-clause-can c = written_at_hooks c.args.sample.words c.args.sample.packet c.requires.sample.writes

pub returns-then-branch : goal.returns-then-branch
returns-then-branch c =
    let s = c.args.subject.now in
    let sample = c.args.sample in
    let step = c.args.way.now.wanted in
    let live : (a : Assignment) → Agrees a c.in-Comes.answers → IsLiveAt (answered s a) (entry_of (answered s a).chains step) c.args.course.hook sample.words =
    λ a agrees.
    (sample.packet, c.requires.sample.writes, c.requires.sample.there, rw (← entry_left s.needs.now a (table_of s) step) at (c.in_ok-is_shown-in-Comes.ensures c.if-branch.true a agrees)) in
    ((c.stand.ensures, live), (sample.packet, c.requires.sample))

-- another chain, which rules enter
pub returns-then-begins_elsewhere : goal.returns-then-begins_elsewhere
returns-then-begins_elsewhere c =
    let t = whole_of c.args.subject.now in
    let way = c.args.way.now in
    let takes = c.in_ok-add_longer-in-Comes.ensures.takes in
    (record { kept = takes.kept; taken = λ a p at there on may. takes.taken a p at there may; wanted = takes.wanted }, adds_ways_as (IsLonger t way) (TakesPlace t way) c.args.ways.now.items c.add_longer.new.ways.items (λ next is. inl is) c.in_ok-add_longer-in-Comes.ensures.longer)

-- packets that are led away
pub returns-in-Some-2 : goal.returns-in-Some-2
returns-in-Some-2 c =
    let s = c.args.subject.now in
    let way = c.args.way.now in
    let scopes = c.in-Some-2.scopes.items in
    let all = rw c.in-Some-2.is at c.in_ok-scopes-in-Strays.ensures.all in
    let less = rw c.in-Some-2.is at c.in_ok-scopes-in-Strays.ensures.less in
    let done = c.in_ok-add_parts-in-Strays.ensures in (
      record { kept = λ a q h. done.takes.kept s a q h; taken = λ a q at there on may. done.takes.taken s a q may (all a q at may); wanted = done.takes.wanted },
      adds_ways_as (IsForOne way scopes) (TakesPlace (whole_of s) way) c.args.ways.now.items c.add_parts-in-Some-2.new.ways.items (λ part is. inr (one_less way scopes less part is)) done.each,
    )

-- packets that some rule of the way doesn't match
pub returns-in-Some : goal.returns-in-Some
returns-in-Some c =
    let s = c.args.subject.now in
    let way = c.args.way.now in
    let scopes = c.in-Some.scopes.items in
    let all = rw c.in-Some.is at c.in_ok-scopes.ensures.all in
    let less = rw c.in-Some.is at c.in_ok-scopes.ensures.less in
    let done = c.in_ok-add_parts.ensures in (
      record {
        kept = λ a q h. done.takes.kept s a q h;
        taken = λ a q at there on may. done.takes.taken s a q may (all a q at may.here (all_match s c.stands.ensures.sound a q way (met_on s a q way.wanted c.args.course.hook c.stands.ensures.sound c.requires.step at there on).matched.matched may));
        wanted = done.takes.wanted;
      },
      adds_ways_as (IsForOne way scopes) (TakesPlace (whole_of s) way) c.args.ways.now.items c.add_parts.new.ways.items (λ part is. inr (one_less way scopes less part is)) done.each,
    )
