use Rattle.std.proofs.Common.{inr, refl}
use Rattle.questions.specs.boxes.Boxes.{IsAtHook}
use Rattle.questions.specs.Scopes.{whole_of}
use Rattle.questions.specs.declared.walking.scope.Scope.{Scope}
use Rattle.questions.specs.steps.Seeking.{TakesPlace, IsWayFor}
use Rattle.questions.proofs.laws.PacketLaws.{written_at_hooks}
use Rattle.questions.proofs.laws.WayLaws.{adds_ways_as}
use Rattle.questions.proofs.laws.WalksLaws.{come_live, only_of, taken_on}
use Rattle.questions.proofs.seeking.walked.walked.Goals as goal

pub returns-in_default : goal.returns-in_default
returns-in_default c = (
  refl,
  inr (
    c.args.sample.packet,
    written_at_hooks c.args.sample.words c.args.sample.packet c.requires.sample.writes,
    c.requires.sample.there,
    c.requires.sample.inside,
    (record { area = c.in_ok-area.area; answers = c.in_ok-answers.answers }, only_of c.in_ok-own.own c.in_ok-area.area c.args.sample.packet (written_at_hooks c.args.sample.words c.args.sample.packet c.requires.sample.writes) c.in_ok-own.ensures c.in_ok-area.ensures, c.in_ok-answers.ensures, rw c.in_default.is at c.in_ok-found.ensures.steps),
  ),
)

pub returns-in-Some-2 : goal.returns-in-Some-2
returns-in-Some-2 c =
    let s = c.args.subject.now in
    let p = c.args.sample.packet in
    let start : Scope = record { area = c.in_ok-area.area; answers = c.in_ok-answers.answers } in
    let can : IsAtHook p = written_at_hooks c.args.sample.words p c.requires.sample.writes in (
      come_live s c.stands.ensures.sound c.args.way.now.wanted c.requires.step c.args.course.hook start c.in-Some.found.items p c.args.sample.words c.in-Some-2.answers (rw c.in-Some.is at c.in_ok-found.ensures.exact)
          (rw (c.in-Some-2.is, c.as_slice.ensures.value, c.at-needs.ensures) at c.in_ok-answers-2.ensures) can c.requires.sample.there c.requires.sample.writes c.stand.ensures,
      (p, c.requires.sample),
    )

pub returns : goal.returns
returns c =
    let s = c.args.subject.now in
    let p = c.args.sample.packet in
    let way = c.args.way.now in
    let start : Scope = record { area = c.in_ok-area.area; answers = c.in_ok-answers.answers } in
    let can : IsAtHook p = written_at_hooks c.args.sample.words p c.requires.sample.writes in (
      taken_on s c.stands.ensures.sound way.wanted c.requires.step c.args.course.hook start c.in-Some.found.items way c.in_ok-own.own p c.args.ways.now.items c.add_all_but.new.ways.items refl c.in_ok-answers.ensures c.in_ok-area.ensures c.in_ok-own.ensures can
          (rw c.in-Some.is at c.in_ok-found.ensures.leaves) (rw (c.in_default-2.is, c.as_slice.ensures.value, c.at-needs.ensures) at c.in_ok-answers-2.ensures) c.in_ok-add_all_but.ensures.takes,
      adds_ways_as (IsWayFor way) (TakesPlace (whole_of s) way) c.args.ways.now.items c.add_all_but.new.ways.items (λ part is. inr is) c.in_ok-add_all_but.ensures.less,
    )

pub add_all_but-requires : goal.add_all_but-requires
add_all_but-requires c = (c.args.sample.packet, written_at_hooks c.args.sample.words c.args.sample.packet c.requires.sample.writes, c.requires.sample.inside, c.in_ok-own.ensures.inside)
