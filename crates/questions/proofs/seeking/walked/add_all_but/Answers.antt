use Rattle.std.proofs.Common.{[], List, subst, sym, All}
use Rattle.questions.specs.declared.walking.scope.Scope.{Scope}
use Rattle.questions.specs.steps.Seeking.{AddsBoxes, IsForOne, IsWayFor, IsBoxUnder}
use Rattle.questions.proofs.laws.SeekLaws.{point_of}
use Rattle.questions.proofs.laws.WayLaws.{adds_ways_as, but_less, met_by, one_less}
use Rattle.questions.proofs.seeking.walked.add_all_but.Goals as goal

pub outside-requires-clause-met : goal.outside-requires-clause-met
outside-requires-clause-met c =
    let (p, can, in_way, in_own) = c.requires in
    rw (c.sets.ensures.value, c.sets-2.ensures.value) (met_by p c.args.way.now.scope.area c.args.own.now (point_of p can) in_way in_own)

pub returns-clause-takes : goal.returns-clause-takes
returns-clause-takes c =
    let all = rw (c.sets.ensures.value, c.sets-2.ensures.value) at c.in_ok-parts.ensures.all in
    let done = c.in_ok-add_parts.ensures.takes in
    record {
      kept = done.kept;
      wanted = done.wanted;
      taken = λ s a p can may off. done.taken s a p may (c.in_ok-add_boxes.ensures.each a p (all p.values (point_of p can) may.here.0 off) may.here.1);
    }

pub returns-clause-less : goal.returns-clause-less
returns-clause-less c =
    let (p, can, in_way, in_own) = c.requires in
    let way = c.args.way.now in
    let parts = c.in_ok-parts.parts.items in
    let scopes = c.add_boxes.new.scopes.items in
    let only = rw (c.sets.ensures.value, c.sets-2.ensures.value) at c.in_ok-parts.ensures.only in
    let added : AddsBoxes parts way.scope.answers [] scopes = subst (λ (old : List Scope). AddsBoxes parts way.scope.answers old scopes) c.new-scopes.ensures.items c.in_ok-add_boxes.ensures in
    let less = but_less p way.scope c.args.own.now parts scopes (point_of p can) in_way in_own only (subst (All (IsBoxUnder parts way.scope.answers)) (sym added.only.1) added.only.2) in
    adds_ways_as (IsForOne way scopes) (IsWayFor way) c.args.ways.now.items c.add_parts.new.ways.items (one_less way scopes less) c.in_ok-add_parts.ensures.each
