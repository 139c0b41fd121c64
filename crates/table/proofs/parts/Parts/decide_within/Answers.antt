use Rattle.std.proofs.Common.{◌≡◌, ◌∙◌, ◌-◌, refl, arith, sym, ap, List}
use Rattle.table.specs.steps.Kept.{listed}
use Rattle.table.specs.steps.Walking.{state_of}
use Rattle.table.specs.walk.Walk.{Rest, Ends, GoesOn, walk_within}
use Rattle.table.proofs.laws.walk.WalkLaws.{within_end, within_long, within_hit, within_policy, verdict_in, verdict_after, depth_after, room_short, start_state, start_rests, start_depth}
use Rattle.table.proofs.parts.Parts.decide_within.Goals as goal

pub walk-init : goal.walk-init
walk-init g c =
    let rests = start_rests c.args.self.now.chains.slots c.args.self.now.order.items c.args.hook c.index.result.now c.start-at.result c.new-stack.result.items c.requires.hook c.index.ensures c.start-at.ensures c.new-stack.ensures in
    record {
      same = ap (λ (rs : List Rest). verdict_in (walk_within 65536 (listed c.args.self.now.chains.slots c.args.self.now.order.items) c.args.policy c.args.packet.now.values rs)) rests;
      state = start_state c.args.self.now.order.items c.args.hook c.index.result.now c.start-at.result c.new-stack.result.items c.requires.hook c.index.ensures c.start-at.ensures c.new-stack.ensures;
      depth = start_depth c.args.self.now.policies 65536 c.args.self.now.chains.slots c.args.self.now.order.items c.args.packet.now.values _ _ c.requires.kept rests;
      found = record { first = c.find.ensures.found; odd = tt; even = tt };
    }

pub returns-in_default-clause-some : goal.returns-in_default-clause-some
returns-in_default-clause-some g c =
    sym (ap verdict_in (within_end c.walk.left (listed c.args.self.now.chains.slots c.args.self.now.order.items) c.args.policy c.args.packet.now.values (state_of c.args.self.now.chains.slots c.walk.at c.walk.stack.items) c.in_default.ensures.none))
    ∙ c.walk.invariant.same

pub returns-then-left-eq0-clause-some : goal.returns-then-left-eq0-clause-some
returns-then-left-eq0-clause-some g c =
    sym (ap verdict_in (within_long c.walk.left (listed c.args.self.now.chains.slots c.args.self.now.order.items) c.args.policy c.args.packet.now.values (state_of c.args.self.now.chains.slots c.walk.at c.walk.stack.items)
    c.in-Some.ensures.some.hit c.in-Some.ensures.some.is c.if-left-eq0.true))
    ∙ c.walk.invariant.same

pub returns-in-Decided-clause-some : goal.returns-in-Decided-clause-some
returns-in-Decided-clause-some g c =
    sym (ap verdict_in (within_hit c.walk.left (listed c.args.self.now.chains.slots c.args.self.now.order.items) c.args.policy c.args.packet.now.values (state_of c.args.self.now.chains.slots c.walk.at c.walk.stack.items)
    c.in-Some.ensures.some.hit (Ends c.in-Decided.verdict) c.in-Some.ensures.some.is (c.in-Some.ensures.some.next ∙ c.in-Decided.ensures.follows c.args.self.now.chains.slots) (omega arith)))
    ∙ c.walk.invariant.same

pub returns-in-ByPolicy-clause-some : goal.returns-in-ByPolicy-clause-some
returns-in-ByPolicy-clause-some g c =
    sym (ap verdict_in (within_policy c.walk.left (listed c.args.self.now.chains.slots c.args.self.now.order.items) c.args.policy c.args.packet.now.values (state_of c.args.self.now.chains.slots c.walk.at c.walk.stack.items)
    c.in-Some.ensures.some.hit c.in-Some.ensures.some.is (c.in-Some.ensures.some.next ∙ c.in-ByPolicy.ensures.follows c.args.self.now.chains.slots) (omega arith)))
    ∙ c.walk.invariant.same

pub returns-in-StackFull-clause-none : goal.returns-in-StackFull-clause-none
returns-in-StackFull-clause-none g c =
    room_short _ c.walk.left c.args.self.now.chains.slots c.args.self.now.order.items c.args.packet.now.values (state_of c.args.self.now.chains.slots c.walk.at c.walk.stack.items) _ c.in-Some.flow c.advance.new.at
    c.advance.new.stack.items c.in-Some.ensures.some refl (omega arith) c.walk.invariant.depth (c.in-StackFull.ensures.full refl)

pub walk-preserved : goal.walk-preserved
walk-preserved g c =
    let goes : _ ≡ GoesOn (state_of c.args.self.now.chains.slots c.follow.new.at c.follow.new.stack.items) = c.in-Some.ensures.some.next ∙ c.in-Continues.ensures.follows c.args.self.now.chains.slots in
    record {
      same = sym (verdict_after c.in-Some.ensures.some.hit.entry
          (walk_within (c.walk.left - 1) (listed c.args.self.now.chains.slots c.args.self.now.order.items) c.args.policy c.args.packet.now.values (state_of c.args.self.now.chains.slots c.follow.new.at c.follow.new.stack.items)))
          ∙ sym (ap verdict_in (within_hit c.walk.left (listed c.args.self.now.chains.slots c.args.self.now.order.items) c.args.policy c.args.packet.now.values (state_of c.args.self.now.chains.slots c.walk.at c.walk.stack.items)
          c.in-Some.ensures.some.hit (GoesOn (state_of c.args.self.now.chains.slots c.follow.new.at c.follow.new.stack.items)) c.in-Some.ensures.some.is goes (omega arith)))
          ∙ c.walk.invariant.same;
      found = c.advance.ensures.found;
      state = c.in-Continues.ensures.state c.args.self.now.order.items c.in-Some.ensures.some.state c.in-Some.ensures.some.leads refl;
      depth = depth_after c.walk.left 1024 (listed c.args.self.now.chains.slots c.args.self.now.order.items) c.args.packet.now.values (state_of c.args.self.now.chains.slots c.walk.at c.walk.stack.items)
          (state_of c.args.self.now.chains.slots c.follow.new.at c.follow.new.stack.items) c.in-Some.ensures.some.hit c.in-Some.ensures.some.is goes (omega arith) c.walk.invariant.depth;
    }
