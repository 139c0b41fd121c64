use Rattle.std.proofs.Common.{◌≡◌, ◌∙◌, ◌-◌, ◌++◌, ◌∷◌, refl, arith, sym, ap, map, true, false, List, [], Some, unwrap_or}
use Rattle.table.specs.steps.Kept.{listed}
use Rattle.table.specs.steps.Walking.{state_of}
use Rattle.table.specs.walk.Walk.{shown, Rest, Ends, GoesOn, at_end, decided, with_entry, walk_within, too_long}
use Rattle.table.specs.declared.verdict.Verdict.TheVariants as verdict
use Rattle.table.proofs.laws.walk.WalkLaws.{within_end, within_long, within_hit, within_policy, depth_after, room_short, start_state, start_rests, start_depth, after, after_none, after_one, shown_end, shown_one, shows_end, shows_long}
use Rattle.table.proofs.parts.Parts.trace_within.Goals as goal

pub walk-init : goal.walk-init
walk-init g c =
    let rests = start_rests c.args.self.now.chains.slots c.args.self.now.order.items c.args.hook c.index.result.now c.start-at.result c.new-stack.result.items c.requires.hook c.index.ensures c.start-at.ensures c.new-stack.ensures in
    let within = λ (rs : List Rest). walk_within 65536 (listed c.args.self.now.chains.slots c.args.self.now.order.items) c.args.policy c.args.packet.now.values rs in
    record {
      entries = [];
      shown = sym (ap (map Some) c.new-steps.ensures.items);
      same = after_none (within (state_of c.args.self.now.chains.slots c.start-at.result c.new-stack.result.items)) ∙ ap (λ (rs : List Rest). unwrap_or (within rs) too_long) rests;
      state = start_state c.args.self.now.order.items c.args.hook c.index.result.now c.start-at.result c.new-stack.result.items c.requires.hook c.index.ensures c.start-at.ensures c.new-stack.ensures;
      depth = start_depth c.args.self.now.policies 65536 c.args.self.now.chains.slots c.args.self.now.order.items c.args.packet.now.values _ _ c.requires.kept rests;
      found = record { first = c.find.ensures.found; odd = tt; even = tt };
      last = c.requires.hook;
    }

pub returns-in_default-clause-some : goal.returns-in_default-clause-some
returns-in_default-clause-some g c =
    shows_end (listed c.args.self.now.chains.slots c.args.self.now.order.items) c.walk.invariant.entries (walk_within c.walk.left (listed c.args.self.now.chains.slots c.args.self.now.order.items) c.args.policy c.args.packet.now.values (state_of c.args.self.now.chains.slots c.walk.at c.walk.stack.items)) (at_end c.args.policy) _ (record { steps = c.walk.steps; verdict = c.args.policy; by_policy = true }) c.undecided.result
    (within_end c.walk.left (listed c.args.self.now.chains.slots c.args.self.now.order.items) c.args.policy c.args.packet.now.values (state_of c.args.self.now.chains.slots c.walk.at c.walk.stack.items) c.in_default.ensures.none) c.walk.invariant.same (shown_end (listed c.args.self.now.chains.slots c.args.self.now.order.items) c.walk.invariant.entries c.walk.steps.items c.walk.invariant.shown) refl refl c.undecided.ensures

pub returns-then-left-eq0-clause-some : goal.returns-then-left-eq0-clause-some
returns-then-left-eq0-clause-some g c =
    shows_long (listed c.args.self.now.chains.slots c.args.self.now.order.items) c.walk.invariant.entries (walk_within c.walk.left (listed c.args.self.now.chains.slots c.args.self.now.order.items) c.args.policy c.args.packet.now.values (state_of c.args.self.now.chains.slots c.walk.at c.walk.stack.items)) _ (record { steps = c.new.result; verdict = verdict.TooLong; by_policy = false }) c.decided.result
    (within_long c.walk.left (listed c.args.self.now.chains.slots c.args.self.now.order.items) c.args.policy c.args.packet.now.values (state_of c.args.self.now.chains.slots c.walk.at c.walk.stack.items) c.in-Some.ensures.some.hit c.in-Some.ensures.some.is c.if-left-eq0.true) c.walk.invariant.same c.new.ensures.items refl refl c.decided.ensures

pub returns-in-Decided-clause-some : goal.returns-in-Decided-clause-some
returns-in-Decided-clause-some g c =
    shows_end (listed c.args.self.now.chains.slots c.args.self.now.order.items) c.walk.invariant.entries (walk_within c.walk.left (listed c.args.self.now.chains.slots c.args.self.now.order.items) c.args.policy c.args.packet.now.values (state_of c.args.self.now.chains.slots c.walk.at c.walk.stack.items)) (decided c.in-Some.ensures.some.hit.entry c.in-Decided.verdict) _ (record { steps = c.push.new.self; verdict = c.in-Decided.verdict; by_policy = false }) c.decided-in-Decided.result
    (within_hit c.walk.left (listed c.args.self.now.chains.slots c.args.self.now.order.items) c.args.policy c.args.packet.now.values (state_of c.args.self.now.chains.slots c.walk.at c.walk.stack.items) c.in-Some.ensures.some.hit (Ends c.in-Decided.verdict) c.in-Some.ensures.some.is (c.in-Some.ensures.some.next ∙ c.in-Decided.ensures.follows c.args.self.now.chains.slots) (omega arith)) c.walk.invariant.same
    (shown_one (listed c.args.self.now.chains.slots c.args.self.now.order.items) c.walk.invariant.entries c.walk.steps.items c.push.new.self.items c.in-Some.ensures.some.hit.entry c.step_before-step.result c.walk.invariant.shown (ap (shown (listed c.args.self.now.chains.slots c.args.self.now.order.items)) c.in-Some.ensures.some.entry ∙ c.step_before-step.ensures.shown) c.in_ok-push.ensures.items) refl refl c.decided-in-Decided.ensures

pub returns-in-ByPolicy-clause-some : goal.returns-in-ByPolicy-clause-some
returns-in-ByPolicy-clause-some g c =
    shows_end (listed c.args.self.now.chains.slots c.args.self.now.order.items) c.walk.invariant.entries (walk_within c.walk.left (listed c.args.self.now.chains.slots c.args.self.now.order.items) c.args.policy c.args.packet.now.values (state_of c.args.self.now.chains.slots c.walk.at c.walk.stack.items)) (with_entry c.in-Some.ensures.some.hit.entry (at_end c.args.policy)) _ (record { steps = c.push.new.self; verdict = c.args.policy; by_policy = true }) c.undecided-in-ByPolicy.result
    (within_policy c.walk.left (listed c.args.self.now.chains.slots c.args.self.now.order.items) c.args.policy c.args.packet.now.values (state_of c.args.self.now.chains.slots c.walk.at c.walk.stack.items) c.in-Some.ensures.some.hit c.in-Some.ensures.some.is (c.in-Some.ensures.some.next ∙ c.in-ByPolicy.ensures.follows c.args.self.now.chains.slots) (omega arith)) c.walk.invariant.same
    (shown_one (listed c.args.self.now.chains.slots c.args.self.now.order.items) c.walk.invariant.entries c.walk.steps.items c.push.new.self.items c.in-Some.ensures.some.hit.entry c.step_before-step.result c.walk.invariant.shown (ap (shown (listed c.args.self.now.chains.slots c.args.self.now.order.items)) c.in-Some.ensures.some.entry ∙ c.step_before-step.ensures.shown) c.in_ok-push.ensures.items) refl refl c.undecided-in-ByPolicy.ensures

pub returns-in-StackFull-clause-none : goal.returns-in-StackFull-clause-none
returns-in-StackFull-clause-none g c =
    room_short _ c.walk.left c.args.self.now.chains.slots c.args.self.now.order.items c.args.packet.now.values (state_of c.args.self.now.chains.slots c.walk.at c.walk.stack.items) _ c.in-Some.flow c.advance.new.at
    c.advance.new.stack.items c.in-Some.ensures.some refl (omega arith) c.walk.invariant.depth (c.in-StackFull.ensures.full refl)

pub walk-preserved : goal.walk-preserved
walk-preserved g c =
    let goes : _ ≡ GoesOn (state_of c.args.self.now.chains.slots c.follow.new.at c.follow.new.stack.items) = c.in-Some.ensures.some.next ∙ c.in-Continues.ensures.follows c.args.self.now.chains.slots in
    record {
      entries = c.walk.invariant.entries ++ c.in-Some.ensures.some.hit.entry ∷ [];
      shown = shown_one (listed c.args.self.now.chains.slots c.args.self.now.order.items) c.walk.invariant.entries c.walk.steps.items c.push.new.self.items c.in-Some.ensures.some.hit.entry c.step_before-step.result c.walk.invariant.shown (ap (shown (listed c.args.self.now.chains.slots c.args.self.now.order.items)) c.in-Some.ensures.some.entry ∙ c.step_before-step.ensures.shown) c.in_ok-push.ensures.items;
      same = sym (after_one c.walk.invariant.entries c.in-Some.ensures.some.hit.entry
          (walk_within (c.walk.left - 1) (listed c.args.self.now.chains.slots c.args.self.now.order.items) c.args.policy c.args.packet.now.values (state_of c.args.self.now.chains.slots c.follow.new.at c.follow.new.stack.items)))
          ∙ sym (ap (after c.walk.invariant.entries) (within_hit c.walk.left (listed c.args.self.now.chains.slots c.args.self.now.order.items) c.args.policy c.args.packet.now.values (state_of c.args.self.now.chains.slots c.walk.at c.walk.stack.items)
          c.in-Some.ensures.some.hit (GoesOn (state_of c.args.self.now.chains.slots c.follow.new.at c.follow.new.stack.items)) c.in-Some.ensures.some.is goes (omega arith)))
          ∙ c.walk.invariant.same;
      found = c.advance.ensures.found;
      last = c.step_before-step.ensures.within;
      state = c.in-Continues.ensures.state c.args.self.now.order.items c.in-Some.ensures.some.state c.in-Some.ensures.some.leads refl;
      depth = depth_after c.walk.left 1024 (listed c.args.self.now.chains.slots c.args.self.now.order.items) c.args.packet.now.values (state_of c.args.self.now.chains.slots c.walk.at c.walk.stack.items)
          (state_of c.args.self.now.chains.slots c.follow.new.at c.follow.new.stack.items) c.in-Some.ensures.some.hit c.in-Some.ensures.some.is goes (omega arith) c.walk.invariant.depth;
    }
