use Rattle.std.proofs.Common.{◌∙◌, refl, ap, List}
use Rattle.table.specs.steps.Kept.{listed}
use Rattle.table.specs.steps.Walking.{rests_of}
use Rattle.table.specs.walk.Walk.{first_hit, Rest}
use Rattle.table.specs.declared.walk.Pending.{Pending}
use Rattle.table.proofs.laws.walk.TableWalkLaws.{past_chain, hit_under, none_left, rests_pop, state_pop}
use Rattle.table.proofs.parts.Parts.advance.Goals as goal

pub returns-in-Some-clause-some : goal.returns-in-Some-clause-some
returns-in-Some-clause-some g c =
    hit_under c.args.self.now.policies c.args.self.now.chains.slots c.args.self.now.order.items c.args.packet.now.values c.rests.at c.rests.stack.items c.index.result.now c.in-Some.place c.entry.result.now _ _
    c.requires.kept c.rests.invariant.state c.index.ensures c.in-Some.ensures.next c.in-Some.ensures.within c.entry.ensures refl c.rests.invariant.same

pub rests-preserved : goal.rests-preserved
rests-preserved g c = record {
  same = c.rests.invariant.same
      ∙ past_chain c.args.self.now.policies c.args.self.now.chains.slots c.args.self.now.order.items c.args.packet.now.values c.rests.at c.rests.stack.items c.requires.kept c.rests.invariant.state c.in-None.ensures.next
      ∙ ap (λ (rs : List Rest). first_hit (listed c.args.self.now.chains.slots c.args.self.now.order.items) c.args.packet.now.values rs)
      (rests_pop c.args.self.now.chains.slots c.rests.stack.items c.pop.new.self.items c.in-Some-pop.rest c.in-Some-pop.ensures.items);
  state = state_pop c.args.self.now.order.items c.rests.at c.in-Some-pop.rest c.rests.stack.items c.pop.new.self.items c.in-Some-pop.ensures.items c.rests.invariant.state;
  found = c.next_rule.ensures.found;
}

pub returns-in-None-pop-clause-none : goal.returns-in-None-pop-clause-none
returns-in-None-pop-clause-none g c =
    c.rests.invariant.same
    ∙ past_chain c.args.self.now.policies c.args.self.now.chains.slots c.args.self.now.order.items c.args.packet.now.values c.rests.at c.rests.stack.items c.requires.kept c.rests.invariant.state c.in-None.ensures.next
    ∙ ap (λ (xs : List Pending). first_hit (listed c.args.self.now.chains.slots c.args.self.now.order.items) c.args.packet.now.values (rests_of c.args.self.now.chains.slots xs))
    (none_left c.rests.stack.items c.in-None-pop.ensures.variant.1)
