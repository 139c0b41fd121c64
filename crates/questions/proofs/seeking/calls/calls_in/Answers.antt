use Rattle.std.proofs.lemmas.Bool.{cases_eq}
use Rattle.std.proofs.Common.{arith, inr, inl}
use Rattle.std.proofs.lemmas.List.Elements.{All-nil}
use Rattle.questions.specs.boxes.Calls.{IsCall}
use Rattle.questions.proofs.seeking.calls.calls_in.Goals as goal

pub loop-place-preserved : goal.loop-place-preserved
loop-place-preserved c = record {
  below = (λ by lt. elim (cases_eq by.chain c.loop-place.place) [ inl e ↦ c.in_ok-add_calls_of.ensures.added by e | inr ne ↦ c.in_ok-add_calls_of.ensures.kept by (c.loop-place.invariant.below by (omega (arith, ne, lt))) ]);
  only = c.in_ok-add_calls_of.ensures.only c.loop-place.invariant.only;
}

pub loop-place-init : goal.loop-place-init
loop-place-init c = record { below = λ by lt. absurd (omega (arith, lt)); only = rw c.new-calls.ensures.items (All-nil (IsCall c.args.table.now.table)) }

pub returns : goal.returns
returns c = record { all = λ by to is names. c.loop-place.invariant.below by (omega (arith, is.chain)) to is names; only = c.loop-place.invariant.only }
