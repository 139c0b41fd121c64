use Rattle.std.proofs.Common.{◌<◌, ◌∷◌, [], List, length, get_or, sym, subst, arith}
use Rattle.std.proofs.lemmas.List.Elements.{All-push}
use Rattle.fields.specs.numbers.Spans.{SpanSet}
use Rattle.questions.specs.Scopes.{IsOf, scope_of}
use Rattle.questions.specs.declared.boxes.transport.Transport.{Transport}
use Rattle.questions.specs.declared.boxes.transport.Transport.TheVariants.{Tcp}
use Rattle.questions.specs.declared.walking.scope.Scope.{Scope}
use Rattle.questions.specs.declared.walking.task.Leaf.{Leaf}
use Rattle.questions.specs.steps.Exact.{IsExactUnder, IsShare}
use Rattle.questions.specs.steps.Transports.{AreByTransport, IsWithTransport, all_transports}
use Rattle.questions.proofs.laws.ExactLaws.{exact_part, part_has, part_none, shared_all, shared_begins, shared_nobody, shared_one}
use Rattle.questions.proofs.laws.ReachLaws.{any_left}
use Rattle.questions.proofs.asked.exact.add_parts.Goals as goal
use Rattle.questions.proofs.asked.exact.add_parts.Goals.{in-None, in-Some+in_ok-push-in-Some}

pub loop-area-init : goal.loop-area-init
loop-area-init c = record {
  each = λ t known hook scope are shown before. before;
  kept = λ known p has. has;
  shared = λ known scope are. shared_begins known scope c.args.leaf.now c.args.exact.now.items;
}

pub loop-area-preserved : goal.loop-area-preserved
loop-area-preserved c =
    let leaf = c.args.leaf.now in
    let i = c.loop-area.area-index in
    let own : List SpanSet = c.area-item.result in
    let exact = c.loop-area.exact.items in
    let here : Transport = get_or all_transports i Tcp in
    let within : (scope : Scope) → AreByTransport scope.area c.args.possible.now → i < length all_transports = λ scope are. omega (arith, c.loop-area-test.true, are.long) in
    let with : (scope : Scope) → AreByTransport scope.area c.args.possible.now → IsWithTransport here scope.area own =
    λ scope are. (let P : List SpanSet → Type 0 = λ b. IsWithTransport here scope.area b in subst P (sym c.area-item.is) (are.each i Tcp own (within scope are))) in
    elim c.match-branch-2.branch [
      | in-None w ↦ rw w.exact-is (record {
        each = c.loop-area.invariant.each;
        kept = c.loop-area.invariant.kept;
        shared = λ known scope are.
            shared_nobody known scope leaf i (within scope are) exact (c.loop-area.invariant.shared known scope are) (part_none scope leaf here own (with scope are) known (rw w.in-None.is at c.in_ok-part_of.ensures));
      })
      | in-Some+in_ok-push-in-Some w ↦ (
          let part = w.in-Some.part in
          let share : IsShare leaf own part = rw w.in-Some.is at c.in_ok-part_of.ensures in
          rw (w.exact-is, w.in_ok-push-in-Some.ensures.items) (record {
            each = λ t known hook scope are shown before.
                All-push (IsExactUnder t known hook scope) exact part (c.loop-area.invariant.each t known hook scope are shown before) (exact_part scope leaf here own (with scope are) t known hook part shown share);
            kept = λ known p has. any_left (λ (l : Leaf). IsOf known p (scope_of l)) exact (part ∷ []) (c.loop-area.invariant.kept known p has);
            shared = λ known scope are.
                shared_one known scope leaf i (within scope are) exact part (c.loop-area.invariant.shared known scope are) (part_has scope leaf here own (with scope are) known part share);
          }))
    ]

pub returns : goal.returns
returns c = λ t known hook scope are shown. record {
  each = c.loop-area.invariant.each t known hook scope are shown;
  kept = c.loop-area.invariant.kept known;
  covered = shared_all known scope c.args.leaf.now c.loop-area.exact.items c.loop-area.area-index (omega (arith, c.loop-area-test.false, are.long)) (c.loop-area.invariant.shared known scope are);
}
