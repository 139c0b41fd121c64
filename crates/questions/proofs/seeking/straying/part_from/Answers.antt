use Rattle.std.proofs.Common.{◌≡◌, Some, inl, sym, slice_get}
use Rattle.std.proofs.lemmas.Result.{IfOk-weaker}
use Rattle.table.specs.declared.walk.trail.Step.{Step}
use Rattle.questions.specs.steps.Seeking.{AddsParts, EndsAt, LeadsAwayAt}
use Rattle.questions.proofs.laws.SeekLaws.{at_first, leads_away_here, parts_weaker}
use Rattle.questions.proofs.seeking.straying.part_from.Goals as goal

pub returns-then-takes_out : goal.returns-then-takes_out
returns-then-takes_out c = λ is.
    let s = c.args.subject.now in
    let by = c.in-Some.by.now in
    let at_by = c.in-Some-at.ensures in
    let scope = c.args.scope in
    let old = c.args.scopes.now.items in
    let new = c.split.new.scopes.items in
    let first : slice_get c.args.path.now 0 ≡ Some by = sym c.in-Some.ensures.value in
    let one = rw (at_by.rule, at_by.needs) at c.in_ok-_left.ensures in
    at_first (λ (b : Step). AddsParts scope (LeadsAwayAt s b) old new) c.args.path.now by first
    (parts_weaker scope _ (LeadsAwayAt s by) old new
    (λ a p at m. leads_away_here s c.stands.ensures.sound by c.in_ok-_left._left a p at_by.is (rw (← at_by.rule, ← c.target.ensures) (c.takes_out.ensures.takes c.if-takes_out.true)) m) one)

pub returns : goal.returns
returns c =
    let s = c.args.subject.now in
    let by = c.in-Some.by.now in
    let scope = c.args.scope in
    let old = c.args.scopes.now.items in
    let new = c.part_by.new.scopes.items in
    let first : slice_get c.args.path.now 0 ≡ Some by = sym c.in-Some.ensures.value in
    IfOk-weaker c.part_by.result _ _ (λ b h is. at_first (λ (x : Step). AddsParts scope (LeadsAwayAt s x) old new) c.args.path.now by first
    (parts_weaker scope (EndsAt s by) (LeadsAwayAt s by) old new (λ a p at ends. inl ends) (rw first at (h is)))) c.part_by.ensures
