use Rattle.std.proofs.Common.{◌≡◌, Some, sym, slice_get}
use Rattle.std.proofs.lemmas.Result.{IfOk-weaker}
use Rattle.table.specs.declared.walk.trail.Step.{Step}
use Rattle.questions.specs.steps.Seeking.{AddsParts, EndsAt}
use Rattle.questions.proofs.laws.SeekLaws.{all_parted, ends_here, parts_weaker, path_more, with_first}
use Rattle.questions.proofs.seeking.straying.+part_by.Goals as goal

pub returns-in_default-2 : goal.returns-in_default-2
returns-in_default-2 t c = λ is.
    let s = c.args.subject.now in
    let by = c.in-Some.by.now in
    let seen = c.in-Some-at.seen in
    let scope = c.args.scope in
    let old = c.args.scopes.now.items in
    let new = c.split.new.scopes.items in
    let P : Step → Type 0 = λ b. AddsParts scope (EndsAt s b) old new in
    with_first P c.args.path.now c.in-Some.after.now by c.in-Some.ensures.cases.0
    (all_parted s seen.rule.now seen.needs.now scope (EndsAt s by) old new (rw c.in_default-2.is at c.in_ok-left.ensures))

pub returns-in_default-first : goal.returns-in_default-first
returns-in_default-first t c = λ decides.
    let s = c.args.subject.now in
    let by = c.in-Some.by.now in
    let at_by = c.in-Some-at.ensures in
    let scope = c.args.scope in
    let old = c.args.scopes.now.items in
    let new = c.split.new.scopes.items in
    let one = rw (c.in-Some-2.is, at_by.rule, at_by.needs) at c.in_ok-left.ensures in
    let P : Step → Type 0 = λ b. AddsParts scope (EndsAt s b) old new in
    with_first P c.args.path.now c.in-Some.after.now by c.in-Some.ensures.cases.0
    (parts_weaker scope _ (EndsAt s by) old new (λ a p at m. ends_here s c.stands.ensures.sound by (Some c.in-Some-2.left) a p at_by.is (rw (← at_by.rule, ← c.target.ensures) (c.decides.ensures decides)) m) one)

pub returns : goal.returns
returns t c =
    let s = c.args.subject.now in
    let by = c.in-Some.by.now in
    let next = c.in-Some-first.next.now in
    let at_by = c.in-Some-at.ensures in
    let scope = c.args.scope in
    let left = c.in-Some-2.left in
    let old = c.args.scopes.now.items in
    let mid = c.split.new.scopes.items in
    let taken = c.add_taken_ahead.new.scopes.items in
    let new = c.part_by.new.scopes.items in
    let one = rw (c.in-Some-2.is, at_by.rule, at_by.needs) at c.in_ok-left.ensures in
    let first : slice_get c.in-Some.after.now 0 ≡ Some next = sym c.in-Some-first.ensures.value in
    let P : Step → Type 0 = λ b. AddsParts scope (EndsAt s b) old new in
    IfOk-weaker c.part_by.result _ _ (λ b h is. with_first P c.args.path.now c.in-Some.after.now by c.in-Some.ensures.cases.0
    (path_more s c.stands.ensures.sound by next scope left old mid taken new at_by.is (rw (← at_by.rule, ← c.target-2.ensures) (c.enters.ensures c.if-not-enters.false)) one c.in_ok-add_taken_ahead.ensures (rw first at (h is)))) c.part_by.ensures
