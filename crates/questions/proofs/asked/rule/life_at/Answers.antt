use Rattle.std.proofs.Common.{◌≡◌}
use Rattle.std.proofs.lemmas.Result.{IfOk-weaker}
use Rattle.questions.specs.Scopes.{whole_of}
use Rattle.questions.specs.asked.Always.{AreAllShort, AreAlwaysShort, MayLive, SaysAt, SaysIn}
use Rattle.questions.specs.asked.Unclear.{HasHook, IsUnclearAt, MayComeFrom}
use Rattle.questions.specs.declared.asked.rule.Life.{Life}
use Rattle.questions.specs.declared.asked.rule.Life.TheVariants.{Dead}
use Rattle.questions.specs.declared.walking.scope.Scope.{Scope}
use Rattle.questions.proofs.laws.ComingLaws.{says_at_hook, unclear_at_hook}
use Rattle.questions.proofs.asked.rule.life_at.Goals as goal

pub returns-clause-says : goal.returns-clause-says
returns-clause-says c =
    let s = c.args.subject.now in
    let step = c.args.step in
    let hook = c.args.course.hook in
    let start : Scope = record { area = c.in_ok-at_hook.field-0; answers = c.none.result } in
    let whole : HasHook hook start = record { all = c.in_ok-at_hook.ensures.all; only = c.in_ok-at_hook.ensures.only; unasked = c.none.ensures } in
    IfOk-weaker c.life_in.result (λ (life : Life). SaysIn s step hook start life) (λ (life : Life). SaysAt s step hook life) (λ life says. says_at_hook s step hook start life whole says) c.life_in.ensures.says

pub returns-clause-unclear : goal.returns-clause-unclear
returns-clause-unclear c =
    let s = c.args.subject.now in
    let step = c.args.step in
    let budget = c.args.course.budget in
    let hook = c.args.course.hook in
    let start : Scope = record { area = c.in_ok-at_hook.field-0; answers = c.none.result } in
    let whole : HasHook hook start = record { all = c.in_ok-at_hook.ensures.all; only = c.in_ok-at_hook.ensures.only; unasked = c.none.ensures } in
    IfOk-weaker c.life_in.result (λ (life : Life). IsUnclearAt (MayComeFrom (whole_of s) start step hook budget) life) (λ (life : Life). IsUnclearAt (MayLive s step budget hook) life)
    (λ life may. unclear_at_hook s step hook budget start life whole may) c.life_in.ensures.unclear

pub returns-clause-short : goal.returns-clause-short
returns-clause-short c =
    let s = c.args.subject.now in
    let hook = c.args.course.hook in
    IfOk-weaker c.life_in.result (λ (life : Life). life ≡ Dead → AreAllShort s hook) (λ (life : Life). life ≡ Dead → AreAlwaysShort s c.args.step hook) (λ life short dead a p own. short dead a p own.there) c.life_in.ensures.short
