use Rattle.std.proofs.Common.{inl, inr, refl}
use Rattle.std.proofs.lemmas.Bool.{cases_Bool}
use Rattle.questions.specs.Ends.{rule_at}
use Rattle.questions.proofs.laws.PartLaws.{not_share, share_of}
use Rattle.questions.proofs.asked.leading.counts.Goals as goal

pub returns-in-None : goal.returns-in-None
returns-in-None c = rw c.in-None.is (λ _. tt, λ _. refl)

pub returns-in-Some : goal.returns-in-Some
returns-in-Some c =
    let t = c.args.subject.now.table.table in
    let own = rule_at t c.in-Some.step in
    let other = rule_at t c.args.by in
    rw c.in-Some.is (
      λ h. share_of own other c.at.result.now c.at-in-Some.result.now c.at.ensures c.at-in-Some.ensures (rw (c.spans.ensures.value, c.spans-in-Some.ensures.value) at (c.meet.ensures.some h)),
      λ w. elim (cases_Bool c.meet.result) [
        | inl t ↦ t
        | inr f ↦ absurd (not_share own other c.at.result.now c.at-in-Some.result.now c.at.ensures c.at-in-Some.ensures (rw (c.spans.ensures.value, c.spans-in-Some.ensures.value) at (c.meet.ensures.none f)) w)
      ],
    )
