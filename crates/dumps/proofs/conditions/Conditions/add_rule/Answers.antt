use Rattle.std.proofs.Common.{◌≡◌, ◌+◌, ◌++◌, ◌∷◌, [], List, ℕ, true, sym, ap, subst, ◌∙◌, length, vec_len, rules}
use Rattle.std.specs.Global.{Vec}
use Rattle.dumps.specs.Foreign.{rule_in, is_in, needs_in}
use Rattle.dumps.specs.Views.{AreCounts, AreNeedsNumbered, AreNumberedSoFar, needs_within, numbers_of}
use Rattle.dumps.specs.declared.reading.foreign.NeededText.{NeededText}
use Rattle.dumps.specs.declared.conditions.ForeignNeed.{ForeignNeed}
use Rattle.dumps.proofs.laws.NumberLaws.{so_far_more}
use Rattle.dumps.proofs.conditions.Conditions.add_rule.Goals as goal

pub returns-clause-numbered : goal.returns-clause-numbered
returns-clause-numbered c = λ done first h.
    let before = needs_within c.args.chain.now done in
    let inside : is_in c.args.chain.now (rule_in c.args.rule.now) ≡ true = search rules in
    let held : vec_len c.args.rules.now ≡ length c.args.rules.now.items = search rules in
    subst (λ (l : List (Vec ForeignNeed)). AreNumberedSoFar c.args.chain.now (done ++ rule_in c.args.rule.now ∷ []) first c.needs_of_rule.new.self l c.needs_of_rule.new.counts) (sym c.in_ok-push.ensures.items)
    (so_far_more c.args.chain.now done (rule_in c.args.rule.now) first c.args.self.now c.needs_of_rule.new.self c.args.rules.now.items c.in_ok-needs.needs c.args.counts.now c.needs_of_rule.new.counts
    (c.len.result + 1) inside (ap (λ (n : ℕ). n + 1) (c.len.ensures ∙ held)) h
    (λ k.
    subst (λ (l : List NeededText). AreNeedsNumbered c.args.chain.now (c.len.result + 1) before (needs_in l) c.args.self.now c.needs_of_rule.new.self (numbers_of c.in_ok-needs.needs.items))
    c.as_slice-2.ensures.value (c.in_ok-needs.ensures.numbered before k))
    (λ k. subst (λ (l : List NeededText). AreCounts c.args.self.now.sets (before ++ needs_in l) c.needs_of_rule.new.counts) c.as_slice-2.ensures.value (c.in_ok-needs.ensures.counts before k)))
