use Rattle.std.proofs.Common.{ℕ, List, refl, inl, inr, ◌≡◌, ◌⊎◌}
use Rattle.std.specs.Prelude.{Result, Ok, Err}
use Rattle.rules.specs.rule.Rules.{Rule}
use Rattle.rules.specs.reading.Steps.{rule_of}
use Rattle.rules.specs.reading.Grammar.{ReadsAs, HasFault}
use Rattle.rules.specs.declared.reading.fault.Refusal.{Refusal}
use Rattle.rules.proofs.laws.reading.GrammarLaws.{rule_of-reads, reads-rule_of, rule_of-fault, fault-rule_of}
use Rattle.rules.proofs.reading.grammar.reading_is_by_grammar.Goals as goal

outcome : (end : ℕ) (words : List (List ℕ)) (q : Result Rule Refusal) → rule_of end words ≡ q → ((r : Rule) × ReadsAs end words r) ⊎ ((e : Refusal) × HasFault end words e)
outcome end words (Ok r) h = inl (r, rule_of-reads end words r h)
outcome end words (Err e) h = inr (e, rule_of-fault end words e h)

pub returns : goal.returns
returns c = record {
  reads = λ end words r. (rule_of-reads end words r, reads-rule_of end words r);
  fails = λ end words e. (rule_of-fault end words e, fault-rule_of end words e);
  one = λ end words. outcome end words (rule_of end words) refl;
}
