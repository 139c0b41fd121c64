use Rattle.std.proofs.Common.{◌≡◌, ◌∙◌, ap, map, ℕ, Bool, List}
use Rattle.rules.specs.rule.Allows.{allows_each}
use Rattle.rules.specs.rule.Rules.{Rule}
use Rattle.classify.specs.Classifier.{IsClassifierOfRules}
use Rattle.table.specs.steps.StoredChains.{IsClassified, StoredChain, rules_in}
use Rattle.table.proofs.chain.Chain.candidates.Goals as goal

-- what a chain's classifier gives at a packet's numbers are the answers of its rules
answers : (inside stored_chain : StoredChain) (point values : List ℕ) (bits : List Bool) → IsClassified inside → inside ≡ stored_chain → point ≡ values
    → ((rules : List Rule) → IsClassifierOfRules rules inside.classifier → bits ≡ map (allows_each point) rules) → bits ≡ map (allows_each values) (rules_in stored_chain)
answers inside stored_chain point values bits classified is same given =
    given (rules_in inside) classified ∙ ap (λ (r : StoredChain). map (allows_each point) (rules_in r)) is ∙ ap (λ (ns : List ℕ). map (allows_each ns) (rules_in stored_chain)) same

pub returns : goal.returns
returns c =
    answers _ c.args.self.now c.numbers.result.now c.args.packet.now.values c.at.result c.self.invariant.0 c.self.view_is c.numbers.ensures.value c.at.ensures.rules
