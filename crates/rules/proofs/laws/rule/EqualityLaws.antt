-- What the derived comparisons find equal is equal.
use Rattle.std.proofs.Common.{◌≡◌, Bool, true, false, ◌&&◌, List, [], ◌∷◌, map, Option, refl, sym, ap, subst, ◌∙◌, rules}
use Rattle.std.specs.Prelude.{IsTrue, ◌↔◌}
use Rattle.std.specs.Cmp.Lexicographic.{pointwise}
use Rattle.std.specs.Option.{option_eq}
use Rattle.std.proofs.lemmas.Bool.{and_parts}
use Rattle.std.proofs.lemmas.List.{map-id}
use mathlib.Core.Bool.{beq}
use Rattle.fields.specs.declared.values.port_range.PortRange.{PortRange}
use Rattle.fields.specs.contracts.values.port_range.PortRangePartialEq.TheImpl as of_ports
use Rattle.rules.specs.contracts.options.match_kind.MatchKindPartialEq.TheImpl as of_kind
use Rattle.rules.specs.contracts.options.option_value.OptionValuePartialEq.TheImpl as of_option_value
use Rattle.rules.specs.contracts.options.value.ValuePartialEq.TheImpl as of_value
use Rattle.rules.specs.contracts.rule.action.ActionPartialEq.TheImpl as of_action
use Rattle.rules.specs.contracts.rule.spec.RuleSpecPartialEq.TheImpl as of_spec
use Rattle.rules.specs.contracts.rule.spec.MatchPartialEq.TheImpl as of_match
use Rattle.rules.specs.declared.options.match_kind.MatchKind.{MatchKind}
use Rattle.rules.specs.declared.options.option_value.OptionValue.{OptionValue}
use Rattle.rules.specs.declared.options.value.Value.{Value}
use Rattle.rules.specs.declared.options.value.Value.TheVariants as value
use Rattle.rules.specs.declared.rule.action.Action.{Action}
use Rattle.rules.specs.declared.rule.spec.RuleSpec.{RuleSpec}
use Rattle.rules.specs.declared.rule.spec.Match.{Match}
use Rattle.rules.specs.rule.Rules as rules_of
use Rattle.rules.specs.steps.Views.{view_match, view_matches, view_spec}

false-true : {A : Type 0} → IsTrue false → A
false-true h = absurd (cc)

and-both : (x y : Bool) → IsTrue x → IsTrue y → IsTrue (x && y)
and-both true y h k = k
and-both false y h k = false-true h

-- items that are compared one by one, where the comparison is of what is seen of an item
module _ {X Y : Type 0} (E : X → X → Bool) (view : X → Y) (law : (a b : X) → IsTrue (E a b) ↔ (view a ≡ view b)) where
  same-views : (xs ys : List X) → IsTrue (pointwise E xs ys) ↔ (map view xs ≡ map view ys)
  same-views [] [] = search rules
  same-views [] (y ∷ ys) = (λ h. false-true h, λ e. absurd (cc))
  same-views (x ∷ xs) [] = (λ h. false-true h, λ e. absurd (cc))
  same-views (x ∷ xs) (y ∷ ys) = (
    λ h. let (first, rest) = and_parts (E x y) (pointwise E xs ys) h in let one = (law x y).0 first in let others = (same-views xs ys).0 rest in cc,
    λ e. and-both (E x y) (pointwise E xs ys) ((law x y).1 (cc)) ((same-views xs ys).1 (cc)),
  )

same-items : {X : Type 0} (E : X → X → Bool) → ((a b : X) → IsTrue (E a b) ↔ (a ≡ b)) → (xs ys : List X) → IsTrue (pointwise E xs ys) ↔ (xs ≡ ys)
same-items E law xs ys =
    let is = same-views E (λ x. x) law xs ys in
    (λ h. sym (map-id xs) ∙ is.0 h ∙ map-id ys, λ e. is.1 (ap (map (λ x. x)) e))

-- values
same-ports : (a b : PortRange) → IsTrue (of_ports.ghosts.eq a b) ↔ (a ≡ b)
same-ports a b = search rules

values-same : (a b : Value) → IsTrue (of_value.ghosts.eq a b) → a ≡ b
values-same (value.Source x) (value.Source y) h = search rules
values-same (value.Destination x) (value.Destination y) h = search rules
values-same (value.InInterface x) (value.InInterface y) h = search rules
values-same (value.OutInterface x) (value.OutInterface y) h = search rules
values-same (value.Protocol x) (value.Protocol y) h = search rules
values-same value.Fragment value.Fragment h = refl
values-same (value.SourcePort x) (value.SourcePort y) h = search rules
values-same (value.DestinationPort x) (value.DestinationPort y) h = search rules
values-same (value.TcpFlags x) (value.TcpFlags y) h = search rules
values-same (value.IcmpType x) (value.IcmpType y) h = search rules
values-same (value.SourcePorts x) (value.SourcePorts y) h = ap (λ l. value.SourcePorts l) ((same-items of_ports.ghosts.eq same-ports x y).0 h)
values-same (value.DestinationPorts x) (value.DestinationPorts y) h = ap (λ l. value.DestinationPorts l) ((same-items of_ports.ghosts.eq same-ports x y).0 h)
values-same (value.Ports x) (value.Ports y) h = ap (λ l. value.Ports l) ((same-items of_ports.ghosts.eq same-ports x y).0 h)
values-same (value.SourceRange x) (value.SourceRange y) h = search rules
values-same (value.DestinationRange x) (value.DestinationRange y) h = search rules
values-same (value.Ctstate x) (value.Ctstate y) h = search rules
values-same (value.State x) (value.State y) h = search rules
values-same (value.Comment x) (value.Comment y) h = search rules
values-same (value.TtlEqual x) (value.TtlEqual y) h = search rules
values-same (value.TtlGreater x) (value.TtlGreater y) h = search rules
values-same (value.TtlLess x) (value.TtlLess y) h = search rules
values-same (value.RejectWith x) (value.RejectWith y) h = search rules
values-same (value.LogPrefix x) (value.LogPrefix y) h = search rules
values-same (value.LogLevel x) (value.LogLevel y) h = search rules
values-same value.LogTcpSequence value.LogTcpSequence h = refl
values-same value.LogTcpOptions value.LogTcpOptions h = refl
values-same value.LogIpOptions value.LogIpOptions h = refl
values-same value.LogUid value.LogUid h = refl
values-same a b h = false-true h

value-itself : (a : Value) → IsTrue (of_value.ghosts.eq a a)
value-itself (value.Source x) = search rules
value-itself (value.Destination x) = search rules
value-itself (value.InInterface x) = search rules
value-itself (value.OutInterface x) = search rules
value-itself (value.Protocol x) = search rules
value-itself value.Fragment = search rules
value-itself (value.SourcePort x) = search rules
value-itself (value.DestinationPort x) = search rules
value-itself (value.TcpFlags x) = search rules
value-itself (value.IcmpType x) = search rules
value-itself (value.SourcePorts x) = (same-items of_ports.ghosts.eq same-ports x x).1 refl
value-itself (value.DestinationPorts x) = (same-items of_ports.ghosts.eq same-ports x x).1 refl
value-itself (value.Ports x) = (same-items of_ports.ghosts.eq same-ports x x).1 refl
value-itself (value.SourceRange x) = search rules
value-itself (value.DestinationRange x) = search rules
value-itself (value.Ctstate x) = search rules
value-itself (value.State x) = search rules
value-itself (value.Comment x) = search rules
value-itself (value.TtlEqual x) = search rules
value-itself (value.TtlGreater x) = search rules
value-itself (value.TtlLess x) = search rules
value-itself (value.RejectWith x) = search rules
value-itself (value.LogPrefix x) = search rules
value-itself (value.LogLevel x) = search rules
value-itself value.LogTcpSequence = search rules
value-itself value.LogTcpOptions = search rules
value-itself value.LogIpOptions = search rules
value-itself value.LogUid = search rules

-- options
same-bools : (a b : Bool) → IsTrue (beq a b) → a ≡ b
same-bools true true h = refl
same-bools false false h = refl
same-bools true false h = false-true h
same-bools false true h = false-true h

bool-itself : (a : Bool) → IsTrue (beq a a)
bool-itself true = refl
bool-itself false = refl

abbrev option_value_with : Bool → Value → OptionValue
option_value_with inverted v = record { inverted = inverted; value = v }

same-option_values : (a b : OptionValue) → IsTrue (of_option_value.ghosts.eq a b) ↔ (a ≡ b)
same-option_values a b =
    let P : OptionValue → Type 0 = λ s. IsTrue (of_option_value.ghosts.eq a s) in (
      λ h.
          let (first, rest) = and_parts (beq a.inverted b.inverted) (of_value.ghosts.eq a.value b.value) h in
          ap (λ i. option_value_with i a.value) (same-bools a.inverted b.inverted first) ∙ ap (λ v. option_value_with b.inverted v) (values-same a.value b.value rest),
      λ e. subst P e (and-both (beq a.inverted a.inverted) (of_value.ghosts.eq a.value a.value) (bool-itself a.inverted) (value-itself a.value)),
    )

-- matches
same-kinds : (a b : MatchKind) → IsTrue (of_kind.ghosts.eq a b) ↔ (a ≡ b)
same-kinds a b = search rules

abbrev match_with : MatchKind → List OptionValue → rules_of.Match
match_with k ss = record { kind = k; option_values = ss }

same-matches : (a b : Match) → IsTrue (of_match.ghosts.eq a b) ↔ (view_match a ≡ view_match b)
same-matches a b =
    let options = same-items of_option_value.ghosts.eq same-option_values a.option_values.items b.option_values.items in
    let kinds = same-kinds a.kind b.kind in (
      λ h.
          let (first, rest) = and_parts (of_kind.ghosts.eq a.kind b.kind) (pointwise of_option_value.ghosts.eq a.option_values.items b.option_values.items) h in
          ap (λ k. match_with k a.option_values.items) (kinds.0 first) ∙ ap (match_with b.kind) (options.0 rest),
      λ e.
          and-both (of_kind.ghosts.eq a.kind b.kind) (pointwise of_option_value.ghosts.eq a.option_values.items b.option_values.items) (kinds.1 (ap (λ (m : rules_of.Match). m.kind) e))
          (options.1 (ap (λ (m : rules_of.Match). m.option_values) e)),
    )

-- rules
same-actions : (a b : Option Action) → IsTrue (option_eq of_action.ghosts.eq a b) ↔ (a ≡ b)
same-actions a b = search rules

abbrev rule_with : List OptionValue → List rules_of.Match → Option Action → List OptionValue → rules_of.Rule
rule_with own ms action of_target = record { option_values = own; matches = ms; action = action; target_options = of_target }

pub same-contents : (a b : RuleSpec) → IsTrue (of_spec.ghosts.eq a b) ↔ (view_spec a ≡ view_spec b)
same-contents a b =
    let E = pointwise of_option_value.ghosts.eq in
    let own = same-items of_option_value.ghosts.eq same-option_values a.option_values.items b.option_values.items in
    let ms = same-views of_match.ghosts.eq view_match same-matches a.matches.items b.matches.items in
    let actions = same-actions a.action b.action in
    let last = same-items of_option_value.ghosts.eq same-option_values a.target_options.items b.target_options.items in
    let one = E a.option_values.items b.option_values.items in
    let two = pointwise of_match.ghosts.eq a.matches.items b.matches.items in
    let three = option_eq of_action.ghosts.eq a.action b.action in
    let four = E a.target_options.items b.target_options.items in (
      λ h.
          let (first, others) = and_parts one (two && (three && four)) h in
          let (second, rest) = and_parts two (three && four) others in
          let (third, fourth) = and_parts three four rest in
          ap (λ l. rule_with l (view_matches a.matches.items) a.action a.target_options.items) (own.0 first)
          ∙ ap (λ l. rule_with b.option_values.items l a.action a.target_options.items) (ms.0 second)
          ∙ ap (λ g. rule_with b.option_values.items (view_matches b.matches.items) g a.target_options.items) (actions.0 third)
          ∙ ap (λ l. rule_with b.option_values.items (view_matches b.matches.items) b.action l) (last.0 fourth),
      λ e.
          and-both one (two && (three && four)) (own.1 (ap (λ (r : rules_of.Rule). r.option_values) e))
          (and-both two (three && four) (ms.1 (ap (λ (r : rules_of.Rule). r.matches) e))
          (and-both three four (actions.1 (ap (λ (r : rules_of.Rule). r.action) e)) (last.1 (ap (λ (r : rules_of.Rule). r.target_options) e)))),
    )
