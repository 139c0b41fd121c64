-- Laws of rule texts: the parts that are written are the text.
use Rattle.std.proofs.Common.{◌≡◌, ℕ, List, [], ◌∷◌, ◌++◌, flat_map, refl, sym, ap, ◌∙◌, append_assoc, append-nil}
use Rattle.std.specs.Prelude.{codes, if◌then◌else◌}
use Rattle.std.proofs.lemmas.Grind.{flat_map-append}
use Rattle.fields.specs.text.Printed.{Shown, bare, spaced, spaced_all}
use Rattle.fields.specs.values.TcpFlags.{tcp_flags_text}
use Rattle.rules.specs.options.Matches.{kind_name}
use Rattle.rules.specs.options.Options.{name_of}
use Rattle.rules.specs.options.OptionValues.{option_of_value}
use Rattle.rules.specs.rule.Rules.{Match, Rule}
use Rattle.rules.specs.Printing.{shown_value, shown_bang, shown_option_value, shown_option_values, shown_match, shown_action, rule_text}
use Rattle.rules.specs.steps.Writing.{has_words, value_text, option_value_text, start_text, match_text, action_text}
use Rattle.rules.specs.steps.Views as views
use Rattle.rules.specs.declared.rule.spec.Match as code
use Rattle.rules.specs.declared.options.option_value.OptionValue.{OptionValue}
use Rattle.rules.specs.declared.options.value.Value.{Value}
use Rattle.rules.specs.declared.options.value.Value.TheVariants as value

pub spaced_all-append : (xs ys : List Shown) → spaced_all (xs ++ ys) ≡ spaced_all xs ++ spaced_all ys
spaced_all-append xs ys = flat_map-append spaced xs ys

-- what stands between an option's name and the words of its value
abbrev pub blank_before : Value → List ℕ
blank_before v = if has_words v then codes " " else []

-- a value after its blank
value-parts : (v : Value) → spaced_all (shown_value v) ≡ blank_before v ++ value_text v
value-parts (value.TcpFlags x) = ap (λ l. 32 ∷ (tcp_flags_text x.mask ++ l)) (append-nil (32 ∷ tcp_flags_text x.comp))
value-parts value.Fragment = refl
value-parts value.LogTcpSequence = refl
value-parts value.LogTcpOptions = refl
value-parts value.LogIpOptions = refl
value-parts value.LogUid = refl
value-parts v = append-nil (32 ∷ value_text v)

-- an option with its value: `!`, the name with its blanks, and the words
pub option_value-parts : (s : OptionValue) → option_value_text s ≡ spaced_all (shown_bang s.inverted) ++ ((spaced (bare (name_of (option_of_value s.value))) ++ blank_before s.value) ++ value_text s.value)
option_value-parts s =
    let name = spaced (bare (name_of (option_of_value s.value))) in
    spaced_all-append (shown_bang s.inverted) (bare (name_of (option_of_value s.value)) ∷ shown_value s.value)
    ∙ ap (λ l. spaced_all (shown_bang s.inverted) ++ (name ++ l)) (value-parts s.value)
    ∙ ap (λ l. spaced_all (shown_bang s.inverted) ++ l) (sym (append_assoc name (blank_before s.value) (value_text s.value)))

option_values-text : (ss : List OptionValue) → spaced_all (shown_option_values ss) ≡ flat_map option_value_text ss
option_values-text [] = refl
option_values-text (s ∷ ss) = spaced_all-append (shown_option_value s) (shown_option_values ss) ∙ ap (λ l. option_value_text s ++ l) (option_values-text ss)

match-text : (m : Match) → spaced_all (shown_match m) ≡ match_text m
unfolding start_text
match-text m =
    ap (λ l. spaced (bare (codes "-m")) ++ (spaced (bare (kind_name m.kind)) ++ l)) (option_values-text m.option_values)
    ∙ sym (append_assoc (spaced (bare (codes "-m"))) (spaced (bare (kind_name m.kind))) (flat_map option_value_text m.option_values))

matches-text : (ms : List code.Match) → spaced_all (flat_map shown_match (views.view_matches ms)) ≡ flat_map (λ m. match_text (views.view_match m)) ms
matches-text [] = refl
matches-text (m ∷ ms) =
    let rest = flat_map shown_match (views.view_matches ms) in
    spaced_all-append (shown_match (views.view_match m)) rest ∙ ap (λ l. l ++ spaced_all rest) (match-text (views.view_match m))
    ∙ ap (λ l. match_text (views.view_match m) ++ l) (matches-text ms)

-- the text of a rule, part by part
pub rule_text-parts : (r : Rule) (option_values : List OptionValue) (ms : List code.Match) (target_options : List OptionValue) → option_values ≡ r.option_values → views.view_matches ms ≡ r.matches → target_options ≡ r.target_options
    → rule_text r ≡ flat_map option_value_text option_values ++ (flat_map (λ m. match_text (views.view_match m)) ms ++ (action_text r.action ++ flat_map option_value_text target_options))
rule_text-parts r option_values ms target_options is-option_values is-matches is-target_options =
    let a = shown_option_values r.option_values in
    let b = flat_map shown_match r.matches in
    let c = shown_action r.action in
    let d = shown_option_values r.target_options in
    let first = option_values-text r.option_values ∙ ap (flat_map option_value_text) (sym is-option_values) in
    let second = ap (λ ns. spaced_all (flat_map shown_match ns)) (sym is-matches) ∙ matches-text ms in
    let last = option_values-text r.target_options ∙ ap (flat_map option_value_text) (sym is-target_options) in
    spaced_all-append a (b ++ (c ++ d))
    ∙ ap (λ l. spaced_all a ++ l) (spaced_all-append b (c ++ d) ∙ ap (λ l. spaced_all b ++ l) (spaced_all-append c d))
    ∙ ap (λ l. l ++ (spaced_all b ++ (spaced_all c ++ spaced_all d))) first
    ∙ ap (λ l. flat_map option_value_text option_values ++ (l ++ (spaced_all c ++ spaced_all d))) second
    ∙ ap (λ l. flat_map option_value_text option_values ++ (flat_map (λ m. match_text (views.view_match m)) ms ++ (spaced_all c ++ l))) last
