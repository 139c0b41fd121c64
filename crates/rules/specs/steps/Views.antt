-- How the code's values stand for those of the definitions, and how what a rule holds is kept.
use Rattle.std.specs.Prelude.{ℕ, List, map, Result, Bool, true, false}
use Rattle.fields.specs.text.WordSlice.{words_in}
use Rattle.fields.specs.declared.text.word_slice.WordSlice.{WordSlice}
use Rattle.rules.specs.Sequence.{Gives}
use Rattle.rules.specs.declared.reading.fault.Refusal.{Refusal}
use Rattle.rules.specs.declared.reading.fault.RuleFault.{RuleFault}
use Rattle.rules.specs.declared.rule.spec.Match.{Match}
use Rattle.rules.specs.declared.rule.spec.RuleSpec.{RuleSpec}
use Rattle.rules.specs.declared.reading.option_words.OptionWords.{OptionWords}
use Rattle.rules.specs.declared.rule.kept.Owner.{Owner}
use Rattle.rules.specs.rule.Rules as rules
use Rattle.rules.specs.reading.Steps as words
use Rattle.rules.specs.declared.rule.kept.Owner.TheVariants as owner

-- ---- How the code's values stand for those of the definitions.

-- a match as the definitions have it
abbrev pub view_match : Match → rules.Match
view_match m = record { kind = m.kind; option_values = m.option_values.items }

-- matches as the definitions have them
abbrev pub view_matches : List Match → List rules.Match
view_matches ms = map view_match ms

-- what a rule holds as the definitions have it
abbrev pub view_spec : RuleSpec → rules.Rule
view_spec c =
    let matches = view_matches c.matches.items in
    record { option_values = c.option_values.items; matches = matches; action = c.action; target_options = c.target_options.items }

-- an option with the words of its values as the definitions have it
abbrev pub view_option_words : OptionWords → words.OptionWords
view_option_words p = record { inverted = p.inverted; option = p.option; values = words_in p.values; place = p.place }

-- an option of the code and the words after it
abbrev pub Lent : Type 0
Lent = OptionWords × WordSlice

-- an option and the words after it are what the definition gives
abbrev pub OptionWordsGive : Result Lent RuleFault → Result (words.OptionWords × List (List ℕ)) Refusal → Type 0
OptionWordsGive r given = Gives (λ (x : Lent). (view_option_words x.0, words_in x.1)) r given

-- ---- How what a rule holds is kept: with its copies or by itself.

-- what is held
abbrev pub held : Owner → RuleSpec
held (owner.Shared spec) = spec.value
held (owner.Own spec) = spec.value

-- copies of the rule may hold it too
abbrev pub is_shared : Owner → Bool
is_shared (owner.Shared spec) = true
is_shared (owner.Own spec) = false
