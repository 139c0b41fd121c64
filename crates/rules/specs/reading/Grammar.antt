-- What it means that words are a rule, or have a fault (iptables(8), COMMANDS): option by option, without saying how they are
-- found.
use Rattle.std.specs.Prelude.{◌≡◌, ◌⊎◌, ◌↔◌, ℕ, ◌-◌, Bool, true, false, List, [], ◌∷◌, ◌++◌, length, Some, Ok, Err, codes}
use Rattle.rules.specs.options.Options.{option_of, value_count, may_be_inverted}
use Rattle.rules.specs.rule.Rules.{Rule, empty_rule}
use Rattle.rules.specs.reading.Steps.{step, with_needs_met, rule_of, OptionWords, option_words_at}
use Rattle.rules.specs.declared.reading.fault.Refusal.{Refusal}

-- an option's name and its values, after a `!` or not
abbrev pub spelled_words : Bool → List ℕ → List (List ℕ) → List (List ℕ)
spelled_words true name values = codes "!" ∷ (name ∷ values)
spelled_words false name values = name ∷ values

-- the words begin with an option: a `!` where it is inverted, one of its names, its values; the rest follows
pub record BeginsWith (end : ℕ) (words : List (List ℕ)) (p : OptionWords) (rest : List (List ℕ)) : Type 0 where
  pub name : List ℕ
  pub spells : option_of name ≡ Some p.option
  pub count : value_count p.option ≡ length p.values
  pub bang : p.inverted ≡ true → may_be_inverted p.option ≡ true
  pub split : words ≡ spelled_words p.inverted name p.values ++ rest
  pub place : p.place ≡ end - length (name ∷ (p.values ++ rest))

-- the words are these options and a rest, each option legal after those before it, and they lead from one rule to another
abbrev pub AreOptions : ℕ → Rule → List OptionWords → List (List ℕ) → Rule → List (List ℕ) → Type 0
AreOptions end from [] words to rest = (words ≡ rest) × (from ≡ to)
AreOptions end from (p ∷ ps) words to rest =
    (after : List (List ℕ)) × (with_it : Rule) × BeginsWith end words p after × (step from p ≡ Ok with_it)
    × AreOptions end with_it ps after to rest

-- the words read as a rule: they are legal options, and after the last of them nothing that the rule needs is missing
abbrev pub ReadsAs : ℕ → List (List ℕ) → Rule → Type 0
ReadsAs end words r = (options : List OptionWords) × (d : Rule) × AreOptions end empty_rule options words d [] × (with_needs_met d ≡ Ok r)

-- the words don't begin with a legal option: they aren't one with its values, or it isn't legal after those before it
abbrev pub IsRefused : ℕ → Rule → List (List ℕ) → Refusal → Type 0
IsRefused end d words e =
    (option_words_at end words ≡ Err e)
    ⊎ ((p : OptionWords) × (rest : List (List ℕ)) × BeginsWith end words p rest × (step d p ≡ Err e))

-- the words begin with legal options, and what follows doesn't begin with one
abbrev pub IsRefusedWithin : ℕ → List (List ℕ) → Refusal → Type 0
IsRefusedWithin end words e =
    (options : List OptionWords) × (d : Rule) × (w : List ℕ) × (rest : List (List ℕ))
    × AreOptions end empty_rule options words d (w ∷ rest) × IsRefused end d (w ∷ rest) e

-- all options of the words are legal, and after the last of them something that the rule needs is missing
abbrev pub IsRefusedAtEnd : ℕ → List (List ℕ) → Refusal → Type 0
IsRefusedAtEnd end words e =
    (options : List OptionWords) × (d : Rule) × AreOptions end empty_rule options words d [] × (with_needs_met d ≡ Err e)

-- the words have this fault: that of the first option that isn't legal or, where all are legal, that of what the rule lacks
abbrev pub HasFault : ℕ → List (List ℕ) → Refusal → Type 0
HasFault end words e = IsRefusedWithin end words e ⊎ IsRefusedAtEnd end words e

-- words are read as a rule exactly where they are legal options and nothing is missing
abbrev pub ReadsByGrammar : Type 0
ReadsByGrammar = (end : ℕ) (words : List (List ℕ)) (r : Rule) → (rule_of end words ≡ Ok r) ↔ ReadsAs end words r

-- words are refused with exactly the fault that they have
abbrev pub FailsByGrammar : Type 0
FailsByGrammar = (end : ℕ) (words : List (List ℕ)) (e : Refusal) → (rule_of end words ≡ Err e) ↔ HasFault end words e

-- words have a rule or a fault
abbrev pub HasOneOutcome : Type 0
HasOneOutcome = (end : ℕ) (words : List (List ℕ)) → ((r : Rule) × ReadsAs end words r) ⊎ ((e : Refusal) × HasFault end words e)
