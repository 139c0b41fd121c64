-- Every rule that was read has a text that reads back, also with another chain's name and as a line of a listing.
use Rattle.std.proofs.Common.{◌≡◌, ℕ, List, ◌++◌, length, Option, Some, refl, sym, ap, ◌∙◌, arith, length-append, None, IsTrue, ◌∷◌}
use Rattle.std.specs.Prelude.{Result, Ok, codes, filter}
use Rattle.std.proofs.lemmas.Bool.{cond-true}
use Rattle.fields.specs.text.Line.{IsOneLine}
use Rattle.fields.specs.text.Words.{words_of}
use Rattle.fields.proofs.laws.text.PrintedLaws.{found_line, words_of-spaced_all}
use Rattle.fields.specs.values.Name.{is_name, name_of}
use Rattle.fields.specs.text.Printed.{Shown, bare, ArePrintable}
use Rattle.rules.specs.rule.Rules.{Rule, action_default, or_default, normal_form}
use Rattle.rules.specs.Printing.{shown_rule, rule_text, ReadsItself, TextReadsBack, HasShortLine, IsOnlyOne, RenamedReadsBack, IsListedLine, LinesOfRulesReadBack}
use Rattle.rules.specs.reading.Steps.{rule_of}
use Rattle.rules.specs.declared.reading.fault.Refusal.{Refusal}
use Rattle.rules.specs.rule.Actions.{action_with_chain_name, with_chain_name}
use Rattle.rules.specs.options.OptionValues.{is_condition}
use Rattle.rules.specs.declared.rule.action.Action.{Action}
use Rattle.rules.specs.declared.options.option_value.OptionValue.{OptionValue}
use Rattle.rules.specs.rule.Readable as public
use Rattle.rules.specs.declared.rule.action.Action.TheVariants as action
use Rattle.rules.proofs.laws.reading.Readable.{IsReadable, IsGroup, OfAction, ActionBack, readable-of}
use Rattle.rules.proofs.laws.reading.ReadableLaws.{read-readable}
use Rattle.rules.proofs.laws.printing.RoundLaws.{rule_of-shown_rule}
use Rattle.rules.proofs.laws.options.TableLaws.{plain}
use Rattle.rules.proofs.laws.printing.TextLaws.{words-of-text, rule-short, bare-from, word-more, rule-spelled}
use Rattle.rules.proofs.laws.options.WordForms.{name-word}

-- ---- Every rule that was read has a text that reads back.

-- what was read reads itself
pub read_reads : (end : ℕ) (words : List (List ℕ)) (r : Rule) → rule_of end words ≡ Ok r → ReadsItself r
read_reads end words r e = rule_of-shown_rule 0 r (read-readable end words r e)

pub readable : (r : Rule) → ReadsItself r → IsReadable r
readable r is = read-readable 0 (plain (shown_rule r)) r is

-- every rule is readable, so its options stand in the order of a listing
pub is_readable : (r : Rule) → ReadsItself r → public.IsReadable r
is_readable r is = readable-of r (readable r is)

pub is_in_order : (r : Rule) → ReadsItself r → public.IsInOrder r
is_in_order r is = (is_readable r is).ordered

pub text_reads_back : (r : Rule) → ReadsItself r → TextReadsBack r
text_reads_back r is = (plain (shown_rule r), words-of-text r (readable r is).parts, λ end. rule_of-shown_rule end r (readable r is))

pub line_is_short : (r : Rule) → ReadsItself r → HasShortLine r
line_is_short r is name few =
    let short = rule-short r (readable r is).parts in
    let front : length (codes "-A ") ≡ 3 = refl in
    omega (arith, short, front, few, length-append (codes "-A ") (name ++ rule_text r), length-append name (rule_text r))

one-reading : (a b : List (List ℕ)) (r s : Rule) → ◌≡◌ {A = Option (List (List ℕ))} (Some a) (Some b) → rule_of 0 a ≡ Ok r → rule_of 0 b ≡ Ok s → r ≡ s
one-reading a b r s same first second =
    let words : a ≡ b = cc in
    same-rule r s (sym first ∙ ap (rule_of 0) words ∙ second)
  where
    same-rule : (r s : Rule) → ◌≡◌ {A = Result Rule Refusal} (Ok r) (Ok s) → r ≡ s
    same-rule r s e = cc

pub is_only_one : (r : Rule) → ReadsItself r → IsOnlyOne r
is_only_one r is other (words, cut, reads) same =
    let (mine, cut', reads') = text_reads_back r is in
    one-reading words mine other r (sym cut ∙ ap words_of same ∙ cut') (reads 0) (reads' 0)

-- rules that were read are equal where their texts are
pub same_text : (r s : Rule) → ReadsItself r → ReadsItself s → rule_text r ≡ rule_text s → r ≡ s
same_text r s first second same = is_only_one s second r (text_reads_back r first) same

-- the text of a rule has no newline
pub text_in_line : (r : Rule) → ReadsItself r → IsOneLine (rule_text r)
text_in_line r is = found_line (plain (shown_rule r)) (rule_text r) (words-of-text r (readable r is).parts)

-- what the text of a rule is
pub ruleset listing_laws = (text_reads_back, is_only_one, line_is_short, text_in_line)

-- ---- A rule that names another chain is readable too.

same-default : (name : List ℕ) (a : Option Action) → action_default (action_with_chain_name name a) ≡ action_default a
same-default name None = refl
same-default name (Some action.Accept) = refl
same-default name (Some action.Drop) = refl
same-default name (Some action.Return) = refl
same-default name (Some action.Reject) = refl
same-default name (Some action.Log) = refl
same-default name (Some (action.Jump old)) = refl
same-default name (Some (action.Goto old)) = refl

named-back : (name : List ℕ) (a : Option Action) → name_of name ≡ Some name → ActionBack a → ActionBack (action_with_chain_name name a)
named-back name None is back = tt
named-back name (Some action.Accept) is back = tt
named-back name (Some action.Drop) is back = tt
named-back name (Some action.Return) is back = tt
named-back name (Some action.Reject) is back = tt
named-back name (Some action.Log) is back = tt
named-back name (Some (action.Jump old)) is back = is
named-back name (Some (action.Goto old)) is back = is

same-target_options : (name : List ℕ) (a : Option Action) (ss : List OptionValue) → IsGroup (OfAction a) ss → IsGroup (OfAction (action_with_chain_name name a)) ss
same-target_options name None ss is = is
same-target_options name (Some action.Accept) ss is = is
same-target_options name (Some action.Drop) ss is = is
same-target_options name (Some action.Return) ss is = is
same-target_options name (Some action.Reject) ss is = is
same-target_options name (Some action.Log) ss is = is
same-target_options name (Some (action.Jump old)) ss is = record { rises = is.rises; own = is.own; back = is.back }
same-target_options name (Some (action.Goto old)) ss is = record { rises = is.rises; own = is.own; back = is.back }

pub renamed_reads : (name : List ℕ) (r : Rule) → name_of name ≡ Some name → ReadsItself r → ReadsItself (with_chain_name name r)
renamed_reads name r is reads =
    let was = readable r reads in
    rule_of-shown_rule 0 (with_chain_name name r) (record {
      parts = record {
        option_values = was.parts.option_values;
        few = was.parts.few;
        matches = was.parts.matches;
        action = named-back name r.action is was.parts.action;
        target_options = same-target_options name r.action r.target_options was.parts.target_options;
      };
      conditions = ap (λ d. with_target_options (or_default d (filter is_condition r.target_options))) (same-default name r.action) ∙ ap (with_chain_name name) was.conditions;
      met = was.met;
    })
  where
    with_target_options : List OptionValue → Rule
    with_target_options ss = record { option_values = (normal_form r).option_values; matches = (normal_form r).matches; action = action_with_chain_name name r.action; target_options = ss }

pub name_is : (name : List ℕ) → IsTrue (is_name name) → name_of name ≡ Some name
unfolding name_of
name_is name h = cond-true (is_name name) _ _ h

pub renamed_reads_back : RenamedReadsBack
renamed_reads_back r name h back = text_reads_back (with_chain_name name r) (renamed_reads name r (name_is name h) (read_reads 0 back.0 r (back.2 0)))

-- ---- The line of a rule in a listing reads back.

-- the words of the line, as they are printed, each after a blank
abbrev line_words : List ℕ → Rule → List Shown
line_words name r = bare (codes "-A") ∷ (bare name ∷ shown_rule r)

line-spelled : (name : List ℕ) (r : Rule) → name_of name ≡ Some name → ReadsItself r → ArePrintable (line_words name r)
line-spelled name r is reads =
    word-more (bare (codes "-A")) (bare name ∷ shown_rule r) (bare-from (codes "-A") refl)
    (word-more (bare name) (shown_rule r) (name-word name is).bare (rule-spelled r (readable r reads).parts))

line-cut : (name : List ℕ) (r : Rule) → name_of name ≡ Some name → ReadsItself r → words_of (codes "-A " ++ (name ++ rule_text r)) ≡ Some (codes "-A" ∷ name ∷ plain (shown_rule r))
line-cut name r is reads = words_of-spaced_all (line_words name r) (line-spelled name r is reads)

line-listed : (name : List ℕ) (r : Rule) → name_of name ≡ Some name → ReadsItself r → IsListedLine name r
line-listed name r is reads = record {
  words = plain (shown_rule r);
  cut = line-cut name r is reads;
  read = λ end. rule_of-shown_rule end r (readable r reads);
  one_line = found_line (codes "-A" ∷ name ∷ plain (shown_rule r)) (codes "-A " ++ (name ++ rule_text r)) (line-cut name r is reads);
  short = line_is_short r reads name (name-word name is).short;
}

pub lines_of_rules_read_back : LinesOfRulesReadBack
lines_of_rules_read_back name r named back = line-listed name r (name_is name named) (read_reads 0 back.0 r (back.2 0))
