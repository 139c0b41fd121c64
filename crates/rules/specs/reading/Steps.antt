-- How words are read as a rule: one option after another, each with an optional `!`, a name and its values, and legal after those before it
-- (iptables(8), PARAMETERS and COMMANDS).
use Prim.Native.Nat.{zero, suc}
use Rattle.std.specs.Prelude.{ℕ, ◌-◌, Bool, true, false, nat_lt, List, [], ◌∷◌, length, take, drop, codes, if◌then◌else◌, Option, Some, None, Result, Ok, Err, ◌+◌, ◌==◌, ◌&&◌, nat_le, ◌++◌, slice_set, find}
use Rattle.std.specs.Str.{bytes_eq}
use Rattle.std.specs.List.{slice_index_or, list_any}
use Rattle.fields.specs.values.Name.{name_of}
use Rattle.rules.specs.options.Options.{option_of, value_count, may_be_inverted, owner, slot, kind_has, first_of}
use Rattle.rules.specs.declared.reading.fault.Refusal.{Refusal}
use Rattle.rules.specs.declared.options.option.Opt.{Opt}
use Rattle.rules.specs.Sequence.{◌>>=◌, or_refused}
use Rattle.rules.specs.options.Matches.{kind_of, implied_kinds}
use Rattle.rules.specs.options.OptionValues.{slot_of, value_of}
use Rattle.rules.specs.rule.Actions.{action_of, action_has}
use Rattle.rules.specs.rule.Needs.{is_met_for, unmet}
use Rattle.rules.specs.rule.Rules.{Match, Rule, empty_rule, normal_form}
use Rattle.rules.specs.declared.options.option.Owner.{Owner}
use Rattle.rules.specs.declared.options.match_kind.MatchKind.{MatchKind}
use Rattle.rules.specs.declared.options.option_value.OptionValue.{OptionValue}
use Rattle.rules.specs.declared.rule.action.Action.{Action}
use Rattle.rules.specs.declared.reading.fault.Refusal.TheVariants as refusal
use Rattle.rules.specs.declared.options.option.Owner.TheVariants as owned
use Rattle.rules.specs.declared.options.match_kind.MatchKind.TheVariants as kind
use Rattle.rules.specs.declared.rule.action.Action.TheVariants as action

-- ---- One option as words give it: an optional `!`, one of its names, its values (iptables(8), PARAMETERS).

-- an option with the words of its values, whether it is inverted, and the place of its name in the line
pub record OptionWords : Type 0 where
  pub inverted : Bool
  pub option : Opt
  pub values : List (List ℕ)
  pub place : ℕ

-- the option and the words of its values, whatever they look like, and the words after them
abbrev pub with_values : Bool → Opt → ℕ → List (List ℕ) → Result (OptionWords × List (List ℕ)) Refusal
with_values inverted o place words =
    if nat_lt (length words) (value_count o) then Err refusal.ValueMissing
    else Ok (record { inverted = inverted; option = o; values = take (value_count o) words; place = place }, drop (value_count o) words)

-- the option after a `!`, if it may be inverted
abbrev pub inverted_words : Option Opt → ℕ → List (List ℕ) → Result (OptionWords × List (List ℕ)) Refusal
inverted_words None place words = Err refusal.InversionNotAllowed
inverted_words (Some o) place words = if may_be_inverted o then with_values true o place words else Err refusal.InversionNotAllowed

-- the option in the words after a `!`
abbrev pub after_bang : ℕ → List (List ℕ) → Result (OptionWords × List (List ℕ)) Refusal
after_bang place [] = Err refusal.ValueMissing
after_bang place (w ∷ ws) = inverted_words (option_of w) place ws

-- the option without `!`
abbrev pub plain_words : Option Opt → ℕ → List (List ℕ) → Result (OptionWords × List (List ℕ)) Refusal
plain_words None place words = Err (refusal.UnknownOption place)
plain_words (Some o) place words = with_values false o place words

-- the option at the front of the words, and the words after it; `end` is the place after the last word of the line
unfoldable pub option_words_at : ℕ → List (List ℕ) → Result (OptionWords × List (List ℕ)) Refusal
option_words_at end [] = Err refusal.ValueMissing
option_words_at end (w ∷ ws) =
    if bytes_eq w (codes "!") then after_bang (end - length ws) ws else plain_words (option_of w) (end - length (w ∷ ws)) ws

-- ---- How words are read as a rule: one option after another, each of which has to be legal after those before it (iptables(8), COMMANDS).

-- an option with this place was given already
abbrev pub is_given : ℕ → List OptionValue → Bool
is_given slot option_values = list_any (λ (s : OptionValue). slot_of s == slot) option_values

-- the options with one more, put before the first option with a later place
abbrev pub insert_by_place : ℕ → OptionValue → List OptionValue → List OptionValue
insert_by_place slot s [] = s ∷ []
insert_by_place slot s (t ∷ ts) = if nat_lt slot (slot_of t) then s ∷ t ∷ ts else t ∷ insert_by_place slot s ts

-- the options with one more, unless one with the same place was given
unfoldable pub with_option : List OptionValue → OptionWords → Result (List OptionValue) Refusal
with_option option_values p =
    if is_given (slot p.option) option_values then Err refusal.RepeatedOption
    else
    value_of p.option p.inverted p.values
    >>= λ v. Ok (insert_by_place (slot p.option) (record { inverted = p.inverted; value = v }) option_values)

-- the rule with these as its own options
abbrev pub with_option_values : Rule → List OptionValue → Rule
with_option_values r option_values = record { option_values = option_values; matches = r.matches; action = r.action; target_options = r.target_options }

-- the rule with these matches
abbrev pub with_matches : Rule → List Match → Rule
with_matches r matches = record { option_values = r.option_values; matches = matches; action = r.action; target_options = r.target_options }

-- the rule with this target
abbrev pub with_action : Rule → Action → Rule
with_action r t = record { option_values = r.option_values; matches = r.matches; action = Some t; target_options = r.target_options }

-- the rule with these options of its target
abbrev pub with_target_options : Rule → List OptionValue → Rule
with_target_options r options = record { option_values = r.option_values; matches = r.matches; action = r.action; target_options = options }

-- the rule with one more match, if it has fewer than 16
unfoldable pub with_match : Rule → MatchKind → Result Rule Refusal
with_match r k =
    if nat_le 16 (length r.matches) then Err refusal.TooManyMatches
    else let one : Match = record { kind = k; option_values = [] } in Ok (with_matches r (r.matches ++ one ∷ []))

-- the place found further on, counted from here; else this place, if the match here has the option
abbrev pub later : Bool → Option ℕ → Option ℕ
later here (Some i) = Some (i + 1)
later here None = if here then Some 0 else None

-- the place of the last match that has this option
abbrev pub last_with : Opt → List Match → Option ℕ
last_with o [] = None
last_with o (m ∷ ms) = later (kind_has m.kind o) (last_with o ms)

-- the match that an option starts without `-m`: tcp, udp or icmp, if it is the rule's protocol and has the option
abbrev pub implied_match : List OptionValue → Opt → Option MatchKind
implied_match option_values o = find (λ k. is_met_for k option_values && kind_has k o) implied_kinds

-- the option may start a match without `-m`
abbrev pub is_implied_option : Opt → Bool
is_implied_option o = list_any (λ k. kind_has k o) implied_kinds

-- the rule with the match that an option starts, and the match's place; else a protocol is needed, or the option is unknown here
abbrev pub with_match_for : Rule → OptionWords → Option MatchKind → Result (Rule × ℕ) Refusal
with_match_for r p None = if is_implied_option p.option then Err refusal.ProtocolNeeded else Err (refusal.UnknownOption p.place)
with_match_for r p (Some k) = with_match r k >>= λ s. Ok (s, length r.matches)

-- the place of a match that was started, or that of the match that the option starts
abbrev pub at_match_or_new : Rule → OptionWords → Option ℕ → Result (Rule × ℕ) Refusal
at_match_or_new r p (Some i) = Ok (r, i)
at_match_or_new r p None = with_match_for r p (implied_match r.option_values p.option)

-- the rule with the match that an option belongs to (the last one that has it, or one that it starts), and that match's place
unfoldable pub match_for : Rule → OptionWords → Result (Rule × ℕ) Refusal
match_for r p = at_match_or_new r p (last_with p.option r.matches)

-- what stands for a match where there is none
abbrev pub no_match : Match
no_match = record { kind = kind.Comment; option_values = [] }

-- the matches, with one more option for the match at a place
unfoldable pub with_option_at : List Match → ℕ → OptionWords → Result (List Match) Refusal
with_option_at ms i p =
    let m = slice_index_or ms i no_match in
    with_option m.option_values p >>= λ ss. Ok (slice_set ms i (record { kind = m.kind; option_values = ss }))

-- `-g` was given
abbrev pub has_goto : Option Action → Bool
has_goto None = false
has_goto (Some action.Accept) = false
has_goto (Some action.Drop) = false
has_goto (Some action.Return) = false
has_goto (Some action.Reject) = false
has_goto (Some action.Log) = false
has_goto (Some (action.Jump name)) = false
has_goto (Some (action.Goto name)) = true

-- `-j` was given
abbrev pub has_jump : Option Action → Bool
has_jump None = false
has_jump (Some (action.Goto name)) = false
has_jump (Some t) = true

-- the rule with the target that `-j` names, if it has none yet
unfoldable pub with_jump : Rule → List ℕ → Result Rule Refusal
with_jump r text =
    if has_goto r.action then Err refusal.JumpAndGoto
    else if has_jump r.action then Err refusal.RepeatedOption
    else or_refused refusal.BadValue (action_of text) >>= λ t. Ok (with_action r t)

-- the rule with the chain that `-g` names, if it has no target yet
unfoldable pub with_goto : Rule → List ℕ → Result Rule Refusal
with_goto r text =
    if has_jump r.action then Err refusal.JumpAndGoto
    else if has_goto r.action then Err refusal.RepeatedOption
    else or_refused refusal.BadValue (name_of text) >>= λ n. Ok (with_action r (action.Goto n))

-- the rule with one more option of a match
abbrev pub match_step : Rule → OptionWords → Result Rule Refusal
match_step r p = match_for r p >>= λ s. with_option_at s.0.matches s.1 p >>= λ ms. Ok (with_matches s.0 ms)

-- the rule with one more option, by what the option belongs to
abbrev pub owned_step : Owner → Rule → OptionWords → Result Rule Refusal
owned_step owned.Rule r p = with_option r.option_values p >>= λ ss. Ok (with_option_values r ss)
owned_step owned.Start r p = or_refused refusal.UnknownMatch (kind_of (first_of p.values)) >>= λ k. with_match r k
owned_step owned.Jump r p = with_jump r (first_of p.values)
owned_step owned.Goto r p = with_goto r (first_of p.values)
owned_step (owned.Match ks) r p = match_step r p
owned_step (owned.Target t) r p =
    if action_has r.action p.option then (with_option r.target_options p >>= λ ss. Ok (with_target_options r ss))
    else Err refusal.OtherTarget

-- the rule so far with one more option, or why that option isn't legal after those before it
unfoldable pub step : Rule → OptionWords → Result Rule Refusal
step r p = owned_step (owner p.option) r p

-- the rule so far with the options of the words, one after another; the first number is at least the number of words
abbrev pub steps_from : ℕ → ℕ → Rule → List (List ℕ) → Result Rule Refusal
steps_from n end r [] = Ok r
steps_from zero end r (w ∷ ws) = Err refusal.ValueMissing
steps_from (suc n) end r (w ∷ ws) = option_words_at end (w ∷ ws) >>= λ q. step r q.0 >>= λ s. steps_from n end s q.1

-- the rule, or the refusal of what it lacks
abbrev pub unless_unmet : Rule → Option Refusal → Result Rule Refusal
unless_unmet r None = Ok r
unless_unmet r (Some e) = Err e

-- the rule in its normal form, unless something that it needs is missing
abbrev pub with_needs_met : Rule → Result Rule Refusal
with_needs_met r = unless_unmet (normal_form r) (unmet (normal_form r))

-- the rule that words are read as, or their first fault; `end` is the place after the last word of the line
unfoldable pub rule_of : ℕ → List (List ℕ) → Result Rule Refusal
rule_of end words = steps_from (length words) end empty_rule words >>= with_needs_met
