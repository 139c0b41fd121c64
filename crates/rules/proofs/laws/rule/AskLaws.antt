-- What a rule asks of interfaces, it asks by options of its own; where it asks nothing, it allows all.
use Rattle.std.proofs.Common.{◌≡◌, ℕ, Bool, true, false, cond, ◌==◌, ◌&&◌, ◌||◌, not, List, [], ◌∷◌, refl, sym, ap, ◌∙◌}
use Rattle.rules.proofs.laws.reading.Readable.{false-true, Each, OfMatch, IsMatch}
use Rattle.std.specs.List.{list_all, list_any}
use Rattle.std.proofs.lemmas.Bool.{or_parts, and_from}
use Rattle.fields.specs.declared.numbers.field.Field.{Field}
use Rattle.fields.specs.declared.numbers.field.Field.TheVariants as field
use Rattle.rules.specs.options.Matches.{match_row}
use Rattle.rules.specs.options.Options.{owner, is_match_of}
use Rattle.rules.specs.options.OptionValues.{option_of_value}
use Rattle.rules.specs.rule.Rules.{Match, Rule}
use Rattle.rules.specs.rule.Allows.{field_of, holds_of, same_field, is_on, asks, asks_on, option_value_allows, fragment_allows, match_allows, allows}
use Rattle.rules.specs.Printing.{ReadsItself}
use Rattle.rules.specs.declared.options.match_kind.MatchKind.{MatchKind}
use Rattle.rules.specs.declared.options.option_value.OptionValue.{OptionValue}
use Rattle.rules.specs.declared.options.value.Value.{Value}
use Rattle.rules.specs.declared.options.value.Value.TheVariants as value
use Rattle.rules.proofs.laws.printing.RoundTripLaws.{readable}

-- no option of a match asks on an interface
none-asks : (v : Value) (k : MatchKind) → is_match_of (owner (option_of_value v)) k ≡ true → (is_on field.InIface (field_of v) ≡ false) × (is_on field.OutIface (field_of v) ≡ false)
none-asks (value.Source x) k h = false-true h
none-asks (value.Destination x) k h = false-true h
none-asks (value.InInterface x) k h = false-true h
none-asks (value.OutInterface x) k h = false-true h
none-asks (value.Protocol x) k h = false-true h
none-asks value.Fragment k h = false-true h
none-asks (value.RejectWith x) k h = false-true h
none-asks (value.LogPrefix x) k h = false-true h
none-asks (value.LogLevel x) k h = false-true h
none-asks value.LogTcpSequence k h = false-true h
none-asks value.LogTcpOptions k h = false-true h
none-asks value.LogIpOptions k h = false-true h
none-asks value.LogUid k h = false-true h
none-asks v k h = (refl, refl)

-- nor does a match
module _ (f : Field) (none : (v : Value) (k : MatchKind) → is_match_of (owner (option_of_value v)) k ≡ true → is_on f (field_of v) ≡ false) where
  option_values-ask : (m : Match) (ss : List OptionValue) → Each (λ s. OfMatch m (owner (option_of_value s.value))) ss → list_any (asks f) ss ≡ false
  option_values-ask m [] own = refl
  option_values-ask m (s ∷ ss) own = ap (λ b. b || list_any (asks f) ss) (none s.value m.kind own.0) ∙ option_values-ask m ss own.1

  matches-ask : (ms : List Match) → Each IsMatch ms → list_any (λ (m : Match). list_any (asks f) m.option_values) ms ≡ false
  matches-ask [] are = refl
  matches-ask (m ∷ ms) are = ap (λ b. b || list_any (λ (m : Match). list_any (asks f) m.option_values) ms) (option_values-ask m m.option_values are.0.own) ∙ matches-ask ms are.1

  own-asks : (r : Rule) → ReadsItself r → list_any (asks f) r.option_values ≡ asks_on f r
  own-asks r is = sym (ap (λ b. list_any (asks f) r.option_values || b) (matches-ask r.matches (readable r is).parts.matches) ∙ or-false (list_any (asks f) r.option_values))
    where
      or-false : (b : Bool) → (b || false) ≡ b
      or-false true = refl
      or-false false = refl

pub in_is_own : (r : Rule) → ReadsItself r → list_any (asks field.InIface) r.option_values ≡ asks_on field.InIface r
in_is_own r is = own-asks field.InIface (λ v k h. (none-asks v k h).0) r is

pub out_is_own : (r : Rule) → ReadsItself r → list_any (asks field.OutIface) r.option_values ≡ asks_on field.OutIface r
out_is_own r is = own-asks field.OutIface (λ v k h. (none-asks v k h).1) r is

-- where nothing is asked all is allowed
module _ (f : Field) (n : ℕ) (other : same_field f field.Fragment ≡ false) where
  option_values-allow : (ss : List OptionValue) → list_any (asks f) ss ≡ false → list_all (option_value_allows f n) ss ≡ true
  option_values-allow [] free = refl
  option_values-allow (s ∷ ss) free =
      let (here, rest) = or_parts (asks f s) (list_any (asks f) ss) free in
      and_from _ _ (ap (λ b. cond b (cond s.inverted (not (holds_of s.value n)) (holds_of s.value n)) true) here) (option_values-allow ss rest)

  first-part : (k : MatchKind) → fragment_allows f n k ≡ true
  first-part k = ap (λ b. not ((match_row k).asks_fragment && b) || (n == 0)) other ∙ go (match_row k).asks_fragment
    where
      go : (b : Bool) → (not (b && false) || (n == 0)) ≡ true
      go true = refl
      go false = refl

  matches-allow : (ms : List Match) → list_any (λ (m : Match). list_any (asks f) m.option_values) ms ≡ false → list_all (match_allows f n) ms ≡ true
  matches-allow [] free = refl
  matches-allow (m ∷ ms) free =
      let (here, rest) = or_parts (list_any (asks f) m.option_values) (list_any (λ (m : Match). list_any (asks f) m.option_values) ms) free in
      and_from _ _ (and_from _ _ (first-part m.kind) (option_values-allow m.option_values here)) (matches-allow ms rest)

  all-allowed : (r : Rule) → asks_on f r ≡ false → allows r f n ≡ true
  unfolding allows
  all-allowed r free =
      let (own, rest) = or_parts (list_any (asks f) r.option_values) (list_any (λ (m : Match). list_any (asks f) m.option_values) r.matches) free in
      and_from _ _ (option_values-allow r.option_values own) (matches-allow r.matches rest)

pub in_free : (r : Rule) (n : ℕ) → asks_on field.InIface r ≡ false → allows r field.InIface n ≡ true
in_free r n free = all-allowed field.InIface n refl r free

pub out_free : (r : Rule) (n : ℕ) → asks_on field.OutIface r ≡ false → allows r field.OutIface n ≡ true
out_free r n free = all-allowed field.OutIface n refl r free
