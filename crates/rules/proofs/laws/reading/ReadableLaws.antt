-- A rule that was read is readable.
use Prim.Native.Nat.{suc}
use Rattle.std.proofs.Common.{◌≡◌, ℕ, ◌≤◌, Bool, true, false, cond, ◌||◌, not, List, [], ◌∷◌, length, map, filter, Option, None, Some, refl, ap, subst, ◌∙◌, arith}
use Rattle.std.specs.Prelude.{Result, Ok, Err, codes}
use Rattle.std.proofs.lemmas.List.{length-map}
use Rattle.fields.specs.declared.values.icmp.Asked.TheVariants as asked
use Rattle.fields.specs.declared.values.reject.RejectType.TheVariants as reject
use Rattle.fields.specs.values.RejectType.{reject_text}
use Rattle.fields.proofs.laws.values.IcmpLaws as icmp
use Rattle.fields.proofs.laws.values.RejectLaws.{reads_text}
use Rattle.rules.specs.Sequence.{◌>>=◌}
use Rattle.rules.specs.options.Options.{owner}
use Rattle.rules.specs.options.OptionValues.{option_of_value, slot_of, read_as, value_of, is_trivial, is_condition}
use Rattle.rules.specs.rule.Rules.{Match, Rule, empty_rule, match_default, action_default, or_default, normal_match, normal_form}
use Rattle.rules.specs.reading.Grammar.{AreOptions}
use Rattle.rules.specs.reading.Steps.{steps_from, unless_unmet, with_needs_met, rule_of, OptionWords}
use Rattle.rules.specs.rule.Needs.{unmet}
use Rattle.rules.specs.declared.rule.action.Action.{Action}
use Rattle.rules.specs.declared.rule.action.Action.TheVariants as action
use Rattle.rules.specs.declared.reading.fault.Refusal.{Refusal}
use Rattle.rules.specs.declared.options.match_kind.MatchKind.{MatchKind}
use Rattle.rules.specs.declared.options.match_kind.MatchKind.TheVariants as kind
use Rattle.rules.specs.declared.options.option.Opt.{Opt}
use Rattle.rules.specs.declared.options.option.Opt.TheVariants as opt
use Rattle.rules.specs.options.Matches.{same_kind}
use Rattle.rules.specs.declared.options.option.Owner.{Owner}
use Rattle.rules.specs.declared.options.option_value.OptionValue.{OptionValue}
use Rattle.rules.specs.declared.options.value.Value.{Value}
use Rattle.rules.specs.declared.options.value.Value.TheVariants as value
use Rattle.rules.proofs.laws.reading.KeepLaws.{rises-more, step-keeps, empty-parts}
use Rattle.rules.proofs.laws.reading.Readable.{ReadsBack, Each, Rises, IsGroup, OfRule, OfMatch, OfAction, IsMatch, IsLegal, IsReadable}
use Rattle.rules.proofs.laws.reading.GrammarLaws.{steps-row}
use Rattle.rules.proofs.laws.options.ValueLaws.{IsGood, value_of-good}

-- the conditions of a group
kept-rises : (n : ℕ) (ss : List OptionValue) → Rises n ss → Rises n (filter is_condition ss)
kept-rises n [] rises = tt
kept-rises n (s ∷ ss) rises = go (is_condition s) (kept-rises (suc (slot_of s)) ss rises.1)
  where
    first : n ≤ slot_of s
    first = rises.0

    go : (b : Bool) → Rises (suc (slot_of s)) (filter is_condition ss) → Rises n (cond b (s ∷ filter is_condition ss) (filter is_condition ss))
    go true rest = (first, rest)
    go false rest = rises-more n (suc (slot_of s)) (filter is_condition ss) (omega (arith, first)) rest

kept-each : (P : OptionValue → Type 0) (ss : List OptionValue) → Each P ss → Each P (filter is_condition ss)
kept-each P [] each = tt
kept-each P (s ∷ ss) each = go (is_condition s) (kept-each P ss each.1)
  where
    go : (b : Bool) → Each P (filter is_condition ss) → Each P (cond b (s ∷ filter is_condition ss) (filter is_condition ss))
    go true rest = (each.0, rest)
    go false rest = rest

kept-group : (Owns : Owner → Type 0) (ss : List OptionValue) → IsGroup Owns ss → IsGroup Owns (filter is_condition ss)
kept-group Owns ss is = record {
  rises = kept-rises 0 ss is.rises;
  own = kept-each (λ s. Owns (owner (option_of_value s.value))) ss is.own;
  back = kept-each ReadsBack ss is.back;
}

-- what a group may have where nothing is said
abbrev plain_option_value : Value → OptionValue
plain_option_value v = record { inverted = false; value = v }

abbrev FitsDefault : (Owner → Type 0) → Option Value → Type 0
FitsDefault Owns None = Unit {0}
FitsDefault Owns (Some v) = ReadsBack (plain_option_value v) × Owns (owner (option_of_value v)) × (is_trivial v ≡ false)

settled-group : (Owns : Owner → Type 0) (d : Option Value) (ss : List OptionValue) → FitsDefault Owns d → IsGroup Owns ss → IsGroup Owns (or_default d ss)
settled-group Owns None [] fits is = is
settled-group Owns None (s ∷ ss) fits is = is
settled-group Owns (Some v) [] fits is = record { rises = (omega arith, tt); own = (fits.1, tt); back = (fits.0, tt) }
settled-group Owns (Some v) (s ∷ ss) fits is = is

good-back : (o : Opt) (v : Value) → IsGood o false v → ReadsBack (plain_option_value v)
good-back o v good = record { text = good.text; bang = λ e. absurd (false-true e); spelled = good.spelled; short = good.short }
  where
    false-true : false ≡ true → ⊥
    false-true e = cc

icmp-fits : ReadsBack (plain_option_value (value.IcmpType asked.Any))
unfolding value_of
icmp-fits = good-back opt.IcmpType (value.IcmpType asked.Any) (value_of-good opt.IcmpType false (codes "any" ∷ []) (value.IcmpType asked.Any) (ap (read_as value.IcmpType) (icmp.reads_back asked.Any tt)))

reject-fits : ReadsBack (plain_option_value (value.RejectWith reject.PortUnreachable))
unfolding value_of
reject-fits =
    good-back opt.RejectWith (value.RejectWith reject.PortUnreachable)
    (value_of-good opt.RejectWith false (reject_text reject.PortUnreachable ∷ []) (value.RejectWith reject.PortUnreachable) (ap (read_as value.RejectWith) (reads_text (reject_text reject.PortUnreachable) reject.PortUnreachable refl)))

match-fits : (k : MatchKind) (m : Match) → m.kind ≡ k → FitsDefault (OfMatch m) (match_default k)
match-fits kind.Tcp m is = tt
match-fits kind.Udp m is = tt
match-fits kind.Icmp m is = (icmp-fits, ap (λ k. same_kind kind.Icmp k) is, refl)
match-fits kind.Multiport m is = tt
match-fits kind.Iprange m is = tt
match-fits kind.Conntrack m is = tt
match-fits kind.State m is = tt
match-fits kind.Comment m is = tt
match-fits kind.Ttl m is = tt

action-fits : (g : Option Action) → FitsDefault (OfAction g) (action_default g)
action-fits None = tt
action-fits (Some action.Accept) = tt
action-fits (Some action.Drop) = tt
action-fits (Some action.Return) = tt
action-fits (Some action.Reject) = (reject-fits, refl, refl)
action-fits (Some action.Log) = tt
action-fits (Some (action.Jump n)) = tt
action-fits (Some (action.Goto n)) = tt

normal_form-matches : (ms : List Match) → Each IsMatch ms → Each IsMatch (map normal_match ms)
normal_form-matches [] each = tt
normal_form-matches (m ∷ ms) each =
    (settled-group (OfMatch m) (match_default m.kind) (filter is_condition m.option_values) (match-fits m.kind m refl) (kept-group (OfMatch m) m.option_values each.0), normal_form-matches ms each.1)

normal_form-keeps : (r : Rule) → IsLegal r → IsLegal (normal_form r)
normal_form-keeps r has =
    let few = has.few in
    record {
      option_values = kept-group OfRule r.option_values has.option_values;
      few = omega (arith, few, length-map r.matches normal_match);
      matches = normal_form-matches r.matches has.matches;
      action = has.action;
      target_options = settled-group (OfAction r.action) (action_default r.action) (filter is_condition r.target_options) (action-fits r.action) (kept-group (OfAction r.action) r.target_options has.target_options);
    }

-- what is complete stays as it is
kept-twice : (ss : List OptionValue) → filter is_condition (filter is_condition ss) ≡ filter is_condition ss
kept-twice [] = refl
kept-twice (s ∷ ss) = go (is_condition s) refl (kept-twice ss)
  where
    go : (b : Bool) → is_condition s ≡ b → filter is_condition (filter is_condition ss) ≡ filter is_condition ss
        → filter is_condition (cond b (s ∷ filter is_condition ss) (filter is_condition ss)) ≡ cond b (s ∷ filter is_condition ss) (filter is_condition ss)
    go true on rest = ap (λ b. cond b (s ∷ filter is_condition (filter is_condition ss)) (filter is_condition (filter is_condition ss))) on ∙ ap (λ l. s ∷ l) rest
    go false off rest = rest

some-left : (d : Option Value) (s : OptionValue) (ss : List OptionValue) → or_default d (s ∷ ss) ≡ s ∷ ss
some-left None s ss = refl
some-left (Some v) s ss = refl

settled-twice : (Owns : Owner → Type 0) (d : Option Value) (ss : List OptionValue) → FitsDefault Owns d → filter is_condition ss ≡ ss
    → or_default d (filter is_condition (or_default d ss)) ≡ or_default d ss
settled-twice Owns None [] fits kept = refl
settled-twice Owns (Some v) [] fits kept = ap (λ b. or_default (Some v) (cond (false || not b) (plain_option_value v ∷ []) [])) fits.2
settled-twice Owns None (s ∷ ss) fits kept = kept
settled-twice Owns (Some v) (s ∷ ss) fits kept = ap (or_default (Some v)) kept

match-twice : (m : Match) → normal_match (normal_match m) ≡ normal_match m
match-twice m =
    ap (λ l. with_kind m.kind l) (settled-twice (OfMatch m) (match_default m.kind) (filter is_condition m.option_values) (match-fits m.kind m refl) (kept-twice m.option_values))
  where
    with_kind : MatchKind → List OptionValue → Match
    with_kind k l = record { kind = k; option_values = l }

matches-twice : (ms : List Match) → map normal_match (map normal_match ms) ≡ map normal_match ms
matches-twice [] = refl
matches-twice (m ∷ ms) = ap (λ n. n ∷ map normal_match (map normal_match ms)) (match-twice m) ∙ ap (λ l. normal_match m ∷ l) (matches-twice ms)

abbrev rule_with : List OptionValue → List Match → Option Action → List OptionValue → Rule
rule_with a b g d = record { option_values = a; matches = b; action = g; target_options = d }

normal_form-twice : (r : Rule) → normal_form (normal_form r) ≡ normal_form r
normal_form-twice r =
    let a = filter is_condition r.option_values in
    let b = map normal_match r.matches in
    let d = or_default (action_default r.action) (filter is_condition r.target_options) in
    ap (λ l. rule_with l (map normal_match b) r.action (or_default (action_default r.action) (filter is_condition d))) (kept-twice r.option_values)
    ∙ ap (λ l. rule_with a l r.action (or_default (action_default r.action) (filter is_condition d))) (matches-twice r.matches)
    ∙ ap (λ l. rule_with a b r.action l) (settled-twice (OfAction r.action) (action_default r.action) (filter is_condition r.target_options) (action-fits r.action) (kept-twice r.target_options))

-- a row of legal parts
row-keeps : (end : ℕ) (parts : List OptionWords) (r s : Rule) (words rest : List (List ℕ)) → AreOptions end r parts words s rest → IsLegal r → IsLegal s
row-keeps end [] r s words rest row has = subst IsLegal row.1 has
row-keeps end (p ∷ ps) r s words rest (behind, t, begins, stepped, row) has = row-keeps end ps t s behind rest row (step-keeps r t p begins.bang has stepped)

-- a rule that words read as is readable
pub read-readable : (end : ℕ) (words : List (List ℕ)) (r : Rule) → rule_of end words ≡ Ok r → IsReadable r
unfolding rule_of
read-readable end words r e = go (steps_from (length words) end empty_rule words) refl e
  where
    ends : (d : Rule) → IsLegal d → (o : Option Refusal) → unmet (normal_form d) ≡ o → unless_unmet (normal_form d) o ≡ Ok r → IsReadable r
    ends d has (Some f) told h = absurd (cc)
    ends d has None met h =
        let is : normal_form d ≡ r = same (normal_form d) h in
        subst IsReadable is (record { parts = normal_form-keeps d has; conditions = normal_form-twice d; met = met })
      where
        same : (x : Rule) → ◌≡◌ {A = Result Rule Refusal} (Ok x) (Ok r) → x ≡ r
        same x h = cc

    go : (q : Result Rule Refusal) → steps_from (length words) end empty_rule words ≡ q → (q >>= with_needs_met) ≡ Ok r → IsReadable r
    go (Err f) read h = absurd (cc)
    go (Ok d) read h =
        let (parts, row) = steps-row (length words) end empty_rule d words read in
        ends d (row-keeps end parts empty_rule d words [] row empty-parts) (unmet (normal_form d)) refl h
