-- The words of a rule's text read as the rule.
use Rattle.std.proofs.Common.{◌≡◌, ℕ, ◌+◌, ◌<◌, ◌≤◌, Bool, true, false, cond, List, [], ◌∷◌, ◌++◌, length, flat_map, Option, None, Some, refl, sym, ap, subst, ◌∙◌, arith, append_assoc, append-nil, set}
use Rattle.std.specs.Prelude.{Result, Ok, Err, codes}
use Rattle.std.proofs.lemmas.List.{map-append, length-append}
use Rattle.std.proofs.lemmas.Bool.{lt-leb, or_parts, not-true}
use Rattle.std.proofs.Math.Seq.{get_or-append_seam, set-append_seam}
use Rattle.fields.specs.text.Printed.{Shown}
use Rattle.rules.specs.Sequence.{◌>>=◌, or_refused}
use Rattle.rules.specs.options.Matches.{kind_name}
use Rattle.rules.specs.options.Options.{name_of, owner, value_count, is_match_of}
use Rattle.rules.specs.options.OptionValues.{option_of_value, slot_of}
use Rattle.rules.specs.rule.Actions.{action_of, jump_to, is_action_of}
use Rattle.fields.specs.values.Name as chain
use Rattle.rules.specs.rule.Rules.{Match, Rule, empty_rule}
use Rattle.rules.specs.Printing.{shown_value, shown_option_values, shown_match, shown_action, shown_rule}
use Rattle.rules.specs.reading.Steps.{with_option, with_match, with_jump, with_goto, step, owned_step, with_option_values, with_matches, with_action, with_target_options, last_with, match_for, at_match_or_new, with_option_at, no_match, has_goto, has_jump, with_needs_met, unless_unmet, rule_of, OptionWords}
use Rattle.rules.specs.rule.Needs.{unmet}
use Rattle.rules.proofs.laws.reading.Readable.{ReadsBack, Each, OfRule, OfMatch, OfAction, ActionBack, IsMatch, IsLegal, IsReadable}
use Rattle.rules.specs.declared.reading.fault.Refusal.{Refusal}
use Rattle.rules.specs.declared.reading.fault.Refusal.TheVariants as refusal
use Rattle.rules.specs.declared.options.option.Opt.{Opt}
use Rattle.rules.specs.declared.options.option.Opt.TheVariants as opt
use Rattle.rules.specs.declared.options.option.Owner.TheVariants as owned
use Rattle.rules.specs.declared.options.option.Owner.{Owner}
use Rattle.rules.specs.declared.options.option.Extended.{Extended}
use Rattle.rules.specs.declared.options.option.MatchKinds.{MatchKinds}
use Rattle.rules.specs.declared.options.match_kind.MatchKind.{MatchKind}
use Rattle.rules.specs.declared.options.option_value.OptionValue.{OptionValue}
use Rattle.rules.specs.declared.rule.action.Action.{Action}
use Rattle.rules.specs.declared.rule.action.Action.TheVariants as action
use Rattle.std.specs.Str.{bytes_eq}
use Rattle.rules.proofs.laws.options.WordForms.{name-form}
use Rattle.rules.proofs.laws.options.TableLaws.{plain, kind_of-kind_name}
use Rattle.rules.proofs.laws.reading.StepLaws.{the_option_words, option_words_at-words_of_option, Continues, continues-nothing, continues-then, continues-option, last_with-end, Below, with_option-end, option_values-read}

false-true : false ≡ true → ⊥
false-true e = cc

-- what owns an option of an action is a target
extended-of : (g : Option Action) (w : Owner) → is_action_of g w ≡ true → (t : Extended) × (w ≡ owned.Target t)
extended-of g (owned.Target t) h = (t, refl)
extended-of None w h = absurd (false-true h)
extended-of (Some action.Accept) owned.Rule h = absurd (false-true h)
extended-of (Some action.Accept) owned.Start h = absurd (false-true h)
extended-of (Some action.Accept) owned.Jump h = absurd (false-true h)
extended-of (Some action.Accept) owned.Goto h = absurd (false-true h)
extended-of (Some action.Accept) (owned.Match ks) h = absurd (false-true h)
extended-of g w h = absurd (false-true h)

-- and of a match, matches
matches-of : (w : Owner) (k : MatchKind) → is_match_of w k ≡ true → (ks : MatchKinds) × (w ≡ owned.Match ks)
matches-of (owned.Match ks) k h = (ks, refl)
matches-of owned.Rule k h = absurd (false-true h)
matches-of owned.Start k h = absurd (false-true h)
matches-of owned.Jump k h = absurd (false-true h)
matches-of owned.Goto k h = absurd (false-true h)
matches-of (owned.Target t) k h = absurd (false-true h)

-- the part of an option value
abbrev of-option_value : OptionValue → ℕ → OptionWords
of-option_value s place = the_option_words s.inverted (option_of_value s.value) (plain (shown_value s.value)) place

takes-own : (r : Rule) (ss : List OptionValue) (s : OptionValue) (place : ℕ) → owner (option_of_value s.value) ≡ owned.Rule → Below (slot_of s) ss → ReadsBack s
    → step (with_option_values r ss) (of-option_value s place) ≡ Ok (with_option_values r (ss ++ s ∷ []))
unfolding step
takes-own r ss s place owns below back =
    ap (λ w. owned_step w (with_option_values r ss) (of-option_value s place)) owns ∙ ap (λ q. q >>= λ l. Ok (with_option_values r l)) (with_option-end ss s place below back)

takes-target-option : (r : Rule) (ss : List OptionValue) (s : OptionValue) (place : ℕ) → OfAction r.action (owner (option_of_value s.value)) → Below (slot_of s) ss → ReadsBack s
    → step (with_target_options r ss) (of-option_value s place) ≡ Ok (with_target_options r (ss ++ s ∷ []))
unfolding step
takes-target-option r ss s place owns below back =
    let p = of-option_value s place in
    let (t, is) = extended-of r.action (owner (option_of_value s.value)) owns in
    ap (λ w. owned_step w (with_target_options r ss) p) is ∙ ap (λ b. cond b (with_option ss p >>= λ l. Ok (with_target_options r l)) (Err refusal.OtherTarget)) owns
    ∙ ap (λ q. q >>= λ l. Ok (with_target_options r l)) (with_option-end ss s place below back)

-- the last match, with these options
abbrev at-end : List Match → MatchKind → List OptionValue → List Match
at-end ms k ss = ms ++ record { kind = k; option_values = ss } ∷ []

takes-match : (r : Rule) (ms : List Match) (k : MatchKind) (ss : List OptionValue) (s : OptionValue) (place : ℕ)
    → is_match_of (owner (option_of_value s.value)) k ≡ true → Below (slot_of s) ss → ReadsBack s
    → step (with_matches r (at-end ms k ss)) (of-option_value s place) ≡ Ok (with_matches r (at-end ms k (ss ++ s ∷ [])))
unfolding step match_for with_option_at
takes-match r ms k ss s place owns below back =
    let p = of-option_value s place in
    let R = with_matches r (at-end ms k ss) in
    let m : Match = record { kind = k; option_values = ss } in
    let next : Rule × ℕ → Result Rule Refusal = λ x. with_option_at x.0.matches x.1 p >>= λ l. Ok (with_matches x.0 l) in
    let (ks, is) = matches-of (owner (option_of_value s.value)) k owns in
    let found = last_with-end p.option ms m ∙ ap (λ b. cond b (Some (length ms)) (last_with p.option ms)) owns in
    let put : Match → Result (List Match) Refusal = λ y. with_option y.option_values p >>= λ l. Ok (set (at-end ms k ss) (length ms) (record { kind = y.kind; option_values = l })) in
    ap (λ w. owned_step w R p) is
    ∙ ap (λ o. at_match_or_new R p o >>= next) found
    ∙ ap (λ y. put y >>= λ l. Ok (with_matches R l)) (get_or-append_seam ms m [] no_match)
    ∙ ap (λ q. (q >>= λ l. Ok (set (at-end ms k ss) (length ms) (record { kind = k; option_values = l }))) >>= λ l. Ok (with_matches R l)) (with_option-end ss s place below back)
    ∙ ap (λ l. Ok (with_matches R l)) (set-append_seam ms m [] (record { kind = k; option_values = ss ++ s ∷ [] }))

-- the rule with this target, or as it is
abbrev with_given : Rule → Option Action → Rule
with_given r t = record { option_values = r.option_values; matches = r.matches; action = t; target_options = r.target_options }

-- `-j` and `-g`, by the target that was given before
abbrev jumps : Rule → Option Action → Option Action → Result Rule Refusal
jumps r new given =
    cond (has_goto given) (Err refusal.JumpAndGoto) (cond (has_jump given) (Err refusal.RepeatedOption) (or_refused refusal.BadValue new >>= λ t. Ok (with_action r t)))

abbrev goes : Rule → Option (List ℕ) → Option Action → Result Rule Refusal
goes r new given =
    cond (has_jump given) (Err refusal.JumpAndGoto) (cond (has_goto given) (Err refusal.RepeatedOption) (or_refused refusal.BadValue new >>= λ n. Ok (with_action r (action.Goto n))))

-- a name is no word that `-j` has for itself
jump-back : (name : List ℕ) → chain.name_of name ≡ Some name → action_of name ≡ Some (action.Jump name)
unfolding action_of
jump-back name back =
    let (accept, a) = or_parts (bytes_eq name (codes "ACCEPT")) _ (not-true _ (name-form name back).1) in
    let (drops, b) = or_parts (bytes_eq name (codes "DROP")) _ a in
    let (returns, c) = or_parts (bytes_eq name (codes "RETURN")) _ b in
    let (queue, d) = or_parts (bytes_eq name (codes "QUEUE")) _ c in
    let (rejects, e) = or_parts (bytes_eq name (codes "REJECT")) _ d in
    let (logs, f) = or_parts (bytes_eq name (codes "LOG")) false e in
    chosen (bytes_eq name (codes "ACCEPT")) (bytes_eq name (codes "DROP")) (bytes_eq name (codes "RETURN")) (bytes_eq name (codes "REJECT")) (bytes_eq name (codes "LOG")) accept drops returns rejects logs
    ∙ ap jump_to back
  where
    chosen : (a b c d e : Bool) → a ≡ false → b ≡ false → c ≡ false → d ≡ false → e ≡ false
        → cond a (Some action.Accept) (cond b (Some action.Drop) (cond c (Some action.Return) (cond d (Some action.Reject) (cond e (Some action.Log) (jump_to (chain.name_of name)))))) ≡ jump_to (chain.name_of name)
    chosen a b c d e p q r s t =
        ap (λ x. cond x (Some action.Accept) (cond b (Some action.Drop) (cond c (Some action.Return) (cond d (Some action.Reject) (cond e (Some action.Log) (jump_to (chain.name_of name))))))) p
        ∙ ap (λ x. cond x (Some action.Drop) (cond c (Some action.Return) (cond d (Some action.Reject) (cond e (Some action.Log) (jump_to (chain.name_of name)))))) q
        ∙ ap (λ x. cond x (Some action.Return) (cond d (Some action.Reject) (cond e (Some action.Log) (jump_to (chain.name_of name))))) r
        ∙ ap (λ x. cond x (Some action.Reject) (cond e (Some action.Log) (jump_to (chain.name_of name)))) s ∙ ap (λ x. cond x (Some action.Log) (jump_to (chain.name_of name))) t

module _ (end : ℕ) where
  -- the words that start a match
  starts : (r : Rule) (ms : List Match) (k : MatchKind) (rest : List (List ℕ)) → length ms < 16
      → Continues end (with_matches r ms) (codes "-m" ∷ (kind_name k ∷ rest)) (with_matches r (at-end ms k [])) rest
  unfolding step with_match
  starts r ms k rest room =
      let (place, read) = option_words_at-words_of_option end false opt.Match (kind_name k ∷ []) rest refl (λ e. absurd (false-true e)) in
      let p = the_option_words false opt.Match (kind_name k ∷ []) place in
      let fits = lt-leb 16 (length ms) room in
      continues-option end (with_matches r ms) (with_matches r (at-end ms k [])) (codes "-m") (kind_name k ∷ rest) rest p read
      (ap (λ o. or_refused refusal.UnknownMatch o >>= λ j. with_match (with_matches r ms) j) (kind_of-kind_name k)
      ∙ ap (λ b. cond b (Err refusal.TooManyMatches) (Ok (with_matches r (at-end ms k [])))) fits) (omega arith)

  matches-read : (r : Rule) (before ms : List Match) (rest : List (List ℕ)) → length before + length ms ≤ 16 → Each IsMatch ms
      → Continues end (with_matches r before) (plain (flat_map shown_match ms) ++ rest) (with_matches r (before ++ ms)) rest
  matches-read r before [] rest few are =
      subst (λ l. Continues end (with_matches r before) rest (with_matches r l) rest) (sym (append-nil before)) (continues-nothing end (with_matches r before) rest)
  matches-read r before (m ∷ ms) rest few are =
      let tail = plain (flat_map shown_match ms) ++ rest in
      let own = plain (shown_option_values m.option_values) in
      let words : plain (flat_map shown_match (m ∷ ms)) ++ rest ≡ codes "-m" ∷ (kind_name m.kind ∷ (own ++ tail)) =
      ap (λ l. l ++ rest) (map-append (λ (w : Shown). w.word) (shown_match m) (flat_map shown_match ms))
      ∙ append_assoc (codes "-m" ∷ (kind_name m.kind ∷ own)) (plain (flat_map shown_match ms)) rest in
      let begun = starts r before m.kind (own ++ tail) (omega arith) in
      let inside = option_values-read end (OfMatch m) (λ ss. with_matches r (at-end before m.kind ss)) (takes-match r before m.kind) m.option_values tail are.0 in
      let later = matches-read r (before ++ m ∷ []) ms rest (omega (arith, length-append before (m ∷ []))) are.1 in
      let all = continues-then end (with_matches r before) (with_matches r (at-end before m.kind [])) (with_matches r ((before ++ m ∷ []) ++ ms)) (codes "-m" ∷ (kind_name m.kind ∷ (own ++ tail))) (own ++ tail) rest begun
      (continues-then end (with_matches r (at-end before m.kind [])) (with_matches r (before ++ m ∷ [])) (with_matches r ((before ++ m ∷ []) ++ ms)) (own ++ tail) tail rest inside later) in
      subst (λ l. Continues end (with_matches r before) l (with_matches r (before ++ (m ∷ ms))) rest) (sym words)
      (subst (λ l. Continues end (with_matches r before) (codes "-m" ∷ (kind_name m.kind ∷ (own ++ tail))) (with_matches r l) rest) (append_assoc before (m ∷ []) ms) all)

  -- the words of a target
  names : (o : Opt) (word : List ℕ) (r s : Rule) (rest : List (List ℕ)) → value_count o ≡ 1 → ((place : ℕ) → step r (the_option_words false o (word ∷ []) place) ≡ Ok s)
      → Continues end r (name_of o ∷ (word ∷ rest)) s rest
  names o word r s rest one stepped =
      let (place, read) = option_words_at-words_of_option end false o (word ∷ []) rest one (λ e. absurd (false-true e)) in
      continues-option end r s (name_of o) (word ∷ rest) rest (the_option_words false o (word ∷ []) place) read (stepped place) (omega arith)

  action-read : (r : Rule) (t : Option Action) (rest : List (List ℕ)) → r.action ≡ None → ActionBack t
      → Continues end r (plain (shown_action t) ++ rest) (with_given r t) rest
  unfolding step with_jump with_goto action_of
  action-read r None rest none back = subst (λ t. Continues end r rest (with_given r t) rest) none (continues-nothing end r rest)
  action-read r (Some action.Accept) rest none back =
      names opt.Jump (codes "ACCEPT") r (with_action r action.Accept) rest refl (λ place. ap (jumps r (Some action.Accept)) none)
  action-read r (Some action.Drop) rest none back =
      names opt.Jump (codes "DROP") r (with_action r action.Drop) rest refl (λ place. ap (jumps r (Some action.Drop)) none)
  action-read r (Some action.Return) rest none back =
      names opt.Jump (codes "RETURN") r (with_action r action.Return) rest refl (λ place. ap (jumps r (Some action.Return)) none)
  action-read r (Some action.Reject) rest none back =
      names opt.Jump (codes "REJECT") r (with_action r action.Reject) rest refl (λ place. ap (jumps r (Some action.Reject)) none)
  action-read r (Some action.Log) rest none back =
      names opt.Jump (codes "LOG") r (with_action r action.Log) rest refl (λ place. ap (jumps r (Some action.Log)) none)
  action-read r (Some (action.Jump name)) rest none back =
      names opt.Jump name r (with_action r (action.Jump name)) rest refl
      (λ place. ap (jumps r (action_of name)) none ∙ ap (λ o. or_refused refusal.BadValue o >>= λ t. Ok (with_action r t)) (jump-back name back))
  action-read r (Some (action.Goto name)) rest none back =
      names opt.Goto name r (with_action r (action.Goto name)) rest refl
      (λ place. ap (goes r (chain.name_of name)) none ∙ ap (λ o. or_refused refusal.BadValue o >>= λ n. Ok (with_action r (action.Goto n))) back)

  words-of-rule : (r : Rule)
      → plain (shown_rule r) ≡ plain (shown_option_values r.option_values) ++ (plain (flat_map shown_match r.matches) ++ (plain (shown_action r.action) ++ (plain (shown_option_values r.target_options) ++ [])))
  words-of-rule r =
      let word = λ (w : Shown). w.word in
      let a = shown_option_values r.option_values in
      let b = flat_map shown_match r.matches in
      let c = shown_action r.action in
      let d = shown_option_values r.target_options in
      map-append word a (b ++ (c ++ d)) ∙ ap (λ l. plain a ++ l) (map-append word b (c ++ d) ∙ ap (λ l. plain b ++ l) (map-append word c d ∙ ap (λ l. plain c ++ l) (sym (append-nil (plain d)))))

  -- all words of a rule
  rule-words : (r : Rule) → IsLegal r → Continues end empty_rule (plain (shown_rule r)) r []
  rule-words r has =
      let few = has.few in
      let d = plain (shown_option_values r.target_options) ++ [] in
      let c = plain (shown_action r.action) ++ d in
      let b = plain (flat_map shown_match r.matches) ++ c in
      let one = with_option_values empty_rule r.option_values in
      let two = with_matches one r.matches in
      let three = with_given two r.action in
      let four = with_target_options three r.target_options in
      let first = option_values-read end OfRule (with_option_values empty_rule) (takes-own empty_rule) r.option_values b has.option_values in
      let second = matches-read one [] r.matches c (omega arith) has.matches in
      let third = action-read two r.action d refl has.action in
      let fourth = option_values-read end (OfAction r.action) (with_target_options three) (takes-target-option three) r.target_options [] has.target_options in
      let all = continues-then end empty_rule one four (plain (shown_option_values r.option_values) ++ b) b [] first
      (continues-then end one two four b c [] second (continues-then end two three four c d [] third fourth)) in
      subst (λ l. Continues end empty_rule l r []) (sym (words-of-rule r)) all

  -- The words of a rule's text read as the rule.
  pub rule_of-shown_rule : (r : Rule) → IsReadable r → rule_of end (plain (shown_rule r)) ≡ Ok r
  unfolding rule_of
  rule_of-shown_rule r readable =
      let ws = plain (shown_rule r) in
      let (m, within, read) = rule-words r readable.parts (length ws) (omega arith) in
      ap (λ q. q >>= with_needs_met) read ∙ ap (λ s. unless_unmet s (unmet s)) readable.conditions ∙ ap (unless_unmet r) readable.met
