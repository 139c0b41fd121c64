-- What is read is readable: a step keeps a rule's parts legal, and so does what the end makes of it.
use Prim.Native.Nat.{zero, suc}
use Rattle.rules.proofs.laws.reading.Readable.{false-true, ReadsBack, Each, Rises, IsGroup, OfRule, OfMatch, OfAction, ActionBack, IsMatch, IsLegal}
use Rattle.std.proofs.Common.{◌≡◌, ℕ, ◌+◌, ◌<◌, ◌≤◌, ◌==◌, Bool, true, false, cond, ◌&&◌, List, [], ◌∷◌, ◌++◌, length, get_or, set, Option, None, Some, refl, sym, ap, subst, ◌∙◌, arith, ltb, leb, eq-eqb, length-append}
use Rattle.std.specs.Prelude.{Result, Ok, Err, codes}
use Rattle.std.specs.Str.{bytes_eq}
use Rattle.std.proofs.lemmas.Bool.{and_parts, or_parts, ltb-true, ltb-false, leb-false}
use Rattle.std.proofs.Math.ListN.{length-set}
use Rattle.fields.specs.values.Name.{name_of}
use Rattle.fields.proofs.laws.ListLaws.{find-passes}
use Rattle.rules.specs.Sequence.{◌>>=◌, or_refused}
use Rattle.rules.specs.options.Matches.{implied_kinds, kind_of}
use Rattle.rules.specs.options.Options.{first_of, may_be_inverted, owner, slot, kind_has}
use Rattle.rules.specs.options.OptionValues.{option_of_value, slot_of, value_of}
use Rattle.rules.specs.rule.Actions.{action_of, jump_to, is_action_of}
use Rattle.rules.specs.rule.Rules.{Match, Rule, empty_rule}
use Rattle.rules.specs.reading.Steps.{with_option, with_match, later, last_with, implied_match, is_implied_option, with_match_for, at_match_or_new, match_for, no_match, with_option_at, with_option_values, with_matches, with_action, with_target_options, has_goto, has_jump, with_jump, with_goto, match_step, owned_step, step, is_given, insert_by_place, OptionWords}
use Rattle.rules.specs.rule.Needs.{is_met_for}
use Rattle.rules.specs.declared.rule.action.Action.{Action}
use Rattle.rules.specs.declared.rule.action.Action.TheVariants as action
use Rattle.rules.specs.declared.reading.fault.Refusal.{Refusal}
use Rattle.rules.specs.declared.reading.fault.Refusal.TheVariants as refusal
use Rattle.rules.specs.declared.options.match_kind.MatchKind.{MatchKind}
use Rattle.rules.specs.declared.options.option.Opt.{Opt}
use Rattle.rules.specs.declared.options.option.Owner.{Owner}
use Rattle.rules.specs.declared.options.option.Owner.TheVariants as owned
use Rattle.rules.specs.declared.options.option_value.OptionValue.{OptionValue}
use Rattle.rules.proofs.laws.options.ValueLaws.{value_of-good}
use Rattle.rules.proofs.laws.options.WordForms.{name-valid}

-- the answer that a chain gave
before : {A B : Type 0} (q : Result A Refusal) (f : A → Result B Refusal) (y : B) → (q >>= f) ≡ Ok y → (x : A) × (q ≡ Ok x) × (f x ≡ Ok y)
before (Err e) f y h = absurd (cc)
before (Ok x) f y h = (x, refl, h)

same-ok : {A : Type 0} (x y : A) → ◌≡◌ {A = Result A Refusal} (Ok x) (Ok y) → x ≡ y
same-ok x y h = cc

some-of : {A : Type 0} (e : Refusal) (q : Option A) (x : A) → or_refused e q ≡ Ok x → q ≡ Some x
some-of e None x h = absurd (cc)
some-of e (Some y) x h = ap (λ z. Some z) (same-ok y x h)

-- an answer that a test lets through
past : {A : Type 0} (b : Bool) (e : Refusal) (q : Result A Refusal) (x : A) → cond b (Err e) q ≡ Ok x → (b ≡ false) × (q ≡ Ok x)
past true e q x h = absurd (cc)
past false e q x h = (refl, h)

-- an option put among others of a group
pub rises-more : (m n : ℕ) (ss : List OptionValue) → m ≤ n → Rises n ss → Rises m ss
rises-more m n [] h rises = tt
rises-more m n (s ∷ ss) h rises = let first = rises.0 in (omega arith, rises.1)

insert_by_place-rises : (n : ℕ) (s : OptionValue) (ss : List OptionValue) → n ≤ slot_of s → is_given (slot_of s) ss ≡ false → Rises n ss → Rises n (insert_by_place (slot_of s) s ss)
insert_by_place-rises n s [] low none rises = (low, tt)
insert_by_place-rises n s (t ∷ ts) low none rises = go (ltb (slot_of s) (slot_of t)) refl (λ h. insert_by_place-rises (suc (slot_of t)) s ts h (or_parts (slot_of t == slot_of s) (is_given (slot_of s) ts) none).1 rises.1)
  where
    go : (b : Bool) → ltb (slot_of s) (slot_of t) ≡ b → (suc (slot_of t) ≤ slot_of s → Rises (suc (slot_of t)) (insert_by_place (slot_of s) s ts)) → Rises n (cond b (s ∷ t ∷ ts) (t ∷ insert_by_place (slot_of s) s ts))
    go true on more = let h = ltb-true (slot_of s) (slot_of t) on in (low, (omega arith, rises.1))
    go false off more =
        let h = ltb-false (slot_of s) (slot_of t) off in
        let apart : slot_of t ≡ slot_of s → ⊥ = λ e. false-true (sym (or_parts (slot_of t == slot_of s) (is_given (slot_of s) ts) none).0 ∙ eq-eqb (slot_of t) (slot_of s) e) in
        let first = rises.0 in
        (first, more (omega (arith, apart)))

insert_by_place-each : (P : OptionValue → Type 0) (n : ℕ) (s : OptionValue) (ss : List OptionValue) → P s → Each P ss → Each P (insert_by_place n s ss)
insert_by_place-each P n s [] p each = (p, tt)
insert_by_place-each P n s (t ∷ ts) p each = go (ltb n (slot_of t)) (insert_by_place-each P n s ts p each.1)
  where
    go : (b : Bool) → Each P (insert_by_place n s ts) → Each P (cond b (s ∷ t ∷ ts) (t ∷ insert_by_place n s ts))
    go true rest = (p, each)
    go false rest = (each.0, rest)

-- the part's option may be inverted where it is
abbrev pub MayBe : OptionWords → Type 0
MayBe p = p.inverted ≡ true → may_be_inverted p.option ≡ true

with_option-group : (Owns : Owner → Type 0) (ss ts : List OptionValue) (p : OptionWords) → MayBe p → Owns (owner p.option) → IsGroup Owns ss → with_option ss p ≡ Ok ts → IsGroup Owns ts
unfolding with_option
with_option-group Owns ss ts p may owns is e =
    let (none, rest) = past (is_given (slot p.option) ss) refusal.RepeatedOption (value_of p.option p.inverted p.values >>= λ v. Ok (insert_by_place (slot p.option) (record { inverted = p.inverted; value = v }) ss)) ts e in
    let (v, read, done) = before (value_of p.option p.inverted p.values) (λ v. Ok (insert_by_place (slot p.option) (record { inverted = p.inverted; value = v }) ss)) ts rest in
    let good = value_of-good p.option p.inverted p.values v read in
    let s : OptionValue = record { inverted = p.inverted; value = v } in
    let at : slot_of s ≡ slot p.option = good.place in
    let back : ReadsBack s = record { text = good.text; bang = λ i. good.bang (may i); spelled = good.spelled; short = good.short } in
    let free : is_given (slot_of s) ss ≡ false = ap (λ n. is_given n ss) at ∙ none in
    let group : IsGroup Owns (insert_by_place (slot_of s) s ss) = record {
      rises = insert_by_place-rises 0 s ss (omega arith) free is.rises;
      own = insert_by_place-each (λ s. Owns (owner (option_of_value s.value))) (slot_of s) s ss (subst Owns (sym good.owned) owns) is.own;
      back = insert_by_place-each ReadsBack (slot_of s) s ss back is.back;
    } in
    let same : insert_by_place (slot_of s) s ss ≡ ts = ap (λ n. insert_by_place n s ss) at ∙ same-ok (insert_by_place (slot p.option) s ss) ts done in
    subst (IsGroup Owns) same group

-- matches
each-end : {X : Type 0} (P : X → Type 0) (xs : List X) (x : X) → Each P xs → P x → Each P (xs ++ x ∷ [])
each-end P [] x each p = (p, tt)
each-end P (y ∷ ys) x each p = (each.0, each-end P ys x each.1 p)

each-set : {X : Type 0} (P : X → Type 0) (xs : List X) (i : ℕ) (x : X) → Each P xs → P x → Each P (set xs i x)
each-set P [] i x each p = tt
each-set P (y ∷ ys) zero x each p = (p, each.1)
each-set P (y ∷ ys) (suc i) x each p = (each.0, each-set P ys i x each.1 p)

each-of-set : (xs ms : List Match) (i : ℕ) (n : Match) → set xs i n ≡ ms → Each IsMatch xs → IsMatch n → Each IsMatch ms
each-of-set xs ms i n e each one = subst (Each IsMatch) e (each-set IsMatch xs i n each one)

length-of-set : (xs ms : List Match) (i : ℕ) (n : Match) → set xs i n ≡ ms → length ms ≡ length xs
length-of-set xs ms i n e = ap length (sym e) ∙ length-set xs i n

each-at : {X : Type 0} (P : X → Type 0) (xs : List X) (i : ℕ) (d : X) → i < length xs → Each P xs → P (get_or xs i d)
each-at P [] i d within each = absurd (omega arith)
each-at P (x ∷ xs) zero d within each = each.0
each-at P (x ∷ xs) (suc i) d within each = each-at P xs i d (omega arith) each.1

empty-group : (Owns : Owner → Type 0) → IsGroup Owns []
empty-group Owns = record { rises = tt; own = tt; back = tt }

with_match-keeps : (r s : Rule) (k : MatchKind) → IsLegal r → with_match r k ≡ Ok s → IsLegal s × (s.matches ≡ r.matches ++ record { kind = k; option_values = [] } ∷ [])
unfolding with_match
with_match-keeps r s k has e =
    let t : Rule = with_matches r (r.matches ++ record { kind = k; option_values = [] } ∷ []) in
    let (room, done) = past (leb 16 (length r.matches)) refusal.TooManyMatches (Ok t) s e in
    let few = leb-false 16 (length r.matches) room in
    let one : Match = record { kind = k; option_values = [] } in
    let parts : IsLegal t = record {
      option_values = has.option_values;
      few = omega (arith, few, length-append r.matches (one ∷ []));
      matches = each-end IsMatch r.matches one has.matches (empty-group (OfMatch one));
      action = has.action;
      target_options = has.target_options;
    } in
    let same = same-ok t s done in
    (subst IsLegal same parts, ap (λ (x : Rule). x.matches) (sym same))

-- the match that is found has the option
last_with-has : (o : Opt) (ms : List Match) (i : ℕ) (d : Match) → last_with o ms ≡ Some i → (i < length ms) × (kind_has (get_or ms i d).kind o ≡ true)
last_with-has o [] i d e = absurd (cc)
last_with-has o (m ∷ ms) i d e = go (last_with o ms) (λ j f. last_with-has o ms j d f) e
  where
    same-some : (j k : ℕ) → Some j ≡ Some k → j ≡ k
    same-some j k h = cc

    here : (b : Bool) → kind_has m.kind o ≡ b → cond b (Some 0) None ≡ Some i → (i < length (m ∷ ms)) × (kind_has (get_or (m ∷ ms) i d).kind o ≡ true)
    here true has h = subst (λ j. (j < length (m ∷ ms)) × (kind_has (get_or (m ∷ ms) j d).kind o ≡ true)) (same-some 0 i h) (omega arith, has)
    here false has h = absurd (cc)

    go : (found : Option ℕ) → ((j : ℕ) → found ≡ Some j → (j < length ms) × (kind_has (get_or ms j d).kind o ≡ true)) → later (kind_has m.kind o) found ≡ Some i
        → (i < length (m ∷ ms)) × (kind_has (get_or (m ∷ ms) i d).kind o ≡ true)
    go None rest h = here (kind_has m.kind o) refl h
    go (Some j) rest h =
        let (within, has) = rest j refl in
        let is : suc j ≡ i = let e = same-some (j + 1) i h in omega (arith, e) in
        subst (λ k. (k < length (m ∷ ms)) × (kind_has (get_or (m ∷ ms) k d).kind o ≡ true)) is (omega (arith, within), has)

-- a match that an option starts has it
implied_match-has : (ss : List OptionValue) (o : Opt) (k : MatchKind) → implied_match ss o ≡ Some k → kind_has k o ≡ true
implied_match-has ss o k e = (and_parts (is_met_for k ss) (kind_has k o) (find-passes (λ k. is_met_for k ss && kind_has k o) (λ k. true) implied_kinds k e refl).0).1

-- the last item
at-end : (ms : List Match) (m d : Match) → get_or (ms ++ m ∷ []) (length ms) d ≡ m
at-end [] m d = refl
at-end (n ∷ ms) m d = at-end ms m d

abbrev Found : Rule → OptionWords → ℕ → Type 0
Found s p i = IsLegal s × (i < length s.matches) × (kind_has (get_or s.matches i no_match).kind p.option ≡ true)

match_for-keeps : (r s : Rule) (p : OptionWords) (i : ℕ) → IsLegal r → match_for r p ≡ Ok (s, i) → Found s p i
unfolding match_for
match_for-keeps r s p i has e = go (last_with p.option r.matches) refl e
  where
    pair-parts : (x y : Rule) (j k : ℕ) → ◌≡◌ {A = Result (Rule × ℕ) Refusal} (Ok (x, j)) (Ok (y, k)) → (x ≡ y) × (j ≡ k)
    pair-parts x y j k h = let e = same-ok (x, j) (y, k) h in (ap (λ (q : Rule × ℕ). q.0) e, ap (λ (q : Rule × ℕ). q.1) e)

    starting : (k : Option MatchKind) → implied_match r.option_values p.option ≡ k → with_match_for r p k ≡ Ok (s, i) → Found s p i
    starting None none h = absurd (refused (is_implied_option p.option) h)
      where
        refused : (b : Bool) → cond {A = Result (Rule × ℕ) Refusal} b (Err refusal.ProtocolNeeded) (Err (refusal.UnknownOption p.place)) ≡ Ok (s, i) → ⊥
        refused true h = cc
        refused false h = cc
    starting (Some k) is h =
        let (t, begun, done) = before (with_match r k) (λ t. Ok (t, length r.matches)) (s, i) h in
        let (keeps, ms) = with_match-keeps r t k has begun in
        let (same, place) = pair-parts t s (length r.matches) i done in
        let one : Match = record { kind = k; option_values = [] } in
        let found : Found t p (length r.matches) = (
          keeps,
          omega (arith, ap length ms, length-append r.matches (one ∷ [])),
          ap (λ (l : List Match). kind_has (get_or l (length r.matches) no_match).kind p.option) ms ∙ ap (λ (m : Match). kind_has m.kind p.option) (at-end r.matches one no_match) ∙ implied_match-has r.option_values p.option k is,
        ) in
        subst (λ (x : Rule). Found x p i) same (subst (λ j. Found t p j) place found)

    go : (o : Option ℕ) → last_with p.option r.matches ≡ o → at_match_or_new r p o ≡ Ok (s, i) → Found s p i
    go None none h = starting (implied_match r.option_values p.option) refl h
    go (Some j) found h =
        let (same, place) = pair-parts r s j i h in
        let (within, owns) = last_with-has p.option r.matches j no_match found in
        subst (λ (x : Rule). Found x p i) same (subst (λ k. Found r p k) place (has, within, owns))

match_step-keeps : (r t : Rule) (p : OptionWords) → MayBe p → IsLegal r → match_step r p ≡ Ok t → IsLegal t
unfolding with_option_at
match_step-keeps r t p may has e =
    let (found, is, rest) = before (match_for r p) (λ s. with_option_at s.0.matches s.1 p >>= λ ms. Ok (with_matches s.0 ms)) t e in
    let s = found.0 in
    let i = found.1 in
    let (keeps, within, owns) = match_for-keeps r s p i has is in
    let (ms, put, done) = before (with_option_at s.matches i p) (λ ms. Ok (with_matches s ms)) t rest in
    let m = get_or s.matches i no_match in
    let (ss, more, whole) = before (with_option m.option_values p) (λ ss. Ok (set s.matches i (record { kind = m.kind; option_values = ss }))) ms put in
    let group = with_option-group (OfMatch m) m.option_values ss p may owns (each-at IsMatch s.matches i no_match within keeps.matches) more in
    let n : Match = record { kind = m.kind; option_values = ss } in
    let all : Each IsMatch ms = each-of-set s.matches ms i n (same-ok (set s.matches i n) ms whole) keeps.matches group in
    let len = length-of-set s.matches ms i n (same-ok (set s.matches i n) ms whole) in
    let few = keeps.few in
    subst IsLegal (same-ok (with_matches s ms) t done) (record { option_values = keeps.option_values; few = omega (arith, few, len); matches = all; action = keeps.action; target_options = keeps.target_options })

-- where no target was given there are no options of one
no-target-option : (g : Option Action) (ss : List OptionValue) → g ≡ None → IsGroup (OfAction g) ss → ss ≡ []
no-target-option g [] none is = refl
no-target-option g (s ∷ ss) none is = false-true (ap (λ h. is_action_of h (owner (option_of_value s.value))) (sym none) ∙ is.own.0)

no-action : (g : Option Action) → has_goto g ≡ false → has_jump g ≡ false → g ≡ None
no-action None a b = refl
no-action (Some (action.Goto n)) a b = absurd (cc)
no-action (Some action.Accept) a b = absurd (cc)
no-action (Some action.Drop) a b = absurd (cc)
no-action (Some action.Return) a b = absurd (cc)
no-action (Some action.Reject) a b = absurd (cc)
no-action (Some action.Log) a b = absurd (cc)
no-action (Some (action.Jump n)) a b = absurd (cc)

with_action-keeps : (r s : Rule) (a : Action) → IsLegal r → r.action ≡ None → ActionBack (Some a) → ◌≡◌ {A = Result Rule Refusal} (Ok (with_action r a)) (Ok s) → IsLegal s
with_action-keeps r s a has none back e =
    subst IsLegal (same-ok (with_action r a) s e) (record {
      option_values = has.option_values;
      few = has.few;
      matches = has.matches;
      action = back;
      target_options = subst (IsGroup (OfAction (Some a))) (sym (no-target-option r.action r.target_options none has.target_options)) (empty-group (OfAction (Some a)));
    })

action_of-back : (text : List ℕ) (a : Action) → action_of text ≡ Some a → ActionBack (Some a)
unfolding action_of
action_of-back text a e = first (bytes_eq text (codes "ACCEPT")) e
  where
    fixed : (b : Action) → ActionBack (Some b) → Some b ≡ Some a → ActionBack (Some a)
    fixed b back h = subst (λ (c : Action). ActionBack (Some c)) (same b h) back
      where
        same : (b : Action) → Some b ≡ Some a → b ≡ a
        same b h = cc

    jumps : (o : Option (List ℕ)) → name_of text ≡ o → jump_to o ≡ Some a → ActionBack (Some a)
    jumps None none h = absurd (cc)
    jumps (Some n) is h = fixed (action.Jump n) (name-valid text n is) h

    fifth : (b : Bool) → cond b (Some action.Log) (jump_to (name_of text)) ≡ Some a → ActionBack (Some a)
    fifth true h = fixed action.Log tt h
    fifth false h = jumps (name_of text) refl h

    fourth : (b : Bool) → cond b (Some action.Reject) (cond (bytes_eq text (codes "LOG")) (Some action.Log) (jump_to (name_of text))) ≡ Some a → ActionBack (Some a)
    fourth true h = fixed action.Reject tt h
    fourth false h = fifth (bytes_eq text (codes "LOG")) h

    third : (b : Bool) → cond b (Some action.Return) (cond (bytes_eq text (codes "REJECT")) (Some action.Reject) (cond (bytes_eq text (codes "LOG")) (Some action.Log) (jump_to (name_of text)))) ≡ Some a → ActionBack (Some a)
    third true h = fixed action.Return tt h
    third false h = fourth (bytes_eq text (codes "REJECT")) h

    second : (b : Bool) → cond b (Some action.Drop) (cond (bytes_eq text (codes "RETURN")) (Some action.Return) (cond (bytes_eq text (codes "REJECT")) (Some action.Reject) (cond (bytes_eq text (codes "LOG")) (Some action.Log) (jump_to (name_of text))))) ≡ Some a → ActionBack (Some a)
    second true h = fixed action.Drop tt h
    second false h = third (bytes_eq text (codes "RETURN")) h

    first : (b : Bool) → cond b (Some action.Accept) (cond (bytes_eq text (codes "DROP")) (Some action.Drop) (cond (bytes_eq text (codes "RETURN")) (Some action.Return) (cond (bytes_eq text (codes "REJECT")) (Some action.Reject) (cond (bytes_eq text (codes "LOG")) (Some action.Log) (jump_to (name_of text)))))) ≡ Some a → ActionBack (Some a)
    first true h = fixed action.Accept tt h
    first false h = second (bytes_eq text (codes "DROP")) h

with_jump-keeps : (r s : Rule) (text : List ℕ) → IsLegal r → with_jump r text ≡ Ok s → IsLegal s
unfolding with_jump
with_jump-keeps r s text has e =
    let (goto, rest) = past (has_goto r.action) refusal.JumpAndGoto (cond (has_jump r.action) (Err refusal.RepeatedOption) (or_refused refusal.BadValue (action_of text) >>= λ t. Ok (with_action r t))) s e in
    let (jump, last) = past (has_jump r.action) refusal.RepeatedOption (or_refused refusal.BadValue (action_of text) >>= λ t. Ok (with_action r t)) s rest in
    let (a, read, done) = before (or_refused refusal.BadValue (action_of text)) (λ t. Ok (with_action r t)) s last in
    with_action-keeps r s a has (no-action r.action goto jump) (action_of-back text a (some-of refusal.BadValue (action_of text) a read)) done

with_goto-keeps : (r s : Rule) (text : List ℕ) → IsLegal r → with_goto r text ≡ Ok s → IsLegal s
unfolding with_goto
with_goto-keeps r s text has e =
    let (jump, rest) = past (has_jump r.action) refusal.JumpAndGoto (cond (has_goto r.action) (Err refusal.RepeatedOption) (or_refused refusal.BadValue (name_of text) >>= λ n. Ok (with_action r (action.Goto n)))) s e in
    let (goto, last) = past (has_goto r.action) refusal.RepeatedOption (or_refused refusal.BadValue (name_of text) >>= λ n. Ok (with_action r (action.Goto n))) s rest in
    let (n, read, done) = before (or_refused refusal.BadValue (name_of text)) (λ n. Ok (with_action r (action.Goto n))) s last in
    with_action-keeps r s (action.Goto n) has (no-action r.action goto jump) (name-valid text n (some-of refusal.BadValue (name_of text) n read)) done

-- a step keeps the parts legal
pub step-keeps : (r s : Rule) (p : OptionWords) → MayBe p → IsLegal r → step r p ≡ Ok s → IsLegal s
unfolding step
step-keeps r s p may has e = go (owner p.option) refl e
  where
    go : (w : Owner) → owner p.option ≡ w → owned_step w r p ≡ Ok s → IsLegal s
    go owned.Rule is h =
        let (ss, more, done) = before (with_option r.option_values p) (λ ss. Ok (with_option_values r ss)) s h in
        let group = with_option-group OfRule r.option_values ss p may is has.option_values more in
        subst IsLegal (same-ok (with_option_values r ss) s done) (record { option_values = group; few = has.few; matches = has.matches; action = has.action; target_options = has.target_options })
    go owned.Start is h =
        let (k, named, begun) = before (or_refused refusal.UnknownMatch (kind_of (first_of p.values))) (with_match r) s h in
        (with_match-keeps r s k has begun).0
    go owned.Jump is h = with_jump-keeps r s (first_of p.values) has h
    go owned.Goto is h = with_goto-keeps r s (first_of p.values) has h
    go (owned.Match ks) is h = match_step-keeps r s p may has h
    go (owned.Target t) is h = extra (is_action_of r.action (owner p.option)) refl h
      where
        extra : (b : Bool) → is_action_of r.action (owner p.option) ≡ b → cond b (with_option r.target_options p >>= λ ss. Ok (with_target_options r ss)) (Err refusal.OtherTarget) ≡ Ok s → IsLegal s
        extra false off h = absurd (cc)
        extra true on h =
            let (ss, more, done) = before (with_option r.target_options p) (λ ss. Ok (with_target_options r ss)) s h in
            let group = with_option-group (OfAction r.action) r.target_options ss p may on has.target_options more in
            subst IsLegal (same-ok (with_target_options r ss) s done) (record { option_values = has.option_values; few = has.few; matches = has.matches; action = has.action; target_options = group })

pub empty-parts : IsLegal empty_rule
empty-parts = record { option_values = empty-group OfRule; few = omega arith; matches = tt; action = tt; target_options = empty-group (OfAction None) }
