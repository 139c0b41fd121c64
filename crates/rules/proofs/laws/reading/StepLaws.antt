-- Laws of the steps of reading: an option's words, groups whose places rise, where an option is put, and matches completed one after
-- another.
use Prim.Native.Nat.{zero, suc}
use Rattle.std.proofs.Common.{◌≡◌, ℕ, ◌-◌, ◌≤◌, Bool, true, false, cond, List, ◌∷◌, ◌++◌, length, take, drop, refl, ap, ◌∙◌, arith, ltb, le-ltb, ◌<◌, [], sym, subst, ne_eqb, append_assoc, append-nil, ◌+◌, get_or, set, Option, Some, add-one, map}
use Rattle.std.specs.Prelude.{Ok, Err, codes, Result, ◌||◌, insert}
use Rattle.std.proofs.lemmas.List.{length-append, map-append, length-map, length-take-le, map-set, take_more, get_or-map}
use Rattle.std.proofs.Math.Seq.{take-append_seam, drop-append_seam}
use Rattle.std.specs.Global.{Vec}
use Rattle.fields.specs.text.Printed.{Shown, bare}
use Rattle.rules.specs.Sequence.{◌>>=◌, Gives}
use Rattle.rules.specs.options.Options.{option_of, name_of, value_count, may_be_inverted, owner, slot, kind_has}
use Rattle.rules.specs.rule.Rules.{Rule, Match, normal_match}
use Rattle.rules.specs.reading.Steps.{step, steps_from, with_option, is_given, insert_by_place, last_with, later, no_match, with_option_at, OptionWords, with_values, inverted_words, plain_words, after_bang, option_words_at}
use Rattle.rules.specs.declared.options.option.Opt.{Opt}
use Rattle.rules.specs.options.OptionValues.{option_of_value, slot_of, value_of}
use Rattle.rules.specs.Printing.{shown_value, shown_bang, shown_option_value, shown_option_values}
use Rattle.rules.specs.declared.reading.fault.Refusal.{Refusal}
use Rattle.rules.specs.declared.options.option.Owner.{Owner}
use Rattle.rules.specs.declared.options.option_value.OptionValue.{OptionValue}
use Rattle.rules.specs.declared.options.value.Value.{Value}
use Rattle.rules.specs.declared.reading.fault.RuleFault.{RuleFault}
use Rattle.rules.specs.steps.OptionRows.{rank}
use Rattle.rules.specs.declared.reading.fault.Refusal.TheVariants as refusal
use Rattle.rules.specs.steps.Views as views
use Rattle.rules.specs.declared.rule.spec.Match as code
use Rattle.rules.specs.declared.reading.fault.RuleFault.TheVariants as faults
use Rattle.rules.proofs.laws.options.TableLaws.{option_of-name_of, name_of-bang, plain, value_count-is}
use Rattle.rules.proofs.laws.reading.Readable.{ReadsBack, Each, Rises, IsGroup}

-- ---- Laws of parts: what is printed is read as the part that it is.

-- the words of an option with its values
abbrev pub words_of_option : Bool → Opt → List (List ℕ) → List (List ℕ)
words_of_option true o values = codes "!" ∷ (name_of o ∷ values)
words_of_option false o values = name_of o ∷ values

abbrev pub the_option_words : Bool → Opt → List (List ℕ) → ℕ → OptionWords
the_option_words inverted o values place = record { inverted = inverted; option = o; values = values; place = place }

pub takes_values : (inverted : Bool) (o : Opt) (place : ℕ) (values rest : List (List ℕ)) → value_count o ≡ length values
    → with_values inverted o place (values ++ rest) ≡ Ok (the_option_words inverted o values place, rest)
takes_values inverted o place values rest e =
    let words = values ++ rest in
    let enough : ltb (length words) (value_count o) ≡ false = le-ltb (length words) (value_count o) (omega (arith, length-append values rest, e)) in
    ap (λ b. cond b (Err refusal.ValueMissing) (Ok (the_option_words inverted o (take (value_count o) words) place, drop (value_count o) words))) enough
    ∙ ap (λ n. Ok (the_option_words inverted o (take n words) place, drop n words)) e
    ∙ ap (λ l. Ok (the_option_words inverted o l place, drop (length values) words)) (take-append_seam values rest)
    ∙ ap (λ l. Ok (the_option_words inverted o values place, l)) (drop-append_seam values rest)

-- What is spelled as a part is read as that part.
pub option_words_at-words_of_option : (end : ℕ) (inverted : Bool) (o : Opt) (values rest : List (List ℕ)) → value_count o ≡ length values → (inverted ≡ true → may_be_inverted o ≡ true)
    → (place : ℕ) × (option_words_at end (words_of_option inverted o values ++ rest) ≡ Ok (the_option_words inverted o values place, rest))
unfolding option_words_at
option_words_at-words_of_option end true o values rest e may =
    let words = values ++ rest in
    let place = end - length (name_of o ∷ words) in (
      place,
      ap (λ q. inverted_words q place words) (option_of-name_of o) ∙ ap (λ b. cond b (with_values true o place words) (Err refusal.InversionNotAllowed)) (may refl)
          ∙ takes_values true o place values rest e,
    )
option_words_at-words_of_option end false o values rest e may =
    let words = values ++ rest in
    let place = end - length (name_of o ∷ words) in (
      place,
      ap (λ b. cond b (after_bang (end - length words) words) (plain_words (option_of (name_of o)) place words)) (name_of-bang o)
          ∙ ap (λ q. plain_words q place words) (option_of-name_of o) ∙ takes_values false o place values rest e,
    )

-- From a rule and words reading comes to another rule and fewer words.
abbrev pub Continues : ℕ → Rule → List (List ℕ) → Rule → List (List ℕ) → Type 0
Continues end r ws s rest = (n : ℕ) → length ws ≤ n → (m : ℕ) × (length rest ≤ m) × (steps_from n end r ws ≡ steps_from m end s rest)

pub continues-nothing : (end : ℕ) (r : Rule) (ws : List (List ℕ)) → Continues end r ws r ws
continues-nothing end r ws n h = (n, h, refl)

pub continues-then : (end : ℕ) (r s t : Rule) (ws us rest : List (List ℕ)) → Continues end r ws s us → Continues end s us t rest → Continues end r ws t rest
continues-then end r s t ws us rest f g n h =
    let (m, within, e) = f n h in
    let (k, within', e') = g m within in
    (k, within', e ∙ e')

pub continues-option : (end : ℕ) (r s : Rule) (w : List ℕ) (ws rest : List (List ℕ)) (p : OptionWords)
    → option_words_at end (w ∷ ws) ≡ Ok (p, rest) → step r p ≡ Ok s → length rest ≤ length ws → Continues end r (w ∷ ws) s rest
continues-option end r s w ws rest p read stepped shorter zero h = absurd (omega arith)
continues-option end r s w ws rest p read stepped shorter (suc n) h =
    (n, omega arith, ap (λ q. q >>= λ x. step r x.0 >>= λ t. steps_from n end t x.1) read ∙ ap (λ q. q >>= λ t. steps_from n end t rest) stepped)

-- ---- Laws of groups: options that rise in their places are read one after another.

plain-bang : (b : Bool) (o : Opt) (vs : List Shown) → plain (shown_bang b ++ (bare (name_of o) ∷ vs)) ≡ words_of_option b o (plain vs)
plain-bang true o vs = refl
plain-bang false o vs = refl

-- an option value is printed as a part
pub plain-option_value : (s : OptionValue) → plain (shown_option_value s) ≡ words_of_option s.inverted (option_of_value s.value) (plain (shown_value s.value))
plain-option_value s = plain-bang s.inverted (option_of_value s.value) (shown_value s.value)

-- all stand before a place
abbrev pub Below : ℕ → List OptionValue → Type 0
Below n [] = Unit {0}
Below n (s ∷ ss) = (slot_of s < n) × Below n ss

below-more : (m n : ℕ) (ss : List OptionValue) → m ≤ n → Below m ss → Below n ss
below-more m n [] h below = tt
below-more m n (s ∷ ss) h below = let first = below.0 in (omega arith, below-more m n ss h below.1)

below-end : (n : ℕ) (ss : List OptionValue) (s : OptionValue) → Below n ss → slot_of s < n → Below n (ss ++ s ∷ [])
below-end n [] s below h = (h, tt)
below-end n (t ∷ ts) s below h = (below.0, below-end n ts s below.1 h)

none-given : (n : ℕ) (ss : List OptionValue) → Below n ss → is_given n ss ≡ false
none-given n [] below = refl
none-given n (s ∷ ss) below = ap (λ b. b || is_given n ss) (ne_eqb (slot_of s) n (λ e. let h = below.0 in omega (arith, e, h))) ∙ none-given n ss below.1

insert_by_place-end : (n : ℕ) (s : OptionValue) (ss : List OptionValue) → Below n ss → insert_by_place n s ss ≡ ss ++ s ∷ []
insert_by_place-end n s [] below = refl
insert_by_place-end n s (t ∷ ts) below =
    let h = below.0 in
    ap (λ b. cond b (s ∷ t ∷ ts) (t ∷ insert_by_place n s ts)) (le-ltb n (slot_of t) (omega arith)) ∙ ap (λ l. t ∷ l) (insert_by_place-end n s ts below.1)

-- an option value whose place is after all others is put at the end
pub with_option-end : (ss : List OptionValue) (s : OptionValue) (place : ℕ) → Below (slot_of s) ss → ReadsBack s
    → with_option ss (the_option_words s.inverted (option_of_value s.value) (plain (shown_value s.value)) place) ≡ Ok (ss ++ s ∷ [])
unfolding with_option
with_option-end ss s place below back =
    let p = the_option_words s.inverted (option_of_value s.value) (plain (shown_value s.value)) place in
    let put : Value → Result (List OptionValue) Refusal = λ v. Ok (insert_by_place (slot p.option) (record { inverted = s.inverted; value = v }) ss) in
    ap (λ b. cond b (Err refusal.RepeatedOption) (value_of p.option p.inverted p.values >>= put)) (none-given (slot_of s) ss below)
    ∙ ap (λ r. r >>= put) back.text ∙ ap (λ l. Ok l) (insert_by_place-end (slot_of s) s ss below)

-- what a group's options do, one after another
module _ (end : ℕ) (Owns : Owner → Type 0) (state : List OptionValue → Rule)
    (takes : (ss : List OptionValue) (s : OptionValue) (place : ℕ) → Owns (owner (option_of_value s.value)) → Below (slot_of s) ss → ReadsBack s
    → step (state ss) (the_option_words s.inverted (option_of_value s.value) (plain (shown_value s.value)) place) ≡ Ok (state (ss ++ s ∷ []))) where
  one-option_value : (ss : List OptionValue) (s : OptionValue) (rest : List (List ℕ)) → Owns (owner (option_of_value s.value)) → Below (slot_of s) ss → ReadsBack s
      → Continues end (state ss) (words_of_option s.inverted (option_of_value s.value) (plain (shown_value s.value)) ++ rest) (state (ss ++ s ∷ [])) rest
  one-option_value ss s rest owns below back =
      let (place, read) = option_words_at-words_of_option end s.inverted (option_of_value s.value) (plain (shown_value s.value)) rest (value_count-is s.value) back.bang in
      continues-words s.inverted (option_of_value s.value) (plain (shown_value s.value)) rest (state ss) (state (ss ++ s ∷ [])) place read (takes ss s place owns below back)
    where
      continues-words : (b : Bool) (o : Opt) (values rest : List (List ℕ)) (r s : Rule) (place : ℕ) → option_words_at end (words_of_option b o values ++ rest) ≡ Ok (the_option_words b o values place, rest)
          → step r (the_option_words b o values place) ≡ Ok s → Continues end r (words_of_option b o values ++ rest) s rest
      continues-words true o values rest r s place read stepped =
          continues-option end r s (codes "!") (name_of o ∷ (values ++ rest)) rest (the_option_words true o values place) read stepped (omega (arith, length-append values rest))
      continues-words false o values rest r s place read stepped =
          continues-option end r s (name_of o) (values ++ rest) rest (the_option_words false o values place) read stepped (omega (arith, length-append values rest))

  option_values-from : (n : ℕ) (before ss : List OptionValue) (rest : List (List ℕ)) → Below n before → Rises n ss → Each (λ s. Owns (owner (option_of_value s.value))) ss → Each ReadsBack ss
      → Continues end (state before) (plain (shown_option_values ss) ++ rest) (state (before ++ ss)) rest
  option_values-from n before [] rest below rises own back =
      subst (λ l. Continues end (state before) rest (state l) rest) (sym (append-nil before)) (continues-nothing end (state before) rest)
  option_values-from n before (s ∷ ss) rest below rises own back =
      let here = rises.0 in
      let words : plain (shown_option_values (s ∷ ss)) ++ rest ≡ words_of_option s.inverted (option_of_value s.value) (plain (shown_value s.value)) ++ (plain (shown_option_values ss) ++ rest) =
      ap (λ l. l ++ rest) (map-append (λ (w : Shown). w.word) (shown_option_value s) (shown_option_values ss) ∙ ap (λ l. l ++ plain (shown_option_values ss)) (plain-option_value s))
      ∙ append_assoc (words_of_option s.inverted (option_of_value s.value) (plain (shown_value s.value))) (plain (shown_option_values ss)) rest in
      let here-below = below-more n (slot_of s) before here below in
      let next-below = below-end (suc (slot_of s)) before s (below-more (slot_of s) (suc (slot_of s)) before (omega arith) here-below) (omega arith) in
      let after = continues-then end (state before) (state (before ++ s ∷ [])) (state ((before ++ s ∷ []) ++ ss)) _ (plain (shown_option_values ss) ++ rest) rest
      (one-option_value before s (plain (shown_option_values ss) ++ rest) own.0 here-below back.0) (option_values-from (suc (slot_of s)) (before ++ s ∷ []) ss rest next-below rises.1 own.1 back.1) in
      subst (λ l. Continues end (state before) l (state (before ++ s ∷ ss)) rest) (sym words)
      (subst (λ l. Continues end (state before) (words_of_option s.inverted (option_of_value s.value) (plain (shown_value s.value)) ++ (plain (shown_option_values ss) ++ rest)) (state l) rest) (append_assoc before (s ∷ []) ss) after)

  pub option_values-read : (ss : List OptionValue) (rest : List (List ℕ)) → IsGroup Owns ss → Continues end (state []) (plain (shown_option_values ss) ++ rest) (state ss) rest
  option_values-read ss rest is = option_values-from 0 [] ss rest tt is.rises is.own is.back

-- ---- Laws of the steps of reading.

later-cond : (here b : Bool) (i : ℕ) (x : Option ℕ) → later here (cond b (Some i) x) ≡ cond b (Some (suc i)) (later here x)
later-cond here true i x = ap (λ n. Some n) (add-one i)
later-cond here false i x = refl

-- the match at the end comes first
pub last_with-end : (o : Opt) (ms : List Match) (m : Match) → last_with o (ms ++ m ∷ []) ≡ cond (kind_has m.kind o) (Some (length ms)) (last_with o ms)
last_with-end o [] m = refl
last_with-end o (n ∷ ms) m = ap (later (kind_has n.kind o)) (last_with-end o ms m) ∙ later-cond (kind_has n.kind o) (kind_has m.kind o) (length ms) (last_with o ms)

-- a loop's step
pub last_with-more : (o : Opt) (ms : List code.Match) (i : ℕ) (d : code.Match) → i < length ms
    → last_with o (views.view_matches (take (i + 1) ms)) ≡ cond (kind_has (get_or ms i d).kind o) (Some i) (last_with o (views.view_matches (take i ms)))
last_with-more o ms i d within =
    let split = ap views.view_matches (take_more ms i d within) ∙ map-append views.view_match (take i ms) (get_or ms i d ∷ []) in
    let len : length (views.view_matches (take i ms)) ≡ i = length-map (take i ms) views.view_match ∙ length-take-le i ms (omega arith) in
    ap (last_with o) split ∙ last_with-end o (views.view_matches (take i ms)) (views.view_match (get_or ms i d))
    ∙ ap (λ n. cond (kind_has (get_or ms i d).kind o) (Some n) (last_with o (views.view_matches (take i ms)))) len

-- one more option of the match at a place
pub put_back : (ms : List code.Match) (i : ℕ) (m : code.Match) (s : Vec OptionValue) (p : OptionWords) (r : Result (Unit {0}) RuleFault) → i < length ms → m ≡ get_or ms i m
    → Gives (λ x. s.items) r (with_option m.option_values.items p) → Gives (λ x. views.view_matches (set ms i (record { kind = m.kind; option_values = s }))) r (with_option_at (views.view_matches ms) i p)
unfolding with_option_at
put_back ms i m s p (Ok x) within is h =
    let e = get_or-map views.view_match ms i m no_match within ∙ ap views.view_match (sym is) in
    let n : code.Match = record { kind = m.kind; option_values = s } in
    let P : Match → Type 0 = λ y. (with_option y.option_values p >>= λ ss. Ok (set (views.view_matches ms) i (record { kind = y.kind; option_values = ss }))) ≡ Ok (views.view_matches (set ms i n)) in
    subst P (sym e) (ap (λ q. q >>= λ ss. Ok (set (views.view_matches ms) i (record { kind = m.kind; option_values = ss }))) h ∙ ap (λ l. Ok l) (sym (map-set views.view_match ms i n)))
put_back ms i m s p (Err faults.NoMemory) within is h = tt
put_back ms i m s p (Err (faults.Refused f)) within is h =
    let e = get_or-map views.view_match ms i m no_match within ∙ ap views.view_match (sym is) in
    let P : Match → Type 0 = λ y. (with_option y.option_values p >>= λ ss. Ok (set (views.view_matches ms) i (record { kind = y.kind; option_values = ss }))) ≡ Err f in
    subst P (sym e) (ap (λ q. q >>= λ ss. Ok (set (views.view_matches ms) i (record { kind = m.kind; option_values = ss }))) h)

-- ---- Where the code puts an option is where it belongs.

pub inserted_by_place : (n : ℕ) (s : OptionValue) (ss : List OptionValue) → insert ss (rank n ss) s ≡ insert_by_place n s ss
inserted_by_place n s [] = refl
inserted_by_place n s (t ∷ ts) = go (ltb n (slot_of t)) (inserted_by_place n s ts)
  where
    go : (b : Bool) → insert ts (rank n ts) s ≡ insert_by_place n s ts → insert (t ∷ ts) (cond b 0 (rank n ts + 1)) s ≡ cond b (s ∷ t ∷ ts) (t ∷ insert_by_place n s ts)
    go true h = refl
    go false h = ap (λ k. insert (t ∷ ts) k s) (add-one (rank n ts)) ∙ ap (λ l. t ∷ l) h

-- ---- Matches completed one after another.

-- the first so many completed, the others as they are
abbrev pub normal_first : ℕ → List Match → List Match
normal_first zero ms = ms
normal_first (suc n) [] = []
normal_first (suc n) (m ∷ ms) = normal_match m ∷ normal_first n ms

pub all_normal : (ms : List Match) → normal_first (length ms) ms ≡ map normal_match ms
all_normal [] = refl
all_normal (m ∷ ms) = ap (λ l. normal_match m ∷ l) (all_normal ms)

-- one more
one_more : (n : ℕ) (ms : List Match) (d : Match) → n < length ms → set (normal_first n ms) n (normal_match (get_or (normal_first n ms) n d)) ≡ normal_first (suc n) ms
one_more n [] d within = absurd (omega arith)
one_more zero (m ∷ ms) d within = refl
one_more (suc n) (m ∷ ms) d within = ap (λ l. normal_match m ∷ l) (one_more n ms d (omega arith))

pub normal_next : (ms os : List code.Match) (i : ℕ) (old new : code.Match) → i < length ms → length ms ≡ length os
    → views.view_matches ms ≡ normal_first i (views.view_matches os) → views.view_match new ≡ normal_match (views.view_match (get_or ms i old))
    → views.view_matches (set ms i new) ≡ normal_first (i + 1) (views.view_matches os)
normal_next ms os i old new within same first done =
    let V = views.view_matches ms in
    let W = views.view_matches os in
    let at : views.view_match (get_or ms i old) ≡ get_or V i (views.view_match old) = sym (get_or-map views.view_match ms i old (views.view_match old) within) in
    map-set views.view_match ms i new ∙ ap (set V i) (done ∙ ap normal_match at)
    ∙ ap (λ l. set l i (normal_match (get_or l i (views.view_match old)))) first
    ∙ one_more i W (views.view_match old) (omega (arith, length-map os views.view_match, same))
    ∙ ap (λ n. normal_first n W) (sym (add-one i))
