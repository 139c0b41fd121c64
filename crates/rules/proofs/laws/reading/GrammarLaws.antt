-- The function that reads is the relation of rows.
use Prim.Native.Nat.{zero, suc}
use Rattle.std.proofs.Common.{◌≡◌, ℕ, ◌-◌, ◌<◌, ◌≤◌, Bool, true, false, cond, List, [], ◌∷◌, ◌++◌, length, take, drop, Option, None, Some, refl, sym, ap, subst, ◌∙◌, arith, ltb, inl, inr, take-append-drop}
use Rattle.std.specs.Prelude.{Result, Ok, Err, codes}
use Rattle.std.specs.Str.{bytes_eq}
use Rattle.std.proofs.lemmas.Bool.{ltb-false}
use Rattle.std.proofs.lemmas.Slice.Eq.{bytes_eq-Decides}
use Rattle.std.proofs.lemmas.List.{length-append, length-take-le}
use Rattle.rules.specs.Sequence.{◌>>=◌}
use Rattle.rules.specs.options.Options.{option_of, value_count, may_be_inverted}
use Rattle.rules.specs.rule.Rules.{Rule, empty_rule}
use Rattle.rules.specs.reading.Steps.{step, steps_from, with_needs_met, rule_of, OptionWords, with_values, inverted_words, plain_words, after_bang, option_words_at}
use Rattle.rules.specs.reading.Grammar.{spelled_words, BeginsWith, AreOptions, ReadsAs, IsRefused, HasFault}
use Rattle.rules.specs.declared.reading.fault.Refusal.{Refusal}
use Rattle.rules.specs.declared.reading.fault.Refusal.TheVariants as refusal
use Rattle.rules.specs.declared.options.option.Opt.{Opt}
use Rattle.rules.proofs.laws.reading.StepLaws.{the_option_words, takes_values, Continues, continues-nothing, continues-then, continues-option}

-- no option is spelled `!`
bang-none : option_of (codes "!") ≡ None
unfolding option_of
bang-none = refl

not-bang : (name : List ℕ) (o : Opt) (b : Bool) → bytes_eq name (codes "!") ≡ b → option_of name ≡ Some o → b ≡ false
not-bang name o true e spells =
    let is : name ≡ codes "!" = (bytes_eq-Decides name (codes "!")).0 e in
    let none : option_of name ≡ None = ap option_of is ∙ bang-none in
    absurd (cc)
not-bang name o false e spells = refl

-- words that begin with a part are read as that part
pub option_words_at-begins : (end : ℕ) (inverted : Bool) (o : Opt) (name : List ℕ) (values rest : List (List ℕ)) → option_of name ≡ Some o → value_count o ≡ length values
    → (inverted ≡ true → may_be_inverted o ≡ true)
    → option_words_at end (spelled_words inverted name values ++ rest) ≡ Ok (the_option_words inverted o values (end - length (name ∷ (values ++ rest))), rest)
unfolding option_words_at
option_words_at-begins end true o name values rest spells e may =
    let words = values ++ rest in
    let place = end - length (name ∷ words) in
    ap (λ q. inverted_words q place words) spells ∙ ap (λ b. cond b (with_values true o place words) (Err refusal.InversionNotAllowed)) (may refl) ∙ takes_values true o place values rest e
option_words_at-begins end false o name values rest spells e may =
    let words = values ++ rest in
    let place = end - length (name ∷ words) in
    ap (λ b. cond b (after_bang (end - length words) words) (plain_words (option_of name) place words)) (not-bang name o (bytes_eq name (codes "!")) refl spells)
    ∙ ap (λ q. plain_words q place words) spells ∙ takes_values false o place values rest e

pub begins-read : (end : ℕ) (words : List (List ℕ)) (p : OptionWords) (rest : List (List ℕ)) → BeginsWith end words p rest → option_words_at end words ≡ Ok (p, rest)
begins-read end words p rest h =
    ap (option_words_at end) h.split ∙ option_words_at-begins end p.inverted p.option h.name p.values rest h.spells h.count h.bang
    ∙ ap (λ n. Ok (the_option_words p.inverted p.option p.values n, rest)) (sym h.place)

-- the parts of an answer
ok-part : OptionWords → Result (OptionWords × List (List ℕ)) Refusal → OptionWords
ok-part d (Ok q) = q.0
ok-part d (Err e) = d

ok-rest : Result (OptionWords × List (List ℕ)) Refusal → List (List ℕ)
ok-rest (Ok q) = q.1
ok-rest (Err e) = []

same-parts : (p q : OptionWords) (xs ys : List (List ℕ)) → ◌≡◌ {A = Result (OptionWords × List (List ℕ)) Refusal} (Ok (p, xs)) (Ok (q, ys)) → (p ≡ q) × (xs ≡ ys)
unfolding ok-part ok-rest
same-parts p q xs ys h = (ap (ok-part p) h, ap ok-rest h)

-- what with_values takes
taken : (inverted : Bool) (o : Opt) (place : ℕ) (words : List (List ℕ)) (p : OptionWords) (rest : List (List ℕ)) → with_values inverted o place words ≡ Ok (p, rest)
    → (value_count o ≡ length p.values) × (words ≡ p.values ++ rest) × (p.inverted ≡ inverted) × (p.option ≡ o) × (p.place ≡ place)
taken inverted o place words p rest h = go (ltb (length words) (value_count o)) refl h
  where
    go : (b : Bool) → ltb (length words) (value_count o) ≡ b
        → cond {A = Result (OptionWords × List (List ℕ)) Refusal} b (Err refusal.ValueMissing) (Ok (the_option_words inverted o (take (value_count o) words) place, drop (value_count o) words)) ≡ Ok (p, rest)
        → (value_count o ≡ length p.values) × (words ≡ p.values ++ rest) × (p.inverted ≡ inverted) × (p.option ≡ o) × (p.place ≡ place)
    go true e h = absurd (cc)
    go false e h =
        let (same-part, same-rest) = same-parts (the_option_words inverted o (take (value_count o) words) place) p (drop (value_count o) words) rest h in
        let enough = ltb-false (length words) (value_count o) e in (
          sym (length-take-le (value_count o) words enough) ∙ ap (λ (q : OptionWords). length q.values) same-part,
          sym (take-append-drop (value_count o) words) ∙ ap (λ (q : OptionWords). q.values ++ drop (value_count o) words) same-part ∙ ap (λ l. p.values ++ l) same-rest,
          sym (ap (λ (q : OptionWords). q.inverted) same-part),
          sym (ap (λ (q : OptionWords). q.option) same-part),
          sym (ap (λ (q : OptionWords). q.place) same-part),
        )

-- what is read as a part begins with it
pub read-begins : (end : ℕ) (words : List (List ℕ)) (p : OptionWords) (rest : List (List ℕ)) → option_words_at end words ≡ Ok (p, rest) → BeginsWith end words p rest
unfolding option_words_at
read-begins end [] p rest h = absurd (cc)
read-begins end (w ∷ ws) p rest h = go (bytes_eq w (codes "!")) refl h
  where
    begins : (inverted : Bool) (o : Opt) (name : List ℕ) (vs words : List (List ℕ)) → option_of name ≡ Some o → (inverted ≡ true → may_be_inverted o ≡ true)
        → ((us : List (List ℕ)) → vs ≡ us ++ rest → words ≡ spelled_words inverted name us ++ rest)
        → with_values inverted o (end - length (name ∷ vs)) vs ≡ Ok (p, rest) → BeginsWith end words p rest
    begins inverted o name vs words spells may split h =
        let (count, joined, same-inverted, same-option, same-place) = taken inverted o (end - length (name ∷ vs)) vs p rest h in
        record {
          name = name;
          spells = spells ∙ ap (λ x. Some x) (sym same-option);
          count = ap value_count same-option ∙ count;
          bang = λ e. ap may_be_inverted same-option ∙ may (sym same-inverted ∙ e);
          split = split p.values joined ∙ ap (λ b. spelled_words b name p.values ++ rest) (sym same-inverted);
          place = same-place ∙ ap (λ l. end - length (name ∷ l)) joined;
        }

    behind : (us : List (List ℕ)) → w ≡ codes "!" → after_bang (end - length us) us ≡ Ok (p, rest) → BeginsWith end (w ∷ us) p rest
    behind [] is h = absurd (cc)
    behind (name ∷ vs) is h = inner (option_of name) refl h
      where
        inner : (o : Option Opt) → option_of name ≡ o → inverted_words o (end - length (name ∷ vs)) vs ≡ Ok (p, rest) → BeginsWith end (w ∷ (name ∷ vs)) p rest
        inner None spells h = absurd (cc)
        inner (Some o) spells h = legal (may_be_inverted o) refl h
          where
            legal : (b : Bool) → may_be_inverted o ≡ b → cond {A = Result (OptionWords × List (List ℕ)) Refusal} b (with_values true o (end - length (name ∷ vs)) vs) (Err refusal.InversionNotAllowed) ≡ Ok (p, rest)
                → BeginsWith end (w ∷ (name ∷ vs)) p rest
            legal true may h =
                begins true o name vs (w ∷ (name ∷ vs)) spells (λ e. may) (λ us e. ap (λ x. x ∷ (name ∷ vs)) is ∙ ap (λ l. codes "!" ∷ (name ∷ l)) e) h
            legal false may h = absurd (cc)

    plain : (o : Option Opt) → option_of w ≡ o → plain_words o (end - length (w ∷ ws)) ws ≡ Ok (p, rest) → BeginsWith end (w ∷ ws) p rest
    plain None spells h = absurd (cc)
    plain (Some o) spells h = begins false o w ws (w ∷ ws) spells (λ e. absurd (false-true e)) (λ us e. ap (λ l. w ∷ l) e) h
      where
        false-true : false ≡ true → ⊥
        false-true e = cc

    go : (b : Bool) → bytes_eq w (codes "!") ≡ b
        → cond {A = Result (OptionWords × List (List ℕ)) Refusal} b (after_bang (end - length ws) ws) (plain_words (option_of w) (end - length (w ∷ ws)) ws) ≡ Ok (p, rest) → BeginsWith end (w ∷ ws) p rest
    go true e h = behind ws ((bytes_eq-Decides w (codes "!")).0 e) h
    go false e h = plain (option_of w) refl h

-- reading goes through the rows
pub row-read : (end : ℕ) (parts : List OptionWords) (r s : Rule) (words rest : List (List ℕ)) → AreOptions end r parts words s rest → Continues end r words s rest
row-read end [] r s words rest row =
    subst (λ l. Continues end r words s l) row.0 (subst (λ t. Continues end r words t words) row.1 (continues-nothing end r words))
row-read end (p ∷ ps) r s words rest (behind, t, begins, stepped, row) =
    continues-then end r t s words behind rest (first words begins) (row-read end ps t s behind rest row)
  where
    shorter : (b : Bool) (name : List ℕ) (vs : List (List ℕ)) → (k : ℕ) × (length (spelled_words b name vs ++ behind) ≡ suc k) × (length behind ≤ k)
    shorter true name vs = (length (name ∷ (vs ++ behind)), refl, omega (arith, length-append vs behind))
    shorter false name vs = (length (vs ++ behind), refl, omega (arith, length-append vs behind))

    first : (ws : List (List ℕ)) → BeginsWith end ws p behind → Continues end r ws t behind
    first [] h = let (k, e, less) = shorter p.inverted h.name p.values in absurd (omega (arith, e, ap length h.split))
    first (w ∷ ws) h =
        let (k, e, less) = shorter p.inverted h.name p.values in
        continues-option end r t w ws behind p (begins-read end (w ∷ ws) p behind h) stepped (omega (arith, e, less, ap length h.split))

-- words that are read are a row
pub steps-row : (n end : ℕ) (r s : Rule) (words : List (List ℕ)) → steps_from n end r words ≡ Ok s → (parts : List OptionWords) × AreOptions end r parts words s []
steps-row n end r s [] h = ([], (refl, same-ok r s h))
  where
    same-ok : (x y : Rule) → ◌≡◌ {A = Result Rule Refusal} (Ok x) (Ok y) → x ≡ y
    same-ok x y e = cc
steps-row zero end r s (w ∷ ws) h = absurd (cc)
steps-row (suc n) end r s (w ∷ ws) h = go (λ t us. steps-row n end t s us) (option_words_at end (w ∷ ws)) refl h
  where
    go : ((t : Rule) (us : List (List ℕ)) → steps_from n end t us ≡ Ok s → (parts : List OptionWords) × AreOptions end t parts us s [])
        → (q : Result (OptionWords × List (List ℕ)) Refusal) → option_words_at end (w ∷ ws) ≡ q → (q >>= λ x. step r x.0 >>= λ t. steps_from n end t x.1) ≡ Ok s
        → (parts : List OptionWords) × AreOptions end r parts (w ∷ ws) s []
    go more (Err e) read h = absurd (cc)
    go more (Ok x) read h = inner (step r x.0) refl h
      where
        inner : (q : Result Rule Refusal) → step r x.0 ≡ q → (q >>= λ t. steps_from n end t x.1) ≡ Ok s → (parts : List OptionWords) × AreOptions end r parts (w ∷ ws) s []
        inner (Err e) stepped h = absurd (cc)
        inner (Ok t) stepped h =
            let (parts, row) = more t x.1 h in
            (x.0 ∷ parts, (x.1, t, read-begins end (w ∷ ws) x.0 x.1 read, stepped, row))

-- where reading stops, the part there is refused
abbrev StopsAt : ℕ → Rule → List (List ℕ) → Refusal → Type 0
StopsAt end r words e = (parts : List OptionWords) × (d : Rule) × (w : List ℕ) × (rest : List (List ℕ)) × AreOptions end r parts words d (w ∷ rest) × IsRefused end d (w ∷ rest) e

pub steps-refused : (n end : ℕ) (r : Rule) (words : List (List ℕ)) (e : Refusal) → length words ≤ n → steps_from n end r words ≡ Err e → StopsAt end r words e
steps-refused n end r [] e within h = absurd (cc)
steps-refused zero end r (w ∷ ws) e within h = absurd (omega arith)
steps-refused (suc n) end r (w ∷ ws) e within h = go (λ t us. steps-refused n end t us e) (option_words_at end (w ∷ ws)) refl h
  where
    same-err : (f : Refusal) → ◌≡◌ {A = Result Rule Refusal} (Err f) (Err e) → f ≡ e
    same-err f h = cc

    go : ((t : Rule) (us : List (List ℕ)) → length us ≤ n → steps_from n end t us ≡ Err e → StopsAt end t us e)
        → (q : Result (OptionWords × List (List ℕ)) Refusal) → option_words_at end (w ∷ ws) ≡ q → (q >>= λ x. step r x.0 >>= λ t. steps_from n end t x.1) ≡ Err e
        → StopsAt end r (w ∷ ws) e
    go more (Err f) read h = ([], r, w, ws, (refl, refl), inl (read ∙ ap (λ x. Err x) (same-err f h)))
    go more (Ok x) read h = inner (step r x.0) refl h
      where
        begins : BeginsWith end (w ∷ ws) x.0 x.1
        begins = read-begins end (w ∷ ws) x.0 x.1 read

        shorter : (b : Bool) (name : List ℕ) (vs : List (List ℕ)) → length x.1 < length (spelled_words b name vs ++ x.1)
        shorter true name vs = omega (arith, length-append vs x.1)
        shorter false name vs = omega (arith, length-append vs x.1)

        inner : (q : Result Rule Refusal) → step r x.0 ≡ q → (q >>= λ t. steps_from n end t x.1) ≡ Err e → StopsAt end r (w ∷ ws) e
        inner (Err f) stepped h = ([], r, w, ws, (refl, refl), inr (x.0, x.1, begins, stepped ∙ h))
        inner (Ok t) stepped h =
            let less = shorter x.0.inverted begins.name x.0.values in
            let (parts, d, v, rest, row, refused) = more t x.1 (omega (arith, less, ap length begins.split)) h in
            (x.0 ∷ parts, d, v, rest, (x.1, t, begins, stepped, row), refused)

-- rule_of reads exactly what reads by rows
pub rule_of-reads : (end : ℕ) (words : List (List ℕ)) (r : Rule) → rule_of end words ≡ Ok r → ReadsAs end words r
unfolding rule_of
rule_of-reads end words r h = go (steps_from (length words) end empty_rule words) refl h
  where
    go : (q : Result Rule Refusal) → steps_from (length words) end empty_rule words ≡ q → (q >>= with_needs_met) ≡ Ok r → ReadsAs end words r
    go (Err e) read h = absurd (cc)
    go (Ok d) read h = let (parts, row) = steps-row (length words) end empty_rule d words read in (parts, d, row, h)

pub reads-rule_of : (end : ℕ) (words : List (List ℕ)) (r : Rule) → ReadsAs end words r → rule_of end words ≡ Ok r
unfolding rule_of
reads-rule_of end words r (parts, d, row, h) =
    let (m, within, e) = row-read end parts empty_rule d words [] row (length words) (omega arith) in
    ap (λ q. q >>= with_needs_met) e ∙ h

pub rule_of-fault : (end : ℕ) (words : List (List ℕ)) (e : Refusal) → rule_of end words ≡ Err e → HasFault end words e
unfolding rule_of
rule_of-fault end words e h = go (steps_from (length words) end empty_rule words) refl h
  where
    same-err : (f : Refusal) → ◌≡◌ {A = Result Rule Refusal} (Err f) (Err e) → f ≡ e
    same-err f h = cc

    go : (q : Result Rule Refusal) → steps_from (length words) end empty_rule words ≡ q → (q >>= with_needs_met) ≡ Err e → HasFault end words e
    go (Err f) read h = inl (steps-refused (length words) end empty_rule words e (omega arith) (read ∙ ap (λ x. Err x) (same-err f h)))
    go (Ok d) read h = let (parts, row) = steps-row (length words) end empty_rule d words read in inr (parts, d, row, h)

refused-steps : (m end : ℕ) (d : Rule) (w : List ℕ) (rest : List (List ℕ)) (e : Refusal) → length (w ∷ rest) ≤ m → IsRefused end d (w ∷ rest) e → steps_from m end d (w ∷ rest) ≡ Err e
refused-steps zero end d w rest e within refused = absurd (omega arith)
refused-steps (suc m) end d w rest e within (inl h) = ap (λ q. q >>= λ x. step d x.0 >>= λ t. steps_from m end t x.1) h
refused-steps (suc m) end d w rest e within (inr (p, us, begins, stepped)) =
    ap (λ q. q >>= λ x. step d x.0 >>= λ t. steps_from m end t x.1) (begins-read end (w ∷ rest) p us begins) ∙ ap (λ q. q >>= λ t. steps_from m end t us) stepped

pub fault-rule_of : (end : ℕ) (words : List (List ℕ)) (e : Refusal) → HasFault end words e → rule_of end words ≡ Err e
unfolding rule_of
fault-rule_of end words e (inl (parts, d, w, rest, row, refused)) =
    let (m, within, read) = row-read end parts empty_rule d words (w ∷ rest) row (length words) (omega arith) in
    ap (λ q. q >>= with_needs_met) (read ∙ refused-steps m end d w rest e within refused)
fault-rule_of end words e (inr (parts, d, row, h)) =
    let (m, within, read) = row-read end parts empty_rule d words [] row (length words) (omega arith) in
    ap (λ q. q >>= with_needs_met) read ∙ h
