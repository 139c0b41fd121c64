-- A rule and its line: why the line is refused, which lines stand beside rules in a text, and that none moves rules where one needs
-- something.
use Rattle.std.proofs.Common.{◌≡◌, ℕ, List, Option, None, Some, Result, Ok, Err, IfSome, IfErr, option_map, ◌⊎◌, inl, inr, Bool, true, false, cond, [], ◌∷◌, ◌++◌, flat_map, length, ◌+◌, refl, ap, sym, subst, ◌∙◌, append_assoc, append-nil, arith}
use Rattle.std.specs.Prelude.{All, codes}
use Rattle.std.specs.List.{filter_map, cons_option, list_any}
use Rattle.std.specs.Bool.{MatchBool}
use Rattle.std.specs.Option.{option_and_then, option_or}
use Rattle.std.specs.Str.{bytes_eq}
use Rattle.std.proofs.lemmas.Bool.{and_parts}
use Rattle.std.proofs.lemmas.List.{length-append}
use Rattle.std.proofs.lemmas.List.Elements.{All-nil, All-cons, All-head, All-tail, All-append}
use Rattle.fields.specs.text.Line.{IsOneLine, AreOneLine}
use Rattle.fields.specs.text.Words.{words_of}
use Rattle.fields.proofs.laws.text.PrintedLaws.{found_words}
use Rattle.dumps.specs.Options.{Table, Known, known_of}
use Rattle.dumps.specs.Parts.{IsRefused, IsTakenApart, Part}
use Rattle.dumps.specs.SectionLines.{RuleLine, is_either, begins_with, is_commit, is_commit_word, moving, named, other_line, rule_after, rule_line}
use Rattle.dumps.specs.Reading.{Between, Filter, IsLineRead, Read, RulesMoved, refused_move, refused_name, Refusal, apart_refusal, IsMovedWith, IsRuleTaken, IsRuleRefused, Apart, Moved, Section, is_too_long, add_line, kept, closed, own_text, needs_of, given_line, read_rule, IsFilterRead, IsReadAt, AreWordsRead}
use Rattle.dumps.specs.Views.{refused_in}
use Rattle.dumps.specs.declared.reading.fault.DumpFault.{DumpFault}
use Rattle.dumps.specs.Beside.{AreRead, AreStill, IsStill, Keeps as StaysStill, MovesNone, NeededRulesStandStill, Puts, CameTogether, LinesComeWithRules, chain_in, chain_of, GivesOneLine, IsBeside, Rule, NoRule, RulesStandBesideLines}
use Rattle.dumps.specs.Foreign.{Needed, ReadRule, needs_some, words_by, words_for, known_words}
use Rattle.dumps.specs.Own.{own_words, spelled, line_of}
use Rattle.dumps.specs.Parts as parts
use Rattle.dumps.proofs.laws.OneLineLaws.{own_one}
use Rattle.dumps.proofs.laws.OwnLaws.{line_reads_back}

-- ---- Why a line with a rule is refused.

-- it isn't taken apart
pub apart_refused : (table : Table) (line : RuleLine) (old : Read) (why : Option parts.Refusal) (came : Option (Refusal × List ℕ))
    → IfSome why (IsRefused table line.words) → IfSome came (λ refusal. option_map apart_refusal why ≡ Some refusal) → IfSome came (IsRuleRefused table line old)
apart_refused table line old why None h e = tt
apart_refused table line old None (Some refusal) h e = absurd (cc)
apart_refused table line old (Some w) (Some refusal) h e = Apart w h (cc)

-- it needs something behind a line that may have moved rules
pub moved_refused : {X : Type 0} (table : Table) (line : RuleLine) (old new : Read) (result : Result X DumpFault) → IsRuleTaken table line old new
    → IfErr result (λ fault. IfSome (refused_in fault) (IsMovedWith new)) → IfErr result (λ fault. IfSome (refused_in fault) (IsRuleRefused table line old))
moved_refused table line old new (Ok x) taken h = tt
moved_refused table line old new (Err fault) taken h = go (refused_in fault) h
  where
    go : (came : Option (Refusal × List ℕ)) → IfSome came (IsMovedWith new) → IfSome came (IsRuleRefused table line old)
    go None h = tt
    go (Some refusal) h = Moved new taken h

-- ---- Lines of the text beside rules.

abbrev InOneLine : Known → Type 0
InOneLine known = AreOneLine known.holds × AreOneLine known.fails

-- the words for a need have no newline
known_one : (known : List Known) → All InOneLine known → (inverted : Bool) (text : List ℕ) → AreOneLine (words_by inverted (known_of known text))
known_one [] all inverted text = All-nil IsOneLine
known_one (row ∷ known) all inverted text = go (bytes_eq row.text text) inverted (known_one known (All-tail InOneLine row known all) inverted text)
  where
    words : (i : Bool) → AreOneLine (cond i row.fails row.holds)
    words true = (All-head InOneLine row known all).1
    words false = (All-head InOneLine row known all).0

    go : (b i : Bool) → AreOneLine (words_by i (known_of known text)) → AreOneLine (words_by i (cond b (Some row) (known_of known text)))
    go true i rest = words i
    go false i rest = rest

known_words_one : (known : List Known) → All InOneLine known → (needs : List Needed) → AreOneLine (known_words known needs)
known_words_one known all [] = All-nil IsOneLine
known_words_one known all (need ∷ needs) =
    All-append IsOneLine (words_for known need) (known_words known needs) (known_one known all need.inverted need.text) (known_words_one known all needs)

-- a line with a rule: its words have no newline, and with other words it is a line with a rule of the same chain
abbrev Keeps : RuleLine → Type 0
Keeps line = AreOneLine line.words × ((own : List (List ℕ)) → AreOneLine own → chain_of (own_text line own) ≡ Some line.chain)

abbrev chain_by : List (List ℕ) → Option (List ℕ)
chain_by words = chain_in (rule_line words)

abbrev is_append : List ℕ → Bool
is_append command = is_either (codes "-A") (codes "--append") command

tail_one : (word : List ℕ) (words : List (List ℕ)) → AreOneLine (word ∷ words) → AreOneLine words
tail_one word words one = All-tail IsOneLine word words one

head_one : (word : List ℕ) (words own : List (List ℕ)) → AreOneLine (word ∷ words) → AreOneLine own → AreOneLine (word ∷ own)
head_one word words own one others = All-cons IsOneLine word own (All-head IsOneLine word words one) others

-- without counters
bare_keeps : (word : List ℕ) (words : List (List ℕ)) (line : RuleLine) → begins_with 91 word ≡ false → rule_after None (word ∷ words) ≡ Some line → AreOneLine (word ∷ words) → Keeps line
bare_keeps word [] line first is one = absurd (cc)
bare_keeps word (chain ∷ rest) line first is one = go (is_append word) refl is
  where
    reads : (own : List (List ℕ)) → AreOneLine own → is_append word ≡ true → chain_of (own_text (record { counters = None; command = word; chain = chain; words = rest }) own) ≡ Some chain
    reads own others put =
        let text = append_assoc (spelled word) (32 ∷ spelled chain) (line_of own) in
        let words_one = head_one word (chain ∷ rest) (chain ∷ own) one (head_one chain rest own (tail_one word (chain ∷ rest) one) others) in
        ap chain_of text
        ∙ ap (option_and_then chain_by) (line_reads_back word (chain ∷ own) words_one)
        ∙ ap (λ b. chain_in (cond b (rule_after (Some word) (chain ∷ own)) (rule_after None (word ∷ (chain ∷ own))))) first
        ∙ ap (λ b. chain_in (cond b (Some (record { counters = None; command = word; chain = chain; words = own })) None)) put

    go : (b : Bool) → is_append word ≡ b → cond b (Some (record { counters = None; command = word; chain = chain; words = rest })) None ≡ Some line → Keeps line
    go false put e = absurd (cc)
    go true put e =
        let same : record { counters = None; command = word; chain = chain; words = rest } ≡ line = cc in
        subst Keeps same (tail_one chain rest (tail_one word (chain ∷ rest) one), λ own others. reads own others put)

-- behind counters
counted_keeps : (word : List ℕ) (words : List (List ℕ)) (line : RuleLine) → begins_with 91 word ≡ true → rule_after (Some word) words ≡ Some line → AreOneLine (word ∷ words) → Keeps line
counted_keeps word [] line first is one = absurd (cc)
counted_keeps word (command ∷ []) line first is one = absurd (cc)
counted_keeps word (command ∷ (chain ∷ rest)) line first is one = go (is_append command) refl is
  where
    further : AreOneLine (command ∷ (chain ∷ rest))
    further = tail_one word (command ∷ (chain ∷ rest)) one

    reads : (own : List (List ℕ)) → AreOneLine own → is_append command ≡ true → chain_of (own_text (record { counters = Some word; command = command; chain = chain; words = rest }) own) ≡ Some chain
    reads own others put =
        let behind = spelled command ++ 32 ∷ spelled chain in
        let text =
        append_assoc (spelled word ++ 32 ∷ []) behind (line_of own)
        ∙ append_assoc (spelled word) (32 ∷ []) (behind ++ line_of own)
        ∙ ap (λ (l : List ℕ). spelled word ++ 32 ∷ l) (append_assoc (spelled command) (32 ∷ spelled chain) (line_of own)) in
        let chain_one = head_one chain rest own (tail_one command (chain ∷ rest) further) others in
        let words_one = head_one word (command ∷ (chain ∷ rest)) (command ∷ (chain ∷ own)) one (head_one command (chain ∷ rest) (chain ∷ own) further chain_one) in
        ap chain_of text
        ∙ ap (option_and_then chain_by) (line_reads_back word (command ∷ (chain ∷ own)) words_one)
        ∙ ap (λ b. chain_in (cond b (rule_after (Some word) (command ∷ (chain ∷ own))) (rule_after None (word ∷ (command ∷ (chain ∷ own)))))) first
        ∙ ap (λ b. chain_in (cond b (Some (record { counters = Some word; command = command; chain = chain; words = own })) None)) put

    go : (b : Bool) → is_append command ≡ b → cond b (Some (record { counters = Some word; command = command; chain = chain; words = rest })) None ≡ Some line → Keeps line
    go false put e = absurd (cc)
    go true put e =
        let same : record { counters = Some word; command = command; chain = chain; words = rest } ≡ line = cc in
        subst Keeps same (tail_one chain rest (tail_one command (chain ∷ rest) further), λ own others. reads own others put)

rule_keeps : (words : List (List ℕ)) (line : RuleLine) → rule_line words ≡ Some line → AreOneLine words → Keeps line
rule_keeps [] line is one = absurd (cc)
rule_keeps (word ∷ words) line is one = go (begins_with 91 word) refl is
  where
    go : (b : Bool) → begins_with 91 word ≡ b → cond b (rule_after (Some word) words) (rule_after None (word ∷ words)) ≡ Some line → Keeps line
    go true first e = counted_keeps word words line first e one
    go false first e = bare_keeps word words line first e one

-- `COMMIT` puts no rule into a chain
commit_puts_none : (words : List (List ℕ)) → is_commit_word words ≡ true → chain_by words ≡ None
commit_puts_none [] commit = refl
commit_puts_none (word ∷ []) commit = go (begins_with 91 word)
  where
    go : (b : Bool) → chain_in (cond b (rule_after (Some word) []) (rule_after None (word ∷ []))) ≡ None
    go true = refl
    go false = refl
commit_puts_none (word ∷ (more ∷ words)) commit = absurd (cc)

-- what the program is given of a line has the rule of its chain
given_keeps : (table : Table) (line : RuleLine) (parts : List Part) → GivesOneLine table → Keeps line → IsTakenApart table line.words parts → chain_of (given_line table line parts) ≡ Some line.chain
given_keeps table line parts gives keeps apart =
    let own = own_one table parts gives.numbers (subst AreOneLine apart.whole keeps.0) in
    let known = known_words_one table.known gives.known (needs_of table parts) in
    keeps.1 (own_words table parts ++ known_words table.known (needs_of table parts)) (All-append IsOneLine (own_words table parts) (known_words table.known (needs_of table parts)) own known)

pub rules_stand_beside_lines : RulesStandBesideLines
rules_stand_beside_lines table line old new read gives section = at_length (is_too_long line) refl read
  where
    none_puts : (words : List (List ℕ)) → words_of line ≡ Some words → chain_by words ≡ None → chain_of line ≡ None
    none_puts words e none = ap (option_and_then chain_by) e ∙ none

    by_rule : (words : List (List ℕ)) → words_of line ≡ Some words → (r : Option RuleLine) → rule_line words ≡ r → IsFilterRead table line words r old new → IsBeside line old new
    by_rule words e None none h = NoRule (ap (λ (r : Read). r.text) h.after) (inr (none_puts words e (ap chain_in none))) (ap (λ (r : Read). r.rules) h.after)
    by_rule words e (Some rule) some h =
        let keeps = rule_keeps words rule some (found_words words line e) in
        Rule (given_line table rule h.taken.parts) (read_rule table rule h.taken.parts) (ap (λ (r : Read). r.text) h.taken.after)
        (given_keeps table rule h.taken.parts gives keeps h.taken.apart) (ap (λ (r : Read). r.rules) h.taken.after)

    by_commit : (words : List (List ℕ)) → words_of line ≡ Some words → (b : Bool) → is_commit line words ≡ b
        → MatchBool b (new ≡ kept line (closed old)) (IsFilterRead table line words (rule_line words) old new) → IsBeside line old new
    by_commit words e true commit after =
        let (word, bare) = and_parts (is_commit_word words) _ commit in
        NoRule (ap (λ (r : Read). r.text) after) (inr (none_puts words e (commit_puts_none words word))) (ap (λ (r : Read). r.rules) after)
    by_commit words e false commit h = by_rule words e (rule_line words) refl h

    by_words : (w : Option (List (List ℕ))) → words_of line ≡ w → AreWordsRead table line w old new → IsBeside line old new
    by_words None e after = NoRule (ap (λ (r : Read). r.text) after) (inr (ap (option_and_then chain_by) e)) (ap (λ (r : Read). r.rules) after)
    by_words (Some words) e h = by_commit words e (is_commit line words) refl (subst (λ (s : Section). IsReadAt s table line words old new) section h)

    at_length : (b : Bool) → is_too_long line ≡ b → MatchBool b (new ≡ kept line old) (AreWordsRead table line (words_of line) old new) → IsBeside line old new
    at_length true long after = NoRule (ap (λ (r : Read). r.text) after) (inl long) (ap (λ (r : Read). r.rules) after)
    at_length false short h = by_words (words_of line) refl h

-- a line behind a text, and lines behind that
lines_behind : (old mid new line : List ℕ) (lines : List (List ℕ)) → mid ≡ add_line old line → new ≡ mid ++ flat_map (λ (l : List ℕ). l ++ 10 ∷ []) lines
    → new ≡ old ++ flat_map (λ (l : List ℕ). l ++ 10 ∷ []) (line ∷ lines)
lines_behind old mid new line lines first rest =
    rest ∙ ap (λ (t : List ℕ). t ++ flat_map (λ (l : List ℕ). l ++ 10 ∷ []) lines) first ∙ append_assoc old (line ++ 10 ∷ []) (flat_map (λ (l : List ℕ). l ++ 10 ∷ []) lines)

-- one line and its rule come first
rule_first : (given : List ℕ) (rule : ReadRule) (old mid new : Read) → mid.text ≡ add_line old.text given → chain_of given ≡ Some rule.chain
    → mid.rules ≡ old.rules ++ rule ∷ [] → CameTogether mid new → CameTogether old new
rule_first given rule old mid new text puts rules rest = record {
  lines = given ∷ rest.lines;
  rules = rule ∷ rest.rules;
  text = lines_behind old.text mid.text new.text given rest.lines text rest.text;
  behind = rest.behind ∙ ap (λ (l : List ReadRule). l ++ rest.rules) rules ∙ append_assoc old.rules (rule ∷ []) rest.rules;
  chains = λ short.
      ap (λ o. cons_option o (filter_map chain_of rest.lines)) puts
      ∙ ap (λ (l : List (List ℕ)). rule.chain ∷ l) (rest.chains (All-tail (λ (l : List ℕ). is_too_long l ≡ false) given rest.lines short));
}

-- one line without a rule comes first
other_first : (line : List ℕ) (old mid new : Read) → mid.text ≡ add_line old.text line → (is_too_long line ≡ true) ⊎ (chain_of line ≡ None) → mid.rules ≡ old.rules
    → CameTogether mid new → CameTogether old new
other_first line old mid new text none rules rest = record {
  lines = line ∷ rest.lines;
  rules = rest.rules;
  text = lines_behind old.text mid.text new.text line rest.lines text rest.text;
  behind = rest.behind ∙ ap (λ (l : List ReadRule). l ++ rest.rules) rules;
  chains = λ short.
      ap (λ o. cons_option o (filter_map chain_of rest.lines)) (puts_none none (All-head (λ (l : List ℕ). is_too_long l ≡ false) line rest.lines short))
      ∙ rest.chains (All-tail (λ (l : List ℕ). is_too_long l ≡ false) line rest.lines short);
}
  where
    puts_none : (is_too_long line ≡ true) ⊎ (chain_of line ≡ None) → is_too_long line ≡ false → chain_of line ≡ None
    puts_none (inl long) short = absurd (cc)
    puts_none (inr none) short = none

pub lines_come_with_rules : LinesComeWithRules
lines_come_with_rules [] old new same = record {
  lines = [];
  rules = [];
  text = ap (λ (r : Read). r.text) same ∙ sym (append-nil old.text);
  behind = ap (λ (r : Read). r.rules) same ∙ sym (append-nil old.rules);
  chains = λ short. refl;
}
lines_come_with_rules (line ∷ lines) old new (mid, Rule given rule text puts rules, rest) =
    rule_first given rule old mid new text puts rules (lines_come_with_rules lines mid new rest)
lines_come_with_rules (line ∷ lines) old new (mid, NoRule text none rules, rest) =
    other_first line old mid new text none rules (lines_come_with_rules lines mid new rest)

-- ---- Where a rule needs something, no line of the text moves rules.

-- nothing was noted before that isn't noted now
none_of : {A : Type 0} (first second : Option A) → option_or first second ≡ None → (first ≡ None) × (second ≡ None)
none_of None second e = (refl, e)
none_of (Some x) second e = absurd (cc)

-- a line that was read, and the line of the text that stands for it
abbrev IsLineStill : List ℕ → Read → Read → Type 0
IsLineStill given old mid = (mid.text ≡ add_line old.text given) × IsStill old.rules mid.rules given × (old.moved ≡ None)

still_line : (table : Table) (line : List ℕ) (old mid : Read) → GivesOneLine table → old.section ≡ Filter → IsLineRead table line old mid → mid.section ≡ Filter → mid.moved ≡ None
    → (given : List ℕ) × IsLineStill given old mid
still_line table line old mid gives section read inside unmoved = at_length (is_too_long line) refl read
  where
    by_rule : (words : List (List ℕ)) → words_of line ≡ Some words → (r : Option RuleLine) → rule_line words ≡ r → IsFilterRead table line words r old mid → (given : List ℕ) × IsLineStill given old mid
    by_rule words e None none h =
        let noted_none : option_or old.moved (moving old.rules (other_line words)) ≡ None = sym (ap (λ (r : Read). r.moved) h.after) ∙ unmoved in
        let parts = none_of old.moved (moving old.rules (other_line words)) noted_none in (
          line,
          (
            ap (λ (r : Read). r.text) h.after,
            StaysStill (ap (λ (r : Read). r.rules) h.after) (inr (λ ws found. let same : words ≡ ws = cc in subst (MovesNone old.rules) same (none, parts.1))),
            parts.0,
          ),
        )
    by_rule words e (Some rule) some h = go (rules_stand_beside_lines table line old mid read gives section)
      where
        before : old.moved ≡ None
        before = sym (ap (λ (r : Read). r.moved) h.taken.after) ∙ unmoved

        go : IsBeside line old mid → (given : List ℕ) × IsLineStill given old mid
        go (Rule given rule text puts rules) = (given, (text, Puts rule puts rules, before))
        go (NoRule text none rules) =
            let one_more : length mid.rules ≡ length old.rules + 1 = ap (λ (r : Read). length r.rules) h.taken.after ∙ length-append old.rules _ in
            let as_many : length mid.rules ≡ length old.rules = ap (λ (l : List ReadRule). length l) rules in
            absurd (omega (arith, one_more, as_many))

    by_commit : (words : List (List ℕ)) → words_of line ≡ Some words → (b : Bool)
        → MatchBool b (mid ≡ kept line (closed old)) (IsFilterRead table line words (rule_line words) old mid) → (given : List ℕ) × IsLineStill given old mid
    by_commit words e true after = absurd (let ended : mid.section ≡ Between = ap (λ (r : Read). r.section) after in cc)
    by_commit words e false h = by_rule words e (rule_line words) refl h

    stays : mid ≡ kept line old → (is_too_long line ≡ true) ⊎ ((words : List (List ℕ)) → words_of line ≡ Some words → MovesNone old.rules words) → (given : List ℕ) × IsLineStill given old mid
    stays after why = (line, (ap (λ (r : Read). r.text) after, StaysStill (ap (λ (r : Read). r.rules) after) why, sym (ap (λ (r : Read). r.moved) after) ∙ unmoved))

    by_words : (w : Option (List (List ℕ))) → words_of line ≡ w → AreWordsRead table line w old mid → (given : List ℕ) × IsLineStill given old mid
    by_words None e after = stays after (inr (λ words found. absurd (cc)))
    by_words (Some words) e h = by_commit words e (is_commit line words) (subst (λ (s : Section). IsReadAt s table line words old mid) section h)

    at_length : (b : Bool) → is_too_long line ≡ b → MatchBool b (mid ≡ kept line old) (AreWordsRead table line (words_of line) old mid) → (given : List ℕ) × IsLineStill given old mid
    at_length true long after = stays after (inl long)
    at_length false short h = by_words (words_of line) refl h

abbrev text_of : List (List ℕ) → List ℕ
text_of texts = flat_map (λ (line : List ℕ). line ++ 10 ∷ []) texts

still_lines : (table : Table) (lines : List (List ℕ)) (old new : Read) → GivesOneLine table → old.section ≡ Filter → AreRead table lines old new → new.moved ≡ None
    → (old.moved ≡ None) × ((texts : List (List ℕ)) × (new.text ≡ old.text ++ text_of texts) × AreStill old.rules new.rules texts)
still_lines table [] old new gives section same unmoved =
    (sym (ap (λ (r : Read). r.moved) same) ∙ unmoved, ([], ap (λ (r : Read). r.text) same ∙ sym (append-nil old.text), ap (λ (r : Read). r.rules) same))
still_lines table (line ∷ lines) old new gives section (mid, read, inside, rest) unmoved =
    let (mid_unmoved, (texts, text, still)) = still_lines table lines mid new gives inside rest unmoved in
    let (given, (own_text, own, old_unmoved)) = still_line table line old mid gives section read inside mid_unmoved in (
      old_unmoved,
      (given ∷ texts, text ∙ ap (λ (t : List ℕ). t ++ text_of texts) own_text ∙ append_assoc old.text (given ++ 10 ∷ []) (text_of texts), (mid.rules, own, still)),
    )

-- what was read where a rule needs something

abbrev IsUnmoved : Read → Type 0
IsUnmoved read = list_any needs_some read.rules ≡ true → read.moved ≡ None

unmoved_line : (table : Table) (line : List ℕ) (old mid : Read) → IsUnmoved old → old.section ≡ Filter → IsLineRead table line old mid → IsUnmoved mid
unmoved_line table line old mid before section read needs = at_length (is_too_long line) read
  where
    -- rules and what was noted are as before
    same : (after : Read) → after.rules ≡ old.rules → after.moved ≡ old.moved → mid ≡ after → mid.moved ≡ None
    same after rules moved is =
        ap (λ (r : Read). r.moved) is ∙ moved ∙ before (sym (ap (list_any needs_some) (ap (λ (r : Read). r.rules) is ∙ rules)) ∙ needs)

    refused : (word : Option (List ℕ)) → list_any needs_some old.rules ≡ true → refused_move old.rules word ≡ None → word ≡ None
    refused None some e = refl
    refused (Some word) some e = absurd (let h : refused_move old.rules (Some word) ≡ Some (RulesMoved, word) = ap (λ b. cond b (Some (RulesMoved, word)) None) some in cc)

    by_rule : (words : List (List ℕ)) (r : Option RuleLine) → IsFilterRead table line words r old mid → mid.moved ≡ None
    by_rule words None h =
        let some : list_any needs_some old.rules ≡ true = sym (ap (λ (r : Read). list_any needs_some r.rules) h.after) ∙ needs in
        let still = refused (moving old.rules (other_line words)) some (none_of (refused_name table (named (other_line words))) (refused_move old.rules (moving old.rules (other_line words))) h.allowed).1 in
        ap (λ (r : Read). r.moved) h.after ∙ ap (option_or old.moved) still ∙ ap (λ o. option_or o None) (before some)
    by_rule words (Some rule) h = ap (λ (r : Read). r.moved) h.taken.after ∙ h.still needs

    by_commit : (words : List (List ℕ)) (b : Bool) → MatchBool b (mid ≡ kept line (closed old)) (IsFilterRead table line words (rule_line words) old mid) → mid.moved ≡ None
    by_commit words true after = same (kept line (closed old)) refl refl after
    by_commit words false h = by_rule words (rule_line words) h

    by_words : (w : Option (List (List ℕ))) → AreWordsRead table line w old mid → mid.moved ≡ None
    by_words None after = same (kept line old) refl refl after
    by_words (Some words) h = by_commit words (is_commit line words) (subst (λ (s : Section). IsReadAt s table line words old mid) section h)

    at_length : (b : Bool) → MatchBool b (mid ≡ kept line old) (AreWordsRead table line (words_of line) old mid) → mid.moved ≡ None
    at_length true after = same (kept line old) refl refl after
    at_length false h = by_words (words_of line) h

unmoved_lines : (table : Table) (lines : List (List ℕ)) (old new : Read) → IsUnmoved old → old.section ≡ Filter → AreRead table lines old new → IsUnmoved new
unmoved_lines table [] old new before section same = subst IsUnmoved (sym same) before
unmoved_lines table (line ∷ lines) old new before section (mid, read, inside, rest) =
    unmoved_lines table lines mid new (unmoved_line table line old mid before section read) inside rest

pub needed_rules_stand_still : NeededRulesStandStill
needed_rules_stand_still table lines old new gives opened read needs =
    let start : IsUnmoved old = λ some. opened.moved in
    let (before, (texts, text, still)) = still_lines table lines old new gives opened.section read (unmoved_lines table lines old new start opened.section read needs) in
    (texts, text, subst (λ (rules : List ReadRule). AreStill rules new.rules texts) opened.rules still)
