-- The rules of a dump beside its lines, one line after another.
use Rattle.std.proofs.Common.{◌≡◌, ◌⊎◌, inl, inr, ℕ, ◌+◌, ◌||◌, Bool, true, false, cond, List, [], ◌∷◌, ◌++◌, length, filter, refl, sym, ap, subst, ◌∙◌, arith, Option, Some, None, Result, Ok, Err, append-nil, codes}
use Rattle.std.specs.List.{list_any, filter_map, cons_option}
use Rattle.std.specs.Option.{option_and_then}
use Rattle.std.specs.Str.{bytes_eq}
use Rattle.std.proofs.lemmas.List.{length-append}
use Rattle.fields.specs.text.Words.{words_of}
use Rattle.rules.specs.reading.Steps.{rule_of}
use Rattle.rules.specs.rule.Rules.{Rule}
use Rattle.table.specs.chains.Table.{Table, rules_of}
use Rattle.table.specs.edits.Edits.{Append}
use Rattle.restore.specs.Sequence.{◌>>=◌}
use Rattle.restore.specs.declared.fault.RestoreFault.{RestoreFault}
use Rattle.restore.specs.sections.Section.{Asked, Section, asked, begun, done, edited_by, line_in, lines_in, with_name}
use Rattle.dumps.specs.Beside.{AreStill, IsStill, Keeps, MovesNone, Puts, chain_in, chain_of}
use Rattle.dumps.specs.Foreign.{ReadRule, is_in}
use Rattle.dumps.specs.Reading.{is_too_long}
use Rattle.dumps.specs.SectionLines.{RuleLine, moving, other_line, rule_line}
use Rattle.rulesets.specs.RulesByLines.{AreBesideNeeds, RulesStandBesideNeeds, if_read, put_by, rule_put}
use Rattle.rulesets.proofs.SectionLineLaws.{EmptyIn, IsTaken, Blank, Words, Leaves, left, line_with_rule, line_without_rule, put_last, taken}

-- ---- A line of the text, and what was read for it.

-- the line of a chain, with its words
puts_line : (line chain : List ℕ) → chain_of line ≡ Some chain → (words : List (List ℕ)) × (rule : RuleLine) × (words_of line ≡ Some words) × (rule_line words ≡ Some rule) × (rule.chain ≡ chain)
puts_line line chain is = by_words (words_of line) refl is
  where
    by_rule : (words : List (List ℕ)) (rule : Option RuleLine) → words_of line ≡ Some words → rule_line words ≡ rule → chain_in rule ≡ Some chain
        → (words : List (List ℕ)) × (rule : RuleLine) × (words_of line ≡ Some words) × (rule_line words ≡ Some rule) × (rule.chain ≡ chain)
    by_rule words None e r h = absurd (cc)
    by_rule words (Some rule) e r h = (words, rule, e, r, cc)

    by_words : (found : Option (List (List ℕ))) → words_of line ≡ found → option_and_then (λ words. chain_in (rule_line words)) found ≡ Some chain
        → (words : List (List ℕ)) × (rule : RuleLine) × (words_of line ≡ Some words) × (rule_line words ≡ Some rule) × (rule.chain ≡ chain)
    by_words None e h = absurd (cc)
    by_words (Some words) e h = by_rule words (rule_line words) e refl h

-- what a line asked, and the table after it
asked_in : (s after : Section) (line : List ℕ) → line_in s line ≡ Ok after → (a : Asked) × (asked s line ≡ Ok a) × (edited_by a.edit s.table ≡ Ok after.table)
asked_in s after line is = by_asked (asked s line) refl is
  where
    by_table : (a : Asked) → asked s line ≡ Ok a → (r : Result Table RestoreFault) → edited_by a.edit s.table ≡ r
        → (r >>= λ (t : Table). Ok (record { table = t; named = with_name a.name s.named })) ≡ Ok after
        → (a : Asked) × (asked s line ≡ Ok a) × (edited_by a.edit s.table ≡ Ok after.table)
    by_table a asks (Ok t) e h =
        let same : record { table = t; named = with_name a.name s.named } ≡ after = cc in
        (a, asks, e ∙ ap (λ (x : Section). Ok x.table) same)
    by_table a asks (Err f) e h = absurd (cc)

    by_asked : (r : Result Asked RestoreFault) → asked s line ≡ r → done s r ≡ Ok after → (a : Asked) × (asked s line ≡ Ok a) × (edited_by a.edit s.table ≡ Ok after.table)
    by_asked (Ok a) e h = by_table a e (edited_by a.edit s.table) refl h
    by_asked (Err f) e h = absurd (cc)

-- ---- How many rules a chain has.

-- each chain has as many rules as were read for it
abbrev AreAsMany : Table → List ReadRule → Type 0
AreAsMany t rules = (name : List ℕ) → length (rules_of t.chains name) ≡ length (filter (is_in name) rules)

counted_more : (name : List ℕ) (old : List ReadRule) (rule : ReadRule) → length (filter (is_in name) (old ++ rule ∷ [])) ≡ length (filter (is_in name) old) + cond (is_in name rule) 1 0
counted_more name [] rule = go (is_in name rule)
  where
    go : (b : Bool) → length (cond b (rule ∷ []) []) ≡ 0 + cond b 1 0
    go true = refl
    go false = refl
counted_more name (first ∷ old) rule = go (counted_more name old rule) (is_in name first)
  where
    go : length (filter (is_in name) (old ++ rule ∷ [])) ≡ length (filter (is_in name) old) + cond (is_in name rule) 1 0
        → (b : Bool) → length (cond b (first ∷ filter (is_in name) (old ++ rule ∷ [])) (filter (is_in name) (old ++ rule ∷ [])))
        ≡ length (cond b (first ∷ filter (is_in name) old) (filter (is_in name) old)) + cond (is_in name rule) 1 0
    go rest true = omega (arith, rest)
    go rest false = rest

none_in : (name : List ℕ) (rules : List ReadRule) → list_any (is_in name) rules ≡ false → length (filter (is_in name) rules) ≡ 0
none_in name [] none = refl
none_in name (rule ∷ rules) none = go (none_in name rules) (is_in name rule) refl none
  where
    go : (list_any (is_in name) rules ≡ false → length (filter (is_in name) rules) ≡ 0)
        → (b : Bool) → is_in name rule ≡ b → (b || list_any (is_in name) rules) ≡ false → length (cond (is_in name rule) (rule ∷ filter (is_in name) rules) (filter (is_in name) rules)) ≡ 0
    go rest true e h = absurd (cc)
    go rest false e h = ap (λ b. length (cond b (rule ∷ filter (is_in name) rules) (filter (is_in name) rules))) e ∙ rest h

no_rules : (rules : List Rule) → length rules ≡ 0 → rules ≡ []
no_rules [] e = refl
no_rules (r ∷ rules) e = absurd (omega (arith, e))

-- one more, if there is one
more_long : (rules : List Rule) (r : Rule) (b : Bool) → length (rules ++ cons_option (cond b (Some r) None) []) ≡ length rules + cond b 1 0
more_long rules r true = length-append rules (r ∷ [])
more_long rules r false = length-append rules []

-- ---- One line after another.

-- after a line: its rule, if it puts one there, is the last of its chain, and each chain has as many as were read
abbrev IsStep : Section → Section → List ReadRule → List ℕ → List ℕ → Type 0
IsStep s after mid line name =
    ((rest : List Rule) → rules_of after.table.chains name ++ rest ≡ rules_of s.table.chains name ++ cons_option (put_by name line) rest)
    × (length (rules_of after.table.chains name) ≡ length (filter (is_in name) mid))

put_step : (s after : Section) (old : List ReadRule) (line : List ℕ) (one : ReadRule) → AreAsMany s.table old → chain_of line ≡ Some one.chain → line_in s line ≡ Ok after
    → (name : List ℕ) → IsStep s after (old ++ one ∷ []) line name
put_step s after old line one many puts is name =
    let (words, rule, found, own, same) = puts_line line one.chain puts in
    let (a, asks, edited) = asked_in s after line is in
    let (r, read, edit) = line_with_rule s line words rule a asks found own in
    let put : edited_by (Some (Append rule.chain r)) s.table ≡ Ok after.table = sym (ap (λ o. edited_by o s.table) edit) ∙ edited in
    let by : put_by name line ≡ cond (bytes_eq rule.chain name) (Some r) None =
    ap (option_and_then (λ ws. rule_put name (length ws) (rule_line ws))) found ∙ ap (rule_put name (length words)) own ∙ ap (λ q. cond (bytes_eq rule.chain name) (if_read q) None) read in
    let each : (rest : List Rule) → rules_of after.table.chains name ++ rest ≡ rules_of s.table.chains name ++ cons_option (cond (bytes_eq rule.chain name) (Some r) None) rest =
    λ rest. put_last rule.chain name r s.table after.table put rest in
    let long : length (rules_of after.table.chains name) ≡ length (rules_of s.table.chains name) + cond (bytes_eq rule.chain name) 1 0 =
    ap (λ (rs : List Rule). length rs) (sym (append-nil (rules_of after.table.chains name)) ∙ each []) ∙ more_long (rules_of s.table.chains name) r (bytes_eq rule.chain name) in (
      λ rest. each rest ∙ ap (λ o. rules_of s.table.chains name ++ cons_option o rest) (sym by),
      long
          ∙ ap (λ (c : List ℕ). length (rules_of s.table.chains name) + cond (bytes_eq c name) 1 0) same
          ∙ ap (λ n. n + cond (bytes_eq one.chain name) 1 0) (many name)
          ∙ sym (counted_more name old one),
    )

keep_step : (s after : Section) (old : List ReadRule) (line : List ℕ) → AreAsMany s.table old
    → ((words : List (List ℕ)) → words_of line ≡ Some words → MovesNone old words) → line_in s line ≡ Ok after
    → (name : List ℕ) → IsStep s after old line name
keep_step s after old line many still is name =
    let (a, asks, edited) = asked_in s after line is in
    let leaves = line_without_rule old s line a asks (λ words e. (still words e).1) in
    let same : rules_of after.table.chains name ≡ rules_of s.table.chains name =
    left (EmptyIn old) a.edit s.table after.table leaves (λ chain none. no_rules (rules_of s.table.chains chain) (many chain ∙ none_in chain old none)) edited name in
    let none : put_by name line ≡ None = by_words (words_of line) refl in (
      λ rest. ap (λ (rs : List Rule). rs ++ rest) same ∙ ap (λ o. rules_of s.table.chains name ++ cons_option o rest) (sym none),
      ap (λ (rs : List Rule). length rs) same ∙ many name,
    )
  where
    by_words : (found : Option (List (List ℕ))) → words_of line ≡ found → option_and_then (λ words. rule_put name (length words) (rule_line words)) found ≡ None
    by_words None e = refl
    by_words (Some words) e = ap (rule_put name (length words)) (still words e).0

line_step : (s after : Section) (old mid : List ReadRule) (line : List ℕ) → AreAsMany s.table old → IsStill old mid line → line_in s line ≡ Ok after
    → (name : List ℕ) → IsStep s after mid line name
line_step s after old mid line many (Puts one puts same) is name =
    subst (λ (rules : List ReadRule). IsStep s after rules line name) (sym same) (put_step s after old line one many puts is name)
line_step s after old mid line many (Keeps same (inr still)) is name =
    subst (λ (rules : List ReadRule). IsStep s after rules line name) (sym same) (keep_step s after old line many still is name)
line_step s after old mid line many (Keeps same (inl long)) is name = absurd (go (taken s line (asked_in s after line is).0 (asked_in s after line is).1))
  where
    go : IsTaken s line (asked_in s after line is).0 → ⊥
    go (Blank short quiet e) = absurd (cc)
    go (Words short words found asks) = absurd (cc)

-- the same after lines
abbrev AreSteps : Section → Section → List ReadRule → List (List ℕ) → List ℕ → Type 0
AreSteps s after new lines name =
    (rules_of after.table.chains name ≡ rules_of s.table.chains name ++ filter_map (put_by name) lines) × (length (rules_of after.table.chains name) ≡ length (filter (is_in name) new))

lines_step : (lines : List (List ℕ)) (s after : Section) (old new : List ReadRule) → AreAsMany s.table old → AreStill old new lines → lines_in s lines ≡ Ok after
    → (name : List ℕ) → (rules_of after.table.chains name ≡ rules_of s.table.chains name ++ filter_map (put_by name) lines) × (length (rules_of after.table.chains name) ≡ length (filter (is_in name) new))
lines_step [] s after old new many same is name =
    let end : after ≡ s = cc in (
      ap (λ (x : Section). rules_of x.table.chains name) end ∙ sym (append-nil (rules_of s.table.chains name)),
      ap (λ (x : Section). length (rules_of x.table.chains name)) end ∙ many name ∙ ap (λ (rules : List ReadRule). length (filter (is_in name) rules)) (sym same),
    )
lines_step (line ∷ lines) s after old new many (mid, still, rest) is name =
    go (λ next many_next h. lines_step lines next after mid new many_next rest h name) (line_in s line) refl is
  where
    go : ((next : Section) → AreAsMany next.table mid → lines_in next lines ≡ Ok after → AreSteps next after new lines name)
        → (r : Result Section RestoreFault) → line_in s line ≡ r → (r >>= λ next. lines_in next lines) ≡ Ok after
        → (rules_of after.table.chains name ≡ rules_of s.table.chains name ++ filter_map (put_by name) (line ∷ lines)) × (length (rules_of after.table.chains name) ≡ length (filter (is_in name) new))
    go further (Ok next) e h =
        let came = further next (λ n. (line_step s next old mid line many still e n).1) h in
        (came.0 ∙ (line_step s next old mid line many still e name).0 (filter_map (put_by name) lines), came.1)
    go further (Err f) e h = absurd (cc)

-- ---- The law.

-- a section begins without rules
begun_empty : (t : Table) (name : List ℕ) → rules_of (begun false t).table.chains name ≡ []
begun_empty t name = any_of (bytes_eq (codes "INPUT") name) (bytes_eq (codes "FORWARD") name) (bytes_eq (codes "OUTPUT") name)
  where
    any_of : (a b c : Bool) → cond {A = List Rule} a [] (cond b [] (cond c [] [])) ≡ []
    any_of true b c = refl
    any_of false true c = refl
    any_of false false true = refl
    any_of false false false = refl

pub rules_stand_beside_needs : RulesStandBesideNeeds
rules_stand_beside_needs t after texts rules still is name =
    let came = lines_step texts (begun false t) after [] rules (λ n. ap (λ (rs : List Rule). length rs) (begun_empty t n)) still is name in
    record { lines = came.0 ∙ ap (λ (rs : List Rule). rs ++ filter_map (put_by name) texts) (begun_empty t name); needs = came.1 }
