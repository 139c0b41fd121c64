-- What a line of a section asks of the table where it moves no rules: to put its rule last in a chain, or nothing that changes a chain's
-- rules.
use Rattle.std.proofs.Common.{◌≡◌, ◌⊎◌, inl, inr, ℕ, ◌==◌, ◌||◌, Bool, true, false, cond, not, List, [], ◌∷◌, ◌++◌, length, map, find, refl, sym, ap, subst, ◌∙◌, arith, eqb-true, Option, Some, None, Result, Ok, Err, codes, append_assoc, drop, take, option_map}
use Rattle.std.specs.List.{list_any, cons_option}
use Rattle.std.specs.Option.{option_and_then}
use Rattle.std.specs.Prelude.{◌&&◌, nat_le}
use Rattle.std.specs.FinSet as set
use Rattle.std.specs.Str.{bytes_eq}
use Rattle.std.proofs.lemmas.Bool.{cases_Bool, false_from_ne_true}
use Rattle.std.proofs.lemmas.Slice.Eq.{bytes_eq-Decides}
use Rattle.fields.specs.text.Cut.{cut_at}
use Rattle.fields.specs.text.Words.{State, Between, Bare, Quoted, Skips, is_blank, joins, acted, in_front, words_from, words_of}
use Rattle.rules.specs.reading.Steps.{rule_of}
use Rattle.rules.specs.rule.Rules.{Rule}
use Rattle.rules.specs.declared.reading.fault.Refusal.{Refusal}
use Rattle.table.specs.chains.Table.{Chain, Table, has_chain, is_built_in, is_named, rules_of, empty_chain, user_chains}
use Rattle.table.specs.edits.Edits.{Edit, Append, Flush, NewChain, SetPolicy, Cause, changed_chain, edited, fault_of, first_fault, step, bad_name, exists_already, no_such_chain, causes, rule_causes, full}
use Rattle.table.specs.declared.fault.TableFault.{TableFault}
use Rattle.table.specs.declared.fault.TableFault.TheVariants.{TooManyChains}
use Rattle.table.proofs.laws.chains.PlaceLaws.{placed_own, placed_other}
use Rattle.restore.specs.Sequence.{◌>>=◌, refused_as, made_into, or_refused}
use Rattle.restore.specs.declared.fault.CommandFault.{CommandFault}
use Rattle.restore.specs.declared.fault.RestoreFault.{RestoreFault}
use Rattle.restore.specs.declared.fault.RestoreFault.TheVariants.{Command, Table as OfTable, BadChainLine, DuplicateChainLine, LineTooLong, NotAllowed, Quoting}
use Rattle.restore.specs.commands.CommandForms.{edit_of, or_second, refused}
use Rattle.restore.specs.sections.Section.{Asked, Section, asked, asked_by, asked_of_chain, asked_of_command, asks_nothing, by_chain_line, by_command, chain_edit, chain_line, checked_policy, edited_by, in_brackets, inside, are_both_digits, is_comment_at, is_counters, is_none_word, is_quiet, is_too_long, policy_word, without_counters}
use Rattle.dumps.specs.Foreign.{ReadRule, is_in}
use Rattle.dumps.specs.Parts.{first_of}
use Rattle.dumps.specs.SectionLines.{OtherLine, Quiet, ChainLine, Moves, Renames, RuleLine, any_command_line, begins_with, behind_table, command_line, counted_line, is_either, line_of_first, moving, other_line, rule_after, rule_line}
use Rattle.dumps.specs.SectionLines as lines

-- ---- Edits that are accepted, and the rules of a chain after them.

clear : (cause : Cause) (others : List Cause) → first_fault (cause ∷ others) ≡ None → (cause.0 ≡ false) × (first_fault others ≡ None)
clear cause others is = go cause.0 refl is
  where
    go : (b : Bool) → cause.0 ≡ b → cond b (Some cause.1) (first_fault others) ≡ None → (cause.0 ≡ false) × (first_fault others ≡ None)
    go true holds e = absurd (cc)
    go false fails e = (fails, e)

accepted : (edit : Edit) (t after : Table) → edited_by (Some edit) t ≡ Ok after → (fault_of edit t ≡ None) × (after ≡ edited edit t)
accepted edit t after is = go (fault_of edit t) refl is
  where
    go : (fault : Option TableFault) → fault_of edit t ≡ fault → refused_as OfTable (elim fault [ None ↦ Ok (edited edit t) | Some f ↦ Err f ]) ≡ Ok after
        → (fault_of edit t ≡ None) × (after ≡ edited edit t)
    go None none e = (none, cc)
    go (Some f) some e = absurd (cc)

is_there : (b : Bool) → not b ≡ false → b ≡ true
is_there true e = refl
is_there false e = absurd (cc)

-- the rules of a chain that is changed, and those of another
rules_changed : (f : List Rule → List Rule) (name : List ℕ) (cs : List Chain) → list_any (is_named name) cs ≡ true → rules_of (map (changed_chain f name) cs) name ≡ f (rules_of cs name)
rules_changed f name [] has = absurd (cc)
rules_changed f name (c ∷ cs) has = go (rules_changed f name cs) (is_named name c) refl
  where
    go : (list_any (is_named name) cs ≡ true → rules_of (map (changed_chain f name) cs) name ≡ f (rules_of cs name))
        → (b : Bool) → is_named name c ≡ b → rules_of (map (changed_chain f name) (c ∷ cs)) name ≡ f (rules_of (c ∷ cs) name)
    go rest true here =
        ap (λ (d : Chain). cond (is_named name d) d.rules (rules_of (map (changed_chain f name) cs) name)) (ap (λ b. cond b (record { name = c.name; rules = f c.rules }) c) here)
        ∙ ap (λ b. cond b (f c.rules) (rules_of (map (changed_chain f name) cs) name)) here
        ∙ ap (λ b. f (cond b c.rules (rules_of cs name))) (sym here)
    go rest false other =
        ap (λ (d : Chain). cond (is_named name d) d.rules (rules_of (map (changed_chain f name) cs) name)) (ap (λ b. cond b (record { name = c.name; rules = f c.rules }) c) other)
        ∙ ap (λ b. cond b c.rules (rules_of (map (changed_chain f name) cs) name)) other
        ∙ rest (sym (ap (λ b. b || list_any (is_named name) cs) other) ∙ has)
        ∙ ap (λ b. f (cond b c.rules (rules_of cs name))) (sym other)

rules_other : (f : List Rule → List Rule) (name other : List ℕ) (cs : List Chain) → (name ≡ other → ⊥) → rules_of (map (changed_chain f name) cs) other ≡ rules_of cs other
rules_other f name other [] apart = refl
rules_other f name other (c ∷ cs) apart = go (rules_other f name other cs apart) (is_named name c) refl
  where
    go : rules_of (map (changed_chain f name) cs) other ≡ rules_of cs other → (b : Bool) → is_named name c ≡ b → rules_of (map (changed_chain f name) (c ∷ cs)) other ≡ rules_of (c ∷ cs) other
    go rest true here =
        let unlike = false_from_ne_true (is_named other c) (λ e. apart (sym ((bytes_eq-Decides c.name name).0 here) ∙ (bytes_eq-Decides c.name other).0 e)) in
        ap (λ (d : Chain). cond (is_named other d) d.rules (rules_of (map (changed_chain f name) cs) other)) (ap (λ b. cond b (record { name = c.name; rules = f c.rules }) c) here)
        ∙ ap (λ b. cond b (f c.rules) (rules_of (map (changed_chain f name) cs) other)) unlike
        ∙ rest
        ∙ ap (λ b. cond b c.rules (rules_of cs other)) (sym unlike)
    go rest false un =
        ap (λ (d : Chain). cond (is_named other d) d.rules (rules_of (map (changed_chain f name) cs) other)) (ap (λ b. cond b (record { name = c.name; rules = f c.rules }) c) un)
        ∙ ap (cond (is_named other c) c.rules) rest

-- no chain, no rules
none_there : (name : List ℕ) (cs : List Chain) → list_any (is_named name) cs ≡ false → rules_of cs name ≡ []
none_there name [] none = refl
none_there name (c ∷ cs) none = go (none_there name cs) (is_named name c) refl none
  where
    go : (list_any (is_named name) cs ≡ false → rules_of cs name ≡ []) → (b : Bool) → is_named name c ≡ b → (b || list_any (is_named name) cs) ≡ false → rules_of (c ∷ cs) name ≡ []
    go rest true here e = absurd (cc)
    go rest false un e = ap (λ b. cond b c.rules (rules_of cs name)) un ∙ rest e

-- a rule is put last in a chain
pub put_last : (c name : List ℕ) (r : Rule) (t after : Table) → edited_by (Some (Append c r)) t ≡ Ok after
    → (rest : List Rule) → rules_of after.chains name ++ rest ≡ rules_of t.chains name ++ cons_option (cond (bytes_eq c name) (Some r) None) rest
put_last c name r t after is rest = go (bytes_eq c name) refl
  where
    f : List Rule → List Rule
    f rules = rules ++ r ∷ []

    done : (fault_of (Append c r) t ≡ None) × (after ≡ edited (Append c r) t)
    done = accepted (Append c r) t after is

    there : has_chain t c ≡ true
    there = is_there (has_chain t c) (clear (no_such_chain t c) (rule_causes t c r ++ full t c ∷ []) done.0).0

    go : (b : Bool) → bytes_eq c name ≡ b → rules_of after.chains name ++ rest ≡ rules_of t.chains name ++ cons_option (cond b (Some r) None) rest
    go true own =
        let same : c ≡ name = (bytes_eq-Decides c name).0 own in
        ap (λ (u : Table). rules_of u.chains name ++ rest) done.1
        ∙ subst (λ (n : List ℕ). rules_of (map (changed_chain f c) t.chains) n ++ rest ≡ rules_of t.chains n ++ r ∷ rest) same
        (ap (λ (rs : List Rule). rs ++ rest) (rules_changed f c t.chains there) ∙ append_assoc (rules_of t.chains c) (r ∷ []) rest)
    go false other =
        let apart : c ≡ name → ⊥ = λ e. absurd (let h : bytes_eq c name ≡ true = (bytes_eq-Decides c name).1 e in cc) in
        ap (λ (u : Table). rules_of u.chains name ++ rest) done.1 ∙ ap (λ (rs : List Rule). rs ++ rest) (rules_other f c name t.chains apart)

-- what is asked leaves each chain's rules as they are: nothing, a policy, a new chain, or that a chain without rules has none
pub data Leaves (Empty : List ℕ → Type 0) : Option Edit → Type 0 where
  Nothing : Leaves Empty None
  Policy : (name text : List ℕ) → Leaves Empty (Some (SetPolicy name text))
  New : (name : List ℕ) → Leaves Empty (Some (NewChain name))
  Empties : (name : List ℕ) → Empty name → Leaves Empty (Some (Flush name))

pub left : (Empty : List ℕ → Type 0) (edit : Option Edit) (t after : Table) → Leaves Empty edit → ((name : List ℕ) → Empty name → rules_of t.chains name ≡ [])
    → edited_by edit t ≡ Ok after → (name : List ℕ) → rules_of after.chains name ≡ rules_of t.chains name
left Empty None t after Nothing empty is name = ap (λ (u : Table). rules_of u.chains name) (let same : after ≡ t = cc in same)
left Empty (Some edit) t after (Policy chain text) empty is name = ap (λ (u : Table). rules_of u.chains name) (accepted (SetPolicy chain text) t after is).1
left Empty (Some edit) t after (New chain) empty is name = go (is_named name (empty_chain chain)) refl
  where
    many : Cause
    many = (nat_le 1024 (length (user_chains t.chains)), TooManyChains)

    done : (fault_of (NewChain chain) t ≡ None) × (after ≡ edited (NewChain chain) t)
    done = accepted (NewChain chain) t after is

    free : has_chain t chain ≡ false
    free = (clear (exists_already t chain) (many ∷ []) (clear (bad_name chain) (exists_already t chain ∷ many ∷ []) done.0).1).0

    go : (b : Bool) → is_named name (empty_chain chain) ≡ b → rules_of after.chains name ≡ rules_of t.chains name
    go true own =
        let same : chain ≡ name = (bytes_eq-Decides chain name).0 own in
        ap (λ (u : Table). rules_of u.chains name) done.1
        ∙ subst (λ (n : List ℕ). rules_of (edited (NewChain chain) t).chains n ≡ rules_of t.chains n) same
        (placed_own (empty_chain chain) t.chains free ∙ sym (none_there chain t.chains free))
    go false other = ap (λ (u : Table). rules_of u.chains name) done.1 ∙ placed_other (empty_chain chain) t.chains name other
left Empty (Some edit) t after (Empties chain none) empty is name = go (bytes_eq chain name) refl
  where
    f : List Rule → List Rule
    f rules = []

    done : (fault_of (Flush chain) t ≡ None) × (after ≡ edited (Flush chain) t)
    done = accepted (Flush chain) t after is

    there : has_chain t chain ≡ true
    there = is_there (has_chain t chain) (clear (no_such_chain t chain) [] done.0).0

    go : (b : Bool) → bytes_eq chain name ≡ b → rules_of after.chains name ≡ rules_of t.chains name
    go true own =
        let same : chain ≡ name = (bytes_eq-Decides chain name).0 own in
        ap (λ (u : Table). rules_of u.chains name) done.1
        ∙ subst (λ (n : List ℕ). rules_of (map (changed_chain f chain) t.chains) n ≡ rules_of t.chains n) same (rules_changed f chain t.chains there ∙ sym (empty chain none))
    go false other =
        let apart : chain ≡ name → ⊥ = λ e. absurd (let h : bytes_eq chain name ≡ true = (bytes_eq-Decides chain name).1 e in cc) in
        ap (λ (u : Table). rules_of u.chains name) done.1 ∙ rules_other f chain name t.chains apart

-- ---- The words of blank lines and comments.

-- the first word, if there is one, begins with `#`
abbrev pub IsComment : List (List ℕ) → Type 0
IsComment [] = Unit {0}
IsComment (word ∷ words) = begins_with 35 word ≡ true

front_comment : (further : Option (List (List ℕ))) (words : List (List ℕ)) → option_map (in_front 35) further ≡ Some words → IsComment words
front_comment None words e = absurd (cc)
front_comment (Some []) words e = subst IsComment (let same : [] ≡ words = cc in same) tt
front_comment (Some (word ∷ others)) words e = subst IsComment (let same : (35 ∷ word) ∷ others ≡ words = cc in same) refl

pub quiet_words : (line : List ℕ) (words : List (List ℕ)) → is_quiet line ≡ true → words_from Between line ≡ Some words → IsComment words
quiet_words [] words quiet e = subst IsComment (let same : [] ≡ words = cc in same) tt
quiet_words (byte ∷ line) words quiet e = go (quiet_words line words) (is_blank byte) refl
  where
    go : (is_quiet line ≡ true → words_from Between line ≡ Some words → IsComment words) → (b : Bool) → is_blank byte ≡ b → IsComment words
    go rest true blank =
        rest (sym (ap (λ b. is_comment_at (cond (not b) (Some byte) (find (λ (c : ℕ). not (is_blank c)) line))) blank) ∙ quiet)
        (sym (ap (λ b. acted (cond b (Skips Between) (cond (byte == 34) (Skips Quoted) (joins Bare byte))) byte (λ next. words_from next line)) blank) ∙ e)
    go rest false shown =
        let hash : (byte == 35) ≡ true = sym (ap (λ b. is_comment_at (cond (not b) (Some byte) (find (λ (c : ℕ). not (is_blank c)) line))) shown) ∙ quiet in
        let same : byte ≡ 35 = eqb-true byte 35 hash in
        front_comment (words_from Bare line) words (subst (λ (n : ℕ). words_from Between (n ∷ line) ≡ Some words) same e)

-- such words put no rule into a chain
pub comment_puts_none : (words : List (List ℕ)) → IsComment words → rule_line words ≡ None
comment_puts_none [] comment = refl
comment_puts_none ([] ∷ words) comment = absurd (cc)
comment_puts_none ((byte ∷ word) ∷ words) comment =
    subst (λ (n : ℕ). rule_line ((n ∷ word) ∷ words) ≡ None) (let same : byte ≡ 35 = eqb-true byte 35 comment in sym same) (none words)
  where
    none : (others : List (List ℕ)) → rule_line ((35 ∷ word) ∷ others) ≡ None
    none [] = refl
    none (chain ∷ others) = refl

-- ---- What the words of a command ask.

either : (short long word : List ℕ) → is_either short long word ≡ true → (short ≡ word) ⊎ (long ≡ word)
either short long word is = go (bytes_eq word short) refl is
  where
    go : (b : Bool) → bytes_eq word short ≡ b → (b || bytes_eq word long) ≡ true → (short ≡ word) ⊎ (long ≡ word)
    go true e h = inl (sym ((bytes_eq-Decides word short).0 e))
    go false e h = inr (sym ((bytes_eq-Decides word long).0 h))

abbrev AsksRule : ℕ → List ℕ → List (List ℕ) → Edit → Type 0
AsksRule end chain words edit = (r : Rule) × (rule_of end words ≡ Ok r) × (edit ≡ Append chain r)

-- `-A`
append_asks : (end : ℕ) (word chain : List ℕ) (words : List (List ℕ)) (edit : Edit) → is_either (codes "-A") (codes "--append") word ≡ true
    → edit_of end (word ∷ chain ∷ words) ≡ Ok edit → AsksRule end chain words edit
unfolding edit_of
append_asks end word chain words edit named is = elim (either (codes "-A") (codes "--append") word named) [
  | inl same ↦ go (codes "-A") (rule_of end words) refl (subst (λ w. edit_of end (w ∷ chain ∷ words) ≡ Ok edit) (sym same) is)
  | inr same ↦ go (codes "--append") (rule_of end words) refl (subst (λ w. edit_of end (w ∷ chain ∷ words) ≡ Ok edit) (sym same) is)
]
  where
    go : (w : List ℕ) (read : Result Rule Refusal) → rule_of end words ≡ read
        → refused_as (or_second end (w ∷ chain ∷ words)) (refused_as refused read >>= λ r. Ok (Append chain r)) ≡ Ok edit → AsksRule end chain words edit
    go w (Ok r) is e = (r, is, cc)
    go w (Err f) is e = absurd (cc)

abbrev pub EmptyIn : List ReadRule → List ℕ → Type 0
EmptyIn old name = list_any (is_in name) old ≡ false

-- `-N`
new_asks : (old : List ReadRule) (end : ℕ) (words : List (List ℕ)) (edit : Edit) → edit_of end (codes "-N" ∷ words) ≡ Ok edit → Leaves (EmptyIn old) (Some edit)
unfolding edit_of
new_asks old end [] edit is = absurd (cc)
new_asks old end (name ∷ []) edit is = subst (λ e. Leaves (EmptyIn old) (Some e)) (let same : NewChain name ≡ edit = cc in same) (New name)
new_asks old end (name ∷ more ∷ words) edit is = absurd (cc)

new_chain_asks : (old : List ReadRule) (end : ℕ) (words : List (List ℕ)) (edit : Edit) → edit_of end (codes "--new-chain" ∷ words) ≡ Ok edit → Leaves (EmptyIn old) (Some edit)
unfolding edit_of
new_chain_asks old end [] edit is = absurd (cc)
new_chain_asks old end (name ∷ []) edit is = subst (λ e. Leaves (EmptyIn old) (Some e)) (let same : NewChain name ≡ edit = cc in same) (New name)
new_chain_asks old end (name ∷ more ∷ words) edit is = absurd (cc)

-- `-P`
policy_asks : (old : List ReadRule) (end : ℕ) (words : List (List ℕ)) (edit : Edit) → edit_of end (codes "-P" ∷ words) ≡ Ok edit → Leaves (EmptyIn old) (Some edit)
unfolding edit_of
policy_asks old end [] edit is = absurd (cc)
policy_asks old end (name ∷ []) edit is = absurd (cc)
policy_asks old end (name ∷ text ∷ []) edit is = subst (λ e. Leaves (EmptyIn old) (Some e)) (let same : SetPolicy name text ≡ edit = cc in same) (Policy name text)
policy_asks old end (name ∷ text ∷ more ∷ words) edit is = absurd (cc)

long_policy_asks : (old : List ReadRule) (end : ℕ) (words : List (List ℕ)) (edit : Edit) → edit_of end (codes "--policy" ∷ words) ≡ Ok edit → Leaves (EmptyIn old) (Some edit)
unfolding edit_of
long_policy_asks old end [] edit is = absurd (cc)
long_policy_asks old end (name ∷ []) edit is = absurd (cc)
long_policy_asks old end (name ∷ text ∷ []) edit is = subst (λ e. Leaves (EmptyIn old) (Some e)) (let same : SetPolicy name text ≡ edit = cc in same) (Policy name text)
long_policy_asks old end (name ∷ text ∷ more ∷ words) edit is = absurd (cc)

behind_moves : (old : List ReadRule) (option : List ℕ) (line : OtherLine) → moving old (behind_table option line) ≡ None → ⊥
behind_moves old option Quiet e = absurd (cc)
behind_moves old option (lines.NewChain name) e = absurd (cc)
behind_moves old option (ChainLine name) e = absurd (cc)
behind_moves old option (Renames name command) e = absurd (cc)
behind_moves old option (Moves command) e = absurd (cc)

-- a command that moves no rules
command_asks : (old : List ReadRule) (end : ℕ) (word : List ℕ) (words : List (List ℕ)) (edit : Edit) → edit_of end (word ∷ words) ≡ Ok edit
    → moving old (any_command_line word words) ≡ None → Leaves (EmptyIn old) (Some edit)
command_asks old end word words edit is still = by_table (is_either (codes "-t") (codes "--table") word) still
  where
    by_rest : (b : Bool) → moving old (cond b (Renames (first_of (drop 1 words)) word) (Moves word)) ≡ None → Leaves (EmptyIn old) (Some edit)
    by_rest true e = absurd (cc)
    by_rest false e = absurd (cc)

    by_policy : (b : Bool) → is_either (codes "-P") (codes "--policy") word ≡ b
        → moving old (cond b Quiet (cond (is_either (codes "-E") (codes "--rename-chain") word) (Renames (first_of (drop 1 words)) word) (Moves word))) ≡ None
        → Leaves (EmptyIn old) (Some edit)
    by_policy true named e = elim (either (codes "-P") (codes "--policy") word named) [
      | inl same ↦ policy_asks old end words edit (subst (λ w. edit_of end (w ∷ words) ≡ Ok edit) (sym same) is)
      | inr same ↦ long_policy_asks old end words edit (subst (λ w. edit_of end (w ∷ words) ≡ Ok edit) (sym same) is)
    ]
    by_policy false named e = by_rest (is_either (codes "-E") (codes "--rename-chain") word) e

    by_new : (b : Bool) → is_either (codes "-N") (codes "--new-chain") word ≡ b
        → moving old (cond b (lines.NewChain (first_of words)) (cond (is_either (codes "-P") (codes "--policy") word) Quiet (cond (is_either (codes "-E") (codes "--rename-chain") word) (Renames (first_of (drop 1 words)) word) (Moves word)))) ≡ None
        → Leaves (EmptyIn old) (Some edit)
    by_new true named e = elim (either (codes "-N") (codes "--new-chain") word named) [
      | inl same ↦ new_asks old end words edit (subst (λ w. edit_of end (w ∷ words) ≡ Ok edit) (sym same) is)
      | inr same ↦ new_chain_asks old end words edit (subst (λ w. edit_of end (w ∷ words) ≡ Ok edit) (sym same) is)
    ]
    by_new false named e = by_policy (is_either (codes "-P") (codes "--policy") word) refl e

    by_table : (b : Bool) → moving old (cond b (behind_table word (command_line (first_of (drop 1 words)) (drop 2 words))) (command_line word words)) ≡ None → Leaves (EmptyIn old) (Some edit)
    by_table true e = absurd (behind_moves old word (command_line (first_of (drop 1 words)) (drop 2 words)) e)
    by_table false e = by_new (is_either (codes "-N") (codes "--new-chain") word) refl e

-- ---- What the words of a line ask.

asked_edit : (words : List (List ℕ)) (a : Asked) → asked_of_command words ≡ Ok a → (edit : Edit) × (edit_of (length words) (without_counters words) ≡ Ok edit) × (a.edit ≡ Some edit)
asked_edit words a is = go (edit_of (length words) (without_counters words)) refl is
  where
    go : (read : Result Edit CommandFault) → edit_of (length words) (without_counters words) ≡ read → refused_as Command (made_into by_command read) ≡ Ok a
        → (edit : Edit) × (edit_of (length words) (without_counters words) ≡ Ok edit) × (a.edit ≡ Some edit)
    go (Ok edit) e h = (edit, e, ap (λ (x : Asked). x.edit) (let same : a ≡ by_command edit = cc in same))
    go (Err f) e h = absurd (cc)

-- no command begins with `#` or `[`
hash_is_none : (end : ℕ) (word : List ℕ) (words : List (List ℕ)) (edit : Edit) → edit_of end ((35 ∷ word) ∷ words) ≡ Ok edit → ⊥
unfolding edit_of
hash_is_none end word words edit is = absurd (cc)

bracket_is_none : (end : ℕ) (word : List ℕ) (words : List (List ℕ)) (edit : Edit) → edit_of end ((91 ∷ word) ∷ words) ≡ Ok edit → ⊥
unfolding edit_of
bracket_is_none end word words edit is = absurd (cc)

nothing_is_none : (end : ℕ) (edit : Edit) → edit_of end [] ≡ Ok edit → ⊥
unfolding edit_of
nothing_is_none end edit is = absurd (cc)

-- behind counters
counted : (word : List ℕ) (words : List (List ℕ)) (end : ℕ) (edit : Edit) → edit_of end (without_counters ((91 ∷ word) ∷ words)) ≡ Ok edit → edit_of end words ≡ Ok edit
counted word words end edit is = go (is_counters (91 ∷ word)) is
  where
    go : (b : Bool) → edit_of end (cond b words ((91 ∷ word) ∷ words)) ≡ Ok edit → edit_of end words ≡ Ok edit
    go true e = e
    go false e = absurd (bracket_is_none end word words edit e)

-- without counters
uncounted : (byte : ℕ) (word : List ℕ) → (byte == 91) ≡ false → is_counters (byte ∷ word) ≡ false
uncounted byte word other =
    let bare : bytes_eq (byte ∷ word) (codes "[" ++ (inside (byte ∷ word) ++ codes "]")) ≡ false = ap (λ b. b && bytes_eq word (inside (byte ∷ word) ++ codes "]")) other in
    ap (λ b. are_both_digits (option_and_then (cut_at 58) (cond b (Some (inside (byte ∷ word))) None))) bare

-- what a chain line asks
chain_asks : (old : List ReadRule) (s : Section) (name : List ℕ) (words : List (List ℕ)) (a : Asked) → asked_of_chain s name words ≡ Ok a
    → moving old (ChainLine name) ≡ None → Leaves (EmptyIn old) a.edit
chain_asks old s name words a is still = by_policy (checked_policy name (policy_word words)) is
  where
    free : (b : Bool) → cond b (Some name) None ≡ None → b ≡ false
    free true e = absurd (cc)
    free false e = refl

    by_kind : (own none there : Bool) (policy : List ℕ)
        → Leaves (EmptyIn old) (cond own (cond none None (Some (SetPolicy name policy))) (cond there (Some (Flush name)) (Some (NewChain name))))
    by_kind true true there policy = Nothing
    by_kind true false there policy = Policy name policy
    by_kind false none true policy = Empties name (free (list_any (is_in name) old) still)
    by_kind false none false policy = New name

    by_name : (policy : List ℕ) (twice : Bool) → made_into (by_chain_line name) (cond twice (Err DuplicateChainLine) (Ok (chain_edit s.table name policy))) ≡ Ok a → Leaves (EmptyIn old) a.edit
    by_name policy true e = absurd (cc)
    by_name policy false e =
        let same : by_chain_line name (chain_edit s.table name policy) ≡ a = cc in
        subst (λ (x : Asked). Leaves (EmptyIn old) x.edit) same (by_kind (is_built_in name) (is_none_word policy) (has_chain s.table name) policy)

    by_policy : (checked : Result (List ℕ) RestoreFault) → (checked >>= λ policy. made_into (by_chain_line name) (chain_line s name policy)) ≡ Ok a → Leaves (EmptyIn old) a.edit
    by_policy (Ok policy) e = by_name policy (set.contains s.named name) e
    by_policy (Err f) e = absurd (cc)

-- words that put no rule into a chain and move none
other_asks : (old : List ReadRule) (s : Section) (words : List (List ℕ)) (a : Asked) → asked_by s words ≡ Ok a → moving old (other_line words) ≡ None → Leaves (EmptyIn old) a.edit
other_asks old s [] a is still = subst (λ (x : Asked). Leaves (EmptyIn old) x.edit) (let same : asks_nothing ≡ a = cc in same) Nothing
other_asks old s ([] ∷ words) a is still = absurd (cc)
other_asks old s ((byte ∷ word) ∷ words) a is still = by_hash (byte == 35) refl still
  where
    -- the edit of a command
    of_edit : (found : (edit : Edit) × (edit_of (length ((byte ∷ word) ∷ words)) (without_counters ((byte ∷ word) ∷ words)) ≡ Ok edit) × (a.edit ≡ Some edit))
        → Leaves (EmptyIn old) (Some found.0) → Leaves (EmptyIn old) a.edit
    of_edit found leaves = subst (λ o. Leaves (EmptyIn old) o) (sym found.2) leaves

    -- a command without counters
    by_star : (b : Bool) → begins_with 42 (byte ∷ word) ≡ b → (byte == 58) ≡ false → (byte == 91) ≡ false
        → cond b (Err NotAllowed) (cond (byte == 58) (asked_of_chain s word words) (asked_of_command ((byte ∷ word) ∷ words))) ≡ Ok a
        → moving old (any_command_line (byte ∷ word) words) ≡ None → Leaves (EmptyIn old) a.edit
    by_star true star colon bracket e h = absurd (cc)
    by_star false star colon bracket e h =
        let asks : asked_of_command ((byte ∷ word) ∷ words) ≡ Ok a = sym (ap (λ b. cond b (asked_of_chain s word words) (asked_of_command ((byte ∷ word) ∷ words))) colon) ∙ e in
        let found = asked_edit ((byte ∷ word) ∷ words) a asks in
        let bare : edit_of (length ((byte ∷ word) ∷ words)) ((byte ∷ word) ∷ words) ≡ Ok found.0 =
        sym (ap (λ b. edit_of (length ((byte ∷ word) ∷ words)) (cond b words ((byte ∷ word) ∷ words))) (uncounted byte word bracket)) ∙ found.1 in
        of_edit found (command_asks old (length ((byte ∷ word) ∷ words)) (byte ∷ word) words found.0 bare h)

    -- behind counters
    by_counters : (ws : List (List ℕ)) (b : Asked) → asked_by s ((91 ∷ word) ∷ ws) ≡ Ok b → moving old (counted_line ws) ≡ None → Leaves (EmptyIn old) b.edit
    by_counters [] b e h =
        let found = asked_edit ((91 ∷ word) ∷ []) b e in
        absurd (nothing_is_none 1 found.0 (counted word [] 1 found.0 found.1))
    by_counters (command ∷ ws) b e h =
        let found = asked_edit ((91 ∷ word) ∷ command ∷ ws) b e in
        let end = length ((91 ∷ word) ∷ command ∷ ws) in
        subst (λ o. Leaves (EmptyIn old) o) (sym found.2)
        (command_asks old end command ws found.0 (counted word (command ∷ ws) end found.0 found.1) h)

    by_bracket : (b : Bool) → (byte == 91) ≡ b → (byte == 58) ≡ false → moving old (cond b (counted_line words) (counted_line ((byte ∷ word) ∷ words))) ≡ None → Leaves (EmptyIn old) a.edit
    by_bracket true bracket colon h =
        by_counters words a (subst (λ (n : ℕ). asked_by s ((n ∷ word) ∷ words) ≡ Ok a) (eqb-true byte 91 bracket) is) h
    by_bracket false bracket colon h = by_star (begins_with 42 (byte ∷ word)) refl colon bracket is h

    by_colon : (b : Bool) → (byte == 58) ≡ b → moving old (cond b (ChainLine word) (cond (byte == 91) (counted_line words) (counted_line ((byte ∷ word) ∷ words)))) ≡ None → Leaves (EmptyIn old) a.edit
    by_colon true colon h =
        let own : asked_by s ((58 ∷ word) ∷ words) ≡ Ok a = subst (λ (n : ℕ). asked_by s ((n ∷ word) ∷ words) ≡ Ok a) (eqb-true byte 58 colon) is in
        chain_asks old s word words a own h
    by_colon false colon h = by_bracket (byte == 91) refl colon h

    hashed : asked_by s ((35 ∷ word) ∷ words) ≡ Ok a → ⊥
    hashed e =
        let found = asked_edit ((35 ∷ word) ∷ words) a e in
        hash_is_none (length ((35 ∷ word) ∷ words)) word words found.0 found.1

    by_hash : (b : Bool) → (byte == 35) ≡ b
        → moving old (cond b Quiet (cond (byte == 58) (ChainLine word) (cond (byte == 91) (counted_line words) (counted_line ((byte ∷ word) ∷ words))))) ≡ None → Leaves (EmptyIn old) a.edit
    by_hash true hash h = absurd (hashed (subst (λ (n : ℕ). asked_by s ((n ∷ word) ∷ words) ≡ Ok a) (eqb-true byte 35 hash) is))
    by_hash false hash h = by_colon (byte == 58) refl h

-- the rule of such a line is put last in its chain
abbrev Adds : RuleLine → ℕ → Asked → Type 0
Adds line end a = (r : Rule) × (rule_of end line.words ≡ Ok r) × (a.edit ≡ Some (Append line.chain r))

-- words that put a rule last in a chain
rule_asks : (s : Section) (words : List (List ℕ)) (line : RuleLine) (a : Asked) → asked_by s words ≡ Ok a → rule_line words ≡ Some line
    → (r : Rule) × (rule_of (length words) line.words ≡ Ok r) × (a.edit ≡ Some (Append line.chain r))
rule_asks s [] line a is puts = absurd (cc)
rule_asks s (word ∷ words) line a is puts = by_first (begins_with 91 word) refl puts
  where
    -- the command of a line, its chain and its words
    named : (counters : Option (List ℕ)) (command chain : List ℕ) (rest : List (List ℕ)) (b : Bool)
        → cond b (Some (record { counters = counters; command = command; chain = chain; words = rest })) None ≡ Some line
        → (b ≡ true) × (chain ≡ line.chain) × (rest ≡ line.words)
    named counters command chain rest true e =
        let same : record { counters = counters; command = command; chain = chain; words = rest } ≡ line = cc in
        (refl, ap (λ (l : RuleLine). l.chain) same, ap (λ (l : RuleLine). l.words) same)
    named counters command chain rest false e = absurd (cc)

    of_append : (end : ℕ) (command chain : List ℕ) (rest : List (List ℕ)) (b : Asked) (edit : Edit) → is_either (codes "-A") (codes "--append") command ≡ true → chain ≡ line.chain → rest ≡ line.words
        → edit_of end (command ∷ chain ∷ rest) ≡ Ok edit → b.edit ≡ Some edit → Adds line end b
    of_append end command chain rest b edit append same_chain same_words read is_edit =
        let made = append_asks end command chain rest edit append read in (
          made.0,
          ap (λ (ws : List (List ℕ)). rule_of end ws) (sym same_words) ∙ made.1,
          is_edit ∙ ap Some made.2 ∙ ap (λ (c : List ℕ). Some (Append c made.0)) same_chain,
        )

    -- without counters
    bare : (ws : List (List ℕ)) (b : Asked) → asked_by s (word ∷ ws) ≡ Ok b → rule_after None (word ∷ ws) ≡ Some line → Adds line (length (word ∷ ws)) b
    bare [] b e h = absurd (cc)
    bare (chain ∷ rest) b e h =
        let parts = named None word chain rest (is_either (codes "-A") (codes "--append") word) h in
        let end = length (word ∷ chain ∷ rest) in
        let asks : asked_of_command (word ∷ chain ∷ rest) ≡ Ok b = elim (either (codes "-A") (codes "--append") word parts.0) [
          | inl same ↦ subst (λ (w : List ℕ). asked_by s (w ∷ chain ∷ rest) ≡ Ok b → asked_of_command (w ∷ chain ∷ rest) ≡ Ok b) same (λ x. x) e
          | inr same ↦ subst (λ (w : List ℕ). asked_by s (w ∷ chain ∷ rest) ≡ Ok b → asked_of_command (w ∷ chain ∷ rest) ≡ Ok b) same (λ x. x) e
        ] in
        let found = asked_edit (word ∷ chain ∷ rest) b asks in
        let read : edit_of end (word ∷ chain ∷ rest) ≡ Ok found.0 = elim (either (codes "-A") (codes "--append") word parts.0) [
          | inl same ↦ subst (λ (w : List ℕ). edit_of end (without_counters (w ∷ chain ∷ rest)) ≡ Ok found.0 → edit_of end (w ∷ chain ∷ rest) ≡ Ok found.0) same (λ x. x) found.1
          | inr same ↦ subst (λ (w : List ℕ). edit_of end (without_counters (w ∷ chain ∷ rest)) ≡ Ok found.0 → edit_of end (w ∷ chain ∷ rest) ≡ Ok found.0) same (λ x. x) found.1
        ] in
        of_append end word chain rest b found.0 parts.0 parts.1 parts.2 read found.2

    -- behind counters
    behind : (w : List ℕ) (ws : List (List ℕ)) → begins_with 91 w ≡ true → asked_by s (w ∷ ws) ≡ Ok a → rule_after (Some w) ws ≡ Some line → Adds line (length (w ∷ ws)) a
    behind [] ws first e h = absurd (cc)
    behind (byte ∷ w) [] first e h = absurd (cc)
    behind (byte ∷ w) (command ∷ []) first e h = absurd (cc)
    behind (byte ∷ w) (command ∷ chain ∷ rest) first e h =
        let parts = named (Some (byte ∷ w)) command chain rest (is_either (codes "-A") (codes "--append") command) h in
        let end = length ((91 ∷ w) ∷ command ∷ chain ∷ rest) in
        let own : asked_by s ((91 ∷ w) ∷ command ∷ chain ∷ rest) ≡ Ok a = subst (λ (n : ℕ). asked_by s ((n ∷ w) ∷ command ∷ chain ∷ rest) ≡ Ok a) (eqb-true byte 91 first) e in
        let found = asked_edit ((91 ∷ w) ∷ command ∷ chain ∷ rest) a own in
        of_append end command chain rest a found.0 parts.0 parts.1 parts.2 (counted w (command ∷ chain ∷ rest) end found.0 found.1) found.2

    by_first : (b : Bool) → begins_with 91 word ≡ b → cond b (rule_after (Some word) words) (rule_after None (word ∷ words)) ≡ Some line → Adds line (length (word ∷ words)) a
    by_first true first h = behind word words first is h
    by_first false first h = bare words a is h

-- ---- What a line asks.

-- a line that was taken: it isn't too long, and it is blank or a comment, or asks what its words ask
pub data IsTaken (s : Section) (line : List ℕ) (a : Asked) : Type 0 where
  Blank : is_too_long line ≡ false → is_quiet line ≡ true → a ≡ asks_nothing → IsTaken s line a
  Words : is_too_long line ≡ false → (words : List (List ℕ)) → words_of line ≡ Some words → asked_by s words ≡ Ok a → IsTaken s line a

pub taken : (s : Section) (line : List ℕ) (a : Asked) → asked s line ≡ Ok a → IsTaken s line a
unfolding asked
taken s line a is = by_length (is_too_long line) refl is
  where
    by_words : is_too_long line ≡ false → (found : Option (List (List ℕ))) → words_of line ≡ found → (or_refused Quoting found >>= λ words. asked_by s words) ≡ Ok a → IsTaken s line a
    by_words short None e h = absurd (cc)
    by_words short (Some words) e h = Words short words e h

    by_quiet : is_too_long line ≡ false → (b : Bool) → is_quiet line ≡ b → cond b (Ok asks_nothing) (or_refused Quoting (words_of line) >>= λ words. asked_by s words) ≡ Ok a → IsTaken s line a
    by_quiet short true quiet h = Blank short quiet cc
    by_quiet short false quiet h = by_words short (words_of line) refl h

    by_length : (b : Bool) → is_too_long line ≡ b → cond b (Err LineTooLong) (cond (is_quiet line) (Ok asks_nothing) (or_refused Quoting (words_of line) >>= λ words. asked_by s words)) ≡ Ok a → IsTaken s line a
    by_length true long h = absurd (cc)
    by_length false short h = by_quiet short (is_quiet line) refl h

-- a line that puts a rule last in a chain
pub line_with_rule : (s : Section) (line : List ℕ) (words : List (List ℕ)) (rule : RuleLine) (a : Asked) → asked s line ≡ Ok a → words_of line ≡ Some words → rule_line words ≡ Some rule
    → (r : Rule) × (rule_of (length words) rule.words ≡ Ok r) × (a.edit ≡ Some (Append rule.chain r))
line_with_rule s line words rule a is found puts = go (taken s line a is)
  where
    go : IsTaken s line a → Adds rule (length words) a
    go (Blank short quiet e) = absurd (let none : rule_line words ≡ None = comment_puts_none words (quiet_words line words quiet found) in cc)
    go (Words short ws e asks) =
        let same : ws ≡ words = cc in
        rule_asks s words rule a (subst (λ (x : List (List ℕ)). asked_by s x ≡ Ok a) same asks) puts

-- a line that puts none there and moves none
pub line_without_rule : (old : List ReadRule) (s : Section) (line : List ℕ) (a : Asked) → asked s line ≡ Ok a
    → ((words : List (List ℕ)) → words_of line ≡ Some words → moving old (other_line words) ≡ None) → Leaves (EmptyIn old) a.edit
line_without_rule old s line a is still = go (taken s line a is)
  where
    go : IsTaken s line a → Leaves (EmptyIn old) a.edit
    go (Blank short quiet e) = subst (λ (x : Asked). Leaves (EmptyIn old) x.edit) (sym e) Nothing
    go (Words short words found asks) = other_asks old s words a asks (still words found)
