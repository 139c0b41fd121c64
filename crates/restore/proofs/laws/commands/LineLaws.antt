-- A line of an edit is the line of a command, and what is answered to it where memory runs out.
use Rattle.std.proofs.Common.{◌≡◌, sym, subst, Result, ℕ, Bool, true, false, ◌||◌, List, [], ◌∷◌, map, find, option_map, refl, ◌∙◌, ap, codes, Option, Some, None, Ok, Err, if◌then◌else◌}
use Rattle.std.specs.Str.{bytes_eq}
use Rattle.std.proofs.lemmas.Bool.{false≢true}
use Rattle.table.specs.edits.Edits.{Edit, Append, Has, DeleteRule, Insert, Replace}
use Rattle.rules.specs.rule.Rules.{Rule}
use Rattle.rules.specs.reading.Steps.{rule_of}
use Rattle.rules.specs.declared.reading.fault.Refusal.TheVariants as refusal
use Rattle.restore.specs.commands.Command.{Command, CommandFault, IsRead, Change, OtherTable, NoCommand, TwoCommands, WordCount, is_out_of_memory, may_be_of_rule, may_take_memory, has_rule}
use Rattle.restore.specs.Sequence.{made_into, refused_as, ◌>>=◌}
use Rattle.restore.specs.commands.CommandForms.{CommandForm, Reader, again, changing, edit_of, edits, followed, is_name_of, line_of, named, one_of, or_second, refused, table, value, takes}
use Rattle.restore.specs.declared.command.Command as code
use Rattle.restore.specs.commands.Command as command
use Rattle.restore.specs.commands.CommandForms as forms
use Rattle.restore.proofs.laws.commands.NextLaws.{found}

-- ---- What a call answers, and what the definition gives.

-- the same answer to an equal question
pub along : (r : Result code.Command CommandFault) (a b : Result Command CommandFault) → a ≡ b → IsRead r b → IsRead r a
along r a b is = subst (λ x. IsRead r x) (sym is)

-- ---- A line of an edit is the line of a command: its table may be named, and another name is none.

-- two readers read the same: one an edit, the other the command that it is
abbrev SameReader : Reader Edit → Reader Command → Type 0
SameReader next more = (end : ℕ) (ws : List (List ℕ)) → made_into Change (next end ws) ≡ more end ws

-- a form found first, or among the others
abbrev first_or : {A : Type 0} → Bool → CommandForm A → Option (CommandForm A) → Option (CommandForm A)
first_or b h o = if b then Some h else o

-- what follows the form that was found
followed_changed : (o : Option (CommandForm Edit)) → SameReader (followed o) (followed (option_map changing o))
followed_changed None end ws = refl
followed_changed (Some h) end ws = refl

-- one of the commands, or the table
one_changed : (next : Reader Edit) (more : Reader Command) (hs : List (CommandForm Edit))
    → SameReader next more → SameReader (one_of (table next ∷ hs)) (one_of (table more ∷ map changing hs))
one_changed next more hs same end [] = refl
one_changed next more hs same end (w ∷ ws) =
    elim (bytes_eq w (codes "-t") || bytes_eq w (codes "--table"))
    as (λ b. made_into Change (followed (first_or b (table next) (find (is_name_of w) hs)) end ws)
    ≡ followed (first_or b (table more) (find (is_name_of w) (map changing hs))) end ws) [
      | true ↦ same end ws
      | false ↦ followed_changed (find (is_name_of w) hs) end ws ∙ ap (λ o. followed o end ws) (sym (found changing (is_name_of w) hs))
    ]

-- a value
value_changed : (next : List ℕ → Reader Edit) (more : List ℕ → Reader Command)
    → ((w : List ℕ) → SameReader (next w) (more w)) → SameReader (value next) (value more)
value_changed next more same end [] = refl
value_changed next more same end (w ∷ ws) = same w end ws

-- what follows the table's name, which is `filter` or not
abbrev named_by : {A : Type 0} → List (CommandForm A) → Bool → Reader A
named_by forms b = if b then one_of (again ∷ forms) else (λ end words. Err OtherTable)

-- the table is named a second time
abbrev repeated : {A : Type 0} → Reader A
repeated = value (λ name end words. Err (refused refusal.RepeatedOption))

-- a table's name
named_changed : (hs : List (CommandForm Edit)) (name : List ℕ) → SameReader (named hs name) (named (map changing hs) name)
named_changed hs name end ws =
    elim (bytes_eq name (codes "filter")) as (λ b. made_into Change (named_by hs b end ws) ≡ named_by (map changing hs) b end ws) [
      | true ↦ one_changed repeated repeated hs (value_changed _ _ (λ w end ws. refl)) end ws
      | false ↦ refl
    ]

line_changed : (hs : List (CommandForm Edit)) → SameReader (line_of hs) (line_of (map changing hs))
line_changed hs =
    one_changed (value (named hs)) (value (named (map changing hs))) hs
    (value_changed (named hs) (named (map changing hs)) (named_changed hs))

refused_later : {A B : Type 0} (f : CommandFault → CommandFault) (k : A → B) (r : Result A CommandFault)
    → made_into k (refused_as f r) ≡ refused_as f (made_into k r)
refused_later f k (Ok x) = refl
refused_later f k (Err e) = refl

-- the edit that the words write, as a command
pub edit_is : (end : ℕ) (ws : List (List ℕ))
    → made_into Change (edit_of end ws) ≡ refused_as (or_second end ws) (line_of (map changing edits) end ws)
unfolding edit_of
edit_is end ws =
    refused_later (or_second end ws) Change (line_of edits end ws) ∙ ap (refused_as (or_second end ws)) (line_changed edits end ws)

-- ---- Memory runs out in the reading of a rule alone.

-- a fault that says that memory ran out may be of a rule
pub of_rule : (f : CommandFault) → is_out_of_memory f ≡ true → may_be_of_rule f ≡ true
of_rule NoCommand is = absurd (false≢true is)
of_rule TwoCommands is = refl
of_rule WordCount is = absurd (false≢true is)
of_rule OtherTable is = absurd (false≢true is)
of_rule (command.Rule fault) is = refl

-- memory may be taken where the words are a rule
rules_take : (k : Rule → Edit) → ((r : Rule) → has_rule (k r) ≡ true) → (end : ℕ) (ws : List (List ℕ))
    → may_take_memory (made_into Change (takes (forms.Rule ∷ []) k end ws)) ≡ true
rules_take k has end ws = elim (rule_of end ws) as (λ q. may_take_memory (made_into Change (refused_as refused q >>= λ r. Ok (k r))) ≡ true) [
  | Ok r ↦ has r
  | Err f ↦ refl
]

pub appended : (chain : List ℕ) (end : ℕ) (ws : List (List ℕ)) → may_take_memory (made_into Change (takes (forms.Rule ∷ []) (Append chain) end ws)) ≡ true
appended chain end ws = rules_take (Append chain) (λ r. refl) end ws

pub checked : (chain : List ℕ) (end : ℕ) (ws : List (List ℕ)) → may_take_memory (made_into Change (takes (forms.Rule ∷ []) (Has chain) end ws)) ≡ true
checked chain end ws = rules_take (Has chain) (λ r. refl) end ws

pub deleted : (chain : List ℕ) (end : ℕ) (ws : List (List ℕ)) → may_take_memory (made_into Change (takes (forms.Rule ∷ []) (DeleteRule chain) end ws)) ≡ true
deleted chain end ws = rules_take (DeleteRule chain) (λ r. refl) end ws

pub inserted : (chain : List ℕ) (n end : ℕ) (ws : List (List ℕ)) → may_take_memory (made_into Change (takes (forms.Rule ∷ []) (Insert chain n) end ws)) ≡ true
inserted chain n end ws = rules_take (Insert chain n) (λ r. refl) end ws

pub replaced : (chain : List ℕ) (n end : ℕ) (ws : List (List ℕ)) → may_take_memory (made_into Change (takes (forms.Rule ∷ []) (Replace chain n) end ws)) ≡ true
replaced chain n end ws = rules_take (Replace chain n) (λ r. refl) end ws
