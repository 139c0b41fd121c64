-- What a command of a section does, and what the table answers, as a section's answer.
use Rattle.std.proofs.Common.{◌≡◌, ℕ, Bool, true, false, List, refl, sym, ap, subst, Option, Some, None, Result, Ok, Err, if◌then◌else◌, [], ◌∷◌, drop, ◌∙◌, slice_get, is_some, unwrap_or, length}
use Rattle.std.specs.Bool.{MatchBool}
use Rattle.std.proofs.lemmas.Bool.{false≢true}
use Rattle.table.specs.chains.Table.{Table, TableView, has_chain, is_built_in}
use Rattle.table.specs.edits.Edits.{Edit, Flush, NewChain, SetPolicy, Answers, IsStep, IsStepIfRoom, IsStepOf, may_grow, step}
use Rattle.table.specs.declared.fault.TableFault.{TableFault}
use Rattle.table.specs.declared.fault.TableFault.TheVariants.{NoMemory}
use Rattle.fields.specs.Refusals.{Refuses}
use Rattle.restore.specs.Sequence.{Gives, refused_as, ◌>>=◌, made_into}
use Rattle.restore.specs.sections.Section.{RestoreFault, OfTable, chain_edit, edited_by, is_none_word, is_out_of_memory, Asked, Command, Section, asked_of_command, by_command, done, is_counters, without_counters, Names}
use Rattle.restore.specs.commands.Command.{Change, CommandFault, IsApplied}
use Rattle.restore.specs.commands.CommandForms.{edit_of}
use Rattle.restore.specs.commands.Command as command

-- ---- What the table answers, as a section's answer.

-- a refusal is the definition's, or it says that memory ran out
refuses : {X Y : Type 0} (view : X → Y) (e : RestoreFault) (given : Result Y RestoreFault) → given ≡ Err e → Gives is_out_of_memory view (Err e) given
refuses view e given is = elim (is_out_of_memory e) as (λ b. Refuses (if b then None else Some e) given) [ true ↦ tt | false ↦ is ]

-- what a table answers to a step
answered : (old new : TableView) (s : Result Table TableFault) (r : Result (Unit {0}) TableFault) → Answers s old new r → Gives is_out_of_memory (λ (u : Unit {0}). new.table) (refused_as OfTable r) (refused_as OfTable s)
answered old new (Ok t) r a =
    subst (λ (x : Result (Unit {0}) TableFault). Gives is_out_of_memory (λ (u : Unit {0}). new.table) (refused_as OfTable x) (Ok t)) (sym a.0) (ap Ok (sym a.1))
answered old new (Err f) r a =
    subst (λ (x : Result (Unit {0}) TableFault). Gives is_out_of_memory (λ (u : Unit {0}). new.table) (refused_as OfTable x) (Err (OfTable f))) (sym a.0)
    (refuses (λ (u : Unit {0}). new.table) (OfTable f) (Err (OfTable f)) refl)

-- the same, of a call that takes no memory, and of one that may
pub stepped : (edit : Edit) (old new : TableView) (r : Result (Unit {0}) TableFault) → IsStep edit old new r → Gives is_out_of_memory (λ (u : Unit {0}). new.table) (refused_as OfTable r) (edited_by (Some edit) old.table)
stepped edit old new r a = answered old new (step edit old.table) r a

pub stepped_if_room : (edit : Edit) (old new : TableView) (r : Result (Unit {0}) TableFault) → IsStepIfRoom edit old new r → Gives is_out_of_memory (λ (u : Unit {0}). new.table) (refused_as OfTable r) (edited_by (Some edit) old.table)
stepped_if_room edit old new (Ok u) a = ap (refused_as OfTable) a.0
stepped_if_room edit old new (Err NoMemory) a = tt
stepped_if_room edit old new (Err f) a = ap (refused_as OfTable) a.0

pub stepped_of : (edit : Edit) (old new : TableView) (r : Result (Unit {0}) TableFault) → IsStepOf edit old new r → Gives is_out_of_memory (λ (u : Unit {0}). new.table) (refused_as OfTable r) (edited_by (Some edit) old.table)
stepped_of edit old new r =
    elim (may_grow edit) as (λ b. MatchBool b (IsStepIfRoom edit old new r) (IsStep edit old new r) → Gives is_out_of_memory (λ (u : Unit {0}). new.table) (refused_as OfTable r) (edited_by (Some edit) old.table)) [
      | true ↦ stepped_if_room edit old new r
      | false ↦ stepped edit old new r
    ]

-- what a chain line asks, by the name
abbrev asks : (own none there : Bool) (name policy : List ℕ) → Option Edit
asks own none there name policy =
    if own then (if none then None else Some (SetPolicy name policy)) else if there then Some (Flush name) else Some (NewChain name)

module _ (old new : TableView) (name policy : List ℕ) (r : Result (Unit {0}) RestoreFault) where
  -- the answer to what a chain line asks
  abbrev pub Done : Option Edit → Type 0
  Done edit = Gives is_out_of_memory (λ (u : Unit {0}). new.table) r (edited_by edit old.table)

  -- what is asked of a name of this kind
  abbrev by_kind : Bool → Bool → Bool → Type 0
  by_kind own none there = Done (asks own none there name policy)

  pub done_nothing : is_built_in name ≡ true → is_none_word policy ≡ true → Done None → Done (chain_edit old.table name policy)
  done_nothing own none d = subst (λ b. by_kind b (is_none_word policy) (has_chain old.table name)) (sym own) (subst (λ b. by_kind true b (has_chain old.table name)) (sym none) d)

  pub done_policy : is_built_in name ≡ true → is_none_word policy ≡ false → Done (Some (SetPolicy name policy)) → Done (chain_edit old.table name policy)
  done_policy own none d = subst (λ b. by_kind b (is_none_word policy) (has_chain old.table name)) (sym own) (subst (λ b. by_kind true b (has_chain old.table name)) (sym none) d)

  pub done_flush : is_built_in name ≡ false → has_chain old.table name ≡ true → Done (Some (Flush name)) → Done (chain_edit old.table name policy)
  done_flush own there d = subst (λ b. by_kind b (is_none_word policy) (has_chain old.table name)) (sym own) (subst (λ b. by_kind false (is_none_word policy) b) (sym there) d)

  pub done_new : is_built_in name ≡ false → has_chain old.table name ≡ false → Done (Some (NewChain name)) → Done (chain_edit old.table name policy)
  done_new own there d = subst (λ b. by_kind b (is_none_word policy) (has_chain old.table name)) (sym own) (subst (λ b. by_kind false (is_none_word policy) b) (sym there) d)

-- the answer of a call that may take memory, as a restore's
pub answer_of_room : (edit : Edit) (old new : TableView) (r : Result (Unit {0}) TableFault) (s : Result (Unit {0}) RestoreFault) → IsStepIfRoom edit old new r → s ≡ refused_as OfTable r → Gives is_out_of_memory (λ (u : Unit {0}). new.table) s (edited_by (Some edit) old.table)
answer_of_room edit old new r s a is =
    subst (λ (x : Result (Unit {0}) RestoreFault). Gives is_out_of_memory (λ (u : Unit {0}). new.table) x (edited_by (Some edit) old.table)) (sym is) (stepped_if_room edit old new r a)

-- ---- What a command of a section does.

-- the words after counters, or all
pub after_counters : (words : List (List ℕ)) (w : List ℕ) → slice_get words 0 ≡ Some w → is_counters w ≡ true → drop 1 words ≡ without_counters words
after_counters [] w e is = absurd (false≢true (ap is_some e))
after_counters (v ∷ ws) w e is = sym (ap (λ b. if b then ws else v ∷ ws) (ap is_counters (ap (λ (o : Option (List ℕ)). unwrap_or o []) e) ∙ is))

pub all_words : (words : List (List ℕ)) (w : List ℕ) → slice_get words 0 ≡ Some w → is_counters w ≡ false → drop 0 words ≡ without_counters words
all_words [] w e is = refl
all_words (v ∷ ws) w e is = sym (ap (λ b. if b then ws else v ∷ ws) (ap is_counters (ap (λ (o : Option (List ℕ)). unwrap_or o []) e) ∙ is))

-- a section of a table, with these names
abbrev named_so : Names → Table → Result Section RestoreFault
named_so names t = Ok (record { table = t; named = names })

-- the table's answer is the section's
with_names : (new : Section) (r : Result (Unit {0}) RestoreFault) (given : Result Table RestoreFault) → Gives is_out_of_memory (λ (u : Unit {0}). new.table) r given → Gives is_out_of_memory (λ (u : Unit {0}). new) r (given >>= named_so new.named)
with_names new (Ok u) given g = ap (λ (x : Result Table RestoreFault). x >>= named_so new.named) g
with_names new (Err f) given g =
    elim (is_out_of_memory f) as (λ b. Refuses (if b then None else Some f) given → Refuses (if b then None else Some f) (given >>= named_so new.named)) [
      | true ↦ λ h. tt
      | false ↦ λ h. ap (λ (x : Result Table RestoreFault). x >>= named_so new.named) h
    ] g

-- the command of an answer, or another
abbrev command_in : command.Command → Result command.Command CommandFault → command.Command
command_in other (Ok c) = c
command_in other (Err f) = other

abbrev is_read : {E : Type 0} → Result command.Command E → Bool
is_read (Ok c) = true
is_read (Err f) = false

-- a command that was read is an edit
read_edit_is : (asks : Result Edit CommandFault) (c : command.Command) → made_into Change asks ≡ Ok c → (edit : Edit) × (asks ≡ Ok edit) × (c ≡ Change edit)
read_edit_is (Ok edit) c e = (edit, refl, sym (ap (command_in c) e))
read_edit_is (Err f) c e = absurd (false≢true (ap is_read e))

-- the words that a command was read of ask for its edit
pub asked_is : (words rest : List (List ℕ)) (c : command.Command) → rest ≡ without_counters words → made_into Change (edit_of (length words) rest) ≡ Ok c
    → (edit : Edit) × (asked_of_command words ≡ Ok (by_command edit)) × (c ≡ Change edit)
asked_is words rest c left read =
    let found = read_edit_is (edit_of (length words) rest) c read in (
      found.0,
      ap (λ (ws : List (List ℕ)). refused_as Command (made_into by_command (edit_of (length words) ws))) (sym left)
          ∙ ap (λ (e : Result Edit CommandFault). refused_as Command (made_into by_command e)) found.1,
      found.2,
    )

module _ (ot nt : TableView) (names : Names) where
  abbrev old : Section
  old = record { table = ot.table; named = names }

  abbrev new : Section
  new = record { table = nt.table; named = names }

  abbrev Answered : Result (Unit {0}) RestoreFault → Result Section RestoreFault → Type 0
  Answered r given = Gives is_out_of_memory (λ (u : Unit {0}). new) r given

  -- the edit is done to the table
  edit_done : (edit : Edit) (c : command.Command) (a : Result (Unit {0}) TableFault) (r : Result (Unit {0}) RestoreFault) → c ≡ Change edit → IsApplied c ot nt a → r ≡ refused_as OfTable a → Answered r (done old (Ok (by_command edit)))
  edit_done edit c a r is applied answer =
      with_names new r (edited_by (Some edit) ot.table)
      (subst (λ (x : Result (Unit {0}) RestoreFault). Gives is_out_of_memory (λ (u : Unit {0}). nt.table) x (edited_by (Some edit) ot.table)) (sym answer) (stepped_of edit ot nt a (subst (λ (x : command.Command). IsApplied x ot nt a) is applied)))

  -- the same, of the words
  pub command_done : (s : Section) (words rest : List (List ℕ)) (c : command.Command) (a : Result (Unit {0}) TableFault) (r : Result (Unit {0}) RestoreFault) → old ≡ s → rest ≡ without_counters words → made_into Change (edit_of (length words) rest) ≡ Ok c → IsApplied c ot nt a → r ≡ refused_as OfTable a → Answered r (done s (asked_of_command words))
  command_done s words rest c a r seen left read applied answer =
      let found = asked_is words rest c left read in
      subst (λ (q : Section). Answered r (done q (asked_of_command words))) seen
      (subst (λ (x : Result Asked RestoreFault). Answered r (done old x)) (sym found.1) (edit_done found.0 c a r found.2 applied answer))
