-- What the lines of a section ask for as plain edits, and what the lines of a restore leave, one after another.
use Rattle.std.proofs.Common.{◌≡◌, ℕ, List, [], ◌∷◌, ◌++◌, Bool, true, false, Option, Some, None, Result, Ok, Err, refl, sym, ap, ◌∙◌, append-nil, if◌then◌else◌, inl, inr, subst}
use Rattle.std.specs.Prelude.{codes}
use Rattle.std.specs.Str.{bytes_eq}
use Rattle.std.specs.Option.{option_to_list}
use Rattle.std.proofs.lemmas.Bool.{false≢true}
use Rattle.fields.specs.text.Words.{words_of}
use Rattle.table.specs.edits.Edits.{Edit, edited, fault_of, step}
use Rattle.table.specs.edits.Headline.{edited_by, ChainsHaveOneListOfClassifiers}
use Rattle.table.specs.chains.Table.{Table, AreClassified, TableView}
use Rattle.table.specs.declared.fault.TableFault.{TableFault}
use Rattle.restore.specs.Sequence.{◌>>=◌, or_refused, refused_as}
use Rattle.restore.specs.Changes.{edit_asked}
use Rattle.restore.specs.sections.Section.{Names, Asked, OfTable, Quoting, RestoreFault, begun, begins_with, is_quiet}
use Rattle.restore.specs.sections.Restore.{SectionState, Between, Skipping, Building, Restore, opening, between, Restoring, restore_line, restore_lines}
use Rattle.restore.specs.Listing.{ListingsRestoreClassifiers, RestoresAsEqual}
use Rattle.restore.specs.sections.Lines.{LinesLeaveWhatTheyRestore, RefusedLinesChangeNothing, Answers, IsLine, puts_table}
use Rattle.restore.specs.sections.Section as section

-- ---- What the lines of a section ask for, as plain edits one after another, and what a line between sections begins.

-- what holds of both arms holds of the whole
pub of_both : {A : Type 0} (P : A → Type 0) (b : Bool) {x y : A} → P x → P y → P (if b then x else y)
of_both P true p q = p
of_both P false p q = q

-- what holds of what was given
abbrev pub OnGiven : {A E : Type 0} → Result A E → (A → Type 0) → Type 0
OnGiven (Ok x) P = P x
OnGiven (Err e) P = Unit {0}

-- plain edits one after another

edited_snoc : (t : Table) (es : List Edit) (e : Edit) → edited_by t (es ++ e ∷ []) ≡ edited e (edited_by t es)
edited_snoc t [] e = refl
edited_snoc t (d ∷ ds) e = edited_snoc (edited d t) ds e

chosen : (e : Edit) (t : Table) (o : Option TableFault) → OnGiven (let r : Result Table TableFault = elim o [ None ↦ Ok (edited e t) | Some f ↦ Err f ] in r) (λ u. u ≡ edited e t)
chosen e t None = refl
chosen e t (Some f) = tt

pub step_edits : (e : Edit) (t : Table) → OnGiven (step e t) (λ u. u ≡ edited e t)
step_edits e t = chosen e t (fault_of e t)

-- lines of a section

edits_step : (b u : Table) (es : List Edit) (e : Edit) (named : Names) (r : Result Table TableFault) → u ≡ edited_by b es → OnGiven r (λ v. v ≡ edited e u)
    → OnGiven (refused_as OfTable r >>= λ v. Ok (let s : section.Section = record { table = v; named = named } in s)) (λ next. next.table ≡ edited_by b (es ++ e ∷ []))
edits_step b u es e named (Ok v) h g = g ∙ ap (edited e) h ∙ sym (edited_snoc b es e)
edits_step b u es e named (Err f) h g = tt

edits_one : (b u : Table) (es : List Edit) (e : Option Edit) (named : Names) → u ≡ edited_by b es
    → OnGiven (section.edited_by e u >>= λ v. Ok (let s : section.Section = record { table = v; named = named } in s)) (λ next. next.table ≡ edited_by b (es ++ option_to_list e))
edits_one b u es None named h = h ∙ sym (ap (edited_by b) (append-nil es))
edits_one b u es (Some e) named h = edits_step b u es e named (step e u) h (step_edits e u)

pub edits_asked : (b : Table) (s : section.Section) (es : List Edit) (q : Result Asked RestoreFault) → s.table ≡ edited_by b es
    → OnGiven (section.done s q) (λ next. next.table ≡ edited_by b (es ++ edit_asked q))
edits_asked b s es (Ok a) h = edits_one b s.table es a.edit (section.with_name a.name s.named) h
edits_asked b s es (Err f) h = tt

-- a place after a line between sections: a section that is built was begun from the table
abbrev pub IsBegun : Bool → Table → SectionState → Type 0
IsBegun noflush t Between = Unit {0}
IsBegun noflush t Skipping = Unit {0}
IsBegun noflush t (Building s) = s ≡ begun noflush t

opening_is : (t : Table) (r : Restore) (words : List (List ℕ)) → OnGiven (opening r.noflush t words) (IsBegun r.noflush t)
opening_is t r [] = tt
opening_is t r (w ∷ []) =
    of_both (λ p. OnGiven p (IsBegun r.noflush t)) (begins_with 42 w) (of_both (IsBegun r.noflush t) (bytes_eq w (codes "*filter")) refl tt) tt
opening_is t r (w ∷ (v ∷ vs)) = tt

opening_on : (t : Table) (r : Restore) (words : Option (List (List ℕ))) → OnGiven (or_refused Quoting words >>= λ ws. opening r.noflush t ws) (IsBegun r.noflush t)
opening_on t r None = tt
opening_on t r (Some ws) = opening_is t r ws

pub between_is : (t : Table) (r : Restore) (line : List ℕ) → OnGiven (between r.noflush t line) (IsBegun r.noflush t)
between_is t r line = of_both (λ p. OnGiven p (IsBegun r.noflush t)) (is_quiet line) tt (opening_on t r (words_of line))

-- ---- What the lines of a restore leave, one after another.

-- what an answer gives, or another
abbrev given_in : {A : Type 0} → A → Result A RestoreFault → A
given_in other (Ok x) = x
given_in other (Err f) = other

abbrev is_given : {A : Type 0} → Result A RestoreFault → Bool
is_given (Ok x) = true
is_given (Err f) = false

-- a table and a restore
abbrev both : Table → Restore → Restoring
both t r = record { table = t; restore = r }

-- an answer without a refusal is what the definition gives
answers_ok : (given : Result Restoring RestoreFault) (puts : Bool) (old new : TableView) (next : Restore) → Answers given puts old new (Ok next) → given ≡ Ok (both new.table next)
answers_ok (Ok s) true old new next a = (λ i. Ok (both (sym a.1 i) (sym (ap (given_in next) a.0) i)))
answers_ok (Ok s) false old new next a = (λ i. Ok (both (sym a.1 i) (sym (ap (given_in next) a.0) i)))
answers_ok (Err f) puts old new next a = absurd (false≢true (sym (ap is_given a.0)))

pub accepted_line : (r next : Restore) (line : List ℕ) (old new : TableView) → IsLine r line old new (Ok next) → restore_line r old.table line ≡ Ok (both new.table next)
accepted_line r next line old new (inl a) = answers_ok (restore_line r old.table line) (puts_table r line) old new next a
accepted_line r next line old new (inr o) = absurd (false≢true (sym (ap is_given o.answer)))

pub lines_leave : LinesLeaveWhatTheyRestore
lines_leave r s old new [] h = (λ i. Ok (both (sym h.1 i).table (sym h.0 i)))
lines_leave r s old new (line ∷ lines) h =
    ap (λ (x : Result Restoring RestoreFault). x >>= λ next. restore_lines next lines) (accepted_line r h.0 line old h.1 h.2) ∙ lines_leave h.0 s h.1 new lines h.3

-- a refusal leaves all as it was
unchanged : (given : Result Restoring RestoreFault) (puts : Bool) (old new : TableView) (f : RestoreFault) → Answers given puts old new (Err f) → new ≡ old
unchanged (Ok s) true old new f a = absurd (false≢true (ap is_given a.0))
unchanged (Ok s) false old new f a = a.2
unchanged (Err g) puts old new f a = a.1

pub refused_unchanged : RefusedLinesChangeNothing
refused_unchanged r line old new f (inl a) = unchanged (restore_line r old.table line) (puts_table r line) old new f a
refused_unchanged r line old new f (inr o) = o.unchanged

pub restored_classifiers : RestoresAsEqual → ChainsHaveOneListOfClassifiers → ListingsRestoreClassifiers
restored_classifiers restores one t made sound classified other is =
    let tables : made.table ≡ t.table = ap (given_in t.table) (sym is ∙ restores t.table sound) in
    let lists : made.classifiers ≡ t.classifiers = one t.table.chains made.classifiers t.classifiers (subst (λ (x : Table). AreClassified x.chains made.classifiers) tables other) classified in
    (λ i. record { table = tables i; classifiers = lists i })
