-- What the code makes of a line outside of restores is what the definition says, and the chain of a name stands at its place.
use Rattle.std.proofs.Common.{◌≡◌, true, false, Bool, Result, Ok, Err, sym, ap, ℕ, zero, suc, ◌<◌, cond, List, [], ◌∷◌, length, get_or, ◌∙◌, Option, Some, is_some, arith, inl, inr, refl, subst, None}
use Rattle.std.proofs.lemmas.Bool.{false≢true}
use Rattle.std.specs.List.{position}
use Rattle.std.proofs.lemmas.List.Quantifiers.{position-Some}
use Rattle.std.proofs.lemmas.Slice.Eq.{bytes_eq-Decides}
use Rattle.std.specs.Bool.{MatchBool}
use Rattle.fields.proofs.laws.ListLaws.{any_is}
use Rattle.table.specs.chains.Table.{Chain, Table, chain_at, empty_chain, has_chain, is_named, rules_of, TableView}
use Rattle.table.specs.edits.Edits.{Answers, Edit, IsStepIfRoom, may_grow, step as table_step}
use Rattle.table.specs.declared.fault.TableFault.{TableFault}
use Rattle.table.specs.declared.fault.TableFault.TheVariants.{NoSuchChain, NoMemory as OutOfMemory}
use Rattle.restore.specs.commands.Command.{Command, Change, ListRules, IsApplied, IsChange}
use Rattle.restore.specs.declared.fault.RestoreFault.TheVariants.{Table as OfTable}
use Rattle.restore.specs.Listing.{rules_listing}
use Rattle.sessions.specs.line.Fault.{Fault, of_line}
use Rattle.sessions.specs.line.Request.{Run}
use Rattle.sessions.specs.line.Outcome.{Says, Mode, Outside, Outcome, after_fault, edit_outcome, fails, on_chain, execute, silent, outcome_with}
use Rattle.sessions.specs.Replies.{lines_reply}
use Rattle.sessions.specs.line.Executed.{HasChain, IsReply, IsOutcome}
use Rattle.sessions.specs.steps.Lines.{Comes}
use Rattle.sessions.specs.declared.reply.answer.Answer.{Answer}
use Rattle.sessions.specs.declared.reply.answer.Answer.TheVariants as answers
use Rattle.sessions.specs.declared.line.outcome.Outcome as made

-- ---- Answers and faults.

-- an answer is no fault
pub ok≢err : {A E : Type 0} (x : A) (e : E) → Ok x ≡ Err e → ⊥
ok≢err {A = A} {E = E} x e is = false≢true (sym (ap (λ (r : Result A E). let b : Bool = elim r [ Ok y ↦ true | Err f ↦ false ] in b) is))

-- equal faults
pub err_is : {A E : Type 0} (e f : E) → (let r : Result A E = Err e in r) ≡ Err f → e ≡ f
err_is {A = A} {E = E} e f is = ap (λ (r : Result A E). let x : E = elim r [ Ok y ↦ e | Err g ↦ g ] in x) is

-- equal answers
pub ok_is : {A E : Type 0} (a b : A) → (let r : Result A E = Ok a in r) ≡ Ok b → a ≡ b
ok_is {A = A} {E = E} a b is = ap (λ (r : Result A E). let x : A = elim r [ Ok y ↦ y | Err g ↦ a ] in x) is

-- ---- The chain of a name stands at its place.

-- a chain of the name is there exactly where one has a place
pub there_is : (t : Table) (name : List ℕ) (place : Option ℕ) → place ≡ position (is_named name) t.chains → has_chain t name ≡ is_some place
there_is t name place is = sym (any_is (is_named name) t.chains) ∙ ap is_some (sym is)

-- the chain of a name, by its place
pub record IsAt (t : Table) (name : List ℕ) (place : ℕ) : Type 0 where
  pub within : place < length t.chains
  pub there : has_chain t name ≡ true
  pub name_is : (chain_at t place).name ≡ name
  pub rules_are : rules_of t.chains name ≡ (chain_at t place).rules

named : (chain : Chain) (name : List ℕ) → is_named name chain ≡ true → chain.name ≡ name
named chain name is = (bytes_eq-Decides chain.name name).0 is

-- the rules are those of the first chain of the name
rules_at : (chains : List Chain) (name : List ℕ) (k : ℕ) (d : Chain) → k < length chains → is_named name (get_or chains k d) ≡ true
    → ((j : ℕ) → j < k → is_named name (get_or chains j d) ≡ false) → rules_of chains name ≡ (get_or chains k d).rules
rules_at [] name k d within is first = absurd (omega (arith, within))
rules_at (chain ∷ chains) name zero d within is first = ap (λ (b : Bool). cond b chain.rules (rules_of chains name)) is
rules_at (chain ∷ chains) name (suc k) d within is first =
    ap (λ (b : Bool). cond b chain.rules (rules_of chains name)) (first 0 (omega arith))
    ∙ rules_at chains name k d (omega (arith, within)) is (λ j below. first (suc j) (omega (arith, below)))

pub is_at : (t : Table) (name : List ℕ) (place : ℕ) → Some place ≡ position (is_named name) t.chains → IsAt t name place
is_at t name place is =
    let d : Chain = empty_chain [] in
    let at = position-Some (is_named name) t.chains place d (sym is) in
    record {
      within = at.0;
      there = there_is t name (Some place) is;
      name_is = named (chain_at t place) name at.1;
      rules_are = rules_at t.chains name place d at.0 at.1 at.2;
    }

-- ---- What the code makes of a line outside of restores is what the definition says.

-- an outcome of these parts
pub outcome_of : (said : Outcome) (new : TableView) (t : made.Outcome) (mode : Mode) (reply : Result Answer Fault) → t.mode ≡ mode → t.reply ≡ reply
    → said.table ≡ new.table → said.mode ≡ mode → IsReply new.table reply said.reply → HasChain new.table reply → IsOutcome said new t
outcome_of said new t mode reply s r table same printed place = record {
  table = table;
  mode = same ∙ sym s;
  reply = subst (λ (x : Result Answer Fault). IsReply new.table x said.reply) (sym r) printed;
  place = subst (HasChain new.table) (sym r) place;
}

-- one that prints nothing
pub silent_outcome : (new : TableView) (t : made.Outcome) (mode : Mode) → t.mode ≡ mode → t.reply ≡ Ok answers.Nothing → IsOutcome (silent new.table mode) new t
silent_outcome new t mode s r = outcome_of (silent new.table mode) new t mode (Ok answers.Nothing) s r refl refl refl tt

-- a refusal
pub fails_outcome : (new : TableView) (t : made.Outcome) (from : Mode) (fault : Fault) → t.mode ≡ after_fault from → t.reply ≡ Err fault → IsOutcome (fails new.table from fault) new t
fails_outcome new t from fault s r = outcome_of (fails new.table from fault) new t (after_fault from) (Err fault) s r refl refl refl tt

-- the same of a table that is the old one
pub fails_on : (old new : TableView) (t : made.Outcome) (from : Mode) (fault : Fault) → new ≡ old → t.mode ≡ after_fault from → t.reply ≡ Err fault
    → IsOutcome (fails old.table from fault) new t
fails_on old new t from fault same s r = subst (λ (x : TableView). IsOutcome (fails x.table from fault) new t) same (fails_outcome new t from fault s r)

-- Edits

-- an edit that was done
done : (given : Result Table TableFault) (old new : TableView) (u : Unit {0}) → Answers given old new (Ok u) → given ≡ Ok new.table
done (Ok t) old new u a = ap (λ (x : Table). Ok x) (sym a.1)
done (Err f) old new u a = absurd (ok≢err u f a.0)

done_of : (edit : Edit) (old new : TableView) (u : Unit {0}) (grows : Bool)
    → MatchBool grows (IsStepIfRoom edit old new (Ok u)) (Answers (table_step edit old.table) old new (Ok u)) → table_step edit old.table ≡ Ok new.table
done_of edit old new u true a = a.0
done_of edit old new u false a = done (table_step edit old.table) old new u a

pub edit_comes : (c : Command) (old new : TableView) (u : Unit {0}) (t : made.Outcome) → IsChange c → IsApplied c old new (Ok u) → t.mode ≡ Outside → t.reply ≡ Ok answers.Nothing
    → Comes (execute old.table (Ok (Run c))) Outside old new t
edit_comes (ListRules name) old new u t change applied s r = absurd change
edit_comes (Change edit) old new u t change applied s r =
    inl (subst (λ (x : Result Table TableFault). IsOutcome (edit_outcome old.table x) new t) (sym (done_of edit old new u (may_grow edit) applied)) (silent_outcome new t Outside s r))

-- an edit that was refused
refused : (given : Result Table TableFault) (old new : TableView) (f : TableFault) (t : made.Outcome) → Answers given old new (Err f)
    → t.mode ≡ Outside → t.reply ≡ Err (of_line (OfTable f)) → IsOutcome (edit_outcome old.table given) new t
refused (Ok x) old new f t a s r = absurd (ok≢err tt f (sym a.0))
refused (Err g) old new f t a s r = fails_on old new t Outside (of_line (OfTable g)) a.1 s (r ∙ ap (λ (x : TableFault). Err (of_line (OfTable x))) (err_is f g a.0))

refused_of : (edit : Edit) (old new : TableView) (f : TableFault) (t : made.Outcome) (grows : Bool)
    → MatchBool grows (IsStepIfRoom edit old new (Err f)) (Answers (table_step edit old.table) old new (Err f))
    → t.mode ≡ Outside → t.reply ≡ Err (of_line (OfTable f)) → Comes (edit_outcome old.table (table_step edit old.table)) Outside old new t
refused_of edit old new OutOfMemory t true a s r = inr (record { table = a.1.0; mode = s; reply = r })
refused_of edit old new f t true a s r =
    inl (subst (λ (x : Result Table TableFault). IsOutcome (edit_outcome old.table x) new t) (sym a.0) (fails_on old new t Outside (of_line (OfTable f)) a.1.0 s r))
refused_of edit old new f t false a s r = inl (refused (table_step edit old.table) old new f t a s r)

pub refused_comes : (c : Command) (old new : TableView) (f : TableFault) (t : made.Outcome) → IsChange c → IsApplied c old new (Err f) → t.mode ≡ Outside → t.reply ≡ Err (of_line (OfTable f))
    → Comes (execute old.table (Ok (Run c))) Outside old new t
refused_comes (ListRules name) old new f t change applied s r = absurd change
refused_comes (Change edit) old new f t change applied s r = refused_of edit old new f t (may_grow edit) applied s r

-- What is said of a chain

-- the chain is there
on_there : (v : TableView) (name text : List ℕ) (reply : Result Answer Fault) (t : made.Outcome) → has_chain v.table name ≡ true → t.mode ≡ Outside → t.reply ≡ reply
    → IsReply v.table reply (Says text) → HasChain v.table reply → IsOutcome (on_chain v.table (Some name) text) v t
on_there v name text reply t there s r printed place =
    subst (λ (b : Bool). IsOutcome (cond b (outcome_with v.table Outside (Says text)) (fails v.table Outside (of_line (OfTable NoSuchChain)))) v t) (sym there)
    (outcome_of (outcome_with v.table Outside (Says text)) v t Outside reply s r refl refl printed place)

-- no chain has the name
pub on_none : (v : TableView) (name text : List ℕ) (t : made.Outcome) → None ≡ position (is_named name) v.table.chains → t.mode ≡ Outside
    → t.reply ≡ Err (of_line (OfTable NoSuchChain)) → Comes (on_chain v.table (Some name) text) Outside v v t
on_none v name text t none s r =
    inl (subst (λ (b : Bool). IsOutcome (cond b (outcome_with v.table Outside (Says text)) (fails v.table Outside (of_line (OfTable NoSuchChain)))) v t) (sym (there_is v.table name None none))
    (fails_outcome v t Outside (of_line (OfTable NoSuchChain)) s r))

pub rules_comes : (v : TableView) (name : List ℕ) (place : ℕ) (t : made.Outcome) → Some place ≡ position (is_named name) v.table.chains → t.mode ≡ Outside
    → t.reply ≡ Ok (answers.Rules (Some place)) → Comes (on_chain v.table (Some name) (rules_listing v.table (Some name))) Outside v v t
rules_comes v name place t found s r =
    let at = is_at v.table name place found in
    inl (on_there v name (rules_listing v.table (Some name)) (Ok (answers.Rules (Some place))) t at.there s r
    (ap (λ (n : List ℕ). Says (rules_listing v.table (Some n))) (sym at.name_is)) at.within)

pub lines_comes : (v : TableView) (name : List ℕ) (place : ℕ) (t : made.Outcome) → Some place ≡ position (is_named name) v.table.chains → t.mode ≡ Outside
    → t.reply ≡ Ok (answers.Lines place) → Comes (on_chain v.table (Some name) (lines_reply (rules_of v.table.chains name))) Outside v v t
lines_comes v name place t found s r =
    let at = is_at v.table name place found in
    inl (on_there v name (lines_reply (rules_of v.table.chains name)) (Ok (answers.Lines place)) t at.there s r (ap (λ rules. Says (lines_reply rules)) at.rules_are) at.within)
