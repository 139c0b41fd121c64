-- Rules put where they may stand.
use Rattle.std.proofs.Common.{◌≡◌, inl, inr, true, ℕ, zero, suc, ◌<◌, ◌≤◌, List, [], ◌∷◌, ◌++◌, length, refl, sym, ◌∙◌, ap, arith, subst, Some, None, Result, Ok, Err}
use Rattle.std.specs.Prelude.{insert, slice_set}
use Rattle.std.specs.List.{position}
use Rattle.std.proofs.lemmas.Bool.{cases_Bool, cond-true, cond-false, le-leb, lt-leb}
use Rattle.std.proofs.lemmas.List.{length-set}
use Rattle.rules.specs.Printing.{TextReadsBack}
use Rattle.rules.specs.rule.Rules.{Rule}
use Rattle.table.specs.chains.Sound.{IsSound}
use Rattle.table.specs.chains.Table.{Table, TableView, chain_named_by, is_named, rules_of}
use Rattle.table.specs.edits.Edits.{Edit, Cause, TableFault, IsStepIfRoom, edited, fault_of, InterfaceNotAllowed, asks_absent_interface, changed, first_fault, full, rule_causes, target_causes}
use Rattle.table.specs.steps.Kept.{AreStored, name_in, stored_in, table_of, view_of, AnswersCauses}
use Rattle.table.specs.declared.parts.Parts.{Parts}
use Rattle.table.proofs.laws.chains.KeepLaws.{put_sound}
use Rattle.table.proofs.laws.chains.StepLaws.{none_holds, first_clear, target_clear, may_stand, insert_brings, replace_brings, room_by_name, few_by_name, insert_long, no_more}
use Rattle.table.proofs.laws.chains.StoreLaws.{place_is}
use Rattle.table.proofs.laws.edits.AnswerLaws.{count_found, name_found, passes, done_if_room, refused_if_room, no_room}

-- a fault of the first causes comes first
pub fault_first : (xs ys : List Cause) (f : TableFault) → first_fault xs ≡ Some f → first_fault (xs ++ ys) ≡ Some f
fault_first [] ys f e = absurd (cc)
fault_first (x ∷ xs) ys f e =
    elim (cases_Bool x.0) [
      | inl t ↦ cond-true x.0 _ _ t ∙ sym (cond-true x.0 (Some x.1) (first_fault xs) t) ∙ e
      | inr u ↦ cond-false x.0 _ _ u ∙ fault_first xs ys f (sym (cond-false x.0 (Some x.1) (first_fault xs) u) ∙ e)
    ]

-- where none of them holds, one of the others is told
pub fault_later : (xs ys : List Cause) → first_fault xs ≡ None → first_fault (xs ++ ys) ≡ first_fault ys
fault_later [] ys e = refl
fault_later (x ∷ xs) ys e =
    elim (cases_Bool x.0) [
      | inl t ↦ absurd (let z : Some x.1 ≡ None = sym (cond-true x.0 (Some x.1) (first_fault xs) t) ∙ e in cc)
      | inr u ↦ cond-false x.0 _ _ u ∙ fault_later xs ys (sym (cond-false x.0 (Some x.1) (first_fault xs) u) ∙ e)
    ]

-- how many rules the chain at a place has
pub count_at : (p : Parts) (i : ℕ) → AreStored p → i < length p.order.items → length (rules_of (table_of p).chains (name_in p i)) ≡ length (stored_in p i).entries
count_at p i s lt = count_found p (name_in p i) i lt (place_is p.policies p.chains.slots p.order.items (name_in p i) i s lt refl)

-- the chain is full
pub full_there : (p : Parts) (i n : ℕ) → AreStored p → i < length p.order.items → n ≡ length (stored_in p i).entries → 8192 ≤ n → (full (table_of p) (name_in p i)).0 ≡ true
full_there p i n s lt is many = le-leb 8192 _ (omega (arith, count_at p i s lt, is, many))

-- it has room, and the rule may stand there
pub none_put : (p : Parts) (i n : ℕ) (r : Rule) → AreStored p → i < length p.order.items → n ≡ length (stored_in p i).entries → n < 8192 → first_fault (rule_causes (table_of p) (name_in p i) r) ≡ None
    → first_fault (rule_causes (table_of p) (name_in p i) r ++ full (table_of p) (name_in p i) ∷ []) ≡ None
none_put p i n r s lt is few none =
    let end : Cause = full (table_of p) (name_in p i) in
    fault_later (rule_causes (table_of p) (name_in p i) r) (end ∷ []) none ∙ passes end [] (lt-leb 8192 _ (omega (arith, count_at p i s lt, is, few)))

-- a rule put in where it may leaves the table sound
pub put_is_sound : (t : Table) (c : List ℕ) (r : Rule) (at : ℕ) → TextReadsBack r → IsSound t → first_fault (rule_causes t c r ++ full t c ∷ []) ≡ None → IsSound (changed (λ rules. insert rules at r) c t)
put_is_sound t c r at reads s none =
    let end : List Cause = full t c ∷ [] in
    let h = none_holds (rule_causes t c r ++ end) none in
    let a = first_clear (asks_absent_interface c r, InterfaceNotAllowed) (target_causes t c (chain_named_by r) ++ end) h in
    let b = target_clear t c (chain_named_by r) end a.1 in
    let f = first_clear (full t c) [] b.1 in
    put_sound t c r (λ rules. insert rules at r) (insert_brings at r) (λ x there e. let lt : length x.rules < 8192 = room_by_name t c s f.0 x there e in omega (arith, lt, insert_long at r x.rules)) (may_stand t c r reads a.0 b.0)
    (λ name e. (b.0 name e).1) s

-- and so does one put over another
pub over_is_sound : (t : Table) (c : List ℕ) (r : Rule) (at : ℕ) → TextReadsBack r → IsSound t → first_fault (rule_causes t c r) ≡ None → IsSound (changed (λ rules. slice_set rules at r) c t)
over_is_sound t c r at reads s none =
    let h = none_holds (rule_causes t c r) none in
    let a = first_clear (asks_absent_interface c r, InterfaceNotAllowed) (target_causes t c (chain_named_by r)) h in
    let b = target_clear t c (chain_named_by r) [] (no_more t c (chain_named_by r) a.1) in
    put_sound t c r (λ rules. slice_set rules at r) (replace_brings at r) (λ x there e. let le : length x.rules ≤ 8192 = few_by_name t x s there in omega (arith, le, length-set x.rules at r)) (may_stand t c r reads a.0 b.0)
    (λ name e. (b.0 name e).1) s

-- put in at the end is put last
pub insert_last : (rules : List Rule) (r : Rule) (n : ℕ) → n ≡ length rules → insert rules n r ≡ rules ++ r ∷ []
insert_last [] r zero e = refl
insert_last [] r (suc n) e = absurd (omega (arith, e))
insert_last (x ∷ xs) r zero e = absurd (omega (arith, e))
insert_last (x ∷ xs) r (suc n) e = ap (λ (ys : List Rule). x ∷ ys) (insert_last xs r n (omega (arith, e)))

-- what a put answers is the step
pub put_step : (edit : Edit) {shown : TableView} (p new : Parts) (place : ℕ) (causes : List Cause) (f : List Rule → List Rule) (result : Result (Unit {0}) TableFault) → view_of p ≡ shown → fault_of edit (table_of p) ≡ first_fault causes
    → changed f (name_in p place) (table_of p) ≡ edited edit (table_of p) → AnswersCauses causes f p new place result → IsStepIfRoom edit shown (view_of new) result
put_step edit p new place causes f (Ok u) view fault is a = done_if_room edit view (view_of new) (fault ∙ a.0) (a.1 ∙ is)
put_step edit {shown} p new place causes f (Err g) view fault is a =
    let P : TableView → Type 0 = λ v. IsStepIfRoom edit shown v (Err g) in
    let Q : TableFault → Type 0 = λ h. IsStepIfRoom edit shown (view_of new) (Err h) in
    elim a.0 [
      | inl due ↦ subst P (sym (a.1 ∙ view)) (refused_if_room edit view g (fault ∙ due))
      | inr memory ↦ subst Q (sym memory.1) (no_room edit view (view_of new) a.1 (fault ∙ memory.0))
    ]

-- and of a chain that was found by its name
pub put_found : (edit : Edit) {shown : TableView} (p new : Parts) (name : List ℕ) (place : ℕ) (causes : List ℕ → List Cause) (f : List Rule → List Rule) (result : Result (Unit {0}) TableFault) → view_of p ≡ shown
    → place < length p.order.items → position (is_named name) (table_of p).chains ≡ Some place → fault_of edit (table_of p) ≡ first_fault (causes name) → changed f name (table_of p) ≡ edited edit (table_of p)
    → AnswersCauses (causes (name_in p place)) f p new place result → IsStepIfRoom edit shown (view_of new) result
put_found edit p new name place causes f result view lt at fault is a =
    let named : name_in p place ≡ name = name_found p name place lt at in
    put_step edit p new place (causes (name_in p place)) f result view (fault ∙ ap (λ (n : List ℕ). first_fault (causes n)) (sym named)) (ap (λ (n : List ℕ). changed f n (table_of p)) named ∙ is) a
