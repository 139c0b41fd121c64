-- What the edits of one chain's rules leave: its table, its boxes, its edges, and all chains emptied.
use Rattle.std.proofs.Common.{◌≡◌, inl, ℕ, Bool, true, false, refl, suc, ◌+◌, ◌^◌, ◌<◌, ◌≤◌, cond, List, [], ◌∷◌, length, get_or, take, drop, map, sym, ◌∙◌, ap, arith, subst, Option, Some, None, All, unwrap_or, inr}
use Rattle.std.specs.Prelude.{count_by, insert, remove, slice_set}
use Rattle.std.proofs.lemmas.Option.{same_Some, none-some}
use Rattle.std.proofs.Math.ListN.{set}
use Rattle.std.proofs.lemmas.List.{map-set}
use Rattle.std.proofs.lemmas.List.Sums.{sum_by-insert, sum_by-remove, sum_by-set, sum_by_more, sum_by_more_le}
use Rattle.std.proofs.lemmas.List.Elements.{All-append, All-cons, All-take, All-drop, All-set, All-nil}
use Rattle.std.specs.Option.{IfSome, IsSome}
use Rattle.std.proofs.lemmas.Bool.{eq-eqb, cases_eq}
use Rattle.rules.specs.rule.Actions.{target_of}
use Rattle.rules.specs.rule.Rules.{Rule}
use Rattle.rules.specs.declared.rule.target.Target.{Target}
use Rattle.rules.specs.declared.rule.target.Target.TheVariants as target
use Rattle.table.specs.edits.Edits.{MakesBoxes, changed, FlushAll, edited}
use Rattle.table.specs.chains.Sound.{IsSound}
use Rattle.table.specs.chains.Table.{Policy, Table, Chain, chain_in, chain_named_by, empty_chain}
use Rattle.table.specs.steps.StoredChains.{StoredChain, rule_in, rules_in, leads_to, is_key, key_in, flow_of, ones, IsClassified, AreDistinct, AreEdges, CountsMore, CountsFewer}
use Rattle.table.specs.steps.Kept.{blank, slot_at, stored_at, name_at, table_with, leading_in, leading, references_at, AreRecounted, CountsInAndOut, IsIn, IsUser, LinksTo, IsLinked, IsStored, IsKept}
use Rattle.table.specs.declared.chain.entry.Entry.{Entry}
use Rattle.table.specs.declared.chain.edges.Edge.{Edge}
use Rattle.table.proofs.laws.chains.StoreLaws.{map_insert, map_remove, Found, found_key, some_set, listed_set, stored_set, key_within, stored_set_same, stored_set_other, set_some, listed_by}
use Rattle.table.proofs.laws.chains.StepLaws.{remove_keeps, remove_fewer, flush_sound, flush_all_sound}
use Rattle.table.proofs.laws.chains.KeepLaws.{take_sound}
use Rattle.table.proofs.laws.chains.CountLaws.{part_kept, count_has_room, leading_part, found_leading, leading_recounted, listed_recounted, stored_recounted, counted_moved}

-- ---- How many boxes were made.

-- none was made, whether or not one was asked for
pub none_made : (asks : Bool) (boxes : ℕ) → MakesBoxes asks boxes boxes
none_made true boxes = inl refl
none_made false boxes = refl

-- ---- What the edits of one chain's rules leave.

-- an edit of one chain's rules
pub table_set : (ps : List Policy) (slots : List (Option StoredChain)) (order : List ℕ) (i key : ℕ) (stored_chain new : StoredChain) (edit : List Rule → List Rule) → Found ps slots order i key stored_chain → new.name ≡ stored_chain.name → rules_in new ≡ edit (rules_in stored_chain)
    → table_with ps (set slots key (Some new)) order ≡ changed edit stored_chain.name (table_with ps slots order)
table_set ps slots order i key stored_chain new edit f named rules = let P : List Chain → Table = λ (cs : List Chain). record { policies = ps; chains = cs } in ap P (listed_set ps slots order i key stored_chain new edit f named rules)

-- the name of the chain
pub found_name : (ps : List Policy) (slots : List (Option StoredChain)) (order : List ℕ) (i key : ℕ) (stored_chain : StoredChain) → Found ps slots order i key stored_chain → name_at slots order i ≡ stored_chain.name
found_name ps slots order i key stored_chain f = ap (λ (k : ℕ). (stored_at slots k).name) f.at ∙ ap (λ (r : StoredChain). r.name) f.is

-- the rules of a chain are edited, and the counts follow
pub kept_edit : (ps : List Policy) (slots after : List (Option StoredChain)) (order : List ℕ) (i key : ℕ) (stored_chain new : StoredChain) (edit : List Rule → List Rule) (more fewer : Option ℕ) → IsKept ps slots order → Found ps slots order i key stored_chain → new.name ≡ stored_chain.name → new.references ≡ stored_chain.references
    → rules_in new ≡ edit (rules_in stored_chain) → All (IsLinked slots order) new.entries → IsClassified new → IsSound (changed edit stored_chain.name (table_with ps slots order))
    → ((k : ℕ) → leading_in k new + ones (is_key k fewer) ≡ leading_in k stored_chain + ones (is_key k more))
    → AreRecounted (set slots key (Some new)) after → CountsInAndOut more fewer (references_at (set slots key (Some new))) (references_at after) → IsKept ps after order
kept_edit ps slots after order i key stored_chain new edit more fewer h f named refs rules linked classified sound lead same counts =
    let first : List (Option StoredChain) = set slots key (Some new) in
    let stored : IsStored ps first order = stored_set ps slots order i key stored_chain new (changed edit stored_chain.name (table_with ps slots order)) f named linked classified (table_set ps slots order i key stored_chain new edit f named rules) sound in
    record {
      stored = stored_recounted ps first after order same stored;
      counted = counted_moved slots after order more fewer
          (λ k. let a = counts k in let b : references_at first k ≡ references_at slots k = part_kept slots key stored_chain new (λ (r : StoredChain). r.references) f.slot refs k in omega (arith, a, b))
          (λ k. let a = lead k in let b = found_leading ps slots order i key k stored_chain new f in let c = leading_recounted first after order k same in omega (arith, a, b, c)) h.counted;
    }

-- and the table is the edited one
pub table_edit : (ps : List Policy) (slots after : List (Option StoredChain)) (order : List ℕ) (i key : ℕ) (stored_chain new : StoredChain) (edit : List Rule → List Rule) → Found ps slots order i key stored_chain → new.name ≡ stored_chain.name
    → rules_in new ≡ edit (rules_in stored_chain) → AreRecounted (set slots key (Some new)) after → table_with ps after order ≡ changed edit stored_chain.name (table_with ps slots order)
table_edit ps slots after order i key stored_chain new edit f named rules same =
    let P : List Chain → Table = λ (cs : List Chain). record { policies = ps; chains = cs } in ap P (listed_recounted (set slots key (Some new)) after order same) ∙ table_set ps slots order i key stored_chain new edit f named rules

-- what an edit does to the count of the rules that lead to a chain
pub leads_in : (es : List Entry) (n : ℕ) (e : Entry) (k : ℕ) → count_by (λ (x : Entry). leads_to k x.flow) (insert es n e) ≡ count_by (λ (x : Entry). leads_to k x.flow) es + ones (is_key k (key_in e.flow))
leads_in es n e k = sum_by-insert (λ (x : Entry). cond (leads_to k x.flow) 1 0) es n e

pub leads_out : (es : List Entry) (n : ℕ) (d : Entry) (k : ℕ) → n < length es → count_by (λ (x : Entry). leads_to k x.flow) (remove es n) + ones (is_key k (key_in (get_or es n d).flow)) ≡ count_by (λ (x : Entry). leads_to k x.flow) es
leads_out es n d k lt = sum_by-remove (λ (x : Entry). cond (leads_to k x.flow) 1 0) es n d lt

pub leads_over : (es : List Entry) (n : ℕ) (e d : Entry) (k : ℕ) → n < length es
    → count_by (λ (x : Entry). leads_to k x.flow) (slice_set es n e) + ones (is_key k (key_in (get_or es n d).flow)) ≡ count_by (λ (x : Entry). leads_to k x.flow) es + ones (is_key k (key_in e.flow))
leads_over es n e d k lt = sum_by-set (λ (x : Entry). cond (leads_to k x.flow) 1 0) es n e d lt

-- The chain that a rule leads to

link_of : (slots : List (Option StoredChain)) (order : List ℕ) (k : ℕ) (o : Option Target) (to : ℕ) → LinksTo slots order to (chain_in o) → key_in (flow_of o to) ≡ Some k → IsUser order k × (chain_in o ≡ Some (stored_at slots k).name)
link_of slots order k None to h q = absurd (none-some _ q)
link_of slots order k (Some target.Log) to h q = absurd (none-some _ q)
link_of slots order k (Some target.Accept) to h q = absurd (none-some _ q)
link_of slots order k (Some target.Drop) to h q = absurd (none-some _ q)
link_of slots order k (Some (target.Reject kind)) to h q = absurd (none-some _ q)
link_of slots order k (Some target.Return) to h q = absurd (none-some _ q)
link_of slots order k (Some (target.Jump n)) to h q =
    let P : ℕ → Type 0 = λ j. IsUser order j × (Some n ≡ Some (stored_at slots j).name) in subst P (same_Some _ _ q) (h.0, ap Some (sym h.1))
link_of slots order k (Some (target.Goto n)) to h q =
    let P : ℕ → Type 0 = λ j. IsUser order j × (Some n ≡ Some (stored_at slots j).name) in subst P (same_Some _ _ q) (h.0, ap Some (sym h.1))

-- it is a user chain
pub link_user : (slots : List (Option StoredChain)) (order : List ℕ) (e : Entry) (k : ℕ) → IsLinked slots order e → key_in e.flow ≡ Some k → IsUser order k
link_user slots order e k l is = (link_of slots order k (target_of e.rule) l.0 l.2 (sym (ap key_in l.1) ∙ is)).0

-- the rule names it
pub link_named : (slots : List (Option StoredChain)) (order : List ℕ) (e : Entry) (k : ℕ) → IsLinked slots order e → key_in e.flow ≡ Some k → chain_named_by e.rule ≡ Some (stored_at slots k).name
link_named slots order e k l is = (link_of slots order k (target_of e.rule) l.0 l.2 (sym (ap key_in l.1) ∙ is)).1

pub if_some : {X : Type 0} (o : Option X) (P : X → Type 0) → ((x : X) → o ≡ Some x → P x) → IfSome o P
if_some None P h = tt
if_some (Some x) P h = h x refl

-- it is there, and so with another chain changed
link_there : (ps : List Policy) (slots : List (Option StoredChain)) (order : List ℕ) (i key k : ℕ) (stored_chain new : StoredChain) → Found ps slots order i key stored_chain → IsUser order k → IsSome (slot_at (set slots key (Some new)) k)
link_there ps slots order i key k stored_chain new f u =
    let P : ℕ → Type 0 = λ j. IsSome (slot_at slots j) in some_set slots key k new f.within (subst P u.3 (f.stored.present u.0 u.2))

-- one more can be counted there
pub counts_in_there : (ps : List Policy) (slots : List (Option StoredChain)) (order : List ℕ) (i key : ℕ) (stored_chain new : StoredChain) (e : Entry) (link : Option ℕ) → IsKept ps slots order → Found ps slots order i key stored_chain → new.references ≡ stored_chain.references → IsLinked slots order e → link ≡ key_in e.flow
    → IfSome link (λ k. IsSome (slot_at (set slots key (Some new)) k) × (references_at (set slots key (Some new)) k + 1 < 2 ^ 64))
counts_in_there ps slots order i key stored_chain new e link h f refs l is =
    if_some link _ (λ k at.
    (let u : IsUser order k = link_user slots order e k l (sym is ∙ at) in
    let a : references_at (set slots key (Some new)) k ≡ references_at slots k = part_kept slots key stored_chain new (λ (r : StoredChain). r.references) f.slot refs k in
    let b : references_at slots k + 1 < 2 ^ 64 = count_has_room ps slots order k h.stored h.counted (u.0, u.2, u.3) in
    (link_there ps slots order i key k stored_chain new f u, omega (arith, a, b))))

-- one was counted there
pub counts_out_there : (ps : List Policy) (slots : List (Option StoredChain)) (order : List ℕ) (i key n : ℕ) (stored_chain new : StoredChain) (e : Entry) (link : Option ℕ) → IsKept ps slots order → Found ps slots order i key stored_chain → new.references ≡ stored_chain.references
    → n < length stored_chain.entries → get_or stored_chain.entries n e ≡ e → link ≡ key_in e.flow → IfSome link (λ k. IsSome (slot_at (set slots key (Some new)) k) × (0 < references_at (set slots key (Some new)) k))
counts_out_there ps slots order i key n stored_chain new e link h f refs lt own is =
    let Q : StoredChain → Type 0 = λ (r : StoredChain). All (IsLinked slots order) r.entries in
    let all : All (IsLinked slots order) stored_chain.entries = subst Q (ap (stored_at slots) f.at ∙ f.is) (f.stored.linked i f.place) in
    let l : IsLinked slots order e = subst (IsLinked slots order) own (all n e lt) in
    if_some link _ (λ k at.
    (let u : IsUser order k = link_user slots order e k l (sym is ∙ at) in
    let P : ℕ → Type 0 = λ j. references_at slots j ≡ leading slots order j in
    let a : references_at (set slots key (Some new)) k ≡ references_at slots k = part_kept slots key stored_chain new (λ (r : StoredChain). r.references) f.slot refs k in
    let b : references_at slots k ≡ leading slots order k = subst P u.3 (h.counted u.0 u.2) in
    let c : leading_in k (stored_at slots (get_or order i 0)) ≤ leading slots order k = leading_part slots order i k f.place in
    let d : leading_in k (stored_at slots (get_or order i 0)) ≡ leading_in k stored_chain = ap (leading_in k) (ap (stored_at slots) f.at ∙ f.is) in
    let g = leads_out stored_chain.entries n e k lt in
    let one : ones (is_key k (key_in (get_or stored_chain.entries n e).flow)) ≡ 1 = ap (λ (x : Entry). ones (is_key k (key_in x.flow))) own ∙ ap (λ (o : Option ℕ). ones (is_key k o)) (sym is ∙ at) ∙ ap ones (eq-eqb k k refl) in
    (link_there ps slots order i key k stored_chain new f u, omega (arith, a, b, c, d, g, one))))

-- The three edits of a rule

rules_of_entries : (es fs : List Entry) (gs : List Rule) → es ≡ fs → map rule_in fs ≡ gs → map rule_in es ≡ gs
rules_of_entries es fs gs e f = ap (map rule_in) e ∙ f

all_linked : (ps : List Policy) (slots : List (Option StoredChain)) (order : List ℕ) (i key : ℕ) (stored_chain : StoredChain) → Found ps slots order i key stored_chain → All (IsLinked slots order) stored_chain.entries
all_linked ps slots order i key stored_chain f = let Q : StoredChain → Type 0 = λ (r : StoredChain). All (IsLinked slots order) r.entries in subst Q (ap (stored_at slots) f.at ∙ f.is) (f.stored.linked i f.place)

sound_named : (ps : List Policy) (slots : List (Option StoredChain)) (order : List ℕ) (i key : ℕ) (stored_chain : StoredChain) (edit : List Rule → List Rule) → Found ps slots order i key stored_chain → IsSound (changed edit (name_at slots order i) (table_with ps slots order)) → IsSound (changed edit stored_chain.name (table_with ps slots order))
sound_named ps slots order i key stored_chain edit f s = let P : List ℕ → Type 0 = λ n. IsSound (changed edit n (table_with ps slots order)) in subst P (found_name ps slots order i key stored_chain f) s

-- what a chain is in which a rule was put at a place
pub record IsPutIn (stored_chain new : StoredChain) (at : ℕ) (e : Entry) : Type 0 where
  pub name : new.name ≡ stored_chain.name
  pub references : new.references ≡ stored_chain.references
  pub entries : new.entries ≡ insert stored_chain.entries at e
  pub classified : IsClassified new

pub put_kept : (ps : List Policy) (slots after : List (Option StoredChain)) (order : List ℕ) (i key at : ℕ) (stored_chain new : StoredChain) (e : Entry) (link : Option ℕ) → IsKept ps slots order → Found ps slots order i key stored_chain → IsPutIn stored_chain new at e → IsLinked slots order e → link ≡ key_in e.flow
    → IsSound (changed (λ rules. insert rules at e.rule) (name_at slots order i) (table_with ps slots order)) → AreRecounted (set slots key (Some new)) after
    → CountsInAndOut link None (references_at (set slots key (Some new))) (references_at after) → IsKept ps after order
put_kept ps slots after order i key at stored_chain new e link h f p l is sound same counts =
    let Q : List Entry → Type 0 = λ (es : List Entry). All (IsLinked slots order) es in
    let all : All (IsLinked slots order) stored_chain.entries = all_linked ps slots order i key stored_chain f in
    kept_edit ps slots after order i key stored_chain new (λ rules. insert rules at e.rule) link None h f p.name p.references (rules_of_entries new.entries (insert stored_chain.entries at e) _ p.entries (map_insert rule_in stored_chain.entries at e))
    (subst Q (sym p.entries) (All-append (IsLinked slots order) (take at stored_chain.entries) (e ∷ drop at stored_chain.entries) (All-take (IsLinked slots order) at stored_chain.entries all) (All-cons (IsLinked slots order) e (drop at stored_chain.entries) l (All-drop (IsLinked slots order) at stored_chain.entries all))))
    p.classified (sound_named ps slots order i key stored_chain (λ rules. insert rules at e.rule) f sound)
    (λ k. let a : leading_in k new ≡ leading_in k stored_chain + ones (is_key k (key_in e.flow)) = ap (λ (es : List Entry). count_by (λ (x : Entry). leads_to k x.flow) es) p.entries ∙ leads_in stored_chain.entries at e k in
    omega (arith, a, ap (λ (o : Option ℕ). ones (is_key k o)) is)) same counts

pub put_table : (ps : List Policy) (slots after : List (Option StoredChain)) (order : List ℕ) (i key at : ℕ) (stored_chain new : StoredChain) (e : Entry) → Found ps slots order i key stored_chain → IsPutIn stored_chain new at e → AreRecounted (set slots key (Some new)) after
    → table_with ps after order ≡ changed (λ rules. insert rules at e.rule) (name_at slots order i) (table_with ps slots order)
put_table ps slots after order i key at stored_chain new e f p same =
    table_edit ps slots after order i key stored_chain new (λ rules. insert rules at e.rule) f p.name (rules_of_entries new.entries (insert stored_chain.entries at e) _ p.entries (map_insert rule_in stored_chain.entries at e)) same
    ∙ ap (λ n. changed (λ rules. insert rules at e.rule) n (table_with ps slots order)) (sym (found_name ps slots order i key stored_chain f))

-- what a chain is in which a rule was put over the one at a place
pub record IsPutOver (stored_chain new : StoredChain) (at : ℕ) (e : Entry) : Type 0 where
  pub name : new.name ≡ stored_chain.name
  pub references : new.references ≡ stored_chain.references
  pub entries : new.entries ≡ slice_set stored_chain.entries at e
  pub classified : IsClassified new

pub over_kept : (ps : List Policy) (slots after : List (Option StoredChain)) (order : List ℕ) (i key at : ℕ) (stored_chain new : StoredChain) (e d : Entry) (link before : Option ℕ) → IsKept ps slots order → Found ps slots order i key stored_chain → at < length stored_chain.entries → IsPutOver stored_chain new at e → IsLinked slots order e → link ≡ key_in e.flow
    → before ≡ key_in (get_or stored_chain.entries at d).flow
    → IsSound (changed (λ rules. slice_set rules at e.rule) (name_at slots order i) (table_with ps slots order)) → AreRecounted (set slots key (Some new)) after
    → CountsInAndOut link before (references_at (set slots key (Some new))) (references_at after) → IsKept ps after order
over_kept ps slots after order i key at stored_chain new e d link before h f lt p l is was sound same counts =
    let Q : List Entry → Type 0 = λ (es : List Entry). All (IsLinked slots order) es in
    kept_edit ps slots after order i key stored_chain new (λ rules. slice_set rules at e.rule) link before h f p.name p.references (rules_of_entries new.entries (slice_set stored_chain.entries at e) _ p.entries (map-set rule_in stored_chain.entries at e))
    (subst Q (sym p.entries) (All-set (IsLinked slots order) stored_chain.entries at e l (all_linked ps slots order i key stored_chain f)))
    p.classified (sound_named ps slots order i key stored_chain (λ rules. slice_set rules at e.rule) f sound)
    (λ k. let a = ap (λ (es : List Entry). count_by (λ (x : Entry). leads_to k x.flow) es) p.entries in let b = leads_over stored_chain.entries at e d k lt in
    omega (arith, a, b, ap (λ (o : Option ℕ). ones (is_key k o)) is, ap (λ (o : Option ℕ). ones (is_key k o)) was)) same counts

pub over_table : (ps : List Policy) (slots after : List (Option StoredChain)) (order : List ℕ) (i key at : ℕ) (stored_chain new : StoredChain) (e : Entry) → Found ps slots order i key stored_chain → IsPutOver stored_chain new at e → AreRecounted (set slots key (Some new)) after
    → table_with ps after order ≡ changed (λ rules. slice_set rules at e.rule) (name_at slots order i) (table_with ps slots order)
over_table ps slots after order i key at stored_chain new e f p same =
    table_edit ps slots after order i key stored_chain new (λ rules. slice_set rules at e.rule) f p.name (rules_of_entries new.entries (slice_set stored_chain.entries at e) _ p.entries (map-set rule_in stored_chain.entries at e)) same
    ∙ ap (λ n. changed (λ rules. slice_set rules at e.rule) n (table_with ps slots order)) (sym (found_name ps slots order i key stored_chain f))

-- what a chain is of which the rule at a place was taken out
pub record IsTakenOut (stored_chain new : StoredChain) (at : ℕ) : Type 0 where
  pub name : new.name ≡ stored_chain.name
  pub references : new.references ≡ stored_chain.references
  pub entries : new.entries ≡ remove stored_chain.entries at
  pub classified : IsClassified new

pub out_kept : (ps : List Policy) (slots after : List (Option StoredChain)) (order : List ℕ) (i key at : ℕ) (stored_chain new : StoredChain) (d : Entry) (before : Option ℕ) → IsKept ps slots order → Found ps slots order i key stored_chain → at < length stored_chain.entries → IsTakenOut stored_chain new at
    → before ≡ key_in (get_or stored_chain.entries at d).flow → AreRecounted (set slots key (Some new)) after
    → CountsInAndOut None before (references_at (set slots key (Some new))) (references_at after) → IsKept ps after order
out_kept ps slots after order i key at stored_chain new d before h f lt p was same counts =
    let Q : List Entry → Type 0 = λ (es : List Entry). All (IsLinked slots order) es in
    let all : All (IsLinked slots order) stored_chain.entries = all_linked ps slots order i key stored_chain f in
    kept_edit ps slots after order i key stored_chain new (λ rules. remove rules at) None before h f p.name p.references (rules_of_entries new.entries (remove stored_chain.entries at) _ p.entries (map_remove rule_in stored_chain.entries at))
    (subst Q (sym p.entries) (All-append (IsLinked slots order) (take at stored_chain.entries) (drop (suc at) stored_chain.entries) (All-take (IsLinked slots order) at stored_chain.entries all) (All-drop (IsLinked slots order) (suc at) stored_chain.entries all)))
    p.classified (take_sound (table_with ps slots order) stored_chain.name (λ rules. remove rules at) (remove_keeps at) (remove_fewer at) f.stored.sound)
    (λ k. let a = ap (λ (es : List Entry). count_by (λ (x : Entry). leads_to k x.flow) es) p.entries in let b = leads_out stored_chain.entries at d k lt in
    omega (arith, a, b, ap (λ (o : Option ℕ). ones (is_key k o)) was)) same counts

pub out_table : (ps : List Policy) (slots after : List (Option StoredChain)) (order : List ℕ) (i key at : ℕ) (stored_chain new : StoredChain) → Found ps slots order i key stored_chain → IsTakenOut stored_chain new at → AreRecounted (set slots key (Some new)) after
    → table_with ps after order ≡ changed (λ rules. remove rules at) (name_at slots order i) (table_with ps slots order)
out_table ps slots after order i key at stored_chain new f p same =
    table_edit ps slots after order i key stored_chain new (λ rules. remove rules at) f p.name (rules_of_entries new.entries (remove stored_chain.entries at) _ p.entries (map_remove rule_in stored_chain.entries at)) same
    ∙ ap (λ n. changed (λ rules. remove rules at) n (table_with ps slots order)) (sym (found_name ps slots order i key stored_chain f))

-- two counts, one after the other
pub recounted_on : (a b c : List (Option StoredChain)) → AreRecounted a b → AreRecounted b c → AreRecounted a c
recounted_on a b c r s = record { present = λ k h. s.present k (r.present k h); no_more = λ k h. r.no_more k (s.no_more k h); name = λ k. s.name k ∙ r.name k; entries = λ k. s.entries k ∙ r.entries k; classifier = λ k. s.classifier k ∙ r.classifier k }

pub counts_on : (more fewer : Option ℕ) (f g h : ℕ → ℕ) → CountsInAndOut more None f g → CountsInAndOut None fewer g h → CountsInAndOut more fewer f h
counts_on more fewer f g h a b k = omega (arith, a k, b k)

-- the one counted out is there still after another was counted in
pub counts_out_after : (first second : List (Option StoredChain)) (link before : Option ℕ) → AreRecounted first second → CountsInAndOut link None (references_at first) (references_at second)
    → IfSome before (λ k. IsSome (slot_at first k) × (0 < references_at first k)) → IfSome before (λ k. IsSome (slot_at second k) × (0 < references_at second k))
counts_out_after first second link None r c h = tt
counts_out_after first second link (Some k) r c h = (r.present k h.0, omega (arith, h.1, c k))

-- the same policies and index
pub kept_same : {ps qs : List Policy} {order keys : List ℕ} (slots : List (Option StoredChain)) → qs ≡ ps → keys ≡ order → IsKept ps slots order → IsKept qs slots keys
kept_same {ps} {qs} {order} {keys} slots p o h =
    let P : List Policy → Type 0 = λ x. IsKept x slots keys in
    let Q : List ℕ → Type 0 = λ x. IsKept ps slots x in
    subst P (sym p) (subst Q (sym o) h)

-- A chain is emptied

pub empty_kept : (ps : List Policy) (slots counted : List (Option StoredChain)) (order : List ℕ) (i key : ℕ) (stored_chain now new : StoredChain) → IsKept ps slots order → Found ps slots order i key stored_chain → AreRecounted slots counted → slot_at counted key ≡ Some now
    → ((k : ℕ) → references_at counted k + leading_in k stored_chain ≡ references_at slots k) → new.name ≡ now.name → new.references ≡ now.references → new.entries ≡ [] → IsClassified new → IsKept ps (set counted key (Some new)) order
empty_kept ps slots counted order i key stored_chain now new h f same is counts named refs none classified =
    let stored : IsStored ps counted order = stored_recounted ps slots counted order same f.stored in
    let g : Found ps counted order i key now = found_key ps counted order i key now stored f.place f.at is in
    let Q : List Entry → Type 0 = λ (es : List Entry). All (IsLinked counted order) es in
    let after : List (Option StoredChain) = set counted key (Some new) in
    record {
      stored = stored_set ps counted order i key now new (changed (λ rules. []) now.name (table_with ps counted order)) g named (subst Q (sym none) (All-nil (IsLinked counted order))) classified
          (table_set ps counted order i key now new (λ rules. []) g named (ap (map rule_in) none)) (flush_sound (table_with ps counted order) now.name stored.sound);
      counted = λ j lt.
          (let k : ℕ = get_or order j 0 in
          let a : references_at after k ≡ references_at counted k = part_kept counted key now new (λ (r : StoredChain). r.references) is refs k in
          let b : references_at slots k ≡ leading slots order k = h.counted j lt in
          let c : leading after order k + leading_in k now ≡ leading counted order k + leading_in k new = found_leading ps counted order i key k now new g in
          let d : leading_in k new ≡ 0 = ap (λ (es : List Entry). count_by (λ (x : Entry). leads_to k x.flow) es) none in
          let e : leading_in k now ≡ leading_in k stored_chain = ap (λ (r : StoredChain). leading_in k r) (sym g.is) ∙ ap (λ (es : List Entry). count_by (λ (x : Entry). leads_to k x.flow) es) (same.entries key) ∙ ap (leading_in k) f.is in
          let l : leading counted order k ≡ leading slots order k = leading_recounted slots counted order k same in
          omega (arith, a, b, c, d, e, l, counts k));
    }

pub empty_table : (ps : List Policy) (slots counted : List (Option StoredChain)) (order : List ℕ) (i key : ℕ) (stored_chain now new : StoredChain) → Found ps slots order i key stored_chain → AreRecounted slots counted → slot_at counted key ≡ Some now → new.name ≡ now.name → new.entries ≡ []
    → table_with ps (set counted key (Some new)) order ≡ changed (λ rules. []) (name_at slots order i) (table_with ps slots order)
empty_table ps slots counted order i key stored_chain now new f same is named none =
    let stored : IsStored ps counted order = stored_recounted ps slots counted order same f.stored in
    let g : Found ps counted order i key now = found_key ps counted order i key now stored f.place f.at is in
    let P : List Chain → Table = λ (cs : List Chain). record { policies = ps; chains = cs } in
    table_set ps counted order i key now new (λ rules. []) g named (ap (map rule_in) none)
    ∙ ap (λ n. changed (λ rules. []) n (table_with ps counted order)) (ap (λ (r : StoredChain). r.name) (sym g.is) ∙ same.name key ∙ ap (λ (k : ℕ). (stored_at slots k).name) (sym f.at))
    ∙ ap (λ (cs : List Chain). changed (λ rules. []) (name_at slots order i) (P cs)) (listed_recounted slots counted order same)

-- the rules of the chain that was looked up
pub found_entries : (ps : List Policy) (slots : List (Option StoredChain)) (order : List ℕ) (i key : ℕ) (stored_chain : StoredChain) → Found ps slots order i key stored_chain → (stored_at slots (get_or order i 0)).entries ≡ stored_chain.entries
found_entries ps slots order i key stored_chain f = ap (λ (r : StoredChain). r.entries) (ap (stored_at slots) f.at ∙ f.is)

-- Rules counted out one after another

-- the entry of a chain whose counts were changed
pub entry_now : (slots now : List (Option StoredChain)) (key at : ℕ) (stored_chain : StoredChain) (e : Entry) → AreRecounted slots now → slot_at now key ≡ Some stored_chain → e ≡ get_or stored_chain.entries at e → get_or (stored_at slots key).entries at e ≡ e
entry_now slots now key at stored_chain e same is own =
    ap (λ (es : List Entry). get_or es at e) (sym (same.entries key) ∙ ap (λ (o : Option StoredChain). (unwrap_or o blank).entries) is) ∙ sym own

-- the next one can be counted out
pub next_there : (ps : List Policy) (slots now : List (Option StoredChain)) (order : List ℕ) (key at : ℕ) (e : Entry) (link : Option ℕ) → IsKept ps slots order → IsIn order key → AreRecounted slots now → at < length (stored_at slots key).entries
    → get_or (stored_at slots key).entries at e ≡ e → link ≡ key_in e.flow
    → ((k : ℕ) → references_at now k + count_by (λ (x : Entry). leads_to k x.flow) (take at (stored_at slots key).entries) ≡ references_at slots k)
    → IfSome link (λ k. IsSome (slot_at now k) × (0 < references_at now k))
next_there ps slots now order key at e link h inn same lt own is counts =
    let es : List Entry = (stored_at slots key).entries in
    let A : ℕ → Type 0 = λ j. All (IsLinked slots order) (stored_at slots j).entries in
    let all : All (IsLinked slots order) es = subst A inn.2 (h.stored.linked inn.0 inn.1) in
    let l : IsLinked slots order e = subst (IsLinked slots order) own (all at e lt) in
    if_some link _ (λ k to.
    (let u : IsUser order k = link_user slots order e k l (sym is ∙ to) in
    let P : ℕ → Type 0 = λ j. IsSome (slot_at slots j) in
    let R : ℕ → Type 0 = λ j. references_at slots j ≡ leading slots order j in
    let L : ℕ → Type 0 = λ j. leading_in k (stored_at slots j) ≤ leading slots order k in
    let a : references_at slots k ≡ leading slots order k = subst R u.3 (h.counted u.0 u.2) in
    let b : leading_in k (stored_at slots key) ≤ leading slots order k = subst L inn.2 (leading_part slots order inn.0 k inn.1) in
    let c = sum_by_more_le (λ (x : Entry). cond (leads_to k x.flow) 1 0) es at e lt in
    let one : ones (leads_to k (get_or es at e).flow) ≡ 1 = ap (λ (x : Entry). ones (is_key k (key_in x.flow))) own ∙ ap (λ (o : Option ℕ). ones (is_key k o)) (sym is ∙ to) ∙ ap ones (eq-eqb k k refl) in
    (same.present k (subst P u.3 (h.stored.present u.0 u.2)), omega (arith, a, b, c, one, counts k))))

-- and the counts are right after it
pub next_counted : (slots now new : List (Option StoredChain)) (key at : ℕ) (e : Entry) (link : Option ℕ) → at < length (stored_at slots key).entries → get_or (stored_at slots key).entries at e ≡ e → link ≡ key_in e.flow
    → ((k : ℕ) → references_at now k + count_by (λ (x : Entry). leads_to k x.flow) (take at (stored_at slots key).entries) ≡ references_at slots k)
    → CountsInAndOut None link (references_at now) (references_at new) → (k : ℕ)
    → references_at new k + count_by (λ (x : Entry). leads_to k x.flow) (take (at + 1) (stored_at slots key).entries) ≡ references_at slots k
next_counted slots now new key at e link lt own is counts c k =
    let es : List Entry = (stored_at slots key).entries in
    let a = sum_by_more (λ (x : Entry). cond (leads_to k x.flow) 1 0) es at e lt in
    let b : ones (leads_to k (get_or es at e).flow) ≡ ones (is_key k link) = ap (λ (x : Entry). ones (is_key k (key_in x.flow))) own ∙ ap (λ (o : Option ℕ). ones (is_key k o)) (sym is) in
    omega (arith, a, b, counts k, c k)

-- ---- The edges of a chain after an edit of its rules.

pub edges_inserted : (es : List Entry) (edges new : List Edge) (n : ℕ) (e : Entry) (link : Option ℕ) → AreEdges es edges → link ≡ key_in e.flow → AreDistinct new → CountsMore link edges new → AreEdges (insert es n e) new
edges_inserted es edges new n e link h is d c = record {
  distinct = d;
  exact = λ k. (let a : ones (is_key k link) ≡ ones (is_key k (key_in e.flow)) = ap (λ (o : Option ℕ). ones (is_key k o)) is in omega (arith, a, h.exact k, c k, leads_in es n e k));
}

pub edges_removed : (es : List Entry) (edges new : List Edge) (n : ℕ) (e : Entry) (link : Option ℕ) → AreEdges es edges → n < length es → e ≡ get_or es n e → link ≡ key_in e.flow → AreDistinct new → CountsFewer link edges new → AreEdges (remove es n) new
edges_removed es edges new n e link h lt own is d c = record {
  distinct = d;
  exact = λ k.
      (let a : ones (is_key k link) ≡ ones (is_key k (key_in (get_or es n e).flow)) = ap (λ (o : Option ℕ). ones (is_key k o)) is ∙ ap (λ (x : Entry). ones (is_key k (key_in x.flow))) own in
      omega (arith, a, h.exact k, c k, leads_out es n e k lt));
}

pub edges_replaced : (es : List Entry) (edges more new : List Edge) (n : ℕ) (e old : Entry) (link before : Option ℕ) → AreEdges es edges → n < length es → link ≡ key_in e.flow → old ≡ get_or es n old → before ≡ key_in old.flow → AreDistinct new → CountsMore link edges more → CountsFewer before more new
    → AreEdges (slice_set es n e) new
edges_replaced es edges more new n e old link before h lt is own was d c f = record {
  distinct = d;
  exact = λ k.
      (let a : ones (is_key k link) ≡ ones (is_key k (key_in e.flow)) = ap (λ (o : Option ℕ). ones (is_key k o)) is in
      let b : ones (is_key k before) ≡ ones (is_key k (key_in (get_or es n old).flow)) = ap (λ (o : Option ℕ). ones (is_key k o)) was ∙ ap (λ (x : Entry). ones (is_key k (key_in x.flow))) own in
      omega (arith, a, b, h.exact k, c k, f k, leads_over es n e old k lt));
}

-- ---- All chains emptied.

-- a chain without rules, that no rule names
pub record IsEmptied (stored_chain : StoredChain) : Type 0 where
  pub entries : stored_chain.entries ≡ []
  pub references : stored_chain.references ≡ 0
  pub classified : IsClassified stored_chain

-- the first chains of the index are empty, and no name has changed
pub record AreEmptied (old new : List (Option StoredChain)) (order : List ℕ) (upto : ℕ) : Type 0 where
  pub present : (k : ℕ) → IsSome (slot_at old k) → IsSome (slot_at new k)
  pub no_more : (k : ℕ) → IsSome (slot_at new k) → IsSome (slot_at old k)
  pub name : (k : ℕ) → (stored_at new k).name ≡ (stored_at old k).name
  pub emptied : (j : ℕ) → j < upto → IsEmptied (stored_at new (get_or order j 0))

pub none_emptied : (slots : List (Option StoredChain)) (order : List ℕ) → AreEmptied slots slots order 0
none_emptied slots order = record { present = λ k h. h; no_more = λ k h. h; name = λ k. refl; emptied = λ j lt. absurd (omega (arith, lt)) }

pub next_emptied : (old now : List (Option StoredChain)) (order : List ℕ) (upto key : ℕ) (stored_chain new : StoredChain) → AreEmptied old now order upto → get_or order upto 0 ≡ key → slot_at now key ≡ Some stored_chain → new.name ≡ stored_chain.name → IsEmptied new
    → AreEmptied old (set now key (Some new)) order (upto + 1)
next_emptied old now order upto key stored_chain new h at slot named empty =
    let O : Option StoredChain → Type 0 = λ (o : Option StoredChain). IsSome o in
    let within : key < length now = key_within now key (subst O (sym slot) refl) in
    let is : stored_at now key ≡ stored_chain = ap (λ (o : Option StoredChain). unwrap_or o blank) slot in
    record {
      present = λ k there. some_set now key k new within (h.present k there);
      no_more = λ k there. h.no_more k (set_some now key k new (subst O (sym slot) refl) there);
      name = λ k.
          elim (cases_eq k key) [
            | inl q ↦ ap (λ (j : ℕ). (stored_at (set now key (Some new)) j).name) q ∙ ap (λ (r : StoredChain). r.name) (stored_set_same now key new within) ∙ named ∙ ap (λ (r : StoredChain). r.name) (sym is)
                ∙ ap (λ (j : ℕ). (stored_at now j).name) (sym q) ∙ h.name k
            | inr ne ↦ ap (λ (r : StoredChain). r.name) (stored_set_other now key k new ne) ∙ h.name k
          ];
      emptied = λ j lt.
          elim (cases_eq (get_or order j 0) key) [
            | inl q ↦ subst IsEmptied (sym (ap (stored_at (set now key (Some new))) q ∙ stored_set_same now key new within)) empty
            | inr ne ↦ subst IsEmptied (sym (stored_set_other now key (get_or order j 0) new ne))
                (h.emptied j (elim (cases_eq j upto) [ inl same ↦ absurd (ne (ap (λ (n : ℕ). get_or order n 0) same ∙ at)) | inr other ↦ omega (arith, lt, other) ]))
          ];
    }

-- all of them are
pub all_emptied : (ps : List Policy) (old new : List (Option StoredChain)) (order : List ℕ) → IsKept ps old order → AreEmptied old new order (length order) → table_with ps new order ≡ edited FlushAll (table_with ps old order)
all_emptied ps old new order h e =
    let P : List Chain → Table = λ (cs : List Chain). record { policies = ps; chains = cs } in
    ap P (listed_by (λ (c : Chain). empty_chain c.name) old new order
    (λ k lt. (λ i. record { name = e.name (get_or order k 0) i; rules = map (λ (x : Entry). x.rule) ((e.emptied k lt).entries i) })))

nothing_leads : (slots : List (Option StoredChain)) (keys : List ℕ) (k : ℕ) → ((j : ℕ) → j < length keys → IsEmptied (stored_at slots (get_or keys j 0))) → leading slots keys k ≡ 0
nothing_leads slots [] k h = refl
nothing_leads slots (x ∷ xs) k h =
    omega (arith, ap (λ (es : List Entry). count_by (λ (y : Entry). leads_to k y.flow) es) (h 0 (omega arith)).entries, nothing_leads slots xs k (λ j lt. h (suc j) (omega (arith, lt))))

pub all_kept : (ps : List Policy) (old new : List (Option StoredChain)) (order : List ℕ) → IsKept ps old order → AreEmptied old new order (length order) → IsKept ps new order
all_kept ps old new order h e =
    let T : Table → Type 0 = λ (t : Table). IsSound t in
    let L : List Entry → Type 0 = λ (es : List Entry). All (IsLinked new order) es in
    record {
      stored = record {
        present = λ i lt. e.present (get_or order i 0) (h.stored.present i lt);
        no_more = λ k there. h.stored.no_more k (e.no_more k there);
        apart = h.stored.apart;
        linked = λ i lt. subst L (sym (e.emptied i lt).entries) (All-nil (IsLinked new order));
        classified = λ i lt. (e.emptied i lt).classified;
        sound = subst T (sym (all_emptied ps old new order h e)) (flush_all_sound (table_with ps old order) h.stored.sound);
      };
      counted = λ i lt. (e.emptied i lt).references ∙ sym (nothing_leads new order (get_or order i 0) e.emptied);
    }
