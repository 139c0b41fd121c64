-- What a rename leaves in the other chains: new names in their rules, and marks after a key has moved.
use Rattle.std.proofs.Common.{◌≡◌, ◌≢◌, inl, inr, ℕ, ◌+◌, ◌<◌, cond, List, [], ◌∷◌, length, get_or, map, refl, sym, ◌∙◌, ap, arith, subst, Option, Some, None, IsSome, IsTrue, unwrap_or, ◌-◌, ◌≤◌, Bool}
use Rattle.std.specs.Prelude.{count_by, remove, nat_lt, if◌then◌else◌}
use Rattle.std.proofs.Math.ListN.{set}
use Rattle.std.proofs.lemmas.Bool.{cases_Bool, cases_eq, cond-false, false≢true, ltb-true, ltb-false, cond-true}
use Rattle.std.proofs.lemmas.List.Elements.{All-weaker}
use Rattle.std.proofs.lemmas.List.Sums.{sum_by-cons}
use Rattle.std.proofs.lemmas.List.Edits.{length-remove}
use Rattle.classify.proofs.laws.classifier.RuleLaws.{renamed_or_not}
use Rattle.classify.specs.Classifier.{Classified, IsClassifierOfRules, AllowTheSame}
use Rattle.classify.specs.Laws.{SameNumbersSameClassifier}
use Rattle.rules.specs.rule.Actions.{with_chain_name, target_of, names_chain}
use Rattle.rules.specs.rule.Rules.{Rule}
use Rattle.rules.specs.declared.rule.target.Target.{Target}
use Rattle.rules.specs.declared.rule.target.Target.TheVariants as target
use Rattle.table.specs.chains.Table.{Policy}
use Rattle.table.specs.steps.Kept.{blank, slot_at, stored_at, leading, references_at, IsIn, IsLinked, IsStored, IsKept, IsUnmarked, NameChains, retargeted, AreRetargeted, moved_key}
use Rattle.table.specs.steps.StoredChains.{StoredChain, leads_to, key_in, flow_of, ones, rule_in, IsClassified}
use Rattle.table.specs.declared.chain.entry.Entry.{Entry}
use Rattle.table.proofs.laws.chains.StoreLaws.{key_within, stored_set_same, stored_set_other, some_set, set_some}
use Rattle.table.proofs.laws.chains.CountLaws.{part_kept, leading_part}
use Rattle.table.proofs.laws.edits.DeleteLaws.{in_left}
use Rattle.table.proofs.laws.edits.MakeLaws.{fewer_unmarked, more_unmarked}

-- ---- New names in the rules of chains.

allow_the_same : (key : ℕ) (name : List ℕ) (es : List Entry) → AllowTheSame (map rule_in es) (map rule_in (map (retargeted key name) es))
allow_the_same key name [] = tt
allow_the_same key name (e ∷ es) = (renamed_or_not (leads_to key e.flow) name e.rule, allow_the_same key name es)

-- the classifier of the rules stays
pub retargeted_classified : SameNumbersSameClassifier → (key : ℕ) (name : List ℕ) (es : List Entry) (c : Classified) → IsClassifierOfRules (map rule_in es) c → IsClassifierOfRules (map rule_in (map (retargeted key name) es)) c
retargeted_classified same key name es c h = same (map rule_in es) (map rule_in (map (retargeted key name) es)) c (allow_the_same key name es) h

-- a rule that leads to a chain names one
names_one : (o : Option Target) (to : ℕ) → IsSome (key_in (flow_of o to)) → IsTrue (names_chain o)
names_one None to h = absurd (false≢true h)
names_one (Some target.Log) to h = absurd (false≢true h)
names_one (Some target.Accept) to h = absurd (false≢true h)
names_one (Some target.Drop) to h = absurd (false≢true h)
names_one (Some (target.Reject kind)) to h = absurd (false≢true h)
names_one (Some target.Return) to h = absurd (false≢true h)
names_one (Some (target.Jump n)) to h = refl
names_one (Some (target.Goto n)) to h = refl

linked_one : (slots : List (Option StoredChain)) (order : List ℕ) (e : Entry) → IsLinked slots order e → IsSome (key_in e.flow) → IsTrue (names_chain (target_of e.rule))
linked_one slots order e l h = let P : Option ℕ → Type 0 = λ (o : Option ℕ). IsSome o in names_one (target_of e.rule) l.0 (subst P (ap key_in l.1) h)

-- The chains one after another

-- those not passed name chains, too
pub name_chains : (ps : List Policy) (slots now : List (Option StoredChain)) (order : List ℕ) (key : ℕ) (name : List ℕ) (i at : ℕ) (stored_chain : StoredChain) → IsStored ps slots order → AreRetargeted slots now order key name i → i < length order → get_or order i 0 ≡ at → slot_at now at ≡ Some stored_chain
    → NameChains stored_chain.entries
name_chains ps slots now order key name i at stored_chain s h lt is slot =
    let Q : List Entry → Type 0 = λ (es : List Entry). NameChains es in
    let same : (stored_at slots (get_or order i 0)).entries ≡ stored_chain.entries = sym (h.rest i (omega arith) lt) ∙ ap (λ (k : ℕ). (stored_at now k).entries) is ∙ ap (λ (o : Option StoredChain). (unwrap_or o blank).entries) slot in
    subst Q same (All-weaker (IsLinked slots order) (λ (e : Entry). IsSome (key_in e.flow) → IsTrue (names_chain (target_of e.rule))) (linked_one slots order) _ (s.linked i lt))

pub none_retargeted : (ps : List Policy) (slots : List (Option StoredChain)) (order : List ℕ) (key : ℕ) (name : List ℕ) → IsStored ps slots order → AreRetargeted slots slots order key name 0
none_retargeted ps slots order key name s =
    record { present = λ k h. h; no_more = λ k h. h; named = λ k. refl; references = λ k. refl; classified = s.classified; done = λ j lt below. absurd (omega (arith, lt)); rest = λ j ge lt. refl }

pub next_retargeted : (ps : List Policy) (slots now : List (Option StoredChain)) (order : List ℕ) (key : ℕ) (name : List ℕ) (i at : ℕ) (stored_chain new : StoredChain) → IsStored ps slots order → AreRetargeted slots now order key name i → i < length order → get_or order i 0 ≡ at → slot_at now at ≡ Some stored_chain
    → new.name ≡ stored_chain.name → new.entries ≡ map (retargeted key name) stored_chain.entries → new.references ≡ stored_chain.references → IsClassified new → AreRetargeted slots (set now at (Some new)) order key name (i + 1)
next_retargeted ps slots now order key name i at stored_chain new s h lt is slot named entries refs classified =
    let O : Option StoredChain → Type 0 = λ (o : Option StoredChain). IsSome o in
    let within : at < length now = key_within now at (subst O (sym slot) refl) in
    let other : (j : ℕ) → j < length order → j ≢ i → get_or order j 0 ≢ at = λ j lj ne q. ne (s.apart j i lj lt (q ∙ sym is)) in
    let own : stored_at (set now at (Some new)) (get_or order i 0) ≡ new = ap (stored_at (set now at (Some new))) is ∙ stored_set_same now at new within in
    let was : stored_chain.entries ≡ (stored_at slots (get_or order i 0)).entries = ap (λ (o : Option StoredChain). (unwrap_or o blank).entries) (sym slot) ∙ ap (λ (k : ℕ). (stored_at now k).entries) (sym is) ∙ h.rest i (omega arith) lt in
    record {
      present = λ k there. some_set now at k new within (h.present k there);
      no_more = λ k there. h.no_more k (set_some now at k new (subst O (sym slot) refl) there);
      named = λ k. part_kept now at stored_chain new (λ (r : StoredChain). r.name) slot named k ∙ h.named k;
      references = λ k. part_kept now at stored_chain new (λ (r : StoredChain). r.references) slot refs k ∙ h.references k;
      classified = λ j lj.
          elim (cases_eq j i) [
            | inl q ↦ subst IsClassified (sym (ap (λ (n : ℕ). stored_at (set now at (Some new)) (get_or order n 0)) q ∙ own)) classified
            | inr ne ↦ subst IsClassified (sym (stored_set_other now at (get_or order j 0) new (other j lj ne))) (h.classified j lj)
          ];
      done = λ j below lj.
          elim (cases_eq j i) [
            | inl q ↦ ap (λ (n : ℕ). (stored_at (set now at (Some new)) (get_or order n 0)).entries) q ∙ ap (λ (r : StoredChain). r.entries) own ∙ entries ∙ ap (map (retargeted key name)) was
                ∙ ap (λ (n : ℕ). map (retargeted key name) (stored_at slots (get_or order n 0)).entries) (sym q)
            | inr ne ↦ ap (λ (r : StoredChain). r.entries) (stored_set_other now at (get_or order j 0) new (other j lj ne)) ∙ h.done j (omega (arith, below, ne)) lj
          ];
      rest = λ j ge lj.
          (let ne : j ≢ i = omega (arith, ge) in
          ap (λ (r : StoredChain). r.entries) (stored_set_other now at (get_or order j 0) new (other j lj ne)) ∙ h.rest j (omega (arith, ge)) lj);
    }

-- Where no rule leads to the chain, none is changed

stays : (key : ℕ) (name : List ℕ) (es : List Entry) → count_by (λ (e : Entry). leads_to key e.flow) es ≡ 0 → es ≡ map (retargeted key name) es
stays key name [] h = refl
stays key name (e ∷ es) h =
    let n : ℕ = count_by (λ (x : Entry). leads_to key x.flow) es in
    let all = sum_by-cons (λ (x : Entry). cond (leads_to key x.flow) 1 0) e es in
    let change : Rule → Entry = λ (r : Rule). record { rule = r; flow = e.flow } in
    elim (cases_Bool (leads_to key e.flow)) [
      | inl t ↦ (let one : ones (leads_to key e.flow) ≡ 1 = ap ones t in absurd (omega (arith, h, all, one)))
      | inr f ↦ (
          let none : ones (leads_to key e.flow) ≡ 0 = ap ones f in
          let head : e ≡ retargeted key name e = sym (ap change (cond-false (leads_to key e.flow) (with_chain_name name e.rule) e.rule f)) in
          let tail : es ≡ map (retargeted key name) es = stays key name es (omega (arith, h, all, none)) in
          λ i. head i ∷ tail i)
    ]

pub no_rule_retargeted : (ps : List Policy) (slots : List (Option StoredChain)) (order : List ℕ) (key : ℕ) (name : List ℕ) → IsKept ps slots order → IsIn order key → references_at slots key ≡ 0 → AreRetargeted slots slots order key name (length order)
no_rule_retargeted ps slots order key name h at none =
    let R : ℕ → Type 0 = λ k. references_at slots k ≡ leading slots order k in
    let c : references_at slots key ≡ leading slots order key = subst R at.2 (h.counted at.0 at.1) in
    record {
      present = λ k there. there;
      no_more = λ k there. there;
      named = λ k. refl;
      references = λ k. refl;
      classified = h.stored.classified;
      done = λ j below lt. stays key name (stored_at slots (get_or order j 0)).entries (omega (arith, none, c, leading_part slots order j key lt));
      rest = λ j ge lt. refl;
    }

-- ---- Marks after a key has moved in the index.

lands_within : (order : List ℕ) (place to : ℕ) → place < length order → to ≤ length order → (if nat_lt place to then to - 1 else to) ≤ length (remove order place)
lands_within order place to lt le =
    elim (cases_Bool (nat_lt place to)) [
      | inl t ↦ (let a = ltb-true place to t in omega (arith, a, lt, le, length-remove order place lt, cond-true (nat_lt place to) (to - 1) to t))
      | inr f ↦ (let a = ltb-false place to f in omega (arith, a, lt, le, length-remove order place lt, cond-false (nat_lt place to) (to - 1) to f))
    ]

-- no mark is set where a key moves
pub moved_unmarked : (order after : List ℕ) (seen : List Bool) (place to : ℕ) → IsUnmarked order seen → place < length order → to ≤ length order → after ≡ moved_key order place to → IsUnmarked after seen
moved_unmarked order after seen place to u lt le is =
    more_unmarked (remove order place) after seen (if nat_lt place to then to - 1 else to) (get_or order place 0)
    (fewer_unmarked order (remove order place) seen u (λ k inn. in_left order place k lt inn)) (lands_within order place to lt le) (u.within (get_or order place 0) (place, lt, refl)) is
