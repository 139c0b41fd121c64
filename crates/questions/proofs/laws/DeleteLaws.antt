-- Commands that delete rules by number: they are accepted, what they leave, and that dead rules can go.
use Rattle.std.proofs.Common.{◌≡◌, inl, inr, ℕ, ◌+◌, ◌-◌, ◌<◌, ◌≤◌, Bool, true, false, cond, not, List, [], ◌∷◌, ◌++◌, length, map, refl, sym, ◌∙◌, ap, arith, subst, Ok, None, ap₂, get_or, remove, nat_lt, ◌==◌, ◌||◌, ◌&&◌, true≢false, append_assoc, length-append}
use Rattle.std.proofs.lemmas.Simd.{map-map}
use Rattle.std.proofs.lemmas.List.Folds.{map_fixed}
use Rattle.std.specs.List.{list_any}
use Rattle.std.proofs.lemmas.Bool.{cases_Bool, cond-true, cond-false, false_from_ne_true, or_left, or_right}
use Rattle.std.proofs.lemmas.Bool.Decides.{nat_tests}
use Rattle.std.proofs.lemmas.List.Edits.{remove-append_right}
use Rattle.std.proofs.lemmas.Slice.Eq.{bytes_eq-Decides}
use Rattle.std.specs.Str.{bytes_eq}
use Rattle.rules.specs.rule.Rules.{Rule}
use Rattle.table.specs.chains.Table.{Chain, Table, has_chain, is_named, names_of, rules_of}
use Rattle.table.specs.edits.Edits.{Edit, DeleteAt, changed, changed_chain, edited, fault_of, no_such_chain, out_of_range}
use Rattle.table.specs.edits.Headline.{steps}
use Rattle.table.specs.walk.Walk.{Entry}
use Rattle.table.proofs.laws.chains.KeepLaws.{has_by_names, listed_differ, names_changed}
use Rattle.table.proofs.laws.chains.SoundLaws.{Mem, Differing}
use Rattle.table.proofs.laws.edits.AnswerLaws.{passes}
use Rattle.table.proofs.laws.edits.MadeLaws.{one_more}
use Rattle.table.specs.chains.Sound.{IsSound}
use Rattle.questions.specs.asked.Laws.{DeletionsLeaveTheRest, DeadRulesCanGoRenumbered, DeadRulesCanGoUnder}
use Rattle.questions.specs.asked.Without.{chain_without, deletions, deletions_in, going, goes_of, staying, without, needs_without, renumbered}
use Rattle.questions.specs.Foreign.{Assignment, all_hold, need_holds, never, resolved, resolved_chains, resolved_rule, resolved_rules}
use Rattle.questions.specs.declared.foreign.need.Need.{Need}
use Rattle.questions.proofs.laws.WithoutLaws.{dead_can_go}

-- ---- Commands that delete rules by number: they are accepted, and what they leave.

-- ---- rules

-- rules without those of some numbers, one after another
abbrev removed : List ℕ → List Rule → List Rule
removed [] rules = rules
removed (n ∷ ns) rules = removed ns (remove rules (n - 1))

removed_append : (ns ms : List ℕ) (rules : List Rule) → removed (ns ++ ms) rules ≡ removed ms (removed ns rules)
removed_append [] ms rules = refl
removed_append (n ∷ ns) ms rules = removed_append ns ms (remove rules (n - 1))

-- the one behind some rules goes, or stays
last_goes : (before : ℕ) (front rest : List Rule) (rule : Rule) (b : Bool) → length front ≡ before
    → removed (cond b ((before + 1) ∷ []) []) (front ++ rule ∷ rest) ≡ front ++ cond b rest (rule ∷ rest)
last_goes before front rest rule false long = refl
last_goes before front rest rule true long =
    let here : before + 1 - 1 ≡ before = omega arith in
    let none : before - before ≡ 0 = omega arith in
    ap (remove (front ++ rule ∷ rest)) here ∙ remove-append_right front (rule ∷ rest) before before long (omega arith) ∙ ap (λ k. front ++ remove (rule ∷ rest) k) none

stays : (goes : ℕ → Bool) (before : ℕ) (front rules : List Rule) → length front ≡ before → removed (going goes before rules) (front ++ rules) ≡ front ++ staying goes before rules
stays goes before front [] long = refl
stays goes before front (rule ∷ rules) long =
    let one : List ℕ = cond (goes (before + 1)) ((before + 1) ∷ []) [] in
    let more : length (front ++ rule ∷ []) ≡ before + 1 = length-append front (rule ∷ []) ∙ ap (λ n. n + 1) long in
    let inner : removed (going goes (before + 1) rules) (front ++ rule ∷ rules) ≡ front ++ rule ∷ staying goes (before + 1) rules =
    ap (removed (going goes (before + 1) rules)) (sym (append_assoc front (rule ∷ []) rules)) ∙ stays goes (before + 1) (front ++ rule ∷ []) rules more ∙ append_assoc front (rule ∷ []) (staying goes (before + 1) rules) in
    removed_append (going goes (before + 1) rules) one (front ++ rule ∷ rules) ∙ ap (removed one) inner ∙ last_goes before front (staying goes (before + 1) rules) rule (goes (before + 1)) long

-- those behind some rules go
behind : (goes : ℕ → Bool) (before : ℕ) (front rules : List Rule) (rule : Rule) → length front ≡ before
    → removed (going goes (before + 1) rules) (front ++ rule ∷ rules) ≡ front ++ rule ∷ staying goes (before + 1) rules
behind goes before front rules rule long =
    ap (removed (going goes (before + 1) rules)) (sym (append_assoc front (rule ∷ []) rules))
    ∙ stays goes (before + 1) (front ++ rule ∷ []) rules (length-append front (rule ∷ []) ∙ ap (λ n. n + 1) long)
    ∙ append_assoc front (rule ∷ []) (staying goes (before + 1) rules)

-- each of some numbers is that of a rule when its turn comes
abbrev AreRules : List ℕ → List Rule → Type 0
AreRules [] rules = Unit {0}
AreRules (n ∷ ns) rules = (0 < n) × (n ≤ length rules) × AreRules ns (remove rules (n - 1))

both_rules : (ns ms : List ℕ) (rules : List Rule) → AreRules ns rules → AreRules ms (removed ns rules) → AreRules (ns ++ ms) rules
both_rules [] ms rules own other = other
both_rules (n ∷ ns) ms rules own other = (own.0, own.1, both_rules ns ms (remove rules (n - 1)) own.2 other)

last_is : (before : ℕ) (front rest : List Rule) (rule : Rule) (b : Bool) → length front ≡ before → AreRules (cond b ((before + 1) ∷ []) []) (front ++ rule ∷ rest)
last_is before front rest rule false long = tt
last_is before front rest rule true long = (omega arith, omega (arith, long, length-append front (rule ∷ rest)), tt)

going_are : (goes : ℕ → Bool) (before : ℕ) (front rules : List Rule) → length front ≡ before → AreRules (going goes before rules) (front ++ rules)
going_are goes before front [] long = tt
going_are goes before front (rule ∷ rules) long =
    let ns : List ℕ = going goes (before + 1) rules in
    let one : List ℕ = cond (goes (before + 1)) ((before + 1) ∷ []) [] in
    let more : length (front ++ rule ∷ []) ≡ before + 1 = length-append front (rule ∷ []) ∙ ap (λ n. n + 1) long in
    both_rules ns one (front ++ rule ∷ rules)
    (subst (AreRules ns) (append_assoc front (rule ∷ []) rules) (going_are goes (before + 1) (front ++ rule ∷ []) rules more))
    (subst (AreRules one) (sym (behind goes before front rules rule long)) (last_is before front (staying goes (before + 1) rules) rule (goes (before + 1)) long))

-- ---- lists

map_on : {X Y : Type 0} (f g : X → Y) (xs : List X) → ((x : X) → Mem x xs → f x ≡ g x) → map f xs ≡ map g xs
map_on f g [] same = refl
map_on f g (x ∷ xs) same = ap (λ y. y ∷ map f xs) (same x (inl refl)) ∙ ap (λ ys. g x ∷ ys) (map_on f g xs (λ z m. same z (inr m)))

-- ---- commands

-- the table after some commands, one after another
abbrev after : List Edit → Table → Table
after [] t = t
after (edit ∷ edits) t = after edits (edited edit t)

after_append : (es fs : List Edit) (t : Table) → after (es ++ fs) t ≡ after fs (after es t)
after_append [] fs t = refl
after_append (e ∷ es) fs t = after_append es fs _

-- a table with other chains
abbrev with_chains : Table → List Chain → Table
with_chains t chains = record { policies = t.policies; chains = chains }

-- a chain with other rules
abbrev with_rules : Chain → List Rule → Chain
with_rules c rules = record { name = c.name; rules = rules }

unchanged : (name : List ℕ) (c : Chain) → changed_chain (removed []) name c ≡ c
unchanged name c = elim (is_named name c) as (λ b. cond b (with_rules c c.rules) c ≡ c) [ true ↦ refl | false ↦ refl ]

twice : (f g : List Rule → List Rule) (name : List ℕ) (c : Chain) → changed_chain g name (changed_chain f name c) ≡ changed_chain (λ rules. g (f rules)) name c
twice f g name c =
    elim (cases_Bool (is_named name c)) [
      | inl is ↦ ap (changed_chain g name) (cond-true (is_named name c) (with_rules c (f c.rules)) c is)
          ∙ cond-true (is_named name c) (with_rules c (g (f c.rules))) (with_rules c (f c.rules)) is
          ∙ sym (cond-true (is_named name c) (with_rules c (g (f c.rules))) c is)
      | inr un ↦ ap (changed_chain g name) (cond-false (is_named name c) (with_rules c (f c.rules)) c un)
          ∙ cond-false (is_named name c) (with_rules c (g c.rules)) c un
          ∙ sym (cond-false (is_named name c) (with_rules c (g (f c.rules))) c un)
    ]

deleted : (name : List ℕ) (ns : List ℕ) (t : Table) → after (map (λ n. DeleteAt name n) ns) t ≡ changed (removed ns) name t
deleted name [] t = ap (with_chains t) (sym (map_fixed (changed_chain (removed []) name) t.chains (λ k d lt. unchanged name (get_or t.chains k d))))
deleted name (n ∷ ns) t =
    let f : List Rule → List Rule = λ rules. remove rules (n - 1) in
    deleted name ns (changed f name t)
    ∙ ap (with_chains t) (map-map (changed_chain (removed ns) name) (changed_chain f name) t.chains
    ∙ map_on (λ c. changed_chain (removed ns) name (changed_chain f name c)) (changed_chain (λ rules. removed ns (f rules)) name) t.chains (λ c m. twice f (removed ns) name c))

-- ---- commands that are accepted

in_range : (n last : ℕ) → 0 < n → n ≤ last → (n == 0 || nat_lt last n) ≡ false
in_range n last first le = grind (arith, nat_tests)

no_fault : (t : Table) (name : List ℕ) (n : ℕ) → has_chain t name ≡ true → 0 < n → n ≤ length (rules_of t.chains name) → fault_of (DeleteAt name n) t ≡ None
no_fault t name n there first last =
    passes (no_such_chain t name) (out_of_range n (length (rules_of t.chains name)) ∷ []) (ap not there)
    ∙ passes (out_of_range n (length (rules_of t.chains name))) [] (in_range n (length (rules_of t.chains name)) first last)

has_changed : (f : List Rule → List Rule) (name other : List ℕ) (t : Table) → has_chain (changed f name t) other ≡ has_chain t other
has_changed f name other t =
    has_by_names other (map (changed_chain f name) t.chains)
    ∙ ap (list_any (λ x. bytes_eq x other)) (names_changed f name t.chains)
    ∙ sym (has_by_names other t.chains)

rules_changed : (f : List Rule → List Rule) (name : List ℕ) (cs : List Chain) → list_any (is_named name) cs ≡ true → rules_of (map (changed_chain f name) cs) name ≡ f (rules_of cs name)
rules_changed f name [] has = absurd (true≢false (sym has))
rules_changed f name (c ∷ cs) has =
    let others : List Rule = rules_of (map (changed_chain f name) cs) name in
    let P : Chain → Type 0 = λ d. cond (is_named name d) d.rules others ≡ f (cond (is_named name c) c.rules (rules_of cs name)) in
    elim (cases_Bool (is_named name c)) [
      | inl is ↦ subst P (sym (cond-true (is_named name c) (with_rules c (f c.rules)) c is))
          (cond-true (is_named name c) (f c.rules) others is ∙ ap f (sym (cond-true (is_named name c) c.rules (rules_of cs name) is)))
      | inr un ↦ subst P (sym (cond-false (is_named name c) (with_rules c (f c.rules)) c un))
          (cond-false (is_named name c) c.rules others un
          ∙ rules_changed f name cs (sym (ap (λ b. b || list_any (is_named name) cs) un) ∙ has)
          ∙ ap f (sym (cond-false (is_named name c) c.rules (rules_of cs name) un)))
    ]

rules_other : (f : List Rule → List Rule) (name other : List ℕ) (cs : List Chain) → (other ≡ name → ⊥) → rules_of (map (changed_chain f name) cs) other ≡ rules_of cs other
rules_other f name other [] ne = refl
rules_other f name other (c ∷ cs) ne =
    let others : List Rule = rules_of (map (changed_chain f name) cs) other in
    let P : Chain → Type 0 = λ d. cond (is_named other d) d.rules others ≡ cond (is_named other c) c.rules (rules_of cs other) in
    elim (cases_Bool (is_named name c)) [
      | inl is ↦ (
          let apart : is_named other c ≡ false = false_from_ne_true (is_named other c) (λ e. ne (sym ((bytes_eq-Decides c.name other).0 e) ∙ (bytes_eq-Decides c.name name).0 is)) in
          subst P (sym (cond-true (is_named name c) (with_rules c (f c.rules)) c is))
          (cond-false (is_named other c) (f c.rules) others apart ∙ rules_other f name other cs ne ∙ sym (cond-false (is_named other c) c.rules (rules_of cs other) apart)))
      | inr un ↦ subst P (sym (cond-false (is_named name c) (with_rules c (f c.rules)) c un)) (ap (cond (is_named other c) c.rules) (rules_other f name other cs ne))
    ]

-- those for one chain, before others
deleted_steps : (name : List ℕ) (ns : List ℕ) (rest : List Edit) (t : Table) → has_chain t name ≡ true → AreRules ns (rules_of t.chains name)
    → steps (map (λ n. DeleteAt name n) ns ++ rest) t ≡ steps rest (after (map (λ n. DeleteAt name n) ns) t)
deleted_steps name [] rest t there are = refl
deleted_steps name (n ∷ ns) rest t there are =
    let f : List Rule → List Rule = λ rules. remove rules (n - 1) in
    one_more (DeleteAt name n) (map (λ m. DeleteAt name m) ns ++ rest) t (no_fault t name n there are.0 are.1)
    ∙ deleted_steps name ns rest (changed f name t) (has_changed f name name t ∙ there) (subst (AreRules ns) (sym (rules_changed f name t.chains there)) are.2)

-- ---- chain after chain

mem_name : (cs : List Chain) (x : Chain) → Mem x cs → Mem x.name (names_of cs)
mem_name [] x m = m
mem_name (c ∷ cs) x (inl e) = inl (ap (λ (y : Chain). y.name) e)
mem_name (c ∷ cs) x (inr m) = inr (mem_name cs x m)

has_own : (cs : List Chain) (x : Chain) → Mem x cs → list_any (is_named x.name) cs ≡ true
has_own [] x m = absurd m
has_own (c ∷ cs) x (inl e) = or_left (is_named x.name c) (list_any (is_named x.name) cs) ((bytes_eq-Decides c.name x.name).1 (ap (λ (y : Chain). y.name) (sym e)))
has_own (c ∷ cs) x (inr m) = or_right (is_named x.name c) (list_any (is_named x.name) cs) (has_own cs x m)

own_rules : (cs : List Chain) (x : Chain) → Differing (names_of cs) → Mem x cs → rules_of cs x.name ≡ x.rules
own_rules [] x d m = absurd m
own_rules (c ∷ cs) x d (inl e) =
    cond-true (is_named x.name c) c.rules (rules_of cs x.name) ((bytes_eq-Decides c.name x.name).1 (ap (λ (y : Chain). y.name) (sym e))) ∙ ap (λ (y : Chain). y.rules) (sym e)
own_rules (c ∷ cs) x d (inr m) =
    let apart : is_named x.name c ≡ false = false_from_ne_true (is_named x.name c) (λ is. d.0 (rw (← (bytes_eq-Decides c.name x.name).0 is) at (mem_name cs x m))) in
    cond-false (is_named x.name c) c.rules (rules_of cs x.name) apart ∙ own_rules cs x d.1 m

module _ (goes : Entry → Bool) where
  -- the commands for one chain, of any chain
  abbrev one : Chain → Chain → Chain
  one c x = changed_chain (removed (going (goes_of goes c.name) 0 c.rules)) c.name x

  -- those for some chains
  abbrev all : List Chain → Chain → Chain
  all [] x = x
  all (c ∷ cs) x = all cs (one c x)

  after_all : (cs : List Chain) (t : Table) → after (deletions goes cs) t ≡ with_chains t (map (all cs) t.chains)
  after_all [] t = ap (with_chains t) (sym (map_fixed (all []) t.chains (λ k d lt. refl)))
  after_all (c ∷ cs) t =
      let ns : List ℕ = going (goes_of goes c.name) 0 c.rules in
      after_append (deletions_in goes c) (deletions goes cs) t ∙ ap (after (deletions goes cs)) (deleted c.name ns t) ∙ after_all cs (changed (removed ns) c.name t)
      ∙ ap (with_chains t) (map-map (all cs) (one c) t.chains)

  one_own : (c : Chain) → one c c ≡ chain_without goes c
  one_own c =
      let ns : List ℕ = going (goes_of goes c.name) 0 c.rules in
      cond-true (is_named c.name c) (with_rules c (removed ns c.rules)) c ((bytes_eq-Decides c.name c.name).1 refl)
      ∙ ap (with_rules c) (stays (goes_of goes c.name) 0 [] c.rules refl)

  one_other : (c x : Chain) → (x.name ≡ c.name → ⊥) → one c x ≡ x
  one_other c x ne =
      let ns : List ℕ = going (goes_of goes c.name) 0 c.rules in
      cond-false (is_named c.name x) (with_rules x (removed ns x.rules)) x (false_from_ne_true (is_named c.name x) (λ e. ne ((bytes_eq-Decides x.name c.name).0 e)))

  all_other : (cs : List Chain) (x : Chain) → (Mem x.name (names_of cs) → ⊥) → all cs x ≡ x
  all_other [] x none = refl
  all_other (c ∷ cs) x none = ap (all cs) (one_other c x (λ e. none (inl e))) ∙ all_other cs x (λ m. none (inr m))

  all_own : (cs : List Chain) (x : Chain) → Differing (names_of cs) → Mem x cs → all cs x ≡ chain_without goes x
  all_own [] x d m = absurd m
  all_own (c ∷ cs) x d (inl e) =
      let P : Chain → Type 0 = λ y. all (c ∷ cs) y ≡ chain_without goes y in
      subst P (sym e) (ap (all cs) (one_own c) ∙ all_other cs (chain_without goes c) d.0)
  all_own (c ∷ cs) x d (inr m) =
      let P : List ℕ → Type 0 = λ n. Mem n (names_of cs) in
      ap (all cs) (one_other c x (λ e. d.0 (subst P e (mem_name cs x m)))) ∙ all_own cs x d.1 m

  -- a table has the chain, with its rules
  abbrev HasIt : Table → Chain → Type 0
  HasIt t c = (has_chain t c.name ≡ true) × (rules_of t.chains c.name ≡ c.rules)

  all_steps : (cs : List Chain) (t : Table) → Differing (names_of cs) → ((c : Chain) → Mem c cs → HasIt t c) → steps (deletions goes cs) t ≡ Ok (after (deletions goes cs) t)
  all_steps [] t d has = refl
  all_steps (c ∷ cs) t d has =
      let ns : List ℕ = going (goes_of goes c.name) 0 c.rules in
      let own = has c (inl refl) in
      let e : after (deletions_in goes c) t ≡ changed (removed ns) c.name t = deleted c.name ns t in
      deleted_steps c.name ns (deletions goes cs) t own.0 (subst (AreRules ns) (sym own.1) (going_are (goes_of goes c.name) 0 [] c.rules refl))
      ∙ (rw (← e) at (all_steps cs (changed (removed ns) c.name t) d.1
      (λ x m. (has_changed (removed ns) c.name x.name t ∙ (has x (inr m)).0, rules_other (removed ns) c.name x.name t.chains (λ same. d.0 (rw same at (mem_name cs x m))) ∙ (has x (inr m)).1))))
      ∙ ap Ok (sym (after_append (deletions_in goes c) (deletions goes cs) t))

deletions_after : (t : Table) (goes : Entry → Bool) → IsSound t → after (deletions goes t.chains) t ≡ without goes t
deletions_after t goes sound =
    after_all goes t.chains t
    ∙ ap (with_chains t) (map_on (all goes t.chains) (chain_without goes) t.chains (λ x m. all_own goes t.chains x (listed_differ (names_of t.chains) sound.listed) m))

pub deletions_leave : DeletionsLeaveTheRest
deletions_leave t goes sound =
    let d = listed_differ (names_of t.chains) sound.listed in
    all_steps goes t.chains t d (λ c m. (has_own t.chains c m, own_rules t.chains c d m)) ∙ ap Ok (deletions_after t goes sound)

-- ---- Tables whose rules need something, without some of their rules.

module _ (a : Assignment) (goes : ℕ → Bool) where
  -- what is left of the rules that stay stays of what is left
  rules_stay : (before : ℕ) (needs : List (List Need)) (rules : List Rule)
      → resolved_rules a (staying goes before needs) (staying goes before rules) ≡ staying goes before (resolved_rules a needs rules)
  rules_stay before needs [] = refl
  rules_stay before [] (rule ∷ rules) =
      let none : List (List Need) = [] in
      let kept : List Rule = staying goes (before + 1) rules in
      let left : List Rule = staying goes (before + 1) (resolved_rules a none rules) in
      let later : resolved_rules a none kept ≡ left = rules_stay (before + 1) none rules in
      elim (goes (before + 1)) as (λ b. resolved_rules a none (cond b kept (rule ∷ kept)) ≡ cond b left (rule ∷ left)) [
        | true ↦ later
        | false ↦ ap (λ (rest : List Rule). rule ∷ rest) later
      ]
  rules_stay before (own ∷ needs) (rule ∷ rules) =
      let needed : List (List Need) = staying goes (before + 1) needs in
      let kept : List Rule = staying goes (before + 1) rules in
      let left : List Rule = staying goes (before + 1) (resolved_rules a needs rules) in
      let later : resolved_rules a needed kept ≡ left = rules_stay (before + 1) needs rules in
      elim (goes (before + 1)) as (λ b. resolved_rules a (cond b needed (own ∷ needed)) (cond b kept (rule ∷ kept)) ≡ cond b left (resolved_rule a own rule ∷ left)) [
        | true ↦ later
        | false ↦ ap (λ (rest : List Rule). resolved_rule a own rule ∷ rest) later
      ]

chains_stay : (a : Assignment) (goes : Entry → Bool) (chains : List Chain) (needs : List (List (List Need)))
    → resolved_chains a (needs_without goes chains needs) (map (chain_without goes) chains) ≡ map (chain_without goes) (resolved_chains a needs chains)
chains_stay a goes [] [] = refl
chains_stay a goes [] (own ∷ needs) = refl
chains_stay a goes (chain ∷ chains) [] = ap (λ (rest : List Chain). chain_without goes chain ∷ rest) (chains_stay a goes chains [])
chains_stay a goes (chain ∷ chains) (own ∷ needs) =
    ap₂ (λ (rules : List Rule) (rest : List Chain). record { name = chain.name; rules = rules } ∷ rest)
    (rules_stay a (goes_of goes chain.name) 0 own chain.rules) (chains_stay a goes chains needs)

-- so dead rules can go under an assignment
pub dead_can_go_under : DeadRulesCanGoUnder
dead_can_go_under needs a t goes dead p can short =
    rw (← chains_stay a goes t.chains needs) at (dead_can_go (resolved needs a t) goes dead p can short)

-- ---- conditions by other numbers

module _ (a : Assignment) (number : ℕ → ℕ) where
  abbrev before : Assignment
  before condition = a (number condition)

  abbrev told : Need → Need
  told need = record { condition = number need.condition; inverted = need.inverted }

  needs_same : (needs : List Need) → all_hold before needs ≡ all_hold a (map told needs)
  needs_same [] = refl
  needs_same (need ∷ needs) = ap (λ (b : Bool). need_holds before need && b) (needs_same needs)

  rules_same : (needs : List (List Need)) (rules : List Rule) → resolved_rules before needs rules ≡ resolved_rules a (map (λ (own : List Need). map told own) needs) rules
  rules_same [] [] = refl
  rules_same (own ∷ needs) [] = refl
  rules_same [] (rule ∷ rules) = ap (λ (rest : List Rule). rule ∷ rest) (rules_same [] rules)
  rules_same (own ∷ needs) (rule ∷ rules) = ap₂ (λ (b : Bool) (rest : List Rule). cond b rule never ∷ rest) (needs_same own) (rules_same needs rules)

  chains_same : (needs : List (List (List Need))) (chains : List Chain) → resolved_chains before needs chains ≡ resolved_chains a (renumbered number needs) chains
  chains_same [] [] = refl
  chains_same (own ∷ needs) [] = refl
  chains_same [] (chain ∷ chains) = ap (λ (rest : List Chain). chain ∷ rest) (chains_same [] chains)
  chains_same (own ∷ needs) (chain ∷ chains) =
      ap₂ (λ (rules : List Rule) (rest : List Chain). record { name = chain.name; rules = rules } ∷ rest) (rules_same own chain.rules) (chains_same needs chains)

-- so they can where conditions have other numbers afterwards
pub dead_can_go_renumbered : DeadRulesCanGoRenumbered
dead_can_go_renumbered needs after number a t goes dead same p can short =
    let left : List Chain = map (chain_without goes) t.chains in
    rw (ap (λ (ns : List (List (List Need))). resolved_chains a ns left) (sym same) ∙ sym (chains_same a number after left)) at (dead_can_go_under needs a t goes dead p can short)
