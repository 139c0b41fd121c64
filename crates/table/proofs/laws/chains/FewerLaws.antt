-- A table with fewer chains is sound, where no rule names one that went.
use Rattle.std.proofs.Common.{◌≡◌, inl, inr, ℕ, zero, suc, ◌<◌, ◌≤◌, Bool, true, false, ◌||◌, not, List, [], ◌∷◌, length, get_or, refl, sym, ◌∙◌, ap, arith, subst, Some, None, Contains, codes}
use Rattle.std.specs.Prelude.{All, IsTrue, filter, if◌then◌else◌, nat_lt}
use Rattle.std.specs.List.{list_any}
use Rattle.std.specs.Str.{bytes_eq}
use Rattle.std.proofs.lemmas.Bool.{cases_Bool, cond-true, cond-false, false≢true, or_left, or_right}
use Rattle.std.proofs.lemmas.List.Elements.{All-filter, All-weaker, All-contains, All-contains_itself}
use Rattle.std.proofs.lemmas.List.Folds.{list_any_at}
use Rattle.std.proofs.lemmas.List.Kept.{AllPairs-filter}
use Rattle.std.proofs.lemmas.Slice.Eq.{bytes_eq-Decides}
use Rattle.rules.specs.rule.Rules.{Rule}
use Rattle.table.specs.chains.Table.{Chain, Table, names_of, is_built_in, is_named, is_this, is_user, user_chains, comes_before, rules_of, has_chain, chain_named_by, names, is_referenced}
use Rattle.table.specs.chains.Sound.{IsTarget, MayStand, IsSoundChain, IsUserName, AreListed, IsSound}
use Rattle.table.specs.edits.Edits.{Cause, DeleteChain, ChainNotEmpty, ChainReferenced, no_such_chain, built_in, causes, edited, fault_of}
use Rattle.table.proofs.laws.chains.KeepLaws.{front_long, head_same, tail_same}
use Rattle.table.proofs.laws.chains.SoundLaws.{path_fewer}
use Rattle.table.proofs.laws.chains.StepLaws.{none_holds, first_clear}

-- Lists that are filtered

filter_fewer : {X : Type 0} (q p : X → Bool) (xs : List X) → length (filter q (filter p xs)) ≤ length (filter q xs)
filter_fewer {X} q p [] = omega arith
filter_fewer {X} q p (x ∷ xs) =
    let len : List X → ℕ = λ (ys : List X). length ys in
    let more : length (filter q (filter p xs)) ≤ length (filter q xs) = filter_fewer q p xs in
    let step : (ys : List X) → length (filter q ys) ≤ length (filter q (x ∷ ys)) =
    λ ys. elim (cases_Bool (q x)) [
      | inl t ↦ omega (arith, ap len (cond-true (q x) (x ∷ filter q ys) (filter q ys) t))
      | inr f ↦ omega (arith, ap len (cond-false (q x) (x ∷ filter q ys) (filter q ys) f))
    ] in
    elim (cases_Bool (p x)) [
      | inl stays ↦ (
          let e = ap (λ (ys : List X). length (filter q ys)) (cond-true (p x) (x ∷ filter p xs) (filter p xs) stays) in
          elim (cases_Bool (q x)) [
            | inl t ↦ omega (arith, more, e, ap len (cond-true (q x) (x ∷ filter q (filter p xs)) (filter q (filter p xs)) t), ap len (cond-true (q x) (x ∷ filter q xs) (filter q xs) t))
            | inr f ↦ omega (arith, more, e, ap len (cond-false (q x) (x ∷ filter q (filter p xs)) (filter q (filter p xs)) f), ap len (cond-false (q x) (x ∷ filter q xs) (filter q xs) f))
          ])
      | inr goes ↦ omega (arith, more, step xs, ap (λ (ys : List X). length (filter q ys)) (cond-false (p x) (x ∷ filter p xs) (filter p xs) goes))
    ]

-- an element that a test finds among those of a kind
pub any_kind : {X : Type 0} (q f : X → Bool) (xs : List X) (k : ℕ) (d : X) → k < length xs → q (get_or xs k d) ≡ true → f (get_or xs k d) ≡ true → list_any f (filter q xs) ≡ true
any_kind q f [] k d lt kind is = absurd (omega (arith, lt))
any_kind q f (x ∷ xs) zero d lt kind is = ap (list_any f) (cond-true (q x) _ _ kind) ∙ or_left (f x) _ is
any_kind q f (x ∷ xs) (suc k) d lt kind is =
    let there : list_any f (filter q xs) ≡ true = any_kind q f xs k d (omega (arith, lt)) kind is in
    elim (cases_Bool (q x)) [
      | inl t ↦ ap (list_any f) (cond-true (q x) _ _ t) ∙ or_right (f x) _ there
      | inr n ↦ ap (list_any f) (cond-false (q x) _ _ n) ∙ there
    ]

pub none_kind : {X : Type 0} (q f : X → Bool) (xs : List X) (d : X) → ((k : ℕ) → k < length xs → q (get_or xs k d) ≡ true → f (get_or xs k d) ≡ false) → list_any f (filter q xs) ≡ false
none_kind q f [] d h = refl
none_kind q f (x ∷ xs) d h =
    let rest : list_any f (filter q xs) ≡ false = none_kind q f xs d (λ k lt. h (suc k) (omega (arith, lt))) in
    elim (cases_Bool (q x)) [
      | inl t ↦ ap (list_any f) (cond-true (q x) _ _ t) ∙ ap (λ b. b || list_any f (filter q xs)) (h 0 (omega arith) t) ∙ rest
      | inr n ↦ ap (list_any f) (cond-false (q x) _ _ n) ∙ rest
    ]

-- no element passes a test that finds none
pub any_false : {X : Type 0} (f : X → Bool) (xs : List X) (x : X) → list_any f xs ≡ false → Contains xs x → f x ≡ false
any_false f xs x none at =
    elim (cases_Bool (f x)) [
      | inl t ↦ absurd (false≢true (sym none ∙ list_any_at f xs at.0 x at.1 (ap f at.2 ∙ t)))
      | inr n ↦ n
    ]

pub filter_within : {X : Type 0} (q p : X → Bool) (xs : List X) → ((x : X) → q x ≡ true → p x ≡ true) → filter q (filter p xs) ≡ filter q xs
filter_within q p [] h = refl
filter_within {X} q p (x ∷ xs) h =
    let rest : filter q (filter p xs) ≡ filter q xs = filter_within q p xs h in
    elim (cases_Bool (p x)) [
      | inl stays ↦ ap (filter q) (cond-true (p x) _ _ stays) ∙ ap (λ (ys : List X). if q x then x ∷ ys else ys) rest
      | inr goes ↦ ap (filter q) (cond-false (p x) _ _ goes) ∙ rest
          ∙ sym (cond-false (q x) _ _ (elim (cases_Bool (q x)) [ inl t ↦ absurd (false≢true (sym goes ∙ h x t)) | inr n ↦ n ]))
    ]

pub filter_all : {X : Type 0} (q : X → Bool) (xs : List X) (d : X) → ((k : ℕ) → k < length xs → q (get_or xs k d) ≡ true) → filter q xs ≡ xs
filter_all q [] d h = refl
filter_all {X} q (x ∷ xs) d h = cond-true (q x) _ _ (h 0 (omega arith)) ∙ ap (λ (ys : List X). x ∷ ys) (filter_all q xs d (λ k lt. h (suc k) (omega (arith, lt))))

-- The chains whose names pass a test

abbrev pub only : (List ℕ → Bool) → List Chain → List Chain
only p cs = filter (λ (c : Chain). p c.name) cs

names_only : (p : List ℕ → Bool) (cs : List Chain) → names_of (only p cs) ≡ filter p (names_of cs)
names_only p [] = refl
names_only p (x ∷ cs) =
    elim (cases_Bool (p x.name)) [
      | inl stays ↦ ap names_of (cond-true (p x.name) _ _ stays) ∙ (λ i. x.name ∷ names_only p cs i) ∙ sym (cond-true (p x.name) _ _ stays)
      | inr goes ↦ ap names_of (cond-false (p x.name) _ _ goes) ∙ names_only p cs ∙ sym (cond-false (p x.name) _ _ goes)
    ]

-- those of the built-in chains do
abbrev pub KeepsBuiltIn : (List ℕ → Bool) → Type 0
KeepsBuiltIn p = (n : List ℕ) → is_built_in n ≡ true → p n ≡ true

listed_only : (p : List ℕ → Bool) (ns : List (List ℕ)) → KeepsBuiltIn p → AreListed ns → AreListed (filter p ns)
listed_only p [] keeps h = absurd (let e = front_long [] h.built_in in omega (arith, e))
listed_only p (a ∷ []) keeps h = absurd (let e = front_long (a ∷ []) h.built_in in omega (arith, e))
listed_only p (a ∷ b ∷ []) keeps h = absurd (let e = front_long (a ∷ b ∷ []) h.built_in in omega (arith, e))
listed_only p (a ∷ b ∷ c ∷ ns) keeps h =
    let input : List ℕ = codes "INPUT" in
    let forward : List ℕ = codes "FORWARD" in
    let output : List ℕ = codes "OUTPUT" in
    let one : a ≡ input = head_same a input (b ∷ c ∷ []) (forward ∷ output ∷ []) h.built_in in
    let more = tail_same a input (b ∷ c ∷ []) (forward ∷ output ∷ []) h.built_in in
    let two : b ≡ forward = head_same b forward (c ∷ []) (output ∷ []) more in
    let three : c ≡ output = head_same c output [] [] (tail_same b forward (c ∷ []) (output ∷ []) more) in
    let first : (x : List ℕ) (xs : List (List ℕ)) → is_built_in x ≡ true → filter p (x ∷ xs) ≡ x ∷ filter p xs = λ x xs is. cond-true (p x) _ _ (keeps x is) in
    let all : filter p (a ∷ b ∷ c ∷ ns) ≡ a ∷ b ∷ c ∷ filter p ns = first a (b ∷ c ∷ ns) (ap is_built_in one)
    ∙ (λ i. a ∷ first b (c ∷ ns) (ap is_built_in two) i)
    ∙ (λ i. a ∷ b ∷ first c ns (ap is_built_in three) i) in
    subst AreListed (sym all) (record { built_in = h.built_in; user = All-filter p IsUserName ns h.user; order = AllPairs-filter (λ x y. IsTrue (comes_before x y)) p ns h.order })

goes_unnamed : (p : List ℕ → Bool) (a : List ℕ) (x : Chain) → p a ≡ true → p x.name ≡ false → is_named a x ≡ false
goes_unnamed p a x stays goes =
    elim (cases_Bool (is_named a x)) [
      | inl here ↦ absurd (false≢true (sym goes ∙ ap p ((bytes_eq-Decides x.name a).0 here) ∙ stays))
      | inr un ↦ un
    ]

has_only : (p : List ℕ → Bool) (a : List ℕ) (cs : List Chain) → p a ≡ true → list_any (is_named a) (only p cs) ≡ list_any (is_named a) cs
has_only p a [] stays = refl
has_only p a (x ∷ cs) stays =
    elim (cases_Bool (p x.name)) [
      | inl own ↦ ap (list_any (is_named a)) (cond-true (p x.name) _ _ own) ∙ ap (λ b. is_named a x || b) (has_only p a cs stays)
      | inr goes ↦ ap (list_any (is_named a)) (cond-false (p x.name) _ _ goes) ∙ has_only p a cs stays ∙ sym (ap (λ b. b || list_any (is_named a) cs) (goes_unnamed p a x stays goes))
    ]

rules_only : (p : List ℕ → Bool) (cs : List Chain) (a : List ℕ) → p a ≡ true → rules_of (only p cs) a ≡ rules_of cs a
rules_only p [] a stays = refl
rules_only p (x ∷ cs) a stays =
    let rules : List Chain → List Rule = λ (xs : List Chain). rules_of xs a in
    elim (cases_Bool (p x.name)) [
      | inl own ↦ ap rules (cond-true (p x.name) _ _ own) ∙ ap (λ (rs : List Rule). if is_named a x then x.rules else rs) (rules_only p cs a stays)
      | inr goes ↦ ap rules (cond-false (p x.name) _ _ goes) ∙ rules_only p cs a stays ∙ sym (cond-false (is_named a x) _ _ (goes_unnamed p a x stays goes))
    ]

no_rules_only : (p : List ℕ → Bool) (cs : List Chain) (a : List ℕ) → p a ≡ false → length (rules_of (only p cs) a) ≡ 0
no_rules_only p [] a goes = refl
no_rules_only p (x ∷ cs) a goes =
    let many : List Chain → ℕ = λ (xs : List Chain). length (rules_of xs a) in
    elim (cases_Bool (p x.name)) [
      | inl own ↦ ap many (cond-true (p x.name) _ _ own)
          ∙ ap (λ (rs : List Rule). length rs) (cond-false (is_named a x) _ _ (elim (cases_Bool (is_named a x)) [ inl here ↦ absurd (false≢true (sym goes ∙ sym (ap p ((bytes_eq-Decides x.name a).0 here)) ∙ own)) | inr un ↦ un ]))
          ∙ no_rules_only p cs a goes
      | inr out ↦ ap many (cond-false (p x.name) _ _ out) ∙ no_rules_only p cs a goes
    ]

rule_only : (p : List ℕ → Bool) (cs : List Chain) (a : List ℕ) (r : Rule) → Contains (rules_of (only p cs) a) r → Contains (rules_of cs a) r
rule_only p cs a r h =
    let P : List Rule → Type 0 = λ (rs : List Rule). Contains rs r in
    elim (cases_Bool (p a)) [
      | inl stays ↦ subst P (rules_only p cs a stays) h
      | inr goes ↦ absurd (omega (arith, h.1, no_rules_only p cs a goes))
    ]

-- no rule names a chain that goes
abbrev pub NamesKept : (List ℕ → Bool) → List Chain → Type 0
NamesKept p cs = (x : Chain) (r : Rule) (n : List ℕ) → Contains cs x → Contains x.rules r → chain_named_by r ≡ Some n → p n ≡ true

only_sound : (t u : Table) (p : List ℕ → Bool) → u.policies ≡ t.policies → u.chains ≡ only p t.chains → IsSound t → KeepsBuiltIn p → NamesKept p t.chains → IsSound u
only_sound t u p same is s keeps named =
    let H : List Chain → Type 0 = λ (cs : List Chain). (n : List ℕ) → p n ≡ true → has_chain t n ≡ true → list_any (is_named n) cs ≡ true in
    let has : H u.chains = subst H (sym is) (λ n stays there. has_only p n t.chains stays ∙ there) in
    let one : (x : Chain) → Contains t.chains x → IsSoundChain u x =
    λ x at.
    (let own : IsSoundChain t x = All-contains (IsSoundChain t) t.chains x s.chains at in
    let stands : (r : Rule) → Contains x.rules r → MayStand u x.name r =
    λ r here.
    (let m : MayStand t x.name r = All-contains (MayStand t x.name) x.rules r own.rules here in
    record {
      readable = m.readable;
      interface = m.interface;
      target = λ name e. (let h : IsTarget t name = m.target name e in record { there = has name (named x r name at here e) h.there; user = h.user });
    }) in
    record { rules = All-weaker (Contains x.rules) (MayStand u x.name) stands x.rules (All-contains_itself x.rules); few = own.few }) in
    let A : List Chain → Type 0 = λ (cs : List Chain). All (IsSoundChain u) cs in
    let few : length (user_chains t.chains) ≤ 1024 = s.few in
    let fewer : length (user_chains (only p t.chains)) ≤ length (user_chains t.chains) = filter_fewer is_user (λ (c : Chain). p c.name) t.chains in
    let L : List Chain → Type 0 = λ (cs : List Chain). AreListed (names_of cs) in
    let R : List Chain → Type 0 = λ (cs : List Chain). (a : List ℕ) (r : Rule) → Contains (rules_of cs a) r → Contains (rules_of t.chains a) r in
    let rules : R u.chains = subst R (sym is) (rule_only p t.chains) in
    record {
      policies = ap (λ ps. length ps) same ∙ s.policies;
      listed = subst L (sym is) (subst AreListed (sym (names_only p t.chains)) (listed_only p (names_of t.chains) keeps s.listed));
      chains = subst A (sym is) (All-filter (λ (c : Chain). p c.name) (IsSoundChain u) t.chains (All-weaker (Contains t.chains) (IsSoundChain u) one t.chains (All-contains_itself t.chains)));
      no_loop = λ n a q. s.no_loop n a (path_fewer t.chains u.chains [] (λ x y e. inl (e.0, rules x e.0 e.1, e.2)) (suc n) a a q);
      few = omega (arith, few, fewer, ap (λ (cs : List Chain). length (user_chains cs)) is);
    }

-- One chain goes

-- the chain is any but this
abbrev pub other_than : List ℕ → List ℕ → Bool
other_than c n = not (bytes_eq n c)

pub others_kept : (c : List ℕ) → is_built_in c ≡ false → KeepsBuiltIn (other_than c)
others_kept c other n is =
    elim (cases_Bool (bytes_eq n c)) [
      | inl same ↦ absurd (false≢true (sym other ∙ ap is_built_in (sym ((bytes_eq-Decides n c).0 same)) ∙ is))
      | inr un ↦ ap not un
    ]

-- what an accepted step says
pub record MayGo (t : Table) (c : List ℕ) : Type 0 where
  pub there : (no_such_chain t c).0 ≡ false
  pub user : is_built_in c ≡ false
  pub empty : nat_lt 0 (length (rules_of t.chains c)) ≡ false
  pub unnamed : is_referenced t.chains c ≡ false

pub may_go : (t : Table) (c : List ℕ) → fault_of (DeleteChain c) t ≡ None → MayGo t c
may_go t c none =
    let has : Cause = (nat_lt 0 (length (rules_of t.chains c)), ChainNotEmpty) in
    let ref : Cause = (is_referenced t.chains c, ChainReferenced) in
    let h = first_clear (no_such_chain t c) (built_in c ∷ has ∷ ref ∷ []) (none_holds (causes (DeleteChain c) t) none) in
    let g = first_clear (built_in c) (has ∷ ref ∷ []) h.1 in
    let f = first_clear has (ref ∷ []) g.1 in
    record { there = h.0; user = g.0; empty = f.0; unnamed = (first_clear ref [] f.1).0 }

pub delete_chain_sound : (t : Table) (c : List ℕ) → IsSound t → fault_of (DeleteChain c) t ≡ None → IsSound (edited (DeleteChain c) t)
delete_chain_sound t c s none =
    let m : MayGo t c = may_go t c none in
    only_sound t (edited (DeleteChain c) t) (other_than c) refl refl s (others_kept c m.user)
    (λ x r n at here e.
    ap not (sym (ap (is_this c) e) ∙ any_false (names c) x.rules r (any_false (λ (y : Chain). list_any (names c) y.rules) t.chains x m.unnamed at) here))
