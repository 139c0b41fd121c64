-- The lines of a listing do the edits that make the table, whose chains' names are all different.
use Rattle.std.proofs.Common.{◌≡◌, inl, inr, ℕ, suc, true, false, ◌||◌, List, [], ◌∷◌, get_or, refl, sym, ◌∙◌, ap, arith, Ordering, codes, Bool, cond, not, ◌++◌, map, flat_map, Option, Some, None}
use Rattle.std.specs.Prelude.{All, AllPairs, Result, Ok, Err, nat_le, length}
use Rattle.std.specs.Str.{bytes_eq}
use Rattle.std.specs.Cmp.Lexicographic.{slice_cmp, nat_list_cmp_total}
use Rattle.std.specs.FinSet.{contains, insert, contains-insert}
use Rattle.std.specs.Ordering.{is_eq, is_lt, nat_cmp}
use Rattle.std.specs.declared.cmp.Ordering.TheVariants.{Less, Equal, Greater}
use Rattle.std.proofs.lemmas.Bool.{cases_Bool, false≢true, or_parts}
use Rattle.std.proofs.lemmas.List.Elements.{All-cons, All-weaker, All-head, All-tail}
use Rattle.std.proofs.lemmas.Map.Text.{is_eq-slice_cmp}
use Rattle.std.proofs.lemmas.Slice.Eq.{bytes_eq-Decides}
use Rattle.std.specs.FinSet as set
use Rattle.table.specs.chains.Table.{comes_before, is_built_in, Chain, Table, has_chain, policy_of, user_chains}
use Rattle.fields.specs.values.Name.{is_name}
use Rattle.rules.specs.Printing.{IsListedLine}
use Rattle.rules.specs.rule.Rules.{Rule}
use Rattle.table.specs.edits.Edits.{Edit, Append, NewChain, edited, step}
use Rattle.table.specs.edits.Headline.{appends, making_with, steps}
use Rattle.table.specs.declared.fault.TableFault.{TableFault}
use Rattle.table.specs.declared.fault.TableFault.TheVariants.{BadChainName, ChainExists, TooManyChains}
use Rattle.table.specs.declared.policy.Policy.{Policy}
use Rattle.restore.specs.sections.Section.{Names, Section}
use Rattle.restore.proofs.laws.listings.LineLaws.{HasPolicy, chain_text, rule_line_text, policy_done, new_done, rule_done, IsDone, Runs, runs_append}

-- ---- The names of the chains of a table are all different.

-- no name is one of those after it
abbrev pub AreDifferent : List (List ℕ) → Type 0
AreDifferent [] = Unit {0}
AreDifferent (n ∷ ns) = All (λ m. bytes_eq m n ≡ false) ns × AreDifferent ns

-- none of the names is in the set
abbrev pub AreNew : Names → List (List ℕ) → Type 0
AreNew s ns = All (λ m. contains s m ≡ false) ns

new_after : (s : Names) (n m : List ℕ) → contains s m ≡ false → bytes_eq m n ≡ false → contains (insert s n) m ≡ false
new_after s n m new apart = contains-insert nat_list_cmp_total s n m ∙ ap (λ b. b || contains s m) (is_eq-slice_cmp m n ∙ apart) ∙ new

-- the names after one stay new once it is in the set
pub still_new : (s : Names) (n : List ℕ) (ns : List (List ℕ)) → AreNew s ns → All (λ m. bytes_eq m n ≡ false) ns → AreNew (insert s n) ns
still_new s n ns new apart k d lt = new_after s n (get_or ns k d) (new k d lt) (apart k d lt)

not_equal : (o : Ordering) → is_lt o ≡ true → is_eq o ≡ false
not_equal Less e = refl
not_equal Equal e = absurd (false≢true e)
not_equal Greater e = absurd (false≢true e)

-- a name after another by its bytes is another
apart_by_order : (a b : List ℕ) → comes_before a b ≡ true → bytes_eq b a ≡ false
apart_by_order a b before =
    elim (cases_Bool (bytes_eq b a)) [
      | inl same ↦ absurd (false≢true (sym (sym (is_eq-slice_cmp a b) ∙ not_equal (slice_cmp nat_cmp a b) before)
          ∙ (bytes_eq-Decides a b).1 (sym ((bytes_eq-Decides b a).0 same))))
      | inr un ↦ un
    ]

different_by_order : (ns : List (List ℕ)) → AllPairs (λ a b. comes_before a b ≡ true) ns → AreDifferent ns
different_by_order [] order = tt
different_by_order (n ∷ ns) order = (
  (λ k d lt. apart_by_order n (get_or ns k d) (order 0 (suc k) d (omega arith) (omega (arith, lt)))),
  different_by_order ns (λ i j d below lt. order (suc i) (suc j) d (omega (arith, below)) (omega (arith, lt))),
)

-- a user chain's name is none of a built-in chain
user_apart : (m : List ℕ) → is_built_in m ≡ false
    → (bytes_eq m (codes "INPUT") ≡ false) × (bytes_eq m (codes "FORWARD") ≡ false) × (bytes_eq m (codes "OUTPUT") ≡ false)
user_apart m user =
    let (input, a) = or_parts (bytes_eq m (codes "INPUT")) _ user in
    let (forward, b) = or_parts (bytes_eq m (codes "FORWARD")) _ a in
    let (output, c) = or_parts (bytes_eq m (codes "OUTPUT")) false b in
    (input, forward, output)

-- the names of the built-in chains, and then those of user chains in their order
pub all_different : (ns : List (List ℕ)) → All (λ m. is_built_in m ≡ false) ns → AllPairs (λ a b. comes_before a b ≡ true) ns
    → AreDifferent (codes "INPUT" ∷ codes "FORWARD" ∷ codes "OUTPUT" ∷ ns)
all_different ns user order =
    let input : List ℕ = codes "INPUT" in
    let forward : List ℕ = codes "FORWARD" in
    let output : List ℕ = codes "OUTPUT" in
    let User : List ℕ → Type 0 = λ m. is_built_in m ≡ false in
    let Not_input : List ℕ → Type 0 = λ m. bytes_eq m input ≡ false in
    let Not_forward : List ℕ → Type 0 = λ m. bytes_eq m forward ≡ false in
    let Not_output : List ℕ → Type 0 = λ m. bytes_eq m output ≡ false in (
      All-cons Not_input forward (output ∷ ns) refl (All-cons Not_input output ns refl (All-weaker User Not_input (λ m u. (user_apart m u).0) ns user)),
      (
        All-cons Not_forward output ns refl (All-weaker User Not_forward (λ m u. (user_apart m u).1) ns user),
        (All-weaker User Not_output (λ m u. (user_apart m u).2) ns user, different_by_order ns order),
      ),
    )

-- ---- The lines of a listing do the edits that make the table.

-- the first of edits of which none is refused
pub record Stepped (edit : Edit) (edits : List Edit) (t last : Table) : Type 0 where
  pub next : Table
  pub first : step edit t ≡ Ok next
  pub rest : steps edits next ≡ Ok last

first_step : (edit : Edit) (edits : List Edit) (t last : Table) → steps (edit ∷ edits) t ≡ Ok last → Stepped edit edits t last
first_step edit edits t last h = go (step edit t) refl h
  where
    go : (q : Result Table TableFault) → step edit t ≡ q → elim q as (λ _. Result Table TableFault) [ Ok next ↦ steps edits next | Err f ↦ Err f ] ≡ Ok last
        → Stepped edit edits t last
    go (Ok next) is h = record { next = next; first = is; rest = h }
    go (Err f) is h = absurd (cc)

-- a chain that is made wasn't there
was_not_there : (name : List ℕ) (t next : Table) → step (NewChain name) t ≡ Ok next → has_chain t name ≡ false
was_not_there name t next h = go (not (is_name name)) (has_chain t name) (nat_le 1024 (length (user_chains t.chains))) h
  where
    go : (bad there many : Bool)
        → elim (cond bad (Some BadChainName) (cond there (Some ChainExists) (cond many (Some TooManyChains) None))) as (λ _. Result Table TableFault) [
          | None ↦ Ok (edited (NewChain name) t)
          | Some f ↦ Err f
        ] ≡ Ok next → there ≡ false
    go true there many h = absurd (cc)
    go false true many h = absurd (cc)
    go false false many h = refl

-- the name of a chain of the table: it has the form of a name, and a policy where it is that of a built-in chain
pub record IsChainName (t : Table) (name : List ℕ) : Type 0 where
  pub form : is_name name ≡ true
  pub policy : HasPolicy name (policy_of t name)

-- what stands at the end of lines that do edits, before further edits
pub record Made (s : Section) (lines : List (List ℕ)) (edits : List Edit) (last : Table) : Type 0 where
  pub section : Section
  pub runs : Runs s lines section
  pub rest : steps edits section.table ≡ Ok last

chain_made : (s : Section) (name : List ℕ) (o : Option Policy) (t : Table) → is_name name ≡ true → HasPolicy name o → set.contains s.named name ≡ false
    → step (making_with name o) s.table ≡ Ok t
    → IsDone s (chain_text name o) (record { table = t; named = set.insert s.named name })
chain_made s name (Some p) t is has new does = policy_done s name p t is has new does
chain_made s name None t is has new does = new_done s name t is has (was_not_there name s.table t does) new does

-- the line of a chain, and the edit that makes it
abbrev pub text_of : Table → List ℕ → List ℕ
text_of t name = chain_text name (policy_of t name)

abbrev pub edit_for : Table → List ℕ → Edit
edit_for t name = making_with name (policy_of t name)

pub chains_made : (t : Table) (names : List (List ℕ)) (edits : List Edit) (s : Section) (last : Table) → All (IsChainName t) names → AreDifferent names
    → AreNew s.named names
    → steps (map (edit_for t) names ++ edits) s.table ≡ Ok last → Made s (map (text_of t) names) edits last
chains_made t [] edits s last are different new h = record { section = s; runs = refl; rest = h }
chains_made t (n ∷ ns) edits s last are different new h =
    let New : List ℕ → Type 0 = λ m. set.contains s.named m ≡ false in
    let one : IsChainName t n = All-head (IsChainName t) n ns are in
    let stepped = first_step (edit_for t n) (map (edit_for t) ns ++ edits) s.table last h in
    let next : Section = record { table = stepped.next; named = set.insert s.named n } in
    let is_done : IsDone s (text_of t n) next = chain_made s n (policy_of t n) stepped.next one.form one.policy (All-head New n ns new) stepped.first in
    let made = chains_made t ns edits next last (All-tail (IsChainName t) n ns are) different.1
    (still_new s.named n ns (All-tail New n ns new) different.0) stepped.rest in
    record { section = made.section; runs = (next, is_done, made.runs); rest = made.rest }

pub rules_made : (name : List ℕ) (rules : List Rule) (edits : List Edit) (s : Section) (last : Table) → All (IsListedLine name) rules
    → steps (map (λ r. Append name r) rules ++ edits) s.table ≡ Ok last → Made s (map (rule_line_text name) rules) edits last
rules_made name [] edits s last are h = record { section = s; runs = refl; rest = h }
rules_made name (r ∷ rs) edits s last are h =
    let stepped = first_step (Append name r) (map (λ r. Append name r) rs ++ edits) s.table last h in
    let next : Section = record { table = stepped.next; named = s.named } in
    let is_done : IsDone s (rule_line_text name r) next = rule_done s name r stepped.next (All-head (IsListedLine name) r rs are) stepped.first in
    let made = rules_made name rs edits next last (All-tail (IsListedLine name) r rs are) stepped.rest in
    record { section = made.section; runs = (next, is_done, made.runs); rest = made.rest }

-- the lines of a chain's rules
abbrev pub rule_texts : Chain → List (List ℕ)
rule_texts c = map (rule_line_text c.name) c.rules

-- each rule of the chain has a line that reads back
abbrev pub AreListed : Chain → Type 0
AreListed c = All (IsListedLine c.name) c.rules

pub all_rules_made : (chains : List Chain) (s : Section) (last : Table) → All AreListed chains → steps (flat_map appends chains) s.table ≡ Ok last
    → Made s (flat_map rule_texts chains) [] last
all_rules_made [] s last are h = record { section = s; runs = refl; rest = h }
all_rules_made (c ∷ cs) s last are h =
    let first = rules_made c.name c.rules (flat_map appends cs) s last (All-head AreListed c cs are) h in
    let more = all_rules_made cs first.section last (All-tail AreListed c cs are) first.rest in
    record {
      section = more.section;
      runs = runs_append s first.section more.section (rule_texts c) (flat_map rule_texts cs) first.runs more.runs;
      rest = more.rest;
    }
