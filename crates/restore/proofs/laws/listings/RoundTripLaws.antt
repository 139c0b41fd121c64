-- The lines of a listing, and that the listing of a table restores it.
use Rattle.std.proofs.Common.{◌≡◌, ℕ, List, [], ◌∷◌, ◌++◌, map, flat_map, refl, sym, ap, ◌∙◌, append_assoc, false, length, drop, Option, Some, None, is_some, subst, arith, take-append-drop}
use Rattle.std.specs.Prelude.{All, codes, Result, Ok, option_and_then, position, slice_get}
use Rattle.std.proofs.lemmas.List.Elements.{All-head, All-tail, All-cons, All-nil, All-weaker}
use Rattle.std.specs.Cmp.Lexicographic.{slice_cmp}
use Rattle.std.specs.FinSet.{contains-empty}
use Rattle.std.specs.Ordering.{nat_cmp}
use Rattle.std.specs.Str.{bytes_eq}
use Rattle.std.proofs.lemmas.Bool.{false≢true}
use Rattle.fields.specs.text.Line.{lines_of, IsOneLine}
use Rattle.fields.proofs.laws.text.LineLaws.{lines_of-ended}
use Rattle.fields.proofs.laws.text.PrintedLaws.{found_line}
use Rattle.rules.specs.Printing.{rule_text, IsListedLine, LinesOfRulesReadBack}
use Rattle.rules.specs.rule.Rules.{Rule}
use Rattle.table.specs.chains.Table.{Chain, Table, names_of, policy_of, built_in_names, empty_table, is_built_in}
use Rattle.table.specs.chains.Sound.{IsSound, IsSoundChain, IsUserName, MayStand}
use Rattle.table.specs.edits.Edits.{Edit}
use Rattle.table.specs.declared.policy.Policy.{Policy}
use Rattle.table.specs.edits.Headline.{TablesAreMadeByEdits, appends, making, steps}
use Rattle.fields.proofs.laws.ListLaws.{any_is}
use Rattle.restore.specs.Listing.{chain_line, listing, policy_word, rule_line, rule_lines, RestoresAsEqual, CommitsAsEqual}
use Rattle.restore.specs.Sequence.{◌>>=◌, made_into}
use Rattle.restore.specs.sections.Restore.{Restoring, Between, Building, begun_restore, ended_at, restore_line, restore_lines, restored}
use Rattle.restore.specs.sections.Section.{RestoreFault, Section, begun, inside, transaction}
use Rattle.restore.proofs.laws.listings.LineLaws.{chain_one_line, rule_line_text, HasPolicy, Runs, inside_is, runs_append, runs_in_restore, runs_in_section, standing}
use Rattle.restore.proofs.laws.listings.MakingLaws.{AreListed, IsChainName, rule_texts, text_of, all_rules_made, chains_made, edit_for, AreDifferent, all_different}

-- ---- The lines of a listing.

abbrev newline : List ℕ
newline = 10 ∷ []

ended_chain : (name word : List ℕ)
    → codes ":" ++ (name ++ (codes " " ++ (word ++ codes " [0:0]\n"))) ≡ (codes ":" ++ (name ++ (codes " " ++ (word ++ codes " [0:0]")))) ++ newline
ended_chain name word =
    ap (λ l. 58 ∷ (name ++ (32 ∷ l))) (sym (append_assoc word (codes " [0:0]") newline))
    ∙ ap (λ l. 58 ∷ l) (sym (append_assoc name (codes " " ++ (word ++ codes " [0:0]")) newline))

ended_rule : (name text : List ℕ) → codes "-A " ++ (name ++ (text ++ codes "\n")) ≡ (codes "-A " ++ (name ++ text)) ++ newline
ended_rule name text = ap (λ l. codes "-A " ++ l) (sym (append_assoc name text newline))

-- a line of a list of lines, and what follows it
line_first : (whole line more rest : List ℕ) → whole ≡ line ++ newline → IsOneLine line → lines_of ((whole ++ more) ++ rest) ≡ line ∷ lines_of (more ++ rest)
line_first whole line more rest is one =
    ap lines_of (append_assoc whole more rest) ∙ ap (λ l. lines_of (l ++ (more ++ rest))) is ∙ lines_of-ended line (more ++ rest) one

chains_lines : (t : Table) (chains : List Chain) (rest : List ℕ) → All (IsChainName t) (names_of chains)
    → lines_of (flat_map (chain_line t) chains ++ rest) ≡ map (text_of t) (names_of chains) ++ lines_of rest
chains_lines t [] rest are = refl
chains_lines t (c ∷ cs) rest are =
    let o = policy_of t c.name in
    let one : IsChainName t c.name = All-head (IsChainName t) c.name (names_of cs) are in
    line_first (chain_line t c) (text_of t c.name) (flat_map (chain_line t) cs) rest (ended_chain c.name (policy_word o)) (chain_one_line c.name o one.form)
    ∙ ap (λ (l : List (List ℕ)). text_of t c.name ∷ l) (chains_lines t cs rest (All-tail (IsChainName t) c.name (names_of cs) are))

rules_lines : (name : List ℕ) (rules : List Rule) (rest : List ℕ) → All (IsListedLine name) rules
    → lines_of (flat_map (rule_line name) rules ++ rest) ≡ map (rule_line_text name) rules ++ lines_of rest
rules_lines name [] rest are = refl
rules_lines name (r ∷ rs) rest are =
    let one : IsListedLine name r = All-head (IsListedLine name) r rs are in
    line_first (rule_line name r) (rule_line_text name r) (flat_map (rule_line name) rs) rest (ended_rule name (rule_text r)) one.one_line
    ∙ ap (λ (l : List (List ℕ)). rule_line_text name r ∷ l) (rules_lines name rs rest (All-tail (IsListedLine name) r rs are))

all_rules_lines : (chains : List Chain) (rest : List ℕ) → All AreListed chains
    → lines_of (flat_map rule_lines chains ++ rest) ≡ flat_map rule_texts chains ++ lines_of rest
all_rules_lines [] rest are = refl
all_rules_lines (c ∷ cs) rest are =
    ap lines_of (append_assoc (rule_lines c) (flat_map rule_lines cs) rest)
    ∙ rules_lines c.name c.rules (flat_map rule_lines cs ++ rest) (All-head AreListed c cs are)
    ∙ ap (λ (l : List (List ℕ)). rule_texts c ++ l) (all_rules_lines cs rest (All-tail AreListed c cs are))
    ∙ sym (append_assoc (rule_texts c) (flat_map rule_texts cs) (lines_of rest))

-- the lines between `*filter` and `COMMIT`
abbrev pub body : Table → List (List ℕ)
body t = map (text_of t) (names_of t.chains) ++ flat_map rule_texts t.chains

pub listing_lines : (t : Table) → All (IsChainName t) (names_of t.chains) → All AreListed t.chains
    → lines_of (listing t) ≡ codes "*filter" ∷ (body t ++ codes "COMMIT" ∷ [])
listing_lines t names rules =
    let chains : List ℕ = flat_map (chain_line t) t.chains in
    let others : List ℕ = flat_map rule_lines t.chains in
    let last : List (List ℕ) = codes "COMMIT" ∷ [] in
    let texts : List (List ℕ) = map (text_of t) (names_of t.chains) in
    lines_of-ended (codes "*filter") (chains ++ (others ++ codes "COMMIT\n")) (found_line (codes "*filter" ∷ []) (codes "*filter") refl)
    ∙ ap (λ (l : List (List ℕ)). codes "*filter" ∷ l)
    (chains_lines t t.chains (others ++ codes "COMMIT\n") names ∙ ap (λ (l : List (List ℕ)). texts ++ l) (all_rules_lines t.chains (codes "COMMIT\n") rules)
    ∙ sym (append_assoc texts (flat_map rule_texts t.chains) last))

-- ---- The listing of a table restores it.

-- The names of the chains

-- the policy of a chain among these
abbrev policy_among : List Policy → List ℕ → Option Policy
policy_among policies name = option_and_then (slice_get policies) (position (bytes_eq name) built_in_names)

user_policy : (policies : List Policy) (name : List ℕ) → is_built_in name ≡ false → HasPolicy name (policy_among policies name)
user_policy policies name user = go (position (bytes_eq name) built_in_names) (any_is (bytes_eq name) built_in_names ∙ user)
  where
    go : (o : Option ℕ) → is_some o ≡ false → HasPolicy name (option_and_then (slice_get policies) o)
    go None none = user
    go (Some k) none = absurd (false≢true (sym none))

own_policies : (policies : List Policy) → length policies ≡ 3 → All (λ n. HasPolicy n (policy_among policies n)) built_in_names
own_policies [] three = absurd (omega (arith, three))
own_policies (p ∷ []) three = absurd (omega (arith, three))
own_policies (p ∷ q ∷ []) three = absurd (omega (arith, three))
own_policies (p ∷ q ∷ r ∷ []) three =
    let Has : List ℕ → Type 0 = λ n. HasPolicy n (policy_among (p ∷ q ∷ r ∷ []) n) in
    All-cons Has (codes "INPUT") (codes "FORWARD" ∷ codes "OUTPUT" ∷ []) refl
    (All-cons Has (codes "FORWARD") (codes "OUTPUT" ∷ []) refl (All-cons Has (codes "OUTPUT") [] refl (All-nil Has)))
own_policies (p ∷ q ∷ r ∷ x ∷ xs) three = absurd (omega (arith, three))

user_name : (t : Table) (name : List ℕ) → IsUserName name → IsChainName t name
user_name t name is = record { form = is.form; policy = user_policy t.policies name is.other }

own_names : (t : Table) (users : List (List ℕ)) → length t.policies ≡ 3 → All (IsChainName t) users → All (IsChainName t) (built_in_names ++ users)
own_names t users three are =
    let Has : List ℕ → Type 0 = λ n. HasPolicy n (policy_among t.policies n) in
    let input : List ℕ = codes "INPUT" in
    let forward : List ℕ = codes "FORWARD" in
    let output : List ℕ = codes "OUTPUT" in
    let all : All Has built_in_names = own_policies t.policies three in
    let two : All Has (forward ∷ output ∷ []) = All-tail Has input (forward ∷ output ∷ []) all in
    let one : All Has (output ∷ []) = All-tail Has forward (output ∷ []) two in
    All-cons (IsChainName t) input (forward ∷ output ∷ users) (record { form = refl; policy = All-head Has input (forward ∷ output ∷ []) all })
    (All-cons (IsChainName t) forward (output ∷ users) (record { form = refl; policy = All-head Has forward (output ∷ []) two })
    (All-cons (IsChainName t) output users (record { form = refl; policy = All-head Has output [] one }) are))

names_are : (t : Table) → IsSound t → names_of t.chains ≡ built_in_names ++ drop 3 (names_of t.chains)
names_are t s = sym (take-append-drop 3 (names_of t.chains)) ∙ ap (λ (xs : List (List ℕ)). xs ++ drop 3 (names_of t.chains)) s.listed.built_in

chain_names : (t : Table) → IsSound t → All (IsChainName t) (names_of t.chains)
chain_names t s =
    let users : List (List ℕ) = drop 3 (names_of t.chains) in
    subst (λ (ns : List (List ℕ)). All (IsChainName t) ns) (sym (names_are t s))
    (own_names t users s.policies (All-weaker IsUserName (IsChainName t) (user_name t) users s.listed.user))

names_differ : (t : Table) → IsSound t → AreDifferent (names_of t.chains)
names_differ t s =
    let users : List (List ℕ) = drop 3 (names_of t.chains) in
    subst AreDifferent (sym (names_are t s))
    (all_different users (All-weaker IsUserName (λ m. is_built_in m ≡ false) (λ m is. is.other) users s.listed.user) s.listed.order)

-- The lines of the rules

rules_listed : LinesOfRulesReadBack → (t : Table) (name : List ℕ) (rules : List Rule) → IsChainName t name → All (MayStand t name) rules
    → All (IsListedLine name) rules
rules_listed law t name rules is may = All-weaker (MayStand t name) (IsListedLine name) (λ r stands. law name r is.form stands.readable) rules may

chains_listed : LinesOfRulesReadBack → (t : Table) (chains : List Chain) → All (IsChainName t) (names_of chains) → All (IsSoundChain t) chains
    → All AreListed chains
chains_listed law t [] names sound = All-nil AreListed
chains_listed law t (c ∷ cs) names sound =
    let one : IsSoundChain t c = All-head (IsSoundChain t) c cs sound in
    All-cons AreListed c cs (rules_listed law t c.name c.rules (All-head (IsChainName t) c.name (names_of cs) names) one.rules)
    (chains_listed law t cs (All-tail (IsChainName t) c.name (names_of cs) names) (All-tail (IsSoundChain t) c cs sound))

-- The section

makings_by_name : (t : Table) (chains : List Chain) → map (making t) chains ≡ map (edit_for t) (names_of chains)
makings_by_name t [] = refl
makings_by_name t (c ∷ cs) = λ i. making t c ∷ makings_by_name t cs i

-- the lines of the section give the table
pub record GivesTable (t : Table) : Type 0 where
  pub section : Section
  pub runs : Runs (begun false empty_table) (body t) section
  pub table : section.table ≡ t

same_table : (a b : Table) → ◌≡◌ {A = Result Table RestoreFault} (Ok a) (Ok b) → a ≡ b
same_table a b e = cc

gives_table : LinesOfRulesReadBack → TablesAreMadeByEdits → (t : Table) → IsSound t → GivesTable t
gives_table lines makes t s =
    let names : List (List ℕ) = names_of t.chains in
    let others : List Edit = flat_map appends t.chains in
    let start : Section = begun false empty_table in
    let are : All (IsChainName t) names = chain_names t s in
    let all : steps (map (edit_for t) names ++ others) empty_table ≡ Ok t =
    ap (λ (es : List Edit). steps (es ++ others) empty_table) (sym (makings_by_name t t.chains)) ∙ makes t s in
    let first = chains_made t names others start t are (names_differ t s) (λ k d lt. contains-empty (slice_cmp nat_cmp) _) all in
    let more = all_rules_made t.chains first.section t (chains_listed lines t t.chains are s.chains) first.rest in
    record {
      section = more.section;
      runs = runs_append start first.section more.section (map (text_of t) names) (flat_map rule_texts t.chains) first.runs more.runs;
      table = cc;
    }

-- The listing

lines_are : LinesOfRulesReadBack → (t : Table) → IsSound t → lines_of (listing t) ≡ codes "*filter" ∷ (body t ++ codes "COMMIT" ∷ [])
lines_are law t s = listing_lines t (chain_names t s) (chains_listed law t t.chains (chain_names t s) s.chains)

pub commits_as_equal : LinesOfRulesReadBack → TablesAreMadeByEdits → CommitsAsEqual
commits_as_equal lines makes t s =
    let given = gives_table lines makes t s in
    ap (λ (ls : List (List ℕ)). transaction false empty_table (inside ls)) (lines_are lines t s)
    ∙ ap (transaction false empty_table) (inside_is (codes "*filter") (codes "COMMIT") (body t))
    ∙ ap (made_into (λ (q : Section). q.table)) (runs_in_section (begun false empty_table) given.section (body t) given.runs)
    ∙ ap Ok given.table

opened_line : restore_line (begun_restore false false) empty_table (codes "*filter") ≡ Ok (standing empty_table (Building (begun false empty_table)))
unfolding restore_line
opened_line = refl

closed_line : (q : Section) → restore_line (standing empty_table (Building q)).restore empty_table (codes "COMMIT") ≡ Ok (standing q.table Between)
unfolding restore_line
closed_line q = refl

-- the table in place at the end, between sections
abbrev finished : Result Restoring RestoreFault → Result Table RestoreFault
finished r = r >>= λ (s : Restoring). made_into (λ done. s.table) (ended_at s.restore.state)

pub restores_as_equal : LinesOfRulesReadBack → TablesAreMadeByEdits → RestoresAsEqual
restores_as_equal lines makes t s =
    let given = gives_table lines makes t s in
    let last : List (List ℕ) = codes "COMMIT" ∷ [] in
    ap (restored false false empty_table) (lines_are lines t s)
    ∙ ap (λ (r : Result Restoring RestoreFault). finished (r >>= λ m. restore_lines m (body t ++ last))) opened_line
    ∙ ap finished (runs_in_restore empty_table (begun false empty_table) given.section (body t) last given.runs)
    ∙ ap (λ (r : Result Restoring RestoreFault). finished (r >>= λ m. restore_lines m [])) (closed_line given.section)
    ∙ ap Ok given.table
