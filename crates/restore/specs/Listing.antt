-- The listing of a table (iptables-save(8)), the rules as `-S` lists them (iptables(8), COMMANDS, -S), and that the listing restores the
-- table (iptables-restore(8)).
use Rattle.std.specs.Prelude.{ℕ, List, ◌++◌, filter, flat_map, Option, Some, None, codes, ◌≡◌, false, Ok}
use Rattle.rules.specs.Printing.{rule_text}
use Rattle.rules.specs.rule.Rules.{Rule}
use Rattle.table.specs.chains.Table.{Chain, Table, is_named, policy_of, AreClassified, TableView, empty_table}
use Rattle.table.specs.declared.policy.Policy.{Policy}
use Rattle.table.specs.edits.Headline.{policy_text}
use Rattle.fields.specs.text.Line.{lines_of}
use Rattle.table.specs.chains.Sound.{IsSound}
use Rattle.restore.specs.sections.Restore.{restored}
use Rattle.restore.specs.sections.Section.{inside, transaction}

-- ---- The listing of a table (iptables-save(8)), and the rules as `-S` lists them (iptables(8), COMMANDS, -S).

-- a policy, or `-` for a user chain, which has none
abbrev pub policy_word : Option Policy → List ℕ
policy_word (Some p) = policy_text p
policy_word None = codes "-"

-- the line of a chain: `:INPUT ACCEPT [0:0]`, for example
abbrev pub chain_line : Table → Chain → List ℕ
chain_line t c = codes ":" ++ (c.name ++ (codes " " ++ (policy_word (policy_of t c.name) ++ codes " [0:0]\n")))

-- the line of a rule: `-A INPUT`, for example, and the rule's text
abbrev pub rule_line : List ℕ → Rule → List ℕ
rule_line name rule = codes "-A " ++ (name ++ (rule_text rule ++ codes "\n"))

-- the lines of a chain's rules
abbrev pub rule_lines : Chain → List ℕ
rule_lines c = flat_map (rule_line c.name) c.rules

-- the listing: `*filter`, a line for each chain with its policy or `-`, the rules chain by chain, `COMMIT`
abbrev pub listing : Table → List ℕ
listing t = codes "*filter\n" ++ (flat_map (chain_line t) t.chains ++ (flat_map rule_lines t.chains ++ codes "COMMIT\n"))

-- `-P` with a policy for a built-in chain, `-N` for a user chain
abbrev pub head_with : List ℕ → Option Policy → List ℕ
head_with name (Some p) = codes "-P " ++ (name ++ (codes " " ++ (policy_text p ++ codes "\n")))
head_with name None = codes "-N " ++ (name ++ codes "\n")

-- the line of a chain as `-S` lists it
abbrev pub head_line : Table → Chain → List ℕ
head_line t c = head_with c.name (policy_of t c.name)

-- the chain of this name, or all chains
abbrev pub listed_chains : Option (List ℕ) → List Chain → List Chain
listed_chains None chains = chains
listed_chains (Some name) chains = filter (is_named name) chains

-- what `-S` lists of one chain, or of all: the chains as commands, and then their rules
abbrev pub rules_listing : Table → Option (List ℕ) → List ℕ
rules_listing t name = flat_map (head_line t) (listed_chains name t.chains) ++ flat_map rule_lines (listed_chains name t.chains)

-- ---- The listing of a table restores it (iptables-save(8), iptables-restore(8)).

-- the listing of one table is read from the empty table without a refusal, as the other table
abbrev pub IsRestored : Table → Table → Type 0
IsRestored t made = restored false false empty_table (lines_of (listing t)) ≡ Ok made

-- the listing of the table is read from the empty table without a refusal, as the table
abbrev pub RestoresItself : Table → Type 0
RestoresItself t = IsRestored t t

-- every table does so
abbrev pub RestoresAsEqual : Type 0
RestoresAsEqual = (t : Table) → IsSound t → RestoresItself t

-- a section with the lines of the listing between `*filter` and `COMMIT` gives the table
abbrev pub CommitsAsEqual : Type 0
CommitsAsEqual = (t : Table) → IsSound t → transaction false empty_table (inside (lines_of (listing t))) ≡ Ok t

-- a table that has the chains that a listing restores, and the classifiers of their rules, is the table that was listed, with its
-- classifiers
abbrev pub ListingsRestoreClassifiers : Type 0
ListingsRestoreClassifiers =
    (t made : TableView) → IsSound t.table → AreClassified t.table.chains t.classifiers → AreClassified made.table.chains made.classifiers
    → IsRestored t.table made.table → made ≡ t
