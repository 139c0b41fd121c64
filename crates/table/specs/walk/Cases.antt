-- The walk of a packet by cases, one rule at a time (iptables(8), TARGETS and PARAMETERS, -g).
use Rattle.std.specs.Prelude.{◌≡◌, ◌⊎◌, ℕ, zero, suc, ◌+◌, ◌<◌, ◌≤◌, true, false, IsTrue, IsFalse, List, [], ◌∷◌, ◌++◌, length, slice_get, Option, Some, None}
use Rattle.fields.specs.Hook.{name as hook_name}
use Rattle.fields.specs.Packet.{PacketView as Packet}
use Rattle.rules.specs.rule.Actions.{target_of}
use Rattle.rules.specs.rule.Allows.{matches}
use Rattle.rules.specs.rule.Rules.{Rule}
use Rattle.table.specs.chains.Table.{Chain, Table, rules_of}
use Rattle.table.specs.declared.verdict.Verdict.{Verdict}
use Rattle.table.specs.walk.Walk.{Rest, Entry, Walked, Next, Ends, GoesOn, after_match, end_verdict, too_long, walk, whole}

-- a walk under way, with what is left of its chains (the present one first) and its trail so far; or a finished walk with its
-- result
pub data Stage : Type 0 where
  Under : List Rest → List Entry → Stage
  Over : Walked → Stage

-- the next rule in what is left of a chain, if one is left
abbrev pub next_rule : List Chain → Rest → Option Rule
next_rule chains rest = slice_get (rules_of chains rest.chain) rest.passed

-- what is left of the chain after its next rule
abbrev pub behind : Rest → Rest
behind rest = record { chain = rest.chain; passed = rest.passed + 1 }

-- the trail with the next rule at its end
abbrev pub with_next : List Entry → Rest → List Entry
with_next trail rest = trail ++ record { chain = rest.chain; number = rest.passed + 1 } ∷ []

-- the trail is full: it has 65,536 entries
abbrev pub IsFull : List Entry → Type 0
IsFull trail = 65536 ≤ length trail

-- the trail has fewer
abbrev pub HasRoom : List Entry → Type 0
HasRoom trail = length trail < 65536

-- the policy decides, and the trail stays as it is
abbrev pub by_policy : Verdict → List Entry → Stage
by_policy policy trail = Over (record { trail = trail; verdict = policy; by_policy = true })

-- where a match with this trail leaves the walk
abbrev pub on_by : Next → List Entry → Stage
on_by (Ends v) trail = Over (record { trail = trail; verdict = v; by_policy = false })
on_by (GoesOn rests) trail = Under rests trail

-- The cases

-- the next rule doesn't match, and the rest of its chain follows
abbrev pub PassesOver : List Chain → List ℕ → Rest → List Rest → List Entry → Stage → Type 0
PassesOver chains values rest waiting trail next =
    (rule : Rule) × (next_rule chains rest ≡ Some rule) × IsFalse (matches values rule) × (next ≡ Under (behind rest ∷ waiting) trail)

-- the next rule matches and the trail is full: the walk is too long
abbrev pub RunsFull : List Chain → List ℕ → Rest → List Entry → Stage → Type 0
RunsFull chains values rest trail next =
    (rule : Rule) × (next_rule chains rest ≡ Some rule) × IsTrue (matches values rule) × IsFull trail × (next ≡ Over too_long)

-- the next rule matches: it goes on the trail, and its target says how the walk goes on
abbrev pub Matches : List Chain → List ℕ → Rest → List Rest → List Entry → Stage → Type 0
Matches chains values rest waiting trail next =
    (rule : Rule) × (next_rule chains rest ≡ Some rule) × IsTrue (matches values rule) × HasRoom trail
    × (next ≡ on_by (after_match (target_of rule) (behind rest) waiting) (with_next trail rest))

-- the chain is at its end, and the walk goes on with the rest that was put on the stack last
abbrev pub ChainEnds : List Chain → Rest → List Rest → List Entry → Stage → Type 0
ChainEnds chains rest waiting trail next = (next_rule chains rest ≡ None) × (next ≡ Under waiting trail)

-- one step of a walk: by one of these cases, or by the policy where nothing is left; a finished walk has no further step
abbrev pub StepsTo : List Chain → Verdict → List ℕ → Stage → Stage → Type 0
StepsTo chains policy values (Under (rest ∷ waiting) trail) next =
    PassesOver chains values rest waiting trail next
    ⊎ RunsFull chains values rest trail next
    ⊎ Matches chains values rest waiting trail next
    ⊎ ChainEnds chains rest waiting trail next
StepsTo chains policy values (Under [] trail) next = next ≡ by_policy policy trail
StepsTo chains policy values (Over walked) next = ⊥

-- so many steps, one after another
abbrev pub GoesTo : ℕ → List Chain → Verdict → List ℕ → Stage → Stage → Type 0
GoesTo zero chains policy values now last = now ≡ last
GoesTo (suc n) chains policy values now last =
    (next : Stage) × StepsTo chains policy values now next × GoesTo n chains policy values next last

-- some number of steps, from the first rule of the hook's chain and an empty trail, ends the walk of the packet with this result
abbrev pub Walks : Table → Packet → Walked → Type 0
Walks t packet walked =
    (n : ℕ) × GoesTo n t.chains (end_verdict t packet) packet.values (Under (whole (hook_name packet.hook) ∷ []) []) (Over walked)

-- the walk of every packet through every table ends with what `walk` gives
abbrev pub WalksByCases : Type 0
WalksByCases = (t : Table) (packet : Packet) → Walks t packet (walk t packet)

-- no walk ends with two results
abbrev pub WalksInOneWay : Type 0
WalksInOneWay = (t : Table) (packet : Packet) (a b : Walked) → Walks t packet a → Walks t packet b → a ≡ b
