-- Conditions that this program doesn't know: what a rule asks by a match beyond the profile, as `limit` or `addrtype` (iptables-extensions(8),
-- MATCH EXTENSIONS). Each is told by a number. It holds or it doesn't, and nothing else is known of it.
use Rattle.std.specs.Prelude.{◌≡◌, ◌≢◌, ◌⊎◌, ℕ, Bool, true, false, not, List, [], ◌∷◌, ◌++◌, map, slice_index_or, None, All, AllPairs, Any, Contains, Vec, if◌then◌else◌}
use Rattle.std.specs.Global.{Global}
use Rattle.std.specs.List.{list_all}
use Rattle.rules.specs.rule.Rules.{Rule}
use Rattle.rules.specs.declared.options.match_kind.MatchKind.TheVariants as kind
use Rattle.rules.specs.declared.options.value.Value.TheVariants as value
use Rattle.table.specs.chains.Table.{Chain, Table}
use Rattle.questions.specs.declared.foreign.need.Need.{Need}
use Rattle.questions.specs.declared.foreign.answers.Answer.{Answer}

-- which conditions hold
abbrev pub Assignment : Type 0
Assignment = ℕ → Bool

-- a rule needs that a condition holds or, if it is inverted, that it doesn't: `!` inverts the sense of a match (iptables-extensions(8), MATCH
-- EXTENSIONS)
abbrev pub need_holds : Assignment → Need → Bool
need_holds a need = if need.inverted then not (a need.condition) else a need.condition

-- all holds that a rule needs: its matches make up the condition under which its target is invoked (iptables(8), PARAMETERS, -m)
abbrev pub all_hold : Assignment → List Need → Bool
all_hold a needs = list_all (need_holds a) needs

-- a rule that matches no packet, since no address is in its range: `-m iprange --src-range 0.0.0.1-0.0.0.0` (iptables-extensions(8),
-- iprange)
abbrev pub never : Rule
never = record {
  option_values = [];
  matches = record {
    kind = kind.Iprange;
    option_values = record { inverted = false; value = value.SourceRange (record { from = 1; to = 0 }) } ∷ [];
  } ∷ [];
  action = None;
  target_options = [];
}

-- the rule, where all holds that it needs; else, in its place, the one that matches no packet, so that the next rule is examined (iptables(8),
-- TARGETS)
abbrev pub resolved_rule : Assignment → List Need → Rule → Rule
resolved_rule a needs rule = if all_hold a needs then rule else never

-- the rules of a chain, each by its needs; one for which none are listed has none
abbrev pub resolved_rules : Assignment → List (List Need) → List Rule → List Rule
resolved_rules a needs [] = []
resolved_rules a [] (rule ∷ rules) = rule ∷ resolved_rules a [] rules
resolved_rules a (own ∷ needs) (rule ∷ rules) = resolved_rule a own rule ∷ resolved_rules a needs rules

-- the chains, each by the needs of its rules
abbrev pub resolved_chains : Assignment → List (List (List Need)) → List Chain → List Chain
resolved_chains a needs [] = []
resolved_chains a [] (chain ∷ chains) = chain ∷ resolved_chains a [] chains
resolved_chains a (own ∷ needs) (chain ∷ chains) =
    record { name = chain.name; rules = resolved_rules a own chain.rules } ∷ resolved_chains a needs chains

-- the table that is left once it is known which conditions hold: an ordinary one, in which each rule has its place
abbrev pub resolved : List (List (List Need)) → Assignment → Table → Table
resolved needs a t = record { policies = t.policies; chains = resolved_chains a needs t.chains }

-- what rules need, chain by chain, as vectors hold it
abbrev pub needs_listed : Vec (Vec (Vec Need Global) Global) Global → List (List (List Need))
needs_listed kept = map (λ (own : Vec (Vec Need Global) Global). map (λ (needs : Vec Need Global). needs.items) own.items) kept.items

-- what the rule at a place of the chain at a place needs, both counted from 0
abbrev pub needs_at : List (List (List Need)) → ℕ → ℕ → List Need
needs_at needs place passed = slice_index_or (slice_index_or needs place []) passed []

-- no rule needs anything
abbrev pub AreWithoutNeeds : List (List (List Need)) → Type 0
AreWithoutNeeds needs = (place passed : ℕ) → needs_at needs place passed ≡ []

-- the assignment gives these answers
abbrev pub Agrees : Assignment → List Answer → Type 0
Agrees a answers = All (λ (answer : Answer). a answer.condition ≡ answer.holds) answers

-- no answer is about the condition
abbrev pub IsUnanswered : List Answer → ℕ → Type 0
IsUnanswered answers condition = All (λ (answer : Answer). answer.condition ≢ condition) answers

-- some rule needs the condition, or that it doesn't hold
abbrev pub IsNeeded : List (List (List Need)) → ℕ → Type 0
IsNeeded needs condition = (place : ℕ) × (passed : ℕ) × Any (λ (need : Need). need.condition ≡ condition) (needs_at needs place passed)

-- each answer is one that was given, or is about a condition that some rule needs
abbrev pub AreAsked : List (List (List Need)) → List Answer → List Answer → Type 0
AreAsked needs given answers = All (λ (answer : Answer). Contains given answer ⊎ IsNeeded needs answer.condition) answers

-- two assignments agree on each condition that has no answer
abbrev pub AgreeOnOpen : List Answer → Assignment → Assignment → Type 0
AgreeOnOpen answers a b = (condition : ℕ) → IsUnanswered answers condition → a condition ≡ b condition

-- no two answers are about one condition, so none contradicts another
abbrev pub AreConsistent : List Answer → Type 0
AreConsistent answers = AllPairs (λ (one other : Answer). one.condition ≢ other.condition) answers

-- whether the answers got one more, about a condition that had none; else it had one, and they are the same
abbrev pub IsGiven : ℕ → Bool → Bool → List Answer → List Answer → Type 0
IsGiven condition holds true old new = IsUnanswered old condition × (new ≡ old ++ record { condition = condition; holds = holds } ∷ [])
IsGiven condition holds false old new = Any (λ (answer : Answer). answer.condition ≡ condition) old × (new ≡ old)
