-- The walk of a packet through the table, and its trail as the code shows it (iptables(8), TARGETS and PARAMETERS, -g).
use Rattle.std.specs.Prelude.{ℕ, zero, suc, ◌+◌, Bool, true, false, List, [], ◌∷◌, slice_index_or, Option, Some, None, option_map, unwrap_or, ◌≡◌, map}
use Rattle.std.specs.List.{position}
use Rattle.classify.specs.NextMatch.{next_match}
use Rattle.rules.specs.rule.Allows.{matches}
use Rattle.fields.specs.Hook.{name as hook_name}
use Rattle.fields.specs.Packet.{PacketView as Packet}
use Rattle.rules.specs.rule.Actions.{target_of}
use Rattle.rules.specs.rule.Rules.{empty_rule}
use Rattle.rules.specs.declared.rule.target.Target.{Target}
use Rattle.rules.specs.declared.rule.target.Target.TheVariants as target
use Rattle.table.specs.chains.Table.{Chain, Table, Policy, Accept, Drop, rules_of, policy_of, is_named}
use Rattle.table.specs.declared.verdict.Verdict.{Verdict}
use Rattle.table.specs.declared.walk.trail.Step.{Step}
use Rattle.table.specs.declared.walk.trail.Trail.{Trail}
use Rattle.table.specs.declared.verdict.Verdict.TheVariants as verdict

-- ---- The walk of a packet through the table (iptables(8), TARGETS and PARAMETERS, -g).

-- what is left of a chain: its name, and how many of its rules were passed
pub record Rest : Type 0 where
  pub chain : List ℕ
  pub passed : ℕ

-- an entry of the trail: a chain, and a rule's number in it, counted from 1
pub record Entry : Type 0 where
  pub chain : List ℕ
  pub number : ℕ

-- a rule that matched: its entry, its target, what is left of its chain, and the rests on the stack
pub record Hit : Type 0 where
  pub entry : Entry
  pub target : Option Target
  pub own : Rest
  pub stack : List Rest

-- what a walk gives: the trail, that is the rules that matched, the verdict, and whether the policy gave it
pub record Walked : Type 0 where
  pub trail : List Entry
  pub verdict : Verdict
  pub by_policy : Bool

-- all of a chain
abbrev pub whole : List ℕ → Rest
whole chain = record { chain = chain; passed = 0 }

-- the rule at this place of a chain, counted from 0, as a rule that matched
abbrev pub hit_at : List Chain → List ℕ → List Rest → ℕ → Hit
hit_at chains chain stack place = record {
  entry = record { chain = chain; number = place + 1 };
  target = target_of (slice_index_or (rules_of chains chain) place empty_rule);
  own = record { chain = chain; passed = place + 1 };
  stack = stack;
}

-- the first rule that matches in what is left of the present chain, and then in the rests on the stack, the newest first
abbrev pub first_hit : List Chain → List ℕ → List Rest → Option Hit
first_hit chains values [] = None
first_hit chains values (rest ∷ stack) =
    elim (next_match (matches values) (rules_of chains rest.chain) rest.passed) [
      | None ↦ first_hit chains values stack
      | Some place ↦ Some (hit_at chains rest.chain stack place)
    ]

-- where a match leaves the walk: at a verdict, or with the rests to go on with, the present chain's first
pub data Next : Type 0 where
  Ends : Verdict → Next
  GoesOn : List Rest → Next

-- where a match leaves the walk, by the rule's target: ACCEPT, DROP and REJECT end it; LOG, or no target, goes on with the next
-- rule; RETURN goes back to the stack; `-j` enters a chain and leaves the rest of the present one on the stack, `-g` enters it
-- without that
abbrev pub after_match : Option Target → Rest → List Rest → Next
after_match None own stack = GoesOn (own ∷ stack)
after_match (Some target.Log) own stack = GoesOn (own ∷ stack)
after_match (Some target.Accept) own stack = Ends verdict.Accept
after_match (Some target.Drop) own stack = Ends verdict.Drop
after_match (Some (target.Reject kind)) own stack = Ends (verdict.Reject kind)
after_match (Some target.Return) own stack = GoesOn stack
after_match (Some (target.Jump chain)) own stack = GoesOn (whole chain ∷ own ∷ stack)
after_match (Some (target.Goto chain)) own stack = GoesOn (whole chain ∷ stack)

-- where this rule leaves the walk
abbrev pub next_of : Hit → Next
next_of hit = after_match hit.target hit.own hit.stack

-- no rule that matches is left, and the policy decides
abbrev pub at_end : Verdict → Walked
at_end policy = record { trail = []; verdict = policy; by_policy = true }

-- the rule decides
abbrev pub decided : Entry → Verdict → Walked
decided entry v = record { trail = entry ∷ []; verdict = v; by_policy = false }

-- the walk with this entry before its trail
abbrev pub with_entry : Entry → Walked → Walked
with_entry entry walked = record { trail = entry ∷ walked.trail; verdict = walked.verdict; by_policy = walked.by_policy }

-- an entry, and the walk that goes on after it
abbrev pub followed : (List Rest → Option Walked) → Entry → Next → Option Walked
followed go entry (Ends v) = Some (decided entry v)
followed go entry (GoesOn rests) = option_map (with_entry entry) (go rests)

-- the walk through what is left, with room for so many entries on the trail; none where more rules match
unfoldable pub walk_within : ℕ → List Chain → Verdict → List ℕ → List Rest → Option Walked
walk_within zero chains policy values rests = elim (first_hit chains values rests) [ None ↦ Some (at_end policy) | Some hit ↦ None ]
walk_within (suc room) chains policy values rests =
    elim (first_hit chains values rests) [
      | None ↦ Some (at_end policy)
      | Some hit ↦ followed (walk_within room chains policy values) hit.entry (next_of hit)
    ]

-- the result of a walk in which too many rules match: an empty trail, and a verdict of its own
abbrev pub too_long : Walked
too_long = record { trail = []; verdict = verdict.TooLong; by_policy = false }

-- the verdict of a policy
abbrev pub policy_verdict : Policy → Verdict
policy_verdict Accept = verdict.Accept
policy_verdict Drop = verdict.Drop

-- the verdict of the policy of a hook's chain
abbrev pub end_verdict : Table → Packet → Verdict
end_verdict t packet = policy_verdict (unwrap_or (policy_of t (hook_name packet.hook)) Accept)

-- the walk from the first rule of the hook's chain, with room for so many entries on the trail
abbrev pub walk_to : ℕ → Table → Packet → Walked
walk_to room t packet =
    unwrap_or (walk_within room t.chains (end_verdict t packet) packet.values (whole (hook_name packet.hook) ∷ [])) too_long

-- the walk of a packet: its trail, its verdict, and whether the policy gave it; where more than 65,536 rules match it is too long,
-- and has no trail
abbrev pub walk : Table → Packet → Walked
walk t packet = walk_to 65536 t packet

-- ---- The trail of a walk, as the code shows it.

-- an entry of the trail, with its chain given by its place in the order of a listing, counted from 0
abbrev pub shown : List Chain → Entry → Option Step
shown chains entry = option_map (λ place. record { chain = place; number = entry.number }) (position (is_named entry.chain) chains)

-- the code's trail has the entries and the verdict of the walk, and says the same of whether the policy decided
pub record Shows (chains : List Chain) (walked : Walked) (trail : Trail) : Type 0 where
  pub steps : map (shown chains) walked.trail ≡ map Some trail.steps.items
  pub verdict : trail.verdict ≡ walked.verdict
  pub by_policy : trail.by_policy ≡ walked.by_policy
