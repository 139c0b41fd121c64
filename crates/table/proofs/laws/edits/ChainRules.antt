-- The definitions, computed on worked rows.
use Rattle.std.proofs.Common.{◌≡◌, ℕ, [], ◌∷◌, List, Option, Some, None, Ok, Err, true, false, refl, codes}
use Rattle.std.specs.Prelude.{replicate}
use Rattle.fields.specs.Packet.{PacketView as Packet}
use Rattle.fields.specs.declared.packet.hook.Hook.TheVariants as hook
use Rattle.rules.specs.rule.Allows.{allows}
use Rattle.rules.specs.rule.Crossing.{cross}
use Rattle.rules.specs.rule.Rules.{Rule}
use Rattle.rules.specs.declared.rule.action.Action.{Action}
use Rattle.rules.specs.declared.rule.action.Action.TheVariants as action
use Rattle.rules.specs.declared.options.value.Value.{Value}
use Rattle.rules.specs.declared.options.value.Value.TheVariants as value
use Rattle.table.specs.chains.Table.{Table, empty_table, names_of}
use Rattle.table.specs.edits.Edits.{Edit, Append, Insert, Replace, DeleteAt, DeleteRule, Has, Flush, NewChain, DeleteChain, DeleteChains, SetPolicy, Rename, leads_within, fault_of, edited, step}
use Rattle.table.specs.walk.Walk.{Entry, walk, walk_to, walk_within}
use Rattle.table.specs.walk.Depth.{depth, depth_within}
use Rattle.table.specs.edits.Headline.{edited_by}
use Rattle.table.specs.declared.fault.TableFault.TheVariants as fault
use Rattle.table.specs.declared.policy.Policy.TheVariants as policy
use Rattle.table.specs.declared.verdict.Verdict.TheVariants as verdict

-- a rule without conditions
abbrev does : Option Action → Rule
does act = record { option_values = []; matches = []; action = act; target_options = [] }

abbrev nothing : Rule
nothing = does None

abbrev drops : Rule
drops = does (Some action.Drop)

abbrev accepts : Rule
accepts = does (Some action.Accept)

abbrev returns : Rule
returns = does (Some action.Return)

abbrev jumps : List ℕ → Rule
jumps name = does (Some (action.Jump name))

abbrev goes : List ℕ → Rule
goes name = does (Some (action.Goto name))

-- a condition on an interface
abbrev asks : Value → Rule
asks v = record { option_values = record { inverted = false; value = v } ∷ []; matches = []; action = Some action.Drop; target_options = [] }

abbrev input : List ℕ
input = codes "INPUT"

abbrev output : List ℕ
output = codes "OUTPUT"

abbrev a : List ℕ
a = codes "a"

abbrev b : List ℕ
b = codes "b"

abbrev c : List ℕ
c = codes "c"

-- the table after plain edits of the first
abbrev made : List Edit → Table
made edits = edited_by empty_table edits

abbrev entry : List ℕ → ℕ → Entry
entry chain number = record { chain = chain; number = number }

-- a packet with 0 on each field
abbrev packet : Packet
packet = record { hook = hook.Input; values = replicate 12 0 }

-- jump, goto, and a return from a chain that was reached by them
abbrev called : Table
called = made (NewChain a ∷ NewChain b ∷ Append input (jumps a) ∷ Append input drops ∷ Append a (goes b) ∷ Append b returns ∷ [])

returns_after_the_jump : walk called packet ≡ record { trail = entry input 1 ∷ entry a 1 ∷ entry b 1 ∷ entry input 2 ∷ []; verdict = verdict.Drop; by_policy = false }
unfolding allows cross walk_within
returns_after_the_jump = refl

one_deep : depth called packet ≡ 1
unfolding allows cross depth_within
one_deep = refl

-- a goto out of a built-in chain doesn't come back
goto_ends : walk (made (NewChain b ∷ Append input (goes b) ∷ Append input drops ∷ [])) packet ≡ record { trail = entry input 1 ∷ []; verdict = verdict.Accept; by_policy = true }
unfolding allows cross walk_within
goto_ends = refl

-- rules that say nothing, and RETURN in a built-in chain, on the trail
return_ends : walk (made (Append input nothing ∷ Append input returns ∷ Append input drops ∷ [])) packet ≡ record { trail = entry input 1 ∷ entry input 2 ∷ []; verdict = verdict.Accept; by_policy = true }
unfolding allows cross walk_within
return_ends = refl

-- a loop of three chains is seen after two jumps; a chain that names itself is one
abbrev in_a_stored_chain : Table
in_a_stored_chain = made (NewChain a ∷ NewChain b ∷ NewChain c ∷ Append a (jumps b) ∷ Append b (jumps c) ∷ [])

accepts_a_stored_chain : step (Append b (jumps c)) (made (NewChain a ∷ NewChain b ∷ NewChain c ∷ Append a (jumps b) ∷ [])) ≡ Ok in_a_stored_chain
unfolding leads_within
accepts_a_stored_chain = refl

sees_the_loop : step (Append c (jumps a)) in_a_stored_chain ≡ Err fault.Loop
unfolding leads_within
sees_the_loop = refl

sees_the_goto : step (Insert c 1 (goes a)) in_a_stored_chain ≡ Err fault.Loop
unfolding leads_within
sees_the_goto = refl

no_loop_by_itself : fault_of (Append a (jumps a)) (made (NewChain a ∷ [])) ≡ Some fault.Loop
unfolding leads_within
no_loop_by_itself = refl

-- the rule that is replaced still leads on
replaced_rule_counts : fault_of (Replace c 1 (jumps a)) (edited (Append c nothing) in_a_stored_chain) ≡ Some fault.Loop
unfolding leads_within
replaced_rule_counts = refl

-- a chain that a rule names stays
abbrev named : Table
named = made (NewChain a ∷ NewChain b ∷ Append input (jumps a) ∷ [])

named_stays : fault_of (DeleteChain a) named ≡ Some fault.ChainReferenced
named_stays = refl

freed_goes : step (DeleteChain a) (edited (Flush input) named) ≡ Ok (made (NewChain b ∷ []))
freed_goes = refl

none_goes : fault_of DeleteChains named ≡ Some fault.ChainReferenced
none_goes = refl

-- rules follow a chain to its new name, and the chain moves to its place
follows_a_name : step (Rename a (codes "z")) named ≡ Ok (made (NewChain b ∷ NewChain (codes "z") ∷ Append input (jumps (codes "z")) ∷ []))
follows_a_name = refl

in_order : names_of (edited (Rename a (codes "z")) named).chains ≡ input ∷ codes "FORWARD" ∷ output ∷ b ∷ codes "z" ∷ []
in_order = refl

-- user chains stand after the built-in ones, by their bytes
by_bytes : names_of (made (NewChain b ∷ NewChain (codes "ab") ∷ NewChain (codes "B") ∷ NewChain a ∷ [])).chains
    ≡ input ∷ codes "FORWARD" ∷ output ∷ codes "B" ∷ a ∷ codes "ab" ∷ b ∷ []
by_bytes = refl

-- two rules to the next chain in each of two, so that each is walked twice as often as the one before
abbrev doubling : Table
doubling = made (NewChain a ∷ NewChain b ∷ NewChain c ∷ Append a (jumps b) ∷ Append a (jumps b) ∷ Append b (jumps c) ∷ Append b (jumps c) ∷ Append input (jumps a) ∷ Append input accepts ∷ [])

-- 1 + 6 + 1 entries find room for 8
abbrev doubled : List Entry
doubled = entry input 1 ∷ entry a 1 ∷ entry b 1 ∷ entry b 2 ∷ entry a 2 ∷ entry b 1 ∷ entry b 2 ∷ entry input 2 ∷ []

has_room : walk_to 8 doubling packet ≡ record { trail = doubled; verdict = verdict.Accept; by_policy = false }
unfolding allows cross walk_within
has_room = refl

-- one rule more is too long, and so is room for one less
one_too_many : walk_to 8 (edited (Insert input 2 nothing) doubling) packet ≡ record { trail = []; verdict = verdict.TooLong; by_policy = false }
unfolding allows cross walk_within
one_too_many = refl

one_too_few : walk_to 7 doubling packet ≡ record { trail = []; verdict = verdict.TooLong; by_policy = false }
unfolding allows cross walk_within
one_too_few = refl

-- as deep as there are user chains
three_deep : depth doubling packet ≡ 3
unfolding allows cross depth_within
three_deep = refl

-- names
exists : fault_of (NewChain a) (made (NewChain a ∷ [])) ≡ Some fault.ChainExists
exists = refl

built_in_exists : fault_of (NewChain input) empty_table ≡ Some fault.ChainExists
built_in_exists = refl

target_word : fault_of (NewChain (codes "ACCEPT")) empty_table ≡ Some fault.BadChainName
target_word = refl

new_is_old : fault_of (Rename a a) (made (NewChain a ∷ [])) ≡ Some fault.ChainExists
new_is_old = refl

built_in_keeps_its_name : fault_of (Rename input b) empty_table ≡ Some fault.BuiltInChain
built_in_keeps_its_name = refl

built_in_stays : fault_of (DeleteChain input) empty_table ≡ Some fault.BuiltInChain
built_in_stays = refl

-- policies
user_chain_has_none : fault_of (SetPolicy a (codes "DROP")) (made (NewChain a ∷ [])) ≡ Some fault.NotBuiltInChain
user_chain_has_none = refl

bad_policy : fault_of (SetPolicy input (codes "REJECT")) empty_table ≡ Some fault.BadPolicy
bad_policy = refl

sets_one : (edited (SetPolicy output (codes "DROP")) empty_table).policies ≡ policy.Accept ∷ policy.Accept ∷ policy.Drop ∷ []
sets_one = refl

-- targets
missing : fault_of (Append input (jumps (codes "nowhere"))) empty_table ≡ Some fault.TargetMissing
missing = refl

built_in_target : fault_of (Append input (goes output)) empty_table ≡ Some fault.TargetBuiltIn
unfolding leads_within
built_in_target = refl

-- interfaces
out_of_input : fault_of (Append input (asks (value.OutInterface (codes "eth0")))) empty_table ≡ Some fault.InterfaceNotAllowed
out_of_input = refl

into_output : fault_of (Append output (asks (value.InInterface (codes "eth0")))) empty_table ≡ Some fault.InterfaceNotAllowed
into_output = refl

into_input : fault_of (Append input (asks (value.InInterface (codes "eth0")))) empty_table ≡ None
into_input = refl

-- numbers
no_rule_0 : fault_of (DeleteAt input 0) empty_table ≡ Some fault.NumberOutOfRange
no_rule_0 = refl

no_place_2 : fault_of (Insert input 2 drops) empty_table ≡ Some fault.NumberOutOfRange
no_place_2 = refl

no_rule_1 : fault_of (Replace input 1 drops) empty_table ≡ Some fault.NumberOutOfRange
no_rule_1 = refl

no_chain : fault_of (Insert a 0 (jumps a)) empty_table ≡ Some fault.NoSuchChain
no_chain = refl

-- rules by their text
no_such_rule : fault_of (Has input drops) empty_table ≡ Some fault.NoSuchRule
no_such_rule = refl

takes_the_first : step (DeleteRule input drops) (made (Append input drops ∷ Append input accepts ∷ Append input drops ∷ [])) ≡ Ok (made (Append input accepts ∷ Append input drops ∷ []))
takes_the_first = refl

-- a full chain takes no more, but takes another in the place of one
abbrev full : Table
full = record { policies = empty_table.policies; chains = record { name = input; rules = replicate 8192 drops } ∷ [] }

is_full : fault_of (Append input drops) full ≡ Some fault.ChainFull
is_full = refl

replaces_the_last : fault_of (Replace input 8192 drops) full ≡ None
replaces_the_last = refl

after_the_last : fault_of (Insert input 8193 drops) full ≡ Some fault.ChainFull
after_the_last = refl

past_the_end : fault_of (Insert input 8194 drops) full ≡ Some fault.NumberOutOfRange
past_the_end = refl

-- there are at most 1,024 user chains
too_many : fault_of (NewChain b) (record { policies = empty_table.policies; chains = replicate 1024 (record { name = a; rules = [] }) }) ≡ Some fault.TooManyChains
too_many = refl
