use Rattle.std.proofs.Common.{◌≡◌, ◌∙◌, ◌<◌, sym, ap, subst, length, Some, not, Option, List, [], ◌∷◌, ℕ}
use Rattle.std.specs.Prelude.{is_none, slice_set}
use Rattle.std.specs.List.{position}
use Rattle.table.specs.chains.Sound.{IsSound}
use Rattle.table.specs.chains.Table.{Table, Policy, is_built_in, is_named}
use Rattle.table.specs.edits.Edits.{Cause, SetPolicy, NoSuchChain, NotBuiltInChain, BadPolicy, edited, fault_of, first_fault, policy_named, policies_with}
use Rattle.table.specs.steps.Kept.{classifiers, name_in, table_of, table_with, AreStored}
use Rattle.table.specs.declared.parts.Parts.{Parts}
use Rattle.table.proofs.laws.chains.StepLaws.{set_policy_sound}
use Rattle.table.proofs.laws.chains.StoreLaws.{built_in_first, place_built_in, user_after}
use Rattle.table.proofs.laws.edits.AnswerLaws.{done, refused, nowhere, somewhere, holds, passes, name_found}
use Rattle.table.proofs.table.Table.set_policy.Goals as goal

-- the chain is no built-in one
abbrev outside : List ℕ → Cause
outside chain = (not (is_built_in chain), NotBuiltInChain)

-- the word is no policy
abbrev bad : List ℕ → Cause
bad text = (is_none (policy_named text), BadPolicy)

-- the table with the policy set at the place of the chain
policy_set : (p : Parts) (chain text : List ℕ) (k : ℕ) (policy : Policy) → AreStored p → k < 3 → name_in p k ≡ chain → Some policy ≡ policy_named text
    → table_with (slice_set p.policies k policy) p.chains.slots p.order.items ≡ edited (SetPolicy chain text) (table_of p)
policy_set p chain text k policy s lt named read =
    let P : List Policy → Table = λ (xs : List Policy). table_with xs p.chains.slots p.order.items in
    ap P (ap (λ (o : Option Policy). policies_with (Some k) o p.policies) read
    ∙ ap (λ (o : Option ℕ). policies_with o (policy_named text) p.policies) (sym (place_built_in p.policies p.chains.slots p.order.items chain k s lt named)))

-- a built-in chain has the name: the word is asked
word_asked : (p : Parts) (chain text : List ℕ) (k : ℕ) → AreStored p → k < 3 → k < length p.order.items → position (is_named chain) (table_of p).chains ≡ Some k
    → fault_of (SetPolicy chain text) (table_of p) ≡ first_fault (bad text ∷ [])
word_asked p chain text k s first lt at =
    somewhere (table_of p) chain k (outside chain ∷ bad text ∷ []) at
    ∙ passes (outside chain) (bad text ∷ []) (ap not (built_in_first p.policies p.chains.slots p.order.items chain k s first (name_found p chain k lt at)))

pub returns-in_default : goal.returns-in_default
returns-in_default c =
    let chain = c.args.chain.now in
    refused (SetPolicy chain c.args.policy.now) c.self.view_is NoSuchChain (nowhere (table_of c.self.inside.parts) chain (outside chain ∷ bad c.args.policy.now ∷ []) (sym c.in_default.ensures.place))

pub returns-then-place-ge-BUILT_IN : goal.returns-then-place-ge-BUILT_IN
returns-then-place-ge-BUILT_IN c =
    let p = c.self.inside.parts in
    let chain = c.args.chain.now in
    let at = sym c.in-Some.ensures.place in
    let within = c.in-Some.ensures.within in
    refused (SetPolicy chain c.args.policy.now) c.self.view_is NotBuiltInChain
    (somewhere (table_of p) chain c.in-Some.place (outside chain ∷ bad c.args.policy.now ∷ []) at
    ∙ holds (outside chain) (bad c.args.policy.now ∷ []) (ap not (user_after p.policies p.chains.slots p.order.items chain c.in-Some.place c.self.invariant.kept.stored c.if-place-ge-BUILT_IN.true within (name_found p chain c.in-Some.place within at))))

pub returns-in_default-read : goal.returns-in_default-read
returns-in_default-read c =
    refused (SetPolicy c.args.chain.now c.args.policy.now) c.self.view_is BadPolicy
    (word_asked c.self.inside.parts c.args.chain.now c.args.policy.now c.in-Some.place c.self.invariant.kept.stored c.if-place-ge-BUILT_IN.false c.in-Some.ensures.within (sym c.in-Some.ensures.place)
    ∙ holds (bad c.args.policy.now) [] (ap (λ (o : Option Policy). is_none o) (sym c.in_default-read.ensures)))

pub returns : goal.returns
returns c =
    let p = c.self.inside.parts in
    let chain = c.args.chain.now in
    let k = c.in-Some.place in
    let at = sym c.in-Some.ensures.place in
    let stored = c.self.invariant.kept.stored in
    let first = c.if-place-ge-BUILT_IN.false in
    done (SetPolicy chain c.args.policy.now) c.self.view_is
    (record { table = table_with (slice_set p.policies k c.in-Some-read.policy) p.chains.slots p.order.items; classifiers = classifiers p.chains.slots p.order.items })
    (word_asked p chain c.args.policy.now k stored first c.in-Some.ensures.within at ∙ passes (bad c.args.policy.now) [] (ap (λ (o : Option Policy). is_none o) (sym c.in-Some-read.ensures)))
    (policy_set p chain c.args.policy.now k c.in-Some-read.policy stored first (name_found p chain k c.in-Some.ensures.within at) c.in-Some-read.ensures)

pub invariant_of-self : goal.invariant_of-self
invariant_of-self c =
    let p = c.self.inside.parts in
    let chain = c.args.chain.now in
    let s = c.self.invariant.kept.stored in
    let named = name_found p chain c.in-Some.place c.in-Some.ensures.within (sym c.in-Some.ensures.place) in
    let is = policy_set p chain c.args.policy.now c.in-Some.place c.in-Some-read.policy s c.if-place-ge-BUILT_IN.false named c.in-Some-read.ensures in
    record {
      kept = record {
        stored = record {
          present = s.present;
          no_more = s.no_more;
          apart = s.apart;
          linked = s.linked;
          classified = s.classified;
          sound = subst IsSound (sym is) (set_policy_sound (table_of p) chain c.args.policy.now s.sound);
        };
        counted = c.self.invariant.kept.counted;
      };
      unmarked = c.self.invariant.unmarked;
    }
