-- Claims by the rules that give one of the verdicts.
use Rattle.std.proofs.Common.{◌≡◌, inl, inr, ℕ, ◌+◌, ◌-◌, ◌<◌, ◌≤◌, List, [], ◌∷◌, ◌++◌, Ok, Some, refl, sym, ap, ◌∙◌, subst, arith, Option, None, Any, Contains, get_or, length, length-append, slice_get}
use Rattle.std.specs.Prelude.{MatchOption}
use Rattle.std.proofs.lemmas.List.Elements.{All-contains, All-nil, Contains-get_or}
use Rattle.std.proofs.lemmas.Bool.{cases_lt}
use Rattle.std.proofs.lemmas.List.{get_or_default}
use Rattle.std.proofs.Math.ListN.{get_or-append}
use Rattle.std.proofs.Math.Seq.{get_or-append_seam}
use Rattle.std.proofs.lemmas.Option.{slice_get-get_or, same_Some}
use Rattle.fields.specs.declared.packet.hook.Hook.{Hook}
use Rattle.fields.specs.numbers.Spans.{SpanSet}
use Rattle.fields.specs.Packet.{PacketView as Packet, packet_of}
use Rattle.rules.specs.rule.Actions.{target_of}
use Rattle.rules.specs.rule.Rules.{Rule, empty_rule}
use Rattle.table.specs.chains.Sound.{IsSound}
use Rattle.table.specs.chains.Table.{Table, chain_at, empty_chain, rules_of}
use Rattle.table.specs.declared.verdict.Verdict.{Verdict}
use Rattle.table.specs.declared.verdict.Verdict.TheVariants.{TooLong}
use Rattle.table.specs.declared.walk.trail.Step.{Step}
use Rattle.table.specs.walk.Walk.{Entry, end_verdict, walk}
use Rattle.table.proofs.laws.chains.KeepLaws.{rules_by_name}
use Rattle.questions.specs.Ends.{IsRule, rule_at, verdict_given}
use Rattle.questions.specs.Foreign.{Agrees, Assignment, needs_at}
use Rattle.questions.specs.Leaves.{entry_of, name_at}
use Rattle.questions.specs.Scopes.{answered, table_of}
use Rattle.questions.specs.asked.Alike.{HoldsWith}
use Rattle.questions.specs.asked.Always.{IsAlwaysDeadIn, SaysIn}
use Rattle.questions.specs.asked.Claims.{IsKept, IsShownAgainst}
use Rattle.questions.specs.asked.Reach.{IsAmong}
use Rattle.questions.specs.boxes.Boxes.{IsAtHook, IsIn}
use Rattle.questions.specs.declared.asked.reach.Given.{Given}
use Rattle.questions.specs.declared.asked.reach.GivenPackets.{GivenPackets}
use Rattle.questions.specs.declared.asked.rule.Life.TheVariants.{Live}
use Rattle.questions.specs.declared.foreign.answers.Answer.{Answer}
use Rattle.questions.specs.declared.foreign.subject.Subject.{Subject}
use Rattle.questions.specs.declared.walking.scope.Scope.{Scope}
use Rattle.questions.specs.steps.Seeking.{IsHere}
use Rattle.questions.specs.steps.Claimed.{AreStarts, GivesOne, IsGiver, IsStart, NoneComes, OneComes}
use Rattle.questions.proofs.laws.ForeignLaws.{left_sound}
use Rattle.questions.proofs.laws.PacketLaws.{written_at_hooks}
use Rattle.questions.proofs.laws.ResolvedLaws.{resolved_matches, rule_at_left, rule_back, rule_left_there}
use Rattle.questions.proofs.laws.TrailLaws.{IsMatched, rule_matches, rule_of_entry, rules_there, trail_matches}
use Rattle.questions.proofs.laws.VerdictLaws.{IsRuleOf, decided_by, decides_there}

-- ---- rules on a trail, by their steps

module _ (s : Subject) (a : Assignment) (p : Packet) (sound : IsSound (table_of s)) where
  abbrev t : Table
  t = table_of s

  abbrev left : Table
  left = answered s a

  still : IsSound left
  still = left_sound s.needs.now a t sound

  -- the rule of a step that is on the trail is the table's own
  rule_here : (step : Step) → IsRule left step → Contains (walk left p).trail (entry_of left.chains step) → rule_at left step ≡ rule_at t step
  rule_here step is on =
      let same = rule_at_left s.needs.now a t step (rule_back s.needs.now a t step is) in
      same ∙ resolved_matches a (needs_at s.needs.now step.chain (step.number - 1)) (rule_at t step) p.values (rw same at (rule_matches left p step still is on))

  -- and it is that of its entry
  rule_of_step : (step : Step) → IsRule left step → IsRuleOf left.chains (entry_of left.chains step) (rule_at left step)
  rule_of_step step is =
      let own : List Rule = (chain_at left step.chain).rules in
      let same : rules_of left.chains (name_at left.chains step.chain) ≡ own = rules_by_name left (chain_at left step.chain) still (Contains-get_or left.chains step.chain (empty_chain []) is.chain) in
      let At : List Rule → Type 0 = λ rs. slice_get rs (step.number - 1) ≡ Some (get_or own (step.number - 1) empty_rule) in
      subst At (sym same) (slice_get-get_or own (step.number - 1) empty_rule (omega (arith, is.first, is.last)))

  -- the step of an entry on the trail
  step_of_entry : (entry : Entry) (rule : Rule) → Contains (walk left p).trail entry → IsRuleOf left.chains entry rule → (step : Step) × IsRule left step × (entry_of left.chains step ≡ entry) × (rule_at left step ≡ rule)
  step_of_entry entry rule on is =
      let m : IsMatched left.chains p.values entry = All-contains (IsMatched left.chains p.values) (walk left p).trail entry (trail_matches left p) on in
      let (j, lt, name) = rules_there left.chains entry.chain (entry.number - 1) m.0 m.1 in
      let step : Step = record { chain = j; number = entry.number } in
      let make : List ℕ → Entry = λ n. record { chain = n; number = entry.number } in
      let same : entry_of left.chains step ≡ entry = ap make name in
      let M : Entry → Type 0 = λ e. IsMatched left.chains p.values e in
      let own : IsRule left step = rule_of_entry left p step still (subst M (sym same) m) in
      let R : Entry → Type 0 = λ e. IsRuleOf left.chains e (rule_at left step) in
      (step, own, same, same_Some (rule_at left step) rule (sym (subst R same (rule_of_step step own)) ∙ is))

  -- a rule to which the packet comes, and that gives a verdict, gives the packet's
  pub comes_decides : (step : Step) → IsRule t step → Contains (walk left p).trail (entry_of left.chains step) → (v : Verdict) → verdict_given (target_of (rule_at t step)) ≡ Some v → (walk left p).verdict ≡ v
  comes_decides step is on v gives =
      let own : IsRule left step = rule_left_there s.needs.now a t step is in
      let V : Rule → Type 0 = λ r. verdict_given (target_of r) ≡ Some v in
      decides_there left p (entry_of left.chains step) (rule_at left step) v on (rule_of_step step own) (subst V (sym (rule_here step own on)) gives)

  -- one of some verdicts that the packet gets is given by a rule to which it comes, unless by the policy
  pub giver_there : (forbidden : List Verdict) → Contains forbidden (walk left p).verdict → (Contains forbidden TooLong → ⊥) → (Contains forbidden (end_verdict t p) → ⊥)
      → (step : Step) × IsGiver t forbidden step × Contains (walk left p).trail (entry_of left.chains step)
  giver_there forbidden gets short policy = elim (decided_by left p) [
    | inl by ↦ (let V : Verdict → Type 0 = λ v. Contains forbidden v in absurd (policy (subst V by gets)))
    | inr other ↦ elim other [
      | inl long ↦ (let V : Verdict → Type 0 = λ v. Contains forbidden v in absurd (short (subst V long gets)))
      | inr by ↦ (
          let (entry, rule, on, is, gives) = by in
          let (step, own, same, at) = step_of_entry entry rule on is in
          let E : Entry → Type 0 = λ e. Contains (walk left p).trail e in
          let here : Contains (walk left p).trail (entry_of left.chains step) = subst E (sym same) on in
          let G : Option Verdict → Type 0 = λ o. MatchOption o ⊥ (Contains forbidden) in
          let verdict : verdict_given (target_of (rule_at t step)) ≡ Some (walk left p).verdict = ap (λ (r : Rule). verdict_given (target_of r)) (sym (rule_here step own here) ∙ at) ∙ gives in
          (step, record { rule = rule_back s.needs.now a t step own; gives = subst G (sym verdict) gets }, here))
    ]
  ]

-- ---- the packets of boxes, and of their scopes

-- the packets of the box at a place
abbrev pub box_of : GivenPackets → ℕ → List SpanSet → Given
box_of given k box = record { hook = given.hook; area = get_or given.boxes.items k box }

module _ (given : GivenPackets) (starts : List Scope) (are : AreStarts given starts) where
  -- a packet of a box is in the box's scope
  pub in_start : (a : Assignment) (p : Packet) → IsAmong given p → Any (λ (start : Scope). IsHere a p start) starts
  in_start a p among =
      let (k, box, lt, at, inside) = among.inside in
      let d : Scope = record { area = []; answers = [] } in
      let here : k < length starts = omega (arith, lt, are.long) in
      let (met, is, area, answers) = are.each k box d here in
      let own : IsIn box p = inside in
      let B : List SpanSet → Type 0 = λ b. IsIn b p in
      let within : IsIn met.area p = is.all p (record { can = among.can; there = among.there; inside = subst B (sym at) own }) in
      let A : List Answer → Type 0 = λ l. Agrees a l in
      (k, get_or starts k d, here, get_or_default starts k (get_or starts k d) d here, (subst B (sym area) within, subst A (sym answers) (All-nil (λ (answer : Answer). a answer.condition ≡ answer.holds))))

  -- one of a scope is in its box
  pub among_start : (p : Packet) → IsAtHook p → p.hook ≡ given.hook → Any (λ (start : Scope). IsIn start.area p) starts → IsAmong given p
  among_start p can there (k, start, lt, at, inside) =
      let (met, is, area, answers) = are.each k [] start lt in
      let B : List SpanSet → Type 0 = λ b. IsIn b p in
      let same : start.area ≡ met.area = ap (λ (x : Scope). x.area) (sym at) ∙ area in
      let within : k < length given.boxes.items = omega (arith, lt, are.long) in
      record { can = can; there = there; inside = (k, get_or given.boxes.items k [], within, get_or_default given.boxes.items k (get_or given.boxes.items k []) [] within, is.only p can.packet (subst B same inside)) }

  module _ (s : Subject) (forbidden : List Verdict) (sound : IsSound (table_of s)) where
    -- where no packet comes to a rule that gives one of the verdicts, and the policy gives none, the claim holds
    pub kept_by_rules : (policy : Verdict) → ((p : Packet) → p.hook ≡ given.hook → end_verdict (table_of s) p ≡ policy) → (Contains forbidden policy → ⊥) → (Contains forbidden TooLong → ⊥)
        → ((step : Step) → IsGiver (table_of s) forbidden step → NoneComes s given.hook starts step) → IsKept s given forbidden
    kept_by_rules policy ends other short none a p against =
        let V : Verdict → Type 0 = λ v. Contains forbidden v in
        let among = against.among in
        let (step, giver, on) = giver_there s a p sound forbidden against.gets short (λ has. other (subst V (ends p among.there) has)) in
        let (k, start, lt, at, here) = in_start a p among in
        All-contains (IsAlwaysDeadIn s step given.hook) starts start (none step giver) (k, lt, at) a p among.can among.there here on

    -- where one comes to such a rule, it fails
    pub fails_by_rule : (step : Step) (words : List (List ℕ)) (answers : List Answer) → IsGiver (table_of s) forbidden step → OneComes s given.hook starts step words answers
        → HoldsWith answers (λ a. IsShownAgainst (answered s a) given forbidden words)
    fails_by_rule step words answers giver comes = record {
      consistent = comes.consistent;
      each = λ a agrees.
          (let (p, writes, coming) = comes.each a agrees in
          let can : IsAtHook p = written_at_hooks words p writes in
          (p, writes, record { among = among_start p can coming.there coming.inside; gets = given_there a p coming.on (verdict_given (target_of (rule_at (table_of s) step))) refl giver.gives }));
    }
      where
        given_there : (a : Assignment) (p : Packet) → Contains (walk (answered s a) p).trail (entry_of (answered s a).chains step) → (o : Option Verdict) → verdict_given (target_of (rule_at (table_of s) step)) ≡ o
            → MatchOption o ⊥ (Contains forbidden) → Contains forbidden (walk (answered s a) p).verdict
        given_there a p on None e has = absurd has
        given_there a p on (Some v) e has = (let V : Verdict → Type 0 = λ x. Contains forbidden x in subst V (sym (comes_decides s a p sound step giver.rule on v e)) has)

-- ---- rule after rule

-- a packet that comes to a rule from one of the scopes
pub one_comes : (s : Subject) (hook : Hook) (starts : List Scope) (step : Step) (start : Scope) (words : List (List ℕ)) (answers : List Answer) → Contains starts start → SaysIn s step hook start (Live words answers)
    → OneComes s hook starts step words answers
one_comes s hook starts step start words answers (k, lt, at) ((consistent, live), (q, sample)) = record {
  consistent = consistent;
  each = λ a agrees.
      (let (p, writes, there, on) = live a agrees in
      let both : packet_of words ≡ Ok p = writes in
      let one : packet_of words ≡ Ok q = sample.writes in
      let same : q ≡ p = cc in
      let I : Packet → Type 0 = λ x. IsIn start.area x in
      (p, writes, record { there = there; inside = (k, start, lt, at, subst I same sample.inside); on = on }));
}

-- the rule behind so many others of a chain gives one of the verdicts
pub giver_is : (t : Table) (forbidden : List Verdict) (place passed : ℕ) (rule : Rule) → place < length t.chains → passed < length (chain_at t place).rules → rule ≡ get_or (chain_at t place).rules (passed + 1 - 1) rule
    → GivesOne forbidden (target_of rule) → IsGiver t forbidden (record { chain = place; number = passed + 1 })
giver_is t forbidden place passed rule there lt is gives =
    let step : Step = record { chain = place; number = passed + 1 } in
    let same : rule ≡ rule_at t step = is ∙ get_or_default (chain_at t place).rules (passed + 1 - 1) rule empty_rule (omega (arith, lt)) in
    let G : Rule → Type 0 = λ r. GivesOne forbidden (target_of r) in
    record { rule = record { chain = there; first = omega arith; last = omega (arith, lt) }; gives = subst G same gives }

-- and where a step is that rule, so does it
pub same_giver : (t : Table) (forbidden : List Verdict) (step : Step) (place passed : ℕ) (rule : Rule) → step.chain ≡ place → step.number ≡ passed + 1 → rule ≡ get_or (chain_at t place).rules (passed + 1 - 1) rule
    → IsGiver t forbidden step → GivesOne forbidden (target_of rule)
same_giver t forbidden step place passed rule at number is giver =
    let within : passed < length (chain_at t place).rules = (let L : ℕ → Type 0 = λ k. step.number ≤ length (chain_at t k).rules in omega (arith, subst L at giver.rule.last, number)) in
    let mine : rule ≡ rule_at t (record { chain = place; number = passed + 1 }) = is ∙ get_or_default (chain_at t place).rules (passed + 1 - 1) rule empty_rule (omega (arith, within)) in
    let R : ℕ → ℕ → Rule = λ k n. rule_at t (record { chain = k; number = n }) in
    let same : rule_at t step ≡ rule = ap (λ k. R k step.number) at ∙ ap (R place) number ∙ sym mine in
    let G : Rule → Type 0 = λ r. GivesOne forbidden (target_of r) in
    subst G same giver.gives

-- ---- scopes, box by box

pub starts_next : (given : GivenPackets) (i : ℕ) (box : List SpanSet) (old new : List Scope) (start : Scope) → i < length given.boxes.items → box ≡ get_or given.boxes.items i box → new ≡ old ++ start ∷ [] → length old ≡ i
    → ((k : ℕ) (b : List SpanSet) (d : Scope) → k < i → IsStart (box_of given k b) (get_or old k d)) → IsStart (record { hook = given.hook; area = box }) start
    → record { long : length new ≡ i + 1; each : (k : ℕ) (b : List SpanSet) (d : Scope) → k < i + 1 → IsStart (box_of given k b) (get_or new k d) }
starts_next given i box old new start lt at more long each here = record {
  long = ap (λ (ss : List Scope). length ss) more ∙ length-append old (start ∷ []) ∙ ap (λ n. n + 1) long;
  each = λ k b d less. (
      let P : Scope → Type 0 = λ s. IsStart (box_of given k b) s in
      let N : List Scope → Type 0 = λ ss. P (get_or ss k d) in
      subst N (sym more) (elim (cases_lt k i) [
        | inl before ↦ subst P (sym (get_or-append old (start ∷ []) d k (omega (arith, before, long)))) (each k b d before)
        | inr last ↦ (
            let same : k ≡ i = omega (arith, less, last) in
            let own : get_or (old ++ start ∷ []) k d ≡ start = ap (λ j. get_or (old ++ start ∷ []) j d) (same ∙ sym long) ∙ get_or-append_seam old start [] d in
            let B : List SpanSet → Type 0 = λ x. IsStart (record { hook = given.hook; area = x }) start in
            let area : box ≡ get_or given.boxes.items k b = at ∙ get_or_default given.boxes.items i box b lt ∙ ap (λ j. get_or given.boxes.items j b) (sym same) in
            subst P (sym own) (subst B area here))
      ]));
}

pub starts_all : (given : GivenPackets) (i : ℕ) (starts : List Scope) → i ≡ length given.boxes.items → length starts ≡ i → ((k : ℕ) (b : List SpanSet) (d : Scope) → k < i → IsStart (box_of given k b) (get_or starts k d)) → AreStarts given starts
starts_all given i starts all long each = record { long = long ∙ all; each = λ k box d lt. each k box d (omega (arith, lt, long)) }
