-- The packets that may come to a rule's chain: those that rules which lead there let in.
use Rattle.std.proofs.Common.{◌≡◌, ◌⊎◌, inl, inr, ℕ, ◌+◌, ◌<◌, Bool, true, false, List, [], ◌∷◌, length, get_or, refl, sym, ◌∙◌, ap, Option, Some, None, Contains, AllPairs, true≢false}
use Rattle.std.proofs.lemmas.Bool.{and_parts}
use Rattle.fields.specs.declared.packet.hook.Hook.{Hook}
use Rattle.fields.specs.Hook.{name as hook_name}
use Rattle.fields.specs.Packet.{PacketView as Packet}
use Rattle.rules.specs.rule.Allows.{allows_each}
use Rattle.rules.specs.rule.Crossing.{cross}
use Rattle.table.specs.chains.Sound.{IsSound}
use Rattle.table.specs.chains.Table.{empty_chain}
use Rattle.table.specs.declared.walk.trail.Step.{Step}
use Rattle.table.specs.steps.Kept.{hook_index}
use Rattle.table.specs.walk.Walk.{Rest, walk}
use Rattle.questions.specs.Ends.{IsRule, rule_at}
use Rattle.questions.specs.Foreign.{Assignment}
use Rattle.questions.specs.Leaves.{entry_of, name_at}
use Rattle.questions.specs.Scopes.{answered, table_of}
use Rattle.questions.specs.asked.Always.{IsAlwaysDead}
use Rattle.questions.specs.asked.Reason.{IsLed, IsLetIn}
use Rattle.questions.specs.boxes.Calls.{AreCalls, IsCall}
use Rattle.questions.specs.declared.asked.takers.Takers.{Takers}
use Rattle.questions.specs.declared.foreign.subject.Subject.{Subject}
use Rattle.questions.specs.declared.seeking.calls.Call.{Call}
use Rattle.questions.specs.steps.Deciding.{AddsAt, AddsBy, AllTake, AreTakersOf, IsAsked, IsTakenAt}
use Rattle.questions.specs.steps.Straying.{Hits, IsOpenWay, place_at}
use Rattle.questions.specs.steps.Takers.{Grows, IsLetBy}
use Rattle.questions.proofs.laws.WayLaws.{listed}
use Rattle.questions.proofs.laws.ResolvedLaws.{chain_named}
use Rattle.questions.proofs.laws.SeekLaws.{matched_there, names_entered, rule_at_place}
use Rattle.questions.proofs.laws.StrayLaws.{comes_by_way}
use Rattle.questions.proofs.laws.TakerLaws.{all_take, on_left, taken_at, taken_on}
use Rattle.questions.proofs.laws.TrailLaws.{items_next, one_place}
use Rattle.questions.proofs.laws.WaitLaws.{named_first}

-- of the calls up to one, those that lead to the rule's chain are done
abbrev pub AreDone : Subject → Step → List Call → Hook → Takers → ℕ → Type 0
AreDone s step calls hook takers i = (k : ℕ) (d : Call) → k < i → (get_or calls k d).to ≡ step.chain → IsTakenAt s step (IsLetBy (table_of s) (Some (get_or calls k d).by)) takers hook

module _ (s : Subject) (sound : IsSound (table_of s)) (step : Step) where
  -- a packet on whose walk the rule is
  pub let_in_on : IsRule (table_of s) step → (a : Assignment) (p : Packet) → Contains (walk (answered s a) p).trail (entry_of (answered s a).chains step) → IsLetIn (table_of s) step p
  let_in_on is a p on = let way = comes_by_way (answered s a) p (entry_of (answered s a).chains step) on in by_way way.0.0 way.0.1
    where
      by_way : (above : List Rest) → IsOpenWay (answered s a).chains p.values (hook_name p.hook) (name_at (answered s a).chains step.chain) above → IsLetIn (table_of s) step p
      by_way [] begins = inl (sym begins ∙ chain_named s.needs.now a (table_of s).chains step.chain (empty_chain []))
      by_way (place ∷ above) leads =
          let cs = (answered s a).chains in
          let found = rule_at_place s sound a p place leads.0 leads.1 in
          let by : Step = found.0 in
          let hit : Hits cs p.values (place_at cs by) leads.0 = rw (← found.2) at leads.1 in
          let m = matched_there s a p.values by leads.0 sound found.1 hit in
          inr (by, record { there = found.1; names = names_entered s sound a p.values by leads.0 step.chain is.chain found.1 hit leads.2 }, (and_parts (allows_each p.values (rule_at (table_of s) by)) (cross p.values (rule_at (table_of s) by)) m.0).0)

  -- the chain of a hook is one place
  own_chain : (hook : Hook) → step.chain < length (table_of s).chains → name_at (table_of s).chains step.chain ≡ hook_name hook → hook_index hook ≡ step.chain
  own_chain hook lt same =
      let first = named_first (table_of s).chains hook sound.listed.built_in in
      one_place (table_of s) (hook_index hook) step.chain sound lt (first.0 ∙ sym same)

  -- where all packets are asked about, or those are all which walk from the rule's chain
  pub adds_all : (near : Bool) (hook : Hook) (old new : Takers) → (near ≡ false) ⊎ (hook_index hook ≡ step.chain) → AddsBy s step None hook old new → AddsAt s step near hook old new
  adds_all near hook old new whole (leaves, before, takes) =
      let at = taken_at s step sound (IsLetBy (table_of s) None) hook leaves old new before takes in
      record {
        grows = takes.grows;
        taken = record { dead = λ a p can e asked on. at.dead a p can e tt on; decided = λ led a p m asked. at.decided led a p m tt };
        each = λ led. all_take s step sound (IsLetBy (table_of s) None) hook leaves old new before takes (IsAsked (table_of s) step near) asked led;
      }
    where
      asked : (p : Packet) → p.hook ≡ hook → IsLetBy (table_of s) None p → IsAsked (table_of s) step near p
      asked p e let_in t = elim whole [
        | inl f ↦ absurd (true≢false (sym t ∙ f))
        | inr own ↦ (
            let first = named_first (table_of s).chains hook sound.listed.built_in in
            inl (ap hook_name e ∙ sym first.0 ∙ ap (name_at (table_of s).chains) own))
      ]

  pub done_next : (calls : List Call) (hook : Hook) (old new : Takers) (i : ℕ) (call : Call) → i < length calls → call ≡ get_or calls i call → Grows old new → (call.to ≡ step.chain → IsTakenAt s step (IsLetBy (table_of s) (Some call.by)) new hook)
      → AreDone s step calls hook old i → AreDone s step calls hook new (i + 1)
  done_next calls hook old new i call lt is grows here below =
      let Done : Call → Type 0 = λ c. c.to ≡ step.chain → IsTakenAt s step (IsLetBy (table_of s) (Some c.by)) new hook in
      items_next Done calls i call lt is (λ k d less to. taken_on s step (IsLetBy (table_of s) (Some (get_or calls k d).by)) hook old new grows (below k d less to)) here

  -- a call more, whose rule lets packets in
  pub take_near : (by : Step) (hook : Hook) (old new : Takers) → IsCall (table_of s) (record { to = step.chain; by = by }) → AddsBy s step (Some by) hook old new → IsLed (table_of s) step hook → AllTake s step (IsAsked (table_of s) step true) old → AllTake s step (IsAsked (table_of s) step true) new
  take_near by hook old new call (leaves, before, takes) led =
      all_take s step sound (IsLetBy (table_of s) (Some by)) hook leaves old new before takes (IsAsked (table_of s) step true) (λ p e let_in _. inr (by, call, let_in)) led

  pub by_taken : (by : Step) (hook : Hook) (old new : Takers) → AddsBy s step (Some by) hook old new → IsTakenAt s step (IsLetBy (table_of s) (Some by)) new hook
  by_taken by hook old new (leaves, before, takes) = taken_at s step sound (IsLetBy (table_of s) (Some by)) hook leaves old new before takes

  pub by_grows : (by : Option Step) (hook : Hook) (old new : Takers) → AddsBy s step by hook old new → Grows old new
  by_grows by hook old new (leaves, before, takes) = takes.grows

  -- when all calls are done
  pub adds_near : (calls : List Call) (hook : Hook) (first new : Takers) → IsRule (table_of s) step → AreCalls (table_of s) calls → (hook_index hook ≡ step.chain → ⊥) → Grows first new
      → (IsLed (table_of s) step hook → AllTake s step (IsAsked (table_of s) step true) first → AllTake s step (IsAsked (table_of s) step true) new) → AreDone s step calls hook new (length calls) → AddsAt s step true hook first new
  adds_near calls hook first new is all other grows each done = record {
    grows = grows;
    each = each;
    taken = record {
      dead = λ a p can e asked on. (let w = by_call p e (asked refl) in w.1.dead a p can e w.2 on);
      decided = λ led a p m asked. (let w = by_call p m.matched.there (asked refl) in w.1.decided led a p m w.2);
    };
  }
    where
      by_call : (p : Packet) → p.hook ≡ hook → IsLetIn (table_of s) step p → (by : Step) × IsTakenAt s step (IsLetBy (table_of s) (Some by)) new hook × IsLetBy (table_of s) (Some by) p
      by_call p e (inl begins) = absurd (other (own_chain hook is.chain (sym begins ∙ ap hook_name e)))
      by_call p e (inr (by, call, allows)) =
          let one : Call = record { to = step.chain; by = by } in
          let there = listed (table_of s) calls by step.chain all call.there call.names in
          (by, rw there.2 at (done there.0 one there.1 (ap (λ (c : Call). c.to) there.2)), allows)

  -- when all hooks are done
  pub takers_at_hooks : IsRule (table_of s) step → (near : Bool) (takers : Takers) → ((hook : Hook) → IsTakenAt s step (IsAsked (table_of s) step near) takers hook) → AllTake s step (IsAsked (table_of s) step near) takers
      → AllPairs (λ (a b : Step). a ≡ b → ⊥) takers.rules.items → AllPairs (λ (a b : Hook). a ≡ b → ⊥) takers.policies.items
      → IsAlwaysDead s (entry_of (table_of s).chains step) × AreTakersOf s step near takers
  takers_at_hooks is near takers at each once apart = (
    λ a p can on. (let here = on_left s a p step on in (at p.hook).dead a p can refl (λ _. let_in_on is a p here) here),
    record {
      all = λ a p m asked. (at p.hook).decided m.meant.led a p (record { matched = record { can = m.meant.can; there = refl; matched = m.meant.matched }; held = m.held }) asked;
      each = each;
      once = once;
      apart = apart;
    },
  )
