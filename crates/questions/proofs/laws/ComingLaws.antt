-- What is found of a rule and a box with one packet is so of this packet; and of a box with all packets at a hook, of these.
use Rattle.std.proofs.Common.{◌≡◌, ℕ, List, [], ap, sym, subst, ◌∙◌}
use Rattle.std.specs.Prelude.{Ok, Err, Result}
use Rattle.std.proofs.lemmas.List.Elements.{All-nil}
use Rattle.fields.specs.declared.packet.PacketFault.{PacketFault}
use Rattle.fields.specs.declared.packet.hook.Hook.{Hook}
use Rattle.fields.specs.Packet.{PacketView as Packet, packet_of}
use Rattle.table.specs.declared.walk.trail.Step.{Step}
use Rattle.questions.specs.Foreign.{Agrees, Assignment}
use Rattle.questions.specs.Leaves.{entry_of}
use Rattle.questions.specs.Scopes.{table_of, whole_of}
use Rattle.questions.specs.Written.{IsSampleOf}
use Rattle.questions.specs.asked.Always.{AreAllShort, IsAlwaysDeadIn, IsLiveWith, MayLive, SaysAt, SaysIn}
use Rattle.questions.specs.asked.Coming.{ComesUnder, NeverComes}
use Rattle.questions.specs.asked.Necessary.{AreFew}
use Rattle.questions.specs.asked.Unclear.{HasHook, IsUnclearAt, MayComeFrom}
use Rattle.questions.specs.boxes.Boxes.{IsAtHook, IsOnly}
use Rattle.questions.specs.declared.asked.rule.Life.{Life}
use Rattle.questions.specs.declared.asked.rule.Life.TheVariants.{Dead, Live, Unclear}
use Rattle.questions.specs.declared.foreign.answers.Answer.{Answer}
use Rattle.questions.specs.declared.foreign.subject.Subject.{Subject}
use Rattle.questions.specs.declared.walking.scope.Scope.{Scope}
use Rattle.questions.proofs.laws.PacketLaws.{one_packet, written_at_hooks}
use Rattle.questions.proofs.laws.ResolvedLaws.{entry_left}
use Rattle.questions.proofs.laws.SeekLaws.{point_of}

-- each assignment gives no answers
pub agrees_with_none : (a : Assignment) (answers : List Answer) → answers ≡ [] → Agrees a answers
agrees_with_none a answers e = let P : List Answer → Type 0 = λ l. Agrees a l in subst P (sym e) (All-nil (λ (answer : Answer). a answer.condition ≡ answer.holds))

-- words write one packet
abbrev written : Result Packet PacketFault → Packet → Packet
written (Ok p) other = p
written (Err fault) other = other

module _ (s : Subject) (step : Step) (p : Packet) (hook : Hook) (start : Scope) (can : IsAtHook p) (there : p.hook ≡ hook) (only : IsOnly start.area p) where
  pub never_comes : start.answers ≡ [] → IsAlwaysDeadIn s step hook start → AreAllShort s hook → NeverComes s step p
  never_comes none dead short = record {
    off = λ a on. dead a p can there (only.inside, agrees_with_none a start.answers none) (rw (← entry_left s.needs.now a (table_of s) step) at on);
    short = λ a. short a p there;
  }

  -- a packet of the box is the one
  the_one : (words : List (List ℕ)) (q : Packet) → IsSampleOf hook start.area words q → q ≡ p
  the_one words q sample =
      let at = written_at_hooks words q sample.writes in
      one_packet p q can.packet at.packet (sample.there ∙ sym there) (only.only q.values (point_of q at) sample.inside)

  pub comes_under : (budget : ℕ) (words : List (List ℕ)) (answers enough : List Answer) → SaysIn s step hook start (Live words answers)
      → (IsLiveWith s (entry_of (table_of s).chains step) words answers → IsLiveWith s (entry_of (table_of s).chains step) words enough) → AreFew s step words budget enough → ComesUnder s step budget p enough
  comes_under budget words answers enough ((consistent, live), (q, sample)) fewer few =
      let writes : packet_of words ≡ Ok p = sample.writes ∙ ap (λ (x : Packet). Ok x) (the_one words q sample) in
      let all = fewer (record { consistent = consistent; live = λ a agrees. (let (x, is, at, on) = live a agrees in (x, is, rw (entry_left s.needs.now a (table_of s) step) at on)) }) in
      record {
        consistent = all.consistent;
        enough = λ a agrees.
            (let (x, is, on) = all.live a agrees in
            rw (ap (λ r. written r p) (sym is ∙ writes)) at on);
        few = λ le. few le p writes;
      }

-- ---- all packets at the hook

-- an answer about the packets of a scope that has all of them is one about them
pub says_at_hook : (s : Subject) (step : Step) (hook : Hook) (start : Scope) (life : Life) → HasHook hook start → SaysIn s step hook start life → SaysAt s step hook life
says_at_hook s step hook start Dead whole dead = λ a p at there on.
    dead a p at there (whole.all p at there, agrees_with_none a start.answers whole.unasked) on
says_at_hook s step hook start (Live words answers) whole says = says.0
says_at_hook s step hook start Unclear whole says = says

pub unclear_at_hook : (s : Subject) (step : Step) (hook : Hook) (budget : ℕ) (start : Scope) (life : Life) → HasHook hook start → IsUnclearAt (MayComeFrom (whole_of s) start step hook budget) life → IsUnclearAt (MayLive s step budget hook) life
unclear_at_hook s step hook budget start Dead whole may = may
unclear_at_hook s step hook budget start (Live words answers) whole may = may
unclear_at_hook s step hook budget start Unclear whole may = (start, whole, may)
