-- The packets that words say, as boxes.
use Rattle.std.proofs.Common.{◌≡◌, ℕ, zero, suc, ◌+◌, ◌<◌, ◌≤◌, Bool, true, false, ◌&&◌, not, cond, ◌==◌, List, [], length, get_or, take, refl, sym, ◌∙◌, ap, arith, eqb-true, true≢false}
use Rattle.std.specs.Prelude.{if◌then◌else◌}
use Rattle.std.proofs.lemmas.Bool.{and_parts}
use Rattle.std.proofs.lemmas.List.{get_or_default}
use Rattle.std.proofs.lemmas.List.Folds.{list_all_more}
use Rattle.fields.specs.declared.numbers.field.Field.{Field}
use Rattle.fields.specs.declared.numbers.field.Field.TheVariants as field
use Rattle.fields.specs.declared.packet.hook.Hook.{Hook}
use Rattle.fields.specs.numbers.Spans.{SpanSet, has}
use Rattle.fields.specs.Packet.{PacketView as Packet, carries_key, comes_in, goes_out, point}
use Rattle.fields.specs.values.Protocol.{carries_ports}
use Rattle.notation.specs.Words.{all_say, says}
use Rattle.notation.specs.declared.packet_word.PacketWord.{PacketWord}
use Rattle.questions.specs.boxes.Boxes.{IsAtHook, IsIn, IsNarrowed}
use Rattle.questions.specs.boxes.Said.{AreSaid, IsAt}
use Rattle.questions.specs.declared.boxes.transport.Transport.{Transport}
use Rattle.questions.specs.declared.boxes.transport.Transport.TheVariants.{Tcp}
use Rattle.questions.specs.steps.Saying.{is_carried, IsAllowed, IsSaidOf, IsSaidWith}
use Rattle.questions.specs.steps.Transports.{HasTransport, IsWithTransport, all_transports, fragment_of, with_flags, with_ports, with_type}
use Rattle.questions.proofs.laws.BoxesLaws.{Pair}
use Rattle.questions.proofs.laws.TransportLaws.{carries_flags_by, carries_ports_by, carries_type_by, fits_of, some_transport}

-- by the hook and the transport header it is known which keys a packet carries
carries_by : (hook : Hook) (t : Transport) (f : Field) (p : Packet) → p.hook ≡ hook → HasTransport t p → carries_key p f ≡ is_carried hook t f
carries_by hook t field.InIface p e h = ap comes_in e
carries_by hook t field.OutIface p e h = ap goes_out e
carries_by hook t field.SourcePort p e h = carries_ports_by p t h
carries_by hook t field.DestinationPort p e h = carries_ports_by p t h
carries_by hook t field.TcpFlags p e h = carries_flags_by p t h
carries_by hook t field.IcmpType p e h = carries_type_by p t h
carries_by hook t _ p e h = refl

-- ---- one word

module _ (t : Transport) (hook : Hook) (word : PacketWord) where
  abbrev f : Field
  f = word.field

  -- what it says where the key is carried, or isn't
  abbrev said_if : Bool → Bool → Bool
  said_if carried there = if word.denies then not (carried && there) else (carried && there)

  says_by : (b : Bool) → is_carried hook t f ≡ b → (p : Packet) → IsAt hook p → HasTransport t p → says word p ≡ said_if b (has word.numbers.intervals (point p f))
  says_by b c p at h = ap (λ (carried : Bool). said_if carried (has word.numbers.intervals (point p f))) (carries_by hook t f p at.there h ∙ c)

  not_carried : (d x : Bool) → (if d then not (false && x) else (false && x)) ≡ d
  not_carried true x = refl
  not_carried false x = refl

  pub said_carried : (before after : List SpanSet) (set : SpanSet) → is_carried hook t f ≡ true → IsAllowed word set → IsNarrowed f set before after → IsSaidWith t hook word before after
  said_carried before after set c allow narrow = record {
    all = λ p at h inside s. narrow.all p.values at.can.packet.within inside (allow.members (point p f) (at.can.packet.within f) ∙ sym (says_by true c p at h) ∙ s);
    own = λ p at inside. narrow.own p.values at.can.packet.within inside;
    say = λ p at h inside. says_by true c p at h ∙ sym (allow.members (point p f) (at.can.packet.within f)) ∙ narrow.members p.values at.can.packet.within inside;
  }

  pub said_free : (box : List SpanSet) → is_carried hook t f ≡ false → word.denies ≡ true → IsSaidWith t hook word box box
  said_free box c denies = record {
    all = λ p at h inside s. inside;
    own = λ p at inside. inside;
    say = λ p at h inside. says_by false c p at h ∙ not_carried word.denies (has word.numbers.intervals (point p f)) ∙ denies;
  }

  pub said_none : (before after : List SpanSet) (none : SpanSet) → is_carried hook t f ≡ false → word.denies ≡ false → ((x : ℕ) → has none.intervals x ≡ false) → IsNarrowed f none before after
      → IsSaidWith t hook word before after
  said_none before after none c denies bare narrow = record {
    all = λ p at h inside s. absurd (true≢false (sym s ∙ says_by false c p at h ∙ not_carried word.denies (has word.numbers.intervals (point p f)) ∙ denies));
    own = λ p at inside. narrow.own p.values at.can.packet.within inside;
    say = λ p at h inside. absurd (true≢false (sym (narrow.members p.values at.can.packet.within inside) ∙ bare (point p f)));
  }

-- ---- the loop over the words

module _ (t : Transport) (hook : Hook) where
  pub said_begins : (there box : List SpanSet) → ((p : Packet) → IsAtHook p → p.hook ≡ hook → IsIn there p) → IsWithTransport t there box → IsSaidOf t hook [] box
  said_begins there box all with = record {
    all = λ p at h s. with.all p.values at.can.packet.within (all p at.can at.there) (fits_of t p at.can h);
    with = λ p at inside. (
        let fit = with.with p.values at.can.packet.within inside in
        record { protocol = fit field.Protocol; fragment = eqb-true (point p field.Fragment) (fragment_of t) (fit field.Fragment) });
    say = λ p at inside. refl;
  }

  pub said_next : (words : List PacketWord) (i : ℕ) (word : PacketWord) (old new : List SpanSet) → i < length words → word ≡ get_or words i word → IsSaidOf t hook (take i words) old
      → IsSaidWith t hook word old new → IsSaidOf t hook (take (i + 1) words) new
  said_next words i word old new lt is before with = record {
    all = λ p at h s. (
        let two = and_parts (all_say (take i words) p) (says word p) (sym (more p) ∙ s) in
        with.all p at h (before.all p at h two.0) two.1);
    with = λ p at inside. before.with p at (with.own p at inside);
    say = λ p at inside. (
        let was = with.own p at inside in
        more p ∙ ap (λ b. b && says word p) (before.say p at was) ∙ with.say p at (before.with p at was) inside);
  }
    where
      more : (p : Packet) → all_say (take (i + 1) words) p ≡ (all_say (take i words) p && says word p)
      more p = list_all_more (λ (w : PacketWord). says w p) words i word lt ∙ ap (λ (w : PacketWord). all_say (take i words) p && says w p) (sym is)

-- ---- the loop over the transport headers

-- the place of a transport header among all, by what packets with it carry
abbrev place_by : Bool → Bool → Bool → ℕ → ℕ
place_by flags ports type fragment = cond flags 0 (cond ports 1 (cond type 2 (3 + fragment)))

abbrev place : Transport → ℕ
place t = place_by (with_flags t) (with_ports t) (with_type t) (fragment_of t)

place_at : (k : ℕ) (d : Transport) → k < 5 → place (get_or all_transports k d) ≡ k
place_at zero d lt = refl
place_at (suc zero) d lt = refl
place_at (suc (suc zero)) d lt = refl
place_at (suc (suc (suc zero))) d lt = refl
place_at (suc (suc (suc (suc zero)))) d lt = refl
place_at (suc (suc (suc (suc (suc k))))) d lt = absurd (omega (arith, lt))

-- a packet has one of them
module _ (p : Packet) where
  abbrev ports : Bool
  ports = carries_ports (point p field.Protocol) && (point p field.Fragment == 0)

  abbrev flags : Bool
  flags = (point p field.Protocol == 6) && (point p field.Fragment == 0)

  abbrev type : Bool
  type = (point p field.Protocol == 1) && (point p field.Fragment == 0)

  place_of : (t : Transport) → HasTransport t p → place t ≡ place_by flags ports type (point p field.Fragment)
  place_of t h =
      ap (λ (b : Bool). place_by b (with_ports t) (with_type t) (fragment_of t)) (sym (carries_flags_by p t h)) ∙ ap (λ (b : Bool). place_by flags b (with_type t) (fragment_of t)) (sym (carries_ports_by p t h))
      ∙ ap (λ (b : Bool). place_by flags ports b (fragment_of t)) (sym (carries_type_by p t h)) ∙ ap (λ (n : ℕ). place_by flags ports type n) (sym h.fragment)

pub all_said : (hook : Hook) (words : List PacketWord) (boxes : List (List SpanSet)) (n : ℕ) → 5 ≤ n → n ≤ 5 → Pair (λ t box. IsSaidOf t hook words box) all_transports boxes n → AreSaid hook words boxes
all_said hook words boxes n ge le pairs = record {
  all = λ p at s. (
      let (k, lt, h) = some_transport p at.can.packet in
      (k, get_or boxes k [], omega (arith, lt, ge, pairs.long), get_or_default boxes k (get_or boxes k []) [] (omega (arith, lt, ge, pairs.long)), (pairs.each k Tcp [] (omega (arith, lt, ge))).all p at h s));
  own = λ k d lt p at inside. (pairs.each k Tcp d (omega (arith, lt, pairs.long))).say p at inside;
  apart = λ i j d less lt p at one two. (
      let first = place_of p (get_or all_transports i Tcp) ((pairs.each i Tcp d (omega (arith, less, lt, pairs.long))).with p at one) in
      let second = place_of p (get_or all_transports j Tcp) ((pairs.each j Tcp d (omega (arith, lt, pairs.long))).with p at two) in
      let same : i ≡ j = sym (place_at i Tcp (omega (arith, less, lt, pairs.long, le))) ∙ first ∙ sym second ∙ place_at j Tcp (omega (arith, lt, pairs.long, le)) in
      omega (arith, same, less));
}
