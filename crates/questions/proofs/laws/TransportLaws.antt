-- What a packet carries behind the header of IP.
use Rattle.std.proofs.Common.{◌≡◌, ◌⊎◌, ℕ, ◌+◌, ◌<◌, ◌≤◌, Bool, true, false, ◌&&◌, ◌||◌, not, ◌==◌, List, get_or, refl, sym, ◌∙◌, ap, arith, inl, inr, eq-eqb, eqb-true, true≢false}
use Rattle.std.proofs.lemmas.Bool.{cases_Bool, cases_eq, or_parts}
use Rattle.fields.specs.declared.numbers.field.TheConstants.{FIELDS}
use Rattle.fields.specs.declared.numbers.field.Field.{Field}
use Rattle.fields.specs.declared.numbers.field.Field.TheVariants as field
use Rattle.fields.specs.numbers.Field.{all_fields, index, number_on, top}
use Rattle.fields.specs.numbers.Spans.{SpanSet, has}
use Rattle.fields.specs.Packet.{PacketView as Packet, IsPacket, carries_key, point}
use Rattle.fields.specs.values.Protocol.{carries_ports}
use Rattle.rules.proofs.laws.BoxLaws.{here_is, index-lt}
use Rattle.classify.specs.Classifier.{IsPoint}
use Rattle.questions.specs.boxes.Boxes.{Has, HasOwnInterfaces, IsAtHook, IsNarrowed}
use Rattle.questions.specs.declared.boxes.transport.Transport.{Transport}
use Rattle.questions.specs.declared.boxes.transport.Transport.TheVariants.{Tcp, Ports, Icmp, Other, Missing}
use Rattle.questions.specs.steps.Transports.{AreNumbersWith, Fits, HasTransport, IsFirstWith, IsKept, IsWithTransport, all_transports, fits, fragment_of, is_ported, with_flags, with_ports, with_type}

-- ---- what is carried

-- the tests of a protocol
record Tests (x : ℕ) (ports tcp icmp : Bool) : Type 0 where
  ported : carries_ports x ≡ ports
  is_tcp : (x == 6) ≡ tcp
  is_icmp : (x == 1) ≡ icmp

-- a protocol that is this number has the tests of the number
tests_at : (x n : ℕ) → (x == n) ≡ true → Tests x (carries_ports n) (n == 6) (n == 1)
tests_at x n e =
    let is : x ≡ n = eqb-true x n e in
    record { ported = ap carries_ports is; is_tcp = ap (λ y. y == 6) is; is_icmp = ap (λ y. y == 1) is }

-- what four tests come to
or_cases : (a b : Bool) → (a || b) ≡ true → (a ≡ true) ⊎ (b ≡ true)
or_cases true b e = inl refl
or_cases false b e = inr e

not_true : (b : Bool) → not b ≡ true → b ≡ false
not_true true e = sym e
not_true false e = refl

tests_ported : (x : ℕ) → is_ported x ≡ true → Tests x true false false
tests_ported x e =
    elim (or_cases (x == 17 || x == 33 || x == 132) (x == 136) e) [
      | inr d ↦ tests_at x 136 d
      | inl abc ↦ elim (or_cases (x == 17 || x == 33) (x == 132) abc) [
        | inr c ↦ tests_at x 132 c
        | inl ab ↦ elim (or_cases (x == 17) (x == 33) ab) [ inl a ↦ tests_at x 17 a | inr b ↦ tests_at x 33 b ]
      ]
    ]

tests_other : (x : ℕ) → not (is_ported x || x == 6 || x == 1) ≡ true → Tests x false false false
tests_other x e =
    let n = or_parts (is_ported x || x == 6) (x == 1) (not_true (is_ported x || x == 6 || x == 1) e) in
    let m = or_parts (is_ported x) (x == 6) n.0 in
    let d = or_parts (x == 17 || x == 33 || x == 132) (x == 136) m.0 in
    let c = or_parts (x == 17 || x == 33) (x == 132) d.0 in
    let b = or_parts (x == 17) (x == 33) c.0 in
    record { ported = five m.1 b.0 b.1 c.1 d.1; is_tcp = m.1; is_icmp = n.1 }
  where
    five : {a b c d f : Bool} → a ≡ false → b ≡ false → c ≡ false → d ≡ false → f ≡ false → (a || b || c || d || f) ≡ false
    five {a} {b} {c} {d} {f} p q r s t = ap (λ v. v || b || c || d || f) p ∙ ap (λ v. v || c || d || f) q ∙ ap (λ v. v || d || f) r ∙ ap (λ v. v || f) s ∙ t

-- a further fragment carries nothing of it
and_never : (b : Bool) (frag : ℕ) → frag ≡ 1 → (b && (frag == 0)) ≡ false
and_never true frag e = ap (λ n. n == 0) e
and_never false frag e = refl

and_first : (a b : Bool) (frag : ℕ) → a ≡ b → frag ≡ 0 → (a && (frag == 0)) ≡ b
and_first true b frag e z = ap (λ n. n == 0) z ∙ e
and_first false b frag e z = e

-- by the transport header it is known what a packet carries
module _ (p : Packet) where
  abbrev x : ℕ
  x = point p field.Protocol

  abbrev frag : ℕ
  frag = point p field.Fragment

  pub carries_ports_by : (t : Transport) → HasTransport t p → (carries_ports x && (frag == 0)) ≡ with_ports t
  carries_ports_by Tcp h = and_first (carries_ports x) true frag (tests_at x 6 h.protocol).ported h.fragment
  carries_ports_by Ports h = and_first (carries_ports x) true frag (tests_ported x h.protocol).ported h.fragment
  carries_ports_by Icmp h = and_first (carries_ports x) false frag (tests_at x 1 h.protocol).ported h.fragment
  carries_ports_by Other h = and_first (carries_ports x) false frag (tests_other x h.protocol).ported h.fragment
  carries_ports_by Missing h = and_never (carries_ports x) frag h.fragment

  pub carries_flags_by : (t : Transport) → HasTransport t p → ((x == 6) && (frag == 0)) ≡ with_flags t
  carries_flags_by Tcp h = and_first (x == 6) true frag (tests_at x 6 h.protocol).is_tcp h.fragment
  carries_flags_by Ports h = and_first (x == 6) false frag (tests_ported x h.protocol).is_tcp h.fragment
  carries_flags_by Icmp h = and_first (x == 6) false frag (tests_at x 1 h.protocol).is_tcp h.fragment
  carries_flags_by Other h = and_first (x == 6) false frag (tests_other x h.protocol).is_tcp h.fragment
  carries_flags_by Missing h = and_never (x == 6) frag h.fragment

  pub carries_type_by : (t : Transport) → HasTransport t p → ((x == 1) && (frag == 0)) ≡ with_type t
  carries_type_by Tcp h = and_first (x == 1) false frag (tests_at x 6 h.protocol).is_icmp h.fragment
  carries_type_by Ports h = and_first (x == 1) false frag (tests_ported x h.protocol).is_icmp h.fragment
  carries_type_by Icmp h = and_first (x == 1) true frag (tests_at x 1 h.protocol).is_icmp h.fragment
  carries_type_by Other h = and_first (x == 1) false frag (tests_other x h.protocol).is_icmp h.fragment
  carries_type_by Missing h = and_never (x == 1) frag h.fragment

-- ---- from there to the numbers, and back

or_zero : (b : Bool) (x : ℕ) → (b ≡ false → x ≡ 0) → (b || (x == 0)) ≡ true
or_zero true x h = refl
or_zero false x h = ap (λ y. y == 0) (h refl)

zero_or : (b : Bool) (x : ℕ) → (b || (x == 0)) ≡ true → b ≡ false → x ≡ 0
zero_or true x h e = absurd (true≢false e)
zero_or false x h e = eqb-true x 0 h

-- a packet that can be at its hook has numbers that one with its transport header may have
pub fits_of : (t : Transport) (p : Packet) → IsAtHook p → HasTransport t p → Fits t p.values
fits_of t p at h field.Protocol = h.protocol
fits_of t p at h field.Fragment = eq-eqb (point p field.Fragment) (fragment_of t) h.fragment
fits_of t p at h field.SourcePort = or_zero (with_ports t) (point p field.SourcePort) (λ n. at.carried field.SourcePort (carries_ports_by p t h ∙ n))
fits_of t p at h field.DestinationPort = or_zero (with_ports t) (point p field.DestinationPort) (λ n. at.carried field.DestinationPort (carries_ports_by p t h ∙ n))
fits_of t p at h field.TcpFlags = or_zero (with_flags t) (point p field.TcpFlags) (λ n. at.carried field.TcpFlags (carries_flags_by p t h ∙ n))
fits_of t p at h field.IcmpType = or_zero (with_type t) (point p field.IcmpType) (λ n. at.carried field.IcmpType (carries_type_by p t h ∙ n))
fits_of t p at h _ = refl

-- and the other way round
pub at_hook_of : (t : Transport) (p : Packet) → IsPacket p → HasOwnInterfaces p → Fits t p.values → IsAtHook p
at_hook_of t p is own fit = record { packet = is; carried = carried }
  where
    h : HasTransport t p
    h = record { protocol = fit field.Protocol; fragment = eqb-true (point p field.Fragment) (fragment_of t) (fit field.Fragment) }

    carried : (f : Field) → carries_key p f ≡ false → point p f ≡ 0
    carried field.InIface n = own.came n
    carried field.OutIface n = own.goes n
    carried field.SourcePort n = zero_or (with_ports t) (point p field.SourcePort) (fit field.SourcePort) (sym (carries_ports_by p t h) ∙ n)
    carried field.DestinationPort n = zero_or (with_ports t) (point p field.DestinationPort) (fit field.DestinationPort) (sym (carries_ports_by p t h) ∙ n)
    carried field.TcpFlags n = zero_or (with_flags t) (point p field.TcpFlags) (fit field.TcpFlags) (sym (carries_flags_by p t h) ∙ n)
    carried field.IcmpType n = zero_or (with_type t) (point p field.IcmpType) (fit field.IcmpType) (sym (carries_type_by p t h) ∙ n)
    carried _ n = absurd (true≢false n)

-- each packet has one of them
pub some_transport : (p : Packet) → IsPacket p → (k : ℕ) × (k < 5) × HasTransport (get_or all_transports k Tcp) p
some_transport p is =
    let x = point p field.Protocol in
    elim (cases_eq (point p field.Fragment) 0) [
      | inr ne ↦ (4, omega arith, record { protocol = refl; fragment = omega (arith, ne, is.within field.Fragment) })
      | inl first ↦ elim (cases_Bool (is_ported x)) [
        | inl a ↦ (1, omega arith, record { protocol = a; fragment = first })
        | inr a ↦ elim (cases_Bool (x == 6)) [
          | inl b ↦ (0, omega arith, record { protocol = b; fragment = first })
          | inr b ↦ elim (cases_Bool (x == 1)) [
            | inl c ↦ (2, omega arith, record { protocol = c; fragment = first })
            | inr c ↦ (3, omega arith, record { protocol = ap not (ap (λ v. v || (x == 6) || (x == 1)) a ∙ ap (λ v. v || (x == 1)) b ∙ c); fragment = first })
          ]
        ]
      ]
    ]

-- ---- the loop over the fields

-- numbers fit on the first so many fields
abbrev pub FitsBelow : Transport → ℕ → List ℕ → Type 0
FitsBelow t count numbers = (k : ℕ) (d : Field) → k < count → fits t (get_or all_fields k d) (number_on numbers (get_or all_fields k d)) ≡ true

-- of the packets of a box another has just those whose numbers fit there
pub record IsWithBelow (t : Transport) (count : ℕ) (before after : List SpanSet) : Type 0 where
  pub all : (numbers : List ℕ) → IsPoint numbers → Has before numbers → FitsBelow t count numbers → Has after numbers
  pub own : (numbers : List ℕ) → IsPoint numbers → Has after numbers → Has before numbers
  pub with : (numbers : List ℕ) → IsPoint numbers → Has after numbers → FitsBelow t count numbers

pub with_begins : (t : Transport) (box : List SpanSet) → IsWithBelow t 0 box box
with_begins t box = record { all = λ numbers point h fit. h; own = λ numbers point h. h; with = λ numbers point h k d lt. absurd (omega (arith, lt)) }

module _ (t : Transport) (before old new : List SpanSet) (i : ℕ) (f : Field) (wanted : SpanSet) (at : (d : Field) → get_or all_fields i d ≡ f) (is : AreNumbersWith t f wanted) (narrowed : IsNarrowed f wanted old new) (below : IsWithBelow t i before old) where
  pub with_next : IsWithBelow t (i + 1) before new
  with_next = record {
    all = λ numbers point h fit. narrowed.all numbers point (below.all numbers point h (λ k d lt. fit k d (omega (arith, lt)))) (here numbers point (fit i f (omega arith)));
    own = λ numbers point h. below.own numbers point (narrowed.own numbers point h);
    with = λ numbers point h k d lt. (
        elim (cases_eq k i) [
          | inr ne ↦ below.with numbers point (narrowed.own numbers point h) k d (omega (arith, ne, lt))
          | inl e ↦ (
              rw (← e) at (rw (← at d) at (sym (is.members (number_on numbers f) (point f)) ∙ narrowed.members numbers point h)))
        ]);
  }
    where
      here : (numbers : List ℕ) → IsPoint numbers → fits t (get_or all_fields i f) (number_on numbers (get_or all_fields i f)) ≡ true → has wanted.intervals (number_on numbers f) ≡ true
      here numbers point h =
          is.members (number_on numbers f) (point f) ∙ (rw (at f) at h)

pub with_end : (t : Transport) (before after : List SpanSet) (i : ℕ) → FIELDS ≤ i → IsWithBelow t i before after → IsWithTransport t before after
with_end t before after i le h = record {
  all = λ numbers point own fit. h.all numbers point own (λ k d lt. fit (get_or all_fields k d));
  own = h.own;
  with = λ numbers point own f. (
      rw (here_is f f) at (h.with numbers point own (index f) f (omega (arith, index-lt f, le))));
}

-- ---- the packets that carry a key

-- the first fragments with a protocol that passes a test
pub first_of_narrowed : (protocols first : SpanSet) (test : ℕ → Bool) (before alike after : List SpanSet) → ((x : ℕ) → x ≤ top field.Protocol → has protocols.intervals x ≡ test x) → ((x : ℕ) → x ≤ top field.Fragment → has first.intervals x ≡ (x == 0))
    → IsNarrowed field.Protocol protocols before alike → IsNarrowed field.Fragment first alike after → IsFirstWith test before after
first_of_narrowed protocols first test before alike after same zero one two = record {
  all = λ numbers point h on f. two.all numbers point (one.all numbers point h (same (number_on numbers field.Protocol) (point field.Protocol) ∙ on)) (zero (number_on numbers field.Fragment) (point field.Fragment) ∙ eq-eqb (number_on numbers field.Fragment) 0 f);
  own = λ numbers point h. one.own numbers point (two.own numbers point h);
  protocol = λ numbers point h. sym (same (number_on numbers field.Protocol) (point field.Protocol)) ∙ one.members numbers point (two.own numbers point h);
  first = λ numbers point h. eqb-true (number_on numbers field.Fragment) 0 (sym (zero (number_on numbers field.Fragment) (point field.Fragment)) ∙ two.members numbers point h);
}

pub kept_all : (box : List SpanSet) (wanted : Bool) → wanted ≡ true → IsKept wanted box box
kept_all box wanted e = record { all = λ w numbers point h. h; own = λ numbers point h. h; wished = λ numbers point h. e }

pub kept_none : (f : Field) (none : SpanSet) (before after : List SpanSet) (wanted : Bool) → wanted ≡ false → ((x : ℕ) → has none.intervals x ≡ false) → IsNarrowed f none before after → IsKept wanted before after
kept_none f none before after wanted e bare is = record {
  all = λ w numbers point h. absurd (true≢false (sym w ∙ e));
  own = λ numbers point h. is.own numbers point h;
  wished = λ numbers point h. absurd (true≢false (sym (is.members numbers point h) ∙ bare (number_on numbers f)));
}

-- a protocol with ports is tcp or one of the others
pub ported_is : (x : ℕ) → (is_ported x || x == 6) ≡ carries_ports x
ported_is x = turned (x == 17) (x == 33) (x == 132) (x == 136) (x == 6)
  where
    turned : (a b c d f : Bool) → (a || b || c || d || f) ≡ (f || a || b || c || d)
    turned true b c d true = refl
    turned true b c d false = refl
    turned false true c d true = refl
    turned false true c d false = refl
    turned false false true d true = refl
    turned false false true d false = refl
    turned false false false true true = refl
    turned false false false true false = refl
    turned false false false false true = refl
    turned false false false false false = refl
