-- The numbers that are chosen of a box, names of interfaces among them, are those of a packet that can be written.
use Rattle.std.proofs.Common.{◌≡◌, ◌≢◌, inl, inr, ℕ, zero, suc, ◌+◌, ◌-◌, ◌*◌, ◌/◌, ◌%◌, ◌^◌, ◌<◌, ◌≤◌, Bool, true, false, cond, Option, None, Some, MatchOption, List, [], ◌∷◌, length, refl, sym, ap, subst, ◌∙◌, arith, ◌⊎◌, max, get_or, map, unwrap_or, Result, Ok, Err, lt-ltb, le-leb, true≢false, leb-true, div-add-mod'}
use Rattle.std.specs.List.{list_all}
use Rattle.std.proofs.lemmas.Bool.{and_parts, and_from, cases_order, or_cases}
use Rattle.std.proofs.lemmas.Nat.{mul-add-lt, mod_below}
use Rattle.std.proofs.Math.Nat.{pow-suc, pow-le-pow_right, mul-le-mul_right}
use Rattle.std.specs.Option.{IfSome, IsNone}
use Rattle.std.proofs.Math.Dec.{leb}
use Rattle.std.proofs.Math.ListN.{set}
use Rattle.std.proofs.lemmas.List.{get_or_default}
use Rattle.fields.specs.values.Interface.{is_interface_byte, interface_of, interface_value, IsInterfaceName, is_interface}
use Rattle.fields.proofs.laws.values.InterfaceLaws.{bound, bound-is, bound-low, bound-high, interface-byte, interface_of-form}
use Rattle.fields.specs.declared.numbers.field.Field.{Field}
use Rattle.fields.specs.declared.numbers.field.TheConstants.{FIELDS}
use Rattle.fields.specs.declared.numbers.spans.Interval.{Interval}
use Rattle.fields.specs.declared.packet.hook.Hook.{Hook}
use Rattle.fields.specs.numbers.Field.{all_fields, index, number_on, top}
use Rattle.fields.specs.numbers.Spans.{SpanSet, AreSpansFrom, has, in_span}
use Rattle.fields.specs.Packet.{PacketView as Packet, carries_key, point, checked, lacks_key, leftmost_fault, packet_at, packet_of, shape_of, strays_key, text_of, value_on}
use Rattle.rules.specs.Boxed.{set_on}
use Rattle.rules.proofs.laws.BoxLaws.{index-lt, here_is}
use Rattle.classify.specs.Classifier.{box_allows}
use Rattle.fields.specs.Sequence.{◌>>=◌}
use Rattle.fields.specs.declared.packet.PacketFault.{PacketFault}
use Rattle.fields.specs.declared.packet.PacketFault.TheVariants.{NotCarried, KeyMissing}
use Rattle.fields.specs.Hook.{hook_of}
use Rattle.fields.specs.declared.numbers.field.Field.TheVariants as field
use Rattle.questions.specs.steps.Sampled.{IsNameByte, IsTail, IsLeast, HasNoneFrom, FindsNone, HasNoKindWith, IsKindOf, IsNamed, IsNumberOn, IsOwn, carries_field, kind_of, IsInterfaceNumber, CanBeWritten, HasNone, IsChosen, packet_with}
use Rattle.questions.specs.declared.sampling.choice.Kind.{Kind}
use Rattle.questions.specs.boxes.Boxes.{IsIn}
use Rattle.questions.specs.Written.{IsWritten}
use Rattle.questions.proofs.laws.AreaLaws.{from_fields, on_field, set_next}
use Rattle.questions.proofs.laws.PacketLaws.{at_index, written_at_hooks}

-- ---- The least number of an interface from another number on, byte by byte.

power-some : (k : ℕ) → 0 < 256 ^ k
power-some k = let whole = bound-high k in omega arith

-- the number of a tail with one byte more
pub tail-fits : (k n : ℕ) → IsTail k n → n < 256 ^ suc k
tail-fits zero n e = let some = power-some 1 in omega (arith, e)
tail-fits (suc k) n (inl e) = let some = power-some (suc (suc k)) in omega (arith, e)
tail-fits (suc k) n (inr t) =
    let high : t.0 ≤ 126 = (interface-byte t.0 t.2).1 in
    let low : t.1 < 256 ^ suc k = tail-fits k t.1 t.3 in
    let fits = mul-add-lt t.0 (256 ^ suc k) t.1 256 (omega arith) low in
    let power = pow-suc 256 (suc k) in
    omega (arith, t.4)

pub tail-zero : (k : ℕ) → IsTail k 0
tail-zero zero = refl
tail-zero (suc k) = inl refl

-- the first bytes decide before the rests
lex : (unit b r c t : ℕ) → r < unit → t < unit → b * unit + r ≤ c * unit + t → (b < c) ⊎ ((b ≡ c) × (r ≤ t))
lex unit b r c t small low h = elim (cases_order b c) [
  | inl same ↦ inr (same, let k = rw same at h in omega arith)
  | inr (inl below) ↦ inl below
  | inr (inr over) ↦
      let far : (c + 1) * unit ≤ b * unit = mul-le-mul_right unit (let up : c + 1 ≤ b = omega arith in up) in
      absurd (omega arith)
]

-- a number, by its first byte and the rest
pub record IsSplit (unit number byte rest : ℕ) : Type 0 where
  pub whole : number ≡ byte * unit + rest
  pub small : rest < unit
  pub some : 0 < number

-- what is no less has a first byte too
record IsOver (k unit byte rest n : ℕ) : Type 0 where
  first : ℕ
  others : ℕ
  named : IsNameByte first
  tail : IsTail k others
  whole : n ≡ first * unit + others
  order : (byte < first) ⊎ ((byte ≡ first) × (rest ≤ others))

over : (k number byte rest n : ℕ) → IsSplit (256 ^ suc k) number byte rest → IsTail (suc k) n → number ≤ n → IsOver k (256 ^ suc k) byte rest n
over k number byte rest n split (inl e) le = absurd (omega (arith, e, le, split.some))
over k number byte rest n split (inr t) le = record {
  first = t.0;
  others = t.1;
  named = t.2;
  tail = t.3;
  whole = t.4;
  order = lex (256 ^ suc k) byte rest t.0 t.1 split.small (tail-fits k t.1 t.3) (omega (arith, split.whole, le, t.4));
}

module _ (k number byte rest : ℕ) (split : IsSplit (256 ^ suc k) number byte rest) where
  abbrev unit : ℕ
  unit = 256 ^ suc k

  -- the first byte stays
  stays : (t : ℕ) → IsNameByte byte → IsLeast (IsTail k) rest t → IsLeast (IsTail (suc k)) number (byte * unit + t)
  stays t named tail = record {
    is = inr (byte, t, named, tail.is, refl);
    above = omega (arith, split.whole, tail.above);
    least = λ n is le. go n (over k number byte rest n split is le);
  }
    where
      go : (n : ℕ) → IsOver k (256 ^ suc k) byte rest n → byte * unit + t ≤ n
      go n o = elim o.order [
        | inl less ↦
            let far : (byte + 1) * unit ≤ o.first * unit = mul-le-mul_right unit (let up : byte + 1 ≤ o.first = omega arith in up) in
            let low = tail-fits k t tail.is in
            omega (arith, o.whole)
        | inr same ↦
            let more = tail.least o.others o.tail same.1 in
            let here : byte * unit ≡ o.first * unit = ap (λ b. b * unit) same.0 in
            omega (arith, o.whole)
      ]

  -- it is raised
  raised : (next : ℕ) → (IsNameByte byte → HasNoneFrom (IsTail k) rest) → IsLeast IsNameByte (byte + 1) next → IsLeast (IsTail (suc k)) number (next * unit)
  raised next none is = record {
    is = inr (next, 0, is.is, tail-zero k, (omega arith));
    above =
        let far : (byte + 1) * unit ≤ next * unit = mul-le-mul_right unit is.above in
        omega (arith, split.whole, split.small);
    least = λ n tail le. go n (over k number byte rest n split tail le);
  }
    where
      go : (n : ℕ) → IsOver k (256 ^ suc k) byte rest n → next * unit ≤ n
      go n o = elim o.order [
        | inl less ↦
            let far : next * unit ≤ o.first * unit = mul-le-mul_right unit (is.least o.first o.named (omega (arith, less))) in
            omega (arith, o.whole)
        | inr same ↦ absurd (none (subst IsNameByte (sym same.0) o.named) o.others o.tail same.1)
      ]

  -- it can't be raised
  stuck : (IsNameByte byte → HasNoneFrom (IsTail k) rest) → HasNoneFrom IsNameByte (byte + 1) → HasNoneFrom (IsTail (suc k)) number
  stuck none last n tail le = go n (over k number byte rest n split tail le)
    where
      go : (n : ℕ) → IsOver k (256 ^ suc k) byte rest n → ⊥
      go n o = elim o.order [
        | inl less ↦ last o.first o.named (omega (arith, less))
        | inr same ↦ none (subst IsNameByte (sym same.0) o.named) o.others o.tail same.1
      ]

-- the same of a number and what its division gives
module _ (after number : ℕ) (more : after ≢ 0) (some : number ≢ 0) (unit : ℕ) (is : unit ≡ 256 ^ after) where
  split : (k : ℕ) → after ≡ suc k → IsSplit (256 ^ suc k) number (number / unit) (number % unit)
  split k e =
      let same : unit ≡ 256 ^ suc k = is ∙ ap (λ n. 256 ^ n) e in
      let power = power-some (suc k) in
      rw (← same) (record { whole = sym (div-add-mod' number unit); small = mod_below number unit (omega arith); some = omega arith })

  pub least-stays : (t : ℕ) → IsNameByte (number / unit) → IsLeast (IsTail (after - 1)) (number % unit) t → IsLeast (IsTail after) number (number / unit * unit + t)
  least-stays t named least =
      let e : after ≡ suc (after - 1) = omega arith in
      rw (← e) at (rw (← (is ∙ ap (λ n. 256 ^ n) e)) at (stays (after - 1) number (number / unit) (number % unit) (split (after - 1) e) t named least))

  pub least-raised : (next : ℕ) → (IsNameByte (number / unit) → HasNoneFrom (IsTail (after - 1)) (number % unit)) → IsLeast IsNameByte (number / unit + 1) next → IsLeast (IsTail after) number (next * unit)
  least-raised next none least =
      let e : after ≡ suc (after - 1) = omega arith in
      rw (← e) at (rw (← (is ∙ ap (λ n. 256 ^ n) e)) at (raised (after - 1) number (number / unit) (number % unit) (split (after - 1) e) next none least))

  pub none-stuck : (IsNameByte (number / unit) → HasNoneFrom (IsTail (after - 1)) (number % unit)) → HasNoneFrom IsNameByte (number / unit + 1) → HasNoneFrom (IsTail after) number
  none-stuck none last =
      let e : after ≡ suc (after - 1) = omega arith in
      let P : ℕ → Type 0 = λ k. HasNoneFrom (IsTail k) number in
      subst P (sym e) (stuck (after - 1) number (number / unit) (number % unit) (split (after - 1) e) none last)

-- what can follow the first byte, where that stays
abbrev pub Stays : (after first rest : ℕ) → Option ℕ → Type 0
Stays after first rest o = MatchOption o (IsNameByte first → HasNoneFrom (IsTail (after - 1)) rest) (λ t. IsNameByte first × IsLeast (IsTail (after - 1)) rest t)

pub stays-behind : (after first rest : ℕ) (found kept : Option ℕ) → MatchOption found (HasNoneFrom (IsTail (after - 1)) rest) (IsLeast (IsTail (after - 1)) rest)
    → kept ≡ cond (is_interface_byte first) found None → Stays after first rest kept
stays-behind after first rest found kept h e = subst (Stays after first rest) (sym e) (go (is_interface_byte first) found refl h)
  where
    go : (named : Bool) (o : Option ℕ) → is_interface_byte first ≡ named → MatchOption o (HasNoneFrom (IsTail (after - 1)) rest) (IsLeast (IsTail (after - 1)) rest)
        → Stays after first rest (cond named o None)
    go true (Some n) t least = (t, least)
    go true None t none = λ _. none
    go false o f h = λ t. absurd (true≢false (sym t ∙ f))

-- 16 bytes have a number of 128 bits
power-fits : (after : ℕ) → after ≤ 15 → 256 ^ suc after ≤ 2 ^ 128
power-fits after few = pow-le-pow_right (let some : 0 < 256 = omega arith in some) (let most : suc after ≤ 16 = omega arith in most)

pub unit-fits : (after : ℕ) → after ≤ 15 → 256 ^ after < 2 ^ 128
unit-fits after few = let most = power-fits after few in let power = pow-suc 256 after in let some = power-some after in omega arith

pub least-fits : (after from n : ℕ) → after ≤ 15 → IsLeast (IsTail after) from n → n < 2 ^ 128
least-fits after from n few least = let most = power-fits after few in omega (arith, tail-fits after n least.is)

-- a tail's bytes, as a name
from-tail : (k n : ℕ) → IsTail k n → (name : List ℕ) × (length name ≤ k) × (list_all is_interface_byte name ≡ true) × (n ≡ bound 0 (suc k) name)
from-tail zero n e = ([], omega arith, refl, e ∙ sym (bound-low 1))
from-tail (suc k) n (inl e) = ([], omega arith, refl, e ∙ sym (bound-low (suc (suc k))))
from-tail (suc k) n (inr t) =
    let found = from-tail k t.1 t.3 in
    (t.0 ∷ found.0, omega (arith, found.1), and_from (is_interface_byte t.0) _ t.2 found.2, t.4 ∙ ap (λ r. t.0 * 256 ^ suc k + r) found.3)

to-tail : (k : ℕ) (name : List ℕ) → length name ≤ k → list_all is_interface_byte name ≡ true → IsTail k (bound 0 (suc k) name)
to-tail zero [] few all = bound-low 1
to-tail (suc k) [] few all = inl (bound-low (suc (suc k)))
to-tail zero (b ∷ name) few all = absurd (omega arith)
to-tail (suc k) (b ∷ name) few all =
    let parts = and_parts (is_interface_byte b) _ all in
    inr (b, bound 0 (suc k) name, parts.0, to-tail k name (omega arith) parts.1, refl)

name_from : (name : List ℕ) → length name ≤ 15 → list_all is_interface_byte name ≡ true → IsInterfaceName name
unfolding interface_of
name_from [] few all = inl refl
name_from (b ∷ name) few all =
    let one : 0 < suc (length name) = omega arith in
    let is = and_from _ _ (and_from _ _ (lt-ltb 0 (suc (length name)) one) (le-leb (suc (length name)) 15 few)) all in
    inr (ap (λ t. cond t (Some (b ∷ name)) None) is)

value_of-name : (name : List ℕ) → length name ≤ 15 → bound 0 16 name ≡ interface_value name
unfolding interface_value
value_of-name name few = bound-is 0 16 name (omega arith)

pub from-number : (n : ℕ) → IsInterfaceNumber n → IsTail 15 n
from-number n h = elim h.1 [
  | inl none ↦ subst (IsTail 15) (sym (h.2 ∙ ap interface_value none ∙ sym (value_of-name [] (omega arith)) ∙ bound-low 16)) (tail-zero 15)
  | inr reads ↦
      let is = interface_of-form h.0 reads in
      subst (IsTail 15) (sym (h.2 ∙ sym (value_of-name h.0 is.few))) (to-tail 15 h.0 is.few is.named)
]

pub to-number : (n : ℕ) → IsTail 15 n → IsInterfaceNumber n
to-number n t = let found = from-tail 15 n t in (found.0, name_from found.0 found.1 found.2, found.3 ∙ value_of-name found.0 found.1)

-- ---- The numbers that are chosen of a box.

-- ---- interfaces

-- the number of a missing interface
pub missing : IsInterfaceNumber 0
unfolding interface_value
missing = ([], inl refl, refl)

pub named : (text name : List ℕ) (number : ℕ) → interface_of text ≡ Some name → number ≡ interface_value name → IsInterfaceNumber number
unfolding interface_of
named text name number reads is = go (is_interface text) refl reads (λ e. ap (λ t. cond t (Some text) None) e)
  where
    go : (t : Bool) → is_interface text ≡ t → cond t (Some text) None ≡ Some name → (is_interface text ≡ true → interface_of text ≡ Some text) → IsInterfaceNumber number
    go true e h own = let same : text ≡ name = cc in (text, inr (own e), is ∙ ap interface_value (sym same))
    go false e h own = absurd (cc)

-- the least number of an interval that isn't below 1
module _ (span : Interval) (from : ℕ) (is : from ≡ max span.first 1) where
  pub none_within : HasNoneFrom IsInterfaceNumber from → FindsNone IsNamed (λ n. in_span n span)
  none_within none number h there =
      let low : span.first ≤ number = leb-true span.first number (and_parts (leb span.first number) (leb number span.last) there).0 in
      none number h.0 (omega (arith, is, h.1))

  pub none_over : (number : ℕ) → IsLeast IsInterfaceNumber from number → span.last < number → FindsNone IsNamed (λ n. in_span n span)
  none_over number least over other h there =
      let parts = and_parts (leb span.first other) (leb other span.last) there in
      let low : span.first ≤ other = leb-true span.first other parts.0 in
      let high : other ≤ span.last = leb-true other span.last parts.1 in
      let more : number ≤ other = least.least other h.0 (omega (arith, is, h.1)) in
      omega arith

-- ---- kinds

-- what holds at each place of the fields holds of each
pub each_field : (P : Field → Type 0) → ((k : ℕ) (d : Field) → k < FIELDS → P (get_or all_fields k d)) → (f : Field) → P f
each_field P h f = subst P (here_is f f) (h (index f) f (index-lt f))

-- a packet is of a kind
of_kind : (box : List SpanSet) (hook : Hook) (p : Packet) → CanBeWritten p → p.hook ≡ hook → IsIn box p → IsKindOf box (kind_of hook (point p field.Protocol) (point p field.Fragment))
of_kind box hook p can e inside = record {
  protocol_fits = can.at_hook.packet.within field.Protocol;
  fragment_fits = can.at_hook.packet.within field.Fragment;
  protocol = on_field box p.values field.Protocol inside.each;
  fragment = on_field box p.values field.Fragment inside.each;
  others = λ f un. (
      let own : carries_key p f ≡ false = ap (λ (h : Hook). carries_field (kind_of h (point p field.Protocol) (point p field.Fragment)) f) e ∙ un in
      ap (box_allows box f) (sym (can.at_hook.carried f own)) ∙ on_field box p.values f inside.each);
}

pub none_of_kinds : (box : List SpanSet) (hook : Hook) → ((protocol : ℕ) → HasNoKindWith hook box protocol) → HasNone hook box
none_of_kinds box hook none p can e inside = none (point p field.Protocol) (point p field.Fragment) (of_kind box hook p can e inside)

-- ---- numbers

-- the numbers of a set are within its top
pub member_fits : (most low : ℕ) (spans : List Interval) (number : ℕ) → AreSpansFrom most low spans → has spans number ≡ true → number ≤ most
member_fits most low [] number are there = absurd (true≢false (sym there))
member_fits most low (span ∷ spans) number are there =
    elim (or_cases (in_span number span) (has spans number) there) [
      | inl here ↦ (
          let high : number ≤ span.last = leb-true number span.last (and_parts (leb span.first number) (leb number span.last) here).1 in
          omega (arith, are.2))
      | inr later ↦ member_fits most (span.last + 2) spans number are.3 later
    ]

-- on a field of which nothing more is said
own_other : (kind : Kind) (f : Field) (number : ℕ) → (f ≡ field.Protocol → ⊥) → (f ≡ field.Fragment → ⊥) → (f ≡ field.InIface → ⊥) → (f ≡ field.OutIface → ⊥) → IsOwn kind f number
own_other kind field.Protocol number p g i o = absurd (p refl)
own_other kind field.Fragment number p g i o = absurd (g refl)
own_other kind field.InIface number p g i o = absurd (i refl)
own_other kind field.OutIface number p g i o = absurd (o refl)
own_other kind _ number p g i o = tt

-- what isn't carried is 0
own_zero : (kind : Kind) (f : Field) → carries_field kind f ≡ false → IsOwn kind f 0
own_zero kind field.Protocol un = absurd (true≢false un)
own_zero kind field.Fragment un = absurd (true≢false un)
own_zero kind field.InIface un = missing
own_zero kind field.OutIface un = missing
own_zero kind _ un = tt

pub zero_on : (box : List SpanSet) (kind : Kind) (f : Field) → IsKindOf box kind → carries_field kind f ≡ false → IsNumberOn box kind f 0
zero_on box kind f is un = record { within = omega arith; there = is.others f un; carried = λ _. refl; own = own_zero kind f un }

carried_on : (box : List SpanSet) (kind : Kind) (f : Field) (number : ℕ) → carries_field kind f ≡ true → number ≤ top f → box_allows box f number ≡ true → IsOwn kind f number → IsNumberOn box kind f number
carried_on box kind f number does within there own = record { within = within; there = there; carried = λ un. absurd (true≢false (sym does ∙ un)); own = own }

-- a number that is picked of the field's set, where nothing more is said of the field
module _ (box : List SpanSet) (kind : Kind) (f : Field) (set : SpanSet) (does : carries_field kind f ≡ true) (own : set.intervals ≡ set_on f box) (most : set.top ≡ top f)
    (p : f ≡ field.Protocol → ⊥) (g : f ≡ field.Fragment → ⊥) (i : f ≡ field.InIface → ⊥) (o : f ≡ field.OutIface → ⊥) where
  pub picked_on : (found : Option ℕ) → (IsNone found → set.intervals ≡ []) → IfSome found (λ n. n ≤ set.top) → IfSome found (λ n. has set.intervals n ≡ true)
      → MatchOption found (HasNone kind.hook box) (IsNumberOn box kind f)
  picked_on None none within there = λ p can e inside. true≢false (sym (on_field box p.values f inside.each) ∙ ap (λ (ss : List Interval). has ss (point p f)) (sym own ∙ none refl))
  picked_on (Some n) none within there =
      carried_on box kind f n does (omega (arith, within, most)) (ap (λ (ss : List Interval). has ss n) (sym own) ∙ there) (own_other kind f n p g i o)

pub next_number : (box : List SpanSet) (kind : Kind) (numbers : List ℕ) (k number : ℕ) → length numbers ≡ FIELDS → k < FIELDS
    → ((place : ℕ) (f : Field) → place < k → IsNumberOn box kind (get_or all_fields place f) (get_or numbers place 0)) → IsNumberOn box kind (get_or all_fields k field.Source) number
    → (place : ℕ) (f : Field) → place < k + 1 → IsNumberOn box kind (get_or all_fields place f) (get_or (set numbers k number) place 0)
next_number box kind numbers k number long lt below here place f less =
    let P : ℕ → ℕ → Type 0 = λ j n. (g : Field) → IsNumberOn box kind (get_or all_fields j g) n in
    let there : P k number = λ g. (let Q : Field → Type 0 = λ h. IsNumberOn box kind h number in subst Q (get_or_default all_fields k field.Source g lt) here) in
    let before : (j d : ℕ) → j < k → P j (get_or numbers j d) = λ j d first g.
    (let Q : ℕ → Type 0 = λ n. IsNumberOn box kind (get_or all_fields j g) n in
    subst Q (get_or_default numbers j 0 d (omega (arith, first, lt, long))) (below j g first)) in
    set_next P numbers k number (omega (arith, lt, long)) before there place 0 less f

pub chosen : (box : List SpanSet) (kind : Kind) (numbers : List ℕ) → length numbers ≡ FIELDS
    → ((place : ℕ) (f : Field) → place < FIELDS → IsNumberOn box kind (get_or all_fields place f) (get_or numbers place 0)) → IsChosen kind.hook box numbers
chosen box kind numbers long at =
    let on : (f : Field) → IsNumberOn box kind f (number_on numbers f) = λ f.
    (let P : Field → Type 0 = λ g. IsNumberOn box kind g (number_on numbers f) in subst P (here_is f f) (at (index f) f (index-lt f))) in
    let p : Packet = packet_with kind.hook numbers in
    let protocol : point p field.Protocol ≡ kind.protocol = (on field.Protocol).own in
    let fragment : point p field.Fragment ≡ kind.fragment = (on field.Fragment).own in
    record {
      written = record {
        at_hook = record {
          packet = record { whole = long; within = λ f. (on f).within };
          carried = λ f un. (on f).carried (ap (λ n. carries_field (kind_of kind.hook n kind.fragment) f) (sym protocol) ∙ ap (λ n. carries_field (kind_of kind.hook (point p field.Protocol) n) f) (sym fragment) ∙ un);
        };
        came = (on field.InIface).own;
        goes = (on field.OutIface).own;
      };
      inside = from_fields box numbers (λ f. (on f).there);
    }

-- ---- A packet that words write can be written, of its numbers: it can be at its hook, and its interfaces have names.

-- a packet's numbers are what words give the fields
abbrev HasWords : Packet → Type 0
HasWords p = (words : List (List ℕ)) × (p.values ≡ map (value_on words) all_fields)

by_checks : (hook : Hook) (words : List (List ℕ)) (p : Packet) (stray lack : Bool)
    → ◌≡◌ {A = Result Packet PacketFault} (cond stray (Err NotCarried) (cond lack (Err KeyMissing) (Ok (record { hook = hook; values = map (value_on words) all_fields })))) (Ok p) → HasWords p
by_checks hook words p true lack e = absurd (cc)
by_checks hook words p false true e = absurd (cc)
by_checks hook words p false false e =
    let q : Packet = record { hook = hook; values = map (value_on words) all_fields } in
    let is : q ≡ p = cc in
    (words, ap (λ (r : Packet). r.values) (sym is))

by_fault : (hook : Hook) (words : List (List ℕ)) (p : Packet) (o : Option PacketFault) → checked hook words o ≡ Ok p → HasWords p
by_fault hook words p (Some fault) e = absurd (cc)
by_fault hook words p None e = by_checks hook words p (strays_key (shape_of hook words) words) (lacks_key (shape_of hook words) words) e

by_hook : (o : Option Hook) (words : List (List ℕ)) (p : Packet) → packet_at o words ≡ Ok p → HasWords p
by_hook None words p e = absurd (cc)
by_hook (Some hook) words p e = by_fault hook words p (leftmost_fault [] words) e

has_words : (p : Packet) → IsWritten p → HasWords p
has_words p w = by_words w.0 w.1
  where
    by_words : (words : List (List ℕ)) → packet_of words ≡ Ok p → HasWords p
    by_words [] e = absurd (cc)
    by_words (word ∷ words) e = by_hook (hook_of word) words p e

-- what words give an interface's field, where 0 is what it is without
by_text : (o : Option (List ℕ)) → IsInterfaceNumber (unwrap_or (o >>= λ text. interface_of text >>= λ name. Some (interface_value name)) 0)
by_text None = missing
by_text (Some text) = by_name (interface_of text) refl
  where
    by_name : (o : Option (List ℕ)) → interface_of text ≡ o → IsInterfaceNumber (unwrap_or (o >>= λ name. Some (interface_value name)) 0)
    by_name None e = missing
    by_name (Some name) e = named text name (interface_value name) e refl

pub written_can : (p : Packet) → IsWritten p → CanBeWritten p
written_can p w =
    let has = has_words p w in
    let at : (f : Field) → point p f ≡ value_on has.0 f = λ f. ap (λ (ns : List ℕ). point (record { hook = p.hook; values = ns }) f) has.1 ∙ at_index (value_on has.0) f in
    record {
      at_hook = written_at_hooks w.0 p w.1;
      came = subst IsInterfaceNumber (sym (at field.InIface)) (by_text (text_of field.InIface has.0));
      goes = subst IsInterfaceNumber (sym (at field.OutIface)) (by_text (text_of field.OutIface has.0));
    }
