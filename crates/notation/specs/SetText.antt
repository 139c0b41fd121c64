-- The word of a set of numbers on a field.
use Rattle.std.specs.Prelude.{◌≡◌, ◌≢◌, ℕ, zero, suc, ◌+◌, ◌-◌, ◌<◌, ◌≤◌, ◌==◌, nat_lt, max, min, Bool, true, not, ◌&&◌, IsTrue, List, [], ◌∷◌, ◌++◌, Some, codes, flat_map, length, if◌then◌else◌}
use Rattle.std.specs.List.{list_all}
use Rattle.std.specs.Str.{bytes_eq}
use Rattle.fields.specs.declared.numbers.field.Field.{Field}
use Rattle.fields.specs.declared.numbers.field.Field.TheVariants.{Source, Destination, InIface, OutIface, Protocol, Fragment, SourcePort, DestinationPort, TcpFlags, IcmpType, ConnectionState, TimeToLive}
use Rattle.fields.specs.declared.numbers.spans.Interval.{Interval}
use Rattle.fields.specs.numbers.Field.{name}
use Rattle.fields.specs.numbers.Spans.{SpanSet, has, AreSpansFrom}
use Rattle.notation.specs.IntervalText.{plain_text, IsUsual}
use Rattle.notation.specs.Range.{range_in, state_ranges}

-- without a comma (44), and not `any`
abbrev pub is_plain : List ℕ → Bool
is_plain text = list_all (λ byte. not (byte == 44)) text && not (bytes_eq text (codes "any"))

-- the text reads back as exactly the numbers of the interval, and can stand in a list
pub record IsRangeText (field : Field) (text : List ℕ) (s : Interval) : Type 0 where
  pub reads_back : range_in field text ≡ Some (s.first, s.last)
  pub plain : IsTrue (is_plain text)

-- the text that is printed of an interval: the usual one that reads back; the plain one where no usual one does
pub record IsPartText (field : Field) (text : List ℕ) (s : Interval) : Type 0 where
  pub reads : IsRangeText field text s
  pub usual : (other : List ℕ) → IsUsual field s other → IsRangeText field other s → text ≡ other
  pub plain : ((other : List ℕ) → IsUsual field s other → ¬ (IsRangeText field other s)) → text ≡ plain_text field s

-- the texts of some intervals, with a comma (44) between two
pub data IsListText : Field → List Interval → List ℕ → Type 0 where
  empty : (field : Field) → IsListText field [] []
  first : (field : Field) (s : Interval) (text : List ℕ) → IsPartText field text s → IsListText field (s ∷ []) text
  further : (field : Field) (before : List Interval) (list : List ℕ) (s : Interval) (text : List ℕ) → before ≢ [] → IsListText field before list
      → IsPartText field text s → IsListText field (before ++ s ∷ []) (list ++ 44 ∷ text)

-- so many numbers from the first on, each as an interval of its own
abbrev pub one_by_one : ℕ → ℕ → List Interval
one_by_one number zero = []
one_by_one number (suc more) = record { first = number; last = number } ∷ one_by_one (suc number) more

-- the numbers that two intervals share
abbrev pub shared : Interval → ℕ × ℕ → Interval
shared s ends = record { first = max s.first ends.0; last = min s.last ends.1 }

-- of an interval what it has of a state: all numbers as one interval, or those that it has, one by one
abbrev pub state_parts : Interval → ℕ × ℕ → List Interval
state_parts s ends =
    let own = shared s ends in
    if nat_lt own.last own.first then [] else if (own.first == ends.0) && (own.last == ends.1) then own ∷ [] else one_by_one own.first (own.last + 1 - own.first)

-- the parts of an interval of which a list has a text each: of flags single numbers, of states single numbers or all of a state
abbrev pub span_parts : Field → Interval → List Interval
span_parts Source s = s ∷ []
span_parts Destination s = s ∷ []
span_parts InIface s = s ∷ []
span_parts OutIface s = s ∷ []
span_parts Protocol s = s ∷ []
span_parts Fragment s = s ∷ []
span_parts SourcePort s = s ∷ []
span_parts DestinationPort s = s ∷ []
span_parts TcpFlags s = one_by_one s.first (s.last + 1 - s.first)
span_parts IcmpType s = s ∷ []
span_parts ConnectionState s = flat_map (λ row. state_parts s row.1) state_ranges
span_parts TimeToLive s = s ∷ []

-- those of some intervals
abbrev pub parts : Field → List Interval → List Interval
parts f spans = flat_map (span_parts f) spans

-- the intervals of the numbers up to the top that a set lacks
pub record AreOthers (set : SpanSet) (others : List Interval) : Type 0 where
  pub canonical : AreSpansFrom set.top 0 others
  pub members : (x : ℕ) → x ≤ set.top → has others x ≡ not (has set.intervals x)

-- the word of a set: `key=any`; else of two lists the one with fewer texts, exactly its numbers behind `=` or exactly the others behind `!=`; of
-- two of one length that of its numbers
pub data IsWordText : Field → SpanSet → List ℕ → Type 0 where
  everything : (f : Field) (set : SpanSet) → ((x : ℕ) → x ≤ set.top → has set.intervals x ≡ true) → IsWordText f set (name f ++ codes "=any")
  listed : (f : Field) (set : SpanSet) (others : List Interval) (list : List ℕ) → AreOthers set others → others ≢ []
      → length (parts f set.intervals) ≤ length (parts f others) → IsListText f (parts f set.intervals) list
      → ((x : ℕ) → x ≤ set.top → has set.intervals x ≡ has (parts f set.intervals) x) → IsWordText f set (name f ++ (codes "=" ++ list))
  left_out : (f : Field) (set : SpanSet) (others : List Interval) (list : List ℕ) → AreOthers set others
      → length (parts f others) < length (parts f set.intervals) → IsListText f (parts f others) list
      → ((x : ℕ) → x ≤ set.top → has set.intervals x ≡ not (has (parts f others) x)) → IsWordText f set (name f ++ (codes "!=" ++ list))
