-- A bit written in rows side by side: in their slots, and in rows that one more turns.
use Rattle.std.proofs.Common.{◌≡◌, ◌≢◌, inl, inr, ◌⊎◌, ℕ, zero, suc, ◌+◌, ◌-◌, ◌*◌, ◌<◌, ◌≤◌, Bool, false, List, [], ◌∷◌, length, take, drop, get_or, sym, ◌∙◌, ap, arith, subst, map, refl, All}
use Rattle.std.proofs.Math.ListN.{set}
use Rattle.std.proofs.Math.Seq.{take-set-lt}
use Rattle.std.proofs.lemmas.Bool.{cases_lt, cases_eq}
use Rattle.std.proofs.lemmas.List.{get_or-drop, get_or-map, get_or-take, get_or_past, length-drop, length-map, length-take, drop-set-lt, length-set, get_or_default, get_or-set_same, get_or-set_other, same_lists}
use Rattle.std.proofs.lemmas.List.Elements.{All-same}
use Rattle.std.proofs.Math.Bool.{xor}
use Rattle.std.specs.List.{AllByRecursion}
use Rattle.bits.specs.Rows.{RowsAndRoom, IsRunWritten}
use Rattle.bits.specs.steps.Packing.{all_bits}
use Rattle.bits.specs.steps.Held.{words_in, bits_in, IsPadded, AreHeld, AreWritten, Writes}
use Rattle.bits.specs.TurnedRows.{turned, turned_rows, AreAsLong}
use Rattle.bits.proofs.laws.SlotLaws.{apart_at, below_at}
use Rattle.bits.proofs.laws.TurnedRowsLaws.{set-turned, IsSeen, turn_of, kept_size, row_seen}

-- ---- Slots side by side in the list of all: a bit written in their rows, and a bit read there.

-- ---- slots side by side

-- the slots that stand in a list of all from a place on
pub record IsRun (all : List ℕ) (from : ℕ) (slots : List ℕ) : Type 0 where
  pub within : from + length slots ≤ length all
  pub each : (k : ℕ) → k < length slots → get_or slots k 0 ≡ get_or all (from + k) 0

-- the first of those that are lent from a place on
pub run_from : (all : List ℕ) (from n : ℕ) (run slots : List ℕ) → from ≤ length all → run ≡ take (length run) (drop from all) → slots ≡ take n run → IsRun all from slots
run_from all from n run slots le is front =
    let size : length slots ≤ length run = omega (arith, ap (λ (xs : List ℕ). length xs) front, length-take n run) in
    let few : length slots ≤ n = omega (arith, ap (λ (xs : List ℕ). length xs) front, length-take n run) in
    record {
      within = omega (arith, le, size, ap (λ (xs : List ℕ). length xs) is, length-take (length run) (drop from all), length-drop from all);
      each = λ k lt. ap (λ (xs : List ℕ). get_or xs k 0) front ∙ get_or-take n run k 0 (omega (arith, lt, few)) ∙ ap (λ (xs : List ℕ). get_or xs k 0) is
          ∙ get_or-take (length run) (drop from all) k 0 (omega (arith, lt, size)) ∙ get_or-drop from all k 0;
    }

-- one of them alone
pub run_of_one : (all : List ℕ) (k s : ℕ) → k < length all → s ≡ get_or all k 0 → IsRun all k (s ∷ [])
run_of_one all k s lt is = record { within = omega (arith, lt); each = at_first }
  where
    at_first : (i : ℕ) → i < 1 → get_or (s ∷ []) i 0 ≡ get_or all (k + i) 0
    at_first zero lt' = let e : k + 0 ≡ k = omega arith in is ∙ ap (λ j. get_or all j 0) (sym e)
    at_first (suc i) lt' = absurd (omega arith)

-- those that are lent up to a place
pub run_up_to : (all : List ℕ) (end : ℕ) (slots : List ℕ) → end ≤ length all → length slots ≤ end → slots ≡ drop (end - length slots) (take end all) → IsRun all (end - length slots) slots
run_up_to all end slots le few is = record {
  within = omega (arith, le, few);
  each = λ k lt. ap (λ (xs : List ℕ). get_or xs k 0) is ∙ get_or-drop (end - length slots) (take end all) k 0 ∙ get_or-take end all (end - length slots + k) 0 (omega (arith, lt, few));
}

pub run_below : (len w : ℕ) (all ws : List ℕ) (from : ℕ) (slots : List ℕ) (k : ℕ) → AreHeld len w all ws → IsRun all from slots → k < length slots → get_or slots k 0 < length all
run_below len w all ws from slots k h r lt = omega (arith, r.each k lt, below_at (length all) all (from + k) 0 h.below (omega (arith, r.within, lt)))

pub run_apart : (len w : ℕ) (all ws : List ℕ) (from : ℕ) (slots : List ℕ) (j k : ℕ) → AreHeld len w all ws → IsRun all from slots → j < k → k < length slots → get_or slots j 0 ≢ get_or slots k 0
run_apart len w all ws from slots j k h r less lt =
    λ same. apart_at all (from + j) (from + k) 0 h.apart (omega (arith, less)) (omega (arith, r.within, lt)) (sym (r.each j (omega (arith, less, lt))) ∙ same ∙ r.each k lt)

-- a row that isn't in one of them
run_beside : (len w : ℕ) (all ws : List ℕ) (from : ℕ) (slots : List ℕ) (i : ℕ) → AreHeld len w all ws → IsRun all from slots → i < length all → (i < from) ⊎ (from + length slots ≤ i) → (k : ℕ) → k < length slots
    → get_or slots k 0 ≢ get_or all i 0
run_beside len w all ws from slots i h r lt beside k in' =
    elim beside [
      | inl less ↦ (λ same. apart_at all i (from + k) 0 h.apart (omega (arith, less)) (omega (arith, r.within, in')) (sym (sym (r.each k in') ∙ same)))
      | inr past ↦ (λ same. apart_at all (from + k) i 0 h.apart (omega (arith, past, in')) lt (sym (r.each k in') ∙ same))
    ]

-- whether a slot is one of the first so many
among : (slots : List ℕ) (n t : ℕ) → ((k : ℕ) × (k < n) × (get_or slots k 0 ≡ t)) ⊎ ((k : ℕ) → k < n → get_or slots k 0 ≢ t)
among slots zero t = inr (λ k lt. absurd (omega arith))
among slots (suc n) t =
    elim (cases_eq (get_or slots n 0) t) [
      | inl e ↦ inl (n, omega arith, e)
      | inr ne ↦ elim (among slots n t) [
        | inl found ↦ inl (found.0, omega (arith, found.1), found.2)
        | inr none ↦ inr (λ k lt. elim (cases_eq k n) [
          | inl e ↦ (λ same. ne (ap (λ i. get_or slots i 0) (sym e) ∙ same))
          | inr other ↦ none k (omega (arith, lt, other))
        ])
      ]
    ]

-- ---- a bit written in their rows

pub run_held : (len w at : ℕ) (b : Bool) (all slots ws us : List ℕ) → AreHeld len w all ws → at < len → AreWritten at b w (length all) (length slots) slots ws us → AreHeld len w all us
run_held len w at b all slots ws us h in' written = record {
  covers = h.covers;
  few = h.few;
  counted = h.counted;
  wide = written.as_long ∙ h.wide;
  below = h.below;
  apart = h.apart;
  padded = λ t lt. elim (among slots (length slots) t) [
    | inl found ↦ (
        let here : Writes at b (words_in w ws t) (words_in w us t) = let P : ℕ → Type 0 = λ s. Writes at b (words_in w ws s) (words_in w us s) in subst P found.2 (written.written found.0 found.1) in
        All-same (λ (b : Bool). b ≡ false) (drop len (all_bits (words_in w us t))) (drop len (all_bits (words_in w ws t)))
        (ap (λ (bs : List Bool). drop len bs) here ∙ drop-set-lt len (all_bits (words_in w ws t)) at b in') (h.padded t lt))
    | inr none ↦ (let P : List ℕ → Type 0 = λ row. IsPadded row len in subst P (sym (written.others t lt none)) (h.padded t lt))
  ];
}

pub run_written : (len w at : ℕ) (b : Bool) (all ws us : List ℕ) (from : ℕ) (slots : List ℕ) → AreHeld len w all ws → at < len → IsRun all from slots → AreWritten at b w (length all) (length slots) slots ws us
    → IsRunWritten at b from (from + length slots) (map (bits_in len w ws) all) (map (bits_in len w us) all)
run_written len w at b all ws us from slots h in' r written =
    let f : ℕ → List Bool = bits_in len w ws in
    let g : ℕ → List Bool = bits_in len w us in
    let n : length (map g all) ≡ length all = length-map all g in
    let m : length (map f all) ≡ length all = length-map all f in
    let beside : (k : ℕ) → (k < from) ⊎ (from + length slots ≤ k) → get_or (map g all) k [] ≡ get_or (map f all) k [] = λ k out. elim (cases_lt k (length all)) [
      | inl lt ↦ (get_or-map g all k 0 [] lt
          ∙ ap (λ (row : List ℕ). take len (all_bits row)) (written.others (get_or all k 0) (below_at (length all) all k 0 h.below lt) (run_beside len w all ws from slots k h r lt out))
          ∙ sym (get_or-map f all k 0 [] lt))
      | inr past ↦ get_or_past (map g all) k [] (omega (arith, n, past)) ∙ sym (get_or_past (map f all) k [] (omega (arith, m, past)))
    ] in
    record {
      as_long = n ∙ sym m;
      written = λ k ge lt. (
          let i : from + (k - from) ≡ k = omega (arith, ge) in
          let s : get_or slots (k - from) 0 ≡ get_or all k 0 = r.each (k - from) (omega (arith, ge, lt)) ∙ ap (λ j. get_or all j 0) i in
          let there : k < length all = omega (arith, r.within, lt) in
          let P : ℕ → Type 0 = λ t. g t ≡ set (f t) at b in
          get_or-map g all k 0 [] there
          ∙ subst P s (ap (λ (bs : List Bool). take len bs) (written.written (k - from) (omega (arith, ge, lt))) ∙ take-set-lt len (all_bits (words_in w ws (get_or slots (k - from) 0))) at b in')
          ∙ ap (λ (row : List Bool). set row at b) (sym (get_or-map f all k 0 [] there)));
      before = λ k less. beside k (inl less);
      after = λ k past. beside k (inr past);
    }

-- ---- a bit read in a row

pub bit_shown : (len w at : ℕ) (all ws : List ℕ) (shown : RowsAndRoom) (k : ℕ) → record { rows = map (bits_in len w ws) all; room = 64 * w - len } ≡ shown → k < length all → at < len
    → get_or (get_or shown.rows k []) at false ≡ get_or (all_bits (words_in w ws (get_or all k 0))) at false
bit_shown len w at all ws shown k is lt in' =
    ap (λ (r : RowsAndRoom). get_or (get_or r.rows k []) at false) (sym is)
    ∙ ap (λ (row : List Bool). get_or row at false) (get_or-map (bits_in len w ws) all k 0 [] lt)
    ∙ get_or-take len (all_bits (words_in w ws (get_or all k 0))) at false in'

-- a row in one of the slots side by side
pub bit_lent : (len w at : ℕ) (all ws : List ℕ) (shown : RowsAndRoom) (from : ℕ) (slots : List ℕ) (k i : ℕ) → record { rows = map (bits_in len w ws) all; room = 64 * w - len } ≡ shown → at < len → IsRun all from slots → i < length slots
    → from + i ≡ k → get_or (get_or shown.rows k []) at false ≡ get_or (all_bits (words_in w ws (get_or slots i 0))) at false
bit_lent len w at all ws shown from slots k i is in' r lt e =
    bit_shown len w at all ws shown k is (omega (arith, r.within, lt, e)) in' ∙ ap (λ s. get_or (all_bits (words_in w ws s)) at false) (ap (λ j. get_or all j 0) (sym e) ∙ sym (r.each i lt))

-- ---- A bit written in rows side by side, and what that is to rows that one more turns.

abbrev Row : Type 0
Row = List Bool

-- ---- a loop that writes a bit in one run after another

pub writing_first : (at : ℕ) (bit : Bool) (from : ℕ) (rows : List Row) → IsRunWritten at bit from from rows rows
writing_first at bit from rows = record { as_long = refl; written = λ j ge lt. absurd (omega arith); before = λ j lt. refl; after = λ j ge. refl }

-- one run written after another
pub run_joined : (at : ℕ) (bit : Bool) (from k to : ℕ) (old now new : List Row) → IsRunWritten at bit from k old now → IsRunWritten at bit k to now new → from ≤ k → k ≤ to → IsRunWritten at bit from to old new
run_joined at bit from k to old now new one other begun ended = record {
  as_long = other.as_long ∙ one.as_long;
  written = λ j ge lt. elim (cases_lt j k) [
    | inl less ↦ other.before j less ∙ one.written j ge less
    | inr past ↦ other.written j past lt ∙ ap (λ (row : Row). set row at bit) (one.after j past)
  ];
  before = λ j less. other.before j (omega (arith, less, begun)) ∙ one.before j less;
  after = λ j past. other.after j past ∙ one.after j (omega (arith, past, ended));
}

-- a run of one row
pub one_written : (at : ℕ) (bit : Bool) (k : ℕ) (old new : List Row) → k < length old → IsRunWritten at bit k (k + 1) old new → new ≡ set old k (set (get_or old k []) at bit)
one_written at bit k old new lt h =
    let row : Row = set (get_or old k []) at bit in
    same_lists new (set old k row) (h.as_long ∙ sym (length-set old k row)) (λ i d in'.
    get_or_default new i d [] in'
    ∙ elim (cases_eq i k) [
      | inl e ↦ (ap (λ j. get_or new j []) e ∙ h.written k (omega arith) (omega arith) ∙ sym (get_or-set_same old k row d lt) ∙ sym (ap (λ j. get_or (set old k row) j d) e))
      | inr ne ↦ (
          let beside : get_or new i [] ≡ get_or old i [] = elim (cases_lt i k) [ inl less ↦ h.before i less | inr ge ↦ h.after i (omega (arith, ge, ne)) ] in
          beside ∙ sym (get_or_default old i d [] (omega (arith, in', h.as_long))) ∙ sym (get_or-set_other old k i row d ne))
    ])

-- each row is as long as before
long_run : (at : ℕ) (bit : Bool) (from to : ℕ) (old new : List Row) → IsRunWritten at bit from to old new → (j : ℕ) → length (get_or new j []) ≡ length (get_or old j [])
long_run at bit from to old new h j =
    elim (cases_lt j from) [
      | inl less ↦ ap length (h.before j less)
      | inr ge ↦ elim (cases_lt j to) [ inl lt ↦ ap length (h.written j ge lt) ∙ length-set (get_or old j []) at bit | inr past ↦ ap length (h.after j past) ]
    ]

pub run_reaches : (at : ℕ) (bit : Bool) (from to place : ℕ) (old new : List Row) → IsRunWritten at bit from to old new → All (λ (row : Row). place < length row) old → All (λ (row : Row). place < length row) new
run_reaches at bit from to place old new h long k d lt =
    omega (arith, ap length (get_or_default new k d [] lt), long_run at bit from to old new h k, long k [] (omega (arith, lt, h.as_long)))

-- ---- rows that one more turns

all_alike : (n : ℕ) (old new : List Row) → length new ≡ length old → ((j : ℕ) → length (get_or new j []) ≡ length (get_or old j [])) → AllByRecursion (λ (row : Row). length row ≡ n) old → AllByRecursion (λ (row : Row). length row ≡ n) new
all_alike n old [] e each h = tt
all_alike n [] (r ∷ rs) e each h = absurd (omega arith)
all_alike n (o ∷ os) (r ∷ rs) e each h = (each 0 ∙ h.0, all_alike n os rs (omega arith) (λ j. each (suc j)) h.1)

alike_run : (old new : List Row) → length new ≡ length old → ((j : ℕ) → length (get_or new j []) ≡ length (get_or old j [])) → AreAsLong old → AreAsLong new
alike_run [] new e each h = absurd h
alike_run (o ∷ os) [] e each h = absurd (omega arith)
alike_run (o ∷ os) (r ∷ rs) e each h =
    let P : ℕ → Type 0 = λ n. AllByRecursion (λ (row : Row). length row ≡ n) rs in
    subst P (sym (each 0)) (all_alike (length o) os rs (omega arith) (λ j. each (suc j)) h)

-- past the last there is no row
none_past : (rows : List Row) (k : ℕ) → length rows ≤ k → get_or rows k [] ≡ []
none_past [] k le = refl
none_past (r ∷ rs) zero le = absurd (omega arith)
none_past (r ∷ rs) (suc k) le = none_past rs k (omega arith)

-- the own bits written turned, in rows after the first
pub run_alike : (at : ℕ) (bit : Bool) (from to : ℕ) (kept new : List Row) → AreAsLong kept → IsRunWritten at bit from to kept new → AreAsLong new
run_alike at bit from to kept new h w = alike_run kept new w.as_long (long_run at bit from to kept new w) h

pub run_seen : (at : ℕ) (bit : Bool) (from to : ℕ) (kept new shown : List Row) → IsSeen kept shown → from ≤ to → to ≤ length shown → IsRunWritten at (xor (get_or (turn_of kept) at false) bit) (from + 1) (to + 1) kept new
    → IsRunWritten at bit from to shown (turned_rows new)
run_seen at bit from to kept new shown s order within w =
    let own : Bool = xor (get_or (turn_of kept) at false) bit in
    let t : IsSeen new (turned_rows new) = record { alike = run_alike at own (from + 1) (to + 1) kept new s.alike w; seen = refl } in
    let size = kept_size kept shown s in
    let long = kept_size new (turned_rows new) t in
    let turn : turn_of new ≡ turn_of kept = w.before 0 (omega arith) in
    let now : (k : ℕ) → k < length shown → get_or (turned_rows new) k [] ≡ turned (turn_of kept) (get_or new (k + 1) []) =
    λ k lt. row_seen new (turned_rows new) k (k + 1) t refl (omega (arith, w.as_long)) ∙ ap (λ (r : Row). turned r (get_or new (k + 1) [])) turn in
    let was : (k : ℕ) → k < length shown → turned (turn_of kept) (get_or kept (k + 1) []) ≡ get_or shown k [] = λ k lt. sym (row_seen kept shown k (k + 1) s refl lt) in
    let same : (k : ℕ) → k < length shown → get_or new (k + 1) [] ≡ get_or kept (k + 1) [] → get_or (turned_rows new) k [] ≡ get_or shown k [] = λ k lt e. now k lt ∙ ap (λ (r : Row). turned (turn_of kept) r) e ∙ was k lt in
    record {
      as_long = omega (arith, size, long, w.as_long);
      written = λ k ge lt.
          now k (omega arith) ∙ ap (λ (r : Row). turned (turn_of kept) r) (w.written (k + 1) (omega arith) (omega arith)) ∙ set-turned (turn_of kept) (get_or kept (k + 1) []) at bit
          ∙ ap (λ (r : Row). set r at bit) (was k (omega arith));
      before = λ k less. same k (omega arith) (w.before (k + 1) (omega arith));
      after = λ k past. elim (cases_lt k (length shown)) [
        | inl lt ↦ same k lt (w.after (k + 1) (omega arith))
        | inr ge ↦ none_past (turned_rows new) k (omega (arith, size, long, w.as_long)) ∙ sym (none_past shown k ge)
      ];
    }
