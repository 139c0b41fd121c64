-- Lists of numbers in blocks as they are kept: where a search of rising numbers ends, the block that has a place, and what a search of one
-- block says of all numbers.
use Rattle.std.proofs.Common.{◌≡◌, ℕ, zero, suc, ◌+◌, ◌*◌, ◌-◌, ◌<◌, ◌≤◌, ◌⊎◌, inl, inr, List, length, arith, subst, [], ◌∷◌, ◌++◌, take, drop, get_or, append_assoc, refl, sym, ◌∙◌, ap, length-append}
use Rattle.std.specs.Prelude.{slice_index}
use Rattle.std.proofs.lemmas.Bool.{cases_lt}
use Rattle.std.specs.List.Sorted.{IsNonDecreasingBy}
use Rattle.std.specs.List.{concat}
use Rattle.std.proofs.Math.Seq.{drop-append-add, take-append-add, take-append_seam}
use Rattle.std.proofs.lemmas.List.{get_or_append_left, get_or-append_right, get_or-map, get_or_read, get_or_default, length-map, length-take-le, drop_at}
use Rattle.std.proofs.lemmas.List.Elements.{All-get_or}
use Rattle.bits.specs.steps.Blocks.{AreAround, begins_from, head_of, AreBlocks}
use Rattle.bits.proofs.laws.BlockLaws.{IsSome, before, before_all, before_more, before_up, begin_at, begins_rise, begins_size, concat_from, concat_to, number_at}

-- ---- Rising numbers, and where those end that are x or less.

-- all numbers are around
pub all_around : (x : ℕ) (numbers : List ℕ) → AreAround x 0 (0 + length numbers) numbers
all_around x numbers = record {
  order = omega arith;
  within = omega arith;
  below = λ k lt. absurd (omega arith);
  above = λ k ge lt. absurd (omega arith);
}

-- the bounds come nearer
pub nearer : (x : ℕ) (numbers : List ℕ) (low high from to : ℕ) → IsNonDecreasingBy (λ (s : ℕ). s) numbers → AreAround x low high numbers → from ≤ to → to ≤ high
    → (from ≡ low) ⊎ ((k : ℕ) × (from ≤ k + 1) × (k < high) × (slice_index numbers k ≤ x))
    → (to ≡ high) ⊎ ((k : ℕ) × (k ≤ to) × (x < slice_index numbers k))
    → AreAround x from to numbers
nearer x numbers low high from to sorted around order le reached before = record {
  order = order;
  within = omega (arith, around.within);
  below = λ k lt. elim reached [
    | inl same ↦ around.below k (omega arith)
    | inr p ↦ omega (arith, sorted k p.0 0 (omega (arith, p.1)) (omega (arith, p.2, around.within)), p.3)
  ];
  above = λ k ge lt. elim before [
    | inl same ↦ around.above k (omega arith) lt
    | inr p ↦ omega (arith, sorted p.0 k 0 (omega (arith, p.1)) lt, p.2)
  ];
}

-- so many quarters
pub times : (q p : ℕ) → p ≤ 3 → (q * p ≤ 3 * q) × (p ≡ 0 → q * p ≡ 0) × (p < 3 → q * p ≤ 2 * q) × (p ≡ 3 → q * p ≡ 3 * q)
times q zero le = (omega arith, λ e. omega arith, λ lt. omega arith, λ e. absurd (omega arith))
times q (suc zero) le = (omega arith, λ e. absurd (omega arith), λ lt. omega arith, λ e. absurd (omega arith))
times q (suc (suc zero)) le = (omega arith, λ e. absurd (omega arith), λ lt. omega arith, λ e. absurd (omega arith))
times q (suc (suc (suc zero))) le = (omega arith, λ e. absurd (omega arith), λ lt. absurd (omega arith), λ e. omega arith)
times q (suc (suc (suc (suc p)))) le = absurd (omega arith)

-- one step of four ways
pub four_ways : (x : ℕ) (numbers : List ℕ) (low width q p : ℕ) → IsNonDecreasingBy (λ (s : ℕ). s) numbers → AreAround x low (low + width) numbers → 3 < width → 4 * q ≤ width → p ≤ 3
    → (0 < p → slice_index numbers (low + q * p) ≤ x) → (p < 3 → x < slice_index numbers (low + q * p + q))
    → AreAround x (low + q * p) (low + q * p + (width - 3 * q)) numbers
four_ways x numbers low width q p sorted around some room few reached past =
    let m = times q p few in
    nearer x numbers low (low + width) (low + q * p) (low + q * p + (width - 3 * q)) sorted around (omega arith) (omega (arith, m.0))
    (elim (cases_lt 0 p) [
      | inl any ↦ inr (low + q * p, omega arith, omega (arith, m.0), reached any)
      | inr none ↦ inl (omega (arith, m.1 (omega arith)))
    ])
    (elim (cases_lt p 3) [
      | inl fewer ↦ inr (low + q * p + q, omega arith, past fewer)
      | inr all ↦ inl (omega (arith, m.3 (omega arith)))
    ])

-- a comparison as a number
pub record IsCompared (x : ℕ) (numbers : List ℕ) (place bit : ℕ) : Type 0 where
  pub few : bit ≤ 1
  pub yes : 0 < bit → slice_index numbers place ≤ x
  pub no : bit < 1 → x < slice_index numbers place

at : (numbers : List ℕ) (P : ℕ → Type 0) (j k : ℕ) → j ≡ k → P (slice_index numbers j) → P (slice_index numbers k)
at numbers P j k e h = subst (λ i. P (slice_index numbers i)) e h

-- one comparison more
pub one_more : (x : ℕ) (numbers : List ℕ) (count place bit : ℕ) → IsNonDecreasingBy (λ (s : ℕ). s) numbers → place < length numbers → count ≤ place
    → ((k : ℕ) → k < count → slice_index numbers k ≤ x) → ((k : ℕ) → count ≤ k → k < place → x < slice_index numbers k) → IsCompared x numbers place bit
    → (count + bit ≤ place + 1) × ((k : ℕ) → k < count + bit → slice_index numbers k ≤ x) × ((k : ℕ) → count + bit ≤ k → k < place + 1 → x < slice_index numbers k)
one_more x numbers count place bit sorted within order below above here =
    elim (cases_lt bit 1) [
      | inl out ↦ (
        omega arith,
        λ k lt. below k (omega arith),
        λ k ge lt. elim (cases_lt k place) [
          | inl before ↦ above k (omega arith) before
          | inr after ↦ at numbers (λ v. x < v) place k (omega arith) (here.no out)
        ],
      )
      | inr in' ↦ elim (cases_lt count place) [
        | inl before ↦ absurd (omega (arith, above count (omega arith) before, sorted count place 0 order within, here.yes (omega arith)))
        | inr last ↦ (
          omega (arith, here.few),
          λ k lt. elim (cases_lt k count) [
            | inl earlier ↦ below k earlier
            | inr same ↦ at numbers (λ v. v ≤ x) place k (omega (arith, here.few)) (here.yes (omega arith))
          ],
          λ k ge lt. absurd (omega arith),
        )
      ]
    ]

-- ---- Lists of numbers in blocks as they are kept: the block that has a place, and what a search of one block says of all numbers.

-- numbers, each of which is as great as the one before it or greater
abbrev pub Rise : List ℕ → Type 0
Rise ns = IsNonDecreasingBy (λ (s : ℕ). s) ns

before_up_to : (bs : List (List ℕ)) (j : ℕ) → before bs j ≤ length (concat bs)
before_up_to bs j = elim (cases_lt j (length bs)) [
  | inl lt ↦ omega (arith, before_up bs j (length bs) (omega (arith, lt)), before_all bs (length bs) (omega arith))
  | inr ge ↦ omega (arith, before_all bs j ge)
]

-- where the first block ends a later one begins
some_later : (first : List ℕ) (later : List (List ℕ)) (k : ℕ) → length first ≤ k → k < length (first ++ concat later) → 0 < length later
some_later first [] k ge lt = absurd (omega (arith, length-append first [], ge, lt))
some_later first (b ∷ bs) k ge lt = omega arith

-- place k, counted from the list's start, lies in block j; the blocks begin at `from`
pub record IsHeld (from : ℕ) (bs : List (List ℕ)) (k j : ℕ) : Type 0 where
  pub there : j < length bs
  pub begun : from + before bs j ≤ k
  pub ended : k < from + before bs j + length (get_or bs j [])

pub begins_are : (first heads begins : List ℕ) (later : List (List ℕ)) (ns : List ℕ) → AreBlocks first heads begins later → ns ≡ begins → Rise ns
begins_are first heads begins later ns h e = subst Rise (sym (e ∙ h.begun)) (begins_rise (length first) later)

-- where a block begins, as it is read
pub begin_is : (first heads begins : List ℕ) (later : List (List ℕ)) (j p : ℕ) → AreBlocks first heads begins later → j < length later → p ≡ get_or begins j p → p ≡ length first + before later j
begin_is first heads begins later j p h lt e =
    let n : length begins ≡ length later = ap (λ (ns : List ℕ). length ns) h.begun ∙ begins_size (length first) later in
    get_or_read begins j p (omega (arith, n)) e 0 ∙ ap (λ (ns : List ℕ). get_or ns j 0) h.begun ∙ begin_at (length first) later j 0 lt

pub held : (first heads begins : List ℕ) (later : List (List ℕ)) (ns : List ℕ) (k j : ℕ) → AreBlocks first heads begins later → ns ≡ begins → k < length (first ++ concat later)
    → j < length ns → slice_index ns j ≤ k → (j + 1 < length ns → k < slice_index ns (j + 1)) → IsHeld (length first) later k j
held first heads begins later ns k j h e within there from to =
    let is : ns ≡ begins_from (length first) later = e ∙ h.begun in
    let n : length ns ≡ length later = ap (λ (xs : List ℕ). length xs) is ∙ begins_size (length first) later in
    let lt : j < length later = omega (arith, n, there) in
    let here : slice_index ns j ≡ length first + before later j = ap (λ (xs : List ℕ). get_or xs j 0) is ∙ begin_at (length first) later j 0 lt in
    let more = before_more later j lt in
    record {
      there = lt;
      begun = omega (arith, here, from);
      ended = elim (cases_lt (j + 1) (length later)) [
        | inl next ↦ omega (arith, more, to (omega (arith, n, next)), ap (λ (xs : List ℕ). get_or xs (j + 1) 0) is, begin_at (length first) later (j + 1) 0 next)
        | inr last ↦ omega (arith, more, before_all later (j + 1) last, length-append first (concat later), within)
      ];
    }

pub whole_at : (first : List ℕ) (later : List (List ℕ)) (j at d : ℕ) → j < length later → at < length (get_or later j [])
    → get_or (first ++ concat later) (length first + before later j + at) d ≡ get_or (get_or later j []) at d
whole_at first later j at d lt in' =
    let e : length first + before later j + at - length first ≡ before later j + at = omega arith in
    get_or-append_right first (concat later) (length first) (length first + before later j + at) d refl (omega arith) ∙ ap (λ i. get_or (concat later) i d) e ∙ number_at later j at d lt in'

-- a block and where it begins, as they are read, have the number at a place
pub held_read : (first heads begins : List ℕ) (later : List (List ℕ)) (k j : ℕ) (b : List ℕ) (p : ℕ) → AreBlocks first heads begins later → IsHeld (length first) later k j → b ≡ get_or later j b → p ≡ get_or begins j p
    → (p ≤ k) × (k - p < length b) × (slice_index (first ++ concat later) k ≡ slice_index b (k - p))
held_read first heads begins later k j b p h in' block begin =
    let p_is : p ≡ length first + before later j = begin_is first heads begins later j p h in'.there begin in
    let b_is : b ≡ get_or later j [] = get_or_read later j b in'.there block [] in
    let n : length b ≡ length (get_or later j []) = ap (λ (xs : List ℕ). length xs) b_is in
    let e : k ≡ length first + before later j + (k - p) = omega (arith, p_is, in'.begun) in (
      omega (arith, p_is, in'.begun),
      omega (arith, p_is, n, in'.begun, in'.ended),
      ap (λ i. get_or (first ++ concat later) i 0) e ∙ whole_at first later j (k - p) 0 in'.there (omega (arith, p_is, in'.begun, in'.ended)) ∙ ap (λ (xs : List ℕ). get_or xs (k - p) 0) (sym b_is),
    )

-- and those from it on up to the block's end, which are its last
pub run_shown : (first heads begins : List ℕ) (later : List (List ℕ)) (k j : ℕ) (b : List ℕ) (p : ℕ) (run : List ℕ) → AreBlocks first heads begins later → IsHeld (length first) later k j → b ≡ get_or later j b → p ≡ get_or begins j p
    → run ≡ drop (k - p) b → run ≡ take (length run) (drop k (first ++ concat later))
run_shown first heads begins later k j b p run h in' block begin is =
    let p_is : p ≡ length first + before later j = begin_is first heads begins later j p h in'.there begin in
    let b_is : b ≡ get_or later j [] = get_or_read later j b in'.there block [] in
    let rest : List ℕ = concat (drop (suc j) later) in
    let e : k ≡ length first + (before later j + (k - p)) = omega (arith, p_is, in'.begun) in
    let from : drop k (first ++ concat later) ≡ run ++ rest =
    ap (λ i. drop i (first ++ concat later)) e ∙ drop-append-add first (concat later) (before later j + (k - p)) ∙ concat_from later j (k - p) in'.there (omega (arith, p_is, in'.begun, in'.ended))
    ∙ ap (λ (xs : List ℕ). xs ++ rest) (ap (λ (xs : List ℕ). drop (k - p) xs) (sym b_is) ∙ sym is) in
    sym (ap (λ (xs : List ℕ). take (length run) xs) from ∙ take-append_seam run rest)

-- and those from the block's start up to it, which are its first
pub run_to_shown : (first heads begins : List ℕ) (later : List (List ℕ)) (k j : ℕ) (b : List ℕ) (p : ℕ) (run : List ℕ) → AreBlocks first heads begins later → IsHeld (length first) later k j → b ≡ get_or later j b → p ≡ get_or begins j p
    → run ≡ take (k - p + 1) b → (p + length run ≡ k + 1) × (run ≡ drop (k + 1 - length run) (take (k + 1) (first ++ concat later)))
run_to_shown first heads begins later k j b p run h in' block begin is =
    let p_is : p ≡ length first + before later j = begin_is first heads begins later j p h in'.there begin in
    let b_is : b ≡ get_or later j [] = get_or_read later j b in'.there block [] in
    let low : List ℕ = concat (take j later) in
    let le : k - p + 1 ≤ length (get_or later j []) = omega (arith, p_is, in'.begun, in'.ended) in
    let size : length run ≡ k - p + 1 = ap (λ (xs : List ℕ). length xs) (is ∙ ap (λ (xs : List ℕ). take (k - p + 1) xs) b_is) ∙ length-take-le (k - p + 1) (get_or later j []) le in
    let e : k + 1 ≡ length first + (before later j + (k - p + 1)) = omega (arith, p_is, in'.begun) in
    let upto : take (k + 1) (first ++ concat later) ≡ (first ++ low) ++ run =
    ap (λ i. take i (first ++ concat later)) e ∙ take-append-add first (concat later) (before later j + (k - p + 1))
    ∙ ap (λ (xs : List ℕ). first ++ xs) (concat_to later j (k - p + 1) in'.there le ∙ ap (λ (xs : List ℕ). low ++ xs) (ap (λ (xs : List ℕ). take (k - p + 1) xs) (sym b_is) ∙ sym is))
    ∙ sym (append_assoc first low run) in
    let n : length (first ++ low) ≡ k + 1 - length run = omega (arith, length-append first low, size, e) in (
      omega (arith, p_is, in'.begun, size),
      sym (ap (λ (xs : List ℕ). drop (k + 1 - length run) xs) upto ∙ drop_at (first ++ low) run (k + 1 - length run) n),
    )

-- the last block ends where the list does
pub last_ends : (first heads begins : List ℕ) (later : List (List ℕ)) (j : ℕ) (b : List ℕ) (p : ℕ) → AreBlocks first heads begins later → j + 1 ≡ length later → b ≡ get_or later j b → p ≡ get_or begins j p
    → p + length b ≡ length (first ++ concat later)
last_ends first heads begins later j b p h last block begin =
    let lt : j < length later = omega (arith, last) in
    omega (arith, begin_is first heads begins later j p h lt begin, ap (λ (xs : List ℕ). length xs) (get_or_read later j b lt block []), before_more later j lt, before_all later (j + 1) (omega (arith, last)), length-append first (concat later))

pub as_many : (first heads begins : List ℕ) (later : List (List ℕ)) → AreBlocks first heads begins later → (length heads ≡ length later) × (length begins ≡ length later)
as_many first heads begins later h =
    (ap (λ (ns : List ℕ). length ns) h.headed ∙ length-map later head_of, ap (λ (ns : List ℕ). length ns) h.begun ∙ begins_size (length first) later)

-- ---- a search

pub first_rises : (first : List ℕ) (later : List (List ℕ)) → Rise (first ++ concat later) → Rise first
first_rises first later h = λ i j d le lt.
    omega (arith, length-append first (concat later), get_or_append_left first (concat later) d i (omega arith), get_or_append_left first (concat later) d j lt, h i j d le (omega (arith, length-append first (concat later), lt)))

pub within_all : (first : List ℕ) (later : List (List ℕ)) (j : ℕ) → j < length later → length first + before later j + length (get_or later j []) ≤ length (first ++ concat later)
within_all first later j lt = omega (arith, before_more later j lt, before_up_to later (j + 1), length-append first (concat later))

pub block_rises : (first : List ℕ) (later : List (List ℕ)) (j : ℕ) → j < length later → Rise (first ++ concat later) → Rise (get_or later j [])
block_rises first later j lt h = λ a b d le in'.
    omega (arith, whole_at first later j a d lt (omega arith), whole_at first later j b d lt in', within_all first later j lt, h (length first + before later j + a) (length first + before later j + b) d (omega arith) (omega (arith, within_all first later j lt, in')))

head_at : (first heads begins : List ℕ) (later : List (List ℕ)) (j : ℕ) → AreBlocks first heads begins later → j < length later → slice_index heads j ≡ slice_index (first ++ concat later) (length first + before later j)
head_at first heads begins later j h lt =
    let some : 0 < length (get_or later j []) = All-get_or IsSome later j [] lt h.some in
    let e : length first + before later j + 0 ≡ length first + before later j = omega arith in
    ap (λ (ns : List ℕ). get_or ns j 0) h.headed ∙ get_or-map head_of later j [] 0 lt ∙ sym (whole_at first later j 0 0 lt some) ∙ ap (λ i. get_or (first ++ concat later) i 0) e

pub heads_rise : (first heads begins : List ℕ) (later : List (List ℕ)) (ns : List ℕ) → AreBlocks first heads begins later → ns ≡ heads → Rise (first ++ concat later) → Rise ns
heads_rise first heads begins later ns h e rise = λ i j d le lt.
    let n : length heads ≡ length later = (as_many first heads begins later h).0 in
    let m : length ns ≡ length heads = ap (λ (xs : List ℕ). length xs) e in
    let in' : j < length later = omega (arith, n, m, lt) in
    let one : get_or ns i d ≡ slice_index heads i = ap (λ (xs : List ℕ). get_or xs i d) e ∙ get_or_default heads i d 0 (omega (arith, n, le, in')) in
    let two : get_or ns j d ≡ slice_index heads j = ap (λ (xs : List ℕ). get_or xs j d) e ∙ get_or_default heads j d 0 (omega (arith, n, in')) in
    omega (
      arith,
      one,
      two,
      head_at first heads begins later i h (omega (arith, le, in')),
      head_at first heads begins later j h in',
      before_up later i j le,
      within_all first later j in',
      rise (length first + before later i) (length first + before later j) 0 (omega (arith, before_up later i j le)) (omega (arith, within_all first later j in', All-get_or IsSome later j [] in' h.some)),
    )

-- no later block begins with x or less
pub found_first : (first heads begins : List ℕ) (later : List (List ℕ)) (x n : ℕ) (ns : List ℕ) → AreBlocks first heads begins later → ns ≡ heads → Rise (first ++ concat later) → AreAround x 0 0 ns → AreAround x n n first
    → AreAround x n n (first ++ concat later)
found_first first heads begins later x n ns h e rise none around = record {
  order = omega arith;
  within = omega (arith, around.within, length-append first (concat later));
  below = λ k lt. omega (arith, get_or_append_left first (concat later) 0 k (omega (arith, lt, around.within)), around.below k lt);
  above = λ k ge lt. elim (cases_lt k (length first)) [
    | inl inside ↦ omega (arith, get_or_append_left first (concat later) 0 k inside, around.above k ge inside)
    | inr after ↦ (
        let some : 0 < length later = some_later first later k after lt in
        let m : length ns ≡ length later = ap (λ (xs : List ℕ). length xs) e ∙ (as_many first heads begins later h).0 in
        let head : x < slice_index ns 0 = none.above 0 (omega arith) (omega (arith, m, some)) in
        let is : slice_index ns 0 ≡ slice_index heads 0 = ap (λ (xs : List ℕ). get_or xs 0 0) e in
        omega (arith, head, is, head_at first heads begins later 0 h some, rise (length first + 0) k 0 (omega (arith, after)) lt))
  ];
}

-- one block more than j begins with x or less
pub found_later : (first heads begins : List ℕ) (later : List (List ℕ)) (x j n : ℕ) (ns b : List ℕ) (p : ℕ) → AreBlocks first heads begins later → ns ≡ heads → Rise (first ++ concat later)
    → AreAround x (j + 1) (j + 1) ns → b ≡ get_or later j b → p ≡ get_or begins j p → AreAround x n n b → AreAround x (p + n) (p + n) (first ++ concat later)
found_later first heads begins later x j n ns b p h e rise some block begin around =
    let m : length ns ≡ length later = ap (λ (xs : List ℕ). length xs) e ∙ (as_many first heads begins later h).0 in
    let lt : j < length later = omega (arith, m, some.within) in
    let p_is : p ≡ length first + before later j = begin_is first heads begins later j p h lt begin in
    let b_is : b ≡ get_or later j [] = get_or_read later j b lt block [] in
    let size : length b ≡ length (get_or later j []) = ap (λ (xs : List ℕ). length xs) b_is in
    let all = within_all first later j lt in
    let each : (at : ℕ) → at < length b → slice_index (first ++ concat later) (p + at) ≡ slice_index b at = λ at in'.
    let i : p + at ≡ length first + before later j + at = omega (arith, p_is) in
    ap (λ k. get_or (first ++ concat later) k 0) i ∙ whole_at first later j at 0 lt (omega (arith, size, in')) ∙ ap (λ (xs : List ℕ). get_or xs at 0) (sym b_is) in
    let here : slice_index ns j ≡ slice_index (first ++ concat later) p = ap (λ (xs : List ℕ). get_or xs j 0) e ∙ head_at first heads begins later j h lt ∙ ap (λ k. slice_index (first ++ concat later) k) (sym p_is) in
    record {
      order = omega arith;
      within = omega (arith, p_is, all, size, around.within);
      below = λ k in'. elim (cases_lt k p) [
        | inl earlier ↦ omega (arith, here, some.below j (omega arith), rise k p 0 (omega (arith, earlier)) (omega (arith, p_is, all, All-get_or IsSome later j [] lt h.some)))
        | inr inside ↦ (
            let i : p + (k - p) ≡ k = omega (arith, inside) in
            omega (arith, ap (λ q. slice_index (first ++ concat later) q) i, each (k - p) (omega (arith, inside, in', around.within)), around.below (k - p) (omega (arith, inside, in'))))
      ];
      above = λ k ge in'. elim (cases_lt (k - p) (length b)) [
        | inl inside ↦ (
            let i : p + (k - p) ≡ k = omega (arith, ge) in
            omega (arith, ap (λ q. slice_index (first ++ concat later) q) i, each (k - p) inside, around.above (k - p) (omega (arith, ge)) inside))
        | inr after ↦ elim (cases_lt (j + 1) (length later)) [
          | inl next ↦ (
              let more = before_more later j lt in
              let head : x < slice_index ns (j + 1) = some.above (j + 1) (omega arith) (omega (arith, m, next)) in
              let is : slice_index ns (j + 1) ≡ slice_index heads (j + 1) = ap (λ (xs : List ℕ). get_or xs (j + 1) 0) e in
              omega (arith, head, is, head_at first heads begins later (j + 1) h next, more, p_is, size, rise (length first + before later (j + 1)) k 0 (omega (arith, more, p_is, size, after, ge)) in'))
          | inr last ↦ absurd (omega (arith, before_more later j lt, before_all later (j + 1) last, length-append first (concat later), p_is, size, after, ge, in'))
        ]
      ];
    }
