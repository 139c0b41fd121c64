-- Rows of which four words are kept, where all others are blank: the row's words, and its bits where one comes in or goes.
use Rattle.std.proofs.Common.{◌≡◌, ◌⊎◌, inl, inr, ℕ, ◌+◌, ◌-◌, ◌<◌, ◌≤◌, List, ◌++◌, length, take, drop, get_or, sym, ◌∙◌, ap, arith, replicate, ◌≢◌, zero, suc, ◌*◌, ◌/◌, ◌%◌, ◌^◌, Bool, false, [], ◌∷◌, refl, subst, append_assoc, append-nil, min}
use Rattle.std.proofs.lemmas.List.{get_or-replicate, get_or-append_right, get_or-drop, get_or-take, get_or_append_left, length-append, length-drop, length-replicate, length-take-le, same_lists, replicate-append-replicate, replicate_more, take-replicate, drop-replicate, get_or_past, set-append_left, set-append_right, take-append-drop, take_at, get_or_default, set-get_or, ext_get_or}
use Rattle.std.specs.List.{insert, remove}
use Rattle.std.proofs.Math.ListN.{set}
use Rattle.std.proofs.lemmas.Bool.{cases_lt, cases_eq}
use Rattle.std.proofs.lemmas.List.Edits.{insert-append_left, insert-append_right, remove-append_left, remove-append_right, insert_end}
use Rattle.bits.specs.declared.row_words.RowWords.{RowWords}
use Rattle.bits.specs.steps.StoredRows.{words_of}
use Rattle.bits.specs.steps.Packing.{all_bits, word_bits, low_bit}
use Rattle.bits.specs.steps.Held.{TakesIn, GivesUp, Writes, TakesWordsIn, GivesWordsUp}
use Rattle.bits.specs.steps.Summaries.{IsMarked, IsSummaryOf, IsBlank}
use Rattle.bits.proofs.laws.BitLaws.{all_bit_at, all_bits-append, length-all_bits, word_first}
use Rattle.bits.proofs.laws.RowLaws.{set_whole}
use Rattle.bits.proofs.laws.ShiftLaws.{sums_all, blank_zero}
use Rattle.bits.proofs.laws.WordMoveLaws.{zero_word, blank_first}

-- ---- The words of a row as they are lent: how many there are, and which of them may have a bit.

pub length-words_of : (row : RowWords) → length (words_of row) ≡ row.count
length-words_of row =
    let blank : List ℕ = replicate row.count 0 in
    length-take-le row.count ((replicate row.start 0 ++ row.kept.now) ++ blank) (omega (arith, length-append (replicate row.start 0 ++ row.kept.now) blank, length-replicate {A = ℕ} row.count 0))

-- a word that is kept
pub kept_word : (row : RowWords) (place d : ℕ) → row.start ≤ place → place < row.count → place - row.start < length row.kept.now → get_or (words_of row) place d ≡ get_or row.kept.now (place - row.start) d
kept_word row place d le lt in' =
    let before : List ℕ = replicate row.start 0 in
    let blank : List ℕ = replicate row.count 0 in
    let n : length before ≡ row.start = length-replicate row.start 0 in
    get_or-take row.count ((before ++ row.kept.now) ++ blank) place d lt
    ∙ get_or_append_left (before ++ row.kept.now) blank d place (omega (arith, length-append before row.kept.now, n, in', le))
    ∙ get_or-append_right before row.kept.now row.start place d n le

-- four of them
pub four_kept : (row : RowWords) (place : ℕ) → row.start ≤ place → place - row.start + 4 ≤ length row.kept.now → place + 4 ≤ row.count
    → take 4 (take (length row.kept.now - (place - row.start)) (drop (place - row.start) row.kept.now)) ≡ take 4 (drop place (words_of row))
four_kept row place le in' room =
    let kept : List ℕ = row.kept.now in
    let p : ℕ = place - row.start in
    let rest : List ℕ = take (length kept - p) (drop p kept) in
    let all : List ℕ = words_of row in
    let a : length rest ≡ length kept - p = length-take-le (length kept - p) (drop p kept) (omega (arith, length-drop p kept)) in
    let one : length (take 4 rest) ≡ 4 = length-take-le 4 rest (omega (arith, a, in')) in
    let other : length (take 4 (drop place all)) ≡ 4 = length-take-le 4 (drop place all) (omega (arith, length-drop place all, length-words_of row, room)) in
    same_lists (take 4 rest) (take 4 (drop place all)) (one ∙ sym other) (λ k d lt.
    let k4 : k < 4 = omega (arith, lt, one) in
    let e : place + k - row.start ≡ p + k = omega (arith, le) in
    get_or-take 4 rest k d k4 ∙ get_or-take (length kept - p) (drop p kept) k d (omega (arith, k4, in')) ∙ get_or-drop p kept k d
    ∙ sym (get_or-take 4 (drop place all) k d k4 ∙ get_or-drop place all k d
    ∙ kept_word row (place + k) d (omega (arith, le)) (omega (arith, room, k4)) (omega (arith, e, in', k4)) ∙ ap (λ i. get_or kept i d) e))

-- a word that isn't kept
blank_word : (row : RowWords) (place d : ℕ) → place < row.count → (place < row.start) ⊎ (row.start + length row.kept.now ≤ place) → get_or (words_of row) place d ≡ 0
blank_word row place d lt (inl less) =
    let before : List ℕ = replicate row.start 0 in
    let blank : List ℕ = replicate row.count 0 in
    let n : length before ≡ row.start = length-replicate row.start 0 in
    get_or-take row.count ((before ++ row.kept.now) ++ blank) place d lt
    ∙ get_or_append_left (before ++ row.kept.now) blank d place (omega (arith, length-append before row.kept.now, n, less))
    ∙ get_or_append_left before row.kept.now d place (omega (arith, n, less)) ∙ get_or-replicate row.start place 0 d less
blank_word row place d lt (inr past) =
    let before : List ℕ = replicate row.start 0 in
    let blank : List ℕ = replicate row.count 0 in
    let n : length (before ++ row.kept.now) ≡ row.start + length row.kept.now = length-append before row.kept.now ∙ ap (λ m. m + length row.kept.now) (length-replicate row.start 0) in
    get_or-take row.count ((before ++ row.kept.now) ++ blank) place d lt
    ∙ get_or-append_right (before ++ row.kept.now) blank (row.start + length row.kept.now) place d n past
    ∙ get_or-replicate row.count (place - (row.start + length row.kept.now)) 0 d (omega (arith, lt))

-- four of them
pub four_blank : (row : RowWords) (place : ℕ) → place + 4 ≤ row.count → (place + 4 ≤ row.start) ⊎ (row.start + length row.kept.now ≤ place) → replicate 4 0 ≡ take 4 (drop place (words_of row))
four_blank row place room side =
    let all : List ℕ = words_of row in
    let other : length (take 4 (drop place all)) ≡ 4 = length-take-le 4 (drop place all) (omega (arith, length-drop place all, length-words_of row, room)) in
    same_lists (replicate 4 0) (take 4 (drop place all)) (length-replicate {A = ℕ} 4 0 ∙ sym other) (λ k d lt.
    let k4 : k < 4 = omega (arith, lt) in
    let out : (place + k < row.start) ⊎ (row.start + length row.kept.now ≤ place + k) = elim side [ inl less ↦ inl (omega (arith, less, k4)) | inr past ↦ inr (omega (arith, past)) ] in
    get_or-replicate 4 k 0 d k4 ∙ sym (get_or-take 4 (drop place all) k d k4 ∙ get_or-drop place all k d ∙ blank_word row (place + k) d (omega (arith, room, k4)) out))

-- ---- Rows of which four words are kept, where all others are blank: the row's words, and its bits where one comes in or goes.

-- four words, with blank ones before them and after them
abbrev pub padded : ℕ → List ℕ → ℕ → List ℕ
padded before ws after = replicate before 0 ++ ws ++ replicate after 0

abbrev zeros : ℕ → List ℕ
zeros n = replicate n 0

abbrev offs : ℕ → List Bool
offs n = replicate n false

-- ---- the bits of the row

pub zero_bits : (n : ℕ) → all_bits (replicate n 0) ≡ replicate (64 * n) false
zero_bits zero = refl
zero_bits (suc n) =
    let e : 64 + 64 * n ≡ 64 * suc n = omega arith in
    (λ i. zero_word 64 i ++ zero_bits n i) ∙ replicate-append-replicate 64 (64 * n) false ∙ ap (λ k. replicate k false) e

padded_bits : (s e : ℕ) (ws : List ℕ) → all_bits (padded s ws e) ≡ offs (64 * s) ++ all_bits ws ++ offs (64 * e)
padded_bits s e ws =
    all_bits-append (replicate s 0 ++ ws) (replicate e 0) ∙ ap (λ (bs : List Bool). bs ++ all_bits (replicate e 0)) (all_bits-append (replicate s 0) ws)
    ∙ (λ i. zero_bits s i ++ all_bits ws ++ zero_bits e i)

-- ---- a bit comes in

insert_off : (n at : ℕ) → at ≤ n → insert (offs n) at false ≡ offs (n + 1)
insert_off n at le =
    let e : at + suc (n - at) ≡ n + 1 = omega arith in
    (λ i. take-replicate at n false le i ++ false ∷ drop-replicate at n false i) ∙ replicate-append-replicate at (suc (n - at)) false ∙ ap (λ k. offs k) e

one_more : (n : ℕ) → offs n ++ false ∷ [] ≡ false ∷ offs n
one_more n = replicate_more n false ∙ (let e : n + 1 ≡ suc n = omega arith in ap (λ k. offs k) e)

insert_padded : (a e at p : ℕ) (bs : List Bool) → at ≤ a + length bs + e → p ≡ min (at - a) (length bs) → insert (offs a ++ bs ++ offs e) at false ≡ offs a ++ insert bs p false ++ offs e
insert_padded a e at p bs le is =
    let low : length (offs a) ≡ a = length-replicate a false in
    let n : length (offs a ++ bs) ≡ a + length bs = length-append (offs a) bs ∙ ap (λ k. k + length bs) low in
    let into : insert bs (min (at - a) (length bs)) false ≡ insert bs p false = ap (λ k. insert bs k false) (sym is) in
    elim (cases_lt (a + length bs) at) [
      | inl after ↦ (
          let q : min (at - a) (length bs) ≡ length bs = omega arith in
          insert-append_right (offs a ++ bs) (offs e) (a + length bs) at false n (omega arith)
          ∙ ap (λ (xs : List Bool). offs a ++ bs ++ xs) (insert_off e (at - (a + length bs)) (omega arith) ∙ (let f : e + 1 ≡ suc e = omega arith in ap (λ k. offs k) f))
          ∙ sym (append_assoc (offs a ++ bs) (false ∷ []) (offs e))
          ∙ ap (λ (xs : List Bool). xs ++ offs e) (append_assoc (offs a) bs (false ∷ []) ∙ ap (λ (xs : List Bool). offs a ++ xs) (sym (insert_end bs false) ∙ ap (λ k. insert bs k false) (sym q) ∙ into)))
      | inr within ↦
          insert-append_left (offs a ++ bs) (offs e) at false (omega arith)
          ∙ ap (λ (xs : List Bool). xs ++ offs e) (elim (cases_lt at a) [
            | inl before ↦ (
                let q : p ≡ 0 = omega arith in
                insert-append_left (offs a) bs at false (omega arith) ∙ ap (λ (xs : List Bool). xs ++ bs) (insert_off a at (omega arith) ∙ sym (replicate_more a false))
                ∙ append_assoc (offs a) (false ∷ []) bs ∙ ap (λ k. offs a ++ insert bs k false) (sym q))
            | inr in' ↦ (
                let q : at - a ≡ p = omega arith in
                insert-append_right (offs a) bs a at false low in' ∙ ap (λ k. offs a ++ insert bs k false) q)
          ])
    ]

pub taken_in_part : (s e at p : ℕ) (ws us : List ℕ) (top : Bool) → at < 64 * (s + length ws + e) → p ≡ min (at - 64 * s) (64 * length ws) → all_bits us ++ top ∷ [] ≡ insert (all_bits ws) p false → (top ≡ false) ⊎ (e ≡ 0)
    → TakesIn at (padded s ws e) (padded s us e)
taken_in_part s e at p ws us top lt is moved stays =
    let size : length (all_bits ws) ≡ 64 * length ws = length-all_bits ws in
    let into : insert (all_bits (padded s ws e)) at false ≡ offs (64 * s) ++ (all_bits us ++ top ∷ []) ++ offs (64 * e) =
    ap (λ (bs : List Bool). insert bs at false) (padded_bits s e ws) ∙ insert_padded (64 * s) (64 * e) at p (all_bits ws) (omega arith) (is ∙ ap (λ k. min (at - 64 * s) k) (sym size))
    ∙ ap (λ (bs : List Bool). offs (64 * s) ++ bs ++ offs (64 * e)) (sym moved) in
    let front : List Bool = offs (64 * s) ++ all_bits us in
    elim stays [
      | inl none ↦ (
        false,
        ap (λ (bs : List Bool). bs ++ false ∷ []) (padded_bits s e us) ∙ append_assoc front (offs (64 * e)) (false ∷ []) ∙ ap (λ (bs : List Bool). front ++ bs) (one_more (64 * e))
            ∙ sym (append_assoc front (false ∷ []) (offs (64 * e))) ∙ ap (λ (bs : List Bool). bs ++ offs (64 * e)) (append_assoc (offs (64 * s)) (all_bits us) (false ∷ []))
            ∙ ap (λ b. offs (64 * s) ++ (all_bits us ++ b ∷ []) ++ offs (64 * e)) (sym none) ∙ sym into,
      )
      | inr last ↦ (
        top,
        let z : offs (64 * e) ≡ [] = ap (λ k. offs (64 * k)) last in
            ap (λ (bs : List Bool). bs ++ top ∷ []) (padded_bits s e us ∙ ap (λ (bs : List Bool). front ++ bs) z ∙ append-nil front)
            ∙ append_assoc (offs (64 * s)) (all_bits us) (top ∷ []) ∙ sym (append-nil (offs (64 * s) ++ (all_bits us ++ top ∷ []))) ∙ ap (λ (bs : List Bool). offs (64 * s) ++ (all_bits us ++ top ∷ []) ++ bs) (sym z) ∙ sym into,
      )
    ]

-- ---- a bit goes

remove_off : (n at : ℕ) → at < n → remove (offs n) at ++ false ∷ [] ≡ offs n
remove_off n at lt =
    let e : at + (n - suc at) + 1 ≡ n = omega arith in
    ap (λ (bs : List Bool). bs ++ false ∷ []) ((λ i. take-replicate at n false (omega arith) i ++ drop-replicate (suc at) n false i) ∙ replicate-append-replicate at (n - suc at) false)
    ∙ replicate_more (at + (n - suc at)) false ∙ ap (λ k. offs k) e

-- a bit goes after the part
pub given_after_part : (s e at : ℕ) (ws : List ℕ) → at < 64 * (s + length ws + e) → 64 * (s + length ws) ≤ at → GivesUp at (padded s ws e) (padded s ws e)
given_after_part s e at ws lt ge =
    let front : List Bool = offs (64 * s) ++ all_bits ws in
    let n : length front ≡ 64 * (s + length ws) = omega (arith, length-append (offs (64 * s)) (all_bits ws), length-replicate (64 * s) false, length-all_bits ws) in
    let k : ℕ = at - 64 * (s + length ws) in
    padded_bits s e ws ∙ ap (λ (bs : List Bool). front ++ bs) (sym (remove_off (64 * e) k (omega arith))) ∙ sym (append_assoc front (remove (offs (64 * e)) k) (false ∷ []))
    ∙ ap (λ (bs : List Bool). bs ++ false ∷ []) (sym (remove-append_right front (offs (64 * e)) (64 * (s + length ws)) at n ge) ∙ ap (λ (bs : List Bool). remove bs at) (sym (padded_bits s e ws)))

-- a bit goes where the part is or before it, and the others within the part move down
remove_front : (a at p : ℕ) (bs : List Bool) → at < a + length bs → p ≡ at - a → (at < a → take 1 bs ≡ false ∷ []) → remove (offs a ++ bs) at ≡ offs a ++ remove bs p
remove_front a at p bs lt is none =
    let low : length (offs a) ≡ a = length-replicate a false in
    elim (cases_lt at a) [
      | inl before ↦ (
          let q : p ≡ 0 = omega arith in
          let e : bs ≡ false ∷ drop 1 bs = sym (take-append-drop 1 bs) ∙ ap (λ (xs : List Bool). xs ++ drop 1 bs) (none before) in
          remove-append_left (offs a) bs at (omega arith) ∙ ap (λ (xs : List Bool). remove (offs a) at ++ xs) e
          ∙ sym (append_assoc (remove (offs a) at) (false ∷ []) (drop 1 bs)) ∙ ap (λ (xs : List Bool). xs ++ drop 1 bs) (remove_off a at before) ∙ ap (λ k. offs a ++ remove bs k) (sym q))
      | inr in' ↦ remove-append_right (offs a) bs a at low in' ∙ ap (λ k. offs a ++ remove bs k) (sym is)
    ]

first_off : (ws : List ℕ) → 0 < length ws → low_bit (get_or ws 0 0) ≡ false → take 1 (all_bits ws) ≡ false ∷ []
first_off [] some off = absurd (omega arith)
first_off (w ∷ ws) some off =
    ap (λ (bs : List Bool). take 1 (bs ++ all_bits ws)) (word_first w) ∙ ap (λ b. b ∷ []) off

pub given_up_by_part : (s e at p : ℕ) (ws us : List ℕ) → 0 < length ws → at < 64 * (s + length ws) → p ≡ at - 64 * s → all_bits us ≡ remove (all_bits ws) p ++ false ∷ [] → (at < 64 * s → low_bit (get_or ws 0 0) ≡ false)
    → GivesUp at (padded s ws e) (padded s us e)
given_up_by_part s e at p ws us any lt is moved none =
    let size : length (all_bits ws) ≡ 64 * length ws = length-all_bits ws in
    let front : List Bool = offs (64 * s) ++ all_bits ws in
    let n : length front ≡ 64 * (s + length ws) = omega (arith, length-append (offs (64 * s)) (all_bits ws), length-replicate (64 * s) false, size) in
    let gone : List Bool = offs (64 * s) ++ remove (all_bits ws) p in
    let some : at < 64 * s → take 1 (all_bits ws) ≡ false ∷ [] = λ before. first_off ws any (none before) in
    padded_bits s e us ∙ ap (λ (bs : List Bool). offs (64 * s) ++ bs ++ offs (64 * e)) moved
    ∙ ap (λ (bs : List Bool). bs ++ offs (64 * e)) (sym (append_assoc (offs (64 * s)) (remove (all_bits ws) p) (false ∷ [])))
    ∙ append_assoc gone (false ∷ []) (offs (64 * e)) ∙ ap (λ (bs : List Bool). gone ++ bs) (sym (one_more (64 * e))) ∙ sym (append_assoc gone (offs (64 * e)) (false ∷ []))
    ∙ ap (λ (bs : List Bool). bs ++ false ∷ []) (ap (λ (bs : List Bool). bs ++ offs (64 * e)) (sym (remove_front (64 * s) at p (all_bits ws) (omega arith) is some)) ∙ sym (remove-append_left front (offs (64 * e)) at (omega arith)) ∙ ap (λ (bs : List Bool). remove bs at) (sym (padded_bits s e ws)))

-- ---- the words of the row

padded_before : (s e k : ℕ) (ws : List ℕ) → k < s → get_or (padded s ws e) k 0 ≡ 0
padded_before s e k ws lt =
    let low : length (zeros s) ≡ s = length-replicate {A = ℕ} s 0 in
    get_or_append_left (replicate s 0 ++ ws) (replicate e 0) 0 k (omega (arith, length-append (replicate s 0) ws)) ∙ get_or_append_left (replicate s 0) ws 0 k (omega arith) ∙ get_or-replicate s k 0 0 lt

padded_within : (s e k : ℕ) (ws : List ℕ) → s ≤ k → k < s + length ws → get_or (padded s ws e) k 0 ≡ get_or ws (k - s) 0
padded_within s e k ws ge lt =
    let low : length (zeros s) ≡ s = length-replicate {A = ℕ} s 0 in
    get_or_append_left (replicate s 0 ++ ws) (replicate e 0) 0 k (omega (arith, length-append (replicate s 0) ws)) ∙ get_or-append_right (replicate s 0) ws s k 0 low ge

padded_after : (s e k : ℕ) (ws : List ℕ) → s + length ws ≤ k → get_or (padded s ws e) k 0 ≡ 0
padded_after s e k ws ge =
    let n : length (replicate s 0 ++ ws) ≡ s + length ws = length-append (replicate s 0) ws ∙ ap (λ m. m + length ws) (length-replicate {A = ℕ} s 0) in
    get_or-append_right (replicate s 0 ++ ws) (replicate e 0) (s + length ws) k 0 n ge ∙ elim (cases_lt (k - (s + length ws)) e) [
      | inl lt ↦ get_or-replicate e (k - (s + length ws)) 0 0 lt
      | inr past ↦ get_or_past (replicate e 0) (k - (s + length ws)) 0 (omega (arith, length-replicate {A = ℕ} e 0))
    ]

pub padded_size : (s e : ℕ) (ws : List ℕ) → length (padded s ws e) ≡ s + length ws + e
padded_size s e ws = omega (arith, length-append (replicate s 0 ++ ws) (replicate e 0), length-append (replicate s 0) ws, length-replicate {A = ℕ} s 0, length-replicate {A = ℕ} e 0)

-- the first words of the row do not tell how many blank ones follow
pub padded_front : (s e n : ℕ) (ws : List ℕ) → n ≤ s + length ws + e → take n (padded s ws n) ≡ take n (padded s ws e)
padded_front s e n ws le =
    let a : length (take n (padded s ws n)) ≡ n = length-take-le n (padded s ws n) (omega (arith, padded_size s n ws)) in
    let b : length (take n (padded s ws e)) ≡ n = length-take-le n (padded s ws e) (omega (arith, padded_size s e ws)) in
    let front : List ℕ = zeros s ++ ws in
    ext_get_or 0 (take n (padded s ws n)) (take n (padded s ws e)) (a ∙ sym b) (λ i lt.
    let in' : i < n = omega (arith, a, lt) in
    get_or-take n (padded s ws n) i 0 in' ∙ elim (cases_lt i (length front)) [
      | inl within ↦ get_or_append_left front (zeros n) 0 i within ∙ sym (get_or_append_left front (zeros e) 0 i within)
      | inr past ↦ (
          let low : length (zeros s) ≡ s = length-replicate {A = ℕ} s 0 in
          let after : s + length ws ≤ i = omega (arith, past, low, length-append (zeros s) ws) in
          padded_after s n i ws after ∙ sym (padded_after s e i ws after))
    ] ∙ sym (get_or-take n (padded s ws e) i 0 in'))

padded_set : (s e k v : ℕ) (ws : List ℕ) → s ≤ k → k < s + length ws → set (padded s ws e) k v ≡ padded s (set ws (k - s) v) e
padded_set s e k v ws ge lt =
    let low : length (zeros s) ≡ s = length-replicate {A = ℕ} s 0 in
    set-append_left (replicate s 0 ++ ws) (replicate e 0) k v (omega (arith, length-append (replicate s 0) ws))
    ∙ ap (λ (xs : List ℕ). xs ++ replicate e 0) (set-append_right (replicate s 0) ws s k v low ge)

pub part_written : (s e at v word : ℕ) (b : Bool) (ws : List ℕ) → 64 * s ≤ at → at < 64 * (s + length ws) → word ≡ get_or ws (at / 64 - s) 0 → word_bits 64 v ≡ set (word_bits 64 word) (at % 64) b
    → Writes at b (padded s ws e) (padded s (set ws (at / 64 - s) v) e)
part_written s e at v word b ws ge lt is bits =
    let k : ℕ = at / 64 in
    let from : s ≤ k = omega arith in
    let to : k < s + length ws = omega arith in
    let size = padded_size s e ws in
    let there : k < length (padded s ws e) = omega (arith, size) in
    let read : word ≡ get_or (padded s ws e) k word = is ∙ sym (padded_within s e k ws from to) ∙ get_or_default (padded s ws e) k 0 word there in
    ap all_bits (sym (padded_set s e k v ws from to)) ∙ set_whole (padded s ws e) at v word b (omega (arith, size)) read bits

-- a 0 written in a word that isn't kept
pub unkept_written : (s e at : ℕ) (ws : List ℕ) → at < 64 * (s + length ws + e) → (s ≤ at / 64 → at / 64 < s + length ws → ⊥) → Writes at false (padded s ws e) (padded s ws e)
unkept_written s e at ws lt none =
    let row : List ℕ = padded s ws e in
    let k : ℕ = at / 64 in
    let blank : get_or row k 0 ≡ 0 = elim (cases_lt k s) [
      | inl before ↦ padded_before s e k ws before
      | inr from ↦ elim (cases_lt k (s + length ws)) [
        | inl within ↦ absurd (none from within)
        | inr after ↦ padded_after s e k ws after
      ]
    ] in
    let size = padded_size s e ws in
    let f : 64 * k + at % 64 ≡ at = omega arith in
    let z : 0 / 2 ^ (at % 64) ≡ 0 = omega arith in
    let off : get_or (all_bits row) at false ≡ false =
    ap (λ i. get_or (all_bits row) i false) (sym f) ∙ all_bit_at row k (at % 64) (omega arith) ∙ ap (λ w. low_bit (w / 2 ^ (at % 64))) blank ∙ ap low_bit z in
    sym (ap (λ b. set (all_bits row) at b) (sym off) ∙ set-get_or (all_bits row) at false)

-- ---- a summary of the row

pub part_summed : (s e summary : ℕ) (ws : List ℕ) → ((k : ℕ) → k < length ws → get_or ws k 0 ≢ 0 → IsMarked summary (s + k)) → IsSummaryOf summary (all_bits (padded s ws e))
part_summed s e summary ws marks =
    let P : ℕ → Type 0 = λ w. IsBlank w in
    sums_all summary (padded s ws e) (length (padded s ws e)) (λ k lt none. elim (cases_lt k s) [
      | inl before ↦ subst P (sym (padded_before s e k ws before)) blank_zero
      | inr from ↦ elim (cases_lt k (s + length ws)) [
        | inl within ↦ elim (cases_eq (get_or ws (k - s) 0) 0) [
          | inl z ↦ subst P (sym (padded_within s e k ws from within ∙ z)) blank_zero
          | inr some ↦ (
              let back : s + (k - s) ≡ k = omega arith in
              let Q : ℕ → Type 0 = λ j. IsMarked summary j in
              absurd (none (subst Q back (marks (k - s) (omega arith) some))))
        ]
        | inr after ↦ subst P (sym (padded_after s e k ws after)) blank_zero
      ]
    ]) (omega arith)

-- ---- the row moved by two words

later_words : (s e : ℕ) (ws : List ℕ) → padded s ws (e + 2) ≡ padded s ws e ++ 0 ∷ 0 ∷ []
later_words s e ws =
    ap (λ (xs : List ℕ). replicate s 0 ++ ws ++ xs) (sym (replicate-append-replicate e 2 0)) ∙ sym (append_assoc (replicate s 0 ++ ws) (replicate e 0) (0 ∷ 0 ∷ []))

two_before : (s : ℕ) → zeros s ++ 0 ∷ 0 ∷ [] ≡ 0 ∷ 0 ∷ zeros s
two_before s = replicate-append-replicate s 2 0 ∙ (let f : s + 2 ≡ suc (suc s) = omega arith in ap zeros f)

words_taken : (row rest : List ℕ) (x y : ℕ) → row ≡ rest ++ x ∷ y ∷ [] → TakesWordsIn row (0 ∷ 0 ∷ rest)
words_taken row rest x y is =
    let n : length rest ≡ length row - 2 = omega (arith, length-append rest (x ∷ y ∷ []), ap (λ (xs : List ℕ). length xs) is) in
    let front : rest ≡ take (length row - 2) row = sym (ap (λ (xs : List ℕ). take (length row - 2) xs) is ∙ take_at rest (x ∷ y ∷ []) (length row - 2) n) in
    ap (λ (xs : List ℕ). all_bits (0 ∷ 0 ∷ xs)) front ∙ blank_first (all_bits (take (length row - 2) row))

pub part_slides_up : (s e e' : ℕ) (ws : List ℕ) → e ≡ e' + 2 → TakesWordsIn (padded s ws e) (padded (s + 2) ws e')
part_slides_up s e e' ws is =
    let f : suc (suc s) ≡ s + 2 = omega arith in
    let P : ℕ → Type 0 = λ k. TakesWordsIn (padded s ws e) (padded k ws e') in
    subst P f (words_taken (padded s ws e) (padded s ws e') 0 0 (ap (λ k. padded s ws k) is ∙ later_words s e' ws))

pub last_part_moves_up : (s e : ℕ) (ws : List ℕ) → e ≡ 0 → length ws ≡ 4 → TakesWordsIn (padded s ws e) (padded s (0 ∷ 0 ∷ get_or ws 0 0 ∷ get_or ws 1 0 ∷ []) e)
last_part_moves_up s e (a ∷ b ∷ x ∷ y ∷ []) last four =
    let P : ℕ → Type 0 = λ k. TakesWordsIn (padded s (a ∷ b ∷ x ∷ y ∷ []) k) (padded s (0 ∷ 0 ∷ a ∷ b ∷ []) k) in
    let Q : List ℕ → Type 0 = λ row. TakesWordsIn (padded s (a ∷ b ∷ x ∷ y ∷ []) 0) row in
    let new : 0 ∷ 0 ∷ (replicate s 0 ++ a ∷ b ∷ []) ≡ padded s (0 ∷ 0 ∷ a ∷ b ∷ []) 0 =
    ap (λ (xs : List ℕ). xs ++ a ∷ b ∷ []) (sym (two_before s)) ∙ append_assoc (replicate s 0) (0 ∷ 0 ∷ []) (a ∷ b ∷ []) ∙ sym (append-nil (replicate s 0 ++ 0 ∷ 0 ∷ a ∷ b ∷ [])) in
    subst P (sym last) (subst Q new (words_taken (padded s (a ∷ b ∷ x ∷ y ∷ []) 0) (replicate s 0 ++ a ∷ b ∷ []) x y (append-nil (replicate s 0 ++ a ∷ b ∷ x ∷ y ∷ []) ∙ sym (append_assoc (replicate s 0) (a ∷ b ∷ []) (x ∷ y ∷ [])))))
last_part_moves_up s e [] last four = absurd (omega arith)
last_part_moves_up s e (a ∷ []) last four = absurd (omega arith)
last_part_moves_up s e (a ∷ b ∷ []) last four = absurd (omega arith)
last_part_moves_up s e (a ∷ b ∷ x ∷ []) last four = absurd (omega arith)
last_part_moves_up s e (a ∷ b ∷ x ∷ y ∷ z ∷ zs) last four = absurd (omega arith)

words_given : (row rest : List ℕ) (x y : ℕ) → row ≡ x ∷ y ∷ rest → GivesWordsUp row (rest ++ 0 ∷ 0 ∷ [])
words_given row rest x y is =
    let later : rest ≡ drop 2 row = sym (ap (λ (xs : List ℕ). drop 2 xs) is) in
    all_bits-append rest (0 ∷ 0 ∷ []) ∙ (λ i. all_bits (later i) ++ zero_bits 2 i)

pub part_slides_down : (s s' e : ℕ) (ws : List ℕ) → s ≡ s' + 2 → GivesWordsUp (padded s ws e) (padded s' ws (e + 2))
part_slides_down s s' e ws is =
    let f : s' + 2 ≡ suc (suc s') = omega arith in
    let P : List ℕ → Type 0 = λ row. GivesWordsUp (padded s ws e) row in
    subst P (sym (later_words s' e ws)) (words_given (padded s ws e) (padded s' ws e) 0 0 (ap (λ k. padded k ws e) (is ∙ f)))

pub first_part_moves_down : (s e : ℕ) (ws : List ℕ) → s ≡ 0 → length ws ≡ 4 → GivesWordsUp (padded s ws e) (padded s (get_or ws 2 0 ∷ get_or ws 3 0 ∷ 0 ∷ 0 ∷ []) e)
first_part_moves_down s e (a ∷ b ∷ x ∷ y ∷ []) first four =
    let P : ℕ → Type 0 = λ k. GivesWordsUp (padded k (a ∷ b ∷ x ∷ y ∷ []) e) (padded k (x ∷ y ∷ 0 ∷ 0 ∷ []) e) in
    let Q : List ℕ → Type 0 = λ row. GivesWordsUp (padded 0 (a ∷ b ∷ x ∷ y ∷ []) e) (x ∷ y ∷ row) in
    subst P (sym first) (subst Q (two_before e) (words_given (padded 0 (a ∷ b ∷ x ∷ y ∷ []) e) (x ∷ y ∷ replicate e 0) a b refl))
first_part_moves_down s e [] first four = absurd (omega arith)
first_part_moves_down s e (a ∷ []) first four = absurd (omega arith)
first_part_moves_down s e (a ∷ b ∷ []) first four = absurd (omega arith)
first_part_moves_down s e (a ∷ b ∷ x ∷ []) first four = absurd (omega arith)
first_part_moves_down s e (a ∷ b ∷ x ∷ y ∷ z ∷ zs) first four = absurd (omega arith)

-- ---- the part elsewhere in the same row

pub all_blank : (s e : ℕ) (ws : List ℕ) → ws ≡ replicate 4 0 → padded s ws e ≡ zeros (s + 4 + e)
all_blank s e ws blank = ap (λ (xs : List ℕ). zeros s ++ xs ++ zeros e) blank ∙ ap (λ (xs : List ℕ). xs ++ zeros e) (replicate-append-replicate s 4 0) ∙ replicate-append-replicate (s + 4) e 0

pub blank_part_moves : (s e s' e' : ℕ) (ws : List ℕ) → ws ≡ replicate 4 0 → s' + e' ≡ s + e → padded s' ws e' ≡ padded s ws e
blank_part_moves s e s' e' ws blank same =
    let e1 : s' + 4 + e' ≡ s + 4 + e = omega arith in
    all_blank s' e' ws blank ∙ ap zeros e1 ∙ sym (all_blank s e ws blank)

part_moves : (s e x y : ℕ) → padded s (0 ∷ 0 ∷ x ∷ y ∷ []) (e + 2) ≡ padded (s + 2) (x ∷ y ∷ 0 ∷ 0 ∷ []) e
part_moves s e x y =
    let f : e + 2 ≡ suc (suc e) = omega arith in
    ap (λ k. padded s (0 ∷ 0 ∷ x ∷ y ∷ []) k) f ∙ append_assoc (zeros s) (0 ∷ 0 ∷ x ∷ y ∷ []) (zeros (suc (suc e))) ∙ sym (append_assoc (zeros s) (0 ∷ 0 ∷ []) (x ∷ y ∷ 0 ∷ 0 ∷ zeros e))
    ∙ ap (λ (xs : List ℕ). xs ++ x ∷ y ∷ 0 ∷ 0 ∷ zeros e) (replicate-append-replicate s 2 0) ∙ sym (append_assoc (zeros (s + 2)) (x ∷ y ∷ 0 ∷ 0 ∷ []) (zeros e))

pub part_moves_up : (s e e' : ℕ) (ws : List ℕ) → length ws ≡ 4 → e ≡ e' + 2 → get_or ws 0 0 ≡ 0 → get_or ws 1 0 ≡ 0 → padded (s + 2) (get_or ws 2 0 ∷ get_or ws 3 0 ∷ 0 ∷ 0 ∷ []) e' ≡ padded s ws e
part_moves_up s e e' (a ∷ b ∷ x ∷ y ∷ []) four is first second =
    sym (part_moves s e' x y) ∙ (λ i. padded s (sym first i ∷ sym second i ∷ x ∷ y ∷ []) (sym is i))
part_moves_up s e e' [] four is first second = absurd (omega arith)
part_moves_up s e e' (a ∷ []) four is first second = absurd (omega arith)
part_moves_up s e e' (a ∷ b ∷ []) four is first second = absurd (omega arith)
part_moves_up s e e' (a ∷ b ∷ x ∷ []) four is first second = absurd (omega arith)
part_moves_up s e e' (a ∷ b ∷ x ∷ y ∷ z ∷ zs) four is first second = absurd (omega arith)

pub part_moves_down : (s s' e e' : ℕ) (ws : List ℕ) → length ws ≡ 4 → s ≡ s' + 2 → e' ≡ e + 2 → get_or ws 2 0 ≡ 0 → get_or ws 3 0 ≡ 0 → padded s' (0 ∷ 0 ∷ get_or ws 0 0 ∷ get_or ws 1 0 ∷ []) e' ≡ padded s ws e
part_moves_down s s' e e' (a ∷ b ∷ x ∷ y ∷ []) four is is' third fourth =
    ap (λ k. padded s' (0 ∷ 0 ∷ a ∷ b ∷ []) k) is' ∙ part_moves s' e a b ∙ (λ i. padded (sym is i) (a ∷ b ∷ sym third i ∷ sym fourth i ∷ []) e)
part_moves_down s s' e e' [] four is is' third fourth = absurd (omega arith)
part_moves_down s s' e e' (a ∷ []) four is is' third fourth = absurd (omega arith)
part_moves_down s s' e e' (a ∷ b ∷ []) four is is' third fourth = absurd (omega arith)
part_moves_down s s' e e' (a ∷ b ∷ x ∷ []) four is is' third fourth = absurd (omega arith)
part_moves_down s s' e e' (a ∷ b ∷ x ∷ y ∷ z ∷ zs) four is is' third fourth = absurd (omega arith)
