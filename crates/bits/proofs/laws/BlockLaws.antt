-- Lists of numbers in blocks: where a place lies, and what an edit of one block makes of the list.
use Rattle.std.proofs.Common.{◌≡◌, ℕ, zero, suc, ◌+◌, ◌-◌, ◌<◌, ◌≤◌, List, [], ◌∷◌, ◌++◌, length, take, drop, get_or, map, refl, sym, ◌∙◌, ap, arith, subst, append_assoc, length-append}
use Rattle.std.proofs.Math.ListN.{set}
use Rattle.std.proofs.Math.Seq.{drop-append-add, take-append-add}
use Rattle.std.specs.List.{insert, remove, concat, All}
use Rattle.std.specs.List.Sorted.{IsNonDecreasingBy}
use Rattle.std.proofs.lemmas.List.{get_or_append_left, get_or-append_right, get_or-map, map-append, length-map, nil_from_length, take-append-drop, take_all, drop-append-le, take-append-le}
use Rattle.std.proofs.lemmas.List.Edits.{remove-append_left, remove-append_right}
use Rattle.std.proofs.lemmas.List.Elements.{All-cons, All-head, All-tail}
use Rattle.bits.specs.steps.Blocks.{begins_from, head_of}

-- how many numbers stand in the blocks before one
abbrev pub before : List (List ℕ) → ℕ → ℕ
before bs j = length (concat (take j bs))

-- a block has a number
abbrev pub IsSome : List ℕ → Type 0
IsSome b = 0 < length b

pub before_more : (bs : List (List ℕ)) (j : ℕ) → j < length bs → before bs (j + 1) ≡ before bs j + length (get_or bs j [])
before_more [] j lt = absurd (omega arith)
before_more (b ∷ bs) zero lt = omega (arith, length-append b [])
before_more (b ∷ bs) (suc j) lt =
    let e : suc j + 1 ≡ suc (j + 1) = omega arith in
    let P : ℕ → Type 0 = λ i. before (b ∷ bs) i ≡ before (b ∷ bs) (suc j) + length (get_or bs j []) in
    let more : length (b ++ concat (take (j + 1) bs)) ≡ length (b ++ concat (take j bs)) + length (get_or bs j []) =
    omega (arith, length-append b (concat (take (j + 1) bs)), length-append b (concat (take j bs)), before_more bs j (omega arith)) in
    subst P (sym e) more

pub before_up : (bs : List (List ℕ)) (i j : ℕ) → i ≤ j → before bs i ≤ before bs j
before_up bs zero j le = omega arith
before_up [] (suc i) zero le = absurd (omega arith)
before_up [] (suc i) (suc j) le = omega arith
before_up (b ∷ bs) (suc i) zero le = absurd (omega arith)
before_up (b ∷ bs) (suc i) (suc j) le = omega (arith, length-append b (concat (take i bs)), length-append b (concat (take j bs)), before_up bs i j (omega arith))

pub before_all : (bs : List (List ℕ)) (j : ℕ) → length bs ≤ j → before bs j ≡ length (concat bs)
before_all bs j le = ap (λ (cs : List (List ℕ)). length (concat cs)) (take_all j bs le)

-- ---- where the blocks begin

pub begins_size : (from : ℕ) (bs : List (List ℕ)) → length (begins_from from bs) ≡ length bs
begins_size from [] = refl
begins_size from (b ∷ bs) = ap (λ n. suc n) (begins_size (from + length b) bs)

pub begin_at : (from : ℕ) (bs : List (List ℕ)) (j d : ℕ) → j < length bs → get_or (begins_from from bs) j d ≡ from + before bs j
begin_at from [] j d lt = absurd (omega arith)
begin_at from (b ∷ bs) zero d lt = omega arith
begin_at from (b ∷ bs) (suc j) d lt = omega (arith, begin_at (from + length b) bs j d (omega arith), length-append b (concat (take j bs)))

pub begins_rise : (from : ℕ) (bs : List (List ℕ)) → IsNonDecreasingBy (λ (s : ℕ). s) (begins_from from bs)
begins_rise from bs i j d le lt =
    let n = begins_size from bs in
    omega (arith, begin_at from bs i d (omega arith), begin_at from bs j d (omega arith), before_up bs i j le)

pub begins_later : (from by : ℕ) (bs : List (List ℕ)) → begins_from (from + by) bs ≡ map (λ (n : ℕ). n + by) (begins_from from bs)
begins_later from by [] = refl
begins_later from by (b ∷ bs) =
    let e : from + by + length b ≡ from + length b + by = omega arith in
    ap (λ (ns : List ℕ). (from + by) ∷ ns) (ap (λ n. begins_from n bs) e ∙ begins_later (from + length b) by bs)

pub begins_sooner : (from : ℕ) (bs : List (List ℕ)) → begins_from from bs ≡ map (λ (n : ℕ). n - 1) (begins_from (from + 1) bs)
begins_sooner from [] = refl
begins_sooner from (b ∷ bs) =
    let e : from + length b + 1 ≡ from + 1 + length b = omega arith in
    let f : from ≡ from + 1 - 1 = omega arith in
    ap (λ n. n ∷ begins_from (from + length b) bs) f
    ∙ ap (λ (ns : List ℕ). (from + 1 - 1) ∷ ns) (begins_sooner (from + length b) bs ∙ ap (λ n. map (λ (m : ℕ). m - 1) (begins_from n bs)) e)

pub begins_more : (from by : ℕ) (bs : List (List ℕ)) (j : ℕ) (c : List ℕ) → j < length bs → length c ≡ length (get_or bs j []) + by
    → begins_from from (set bs j c) ≡ take (suc j) (begins_from from bs) ++ map (λ (n : ℕ). n + by) (drop (suc j) (begins_from from bs))
begins_more from by [] j c lt e = absurd (omega arith)
begins_more from by (b ∷ bs) zero c lt e =
    let n : from + length c ≡ from + length b + by = omega arith in
    ap (λ (ns : List ℕ). from ∷ ns) (ap (λ m. begins_from m bs) n ∙ begins_later (from + length b) by bs)
begins_more from by (b ∷ bs) (suc j) c lt e = ap (λ (ns : List ℕ). from ∷ ns) (begins_more (from + length b) by bs j c (omega arith) e)

pub begins_fewer : (from : ℕ) (bs : List (List ℕ)) (j : ℕ) (c : List ℕ) → j < length bs → length c + 1 ≡ length (get_or bs j [])
    → begins_from from (set bs j c) ≡ take (suc j) (begins_from from bs) ++ map (λ (n : ℕ). n - 1) (drop (suc j) (begins_from from bs))
begins_fewer from [] j c lt e = absurd (omega arith)
begins_fewer from (b ∷ bs) zero c lt e =
    let n : from + length c + 1 ≡ from + length b = omega arith in
    ap (λ (ns : List ℕ). from ∷ ns) (begins_sooner (from + length c) bs ∙ ap (λ m. map (λ (i : ℕ). i - 1) (begins_from m bs)) n)
begins_fewer from (b ∷ bs) (suc j) c lt e = ap (λ (ns : List ℕ). from ∷ ns) (begins_fewer (from + length b) bs j c (omega arith) e)

pub begins_dropped : (from : ℕ) (bs : List (List ℕ)) (j : ℕ) → j < length bs → length (get_or bs j []) ≡ 0 → begins_from from (remove bs j) ≡ remove (begins_from from bs) j
begins_dropped from [] j lt e = absurd (omega arith)
begins_dropped from (b ∷ bs) zero lt e = let n : from ≡ from + length b = omega arith in ap (λ m. begins_from m bs) n
begins_dropped from (b ∷ bs) (suc j) lt e = ap (λ (ns : List ℕ). from ∷ ns) (begins_dropped (from + length b) bs j (omega arith) e)

pub begins_cut : (from : ℕ) (bs : List (List ℕ)) (j : ℕ) (low high : List ℕ) → j < length bs → length low + length high ≡ length (get_or bs j [])
    → begins_from from (insert (set bs j low) (suc j) high) ≡ insert (begins_from from bs) (suc j) (from + before bs j + length low)
begins_cut from [] j low high lt e = absurd (omega arith)
begins_cut from (b ∷ bs) zero low high lt e =
    let n : from + length low + length high ≡ from + length b = omega arith in
    let m : from + length low ≡ from + 0 + length low = omega arith in
    ap (λ (ns : List ℕ). from ∷ (from + length low) ∷ ns) (ap (λ i. begins_from i bs) n) ∙ ap (λ i. from ∷ i ∷ begins_from (from + length b) bs) m
begins_cut from (b ∷ bs) (suc j) low high lt e =
    let n : from + length b + before bs j + length low ≡ from + length (b ++ concat (take j bs)) + length low = omega (arith, length-append b (concat (take j bs))) in
    ap (λ (ns : List ℕ). from ∷ ns) (begins_cut (from + length b) bs j low high (omega arith) e ∙ ap (λ i. insert (begins_from (from + length b) bs) (suc j) i) n)

-- ---- edits of the numbers

-- a place in the blocks after the first
past : (b bs : List ℕ) (at : ℕ) → (length b ≤ length (b ++ bs) + at) × (length (b ++ bs) + at - length b ≡ length bs + at)
past b bs at = (omega (arith, length-append b bs), omega (arith, length-append b bs))

pub number_at : (bs : List (List ℕ)) (j at d : ℕ) → j < length bs → at < length (get_or bs j []) → get_or (concat bs) (before bs j + at) d ≡ get_or (get_or bs j []) at d
number_at [] j at d lt in' = absurd (omega arith)
number_at (b ∷ bs) zero at d lt in' =
    let e : 0 + at ≡ at = omega arith in
    ap (λ k. get_or (b ++ concat bs) k d) e ∙ get_or_append_left b (concat bs) d at in'
number_at (b ∷ bs) (suc j) at d lt in' =
    let p = past b (concat (take j bs)) at in
    get_or-append_right b (concat bs) (length b) (length (b ++ concat (take j bs)) + at) d refl p.0 ∙ ap (λ k. get_or (concat bs) k d) p.1 ∙ number_at bs j at d (omega arith) in'

-- the numbers from a place of a block on, and those before it
pub concat_from : (bs : List (List ℕ)) (j at : ℕ) → j < length bs → at ≤ length (get_or bs j []) → drop (before bs j + at) (concat bs) ≡ drop at (get_or bs j []) ++ concat (drop (suc j) bs)
concat_from [] j at lt le = absurd (omega arith)
concat_from (b ∷ bs) zero at lt le =
    let e : 0 + at ≡ at = omega arith in
    ap (λ k. drop k (b ++ concat bs)) e ∙ drop-append-le at b (concat bs) le
concat_from (b ∷ bs) (suc j) at lt le =
    let e : length (b ++ concat (take j bs)) + at ≡ length b + (before bs j + at) = omega (arith, length-append b (concat (take j bs))) in
    ap (λ k. drop k (b ++ concat bs)) e ∙ drop-append-add b (concat bs) (before bs j + at) ∙ concat_from bs j at (omega arith) le

pub concat_to : (bs : List (List ℕ)) (j at : ℕ) → j < length bs → at ≤ length (get_or bs j []) → take (before bs j + at) (concat bs) ≡ concat (take j bs) ++ take at (get_or bs j [])
concat_to [] j at lt le = absurd (omega arith)
concat_to (b ∷ bs) zero at lt le =
    let e : 0 + at ≡ at = omega arith in
    ap (λ k. take k (b ++ concat bs)) e ∙ take-append-le at b (concat bs) le
concat_to (b ∷ bs) (suc j) at lt le =
    let e : length (b ++ concat (take j bs)) + at ≡ length b + (before bs j + at) = omega (arith, length-append b (concat (take j bs))) in
    ap (λ k. take k (b ++ concat bs)) e ∙ take-append-add b (concat bs) (before bs j + at) ∙ ap (λ (ns : List ℕ). b ++ ns) (concat_to bs j at (omega arith) le)
    ∙ sym (append_assoc b (concat (take j bs)) (take at (get_or bs j [])))

-- some numbers put in at a place
abbrev pub put_in : List ℕ → List ℕ → ℕ → List ℕ
put_in more ns k = take k ns ++ (more ++ drop k ns)

pub size_put : (more ns : List ℕ) (k : ℕ) → length (put_in more ns k) ≡ length ns + length more
size_put more ns k =
    omega (arith, length-append (take k ns) (more ++ drop k ns), length-append more (drop k ns), ap (λ (ms : List ℕ). length ms) (take-append-drop k ns), length-append (take k ns) (drop k ns))

concat_set : (bs : List (List ℕ)) (j : ℕ) (c : List ℕ) → j < length bs → concat (set bs j c) ≡ concat (take j bs) ++ (c ++ concat (drop (suc j) bs))
concat_set [] j c lt = absurd (omega arith)
concat_set (b ∷ bs) zero c lt = refl
concat_set (b ∷ bs) (suc j) c lt = ap (λ (ns : List ℕ). b ++ ns) (concat_set bs j c (omega arith)) ∙ sym (append_assoc b (concat (take j bs)) (c ++ concat (drop (suc j) bs)))

parts : (low part more rest after : List ℕ) → (low ++ part) ++ (more ++ (rest ++ after)) ≡ low ++ ((part ++ (more ++ rest)) ++ after)
parts low part more rest after = simp append_assoc

pub numbers_put : (bs : List (List ℕ)) (j at : ℕ) (more : List ℕ) → j < length bs → at ≤ length (get_or bs j []) → put_in more (concat bs) (before bs j + at) ≡ concat (set bs j (put_in more (get_or bs j []) at))
numbers_put bs j at more lt le =
    let b : List ℕ = get_or bs j [] in
    (λ i. concat_to bs j at lt le i ++ (more ++ concat_from bs j at lt le i)) ∙ parts (concat (take j bs)) (take at b) more (drop at b) (concat (drop (suc j) bs)) ∙ sym (concat_set bs j (put_in more b at) lt)

pub number_taken : (bs : List (List ℕ)) (j at : ℕ) → j < length bs → at < length (get_or bs j []) → remove (concat bs) (before bs j + at) ≡ concat (set bs j (remove (get_or bs j []) at))
number_taken [] j at lt in' = absurd (omega arith)
number_taken (b ∷ bs) zero at lt in' =
    let e : 0 + at ≡ at = omega arith in
    ap (λ k. remove (b ++ concat bs) k) e ∙ remove-append_left b (concat bs) at in'
number_taken (b ∷ bs) (suc j) at lt in' =
    let p = past b (concat (take j bs)) at in
    remove-append_right b (concat bs) (length b) (length (b ++ concat (take j bs)) + at) refl p.0 ∙ ap (λ k. b ++ remove (concat bs) k) p.1 ∙ ap (λ (ns : List ℕ). b ++ ns) (number_taken bs j at (omega arith) in')

-- a block without a number goes
pub concat_dropped : (bs : List (List ℕ)) (j : ℕ) → j < length bs → length (get_or bs j []) ≡ 0 → concat (remove bs j) ≡ concat bs
concat_dropped [] j lt e = absurd (omega arith)
concat_dropped (b ∷ bs) zero lt e = ap (λ (ns : List ℕ). ns ++ concat bs) (sym (nil_from_length b e))
concat_dropped (b ∷ bs) (suc j) lt e = ap (λ (ns : List ℕ). b ++ ns) (concat_dropped bs j (omega arith) e)

-- a block is cut
pub concat_cut : (bs : List (List ℕ)) (j h : ℕ) → j < length bs → concat (insert (set bs j (take h (get_or bs j []))) (suc j) (drop h (get_or bs j []))) ≡ concat bs
concat_cut [] j h lt = absurd (omega arith)
concat_cut (b ∷ bs) zero h lt = sym (append_assoc (take h b) (drop h b) (concat bs)) ∙ ap (λ (ns : List ℕ). ns ++ concat bs) (take-append-drop h b)
concat_cut (b ∷ bs) (suc j) h lt = ap (λ (ns : List ℕ). b ++ ns) (concat_cut bs j h (omega arith))

-- each number becomes another
pub concat_map : (f : ℕ → ℕ) (bs : List (List ℕ)) → concat (map (map f) bs) ≡ map f (concat bs)
concat_map f [] = refl
concat_map f (b ∷ bs) = ap (λ (ns : List ℕ). map f b ++ ns) (concat_map f bs) ∙ sym (map-append f b (concat bs))

pub begins_map : (f : ℕ → ℕ) (from : ℕ) (bs : List (List ℕ)) → begins_from from (map (map f) bs) ≡ begins_from from bs
begins_map f from [] = refl
begins_map f from (b ∷ bs) = ap (λ (ns : List ℕ). from ∷ ns) (ap (λ n. begins_from (from + n) (map (map f) bs)) (length-map b f) ∙ begins_map f (from + length b) bs)

pub heads_map : (f : ℕ → ℕ) (bs : List (List ℕ)) → All IsSome bs → map head_of (map (map f) bs) ≡ map f (map head_of bs)
heads_map f [] some = refl
heads_map f (b ∷ bs) some =
    ap (λ n. n ∷ map head_of (map (map f) bs)) (get_or-map f b 0 0 0 (All-head IsSome b bs some))
    ∙ ap (λ (ns : List ℕ). f (head_of b) ∷ ns) (heads_map f bs (All-tail IsSome b bs some))

pub some_map : (f : ℕ → ℕ) (bs : List (List ℕ)) → All IsSome bs → All IsSome (map (map f) bs)
some_map f [] some = some
some_map f (b ∷ bs) some = All-cons IsSome (map f b) (map (map f) bs) (omega (arith, length-map b f, All-head IsSome b bs some)) (some_map f bs (All-tail IsSome b bs some))

-- ---- numbers written from a place on

pub written_from : (f : ℕ → ℕ) (at : ℕ) (old new : List ℕ) → length new ≡ length old → ((k : ℕ) → k < at → get_or new k 0 ≡ get_or old k 0)
    → ((k : ℕ) → at ≤ k → k < length old → get_or new k 0 ≡ f (get_or old k 0)) → new ≡ take at old ++ map f (drop at old)
written_from f zero [] [] size same moved = refl
written_from f (suc at) [] [] size same moved = refl
written_from f at [] (n ∷ ns) size same moved = absurd (omega arith)
written_from f at (o ∷ os) [] size same moved = absurd (omega arith)
written_from f zero (o ∷ os) (n ∷ ns) size same moved =
    ap (λ m. m ∷ ns) (moved 0 (omega arith) (omega arith))
    ∙ ap (λ (ms : List ℕ). f o ∷ ms) (written_from f zero os ns (omega arith) (λ k lt. absurd (omega arith)) (λ k ge lt. moved (suc k) (omega arith) (omega arith)))
written_from f (suc at) (o ∷ os) (n ∷ ns) size same moved =
    ap (λ m. m ∷ ns) (same 0 (omega arith))
    ∙ ap (λ (ms : List ℕ). o ∷ ms) (written_from f at os ns (omega arith) (λ k lt. same (suc k) (omega arith)) (λ k ge lt. moved (suc k) (omega arith) (omega arith)))
