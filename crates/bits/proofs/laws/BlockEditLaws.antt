-- Lists of numbers in blocks as they are kept: elements moved up, and what an edit of one block leaves.
use lib.Lanes.{chunk, put_chunk}
use Rattle.std.proofs.Common.{◌≡◌, ℕ, ◌+◌, ◌-◌, ◌<◌, ◌≤◌, List, [], ◌∷◌, ◌++◌, length, take, drop, get_or, refl, sym, ◌∙◌, ap, arith, length-append, take-add, zero, suc, ◌^◌, map, subst, append_assoc, Result, Ok, Err, is_ok, IsOk, cond}
use Rattle.std.specs.Prelude.{slice_index}
use Rattle.std.proofs.Math.ListN.{set}
use Rattle.std.specs.List.{insert, remove, concat, All}
use Rattle.std.proofs.lemmas.List.{take-append-drop, length-take-le, take-take, take-set, take-set-le, drop-set, drop-set-add, drop_all, drop-drop, drop-take, take_at, drop_at, drop_more, length-set, take-append-le, drop-append-le, length-drop, get_or_append_left, get_or-map, get_or_read, get_or-set_same, get_or-take, length-map, map-append, map-set, set-get_or}
use Rattle.std.proofs.lemmas.Simd.{put_chunk_is, length-chunk, length-put_chunk}
use Rattle.std.proofs.lemmas.Bool.{false≢true}
use Rattle.std.proofs.lemmas.List.Edits.{length-remove, remove-append_right}
use Rattle.std.proofs.lemmas.List.Elements.{All-append, All-cons, All-drop, All-get_or, All-set, All-take}
use Rattle.bits.specs.steps.Blocks.{Raised, begins_from, head_of, AreBlocks}
use Rattle.bits.proofs.laws.SlotLaws.{map-insert, map-remove}
use Rattle.bits.proofs.laws.HeldLaws.{all_written}
use Rattle.bits.proofs.laws.BlockLaws.{IsSome, before, begin_at, begins_cut, begins_dropped, begins_fewer, begins_later, begins_map, begins_more, begins_size, begins_sooner, before_more, before_up, concat_cut, concat_dropped, concat_map, heads_map, numbers_put, number_taken, put_in, size_put, some_map}
use Rattle.bits.proofs.laws.BlockPlaceLaws.{IsHeld, begin_is, within_all}

-- ---- Elements moved up, block by block.

-- k elements from place p on, where the lists agree as far
same_chunk : (xs ys : List ℕ) (e p k : ℕ) → p + k ≤ e → take e xs ≡ take e ys → take k (drop p xs) ≡ take k (drop p ys)
same_chunk xs ys e p k le same =
    sym (drop-take p k xs) ∙ ap (λ (zs : List ℕ). drop p zs) (sym (take-take (p + k) e xs le) ∙ ap (λ (zs : List ℕ). take (p + k) zs) same ∙ take-take (p + k) e ys le) ∙ drop-take p k ys

pub raised_start : (by at : ℕ) (xs : List ℕ) → at + by ≤ length xs → Raised by at xs xs (length xs)
raised_start by at xs le =
    let none : length xs - length xs ≡ 0 = omega arith in
    record {
      same = refl;
      after = le;
      within = omega arith;
      below = refl;
      above = drop_all (length xs) xs (omega arith) ∙ sym (ap (λ (k : ℕ). take k (drop (length xs - by) xs)) none);
    }

-- k elements more, where k fit between the place and those moved
raised_more : (by at : ℕ) (old new next : List ℕ) (e k i p : ℕ) → Raised by at old new e → length next ≡ length new → at + by + k ≤ e → i + k ≡ e → p + by ≡ i
    → take i next ≡ take i new → drop i next ≡ take k (drop p new) ++ drop e new → Raised by at old next i
raised_more by at old new next e k i p r len room ie pi low high =
    let e1 : p + k ≡ e - by = omega arith in
    let joined : take (k + (length old - e)) (drop p old) ≡ take k (drop p old) ++ take (length old - e) (drop (e - by) old) =
    take-add k (length old - e) (drop p old) ∙ ap (λ (zs : List ℕ). take k (drop p old) ++ take (length old - e) zs) (drop-drop k p old ∙ ap (λ (n : ℕ). drop n old) e1) in
    let count : k + (length old - e) ≡ length old - i = omega (arith, r.within) in
    let from : p ≡ i - by = omega arith in
    record {
      same = len ∙ r.same;
      after = omega arith;
      within = omega (arith, r.within);
      below = low ∙ sym (take-take i e new (omega arith)) ∙ ap (λ (zs : List ℕ). take i zs) r.below ∙ take-take i e old (omega arith);
      above = high ∙ ap (λ (zs : List ℕ). zs ++ drop e new) (same_chunk new old e p k (omega arith) r.below)
          ∙ ap (λ (zs : List ℕ). take k (drop p old) ++ zs) r.above
          ∙ sym joined ∙ ap (λ (n : ℕ). take n (drop p old)) count ∙ ap (λ (n : ℕ). take (length old - i) (drop n old)) from;
    }

-- what a block that is written at i leaves before it and from it on
before_block : (xs ys : List ℕ) (i : ℕ) → i + length ys ≤ length xs → take i (put_chunk i xs ys) ≡ take i xs
before_block xs ys i le = ap (λ (zs : List ℕ). take i zs) (put_chunk_is i xs ys le) ∙ take_at (take i xs) (ys ++ drop (length ys) (drop i xs)) i (length-take-le i xs (omega arith))

from_block : (xs ys : List ℕ) (i e : ℕ) → i + length ys ≡ e → e ≤ length xs → drop i (put_chunk i xs ys) ≡ ys ++ drop e xs
from_block xs ys i e ie le =
    ap (λ (zs : List ℕ). drop i zs) (put_chunk_is i xs ys (omega arith)) ∙ drop_at (take i xs) (ys ++ drop (length ys) (drop i xs)) i (length-take-le i xs (omega arith))
    ∙ ap (λ (zs : List ℕ). ys ++ zs) (drop-drop (length ys) i xs ∙ ap (λ (n : ℕ). drop n xs) ie)

pub raised_block : (by at : ℕ) (old new : List ℕ) (e i p : ℕ) → Raised by at old new e → at + by + 16 ≤ e → i + 16 ≡ e → p + by ≡ i
    → Raised by at old (put_chunk i new (chunk p 16 new)) i
raised_block by at old new e i p r room ie pi =
    let block : List ℕ = chunk p 16 new in
    let long : length block ≡ 16 = length-chunk p 16 new (omega (arith, r.within, r.same)) in
    raised_more by at old new (put_chunk i new block) e 16 i p r (length-put_chunk i new block) room ie pi
    (before_block new block i (omega (arith, r.within, r.same)))
    (from_block new block i e (omega arith) (omega (arith, r.within, r.same)))

-- one element
chunk_of_one : (xs : List ℕ) (p : ℕ) → p < length xs → take 1 (drop p xs) ≡ get_or xs p 0 ∷ []
chunk_of_one xs p lt = ap (λ (zs : List ℕ). take 1 zs) (drop_more xs p 0 lt)

pub raised_one : (by at : ℕ) (old new : List ℕ) (e i p : ℕ) → Raised by at old new e → at + by < e → i + 1 ≡ e → p + by ≡ i
    → Raised by at old (set new i (get_or new p 0)) i
raised_one by at old new e i p r room ie pi =
    let x : ℕ = get_or new p 0 in
    raised_more by at old new (set new i x) e 1 i p r (length-set new i x) (omega arith) ie pi (take-set new i x)
    (drop-set new i x (omega (arith, r.same, r.within)) ∙ ap (λ (n : ℕ). x ∷ drop n new) ie
    ∙ ap (λ (zs : List ℕ). zs ++ drop e new) (sym (chunk_of_one new p (omega (arith, r.same, r.within)))))

pub raised_low : (by at : ℕ) (old new : List ℕ) (e : ℕ) → Raised by at old new e → take at new ≡ take at old
raised_low by at old new e r =
    sym (take-take at e new (omega (arith, r.after))) ∙ ap (λ (zs : List ℕ). take at zs) r.below ∙ take-take at e old (omega (arith, r.after))

pub raised_high : (by at : ℕ) (old new : List ℕ) (e : ℕ) → Raised by at old new e → e ≤ at + by → drop (at + by) new ≡ take (length old - (at + by)) (drop at old)
raised_high by at old new e r le =
    let there : e ≡ at + by = omega (arith, r.after) in
    let from : e - by ≡ at = omega (arith, r.after) in
    ap (λ (n : ℕ). drop n new) (sym there) ∙ r.above ∙ ap (λ (n : ℕ). take (length old - e) (drop n old)) from ∙ ap (λ (n : ℕ). take (length old - n) (drop at old)) there

-- where the last are as many as the places, the others are all kept
kept_high : (xs ys : List ℕ) (by at n : ℕ) → length ys ≡ by → at ≤ length xs → n ≡ length (xs ++ ys) - (at + by) → take n (drop at (xs ++ ys)) ≡ drop at xs
kept_high xs ys by at n few le is =
    ap (λ (zs : List ℕ). take n zs) (drop-append-le at xs ys le)
    ∙ take_at (drop at xs) ys n (omega (arith, is, few, length-append xs ys, length-drop at xs))

-- what stands after elements were pushed and those from a place on moved up by as many
pub record HasGap (xs ys new : List ℕ) (at by : ℕ) : Type 0 where
  pub few : length ys ≡ by
  pub within : at ≤ length xs
  pub same : length new ≡ length (xs ++ ys)
  pub low : take at new ≡ take at (xs ++ ys)
  pub high : drop (at + by) new ≡ take (length (xs ++ ys) - (at + by)) (drop at (xs ++ ys))

gap_high : (xs ys new : List ℕ) (at by : ℕ) → HasGap xs ys new at by → drop (at + by) new ≡ drop at xs
gap_high xs ys new at by g = g.high ∙ kept_high xs ys by at (length (xs ++ ys) - (at + by)) g.few g.within refl

gap_low : (xs ys new : List ℕ) (at by : ℕ) → HasGap xs ys new at by → take at new ≡ take at xs
gap_low xs ys new at by g = g.low ∙ take-append-le at xs ys g.within

-- an element put into a gap
pub filled_one : (xs ys new : List ℕ) (at x : ℕ) → HasGap xs ys new at 1 → set new at x ≡ insert xs at x
filled_one xs ys new at x g =
    sym (take-append-drop at (set new at x))
    ∙ ap (λ (zs : List ℕ). zs ++ drop at (set new at x)) (take-set new at x ∙ gap_low xs ys new at 1 g)
    ∙ ap (λ (zs : List ℕ). take at xs ++ zs)
    (drop-set new at x (omega (arith, g.same, length-append xs ys, g.few, g.within)) ∙ ap (λ (zs : List ℕ). x ∷ zs) (gap_high xs ys new at 1 g))

-- two elements put in at a place, one before the other
pub inserted_pair : (xs : List ℕ) (at x y : ℕ) → at ≤ length xs → insert (insert xs at y) at x ≡ take at xs ++ (x ∷ y ∷ drop at xs)
inserted_pair xs at x y le =
    let long : length (take at xs) ≡ at = length-take-le at xs le in
    ap (λ (zs : List ℕ). zs ++ (x ∷ drop at (insert xs at y))) (take_at (take at xs) (y ∷ drop at xs) at long)
    ∙ ap (λ (zs : List ℕ). take at xs ++ (x ∷ zs)) (drop_at (take at xs) (y ∷ drop at xs) at long)

-- two elements put into a gap
pub filled_pair : (xs ys new : List ℕ) (at x y : ℕ) → HasGap xs ys new at 2 → set (set new at x) (at + 1) y ≡ insert (insert xs at y) at x
filled_pair xs ys new at x y g =
    let one : List ℕ = set new at x in
    let both : List ℕ = set one (at + 1) y in
    let size : length new ≡ length xs + 2 = g.same ∙ length-append xs ys ∙ ap (λ (n : ℕ). length xs + n) g.few in
    let next : at + 1 + 1 ≡ at + 2 = omega arith in
    sym (take-append-drop at both)
    ∙ ap (λ (zs : List ℕ). zs ++ drop at both) (take-set-le at one (at + 1) y (omega arith) ∙ take-set new at x ∙ gap_low xs ys new at 2 g)
    ∙ ap (λ (zs : List ℕ). take at xs ++ zs) (drop-set-add at one 1 y ∙ ap (λ (zs : List ℕ). set zs 1 y) (drop-set new at x (omega (arith, size, g.within)))
    ∙ ap (λ (zs : List ℕ). x ∷ set zs 0 y) (drop_more new (at + 1) 0 (omega (arith, size, g.within)))
    ∙ ap (λ (zs : List ℕ). x ∷ y ∷ zs) (ap (λ (n : ℕ). drop n new) next ∙ gap_high xs ys new at 2 g))
    ∙ sym (inserted_pair xs at x y g.within)

-- ---- Lists of numbers in blocks as they are kept: what an edit of one block leaves.

-- the same parts, as they are written otherwise
pub kept_as : (f h b f' h' b' : List ℕ) (l l' : List (List ℕ)) → f' ≡ f → h' ≡ h → b' ≡ b → l' ≡ l → AreBlocks f h b l → AreBlocks f' h' b' l'
kept_as f h b f' h' b' l l' ef eh eb el k =
    let P : List ℕ → Type 0 = λ x. AreBlocks x h b l in
    let Q : List ℕ → Type 0 = λ x. AreBlocks f' x b l in
    let R : List ℕ → Type 0 = λ x. AreBlocks f' h' x l in
    let S : List (List ℕ) → Type 0 = λ x. AreBlocks f' h' b' x in
    subst S (sym el) (subst R (sym eb) (subst Q (sym eh) (subst P (sym ef) k)))

-- numbers written from a place on over all of a vector, as it is read then
pub rewritten : (f : ℕ → ℕ) (n at : ℕ) (us lent ws : List ℕ) → length us ≡ n → us ≡ take at lent ++ map f (drop at lent) → lent ≡ ws → take n (us ++ drop (length us) ws) ≡ take at ws ++ map f (drop at ws)
rewritten f n at us lent ws size is same = all_written n us ws size ∙ is ∙ ap (λ (xs : List ℕ). take at xs ++ map f (drop at xs)) same

concat_size : (bs : List (List ℕ)) (j : ℕ) (c : List ℕ) → j < length bs → length (concat (set bs j c)) + length (get_or bs j []) ≡ length (concat bs) + length c
concat_size [] j c lt = absurd (omega arith)
concat_size (b ∷ bs) zero c lt = omega (arith, length-append b (concat bs), length-append c (concat bs))
concat_size (b ∷ bs) (suc j) c lt = omega (arith, length-append b (concat bs), length-append b (concat (set bs j c)), concat_size bs j c (omega arith))

heads_same : (bs : List (List ℕ)) (j : ℕ) (c : List ℕ) → j < length bs → head_of c ≡ head_of (get_or bs j []) → map head_of (set bs j c) ≡ map head_of bs
heads_same bs j c lt e =
    map-set head_of bs j c ∙ ap (λ n. set (map head_of bs) j n) (e ∙ sym (get_or-map head_of bs j [] 0 lt)) ∙ set-get_or (map head_of bs) j 0

-- ---- a number more

pub put_first_kept : (first heads begins : List ℕ) (later : List (List ℕ)) (first' : List ℕ) (by : ℕ) → AreBlocks first heads begins later → length (first ++ concat later) + by ≤ 2 ^ 32 → length first' ≡ length first + by
    → AreBlocks first' heads (map (λ (n : ℕ). n + by) begins) later
put_first_kept first heads begins later first' by h room size = record {
  some = h.some;
  headed = h.headed;
  begun = ap (λ (ns : List ℕ). map (λ (n : ℕ). n + by) ns) h.begun ∙ sym (begins_later (length first) by later) ∙ ap (λ n. begins_from n later) (sym size);
  few = omega (arith, room, length-append first (concat later), size);
}

-- numbers put in at place k into block j, which has the number before them: b, which begins at p, becomes c
pub record IsPut (first heads begins : List ℕ) (later : List (List ℕ)) (k j p : ℕ) (more b c : List ℕ) : Type 0 where
  pub kept : AreBlocks first heads begins later
  pub room : length (first ++ concat later) + length more ≤ 2 ^ 32
  pub late : length first < k
  pub inside : IsHeld (length first) later (k - 1) j
  pub block : b ≡ get_or later j b
  pub begin : p ≡ get_or begins j p
  pub put : c ≡ put_in more b (k - p)

put_block : (first heads begins : List ℕ) (later : List (List ℕ)) (k j p : ℕ) (more b c : List ℕ) → IsPut first heads begins later k j p more b c
    → (c ≡ put_in more (get_or later j []) (k - p)) × (length first + before later j + (k - p) ≡ k) × (0 < k - p) × (k - p ≤ length (get_or later j []))
put_block first heads begins later k j p more b c h =
    let p_is : p ≡ length first + before later j = begin_is first heads begins later j p h.kept h.inside.there h.begin in (
      h.put ∙ ap (λ (ns : List ℕ). put_in more ns (k - p)) (get_or_read later j b h.inside.there h.block []),
      omega (arith, p_is, h.late, h.inside.begun),
      omega (arith, p_is, h.late, h.inside.begun),
      omega (arith, p_is, h.late, h.inside.ended),
    )

-- numbers put in behind the first leave it there
head_put : (more ns : List ℕ) (k : ℕ) → 0 < k → k ≤ length ns → head_of (put_in more ns k) ≡ head_of ns
head_put more ns k some le =
    get_or_append_left (take k ns) (more ++ drop k ns) 0 0 (omega (arith, length-take-le k ns le, some)) ∙ get_or-take k ns 0 0 some

pub put_kept : (first heads begins : List ℕ) (later : List (List ℕ)) (k j p : ℕ) (more b c : List ℕ) → IsPut first heads begins later k j p more b c
    → AreBlocks first heads (take (j + 1) begins ++ map (λ (n : ℕ). n + length more) (drop (j + 1) begins)) (set later j c)
put_kept first heads begins later k j p more b c h =
    let at = put_block first heads begins later k j p more b c h in
    let lt = h.inside.there in
    let some : 0 < length (get_or later j []) = All-get_or IsSome later j [] lt h.kept.some in
    let size : length c ≡ length (get_or later j []) + length more = ap (λ (ns : List ℕ). length ns) at.0 ∙ size_put more (get_or later j []) (k - p) in
    let head : head_of c ≡ head_of (get_or later j []) = ap head_of at.0 ∙ head_put more (get_or later j []) (k - p) at.2 at.3 in
    let e : suc j ≡ j + 1 = omega arith in
    record {
      some = All-set IsSome later j c (omega (arith, size, some)) h.kept.some;
      headed = h.kept.headed ∙ sym (heads_same later j c lt head);
      begun = ap (λ (ns : List ℕ). take (j + 1) ns ++ map (λ (n : ℕ). n + length more) (drop (j + 1) ns)) h.kept.begun
          ∙ ap (λ i. take i (begins_from (length first) later) ++ map (λ (n : ℕ). n + length more) (drop i (begins_from (length first) later))) (sym e)
          ∙ sym (begins_more (length first) (length more) later j c lt size);
      few = omega (arith, h.room, length-append first (concat later), concat_size later j c lt, size);
    }

pub put_shown : (first heads begins : List ℕ) (later : List (List ℕ)) (k j p : ℕ) (more b c : List ℕ) → IsPut first heads begins later k j p more b c → first ++ concat (set later j c) ≡ put_in more (first ++ concat later) k
put_shown first heads begins later k j p more b c h =
    let at = put_block first heads begins later k j p more b c h in
    let e : length (first ++ concat (take j later)) + (k - p) ≡ k = omega (arith, at.1, length-append first (concat (take j later))) in
    ap (λ (ns : List ℕ). first ++ concat (set later j ns)) at.0 ∙ sym (numbers_put (first ∷ later) (suc j) (k - p) more (omega (arith, h.inside.there)) at.3) ∙ ap (λ i. put_in more (first ++ concat later) i) e

-- each later block begins below the end
pub begins_fit : (first heads begins : List ℕ) (later : List (List ℕ)) (ns : List ℕ) (k : ℕ) → AreBlocks first heads begins later → ns ≡ begins → k < length ns → slice_index ns k < length (first ++ concat later)
begins_fit first heads begins later ns k h e lt =
    let is : ns ≡ begins_from (length first) later = e ∙ h.begun in
    let in' : k < length later = omega (arith, lt, ap (λ (xs : List ℕ). length xs) is, begins_size (length first) later) in
    omega (arith, ap (λ (xs : List ℕ). get_or xs k 0) is, begin_at (length first) later k 0 in', within_all first later k in', All-get_or IsSome later k [] in' h.some)

-- ---- a number fewer

pub take_first_kept : (first heads begins : List ℕ) (later : List (List ℕ)) (k : ℕ) → AreBlocks first heads begins later → k < length first → AreBlocks (remove first k) heads (map (λ (n : ℕ). n - 1) begins) later
take_first_kept first heads begins later k h lt =
    let size : length (remove first k) + 1 ≡ length first = length-remove first k lt in
    record {
      some = h.some;
      headed = h.headed;
      begun = ap (λ (ns : List ℕ). map (λ (n : ℕ). n - 1) ns) (h.begun ∙ ap (λ n. begins_from n later) (sym size)) ∙ sym (begins_sooner (length (remove first k)) later);
      few = omega (arith, h.few, size);
    }

-- the number at place k taken out of block j: b, which begins at p, becomes c
pub record IsTaken (first heads begins : List ℕ) (later : List (List ℕ)) (k j p : ℕ) (b c : List ℕ) : Type 0 where
  pub kept : AreBlocks first heads begins later
  pub inside : IsHeld (length first) later k j
  pub block : b ≡ get_or later j b
  pub begin : p ≡ get_or begins j p
  pub taken : c ≡ remove b (k - p)

taken_block : (first heads begins : List ℕ) (later : List (List ℕ)) (k j p : ℕ) (b c : List ℕ) → IsTaken first heads begins later k j p b c
    → (c ≡ remove (get_or later j []) (k - p)) × (length first + before later j + (k - p) ≡ k) × (k - p < length (get_or later j [])) × (length c + 1 ≡ length (get_or later j []))
taken_block first heads begins later k j p b c h =
    let p_is : p ≡ length first + before later j = begin_is first heads begins later j p h.kept h.inside.there h.begin in
    let is : c ≡ remove (get_or later j []) (k - p) = h.taken ∙ ap (λ (ns : List ℕ). remove ns (k - p)) (get_or_read later j b h.inside.there h.block []) in
    let in' : k - p < length (get_or later j []) = omega (arith, p_is, h.inside.begun, h.inside.ended) in (
      is,
      omega (arith, p_is, h.inside.begun),
      in',
      omega (arith, ap (λ (ns : List ℕ). length ns) is, length-remove (get_or later j []) (k - p) in'),
    )

-- where the blocks begin when b has become c
fewer_begun : (first heads begins : List ℕ) (later : List (List ℕ)) (k j p : ℕ) (b c : List ℕ) → IsTaken first heads begins later k j p b c
    → take (j + 1) begins ++ map (λ (n : ℕ). n - 1) (drop (j + 1) begins) ≡ begins_from (length first) (set later j c)
fewer_begun first heads begins later k j p b c h =
    let e : suc j ≡ j + 1 = omega arith in
    ap (λ (ns : List ℕ). take (j + 1) ns ++ map (λ (n : ℕ). n - 1) (drop (j + 1) ns)) h.kept.begun
    ∙ ap (λ i. take i (begins_from (length first) later) ++ map (λ (n : ℕ). n - 1) (drop i (begins_from (length first) later))) (sym e)
    ∙ sym (begins_fewer (length first) later j c h.inside.there (taken_block first heads begins later k j p b c h).3)

pub taken_kept : (first heads begins : List ℕ) (later : List (List ℕ)) (k j p : ℕ) (b c : List ℕ) → IsTaken first heads begins later k j p b c → 0 < length c
    → AreBlocks first (set heads j (head_of c)) (take (j + 1) begins ++ map (λ (n : ℕ). n - 1) (drop (j + 1) begins)) (set later j c)
taken_kept first heads begins later k j p b c h some =
    let at = taken_block first heads begins later k j p b c h in
    record {
      some = All-set IsSome later j c some h.kept.some;
      headed = ap (λ (ns : List ℕ). set ns j (head_of c)) h.kept.headed ∙ sym (map-set head_of later j c);
      begun = fewer_begun first heads begins later k j p b c h;
      few = omega (arith, h.kept.few, concat_size later j c h.inside.there, at.3);
    }

remove_set : {X : Type 0} (xs : List X) (j : ℕ) (x : X) → remove (set xs j x) j ≡ remove xs j
remove_set [] zero x = refl
remove_set [] (suc j) x = refl
remove_set (y ∷ ys) zero x = refl
remove_set {X} (y ∷ ys) (suc j) x = ap (λ (zs : List X). y ∷ zs) (remove_set ys j x)

-- the block goes with its last number
pub emptied_kept : (first heads begins : List ℕ) (later : List (List ℕ)) (k j p : ℕ) (b c : List ℕ) → IsTaken first heads begins later k j p b c → length c ≡ 0
    → AreBlocks first (remove heads j) (remove (take (j + 1) begins ++ map (λ (n : ℕ). n - 1) (drop (j + 1) begins)) j) (remove (set later j c) j)
emptied_kept first heads begins later k j p b c h none =
    let at = taken_block first heads begins later k j p b c h in
    let lt = h.inside.there in
    let in' : j < length (set later j c) = omega (arith, length-set later j c, lt) in
    let here : length (get_or (set later j c) j []) ≡ 0 = ap (λ (ns : List ℕ). length ns) (get_or-set_same later j c [] lt) ∙ none in
    record {
      some = subst (λ (bs : List (List ℕ)). All IsSome bs) (sym (remove_set later j c)) (All-append IsSome (take j later) (drop (suc j) later) (All-take IsSome j later h.kept.some) (All-drop IsSome (suc j) later h.kept.some));
      headed = ap (λ (ns : List ℕ). remove ns j) h.kept.headed ∙ sym (map-remove head_of later j) ∙ ap (λ (bs : List (List ℕ)). map head_of bs) (sym (remove_set later j c));
      begun = ap (λ (ns : List ℕ). remove ns j) (fewer_begun first heads begins later k j p b c h) ∙ sym (begins_dropped (length first) (set later j c) j in' here);
      few = omega (arith, h.kept.few, concat_size later j c lt, at.3, ap (λ (ns : List ℕ). length ns) (concat_dropped (set later j c) j in' here));
    }

pub taken_shown : (first heads begins : List ℕ) (later : List (List ℕ)) (k j p : ℕ) (b c : List ℕ) → IsTaken first heads begins later k j p b c → first ++ concat (set later j c) ≡ remove (first ++ concat later) k
taken_shown first heads begins later k j p b c h =
    let at = taken_block first heads begins later k j p b c h in
    let e : before later j + (k - p) ≡ k - length first = omega (arith, at.1) in
    ap (λ (ns : List ℕ). first ++ concat (set later j ns)) at.0 ∙ ap (λ (ns : List ℕ). first ++ ns) (sym (number_taken later j (k - p) h.inside.there at.2)) ∙ ap (λ i. first ++ remove (concat later) i) e
    ∙ sym (remove-append_right first (concat later) (length first) k refl (omega (arith, at.1)))

pub emptied_shown : (first heads begins : List ℕ) (later : List (List ℕ)) (k j p : ℕ) (b c : List ℕ) → IsTaken first heads begins later k j p b c → length c ≡ 0
    → first ++ concat (remove (set later j c) j) ≡ remove (first ++ concat later) k
emptied_shown first heads begins later k j p b c h none =
    let lt = h.inside.there in
    ap (λ (ns : List ℕ). first ++ ns) (concat_dropped (set later j c) j (omega (arith, length-set later j c, lt)) (ap (λ (ns : List ℕ). length ns) (get_or-set_same later j c [] lt) ∙ none))
    ∙ taken_shown first heads begins later k j p b c h

-- a block that begins after block j has a number before it
pub begins_after : (first heads begins : List ℕ) (later : List (List ℕ)) (ns : List ℕ) (j k : ℕ) → AreBlocks first heads begins later → ns ≡ begins → j + 1 ≤ k → k < length ns → 0 < slice_index ns k
begins_after first heads begins later ns j k h e le lt =
    let is : ns ≡ begins_from (length first) later = e ∙ h.begun in
    let in' : k < length later = omega (arith, lt, ap (λ (xs : List ℕ). length xs) is, begins_size (length first) later) in
    let before' : j < length later = omega (arith, le, in') in
    omega (arith, ap (λ (xs : List ℕ). get_or xs k 0) is, begin_at (length first) later k 0 in', before_up later (j + 1) k le, before_more later j before', All-get_or IsSome later j [] before' h.some)

pub begins_after_first : (first heads begins : List ℕ) (later : List (List ℕ)) (ns : List ℕ) (k : ℕ) → AreBlocks first heads begins later → ns ≡ begins → 0 < length first → k < length ns → 0 < slice_index ns k
begins_after_first first heads begins later ns k h e some lt =
    let is : ns ≡ begins_from (length first) later = e ∙ h.begun in
    let in' : k < length later = omega (arith, lt, ap (λ (xs : List ℕ). length xs) is, begins_size (length first) later) in
    omega (arith, some, ap (λ (xs : List ℕ). get_or xs k 0) is, begin_at (length first) later k 0 in')

-- ---- a block cut

pub cut_first_kept : (first heads begins : List ℕ) (later : List (List ℕ)) (h : ℕ) → AreBlocks first heads begins later → h < length first
    → AreBlocks (take h first) (head_of (drop h first) ∷ heads) (h ∷ begins) (drop h first ∷ later)
cut_first_kept first heads begins later h k lt =
    let low : length (take h first) ≡ h = length-take-le h first (omega (arith, lt)) in
    let high = length-drop h first in
    let whole : length (take h first) + length (drop h first) ≡ length first = omega (arith, low, high, lt) in
    record {
      some = All-cons IsSome (drop h first) later (omega (arith, high, lt)) k.some;
      headed = ap (λ (ns : List ℕ). head_of (drop h first) ∷ ns) k.headed;
      begun = ap (λ n. n ∷ begins) (sym low) ∙ ap (λ (ns : List ℕ). length (take h first) ∷ ns) (k.begun ∙ ap (λ n. begins_from n later) (sym whole));
      few = omega (arith, k.few, whole, length-append (drop h first) (concat later));
    }

pub cut_first_shown : (first : List ℕ) (later : List (List ℕ)) (h : ℕ) → take h first ++ concat (drop h first ∷ later) ≡ first ++ concat later
cut_first_shown first later h = sym (append_assoc (take h first) (drop h first) (concat later)) ∙ ap (λ (ns : List ℕ). ns ++ concat later) (take-append-drop h first)

all_inserted : (bs : List (List ℕ)) (j : ℕ) (c : List ℕ) → All IsSome bs → 0 < length c → All IsSome (insert bs j c)
all_inserted bs j c some more = All-append IsSome (take j bs) (c ∷ drop j bs) (All-take IsSome j bs some) (All-cons IsSome c (drop j bs) more (All-drop IsSome j bs some))

pub cut_later_kept : (first heads begins : List ℕ) (later : List (List ℕ)) (j h : ℕ) → AreBlocks first heads begins later → j < length later → 0 < h → h < length (get_or later j [])
    → AreBlocks first (insert heads (suc j) (head_of (drop h (get_or later j [])))) (insert begins (suc j) (length first + before later j + h)) (insert (set later j (take h (get_or later j []))) (suc j) (drop h (get_or later j [])))
cut_later_kept first heads begins later j h k lt some less =
    let b : List ℕ = get_or later j [] in
    let low : length (take h b) ≡ h = length-take-le h b (omega (arith, less)) in
    let high = length-drop h b in
    record {
      some = all_inserted (set later j (take h b)) (suc j) (drop h b) (All-set IsSome later j (take h b) (omega (arith, low, some)) k.some) (omega (arith, high, less));
      headed = ap (λ (ns : List ℕ). insert ns (suc j) (head_of (drop h b))) (k.headed ∙ sym (heads_same later j (take h b) lt (get_or-take h b 0 0 some)))
          ∙ sym (map-insert head_of (set later j (take h b)) (suc j) (drop h b));
      begun = ap (λ (ns : List ℕ). insert ns (suc j) (length first + before later j + h)) k.begun ∙ ap (λ n. insert (begins_from (length first) later) (suc j) (length first + before later j + n)) (sym low)
          ∙ sym (begins_cut (length first) later j (take h b) (drop h b) lt (omega (arith, low, high, less)));
      few = omega (arith, k.few, ap (λ (ns : List ℕ). length ns) (concat_cut later j h lt));
    }

-- a block that was written, as it is read
pub written_read : (bs : List (List ℕ)) (j : ℕ) (b r : List ℕ) → j < length bs → r ≡ get_or (set bs j b) j r → r ≡ b
written_read bs j b r lt e = e ∙ get_or-set_same bs j b r lt

-- a block as it is read where room was taken for another
pub read_again : (bs cs : List (List ℕ)) (j : ℕ) (r : List ℕ) → bs ≡ cs → j < length cs → r ≡ get_or bs j r → r ≡ get_or cs j []
read_again bs cs j r same lt e = get_or_read cs j r lt (e ∙ ap (λ (ds : List (List ℕ)). get_or ds j r) same) []

pub same_insert : {X : Type 0} (xs ys : List X) (i j : ℕ) (x y : X) → xs ≡ ys → i ≡ j → x ≡ y → insert xs i x ≡ insert ys j y
same_insert xs ys i j x y e f g = ap (λ zs. insert zs i x) e ∙ ap (λ k. insert ys k x) f ∙ ap (λ z. insert ys j z) g

-- what an insert leaves that succeeds
pub put_in_room : {X E : Type 0} (r : Result (Unit {0}) E) (xs ys zs : List X) → xs ≡ cond (is_ok r) ys zs → IsOk r → xs ≡ ys
put_in_room (Ok x) xs ys zs e ok = e
put_in_room (Err x) xs ys zs e ok = absurd (false≢true ok)

-- ---- each number becomes another

pub map_kept : (f : ℕ → ℕ) (first heads begins : List ℕ) (later : List (List ℕ)) → AreBlocks first heads begins later → AreBlocks (map f first) (map f heads) begins (map (map f) later)
map_kept f first heads begins later h = record {
  some = some_map f later h.some;
  headed = ap (λ (ns : List ℕ). map f ns) h.headed ∙ sym (heads_map f later h.some);
  begun = h.begun ∙ ap (λ n. begins_from n later) (sym (length-map first f)) ∙ sym (begins_map f (length (map f first)) later);
  few = omega (arith, h.few, length-map first f, ap (λ (ns : List ℕ). length ns) (concat_map f later), length-map (concat later) f);
}

pub map_shown : (f : ℕ → ℕ) (first : List ℕ) (later : List (List ℕ)) → map f first ++ concat (map (map f) later) ≡ map f (first ++ concat later)
map_shown f first later = ap (λ (ns : List ℕ). map f first ++ ns) (concat_map f later) ∙ sym (map-append f first (concat later))
