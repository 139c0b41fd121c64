-- Laws of words that hold so many bits, with no bit set past them.
use Rattle.std.proofs.Common.{All, ◌≡◌, ℕ, zero, suc, ◌+◌, ◌-◌, ◌*◌, ◌/◌, ◌%◌, ◌^◌, ◌<◌, ◌≤◌, Bool, false, List, [], ◌∷◌, ◌++◌, length, take, drop, get_or, refl, sym, ◌∙◌, ap, arith, append_assoc, drop-drop, length-drop, ◌≢◌, length-append, subst}
use Rattle.std.proofs.Math.ListN.{set}
use Rattle.std.specs.List.{insert, remove}
use Rattle.std.proofs.lemmas.List.{take-append-drop, length-take-le, take_at, drop_at, drop-append-le, take-append-le, take_more, get_or-drop, get_or-take, get_or_read, drop_all}
use Rattle.std.proofs.lemmas.List.Edits.{insert-append_left, remove-append_left, length-insert, length-remove, insert_end}
use Rattle.std.proofs.lemmas.List.Elements.{All-append, All-take, All-same, All-cons, All-nil, All-drop, All-get_or}
use Rattle.bits.specs.steps.Packing.{word_bits, all_bits, low_bit, IsPacked, IsOpen, room_of}
use Rattle.bits.specs.steps.Held.{IsPadded}
use Rattle.bits.specs.BitRow.{BitsAndRoom, places_left, row_room}
use Rattle.bits.proofs.laws.BitLaws.{length-all_bits, all_bits-append, all_bits-one, all_bits-cut, all_bit_at, all_bits-set}

abbrev Off : Bool → Type 0
Off b = b ≡ false

-- a word of 0 has no bit
pub zeros : (n : ℕ) → All Off (word_bits n 0)
unfolding word_bits
zeros zero = All-nil Off
zeros (suc n) = All-cons Off false (word_bits n 0) refl (zeros n)

pub front_size : (ws : List ℕ) (len : ℕ) → len ≤ 64 * length ws → length (take len (all_bits ws)) ≡ len
front_size ws len le = length-take-le len (all_bits ws) (omega (arith, length-all_bits ws))

-- ---- a bit comes in

pub put_whole : (ws us : List ℕ) (len at : ℕ) (b c : Bool) → len ≤ 64 * length ws → at ≤ len → all_bits us ++ c ∷ [] ≡ insert (all_bits ws) at b
    → all_bits us ++ c ∷ [] ≡ insert (take len (all_bits ws)) at b ++ drop len (all_bits ws)
put_whole ws us len at b c le in' e =
    let n : length (take len (all_bits ws)) ≡ len = front_size ws len le in
    e ∙ ap (λ (ys : List Bool). insert ys at b) (sym (take-append-drop len (all_bits ws))) ∙ insert-append_left (take len (all_bits ws)) (drop len (all_bits ws)) at b (omega arith)

put_length : (ws : List ℕ) (len at : ℕ) (b : Bool) → len ≤ 64 * length ws → at ≤ len → length (insert (take len (all_bits ws)) at b) ≡ len + 1
put_length ws len at b le in' =
    let n : length (take len (all_bits ws)) ≡ len = front_size ws len le in
    length-insert (take len (all_bits ws)) at b (omega arith) ∙ ap (λ k. k + 1) n

pub put_front : (ws us : List ℕ) (len at : ℕ) (b c : Bool) → len < 64 * length ws → at ≤ len → all_bits us ++ c ∷ [] ≡ insert (all_bits ws) at b → length us ≡ length ws
    → take (len + 1) (all_bits us) ≡ insert (take len (all_bits ws)) at b
put_front ws us len at b c lt in' e n =
    let le : len ≤ 64 * length ws = omega arith in
    let le' : len + 1 ≤ length (all_bits us) = omega (arith, length-all_bits us) in
    sym (take-append-le (len + 1) (all_bits us) (c ∷ []) le') ∙ ap (λ (bs : List Bool). take (len + 1) bs) (put_whole ws us len at b c le in' e)
    ∙ take_at (insert (take len (all_bits ws)) at b) (drop len (all_bits ws)) (len + 1) (put_length ws len at b le in')

pub put_padded : (ws us : List ℕ) (len at : ℕ) (b c : Bool) → len < 64 * length ws → IsPadded ws len → at ≤ len → all_bits us ++ c ∷ [] ≡ insert (all_bits ws) at b → length us ≡ length ws
    → IsPadded us (len + 1)
put_padded ws us len at b c lt h in' e n =
    let le : len ≤ 64 * length ws = omega arith in
    let le' : len + 1 ≤ length (all_bits us) = omega (arith, length-all_bits us) in
    let rest : drop (len + 1) (all_bits us) ++ c ∷ [] ≡ drop len (all_bits ws) =
    sym (drop-append-le (len + 1) (all_bits us) (c ∷ []) le') ∙ ap (λ (bs : List Bool). drop (len + 1) bs) (put_whole ws us len at b c le in' e)
    ∙ drop_at (insert (take len (all_bits ws)) at b) (drop len (all_bits ws)) (len + 1) (put_length ws len at b le in') in
    let k : ℕ = length (drop (len + 1) (all_bits us)) in
    let part : drop (len + 1) (all_bits us) ≡ take k (drop len (all_bits ws)) =
    sym (take_at (drop (len + 1) (all_bits us)) (c ∷ []) k refl) ∙ ap (λ (bs : List Bool). take k bs) rest in
    All-same Off (drop (len + 1) (all_bits us)) (take k (drop len (all_bits ws))) part (All-take Off k (drop len (all_bits ws)) h)

-- a 0 after the last bit, which is there already
pub zero_padded : (ws : List ℕ) (len : ℕ) → IsPadded ws len → IsPadded ws (len + 1)
zero_padded ws len h = All-same Off (drop (len + 1) (all_bits ws)) (drop 1 (drop len (all_bits ws))) (sym (drop-drop 1 len (all_bits ws))) (All-drop Off 1 (drop len (all_bits ws)) h)

pub zero_front : (ws : List ℕ) (len : ℕ) → len < 64 * length ws → IsPadded ws len → take (len + 1) (all_bits ws) ≡ insert (take len (all_bits ws)) len false
zero_front ws len lt h =
    let lt' : len < length (all_bits ws) = omega (arith, length-all_bits ws) in
    let n : length (take len (all_bits ws)) ≡ len = front_size ws len (omega arith) in
    let rest : 0 < length (drop len (all_bits ws)) = omega (arith, length-drop len (all_bits ws)) in
    let z : len + 0 ≡ len = omega arith in
    let zero_there : get_or (all_bits ws) len false ≡ false =
    sym (ap (λ k. get_or (all_bits ws) k false) z) ∙ sym (get_or-drop len (all_bits ws) 0 false) ∙ All-get_or Off (drop len (all_bits ws)) 0 false rest h in
    take_more (all_bits ws) len false lt' ∙ ap (λ c. take len (all_bits ws) ++ c ∷ []) zero_there ∙ sym (insert_end (take len (all_bits ws)) false)
    ∙ ap (λ k. insert (take len (all_bits ws)) k false) n

-- ---- a bit leaves

pub remove_whole : (ws us : List ℕ) (len at : ℕ) → len ≤ 64 * length ws → at < len → all_bits us ≡ remove (all_bits ws) at ++ false ∷ []
    → all_bits us ≡ remove (take len (all_bits ws)) at ++ (drop len (all_bits ws) ++ false ∷ [])
remove_whole ws us len at le in' e =
    let n : length (take len (all_bits ws)) ≡ len = front_size ws len le in
    e ∙ ap (λ (bs : List Bool). remove bs at ++ false ∷ []) (sym (take-append-drop len (all_bits ws)))
    ∙ ap (λ (bs : List Bool). bs ++ false ∷ []) (remove-append_left (take len (all_bits ws)) (drop len (all_bits ws)) at (omega arith))
    ∙ append_assoc (remove (take len (all_bits ws)) at) (drop len (all_bits ws)) (false ∷ [])

removed_length : (ws : List ℕ) (len at : ℕ) → len ≤ 64 * length ws → at < len → length (remove (take len (all_bits ws)) at) ≡ len - 1
removed_length ws len at le in' =
    let n : length (take len (all_bits ws)) ≡ len = front_size ws len le in
    omega (arith, length-remove (take len (all_bits ws)) at (omega arith))

pub remove_front : (ws us : List ℕ) (len at : ℕ) → len ≤ 64 * length ws → at < len → all_bits us ≡ remove (all_bits ws) at ++ false ∷ []
    → take (len - 1) (all_bits us) ≡ remove (take len (all_bits ws)) at
remove_front ws us len at le in' e =
    ap (λ (bs : List Bool). take (len - 1) bs) (remove_whole ws us len at le in' e)
    ∙ take_at (remove (take len (all_bits ws)) at) (drop len (all_bits ws) ++ false ∷ []) (len - 1) (removed_length ws len at le in')

pub remove_padded : (ws us : List ℕ) (len at : ℕ) → len ≤ 64 * length ws → IsPadded ws len → at < len → all_bits us ≡ remove (all_bits ws) at ++ false ∷ [] → IsPadded us (len - 1)
remove_padded ws us len at le h in' e =
    let rest : drop (len - 1) (all_bits us) ≡ drop len (all_bits ws) ++ false ∷ [] =
    ap (λ (bs : List Bool). drop (len - 1) bs) (remove_whole ws us len at le in' e)
    ∙ drop_at (remove (take len (all_bits ws)) at) (drop len (all_bits ws) ++ false ∷ []) (len - 1) (removed_length ws len at le in') in
    All-same Off (drop (len - 1) (all_bits us)) (drop len (all_bits ws) ++ false ∷ []) rest (All-append Off (drop len (all_bits ws)) (false ∷ []) h (All-cons Off false [] refl (All-nil Off)))

-- ---- a bit read or written

pub bit_at : (ws : List ℕ) (len at w : ℕ) → len ≤ 64 * length ws → at < len → w ≡ get_or ws (at / 64) w → get_or (take len (all_bits ws)) at false ≡ low_bit (w / 2 ^ (at % 64))
bit_at ws len at w le lt is =
    let e : 64 * (at / 64) + at % 64 ≡ at = omega arith in
    let in' : at / 64 < length ws = omega arith in
    get_or-take len (all_bits ws) at false lt ∙ ap (λ k. get_or (all_bits ws) k false) (sym e) ∙ all_bit_at ws (at / 64) (at % 64) (omega arith)
    ∙ ap (λ v. low_bit (v / 2 ^ (at % 64))) (sym (get_or_read ws (at / 64) w in' is 0))

pub set_whole : (ws : List ℕ) (at w word : ℕ) (b : Bool) → at < 64 * length ws → word ≡ get_or ws (at / 64) word → word_bits 64 w ≡ set (word_bits 64 word) (at % 64) b
    → all_bits (set ws (at / 64) w) ≡ set (all_bits ws) at b
set_whole ws at w word b lt is e =
    let f : 64 * (at / 64) + at % 64 ≡ at = omega arith in
    let in' : at / 64 < length ws = omega arith in
    all_bits-set ws (at / 64) (at % 64) w b in' (omega arith) (e ∙ ap (λ v. set (word_bits 64 v) (at % 64) b) (get_or_read ws (at / 64) word in' is 0)) ∙ ap (λ k. set (all_bits ws) k b) f

-- ---- Laws of words that hold so many bits.

pub open_new : (ws : List ℕ) (len : ℕ) → IsPacked ws len → len % 64 ≡ 0 → length ws + 1 < 2 ^ 58 → IsOpen ws (ws ++ 0 ∷ []) len
open_new ws len h full small =
    let n : length (ws ++ 0 ∷ []) ≡ length ws + 1 = length-append ws (0 ∷ []) in
    let even : len ≡ 64 * length ws = omega (arith, h.covers, h.tight) in
    let bits : all_bits (ws ++ 0 ∷ []) ≡ all_bits ws ++ word_bits 64 0 = all_bits-append ws (0 ∷ []) ∙ ap (λ (bs : List Bool). all_bits ws ++ bs) (all_bits-one 0) in
    let size : length (all_bits ws) ≡ len = length-all_bits ws ∙ sym even in
    record {
      more = omega arith;
      tight = omega arith;
      few = omega arith;
      padded = All-same Off (drop len (all_bits (ws ++ 0 ∷ []))) (word_bits 64 0) (ap (λ (bs : List Bool). drop len bs) bits ∙ drop_at (all_bits ws) (word_bits 64 0) len size) (zeros 64);
      same = ap (λ (bs : List Bool). take len bs) bits ∙ take-append-le len (all_bits ws) (word_bits 64 0) (omega arith);
    }

pub put_bits : (old ws us : List ℕ) (len at : ℕ) (b c : Bool) → IsOpen old ws len → at ≤ len → all_bits us ++ c ∷ [] ≡ insert (all_bits ws) at b → length us ≡ length ws
    → take (len + 1) (all_bits us) ≡ insert (take len (all_bits old)) at b
put_bits old ws us len at b c h in' e n = put_front ws us len at b c h.more in' e n ∙ ap (λ (bs : List Bool). insert bs at b) h.same

pub put_packed : (old ws us : List ℕ) (len at : ℕ) (b c : Bool) → IsOpen old ws len → at ≤ len → all_bits us ++ c ∷ [] ≡ insert (all_bits ws) at b → length us ≡ length ws
    → IsPacked us (len + 1)
put_packed old ws us len at b c h in' e n = record {
  covers = omega (arith, h.more);
  tight = omega (arith, h.tight);
  few = omega (arith, h.few);
  padded = put_padded ws us len at b c h.more h.padded in' e n;
}

pub remove_packed : (ws us : List ℕ) (len at : ℕ) → IsPacked ws len → at < len → all_bits us ≡ remove (all_bits ws) at ++ false ∷ [] → length us ≡ length ws
    → (len - 1) % 64 ≢ 0 → IsPacked us (len - 1)
remove_packed ws us len at h in' e n part = record {
  covers = omega (arith, h.covers);
  tight = omega (arith, h.covers, h.tight);
  few = omega (arith, h.few);
  padded = remove_padded ws us len at h.covers h.padded in' e;
}

-- the last word is no longer needed
pub remove_word : (ws us : List ℕ) (len at : ℕ) → IsPacked ws len → at < len → length us ≡ length ws → (len - 1) % 64 ≡ 0
    → IsPacked (take (length us - 1) us) (len - 1)
remove_word ws us len at h in' n full =
    let even : len - 1 ≡ 64 * (length us - 1) = omega (arith, h.covers, h.tight) in
    let short : length us - 1 ≤ length us = omega arith in
    let m : length (take (length us - 1) us) ≡ length us - 1 = length-take-le (length us - 1) us short in
    let size : length (all_bits (take (length us - 1) us)) ≡ len - 1 = length-all_bits (take (length us - 1) us) ∙ ap (λ k. 64 * k) m ∙ sym even in
    record {
      covers = omega arith;
      tight = omega arith;
      few = omega (arith, h.few);
      padded = All-same Off (drop (len - 1) (all_bits (take (length us - 1) us))) [] (drop_all (len - 1) (all_bits (take (length us - 1) us)) (omega arith)) (All-nil Off);
    }

pub remove_word_bits : (ws us : List ℕ) (len at : ℕ) → IsPacked ws len → at < len → all_bits us ≡ remove (all_bits ws) at ++ false ∷ [] → length us ≡ length ws → (len - 1) % 64 ≡ 0
    → take (len - 1) (all_bits (take (length us - 1) us)) ≡ remove (take len (all_bits ws)) at
remove_word_bits ws us len at h in' e n full =
    let even : len - 1 ≡ 64 * (length us - 1) = omega (arith, h.covers, h.tight) in
    let short : length us - 1 ≤ length us = omega arith in
    let m : length (take (length us - 1) us) ≡ length us - 1 = length-take-le (length us - 1) us short in
    let size : length (all_bits (take (length us - 1) us)) ≡ len - 1 = length-all_bits (take (length us - 1) us) ∙ ap (λ k. 64 * k) m ∙ sym even in
    sym (ap (λ (bs : List Bool). take (len - 1) bs) (all_bits-cut us (length us - 1))
    ∙ take-append-le (len - 1) (all_bits (take (length us - 1) us)) (all_bits (drop (length us - 1) us)) (omega arith))
    ∙ remove_front ws us len at h.covers in' e

-- ---- the same over a vector, which a call writes as a slice

whole_write : (n : ℕ) (us ws : List ℕ) → length us ≡ n → take n (us ++ drop (length us) ws) ≡ us
whole_write n us ws e = take_at us (drop (length us) ws) n e

pub front_len : (ws : List ℕ) (len : ℕ) → IsPacked ws len → length (take len (all_bits ws)) ≡ len
front_len ws len h = front_size ws len h.covers

pub put_packed_vec : (old ws now us : List ℕ) (n len at : ℕ) (b c : Bool) → now ≡ ws → length now ≡ n → length us ≡ length now → IsOpen old ws len → at ≤ len
    → all_bits us ++ c ∷ [] ≡ insert (all_bits now) at b → IsPacked (take n (us ++ drop (length us) ws)) (len + 1)
put_packed_vec old ws now us n len at b c is size same h in' e =
    let P : List ℕ → Type 0 = λ vs. IsPacked vs (len + 1) in
    subst P (sym (whole_write n us ws (same ∙ size)))
    (put_packed old ws us len at b c h in' (e ∙ ap (λ (vs : List ℕ). insert (all_bits vs) at b) is) (same ∙ ap length is))

pub put_bits_vec : (old ws now us : List ℕ) (n len at : ℕ) (b c : Bool) → now ≡ ws → length now ≡ n → length us ≡ length now → IsOpen old ws len → at ≤ len
    → all_bits us ++ c ∷ [] ≡ insert (all_bits now) at b → take (len + 1) (all_bits (take n (us ++ drop (length us) ws))) ≡ insert (take len (all_bits old)) at b
put_bits_vec old ws now us n len at b c is size same h in' e =
    ap (λ (vs : List ℕ). take (len + 1) (all_bits vs)) (whole_write n us ws (same ∙ size))
    ∙ put_bits old ws us len at b c h in' (e ∙ ap (λ (vs : List ℕ). insert (all_bits vs) at b) is) (same ∙ ap length is)

-- what a removal leaves in the vector, before the last word may go
pub record IsRemoved (ws us : List ℕ) (len at : ℕ) : Type 0 where
  pub packed : IsPacked ws len
  pub within : at < len
  pub bits : all_bits us ≡ remove (all_bits ws) at ++ false ∷ []
  pub as_long : length us ≡ length ws

pub removed_vec : (ws now us : List ℕ) (n len at : ℕ) → now ≡ ws → length now ≡ n → length us ≡ length now → IsPacked ws len → at < len
    → all_bits us ≡ remove (all_bits now) at ++ false ∷ [] → IsRemoved ws (take n (us ++ drop (length us) ws)) len at
removed_vec ws now us n len at is size same h in' e =
    let P : List ℕ → Type 0 = λ vs. IsRemoved ws vs len at in
    subst P (sym (whole_write n us ws (same ∙ size)))
    (record { packed = h; within = in'; bits = e ∙ ap (λ (vs : List ℕ). remove (all_bits vs) at ++ false ∷ []) is; as_long = same ∙ ap length is })

pub popped_packed : (ws us vs : List ℕ) (m len at : ℕ) → IsRemoved ws us len at → (len - 1) % 64 ≡ 0 → length ws ≡ m → vs ≡ take (m - 1) us → IsPacked vs (len - 1)
popped_packed ws us vs m len at h full n is =
    let P : List ℕ → Type 0 = λ zs. IsPacked zs (len - 1) in
    subst P (sym (is ∙ ap (λ k. take (k - 1) us) (sym (h.as_long ∙ n)))) (remove_word ws us len at h.packed h.within h.as_long full)

pub popped_bits : (ws us vs : List ℕ) (m len at : ℕ) → IsRemoved ws us len at → (len - 1) % 64 ≡ 0 → length ws ≡ m → vs ≡ take (m - 1) us
    → take (len - 1) (all_bits vs) ≡ remove (take len (all_bits ws)) at
popped_bits ws us vs m len at h full n is =
    ap (λ (zs : List ℕ). take (len - 1) (all_bits zs)) (is ∙ ap (λ k. take (k - 1) us) (sym (h.as_long ∙ n))) ∙ remove_word_bits ws us len at h.packed h.within h.bits h.as_long full

-- ---- a 0 after the last bit, which is there already

pub zero_packed : (ws : List ℕ) (len : ℕ) → IsPacked ws len → len % 64 ≢ 0 → IsPacked ws (len + 1)
zero_packed ws len h part = record {
  covers = omega (arith, h.covers, h.tight);
  tight = omega (arith, h.tight);
  few = h.few;
  padded = zero_padded ws len h.padded;
}

pub zero_bits : (ws : List ℕ) (len at : ℕ) (b : Bool) → IsPacked ws len → len % 64 ≢ 0 → at ≡ len → b ≡ false → take (len + 1) (all_bits ws) ≡ insert (take len (all_bits ws)) at b
zero_bits ws len at b h part is off =
    zero_front ws len (omega (arith, h.covers, h.tight)) h.padded
    ∙ ap (λ k. insert (take len (all_bits ws)) k false) (sym is) ∙ ap (λ c. insert (take len (all_bits ws)) at c) (sym off)

-- ---- how many bits more go in

-- the places that the last word has left are among those of the room
pub room_covers : (ws : List ℕ) (capacity len : ℕ) → IsPacked ws len → length ws ≤ capacity → places_left len ≤ room_of capacity len
room_covers ws capacity len h le = omega (arith, h.covers, h.tight, h.few)

-- a row that gives up a bit has room for one more
pub freed_room : (r : BitsAndRoom) (ws : List ℕ) (capacity len : ℕ) → IsPacked ws len → length ws ≤ capacity → length r.bits ≡ len → room_of capacity len ≡ r.room → 0 < len → row_room r < room_of capacity (len - 1)
freed_room r ws capacity len h le n same some =
    let most : places_left len ≤ room_of capacity len = room_covers ws capacity len h le in
    let left : places_left (length r.bits) ≡ places_left len = ap places_left n in
    omega (arith, h.covers, h.few)
