-- The words of all rows, edited in one slot after another, and two copies of a row put in after it.
use Rattle.std.proofs.Common.{◌≡◌, ◌≢◌, inl, inr, ℕ, ◌+◌, ◌-◌, ◌*◌, ◌/◌, ◌<◌, Bool, true, List, length, take, get_or, refl, sym, ◌∙◌, ap, arith, subst, replicate, length-set, ◌++◌, map, ◌^◌, [], ◌∷◌}
use Rattle.std.specs.List.{remove, insert}
use Rattle.std.proofs.Math.ListN.{set}
use Rattle.std.proofs.lemmas.Bool.{cases_eq}
use Rattle.std.proofs.lemmas.List.{get_or_default, take_at, get_or_append_left, length-map}
use Rattle.std.proofs.lemmas.List.Edits.{get_or-insert_below}
use Rattle.bits.specs.steps.Packing.{all_bits}
use Rattle.bits.specs.steps.Held.{words_in, redirected, AreHeld, AreWritten, Writes, bits_in, AreAsMany, IsAppended, IsMovedInto, IsSlotChanged, IsWidened, WordsInSlots}
use Rattle.bits.specs.steps.Summaries.{AreSummaries, IsMarked, IsSummaryOf, SumUp}
use Rattle.bits.proofs.laws.RowsLaws.{Changed, changed_by, slot_below}
use Rattle.bits.proofs.laws.HeldLaws.{IsTakenOut, appended_other, IsDoubled, doubled_held, doubled_other, doubled_shown, doubled_size, Widened}
use Rattle.bits.proofs.laws.SummaryLaws.{summed_at, word_summed, doubled_both}

-- ---- The words of all rows, edited in one slot after another.

-- ---- what an edit of one slot says of words of the width before

as_many_more : (R : List ℕ → List ℕ → Type 0) (s : ℕ) (old now new : WordsInSlots) → AreAsMany old now → IsSlotChanged R s now new → AreAsMany old new
as_many_more R s old now new h changed = record { count = changed.count ∙ h.count; width = changed.width ∙ h.width; as_long = changed.as_long ∙ h.as_long }

changed_here : (R : List ℕ → List ℕ → Type 0) (s : ℕ) (old now new : WordsInSlots) → AreAsMany old now → IsSlotChanged R s now new → R (words_in old.width now.words s) (words_in old.width new.words s)
changed_here R s old now new h changed = let P : ℕ → Type 0 = λ w. R (words_in w now.words s) (words_in w new.words s) in subst P h.width changed.changed

changed_beside : (R : List ℕ → List ℕ → Type 0) (s : ℕ) (old now new : WordsInSlots) → AreAsMany old now → IsSlotChanged R s now new → (t : ℕ) → t < old.count → t ≢ s → words_in old.width new.words t ≡ words_in old.width now.words t
changed_beside R s old now new h changed t lt ne =
    let P : ℕ → Type 0 = λ w. words_in w new.words t ≡ words_in w now.words t in subst P h.width (changed.others t (omega (arith, lt, h.count)) ne)

-- ---- a bit written in one slot after another

-- a bit written in the rows of the first so many slots, while each summary fits its row
pub record WrittenAndSummed (at : ℕ) (b : Bool) (n k : ℕ) (slots : List ℕ) (old now : WordsInSlots) (ss : List ℕ) : Type 0 where
  pub as_many : AreAsMany old now
  pub written : AreWritten at b old.width n k slots old.words now.words
  pub counted : length ss ≡ n
  pub summed : SumUp old.width ss now.words n

pub none_written : (at : ℕ) (b : Bool) (n : ℕ) (slots : List ℕ) (old : WordsInSlots) (ss : List ℕ) → length ss ≡ n → SumUp old.width ss old.words n → WrittenAndSummed at b n 0 slots old old ss
none_written at b n slots old ss count summed = record {
  as_many = record { count = refl; width = refl; as_long = refl };
  written = record { as_long = refl; written = λ k lt. absurd (omega arith); others = λ t lt none. refl };
  counted = count;
  summed = summed;
}

-- the k-th of them written
pub slot_written : (at : ℕ) (b : Bool) (n k x : ℕ) (slots : List ℕ) (old now new : WordsInSlots) (ss : List ℕ) → WrittenAndSummed at b n k slots old now ss → old.count ≡ n → k < length slots
    → ((j : ℕ) → j < length slots → get_or slots j 0 < n) → ((i j : ℕ) → i < j → j < length slots → get_or slots i 0 ≢ get_or slots j 0) → IsSlotChanged (Writes at b) (get_or slots k 0) now new
    → ((m : ℕ) → IsMarked (get_or ss (get_or slots k 0) 0) m → IsMarked x m) → (b ≡ true → IsMarked x (at / 64))
    → WrittenAndSummed at b n (k + 1) slots old new (set ss (get_or slots k 0) x)
slot_written at b n k x slots old now new ss h count lt below apart changed kept more =
    let s : ℕ = get_or slots k 0 in
    let w : ℕ = old.width in
    let here : s < n = below k lt in
    let others : (t : ℕ) → t < n → t ≢ s → words_in w new.words t ≡ words_in w now.words t = λ t lt' ne. changed_beside (Writes at b) s old now new h.as_many changed t (omega (arith, count, lt')) ne in
    let once : Writes at b (words_in w now.words s) (words_in w new.words s) = changed_here (Writes at b) s old now new h.as_many changed in
    let P : List ℕ → Type 0 = λ ws. Writes at b ws (words_in w new.words s) in
    let whole : Writes at b (words_in w old.words s) (words_in w new.words s) = subst P (h.written.others s here (λ j less. apart j k less lt)) once in
    let was : get_or ss s 0 ≡ get_or ss s (get_or ss s 0) = get_or_default ss s 0 (get_or ss s 0) (omega (arith, h.counted, here)) in
    record {
      as_many = as_many_more (Writes at b) s old now new h.as_many changed;
      written = record {
        as_long = changed.as_long ∙ h.written.as_long;
        written = λ j lt'. elim (cases_eq j k) [
          | inl e ↦ (let Q : ℕ → Type 0 = λ i. Writes at b (words_in w old.words (get_or slots i 0)) (words_in w new.words (get_or slots i 0)) in subst Q (sym e) whole)
          | inr ne ↦ (
              let less : j < k = omega (arith, lt', ne) in
              let R : List ℕ → Type 0 = λ ws. Writes at b (words_in w old.words (get_or slots j 0)) ws in
              subst R (sym (others (get_or slots j 0) (below j (omega (arith, less, lt))) (apart j k less lt))) (h.written.written j less))
        ];
        others = λ t lt' none. others t lt' (λ e. none k (omega arith) (sym e)) ∙ h.written.others t lt' (λ j less. none j (omega (arith, less)));
      };
      counted = length-set ss s x ∙ h.counted;
      summed = word_summed w n s at x (get_or ss s 0) b now.words new.words ss h.counted here h.summed once others was kept more;
    }

-- ---- each row changed, one after another

-- each row changed as far as slot i, while each summary fits its row
pub record ChangedAndSummed (R : List ℕ → List ℕ → Type 0) (n : ℕ) (old now : WordsInSlots) (ss : List ℕ) (i : ℕ) : Type 0 where
  pub as_many : AreAsMany old now
  pub changed : Changed R old.width n old.words now.words i
  pub counted : length ss ≡ n
  pub summed : SumUp old.width ss now.words n

-- that in slot i changed
pub slot_changed : (R : List ℕ → List ℕ → Type 0) (n i x : ℕ) (old now new : WordsInSlots) (ss : List ℕ) → ChangedAndSummed R n old now ss i → old.count ≡ n → i < n → IsSlotChanged R i now new → IsSummaryOf x (all_bits (words_in new.width new.words i))
    → ChangedAndSummed R n old new (set ss i x) (i + 1)
slot_changed R n i x old now new ss h count lt changed sums =
    let w : ℕ = old.width in
    let more : AreAsMany old new = as_many_more R i old now new h.as_many changed in
    let others : (t : ℕ) → t < n → t ≢ i → words_in w new.words t ≡ words_in w now.words t = λ t lt' ne. changed_beside R i old now new h.as_many changed t (omega (arith, count, lt')) ne in
    let P : ℕ → Type 0 = λ v. IsSummaryOf x (all_bits (words_in v new.words i)) in
    record {
      as_many = more;
      changed = changed_by R w n old.words now.words new.words (words_in w new.words i) i h.changed lt changed.as_long (changed_here R i old now new h.as_many changed) refl others;
      counted = length-set ss i x ∙ h.counted;
      summed = summed_at w n n i x now.words new.words ss (omega (arith, h.counted, lt)) h.summed (λ t lt' ne. (lt', others t lt' ne)) (subst P more.width sums);
    }

-- ---- more room, and more slots

-- what is said of wider slots, as it is said of rows with words of zeros after them
pub widened_slots : (n : ℕ) (old new : WordsInSlots) → old.count ≡ n → IsWidened old new → Widened old.width new.width old.words new.words n
widened_slots n old new count h =
    let more : new.width - old.width ≡ old.width = omega (arith, h.width) in
    record {
      size = h.long ∙ ap (λ k. k * new.width) (h.count ∙ count);
      rows = λ t lt. h.each t (omega (arith, lt, count)) ∙ ap (λ k. words_in old.width old.words t ++ replicate k 0) (sym more);
    }

-- the words of a slot twice after all others
pub twice_appended : (n s : ℕ) (old once new : WordsInSlots) → length old.words ≡ n * old.width → s < n → IsAppended s old once → IsAppended s once new → new.words ≡ (old.words ++ words_in old.width old.words s) ++ words_in old.width old.words s
twice_appended n s old once new size lt one other =
    let row : List ℕ = words_in old.width old.words s in
    other.words ∙ (λ i. one.words i ++ words_in (one.width i) (one.words i) s) ∙ ap (λ (more : List ℕ). (old.words ++ row) ++ more) (appended_other old.width n s old.words row size lt)

-- a slot that was added is left out again
pub left_out : (n s : ℕ) (old now new : WordsInSlots) → old.count ≡ n → length old.words ≡ n * old.width → IsAppended s old now → new.count ≡ n → new.width ≡ now.width → new.words ≡ take (n * now.width) now.words → new ≡ old
left_out n s old now new count size h fewer wide is =
    let m : new.count ≡ old.count = fewer ∙ sym count in
    let w : new.width ≡ old.width = wide ∙ h.width in
    let ws : new.words ≡ old.words = is ∙ (λ i. take (n * h.width i) (h.words i)) ∙ take_at old.words (words_in old.width old.words s) (n * old.width) size in
    λ i. record { count = m i; width = w i; words = ws i }

-- a row taken out, where the words of the last slot stand in its slot now
pub taken_out : (len k s last : ℕ) (slots slots' : List ℕ) (old new : WordsInSlots) → AreHeld len old.width slots old.words → k < length slots → s ≡ get_or slots k s → length slots ≡ last + 1 → old.count ≡ length slots
    → slots' ≡ map (redirected last s) (remove slots k) → IsMovedInto s old new → IsTakenOut len old.width slots old.words k s last slots' new.words
taken_out len k s last slots slots' old new held row slot more count slots_are moved =
    let n : new.count ≡ last = omega (arith, moved.count, count, more) in
    record {
      held = held;
      row = row;
      slot = slot;
      count = more;
      slots_are = slots_are;
      long = moved.long ∙ ap (λ m. m * old.width) n;
      here = λ lt. moved.moved (omega (arith, n, lt)) ∙ ap (λ m. words_in old.width old.words m) n;
      others = λ t lt ne. moved.others t (omega (arith, n, lt)) ne;
    }

-- ---- rows as they are held, in words of all rows

-- the rows and their summaries
abbrev pub AreKept : ℕ → List ℕ → List ℕ → WordsInSlots → Type 0
AreKept len slots ss words = AreHeld len words.width slots words.words × AreSummaries words.width ss words.words (length slots) × (words.count ≡ length slots)

-- in slots of an equal width
pub kept_as_wide : (len w : ℕ) (slots ss : List ℕ) (words : WordsInSlots) → words.width ≡ w → words.count ≡ length slots → AreHeld len w slots words.words → AreSummaries w ss words.words (length slots) → AreKept len slots ss words
kept_as_wide len w slots ss words e count held sum =
    let P : ℕ → Type 0 = λ v. AreHeld len v slots words.words × AreSummaries v ss words.words (length slots) in
    let both = subst P (sym e) (held, sum) in (both.0, both.1, count)

-- in equal ones
pub kept_again : (len : ℕ) (slots slots' ss ss' : List ℕ) (old new : WordsInSlots) → slots' ≡ slots → ss' ≡ ss → new ≡ old → AreKept len slots ss old → AreKept len slots' ss' new
kept_again len slots slots' ss ss' old new same sums words h =
    let P : List ℕ → Type 0 = λ at. AreKept len at ss' new in
    let Q : List ℕ → Type 0 = λ vs. AreKept len slots vs new in
    let R : WordsInSlots → Type 0 = λ s. AreKept len slots ss s in
    subst P (sym same) (subst Q (sym sums) (subst R (sym words) h))

-- ---- Rows of equally many bits as they are held: two copies of a row put in after it, as one copy and then another.

-- the row in slot s, the k-th, put in twice more after it, each time in a slot of its own
pub record IsCopiedTwice (len w : ℕ) (slots ws : List ℕ) (k s : ℕ) (slots' ws' : List ℕ) : Type 0 where
  pub held : AreHeld len w slots ws
  pub row : k < length slots
  pub slot : s ≡ get_or slots k s
  pub few_rows : length slots + 1 < 2 ^ 32
  pub slots_are : slots' ≡ insert (insert slots (k + 1) (length slots)) (k + 1) (length slots + 1)
  pub words_are : ws' ≡ (ws ++ words_in w ws s) ++ words_in w ws s

-- the slots and the words after the first copy
abbrev slots_between : List ℕ → ℕ → List ℕ
slots_between slots k = insert slots (k + 1) (length slots)

abbrev words_between : ℕ → List ℕ → ℕ → List ℕ
words_between w ws s = ws ++ words_in w ws s

first_copy : (len w : ℕ) (slots ws : List ℕ) (k s : ℕ) (slots' ws' : List ℕ) → IsCopiedTwice len w slots ws k s slots' ws' → IsDoubled len w slots ws k s (slots_between slots k) (words_between w ws s)
first_copy len w slots ws k s slots' ws' h = record { held = h.held; row = h.row; slot = h.slot; few_rows = omega (arith, h.few_rows); slots_are = refl; words_are = refl }

second_copy : (len w : ℕ) (slots ws : List ℕ) (k s : ℕ) (slots' ws' : List ℕ) → IsCopiedTwice len w slots ws k s slots' ws' → IsDoubled len w (slots_between slots k) (words_between w ws s) k s slots' ws'
second_copy len w slots ws k s slots' ws' h =
    let one = first_copy len w slots ws k s slots' ws' h in
    let n : length (slots_between slots k) ≡ length slots + 1 = doubled_size len w slots ws k s (slots_between slots k) (words_between w ws s) one in
    let same : words_in w (words_between w ws s) s ≡ words_in w ws s = doubled_other len w slots ws k s (slots_between slots k) (words_between w ws s) one s (slot_below len w slots ws k s h.held h.row h.slot) in
    record {
      held = doubled_held len w slots ws k s (slots_between slots k) (words_between w ws s) one;
      row = omega (arith, n, h.row);
      slot = h.slot ∙ sym (get_or-insert_below slots (k + 1) (length slots) s k (omega arith) (omega (arith, h.row)));
      few_rows = omega (arith, n, h.few_rows);
      slots_are = h.slots_are ∙ ap (λ (x : ℕ). insert (slots_between slots k) (k + 1) x) (sym n);
      words_are = h.words_are ∙ ap (λ (row : List ℕ). words_between w ws s ++ row) (sym same);
    }

pub copied_size : (len w : ℕ) (slots ws : List ℕ) (k s : ℕ) (slots' ws' : List ℕ) → IsCopiedTwice len w slots ws k s slots' ws' → length slots' ≡ length slots + 2
copied_size len w slots ws k s slots' ws' h =
    omega (
      arith,
      doubled_size len w slots ws k s (slots_between slots k) (words_between w ws s) (first_copy len w slots ws k s slots' ws' h),
      doubled_size len w (slots_between slots k) (words_between w ws s) k s slots' ws' (second_copy len w slots ws k s slots' ws' h),
    )

pub copied_shown : (len w : ℕ) (slots ws : List ℕ) (k s : ℕ) (slots' ws' : List ℕ) → IsCopiedTwice len w slots ws k s slots' ws' → (rows : List (List Bool)) → map (bits_in len w ws) slots ≡ rows
    → map (bits_in len w ws') slots' ≡ insert (insert rows (k + 1) (get_or rows k [])) (k + 1) (get_or rows k [])
copied_shown len w slots ws k s slots' ws' h rows is =
    let row : List Bool = get_or rows k [] in
    let one : map (bits_in len w (words_between w ws s)) (slots_between slots k) ≡ insert rows (k + 1) row =
    doubled_shown len w slots ws k s (slots_between slots k) (words_between w ws s) (first_copy len w slots ws k s slots' ws' h) ∙ ap (λ (rs : List (List Bool)). insert rs (k + 1) (get_or rs k [])) is in
    let long : length rows ≡ length slots = sym (ap (λ (rs : List (List Bool)). length rs) is) ∙ length-map slots (bits_in len w ws) in
    doubled_shown len w (slots_between slots k) (words_between w ws s) k s slots' ws' (second_copy len w slots ws k s slots' ws' h)
    ∙ ap (λ (rs : List (List Bool)). insert rs (k + 1) (get_or rs k [])) one
    ∙ ap (λ (r : List Bool). insert (insert rows (k + 1) row) (k + 1) r) (get_or-insert_below rows (k + 1) row [] k (omega arith) (omega (arith, h.row)))

pub copied_both : (len w : ℕ) (slots ws : List ℕ) (k s : ℕ) (slots' ws' ss : List ℕ) (x : ℕ) → IsCopiedTwice len w slots ws k s slots' ws' → AreSummaries w ss ws (length slots) → x ≡ get_or ss s x
    → (ss' : List ℕ) → ss' ≡ (ss ++ x ∷ []) ++ x ∷ [] → AreHeld len w slots' ws' × AreSummaries w ss' ws' (length slots')
copied_both len w slots ws k s slots' ws' ss x h sum is ss' made =
    let lt : s < length ss = omega (arith, sum.counted, slot_below len w slots ws k s h.held h.row h.slot) in
    let one = doubled_both len w slots ws k s (slots_between slots k) (words_between w ws s) ss x (first_copy len w slots ws k s slots' ws' h) sum is (ss ++ x ∷ []) refl in
    doubled_both len w (slots_between slots k) (words_between w ws s) k s slots' ws' (ss ++ x ∷ []) x (second_copy len w slots ws k s slots' ws' h) one.1 (is ∙ sym (get_or_append_left ss (x ∷ []) x s lt)) ss' made

-- what two pushes leave of a vector that was as another
pub pushed_twice : (new between now old : List ℕ) (x : ℕ) → now ≡ old → between ≡ now ++ x ∷ [] → new ≡ between ++ x ∷ [] → new ≡ (old ++ x ∷ []) ++ x ∷ []
pushed_twice new between now old x same e f = f ∙ ap (λ (ss : List ℕ). ss ++ x ∷ []) (e ∙ ap (λ (ss : List ℕ). ss ++ x ∷ []) same)

-- what a pair of slots leaves of a vector that was as another
pub pair_inserted : (new old : List ℕ) (k x y a b : ℕ) → x ≡ a → y ≡ b → new ≡ insert (insert old k y) k x → new ≡ insert (insert old k b) k a
pair_inserted new old k x y a b is was e =
    e ∙ ap (λ z. insert (insert old k z) k x) was ∙ ap (λ z. insert (insert old k b) k z) is
