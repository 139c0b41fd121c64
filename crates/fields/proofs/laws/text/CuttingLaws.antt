-- The code cuts a line into the words of the line, run by run, and keeps the words by their ends.
use Rattle.std.proofs.Common.{◌≡◌, ◌==◌, ℕ, ◌+◌, ◌<◌, ◌≤◌, true, false, not, ◌&&◌, ◌||◌, ltb, List, length, take, drop, get_or, All, sym, ap, subst, ◌∙◌, arith, ne_eqb, inl, inr, ◌≢◌, drop-cons, length-drop, ap₂, [], ◌∷◌, ◌++◌, Option, Some, None, option_and_then, refl, append_assoc, append-nil, zero, suc, ◌-◌, ◌↔◌, IsTrue, Bool, cond, nat_le, length-append}
use Rattle.std.specs.List.{prefix_len, slice_get}
use Rattle.std.specs.Simd.Lanes.{chunk}
use Rattle.std.proofs.Math.Seq.{take-add}
use Rattle.std.proofs.lemmas.Bool.{cases_lt, lt-ltb, true≢false, and_parts, and_from, le-leb, leb-true, eqb-true}
use Rattle.std.proofs.lemmas.List.{get_or-take, length-take-le, take-append-drop, take-append-le, drop-append-le, take_all, drop_all}
use Rattle.std.proofs.lemmas.List.Elements.{All-from_get_or, All-get_or, All-append, All-head, All-tail}
use Rattle.std.proofs.lemmas.Simd.{run_in_chunk_fails, run_in_chunk_le}
use Rattle.std.specs.Option.{option_map}
use Rattle.fields.specs.text.Words.{is_bare, State, Between, Bare, Quoted, Escaped, Closed, Transition, Skips, Joins, Ends, Breaks, transition_of, in_front, acted, words_from, words_of, words_to, do_rise}
use Rattle.fields.specs.steps.Cutting.{Cut, cut_by, after, at_line_end, cut_from, start, placed, joined, ended, is_unquoted, IsRun, last_end}
use Rattle.fields.proofs.laws.text.WordLaws.{bare-joins, first-joins}

-- ---- Laws of a run of bytes that is found 16 bytes at a time.

-- a byte above `"` may stand in an unquoted word
above_is_bare : (b : ℕ) → ltb b 35 ≡ false → is_bare b ≡ true
above_is_bare b off =
    let high : 35 ≤ b = elim (cases_lt b 35) [ inl low ↦ absurd (true≢false (sym (lt-ltb b 35 low) ∙ off)) | inr up ↦ up ] in
    let blank : (b == 32) ≡ false = ne_eqb b 32 (λ e. omega arith) in
    let tab : (b == 9) ≡ false = ne_eqb b 9 (λ e. omega arith) in
    let quote : (b == 34) ≡ false = ne_eqb b 34 (λ e. omega arith) in
    let newline : (b == 10) ≡ false = ne_eqb b 10 (λ e. omega arith) in
    ap (λ t. not (t || (b == 9)) && not (b == 34) && not (b == 10)) blank ∙ ap (λ t. not t && not (b == 34) && not (b == 10)) tab
    ∙ ap (λ t. not t && not (b == 10)) quote ∙ ap not newline

-- a run goes on with the bytes that come before the first up to `"`
pub run_more : (bytes : List ℕ) (at run : ℕ) → at + 16 ≤ length bytes → run ≡ prefix_len (λ byte. not (ltb byte 35)) (chunk at 16 bytes)
    → All (λ byte. is_bare byte ≡ true) (take at bytes) → (at + run ≤ length bytes) × All (λ byte. is_bare byte ≡ true) (take (at + run) bytes)
run_more bytes at run room counted before =
    let few : run ≤ 16 = run_in_chunk_le (λ b. ltb b 35) bytes at 16 run 0 room counted in
    let long : length (take (at + run) bytes) ≡ at + run = length-take-le (at + run) bytes (omega arith) in
    let first : length (take at bytes) ≡ at = length-take-le at bytes (omega arith) in
    let each : (i : ℕ) → i < length (take (at + run) bytes) → is_bare (get_or (take (at + run) bytes) i 0) ≡ true = λ i within.
    ap is_bare (get_or-take (at + run) bytes i 0 (omega arith))
    ∙ elim (cases_lt i at) [
      | inl low ↦ ap is_bare (sym (get_or-take at bytes i 0 low)) ∙ All-get_or (λ b. is_bare b ≡ true) (take at bytes) i 0 (omega arith) before
      | inr up ↦ above_is_bare (get_or bytes i 0) (run_in_chunk_fails (λ b. ltb b 35) bytes at 16 run 0 room counted i up (omega arith))
    ] in
    (omega arith, All-from_get_or (λ b. is_bare b ≡ true) (take (at + run) bytes) 0 each)

-- and with a run after it
pub run_joined : (bytes : List ℕ) (at n : ℕ) → All (λ byte. is_bare byte ≡ true) (take at bytes)
    → All (λ byte. is_bare byte ≡ true) (take n (drop at bytes)) → All (λ byte. is_bare byte ≡ true) (take (at + n) bytes)
run_joined bytes at n before after =
    subst (λ (xs : List ℕ). All (λ byte. is_bare byte ≡ true) xs) (sym (take-add at n bytes))
    (All-append (λ b. is_bare b ≡ true) (take at bytes) (take n (drop at bytes)) before after)

-- ---- The code cuts a line into the words of the line.

abbrev at : List (List ℕ) → List ℕ → State → Cut
at words word state = record { words = words; word = word; state = state }

-- the word at hand goes on with the first of the further words
abbrev glued : List (List ℕ) → List ℕ → List (List ℕ) → List (List ℕ)
glued words word [] = words ++ []
glued words word (rest ∷ further) = words ++ (word ++ rest) ∷ further

glued-joins : (words : List (List ℕ)) (word : List ℕ) (byte : ℕ) (found : Option (List (List ℕ)))
    → option_map (glued words (word ++ byte ∷ [])) found ≡ option_map (glued words word) (option_map (in_front byte) found)
glued-joins words word byte None = refl
glued-joins words word byte (Some []) = refl
glued-joins words word byte (Some (rest ∷ further)) = ap (λ w. Some (words ++ w ∷ further)) (append_assoc word (byte ∷ []) rest)

glued-ends : (words : List (List ℕ)) (word : List ℕ) (found : Option (List (List ℕ)))
    → option_map (glued (words ++ word ∷ []) []) found ≡ option_map (glued words word) (option_map (λ further. [] ∷ further) found)
glued-ends words word None = refl
glued-ends words word (Some []) = ap Some (append-nil (words ++ word ∷ []) ∙ ap (λ w. words ++ w ∷ []) (sym (append-nil word)))
glued-ends words word (Some (rest ∷ further)) =
    ap Some (append_assoc words (word ∷ []) (rest ∷ further) ∙ ap (λ w. words ++ w ∷ rest ∷ further) (sym (append-nil word)))

cut_from-act : (bytes : List ℕ) (byte : ℕ) (act : Transition) (words : List (List ℕ)) (word : List ℕ) (state : State)
    → ((ws : List (List ℕ)) (w : List ℕ) (p : State) → cut_from (at ws w p) bytes ≡ option_map (glued ws w) (words_from p bytes))
    → option_and_then (λ next. cut_from next bytes) (cut_by act byte (at words word state)) ≡ option_map (glued words word) (acted act byte (λ next. words_from next bytes))
cut_from-act bytes byte (Skips next) words word state further = further words word next
cut_from-act bytes byte (Joins next) words word state further = further words (word ++ byte ∷ []) next ∙ glued-joins words word byte (words_from next bytes)
cut_from-act bytes byte (Ends next) words word state further = further (words ++ word ∷ []) [] next ∙ glued-ends words word (words_from next bytes)
cut_from-act bytes byte Breaks words word state further = refl

cut_from-at : (bytes : List ℕ) (words : List (List ℕ)) (word : List ℕ) (state : State) → cut_from (at words word state) bytes ≡ option_map (glued words word) (words_from state bytes)
unfolding after at_line_end
cut_from-at [] words word Between = ap Some (sym (append-nil words))
cut_from-at [] words word Bare = ap (λ w. Some (words ++ w ∷ [])) (sym (append-nil word))
cut_from-at [] words word Quoted = refl
cut_from-at [] words word Escaped = refl
cut_from-at [] words word Closed = ap Some (sym (append-nil words))
cut_from-at (byte ∷ bytes) words word Between = cut_from-act bytes byte (transition_of Between byte) words word Between (λ ws w p. cut_from-at bytes ws w p)
cut_from-at (byte ∷ bytes) words word Bare = cut_from-act bytes byte (transition_of Bare byte) words word Bare (λ ws w p. cut_from-at bytes ws w p)
cut_from-at (byte ∷ bytes) words word Quoted = cut_from-act bytes byte (transition_of Quoted byte) words word Quoted (λ ws w p. cut_from-at bytes ws w p)
cut_from-at (byte ∷ bytes) words word Escaped = cut_from-act bytes byte (transition_of Escaped byte) words word Escaped (λ ws w p. cut_from-at bytes ws w p)
cut_from-at (byte ∷ bytes) words word Closed = cut_from-act bytes byte (transition_of Closed byte) words word Closed (λ ws w p. cut_from-at bytes ws w p)

-- nothing stands before the words of a line
unglued : (found : Option (List (List ℕ))) → option_map (glued [] []) found ≡ found
unglued None = refl
unglued (Some []) = refl
unglued (Some (word ∷ words)) = refl

-- what the code cuts are the words of the line
pub cut_from-start : (line : List ℕ) → cut_from start line ≡ words_of line
cut_from-start line = cut_from-at line [] [] Between ∙ unglued (words_of line)

-- what a byte makes of a cut that it joins
cut_from-joins : (byte : ℕ) (bytes : List ℕ) (words : List (List ℕ)) (word : List ℕ) (state : State) → transition_of state byte ≡ Joins Bare
    → cut_from (at words word state) (byte ∷ bytes) ≡ cut_from (at words (word ++ byte ∷ []) Bare) bytes
unfolding after
cut_from-joins byte bytes words word state does =
    ap (λ act. option_and_then (λ next. cut_from next bytes) (cut_by act byte (at words word state))) does

-- a run in an unquoted word
cut_from-bare : (run rest : List ℕ) (words : List (List ℕ)) (word : List ℕ) → IsRun run → cut_from (at words word Bare) (run ++ rest) ≡ cut_from (at words (word ++ run) Bare) rest
cut_from-bare [] rest words word bare = ap (λ w. cut_from (at words w Bare) rest) (sym (append-nil word))
cut_from-bare (byte ∷ run) rest words word bare =
    cut_from-joins byte (run ++ rest) words word Bare (bare-joins byte (All-head (λ b. is_bare b ≡ true) byte run bare))
    ∙ cut_from-bare run rest words (word ++ byte ∷ []) (All-tail (λ b. is_bare b ≡ true) byte run bare)
    ∙ ap (λ w. cut_from (at words w Bare) rest) (append_assoc word (byte ∷ []) run)

-- a run that may begin one
pub cut_from-run : (run rest : List ℕ) (words : List (List ℕ)) (word : List ℕ) (state : State) → is_unquoted state ≡ true → run ≢ [] → IsRun run
    → cut_from (at words word state) (run ++ rest) ≡ cut_from (at words (word ++ run) Bare) rest
cut_from-run run rest words word Bare unquoted some bare = cut_from-bare run rest words word bare
cut_from-run [] rest words word Between unquoted some bare = absurd (some refl)
cut_from-run (byte ∷ run) rest words word Between unquoted some bare =
    cut_from-joins byte (run ++ rest) words word Between (first-joins byte (All-head (λ b. is_bare b ≡ true) byte run bare))
    ∙ cut_from-bare run rest words (word ++ byte ∷ []) (All-tail (λ b. is_bare b ≡ true) byte run bare)
    ∙ ap (λ w. cut_from (at words w Bare) rest) (append_assoc word (byte ∷ []) run)
cut_from-run run rest words word Quoted unquoted some bare = cc
cut_from-run run rest words word Escaped unquoted some bare = cc
cut_from-run run rest words word Closed unquoted some bare = cc

-- a run at the front of the bytes, of which some are left then
pub advanced : (n : ℕ) (bytes left : List ℕ) (old new : Cut) → 0 < n → n ≤ length bytes → is_unquoted old.state ≡ true → IsRun (take n bytes)
    → new ≡ placed Bare (joined (take n bytes) old) → left ≡ drop n bytes → (length left < length bytes) × (cut_from old bytes ≡ cut_from new left)
advanced n bytes left old new some within unquoted bare next rest = (
  omega (arith, some, within, ap length rest, length-drop n bytes),
  ap (cut_from old) (sym (take-append-drop n bytes))
      ∙ cut_from-run (take n bytes) (drop n bytes) old.words old.word old.state unquoted (λ none. let none' = ap length none in omega (arith, some, within, none', length-take-le n bytes within)) bare
      ∙ ap₂ cut_from (sym next) (sym rest),
)

-- a blank at the front of the bytes ends an unquoted word
pub ended_at_blank : (bytes left : List ℕ) (old new : Cut) → 0 < length bytes → get_or bytes 0 0 ≡ 32 → old.state ≡ Bare → new ≡ placed Between (ended old)
    → left ≡ drop 1 bytes → (length left ≤ length bytes) × (cut_from old bytes ≡ cut_from new left)
unfolding after
ended_at_blank bytes left old new some first bare next rest = (
  omega (arith, some, ap length rest, length-drop 1 bytes),
  ap (cut_from old) (drop-cons bytes 0 0 (omega arith) ∙ (λ k. first k ∷ drop 1 bytes))
      ∙ ap (λ state. option_and_then (λ further. cut_from further (drop 1 bytes)) (cut_by (transition_of state 32) 32 old)) bare
      ∙ ap₂ cut_from (sym next) (sym rest),
)

-- ---- Words in one list of bytes, by their ends.

-- they rise, and do not pass the last byte
pub rise_first : (from end : ℕ) (ends : List ℕ) (last : ℕ) → do_rise from (end ∷ ends) last ≡ true → (from ≤ end) × (do_rise end ends last ≡ true)
rise_first from end ends last rise =
    let (first, others) = and_parts (nat_le from end) (do_rise end ends last) rise in
    (leb-true from end first, others)

pub rise_from : (from : ℕ) (ends : List ℕ) (last : ℕ) → do_rise from ends last ≡ true → from ≤ last
rise_from from [] last rise = leb-true from last rise
rise_from from (end ∷ ends) last rise =
    let (first, others) = rise_first from end ends last rise in
    let below = rise_from end ends last others in
    omega (arith, first, below)

-- where more bytes follow
pub rise-more : (from : ℕ) (ends : List ℕ) (last more : ℕ) → last ≤ more → do_rise from ends last ≡ true → do_rise from ends more ≡ true
rise-more from [] last more within rise = le-leb from more (let below = leb-true from last rise in omega (arith, below, within))
rise-more from (end ∷ ends) last more within rise =
    let (first, others) = rise_first from end ends last rise in
    and_from _ _ (le-leb from end first) (rise-more end ends last more within others)

-- a word more
pub rise-word : (from : ℕ) (ends : List ℕ) (last : ℕ) → do_rise from ends last ≡ true → do_rise from (ends ++ last ∷ []) last ≡ true
rise-word from [] last rise = and_from (nat_le from last) (nat_le last last) rise (le-leb last last (omega arith))
rise-word from (end ∷ ends) last rise =
    let (first, others) = rise_first from end ends last rise in
    and_from _ _ (le-leb from end first) (rise-word end ends last others)

pub last_end-within : (from : ℕ) (ends : List ℕ) (last : ℕ) → do_rise from ends last ≡ true → last_end from ends ≤ last
last_end-within from [] last rise = leb-true from last rise
last_end-within from (end ∷ ends) last rise = last_end-within end ends last (rise_first from end ends last rise).1

pub last_end-word : (from : ℕ) (ends : List ℕ) (last : ℕ) → last_end from (ends ++ last ∷ []) ≡ last
last_end-word from [] last = refl
last_end-word from (end ∷ ends) last = last_end-word end ends last

-- more bytes change no word
pub words_to-more : (bytes more : List ℕ) (from : ℕ) (ends : List ℕ) → do_rise from ends (length bytes) ≡ true → words_to (bytes ++ more) from ends ≡ words_to bytes from ends
words_to-more bytes more from [] rise = refl
words_to-more bytes more from (end ∷ ends) rise =
    let (first, others) = rise_first from end ends (length bytes) rise in
    let below = rise_from end ends (length bytes) others in
    let seam = drop-append-le from bytes more (omega (arith, first, below)) in
    let within = take-append-le (end - from) (drop from bytes) more (omega (arith, first, below, length-drop from bytes)) in
    ap₂ (λ (w : List ℕ) (ws : List (List ℕ)). w ∷ ws) (ap (take (end - from)) seam ∙ within) (words_to-more bytes more end ends others)

-- the word after the others ends at the last byte
pub words_to-word : (bytes : List ℕ) (from : ℕ) (ends : List ℕ) → do_rise from ends (length bytes) ≡ true
    → words_to bytes from (ends ++ length bytes ∷ []) ≡ words_to bytes from ends ++ drop (last_end from ends) bytes ∷ []
words_to-word bytes from [] rise = ap (λ (w : List ℕ). w ∷ []) (take_all (length bytes - from) (drop from bytes) (omega (arith, length-drop from bytes)))
words_to-word bytes from (end ∷ ends) rise =
    ap (λ (ws : List (List ℕ)). take (end - from) (drop from bytes) ∷ ws) (words_to-word bytes end ends (rise_first from end ends (length bytes) rise).1)

pub length-words_to : (bytes : List ℕ) (from : ℕ) (ends : List ℕ) → length (words_to bytes from ends) ≡ length ends
length-words_to bytes from [] = refl
length-words_to bytes from (end ∷ ends) = ap suc (length-words_to bytes end ends)

-- the first of them
pub words_to-take : (bytes : List ℕ) (from : ℕ) (ends : List ℕ) (k : ℕ) → words_to bytes from (take k ends) ≡ take k (words_to bytes from ends)
words_to-take bytes from ends zero = refl
words_to-take bytes from [] (suc k) = refl
words_to-take bytes from (end ∷ ends) (suc k) = ap (λ (ws : List (List ℕ)). take (end - from) (drop from bytes) ∷ ws) (words_to-take bytes end ends k)

pub rise-take : (from : ℕ) (ends : List ℕ) (last k : ℕ) → do_rise from ends last ≡ true → do_rise from (take k ends) last ≡ true
rise-take from ends last zero rise = le-leb from last (rise_from from ends last rise)
rise-take from [] last (suc k) rise = rise
rise-take from (end ∷ ends) last (suc k) rise =
    let (first, others) = rise_first from end ends last rise in
    and_from _ _ (le-leb from end first) (rise-take end ends last k others)

-- those after them
pub words_to-drop : (bytes : List ℕ) (from : ℕ) (ends : List ℕ) (k : ℕ) → k ≤ length ends → words_to bytes (get_or (from ∷ ends) k 0) (drop k ends) ≡ drop k (words_to bytes from ends)
words_to-drop bytes from ends zero within = refl
words_to-drop bytes from [] (suc k) within = absurd (omega (arith, within))
words_to-drop bytes from (end ∷ ends) (suc k) within = words_to-drop bytes end ends k (omega (arith, within))

pub rise-drop : (from : ℕ) (ends : List ℕ) (last k : ℕ) → k ≤ length ends → do_rise from ends last ≡ true → do_rise (get_or (from ∷ ends) k 0) (drop k ends) last ≡ true
rise-drop from ends last zero within rise = rise
rise-drop from [] last (suc k) within rise = absurd (omega (arith, within))
rise-drop from (end ∷ ends) last (suc k) within rise = rise-drop end ends last k (omega (arith, within)) (rise_first from end ends last rise).1

-- one of them
pub words_to-at : (bytes : List ℕ) (from : ℕ) (ends : List ℕ) (k : ℕ) → k < length ends
    → slice_get (words_to bytes from ends) k ≡ Some (take (get_or ends k 0 - get_or (from ∷ ends) k 0) (drop (get_or (from ∷ ends) k 0) bytes))
words_to-at bytes from [] k within = absurd (omega (arith, within))
words_to-at bytes from (end ∷ ends) zero within = refl
words_to-at bytes from (end ∷ ends) (suc k) within = words_to-at bytes end ends k (omega (arith, within))

pub rise-at : (from : ℕ) (ends : List ℕ) (last k : ℕ) → k < length ends → do_rise from ends last ≡ true
    → (get_or (from ∷ ends) k 0 ≤ get_or ends k 0) × (get_or ends k 0 ≤ last)
rise-at from [] last k within rise = absurd (omega (arith, within))
rise-at from (end ∷ ends) last zero within rise =
    let (first, others) = rise_first from end ends last rise in
    (first, rise_from end ends last others)
rise-at from (end ∷ ends) last (suc k) within rise = rise-at end ends last k (omega (arith, within)) (rise_first from end ends last rise).1

-- there is no end where there is no word
pub no_words : (bytes : List ℕ) (from : ℕ) (ends : List ℕ) (none : Bool) → none ≡ (length ends == 0) → IsTrue none ↔ (words_to bytes from ends ≡ [])
no_words bytes from [] none is = (λ _. refl, λ _. is)
no_words bytes from (end ∷ ends) none is = (λ yes. let some = eqb-true (suc (length ends)) 0 (sym is ∙ yes) in absurd (omega (arith, some)), λ empty. let none_there : suc (length (words_to bytes end ends)) ≡ 0 = ap length empty in absurd (omega (arith, none_there)))

-- What the steps of cutting keep.

pub rise-pushed : (ends bytes more now : List ℕ) (ok : Bool) → now ≡ cond ok (bytes ++ more) bytes → do_rise 0 ends (length bytes) ≡ true → do_rise 0 ends (length now) ≡ true
rise-pushed ends bytes more now true is rise = rise-more 0 ends (length bytes) (length now) (omega (arith, ap length is, length-append bytes more)) rise
rise-pushed ends bytes more now false is rise = subst (λ (bs : List ℕ). do_rise 0 ends (length bs) ≡ true) (sym is) rise

pub rise-ended : (ends bytes now : List ℕ) (ok : Bool) → now ≡ cond ok (ends ++ length bytes ∷ []) ends → do_rise 0 ends (length bytes) ≡ true → do_rise 0 now (length bytes) ≡ true
rise-ended ends bytes now true is rise = subst (λ (es : List ℕ). do_rise 0 es (length bytes) ≡ true) (sym is) (rise-word 0 ends (length bytes) rise)
rise-ended ends bytes now false is rise = subst (λ (es : List ℕ). do_rise 0 es (length bytes) ≡ true) (sym is) rise

-- the cut of these bytes and ends
abbrev pub cut_at : List ℕ → List ℕ → State → Cut
cut_at bytes ends state = record { words = words_to bytes 0 ends; word = drop (last_end 0 ends) bytes; state = state }

pub cut-joined : (ends bytes more now : List ℕ) (state : State) (ok : Bool) → now ≡ cond ok (bytes ++ more) bytes → ok ≡ true → do_rise 0 ends (length bytes) ≡ true
    → cut_at now ends state ≡ joined more (cut_at bytes ends state)
cut-joined ends bytes more now state true is done rise =
    ap (λ (bs : List ℕ). cut_at bs ends state) is
    ∙ ap₂ (λ (ws : List (List ℕ)) (w : List ℕ). record { words = ws; word = w; state = state }) (words_to-more bytes more 0 ends rise)
    (drop-append-le (last_end 0 ends) bytes more (last_end-within 0 ends (length bytes) rise))
cut-joined ends bytes more now state false is done rise = cc

pub cut-ended : (ends bytes now : List ℕ) (state : State) (ok : Bool) → now ≡ cond ok (ends ++ length bytes ∷ []) ends → ok ≡ true → do_rise 0 ends (length bytes) ≡ true
    → cut_at bytes now state ≡ ended (cut_at bytes ends state)
cut-ended ends bytes now state true is done rise =
    ap (λ (es : List ℕ). cut_at bytes es state) is
    ∙ ap₂ (λ (ws : List (List ℕ)) (w : List ℕ). record { words = ws; word = w; state = state }) (words_to-word bytes 0 ends rise)
    (ap (λ from. drop from bytes) (last_end-word 0 ends (length bytes)) ∙ drop_all (length bytes) bytes (omega arith))
cut-ended ends bytes now state false is done rise = cc
