-- What contracts say of a `Tap`, through which a program reads or writes: it counts steps and remembers a failure.
use Rattle.std.specs.Prelude.{◌≡◌, ◌≤◌, ◌==◌, ◌||◌, ◌&&◌, ℕ, IfSome, Bool, true, false, List, [], ◌++◌, length, Option, Result, Ok, Err, MatchResult}
use Rattle.std.specs.Borrow.{Bor}
use Rattle.std.specs.Io.KnownBytes.{Appends}
use Rattle.fields.specs.declared.text.tap.Tap.{Tap}

-- the tap has failed; no further call reaches its device then
abbrev pub has_failed : {T : Type 0} → Tap T → Bool
has_failed t = t.seen.failed

-- the device behind the tap
abbrev pub device : {T : Type 0} → Tap T → T
device t = t.device

-- what is known of the device: the bytes that it has left, or those that it holds
abbrev pub known : {T X : Type 0} → (T → Option X) → Tap T → Option X
known bytes t = bytes t.device

-- how many steps of reading are left
abbrev pub turns_left : {T : Type 0} → Tap T → ℕ
turns_left t = t.seen.turns

-- how many of the bytes that `fill` showed last weren't taken yet
abbrev pub shown_left : {T : Type 0} → Tap T → ℕ
shown_left t = t.seen.shown

-- the tap was asked for more bytes than it showed while answers were withheld, or may have been
abbrev pub is_late : {T : Type 0} → Tap T → Bool
is_late t = t.seen.late

-- the same, once it is asked again
abbrev pub is_late_after : {T : Type 0} → Tap T → Bool → Bool
is_late_after t withheld = is_late t || (withheld && shown_left t == 0)

-- no more bytes are left to show than the reader has left, where it is known what it has left
abbrev pub ShowsWithin : Option (List ℕ) → Option (List ℕ) → ℕ → Type 0
ShowsWithin old new left = IfSome old (λ _. IfSome new (λ bytes. left ≤ length bytes))

-- how many bytes a `fill` showed
abbrev pub lent : {E : Type 0} → Result (Bor (List ℕ)) E → ℕ
lent (Ok bytes) = length bytes.now
lent (Err e) = 0

-- bytes may be held back: some were written since the last flush
abbrev pub is_unflushed : {T : Type 0} → Tap T → Bool
is_unflushed t = t.unflushed

-- if nothing is held back after the call, nothing was before it, and the call wrote nothing
abbrev pub Keeps : {T : Type 0} → Tap T → Tap T → List ℕ → Type 0
Keeps old new bs = is_unflushed new ≡ false → (is_unflushed old ≡ false) × (bs ≡ [])

-- `part` is the beginning of `whole`
abbrev pub IsBeginning : List ℕ → List ℕ → Type 0
IsBeginning part whole = (rest : List ℕ) × (whole ≡ part ++ rest)

-- the writer got the bytes, and has failed neither before the call nor in it
pub record Wrote {T : Type 0} (contents : T → Option (List ℕ)) (old new : Tap T) (bs : List ℕ) : Type 0 where
  pub ready : has_failed old ≡ false
  pub fresh : has_failed new ≡ false
  pub appends : Appends (known contents old) (known contents new) bs

-- the writer has failed and got a beginning of the bytes; one that had failed before is unchanged
pub record Stopped {T : Type 0} (contents : T → Option (List ℕ)) (old new : Tap T) (bs : List ℕ) : Type 0 where
  pub failed : has_failed new ≡ true
  pub unmoved : has_failed old ≡ true → new ≡ old
  pub part : List ℕ
  pub begins : IsBeginning part bs
  pub appends : Appends (known contents old) (known contents new) part

-- the call succeeded and the writer got the bytes, or the writer has failed and got a beginning of them; one that had failed before
-- is unchanged
abbrev pub Puts : {T X E : Type 0} → (T → Option (List ℕ)) → Tap T → Tap T → Result X E → List ℕ → Type 0
Puts contents old new r bs = MatchResult r (λ _. Wrote contents old new bs) (λ _. Stopped contents old new bs)
