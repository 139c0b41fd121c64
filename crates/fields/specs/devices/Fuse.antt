-- When the calls of a test device fail: how many bytes each call moves at most, which call fails, and how.
use Rattle.std.specs.Prelude.{◌≡◌, ℕ, ◌+◌, ◌-◌, ◌^◌, ◌==◌, min, nat_lt, Bool, false, Option, Some, None, Result, IsOkAnd, IsErrAnd}
use Rattle.std.specs.Prelude.{if◌then◌else◌}
use Rattle.std.specs.Bool.{MatchBool}
use Rattle.std.specs.IoError.{error_kind}
use Rattle.std.specs.declared.io.Error.{Error}
use Rattle.std.specs.declared.io.ErrorKind.{ErrorKind}
use Rattle.std.specs.declared.io.ErrorKind.TheVariants as kinds
use Rattle.fields.specs.declared.devices.fuse.Failure.{Failure}
use Rattle.fields.specs.declared.devices.fuse.Failure.TheVariants as ways
use Rattle.fields.specs.declared.devices.fuse.Fuse.{Fuse}

-- the most bytes that a call moves
abbrev pub most_of : Fuse → ℕ
most_of f = f.most

-- how many calls were made
abbrev pub calls_of : Fuse → ℕ
calls_of f = f.calls

-- the number of the call that fails, counted from 0, if one does
abbrev pub due_of : Fuse → Option ℕ
due_of f = f.due

-- how that call fails
abbrev pub failure_of : Fuse → Failure
failure_of f = f.failure

-- whether the call with this number is the one that fails
abbrev pub is_call : ℕ → Option ℕ → Bool
is_call call None = false
is_call call (Some due) = due == call

-- the call that fails, if more calls than its number were made
abbrev pub passed : ℕ → Option ℕ → Option ℕ
passed calls None = None
passed calls (Some due) = if nat_lt due calls then Some due else None

-- whether the next call is the one that fails
abbrev pub is_due : Fuse → Bool
is_due f = is_call (calls_of f) (due_of f)

-- the call that failed, if it was made already
abbrev pub failed_call : Fuse → Option ℕ
failed_call f = passed (calls_of f) (due_of f)

-- one call more, and no other change; the count stays at its greatest value
abbrev pub counted : Fuse → Fuse
counted f = record f { calls = min (f.calls + 1) (2 ^ 64 - 1) }

-- the kind of the error by which a call fails
abbrev pub kind_of : Failure → ErrorKind
kind_of ways.Error = kinds.Other
kind_of ways.Interrupted = kinds.Interrupted
kind_of ways.Nothing = kinds.Other

-- the call failed with an error of that kind
abbrev pub IsRefusal : {X : Type 0} → Failure → Result X Error → Type 0
IsRefusal failure r = IsErrAnd r (λ e. error_kind e ≡ kind_of failure)

-- the write failed in this way: with an error, or by taking no byte
abbrev pub IsFailure : Failure → Result ℕ Error → Type 0
IsFailure ways.Error r = IsRefusal ways.Error r
IsFailure ways.Interrupted r = IsRefusal ways.Interrupted r
IsFailure ways.Nothing r = IsOkAnd r (λ n. n ≡ 0)

-- the call fails where it is due, with an error of its kind; else it succeeds with a value of which P holds
abbrev pub GoesOn : {X : Type 0} → Fuse → Result X Error → (X → Type 0) → Type 0
GoesOn f r P = MatchBool (is_due f) (IsRefusal (failure_of f) r) (IsOkAnd r P)

-- the write fails where it is due, with an error of its kind or by taking no byte; else it takes n bytes
abbrev pub WritesOn : Fuse → Result ℕ Error → ℕ → Type 0
WritesOn f r n = MatchBool (is_due f) (IsFailure (failure_of f) r) (IsOkAnd r (λ taken. taken ≡ n))
