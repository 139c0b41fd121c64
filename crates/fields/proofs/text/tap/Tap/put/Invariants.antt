use Rattle.std.proofs.Common.{◌≡◌, ℕ, List, ◌++◌, false, true, length}
use Rattle.std.specs.Io.KnownBytes.{Appends}
use Rattle.fields.proofs.text.tap.Tap.put.Given as goal

-- what is gone from the bytes was written
abbrev pub invariant-loop-rest : goal.invariant-loop-rest
invariant-loop-rest g l =
    let held = g.W.Write.contents in
    (done : List ℕ) × (l.bytes ≡ done ++ l.rest) × Appends (held l.initial.self.device) (held l.self.device) done × (l.self.seen.failed ≡ false) × (l.self.seen ≡ l.fn.self.seen) × (l.self.unflushed ≡ true)

abbrev pub decreases-loop-rest : goal.decreases-loop-rest
decreases-loop-rest g l = length l.rest
