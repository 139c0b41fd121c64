use Rattle.std.proofs.Common.{◌≡◌, ◌≤◌, ◌-◌, true, length, take, All}
use Rattle.fields.specs.text.Words.{is_bare}
use Rattle.fields.proofs.text.cutting.run_len.Given as goal

abbrev pub invariant-runs : goal.invariant-runs
invariant-runs l = record {
  within : l.at ≤ length l.bytes;
  run : All (λ byte. is_bare byte ≡ true) (take l.at l.bytes);
}

abbrev pub decreases-runs : goal.decreases-runs
decreases-runs l = length l.bytes - l.at
