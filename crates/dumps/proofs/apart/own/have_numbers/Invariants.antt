use Rattle.std.proofs.Common.{◌≡◌, ◌≤◌, ◌-◌, drop, take}
use Rattle.dumps.specs.Own.{all_numbered, all_numbered_after, has_letter}
use Rattle.dumps.specs.Views.{names_in}
use Rattle.dumps.proofs.apart.own.have_numbers.Given as goal

-- what was read has no letter, and the piece at hand begins at `from`
abbrev pub invariant-loop-i : goal.invariant-loop-i
invariant-loop-i l = record {
  within : l.from ≤ l.i;
  letters : has_letter (all_numbered_after (names_in l.rows) (take (l.i - l.from) (drop l.from l.value)) (drop l.i l.value)) ≡ has_letter (all_numbered (names_in l.rows) l.value);
}
