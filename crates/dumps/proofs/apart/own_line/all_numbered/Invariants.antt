use Rattle.std.proofs.Common.{◌≡◌, ◌++◌, ◌≤◌, ◌-◌, drop, take}
use Rattle.dumps.specs.Own.{all_numbered, all_numbered_after}
use Rattle.dumps.specs.Views.{names_in}
use Rattle.dumps.proofs.apart.own_line.all_numbered.Given as goal

-- the text so far, with what is left; the piece at hand begins at `from`
abbrev pub invariant-loop-i : goal.invariant-loop-i
invariant-loop-i l = record {
  within : l.from ≤ l.i;
  whole : l.text.items ++ all_numbered_after (names_in l.rows) (take (l.i - l.from) (drop l.from l.value)) (drop l.i l.value) ≡ all_numbered (names_in l.rows) l.value;
}
