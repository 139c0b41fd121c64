use Rattle.fields.specs.text.Tap.{has_failed, known, turns_left}
use Rattle.std.proofs.Common.{true, ◌≡◌, ◌≤◌, vec_len, vec_capacity}
use Rattle.fields.specs.text.Line.{ReadsPart}
use Rattle.fields.proofs.text.tap.Tap.read_line.Given as goal

-- a part of the line was read; a tap that had failed is as it was
abbrev pub invariant-loop-read : goal.invariant-loop-read
invariant-loop-read g l =
    let left = known g.R.Read.remaining in
    record {
      reads : ReadsPart (left l.initial.self) (left l.self) (turns_left l.fn.self) (turns_left l.self) l.max l.line.items l.too_long;
      within : vec_len l.line ≤ l.max;
      room : l.max ≤ vec_capacity l.line;
      capacity : vec_capacity l.fn.line ≤ vec_capacity l.line;
      stays : has_failed l.fn.self ≡ true → l.self ≡ l.fn.self;
      turns : turns_left l.self ≤ turns_left l.fn.self;
    }

abbrev pub decreases-loop-read : goal.decreases-loop-read
decreases-loop-read g l = turns_left l.self
