use Rattle.std.proofs.Common.{◌≡◌, length}
use Rattle.fields.specs.text.Words.{words_of}
use Rattle.fields.specs.steps.Cutting.{view_cutting, cut_from}
use Rattle.fields.proofs.text.cutting.Cutting.of.Given as goal

abbrev pub invariant-loop-bytes : goal.invariant-loop-bytes
invariant-loop-bytes l = cut_from (view_cutting l.cutting) l.bytes ≡ words_of l.line

abbrev pub decreases-loop-bytes : goal.decreases-loop-bytes
decreases-loop-bytes l = length l.bytes
