use Rattle.std.proofs.Common.{◌≡◌, false, take}
use Rattle.std.specs.List.{list_any}
use Rattle.std.specs.Str.{bytes_eq}
use Rattle.dumps.specs.TableLines.{kind_word}
use Rattle.dumps.specs.declared.options.row.Kind.{Kind}
use Rattle.dumps.proofs.options.table_line.kind_by.Given as goal

-- the word is that of none so far
abbrev pub invariant-loop-kind : goal.invariant-loop-kind
invariant-loop-kind l = list_any (λ (kind : Kind). bytes_eq (kind_word kind) l.word) (take l.kind-index l.kind-items) ≡ false
