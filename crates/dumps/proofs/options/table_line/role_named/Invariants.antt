use Rattle.std.proofs.Common.{◌≡◌, false, take}
use Rattle.std.specs.List.{list_any}
use Rattle.std.specs.Str.{bytes_eq}
use Rattle.dumps.specs.TableLines.{role_word}
use Rattle.dumps.specs.declared.options.row.Role.{Role}
use Rattle.dumps.proofs.options.table_line.role_named.Given as goal

-- the word is that of none so far
abbrev pub invariant-loop-role : goal.invariant-loop-role
invariant-loop-role l = list_any (λ (role : Role). bytes_eq (role_word role) l.word) (take l.role-index l.role-items) ≡ false
