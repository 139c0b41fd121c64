use Rattle.std.proofs.Common.{ap, sym, ◌∙◌}
use Rattle.std.proofs.lemmas.List.{take_all}
use Rattle.std.proofs.lemmas.Slice.Eq.{bytes_eq-Decides}
use Rattle.std.specs.List.{list_any}
use Rattle.std.specs.Str.{bytes_eq}
use Rattle.dumps.specs.TableLines.{role_word}
use Rattle.dumps.specs.declared.options.row.Role.{Role}
use Rattle.dumps.specs.declared.options.table_line.TheConstants.{ROLES}
use Rattle.dumps.proofs.laws.TableLineLaws.{no_role, none_more}
use Rattle.dumps.proofs.options.table_line.role_named.Goals as goal

pub loop-role-preserved : goal.loop-role-preserved
loop-role-preserved c =
    none_more (λ (role : Role). bytes_eq (role_word role) c.args.word.now) ROLES c.loop-role.role-index _ c.loop-role-test.true c.loop-role.invariant
    (ap (λ text. bytes_eq text c.args.word.now) (sym c.role_word.ensures) ∙ sym c.if-eq.ensures)

pub returns-then-eq-clause-named : goal.returns-then-eq-clause-named
returns-then-eq-clause-named c = sym c.role_word.ensures ∙ (bytes_eq-Decides c.role_word.result.now c.args.word.now).0 (sym c.if-eq.ensures)

pub returns-clause-none : goal.returns-clause-none
returns-clause-none c =
    no_role c.args.word.now
    (sym (ap (list_any (λ (role : Role). bytes_eq (role_word role) c.args.word.now)) (take_all c.loop-role.role-index ROLES c.loop-role-test.false)) ∙ c.loop-role.invariant)
