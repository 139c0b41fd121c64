use Rattle.std.proofs.Common.{ap, sym, ◌∙◌}
use Rattle.std.proofs.lemmas.List.{take_all}
use Rattle.std.proofs.lemmas.Slice.Eq.{bytes_eq-Decides}
use Rattle.std.specs.List.{list_any}
use Rattle.std.specs.Str.{bytes_eq}
use Rattle.dumps.specs.TableLines.{kind_word}
use Rattle.dumps.specs.declared.options.row.Kind.{Kind}
use Rattle.dumps.specs.declared.options.table_line.TheConstants.{KINDS}
use Rattle.dumps.proofs.laws.TableLineLaws.{no_kind, none_more}
use Rattle.dumps.proofs.options.table_line.kind_by.Goals as goal

pub loop-kind-preserved : goal.loop-kind-preserved
loop-kind-preserved c =
    none_more (λ (kind : Kind). bytes_eq (kind_word kind) c.args.word.now) KINDS c.loop-kind.kind-index _ c.loop-kind-test.true c.loop-kind.invariant
    (ap (λ text. bytes_eq text c.args.word.now) (sym c.kind_word.ensures) ∙ sym c.if-eq.ensures)

pub returns-then-eq-clause-named : goal.returns-then-eq-clause-named
returns-then-eq-clause-named c = sym c.kind_word.ensures ∙ (bytes_eq-Decides c.kind_word.result.now c.args.word.now).0 (sym c.if-eq.ensures)

pub returns-clause-none : goal.returns-clause-none
returns-clause-none c =
    no_kind c.args.word.now
    (sym (ap (list_any (λ (kind : Kind). bytes_eq (kind_word kind) c.args.word.now)) (take_all c.loop-kind.kind-index KINDS c.loop-kind-test.false)) ∙ c.loop-kind.invariant)
