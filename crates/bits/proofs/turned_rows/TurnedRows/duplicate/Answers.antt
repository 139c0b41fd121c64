use Rattle.std.proofs.Common.{◌∙◌, ap}
use Rattle.std.proofs.lemmas.Result.{on_ok_weaker}
use Rattle.bits.specs.TurnedRows.{turned_rows}
use Rattle.bits.proofs.laws.TurnedRowsLaws.{seen_rows, doubled_seen}
use Rattle.bits.proofs.turned_rows.TurnedRows.duplicate.Goals as goal

pub returns-clause-ok : goal.returns-clause-ok
returns-clause-ok c =
    let s = seen_rows _ _ c.self.invariant c.self.view_is in
    on_ok_weaker c.duplicate.result (λ is. ap turned_rows is ∙ (doubled_seen _ _ c.args.row c.own-own.result s c.own-own.ensures c.requires).seen) c.duplicate.ensures.ok
