use Rattle.std.proofs.Common.{◌∙◌, ◌-◌, ◌+◌, ◌<◌, ap, sym, arith, length, get_or, false, [], Bool}
use Rattle.std.proofs.Math.Bool.{xor}
use Rattle.bits.proofs.laws.TurnedRowsLaws.{same_bit, seen_rows, each_long, bit_seen, turn_of}
use Rattle.bits.proofs.turned_rows.TurnedRows.run_start.Goals as goal

pub run_start-start-requires-clause-place : goal.run_start-start-requires-clause-place
run_start-start-requires-clause-place c = each_long (λ n. c.args.at < n) _ _ (seen_rows _ _ c.self.invariant c.self.view_is) (omega (arith, c.requires.row)) c.requires.place

pub returns-clause-alike : goal.returns-clause-alike
returns-clause-alike c k low high =
    let s = seen_rows _ _ c.self.invariant c.self.view_is in
    let turn : Bool = get_or (turn_of c.self.inside.rows.rows) c.args.at false in
    bit_seen _ _ k (k + 1) c.args.at s (omega arith) (omega (arith, c.requires.row)) (c.requires.place k [] (omega (arith, c.requires.row)))
    ∙ ap (λ b. xor turn b) (c.run_start-start.ensures.alike (k + 1) (omega (arith, c.saturating_sub.ensures, low)) (omega (arith, c.own.ensures)))
    ∙ sym (bit_seen _ _ c.args.row c.own.result c.args.at s c.own.ensures c.requires.row (c.requires.place c.args.row [] c.requires.row))

pub returns-clause-first : goal.returns-clause-first
returns-clause-first c more same =
    let s = seen_rows _ _ c.self.invariant c.self.view_is in
    let start = c.run_start-start.result in
    let there : c.saturating_sub.result - 1 < length c.args.self.now.rows = omega (arith, c.saturating_sub.ensures, c.run_start-start.ensures.within, c.own.ensures, c.requires.row) in
    c.run_start-start.ensures.first (omega (arith, more, c.saturating_sub.ensures))
    (same_bit (get_or (turn_of c.self.inside.rows.rows) c.args.at false) _ _ (
    sym (bit_seen _ _ (c.saturating_sub.result - 1) (start - 1) c.args.at s (omega (arith, more, c.saturating_sub.ensures)) there (c.requires.place (c.saturating_sub.result - 1) [] there))
    ∙ same
    ∙ bit_seen _ _ c.args.row c.own.result c.args.at s c.own.ensures c.requires.row (c.requires.place c.args.row [] c.requires.row)))
