use Rattle.std.proofs.Common.{arith, sym, ◌∙◌}
use Rattle.std.proofs.lemmas.Bool.{false≢true}
use Rattle.classify.proofs.laws.line.EditLaws.{IsIn}
use Rattle.classify.proofs.laws.line.CutLaws.{Sides, unsplit_first, unsplit_none, unsplit_kept, unsplit_gone}
use Rattle.classify.proofs.line.edit.unsplit.Goals as goal

pub returns-then-place-eq0-clause-unsplit : goal.returns-then-place-eq0-clause-unsplit
returns-then-place-eq0-clause-unsplit c = unsplit_first _ _ _ (record { within = c.place_of-place.ensures.within; high = c.place_of-place.ensures.high }) c.if-place-eq0.true

pub returns-then-start-x-clause-unsplit : goal.returns-then-start-x-clause-unsplit
returns-then-start-x-clause-unsplit c =
    unsplit_none _ _ _ (record { within = c.place_of-place.ensures.within; high = c.place_of-place.ensures.high }) (omega (arith, c.start.ensures, c.if-start-x.true))

pub returns-then-is_same_after-clause-unsplit : goal.returns-then-is_same_after-clause-unsplit
returns-then-is_same_after-clause-unsplit c =
    let h : IsIn c.args.line.now.pieces c.args.x c.place_of-place.result = record { within = c.place_of-place.ensures.within; high = c.place_of-place.ensures.high } in
    let both : Sides c.args.line.now.pieces c.args.x c.place_of-place.result = record { at = h; start = omega (arith, c.start.ensures, c.if-start-x.false, c.place_of-place.ensures.low); later = omega (arith, c.if-place-eq0.false) } in
    unsplit_gone _ _ _ _ _ both (omega (arith, c.if-place-eq0.false)) (c.is_same_after.ensures.0 c.if-is_same_after.true) c.remove.ensures.pieces

pub returns-else-is_same_after-clause-unsplit : goal.returns-else-is_same_after-clause-unsplit
returns-else-is_same_after-clause-unsplit c =
    let h : IsIn c.args.line.now.pieces c.args.x c.place_of-place.result = record { within = c.place_of-place.ensures.within; high = c.place_of-place.ensures.high } in
    let both : Sides c.args.line.now.pieces c.args.x c.place_of-place.result = record { at = h; start = omega (arith, c.start.ensures, c.if-start-x.false, c.place_of-place.ensures.low); later = omega (arith, c.if-place-eq0.false) } in
    unsplit_kept _ _ _ _ both (omega (arith, c.if-place-eq0.false)) (λ e. false≢true (sym c.if-is_same_after.false ∙ c.is_same_after.ensures.1 e))
