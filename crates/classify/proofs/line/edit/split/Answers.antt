use Rattle.std.proofs.Common.{arith, sym, subst, List}
use Rattle.classify.specs.steps.Pieces.{IsSplitOf}
use Rattle.classify.specs.steps.Kept.{most_start}
use Rattle.classify.proofs.laws.line.EditLaws.{Cut, IsIn, split_same, split_done, split_done_starts, split_not_there, split_there}
use Rattle.classify.proofs.line.edit.split.Goals as goal

pub returns-in_err-split_at-clause-split : goal.returns-in_err-split_at-clause-split
returns-in_err-split_at-clause-split c top spans le ch r =
    let P : List Cut → Type 0 = λ cs. IsSplitOf top spans c.args.line.now.pieces cs in
    subst P (sym c.in_err-split_at.ensures.err) (split_same top spans c.args.line.now.pieces r)

pub returns-in_err-split_at-clause-there : goal.returns-in_err-split_at-clause-there
returns-in_err-split_at-clause-there c s =
    let h : IsIn c.args.line.now.pieces c.args.x c.args.place = record { within = c.requires.within; high = c.requires.high } in
    absurd (split_not_there _ _ _ h (omega (arith, c.start.ensures, c.if-start-x.true)) most_start c.args.line.now.stands.rising s)

pub returns-in_ok-split_at-clause-split : goal.returns-in_ok-split_at-clause-split
returns-in_ok-split_at-clause-split c =
    let h : IsIn c.args.line.now.pieces c.args.x c.args.place = record { within = c.requires.within; high = c.requires.high } in
    split_done _ _ _ _ h (omega (arith, c.start.ensures, c.if-start-x.true)) c.in_ok-split_at.ensures.ok

pub returns-in_ok-split_at-clause-ok : goal.returns-in_ok-split_at-clause-ok
returns-in_ok-split_at-clause-ok c =
    let h : IsIn c.args.line.now.pieces c.args.x c.args.place = record { within = c.requires.within; high = c.requires.high } in
    split_done_starts _ _ _ _ h c.in_ok-split_at.ensures.ok

pub returns-in_ok-split_at-clause-kept : goal.returns-in_ok-split_at-clause-kept
returns-in_ok-split_at-clause-kept c s =
    let h : IsIn c.args.line.now.pieces c.args.x c.args.place = record { within = c.requires.within; high = c.requires.high } in
    absurd (split_not_there _ _ _ h (omega (arith, c.start.ensures, c.if-start-x.true)) most_start c.args.line.now.stands.rising s)

pub returns-else-start-x-clause-ok : goal.returns-else-start-x-clause-ok
returns-else-start-x-clause-ok c =
    let h : IsIn c.args.line.now.pieces c.args.x c.args.place = record { within = c.requires.within; high = c.requires.high } in
    split_there _ _ _ h (omega (arith, c.start.ensures, c.if-start-x.false, c.requires.low))
