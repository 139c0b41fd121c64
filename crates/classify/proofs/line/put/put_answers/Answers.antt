use Rattle.classify.proofs.laws.line.PutLaws.{opened_cuts, opened_rising, opened_place, opened_none, opened_written}
use Rattle.classify.proofs.line.put.put_answers.Goals as goal

pub put_gaps-requires-clause-rising : goal.put_gaps-requires-clause-rising
put_gaps-requires-clause-rising c = opened_rising _ c.args.at _ _ c.insert_column.ensures.pieces c.requires.rising

pub put_gaps-requires-clause-cuts : goal.put_gaps-requires-clause-cuts
put_gaps-requires-clause-cuts c = opened_cuts _ c.args.at _ _ _ c.insert_column.ensures.pieces c.requires.cuts

pub put_gaps-requires-clause-place : goal.put_gaps-requires-clause-place
put_gaps-requires-clause-place c = opened_place c.args.at c.args.line.now _ c.insert_column.ensures.pieces c.requires.place

pub put_gaps-requires-clause-none : goal.put_gaps-requires-clause-none
put_gaps-requires-clause-none c = opened_none c.args.at c.args.line.now _ c.insert_column.ensures.pieces c.requires.place

pub put_few-requires-clause-cuts : goal.put_few-requires-clause-cuts
put_few-requires-clause-cuts c = opened_cuts _ c.args.at _ _ _ c.insert_column.ensures.pieces c.requires.cuts

pub put_few-requires-clause-place : goal.put_few-requires-clause-place
put_few-requires-clause-place c = opened_place c.args.at c.args.line.now _ c.insert_column.ensures.pieces c.requires.place

pub put_few-requires-clause-none : goal.put_few-requires-clause-none
put_few-requires-clause-none c = opened_none c.args.at c.args.line.now _ c.insert_column.ensures.pieces c.requires.place

pub returns-then-has_both_ends-clause-answers : goal.returns-then-has_both_ends-clause-answers
returns-then-has_both_ends-clause-answers c =
    opened_written c.args.at c.args.spans.now.intervals c.args.line.now _ _ c.insert_column.ensures.pieces c.requires.place c.put_gaps.ensures.answers

pub returns-else-has_both_ends-clause-answers : goal.returns-else-has_both_ends-clause-answers
returns-else-has_both_ends-clause-answers c =
    opened_written c.args.at c.args.spans.now.intervals c.args.line.now _ _ c.insert_column.ensures.pieces c.requires.place c.put_few.ensures.answers
