use Rattle.std.proofs.Common.{◌+◌, ◌∙◌, ap, arith, Bool, List, take}
use Rattle.classify.specs.NextMatch.{next_match}
use Rattle.classify.proofs.laws.search.CandidateLaws.{are_counted, are_wide, are_few, are_summed, next_of_common}
use Rattle.classify.proofs.classifier.rows.CandidateRows.next.Goals as goal

pub first_after-requires-clause-wide : goal.first_after-requires-clause-wide
first_after-requires-clause-wide c = are_wide (c.self.inside.margin + c.self.inside.len) c.self.inside.summary c.div_ceil-words.result (take c.self.inside.count c.self.inside.rows) c.self.invariant.1 (omega (arith, c.div_ceil-words.ensures)) (omega (arith, c.div_ceil-words.ensures))

pub first_after-requires-clause-few : goal.first_after-requires-clause-few
first_after-requires-clause-few c = are_few (c.self.inside.margin + c.self.inside.len) c.self.inside.summary c.div_ceil-words.result (take c.self.inside.count c.self.inside.rows) c.self.invariant.1 (omega (arith, c.div_ceil-words.ensures)) (omega (arith, c.div_ceil-words.ensures))

pub first_after-requires-clause-summed : goal.first_after-requires-clause-summed
first_after-requires-clause-summed c = are_summed (c.self.inside.margin + c.self.inside.len) c.self.inside.summary c.div_ceil-words.result (take c.self.inside.count c.self.inside.rows) c.self.invariant.1 (omega (arith, c.div_ceil-words.ensures)) (omega (arith, c.div_ceil-words.ensures))

pub overflow_add-self-inside : goal.overflow_add-self-inside
overflow_add-self-inside c = omega (arith, are_counted (c.self.inside.margin + c.self.inside.len) c.self.inside.summary (take c.self.inside.count c.self.inside.rows) c.self.invariant.1)

pub returns : goal.returns
returns c =
    next_of_common (c.self.inside.margin + c.self.inside.len) c.self.inside.summary c.div_ceil-words.result (take c.self.inside.count c.self.inside.rows) c.self.invariant.1 (omega (arith, c.div_ceil-words.ensures)) (omega (arith, c.div_ceil-words.ensures)) c.self.inside.margin c.args.from c.first_after.result (omega arith) c.first_after.ensures
    ∙ ap (λ (bits : List Bool). next_match (λ bit. bit) bits c.args.from) c.self.view_is
