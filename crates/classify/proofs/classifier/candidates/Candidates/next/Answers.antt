use Rattle.std.proofs.Common.{◌≡◌, ◌+◌, ◌∙◌, ap, arith, Bool, List, drop, length, take}
use Rattle.bits.specs.declared.turned_rows.TurnedWords.{TurnedWords}
use Rattle.classify.specs.NextMatch.{next_match}
use Rattle.classify.specs.steps.CommonPlaces.{common_bits, AreCandidates}
use Rattle.classify.proofs.laws.search.CandidateLaws.{are_counted, are_wide, are_few, are_summed, lent_are, lent_show, next_of_common}
use Rattle.classify.proofs.classifier.candidates.Candidates.next.Goals.{After-margin-margin}
use Rattle.classify.proofs.classifier.candidates.Candidates.next.Goals as goal

-- the rows that are lent
abbrev rows : After-margin-margin → List TurnedWords
rows c = take (length c.self.inside.others.now) c.lend-summary.new.rows

are : (c : After-margin-margin) → AreCandidates (c.margin-margin.result + c.self.inside.len) c.lend-summary.result (rows c)
are c =
    lent_are c.self.inside.len c.self.inside.lines.now c.self.inside.others.now c.self.inside.places c.margin-margin.result c.index-self-0.result (rows c) c.lend-summary.result c.self.invariant.0 c.self.invariant.1 c.margin-margin.ensures c.lend-summary.ensures.rows
    c.lend-summary.ensures.summed

show : (c : After-margin-margin) → drop c.margin-margin.result (common_bits (c.margin-margin.result + c.self.inside.len) (rows c)) ≡ c.args.self.now
show c =
    lent_show c.self.inside.len c.self.inside.lines.now c.self.inside.others.now c.self.inside.places c.margin-margin.result c.index-self-0.result (rows c) c.lend-summary.result c.self.invariant.0 c.self.invariant.1 c.margin-margin.ensures c.lend-summary.ensures.rows
    ∙ c.self.view_is

pub overflow_add-margin : goal.overflow_add-margin
overflow_add-margin c = let here = (goal.at.overflow_add-margin c).After-margin-margin in omega (arith, are_counted (c.margin-margin.result + c.self.inside.len) c.lend-summary.result (rows here) (are here))

pub first_after-requires-clause-wide : goal.first_after-requires-clause-wide
first_after-requires-clause-wide c =
    let here = (goal.at.first_after-requires-clause-wide c).After-margin-margin in
    are_wide (c.margin-margin.result + c.self.inside.len) c.lend-summary.result c.div_ceil-words.result (rows here) (are here) (omega (arith, c.div_ceil-words.ensures)) (omega (arith, c.div_ceil-words.ensures))

pub first_after-requires-clause-few : goal.first_after-requires-clause-few
first_after-requires-clause-few c =
    let here = (goal.at.first_after-requires-clause-few c).After-margin-margin in
    are_few (c.margin-margin.result + c.self.inside.len) c.lend-summary.result c.div_ceil-words.result (rows here) (are here) (omega (arith, c.div_ceil-words.ensures)) (omega (arith, c.div_ceil-words.ensures))

pub first_after-requires-clause-summed : goal.first_after-requires-clause-summed
first_after-requires-clause-summed c =
    let here = (goal.at.first_after-requires-clause-summed c).After-margin-margin in
    are_summed (c.margin-margin.result + c.self.inside.len) c.lend-summary.result c.div_ceil-words.result (rows here) (are here) (omega (arith, c.div_ceil-words.ensures)) (omega (arith, c.div_ceil-words.ensures))

pub returns : goal.returns
returns c =
    let here = (goal.at.returns c).After-margin-margin in
    next_of_common (c.margin-margin.result + c.self.inside.len) c.lend-summary.result c.div_ceil-words.result (rows here) (are here) (omega (arith, c.div_ceil-words.ensures)) (omega (arith, c.div_ceil-words.ensures)) c.margin-margin.result c.args.from c.first_after.result (omega arith) c.first_after.ensures
    ∙ ap (λ (bits : List Bool). next_match (λ bit. bit) bits c.args.from) (show here)
