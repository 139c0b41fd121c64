use Rattle.std.proofs.Common.{get_or, ltb-true}
use Rattle.questions.specs.Scopes.{table_of}
use Rattle.questions.proofs.laws.LengthLaws.{short_by}
use Rattle.questions.proofs.walking.lengths.are_short.Goals as goal

pub returns-clause-short : goal.returns-clause-short
returns-clause-short c = λ small a p at.
    let numbers = c.bounds-numbers.result.now in
    short_by c.args.subject.now.needs.now (table_of c.args.subject.now) numbers c.args.hook c.hook_index.result c.stands.ensures.sound c.bounds-numbers.ensures.bounds c.hook_index.ensures
    (ltb-true (get_or numbers c.hook_index.result 0) 65536 small) a p at
