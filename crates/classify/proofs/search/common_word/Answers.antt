use Rattle.std.proofs.Common.{sym, ◌∙◌}
use Rattle.std.proofs.lemmas.Bool.{true≢false}
use Rattle.classify.proofs.laws.search.SearchLaws.{and_unmarked}
use Rattle.classify.proofs.search.common_word.Goals as goal

pub returns : goal.returns
returns c =
    and_unmarked c.args.rows.now c.args.summary c.requires.0 c.args.place c.requires.1 c.requires.2 c.requires.3
    (λ marked. true≢false (sym (c.is_marked.ensures.1 marked) ∙ c.if-is_marked.false))
