use Rattle.std.proofs.Common.{◌+◌, ◌∙◌, ap, ℕ, Option}
use Rattle.std.specs.Option.{unwrap_or}
use Rattle.dumps.proofs.laws.NumberLaws.{counts_more}
use Rattle.dumps.proofs.conditions.counted.Goals as goal

pub returns-clause-more : goal.returns-clause-more
returns-clause-more c = counts_more c.args.counts.now c.insert.new.self c.args.text c.in-Some.more
    (c.in-Some.ensures.1 ∙ ap (λ n. n + 1) (c.unwrap_or-before.ensures ∙ ap (λ (o : Option ℕ). unwrap_or o 0) (c.copied.ensures ∙ c.get.ensures.value)))
    c.in_ok-insert.ensures.updates.0
