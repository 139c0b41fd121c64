use Rattle.std.proofs.Common.{◌∙◌, ap, List, ℕ}
use Rattle.std.specs.List.{remove}
use Rattle.classify.proofs.laws.line.PieceLaws.{remove-insert}
use Rattle.classify.proofs.line.starts.Starts.insert_each.Goals as goal

pub returns-in-Err-clause-err : goal.returns-in-Err-clause-err
returns-in-Err-clause-err c =
    c.remove.ensures ∙ ap (λ (ss : List ℕ). remove ss c.args.k) (c.in-Err.ensures.err ∙ c.in_ok-insert.ensures.ok) ∙ remove-insert c.args.self.now c.args.k c.args.y c.requires.place
