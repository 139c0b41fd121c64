use Rattle.std.proofs.Common.{◌∙◌, ◌++◌, sym, ap, arith, remove, List, ℕ}
use Rattle.std.proofs.lemmas.List.Edits.{remove-append_right}
use Rattle.classify.proofs.line.starts.Starts.remove.Goals as goal

pub returns : goal.returns
returns c =
    ap (λ (ws : List ℕ). c.self.inside.narrow ++ ws) c.remove-start-2.ensures.items
    ∙ sym (remove-append_right c.self.inside.narrow c.self.inside.wide.items c.len-narrow.result c.args.k (sym c.len-narrow.ensures) (omega arith))
    ∙ ap (λ (ss : List ℕ). remove ss c.args.k) c.self.view_is
