use Rattle.std.proofs.Common.{◌++◌, [], List, ℕ, ap, sym, ◌∙◌, rules}
use Rattle.std.specs.List.{filter_map, cons_option}
use Rattle.std.proofs.lemmas.Iterator.Consumers.{YieldsList-end}
use Rattle.std.proofs.lemmas.Iterator.Splits.{YieldsList-from_lines}
use Rattle.fields.specs.text.Cut.{cut_at}
use Rattle.dumps.proofs.laws.ServiceLaws.{line_more}
use Rattle.dumps.proofs.services.name_rows.Goals as goal

pub loop-line-preserved : goal.loop-line-preserved
loop-line-preserved c =
    let row = cons_option (cut_at 32 c.in-Some.line.now) [] in
    c.in_ok-add_row.ensures ∙ ap (λ (l : List (List ℕ × List ℕ)). l ++ row) c.loop-line.invariant ∙ sym (line_more c.loop-line.yielded c.in-Some.line)

pub returns : goal.returns
returns c =
    let ended = YieldsList-end (YieldsList-from_lines c.args.text.now (search rules)) c.loop-line.yielded _ c.loop-line.yielded_by _ _ c.in-None.is c.next.ensures.steps in
    c.loop-line.invariant ∙ ap (filter_map (cut_at 32)) ended.0
