use Rattle.std.proofs.Common.{◌≡◌, ◌+◌, List, ◌++◌, drop, take, ap, sym, ◌∙◌, arith, append_assoc}
use Rattle.std.proofs.lemmas.List.{take_rest}
use Rattle.dumps.specs.Conditions.{Condition, asked_first, conditions_after}
use Rattle.dumps.specs.Views.{table_in, parts_of, conditions_in}
use Rattle.dumps.specs.declared.apart.part.Part.{Part}
use Rattle.dumps.proofs.laws.ConditionLaws.{conditions-more}
use Rattle.dumps.proofs.apart.condition.conditions_of.Goals as goal

pub loop-place-preserved : goal.loop-place-preserved
loop-place-preserved c =
    let table = table_in c.args.table.now in
    let parts = c.args.parts.now in
    let i = c.loop-place.place in
    let so_far = conditions_in c.loop-place.conditions.items in
    let here : List Condition = asked_first table (parts_of (take i parts)) (parts_of (drop i parts)) in
    let rest : List Condition = conditions_after table (parts_of (take (i + 1) parts)) (parts_of (drop (i + 1) parts)) in
    let items : conditions_in c.add_at.new.conditions.items ≡ so_far ++ here =
    c.in_ok-add_at.ensures ∙ ap (λ (l : List Part). so_far ++ asked_first table (parts_of (take i parts)) (parts_of l)) (take_rest parts i) in
    ap (λ l. l ++ rest) items ∙ append_assoc so_far here rest
    ∙ ap (λ l. so_far ++ l) (sym (conditions-more table parts i (omega arith))) ∙ c.loop-place.invariant
