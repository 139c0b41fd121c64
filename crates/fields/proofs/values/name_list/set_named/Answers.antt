use Rattle.std.proofs.Common.{◌≡◌, ◌∙◌, List, ℕ, Some, true, rules}
use Rattle.std.specs.Prelude.{option_map}
use Rattle.fields.specs.values.NameList.{row_named}
use Rattle.fields.specs.steps.Tables.{all_have_names}
use Rattle.fields.proofs.laws.values.NameListLaws.{number_named-table}
use Rattle.fields.proofs.values.name_list.set_named.Goals as goal

pub returns : goal.returns
returns g c =
    let all : all_have_names g.F.Flags.table ≡ true = search (rules, c.requires.named) in
    let found : option_map (λ (row : List ℕ × ℕ). row.0) (row_named g.F.Flags.table c.args.text.now) ≡ Some c.in_ok-name_in_table.field-0.now = search (rules, c.in_ok-name_in_table.ensures) in
    c.from_name.ensures c.requires.exact ∙ number_named-table g.F.Flags.table c.args.text.now c.in_ok-name_in_table.field-0.now all found
