use Rattle.std.proofs.Common.{◌∙◌, ap, is_some}
use Rattle.table.specs.chains.Table.{is_named}
use Rattle.fields.proofs.laws.ListLaws.{any_is}
use Rattle.restore.proofs.section.has_chain.Goals as goal

pub returns : goal.returns
returns c = c.is_some.ensures ∙ ap is_some c.index_of.ensures ∙ any_is (is_named c.args.name.now) c.args.table.now.table.chains
