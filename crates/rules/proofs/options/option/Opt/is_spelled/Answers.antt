use Rattle.std.proofs.Common.{ap, ◌∙◌}
use Rattle.std.specs.List.{list_any}
use Rattle.std.specs.Str.{bytes_eq}
use Rattle.rules.proofs.options.option.Opt.is_spelled.Goals as goal

pub returns : goal.returns
returns c = c.is_among.ensures ∙ ap (list_any (bytes_eq c.args.word.now)) c.row.ensures.names
