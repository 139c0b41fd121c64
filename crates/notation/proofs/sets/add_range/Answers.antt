use Rattle.std.proofs.Common.{rules}
use Rattle.notation.proofs.SetTextLaws.{more-text}
use Rattle.notation.proofs.sets.add_range.Goals as goal

pub returns : goal.returns
returns c = λ before some so_far.
    more-text c.args.field before c.args.list.now.items c.args.span.now c.in_ok-text.text.items c.push.new.self.items
    c.extend_from_slice.new.self.items some so_far (search rules) (search rules) (search rules)
