use Rattle.std.proofs.Common.{◌-◌, ◌/◌, ◌%◌, codes, ap}
use Rattle.std.specs.Prelude.{slice_index}
use Rattle.sessions.proofs.laws.ReplyLaws.{bits_of_digits}
use Rattle.sessions.proofs.reply.lines.digit_at.Goals as goal

pub returns : goal.returns
returns c = ap (λ n. slice_index (codes "0123456789abcdef") (c.args.number / n % 16)) (bits_of_digits (31 - c.args.place))
