use Rattle.fields.specs.values.TcpFlags.{tcp_flags_text}
use Rattle.fields.proofs.laws.text.PutLaws.{stops-at_mark, puts-behind_mark}
use Rattle.fields.proofs.values.flag_test.FlagTest.put.Goals as goal

pub returns-in_err-put-2 : goal.returns-in_err-put-2
returns-in_err-put-2 g c =
    stops-at_mark _ _ (tcp_flags_text c.args.self.mask) 32 (tcp_flags_text c.args.self.comp) _ _ _ c.from_residual-in_err-put-2.ensures.0 c.in_ok-put.ensures.text c.in_err-put-2.ensures.puts

pub returns : goal.returns
returns g c =
    puts-behind_mark _ _ (tcp_flags_text c.args.self.mask) 32 (tcp_flags_text c.args.self.comp) _ _ _ _ c.in_ok-put.ensures.text c.in_ok-put-2.ensures.puts c.put-3.ensures.text
