use Rattle.std.proofs.Common.{◌≡◌, ◌≤◌, ℕ, rules}
use Rattle.std.proofs.lemmas.Result.{IfOk-weaker}
use Rattle.fields.specs.numbers.Spans.{SpanSet, has}
use Rattle.fields.specs.values.TcpFlags.{flags_pass}
use Rattle.fields.proofs.values.flag_test.FlagTest.allowed.Goals as goal

pub returns-clause-members : goal.returns-clause-members
returns-clause-members c =
    IfOk-weaker c.of_test.result _ (λ (set : SpanSet). (x : ℕ) → x ≤ 63 → has set.intervals x ≡ flags_pass c.args.self.now x)
    (λ set members x le. (let holds = members x le in search rules)) c.of_test.ensures.members
