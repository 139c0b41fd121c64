use Rattle.std.proofs.Common.{arith, refl, ℕ, ◌+◌, ◌*◌, ◌/◌, ◌%◌, ◌-◌, ◌^◌, ◌<◌, ap, ◌∙◌}
use Rattle.std.specs.Prelude.{bit_and}
use Rattle.std.specs.Int.{bit_at}
use Rattle.std.proofs.lemmas.Nat.{and_le_l}
use Rattle.std.proofs.lemmas.Nat.Bits.{bit_at-zero}
use Rattle.bits.specs.steps.Summaries.{HasPair}
use Rattle.bits.proofs.laws.SummaryLaws.{from_on, summary_marks, whole_marks, word_found, word_empty}
use Rattle.bits.proofs.summary.next_pair.Goals as goal

pub returns-then-ahead-ne0-clause-first : goal.returns-then-ahead-ne0-clause-first
returns-then-ahead-ne0-clause-first c =
    let pair : ℕ = c.args.pair in
    let first : ℕ = 64 * (pair / 64) in
    let ahead : ℕ = bit_and c.args.summary ((2 ^ 64 - 1) * 2 ^ (pair % 64) % 2 ^ 64) in
    let fits : ahead < 2 ^ 64 = omega (arith, and_le_l c.args.summary ((2 ^ 64 - 1) * 2 ^ (pair % 64) % 2 ^ 64)) in
    from_on (HasPair c.args.summary) pair (first + 64) _ (word_found (HasPair c.args.summary) pair (first + 64) first ahead (summary_marks c.args.summary pair (omega arith)) c.if-ahead-ne0.true fits (λ k ge below p. absurd (omega arith)) (omega arith))

pub returns-then-summary-ne0-clause-first : goal.returns-then-summary-ne0-clause-first
returns-then-summary-ne0-clause-first c =
    let pair : ℕ = c.args.pair in
    let first : ℕ = 64 * (pair / 64) in
    let before = word_empty (HasPair c.args.summary) pair first _ (first + 64) (summary_marks c.args.summary pair (omega arith)) c.if-ahead-ne0.false (λ k ge below p. absurd (omega arith)) refl in
    from_on (HasPair c.args.summary) pair (first + 128) _ (word_found (HasPair c.args.summary) pair (first + 128) (first + 64) c.args.summary (whole_marks c.args.summary pair) c.if-summary-ne0.true (omega arith) before (omega arith))

pub returns-clause-first : goal.returns-clause-first
returns-clause-first c = λ k ge has. absurd (omega (arith, has, ap (λ word. bit_at word (k % 64)) c.if-summary-ne0.false ∙ bit_at-zero (k % 64)))
