use Rattle.std.proofs.Common.{arith, ◌*◌, ◌+◌, ◌/◌, ◌%◌, ◌^◌, ◌-◌, ℕ, bit_and}
use Rattle.std.proofs.lemmas.Nat.{and_le_l}
use Rattle.classify.specs.steps.CommonPlaces.{HaveAll}
use Rattle.bits.proofs.laws.SummaryLaws.{word_found, word_empty}
use Rattle.classify.proofs.laws.search.SearchLaws.{head_marks}
use Rattle.classify.proofs.search.head.Goals as goal

pub returns-then-all-ne0 : goal.returns-then-all-ne0
returns-then-all-ne0 c =
    let mask : ℕ = (2 ^ 64 - 1) * 2 ^ (c.args.from % 64) % 2 ^ 64 in
    word_found (HaveAll c.args.rows.now) c.args.from (64 * (c.args.from / 64 + 1)) (64 * (c.args.from / 64)) (bit_and c.common_word.result mask)
    (head_marks c.args.rows.now c.args.from c.requires.0 c.common_word.result c.requires.1 c.requires.2 (omega arith) c.common_word.ensures) c.if-all-ne0.true (omega (arith, and_le_l c.common_word.result mask)) (λ k ge below p. absurd (omega arith)) (omega arith)

pub returns : goal.returns
returns c =
    word_empty (HaveAll c.args.rows.now) c.args.from (64 * (c.args.from / 64)) _ (64 * (c.args.from / 64 + 1))
    (head_marks c.args.rows.now c.args.from c.requires.0 c.common_word.result c.requires.1 c.requires.2 (omega arith) c.common_word.ensures) c.if-all-ne0.false (λ k ge below p. absurd (omega arith)) (omega arith)
