use Rattle.std.proofs.Common.{◌≡◌, ◌≤◌, ◌+◌, ◌&&◌, ℕ, ◌-◌, ◌<◌, ap, sym, ◌∙◌, arith}
use Rattle.std.specs.Prelude.{nat_le}
use Rattle.std.proofs.lemmas.Result.{IfOk-weaker}
use Rattle.fields.specs.values.Prefix.{block_size, holds}
use Rattle.fields.specs.numbers.Spans.{SpanSet, has}
use Rattle.fields.proofs.laws.numbers.SpanLaws.{block_within, in_block}
use Rattle.fields.proofs.values.prefix.Prefix.allowed.Goals as goal

pub one-requires-clause-last_within : goal.one-requires-clause-last_within
one-requires-clause-last_within c =
    let within = block_within c.args.self.now.length c.args.self.now.address c.length.ensures.valid.short c.length.ensures.valid.small c.length.ensures.valid.clear in
    let size : c.block_size.result ≡ block_size c.args.self.now.length = c.block_size.ensures.size ∙ ap block_size c.length.ensures.value in
    omega (arith, within, size)

pub returns-clause-members : goal.returns-clause-members
returns-clause-members c =
    let size : c.block_size.result ≡ block_size c.args.self.now.length = c.block_size.ensures.size ∙ ap block_size c.length.ensures.value in
    let first : c.from-first.result ≡ c.args.self.now.address = c.from-first.ensures ∙ c.address.ensures.value in
    let some : 0 < block_size c.args.self.now.length = omega (arith, size, c.block_size.ensures.some) in
    let last : c.from-first.result + c.from-others.result ≡ c.args.self.now.address + (block_size c.args.self.now.length - 1) = omega (arith, size, first, c.from-others.ensures) in
    let P = λ (set : SpanSet). (x : ℕ) → has set.intervals x ≡ (nat_le c.from-first.result x && nat_le x (c.from-first.result + c.from-others.result)) in
    let Q = λ (set : SpanSet). (x : ℕ) → x ≤ 4294967295 → has set.intervals x ≡ holds c.args.self.now x in
    IfOk-weaker c.one.result P Q
    (λ set members x le. members x ∙ ap (λ (m : ℕ). nat_le m x && nat_le x (c.from-first.result + c.from-others.result)) first
    ∙ ap (λ (n : ℕ). nat_le c.args.self.now.address x && nat_le x n) last
    ∙ sym (in_block (block_size c.args.self.now.length) c.args.self.now.address x some c.address.ensures.valid.clear))
    c.one.ensures.members
