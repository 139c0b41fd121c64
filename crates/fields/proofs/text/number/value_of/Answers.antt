use Rattle.std.proofs.Common.{arith, ◌<◌}
use Rattle.fields.proofs.laws.text.NumberLaws.{more_digits}
use Rattle.fields.proofs.text.number.value_of.Goals as goal

pub overflow_mul-value : goal.overflow_mul-value
overflow_mul-value c =
    let bound = more_digits c.loop-byte.byte-index c.loop-byte.value 0 (omega arith) c.loop-byte.invariant.small (omega arith) in
    omega (arith, bound.0)

pub overflow_add-value : goal.overflow_add-value
overflow_add-value c =
    let digit : c.from.result < 10 = omega (arith, c.if-not-is_ascii_digit.ensures.bound, c.if-not-is_ascii_digit.ensures.cases) in
    let bound = more_digits c.loop-byte.byte-index c.loop-byte.value c.from.result (omega arith) c.loop-byte.invariant.small digit in
    omega (arith, bound.1)
