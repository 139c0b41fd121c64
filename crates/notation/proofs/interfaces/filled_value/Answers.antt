use Rattle.std.proofs.Common.{◌+◌, ◌*◌, ◌<◌, ◌∙◌, ap, sym, arith, length}
use Rattle.fields.specs.values.Interface.{filled}
use Rattle.fields.proofs.laws.values.InterfaceLaws.{length-filled, bytes_value-more, room}
use Rattle.notation.proofs.interfaces.filled_value.Goals as goal

pub overflow_mul-value : goal.overflow_mul-value
overflow_mul-value c = omega (arith, (room c.loop-place.place c.loop-place.value 0 (omega arith) c.loop-place.invariant.1 (omega arith)).product)

pub overflow_add-value : goal.overflow_add-value
overflow_add-value c = omega (arith, (room c.loop-place.place c.loop-place.value c.from.result (omega arith) c.loop-place.invariant.1 (omega arith)).sum)

pub loop-place-preserved : goal.loop-place-preserved
loop-place-preserved c =
    let bytes = filled c.args.fill c.args.bytes.now in
    let inside : c.loop-place.place < length bytes = omega (arith, length-filled c.args.fill c.args.bytes.now c.requires) in (
      ap (λ n. n * 256 + c.from.result) c.loop-place.invariant.0 ∙ sym (bytes_value-more bytes c.loop-place.place c.from.result inside (c.from.ensures ∙ c.filled_byte.ensures)),
      (room c.loop-place.place c.loop-place.value c.from.result (omega arith) c.loop-place.invariant.1 (omega arith)).below,
    )
