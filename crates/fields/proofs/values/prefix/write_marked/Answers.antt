use Rattle.std.proofs.Common.{◌≡◌, ◌+◌, ◌-◌, arith, refl}
use Rattle.std.proofs.lemmas.Fmt.{length-decimal-le}
use Rattle.std.proofs.lemmas.List.{drop-set}
use Rattle.fields.proofs.values.prefix.write_marked.Goals as goal

pub write_digits-start-requires : goal.write_digits-start-requires
write_digits-start-requires c = (omega (arith, length-decimal-le 3 c.from.result (omega arith) (omega arith) (omega arith)), c.requires.within)

pub overflow_sub-start : goal.overflow_sub-start
overflow_sub-start c = omega (arith, length-decimal-le 3 c.from.result (omega arith) (omega arith) (omega arith))

pub returns-clause-written : goal.returns-clause-written
returns-clause-written c =
    let w = c.write_digits-start in
    let long = length-decimal-le 3 c.from.result (omega arith) (omega arith) (omega arith) in
    let e : w.result - 1 + 1 ≡ w.result = omega arith in
    rw (drop-set w.new.buf (w.result - 1) c.args.mark (omega arith), e, w.ensures.written, c.from.ensures) refl

pub returns-clause-near : goal.returns-clause-near
returns-clause-near c = omega (arith, length-decimal-le 3 c.from.result (omega arith) (omega arith) (omega arith))
