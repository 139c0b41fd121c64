use Rattle.std.proofs.Common.{◌%◌, ◌/◌, ◌+◌, ◌*◌, arith}
use Rattle.questions.proofs.laws.ChoiceLaws.{unit-fits, least-fits, least-stays, least-raised, none-stuck, stays-behind}
use Rattle.questions.proofs.sampling.interface.+tail_from.Goals as goal

pub pow-unit-requires : goal.pow-unit-requires
pow-unit-requires t c = unit-fits c.args.after c.requires.after

pub returns-in-Some : goal.returns-in-Some
returns-in-Some t c =
    let it = stays-behind c.args.after (c.args.number / c.pow-unit.result) (c.args.number % c.pow-unit.result) _ _ c.tail_from-rest.ensures c.in-Some.ensures in
    rw c.from.ensures (least-stays c.args.after c.args.number c.if-after-eq0.false c.if-number-eq0.false c.pow-unit.result c.pow-unit.ensures c.in-Some.rest it.0 it.1)

pub overflow_add-result : goal.overflow_add-result
overflow_add-result t c = omega (arith, least-fits c.args.after c.args.number (c.from.result * c.pow-unit.result + c.in-Some.rest) c.requires.after (returns-in-Some t c))

pub returns-in-Some-byte_above : goal.returns-in-Some-byte_above
returns-in-Some-byte_above t c =
    let it = stays-behind c.args.after (c.args.number / c.pow-unit.result) (c.args.number % c.pow-unit.result) _ _ c.tail_from-rest.ensures c.in-None.ensures in
    rw c.from-in-Some-byte_above.ensures (least-raised c.args.after c.args.number c.if-after-eq0.false c.if-number-eq0.false c.pow-unit.result c.pow-unit.ensures c.in-Some-byte_above.next it c.in-Some-byte_above.ensures)

pub overflow_mul-result-in-Some-byte_above : goal.overflow_mul-result-in-Some-byte_above
overflow_mul-result-in-Some-byte_above t c = omega (arith, least-fits c.args.after c.args.number (c.from-in-Some-byte_above.result * c.pow-unit.result) c.requires.after (returns-in-Some-byte_above t c))

pub returns-in-None-byte_above : goal.returns-in-None-byte_above
returns-in-None-byte_above t c =
    let it = stays-behind c.args.after (c.args.number / c.pow-unit.result) (c.args.number % c.pow-unit.result) _ _ c.tail_from-rest.ensures c.in-None.ensures in
    none-stuck c.args.after c.args.number c.if-after-eq0.false c.if-number-eq0.false c.pow-unit.result c.pow-unit.ensures it c.in-None-byte_above.ensures
