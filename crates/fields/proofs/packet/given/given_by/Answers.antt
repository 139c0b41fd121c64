use Rattle.std.proofs.Common.{◌+◌, ◌<◌, ◌∙◌, length, take, drop, sym, subst, ap, arith}
use Rattle.std.specs.Option.{option_or}
use Rattle.std.proofs.lemmas.Result.{err_from_is_err_and}
use Rattle.fields.specs.Packet.{leftmost_fault}
use Rattle.fields.specs.steps.GivenNumbers.{IsGiven}
use Rattle.fields.proofs.laws.PacketLaws.{fault_first, given_first}
use Rattle.fields.proofs.packet.given.given_by.Goals as goal

pub returns-in_err-take_word-clause-fault : goal.returns-in_err-take_word-clause-fault
returns-in_err-take_word-clause-fault c =
    let words = c.args.words.now in
    let here = c.loop-place in
    let rest = leftmost_fault (drop c.args.first (take (here.place + 1) words)) (drop (here.place + 1) words) in
    let within : here.place < length words = omega arith in
    let first = fault_first words c.args.first here.place c.get.result.now here.given here.auto.place within c.get.ensures.value here.invariant.given in
    let residual = err_from_is_err_and c.from_residual.result c.from_residual.ensures.1 in
    rw (residual.1, residual.2) (sym (here.invariant.fault ∙ first ∙ ap (λ f. option_or f rest) (sym c.in_err-take_word.ensures.fault)))

pub loop-place-preserved : goal.loop-place-preserved
loop-place-preserved c =
    let words = c.args.words.now in
    let here = c.loop-place in
    let before = drop c.args.first (take (here.place + 1) words) in
    let within : here.place < length words = omega arith in
    let none = c.in_ok-take_word.ensures.fault in
    let first = fault_first words c.args.first here.place c.get.result.now here.given here.auto.place within c.get.ensures.value here.invariant.given in
    let given = given_first words c.args.first here.place c.get.result.now here.given here.auto.place within c.get.ensures.value here.invariant.given (sym none) in
    record {
      fault = here.invariant.fault ∙ first ∙ ap (λ f. option_or f (leftmost_fault before (drop (here.place + 1) words))) (sym none);
      given = subst (λ l. IsGiven l before) (sym c.in_ok-take_word.ensures.kept) given;
    }
