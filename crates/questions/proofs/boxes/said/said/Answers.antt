use Rattle.std.proofs.Common.{◌<◌, length, arith, subst}
use Rattle.std.proofs.lemmas.List.{get_or_default}
use Rattle.questions.specs.declared.boxes.transport.Transport.{Transport}
use Rattle.questions.specs.declared.boxes.transport.Transport.TheVariants.{Tcp}
use Rattle.questions.specs.steps.Saying.{IsSaidOf}
use Rattle.questions.specs.steps.Transports.{all_transports}
use Rattle.questions.proofs.laws.BoxesLaws.{pair_none, pair_more}
use Rattle.questions.proofs.laws.SaidLaws.{all_said}
use Rattle.questions.proofs.boxes.said.said.Goals as goal

pub loop-transport-init : goal.loop-transport-init
loop-transport-init c = pair_none (λ t box. IsSaidOf t c.args.hook c.args.words.now box) all_transports c.new-boxes.result.items c.new-boxes.ensures.items

pub loop-transport-preserved : goal.loop-transport-preserved
loop-transport-preserved c =
    let i = c.loop-transport.transport-index in
    let box = c.in_ok-said_with.field-0 in
    let lt : i < length all_transports = omega (arith, c.loop-transport-test.true) in
    let P : Transport → Type 0 = λ t. IsSaidOf t c.args.hook c.args.words.now box in
    pair_more (λ t b. IsSaidOf t c.args.hook c.args.words.now b) all_transports c.loop-transport.boxes.items c.push.new.self.items box i c.in_ok-push.ensures.items c.loop-transport.invariant
    (λ t. subst P (get_or_default all_transports i Tcp t lt) c.in_ok-said_with.ensures)

pub returns : goal.returns
returns c = all_said c.args.hook c.args.words.now c.loop-transport.boxes.items c.loop-transport.transport-index c.loop-transport-test.false c.loop-transport.auto.transport-index-end c.loop-transport.invariant
