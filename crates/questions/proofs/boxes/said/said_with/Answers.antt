use Rattle.std.proofs.Common.{List, arith, subst}
use Rattle.std.proofs.lemmas.List.{take_all}
use Rattle.notation.specs.declared.packet_word.PacketWord.{PacketWord}
use Rattle.questions.specs.steps.Saying.{IsSaidOf}
use Rattle.questions.proofs.laws.SaidLaws.{said_begins, said_next}
use Rattle.questions.proofs.boxes.said.said_with.Goals as goal

pub loop-word-init : goal.loop-word-init
loop-word-init c = said_begins c.args.transport c.args.hook c.in_ok-at_hook.field-0 c.in_ok-area.area c.in_ok-at_hook.ensures.all c.in_ok-area.ensures

pub loop-word-preserved : goal.loop-word-preserved
loop-word-preserved c =
    said_next c.args.transport c.args.hook c.args.words.now c.loop-word.word-index c.word-item.result c.loop-word.area c.in_ok-area-2.area (omega arith) c.word-item.is c.loop-word.invariant c.in_ok-area-2.ensures

pub returns : goal.returns
returns c =
    let P : List PacketWord → Type 0 = λ words. IsSaidOf c.args.transport c.args.hook words c.loop-word.area in
    subst P (take_all c.loop-word.word-index c.args.words.now (omega arith)) c.loop-word.invariant
