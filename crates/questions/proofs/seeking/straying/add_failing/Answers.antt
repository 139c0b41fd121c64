use Rattle.std.proofs.Common.{[], ◌∷◌, ◌++◌, List, IsTrue, refl, ◌∙◌, ap}
use Rattle.fields.specs.Packet.{PacketView as Packet}
use Rattle.questions.specs.Foreign.{Assignment, need_holds}
use Rattle.questions.specs.declared.foreign.answers.Answer.{Answer}
use Rattle.questions.specs.declared.walking.scope.Scope.{Scope}
use Rattle.questions.proofs.laws.SeekLaws.{parts_copied, parts_failing}
use Rattle.questions.proofs.seeking.straying.add_failing.Goals as goal

pub returns-in_ok-push-in-None : goal.returns-in_ok-push-in-None
returns-in_ok-push-in-None c =
    let need = c.args.need in
    let copy = c.in_ok-part-in-None.part in
    let same = c.in_ok-part-in-None.ensures in
    let part : Scope = record { area = copy.area; answers = c.add.new.self } in
    parts_failing need c.args.scope.now part copy.area c.args.scopes.now.items c.push.new.self.items same.0 refl
    (c.in_ok-add-in-None.ensures ∙ ap (λ (given : List Answer). given ++ record { condition = need.condition; holds = need.inverted } ∷ []) same.1)
    c.in_ok-push-in-None.ensures.items

pub returns-in_ok-push-in-Some : goal.returns-in_ok-push-in-Some
returns-in_ok-push-in-Some c =
    parts_copied (λ (a : Assignment) (p : Packet). IsTrue (need_holds a c.args.need)) c.args.scope.now c.in_ok-copy_of-in-Some.field-0 c.args.scopes.now.items c.push-then-holds-need.new.self.items
    c.in_ok-copy_of-in-Some.ensures c.in_ok-push-in-Some.ensures.items
