use Rattle.std.proofs.Common.{ap, sym, ◌∙◌, ◌≡◌}
use Rattle.fields.specs.Packet.{PacketView as Packet}
use Rattle.questions.specs.boxes.Boxes.{IsAtHook}
use Rattle.questions.specs.declared.walking.scope.Scope.{Scope}
use Rattle.questions.proofs.laws.ComingLaws.{comes_under, never_comes}
use Rattle.questions.proofs.laws.PacketLaws.{written_at_hooks}
use Rattle.questions.proofs.asked.coming.comes.Goals as goal

pub box_of-requires-clause-inside : goal.box_of-requires-clause-inside
box_of-requires-clause-inside c =
    let (words, is) = c.packet-packet.ensures.written in
    let can : IsAtHook c.packet-packet.result.now = rw c.packet-packet.ensures.value (written_at_hooks words c.args.written.now is) in
    c.in_ok-whole.ensures.all c.packet-packet.result.now can (sym c.hook-hook.ensures.value)

pub returns-in-Dead : goal.returns-in-Dead
returns-in-Dead c =
    let p = c.args.written.now in
    let (words, is) = c.packet-packet.ensures.written in
    let start : Scope = record { area = c.in_ok-box_of.field-0; answers = c.none.result } in
    let there : p.hook ≡ c.hook-hook.result = sym (c.hook-hook.ensures.value ∙ ap (λ (packet : Packet). packet.hook) c.packet-packet.ensures.value) in
    never_comes c.args.subject.now c.args.step p c.hook-hook.result start (written_at_hooks words p is) there (rw c.packet-packet.ensures.value at c.in_ok-box_of.ensures) c.none.ensures (rw c.in-Dead.is at c.in_ok-life_in.ensures.says) (c.in_ok-life_in.ensures.short c.in-Dead.is)

pub returns-in-Live : goal.returns-in-Live
returns-in-Live c =
    let p = c.args.written.now in
    let (words, is) = c.packet-packet.ensures.written in
    let start : Scope = record { area = c.in_ok-box_of.field-0; answers = c.none.result } in
    let there : p.hook ≡ c.hook-hook.result = sym (c.hook-hook.ensures.value ∙ ap (λ (packet : Packet). packet.hook) c.packet-packet.ensures.value) in
    comes_under c.args.subject.now c.args.step p c.hook-hook.result start (written_at_hooks words p is) there (rw c.packet-packet.ensures.value at c.in_ok-box_of.ensures) c.args.budget c.in-Live.words c.in-Live.answers c.in_ok-enough-in-Live.enough
    (rw c.in-Live.is at c.in_ok-life_in.ensures.says) c.in_ok-enough-in-Live.ensures.enough c.in_ok-enough-in-Live.ensures.few

pub returns : goal.returns
returns c =
    let p = c.args.written.now in
    let start : Scope = record { area = c.in_ok-box_of.field-0; answers = c.none.result } in
    let there = c.hook-hook.ensures.value ∙ ap (λ (packet : Packet). packet.hook) c.packet-packet.ensures.value in
    record { start = start; only = rw c.packet-packet.ensures.value at c.in_ok-box_of.ensures; unasked = c.none.ensures; vain = rw there at (rw c.in-Unclear.is at c.in_ok-life_in.ensures.unclear) }
