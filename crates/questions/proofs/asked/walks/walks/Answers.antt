use Rattle.std.proofs.Common.{rules, ◌≡◌, Bool, sym, subst, All, filter}
use Rattle.std.proofs.lemmas.Fn.{filter_same}
use Rattle.std.proofs.lemmas.List.Elements.{All-filter}
use Rattle.classify.specs.Classifier.{box_matches}
use Rattle.questions.specs.Foreign.{AreAsked}
use Rattle.questions.specs.boxes.Boxes.{IsAtHook}
use Rattle.questions.specs.declared.walking.task.Leaf.{Leaf}
use Rattle.questions.proofs.laws.PacketLaws.{written_at_hooks}
use Rattle.questions.proofs.laws.WalksLaws.{walks_shown}
use Rattle.questions.proofs.asked.walks.walks.Goals as goal

pub walks_of-requires-clause-can : goal.walks_of-requires-clause-can
walks_of-requires-clause-can c = let (words, is) = c.packet-packet.ensures.written in rw c.packet-packet.ensures.value (written_at_hooks words c.args.written.now is)

pub walks_of-requires-clause-inside : goal.walks_of-requires-clause-inside
walks_of-requires-clause-inside c =
    let (words, is) = c.packet-packet.ensures.written in
    let can : IsAtHook c.packet-packet.result.now = rw c.packet-packet.ensures.value (written_at_hooks words c.args.written.now is) in
    c.in_ok-whole.ensures.all c.packet-packet.result.now can (sym c.hook.ensures.value)

pub returns-clause-asked : goal.returns-clause-asked
returns-clause-asked c =
    let Asked : Leaf → Type 0 = λ leaf. AreAsked c.args.subject.now.needs.now c.args.answers.now leaf.answers in
    let has : Leaf → Bool = λ leaf. box_matches c.packet-packet.result.now.values leaf.area in
    let same : c.retain.new.self.items ≡ filter has c.in-Some.found.items = filter_same _ _ _ (λ x b f' k. search rules) _ _ c.retain.ensures.filtered in
    subst (All Asked) (sym same) (All-filter has Asked c.in-Some.found.items (rw c.in-Some.is at c.in_ok-found.ensures.asked))

pub returns-clause-walks : goal.returns-clause-walks
returns-clause-walks c =
    rw (← c.packet-packet.ensures.value) (walks_shown c.args.subject.now c.packet-packet.result.now c.args.answers.now c.in-Some.found.items _ (filter_same _ _ _ (λ x b f' k. search rules) _ _ c.retain.ensures.filtered) (rw c.in-Some.is at c.in_ok-found.ensures.walks))

pub returns-in_default-clause-walks : goal.returns-in_default-clause-walks
returns-in_default-clause-walks c = rw (← c.packet-packet.ensures.value) (rw c.in_default.is at c.in_ok-found.ensures.walks)
