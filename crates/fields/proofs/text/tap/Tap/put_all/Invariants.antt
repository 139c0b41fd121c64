use Rattle.std.proofs.Common.{◌≡◌, take, flat_map}
use Rattle.fields.specs.text.Tap.{Keeps, Wrote, is_late, shown_left, turns_left}
use Rattle.fields.proofs.text.tap.Tap.put_all.Given as goal

abbrev pub invariant-loop-text : goal.invariant-loop-text
invariant-loop-text g l = Wrote g.W.Write.contents l.initial.self l.self (flat_map (λ text. text.now) (take l.text-index l.texts)) × (turns_left l.self ≡ turns_left l.fn.self)
    × Keeps l.fn.self l.self (flat_map (λ text. text.now) (take l.text-index l.texts))
    × (shown_left l.self ≡ shown_left l.fn.self) × (is_late l.self ≡ is_late l.fn.self)
