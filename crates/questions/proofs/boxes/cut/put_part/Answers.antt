use Rattle.std.proofs.Common.{inl, inr, refl}
use Rattle.std.proofs.lemmas.List.Elements.{Contains-push}
use Rattle.questions.proofs.laws.AreaLaws.{in_part, nothing_left, part_only, some_left}
use Rattle.questions.proofs.laws.PartLaws.{part_leaves, part_numbers}
use Rattle.questions.proofs.boxes.cut.put_part.Goals as goal

pub returns-then-is_part-clause-added : goal.returns-then-is_part-clause-added
returns-then-is_part-clause-added c =
    λ numbers point has leaves. absurd (nothing_left c.args.at c.args.own.now c.args.other.now c.index-own-at.result c.index-other-at.result numbers c.requires.own c.requires.other c.requires.at c.index-own-at.is c.index-other-at.is
    (c.is_part.ensures.all c.if-is_part.true) has leaves)

pub returns-then-is_part-clause-only : goal.returns-then-is_part-clause-only
returns-then-is_part-clause-only c = λ numbers point some. inl some

pub returns-clause-added : goal.returns-clause-added
returns-clause-added c =
    λ numbers point has leaves. (c.in_ok-part.field-0, rw c.in_ok-push.ensures.items (Contains-push c.args.parts.now.items c.in_ok-part.field-0), in_part c.args.at c.args.own.now c.args.other.now c.in_ok-part.field-0 numbers c.requires.own c.in_ok-part.ensures point has leaves)

pub returns-clause-only : goal.returns-clause-only
returns-clause-only c =
    λ numbers point some. elim (some_left c.push.new.self.items c.args.parts.now.items c.in_ok-part.field-0 numbers c.in_ok-push.ensures.items some) [
      | inl before ↦ inl before
      | inr here ↦ inr (part_only c.args.at c.args.own.now c.args.other.now c.in_ok-part.field-0 numbers c.requires.own c.requires.at c.in_ok-part.ensures point here)
    ]

pub returns-then-is_part-clause-leaves : goal.returns-then-is_part-clause-leaves
returns-then-is_part-clause-leaves c = inl refl

pub returns-clause-leaves : goal.returns-clause-leaves
returns-clause-leaves c =
    let own = c.args.own.now in
    let other = c.args.other.now in
    let part = c.in_ok-part.field-0 in
    inr (
      part,
      c.in_ok-push.ensures.items,
      part_numbers c.args.at own other part c.index-own-at.result c.index-other-at.result c.requires.own c.requires.other c.requires.at c.in_ok-part.ensures c.requires.met c.index-own-at.is c.index-other-at.is (c.is_part.ensures.some c.if-is_part.false),
      λ numbers point inside. part_leaves c.args.at own other part numbers c.requires.own c.requires.at c.in_ok-part.ensures point inside,
    )
