use Rattle.std.proofs.Common.{◌∙◌, true, false, ap, not, arith, inl, inr, sym, true≢false}
use Rattle.std.proofs.lemmas.Bool.{cases_Bool}
use Rattle.fields.specs.numbers.Field.{number_on}
use Rattle.fields.specs.numbers.Spans.{has}
use Rattle.questions.proofs.laws.AreaLaws.{two_only, two_parts}
use Rattle.questions.specs.boxes.Cut.{IsSideOf}
use Rattle.questions.proofs.laws.PartLaws.{both_parts, not_other, numbers_of, numbers_with, side_of, two_disjoint, two_parts_long}
use Rattle.questions.proofs.boxes.cut.halves.Goals as goal

pub returns-clause-all : goal.returns-clause-all
returns-clause-all c = λ numbers point h.
    let again = c.in_ok-copy.ensures.all numbers point h h in
    two_parts numbers c.in_ok-with.with c.in_ok-without.without c.new-parts.result.items c.push.new.self.items c.push-2.new.self.items c.new-parts.ensures.items c.in_ok-push.ensures.items c.in_ok-push-2.ensures.items
    (elim (cases_Bool (has c.args.wanted.now.intervals (number_on numbers c.args.field))) [
      | inl t ↦ inl (c.in_ok-with.ensures.all numbers point again t)
      | inr f ↦ inr (c.in_ok-without.ensures.all numbers point h (c.in_ok-others.ensures.members (number_on numbers c.args.field) (omega (arith, point c.args.field, c.requires.top)) ∙ ap not f))
    ])

pub returns-clause-only : goal.returns-clause-only
returns-clause-only c = λ numbers point some.
    elim (two_only numbers c.in_ok-with.with c.in_ok-without.without c.new-parts.result.items c.push.new.self.items c.push-2.new.self.items c.new-parts.ensures.items c.in_ok-push.ensures.items c.in_ok-push-2.ensures.items some) [
      | inl one ↦ c.in_ok-copy.ensures.first numbers point (c.in_ok-with.ensures.own numbers point one)
      | inr other ↦ c.in_ok-without.ensures.own numbers point other
    ]

pub returns-clause-sides : goal.returns-clause-sides
returns-clause-sides c =
    let field = c.args.field in
    let wanted = c.args.wanted.now in
    let (x, in_x, listed) = c.requires.parted.some in
    let (y, in_y, unlisted) = c.requires.parted.others in
    both_parts (IsSideOf field wanted c.args.area) c.in_ok-with.with c.in_ok-without.without c.new-parts.result.items c.push.new.self.items c.push-2.new.self.items c.new-parts.ensures.items c.in_ok-push.ensures.items c.in_ok-push-2.ensures.items
    (side_of field wanted c.args.area c.in_ok-with.with true y c.requires.some in_y.0 in_y.1 unlisted c.in_ok-with.ensures.members)
    (side_of field wanted c.args.area c.in_ok-without.without false x c.requires.some in_x.0 in_x.1 listed (λ numbers point inside. not_other _ _ (c.in_ok-without.ensures.members numbers point inside) (c.in_ok-others.ensures.members (number_on numbers field) (omega (arith, point field, c.requires.top)))))

pub returns-clause-disjoint : goal.returns-clause-disjoint
returns-clause-disjoint c =
    let field = c.args.field in
    let area = c.args.area in
    let (x, in_x, listed) = c.requires.parted.some in
    let (y, in_y, unlisted) = c.requires.parted.others in
    let (ns, point, inside, is) = numbers_with area field x c.requires.some in_x.0 in_x.1 in
    let (ms, also, there, at) = numbers_with area field y c.requires.some in_y.0 in_y.1 in
    let set = c.args.wanted.now.intervals in
    two_disjoint c.in_ok-with.with c.in_ok-without.without c.new-parts.result.items c.push.new.self.items c.push-2.new.self.items c.new-parts.ensures.items c.in_ok-push.ensures.items c.in_ok-push-2.ensures.items
    (numbers_of c.in_ok-with.with ns point (c.in_ok-with.ensures.all ns point (c.in_ok-copy.ensures.all ns point inside inside) (ap (has set) is ∙ listed)))
    (numbers_of c.in_ok-without.without ms also (c.in_ok-without.ensures.all ms also there (c.in_ok-others.ensures.members (number_on ms field) (omega (arith, also field, c.requires.top)) ∙ ap not (ap (has set) at ∙ unlisted))))
    (λ numbers within here off. true≢false (sym (c.in_ok-with.ensures.members numbers within here)
    ∙ not_other _ _ (c.in_ok-without.ensures.members numbers within off) (c.in_ok-others.ensures.members (number_on numbers field) (omega (arith, within field, c.requires.top)))))

pub returns-clause-two : goal.returns-clause-two
returns-clause-two c =
    two_parts_long c.in_ok-with.with c.in_ok-without.without c.new-parts.result.items c.push.new.self.items c.push-2.new.self.items c.new-parts.ensures.items c.in_ok-push.ensures.items c.in_ok-push-2.ensures.items
