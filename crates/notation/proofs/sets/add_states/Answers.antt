use Rattle.std.proofs.Common.{◌≡◌, ◌++◌, [], ◌||◌, ◌&&◌, ◌∙◌, Bool, sym, ap, append-nil}
use Rattle.std.proofs.lemmas.Result.{IfOk-weaker}
use Rattle.fields.specs.declared.numbers.spans.Interval.{Interval}
use Rattle.fields.specs.numbers.Spans.{has, in_span}
use Rattle.notation.specs.SetText.{state_parts}
use Rattle.notation.proofs.SetTextLaws.{behind, five, one-state}
use Rattle.notation.proofs.sets.add_states.Goals as goal

pub returns-clause-items : goal.returns-clause-items
returns-clause-items c =
    let s = c.args.span.now in
    let a0 = c.args.parts.now.items in
    let a1 = c.add_state.new.parts.items in
    let a2 = c.add_state-2.new.parts.items in
    let a3 = c.add_state-3.new.parts.items in
    let a4 = c.add_state-4.new.parts.items in
    let a5 = c.add_state-5.new.parts.items in
    let p4 = state_parts s (10, 13) ++ [] in
    let p3 = state_parts s (6, 9) ++ p4 in
    let p2 = state_parts s (2, 5) ++ p3 in
    let p1 = state_parts s (1, 1) ++ p2 in
    IfOk-weaker c.add_state-5.result _ _
    (λ done h.
    behind a0 a1 a5 (state_parts s (0, 0)) p1 c.in_ok-add_state.ensures.items
    (behind a1 a2 a5 (state_parts s (1, 1)) p2 c.in_ok-add_state-2.ensures.items
    (behind a2 a3 a5 (state_parts s (2, 5)) p3 c.in_ok-add_state-3.ensures.items
    (behind a3 a4 a5 (state_parts s (6, 9)) p4 c.in_ok-add_state-4.ensures.items (h ∙ ap (λ l. a4 ++ l) (sym (append-nil (state_parts s (10, 13)))))))))
    c.add_state-5.ensures.items

pub returns-clause-members : goal.returns-clause-members
returns-clause-members c =
    IfOk-weaker c.add_state-5.result _ _
    (λ done h x low.
    (let own : Bool = in_span x c.args.span.now in
    let old : Bool = has c.args.parts.now.items x in
    let a : Bool = in_span x (record { first = 0; last = 0 }) in
    let b : Bool = in_span x (record { first = 1; last = 1 }) in
    let d : Bool = in_span x (record { first = 2; last = 5 }) in
    let e : Bool = in_span x (record { first = 6; last = 9 }) in
    let f : Bool = in_span x (record { first = 10; last = 13 }) in
    let two = c.in_ok-add_state-2.ensures.members x ∙ ap (λ t. t || (own && b)) (c.in_ok-add_state.ensures.members x) in
    let three = c.in_ok-add_state-3.ensures.members x ∙ ap (λ t. t || (own && d)) two in
    let four = c.in_ok-add_state-4.ensures.members x ∙ ap (λ t. t || (own && e)) three in
    h x ∙ ap (λ t. t || (own && f)) four ∙ five old own a b d e f (one-state x low)))
    c.add_state-5.ensures.members

pub returns-clause-parts : goal.returns-clause-parts
returns-clause-parts c =
    IfOk-weaker c.add_state-5.result _ _
    (λ done h all. h (c.in_ok-add_state-4.ensures.parts (c.in_ok-add_state-3.ensures.parts (c.in_ok-add_state-2.ensures.parts (c.in_ok-add_state.ensures.parts all)))))
    c.add_state-5.ensures.parts
