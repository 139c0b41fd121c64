use Rattle.std.specs.Prelude.{codes}
use Rattle.std.proofs.Common.{ℕ, subst, ◌≡◌, ◌++◌, ◌<◌, ◌≤◌, ◌∙◌, ap, sym, length, arith, rules}
use Rattle.std.proofs.lemmas.Bool.Decides.{nat_tests}
use Rattle.std.proofs.lemmas.Result.{IfOk-weaker}
use Rattle.fields.specs.numbers.Field.{name}
use Rattle.fields.specs.numbers.Spans.{AreSpansFrom}
use Rattle.notation.specs.SetText.{IsWordText}
use Rattle.notation.proofs.ReadBackLaws.{says_all, says_own, says_others}
use Rattle.notation.proofs.SetTextLaws.{all-text, are-others, no-intervals, own-text, others-text, some-intervals}
use Rattle.notation.proofs.sets.set_word.Goals as goal

pub returns-then-is_empty : goal.returns-then-is_empty
returns-then-is_empty c =
    let f = c.args.field in
    let none = no-intervals c.in_ok-others.others.intervals (ap length (sym c.intervals.ensures.value) ∙ (let k = c.if-is_empty.ensures in let e : length c.intervals.result.now ≡ 0 = grind (arith, nat_tests) in e)) in
    record {
      word = IfOk-weaker c.word_of.result (λ text. text.items ≡ name f ++ codes "=any") (λ text. IsWordText f c.args.set.now text.items)
          (λ text h. all-text f c.args.set.now c.in_ok-others.others.intervals text.items none c.in_ok-others.ensures.members h) (search rules);
      reads_back = IfOk-weaker c.word_of.result (λ text. text.items ≡ name f ++ codes "=any") _
          (λ text h x low here. says_all f c.args.set.now c.in_ok-others.others.intervals text.items none (λ y under. c.in_ok-others.ensures.members y (rw (← c.requires) at under)) h) (search rules);
    }

pub returns-then-len : goal.returns-then-len
returns-then-len c =
    let f = c.args.field in
    let left = are-others c.args.set.now c.in_ok-others.others.top c.in_ok-others.others.intervals c.in_ok-others.ensures.top c.intervals.ensures.canonical c.in_ok-others.ensures.members in
    let some : 0 < length c.intervals.result.now = (let k = c.if-is_empty.ensures in grind (arith, nat_tests)) in
    let fewer : length c.in_ok-within.within.items ≤ length c.in_ok-out.out.items = omega arith in
    record {
      word = IfOk-weaker c.word_of-then-len.result (λ text. text.items ≡ name f ++ (codes "=" ++ c.in_ok-list.list.items)) (λ text. IsWordText f c.args.set.now text.items)
          (λ text h. own-text f c.args.set.now c.in_ok-others.others.intervals c.in_ok-within.within.items c.in_ok-out.out.items c.in_ok-list.list.items text.items left
          (some-intervals c.in_ok-others.others.intervals c.intervals.result.now c.intervals.ensures.value some)
          (record { items_are = c.in_ok-within.ensures.items; members = λ x low. c.in_ok-within.ensures.members x (rw c.requires at low) })
          (record { items_are = c.in_ok-out.ensures.items; members = λ x low. c.in_ok-out.ensures.members x (rw c.requires at low) })
          fewer (search rules) h) (search rules);
      reads_back = IfOk-weaker c.word_of-then-len.result (λ text. text.items ≡ name f ++ (codes "=" ++ c.in_ok-list.list.items)) _
          (λ text h x low here. says_own f c.args.set.now c.in_ok-within.within.items c.in_ok-list.list.items text.items x low here c.in_ok-within.ensures.parts (search rules) c.in_ok-within.ensures.members h) (search rules);
    }

pub returns : goal.returns
returns c =
    let f = c.args.field in
    let left = are-others c.args.set.now c.in_ok-others.others.top c.in_ok-others.others.intervals c.in_ok-others.ensures.top c.intervals.ensures.canonical c.in_ok-others.ensures.members in
    let fewer : length c.in_ok-out.out.items < length c.in_ok-within.within.items = omega arith in
    record {
      word = IfOk-weaker c.word_of-2.result (λ text. text.items ≡ name f ++ (codes "!=" ++ c.in_ok-list-2.list.items)) (λ text. IsWordText f c.args.set.now text.items)
          (λ text h. others-text f c.args.set.now c.in_ok-others.others.intervals c.in_ok-within.within.items c.in_ok-out.out.items c.in_ok-list-2.list.items text.items left
          (record { items_are = c.in_ok-within.ensures.items; members = λ x low. c.in_ok-within.ensures.members x (rw c.requires at low) })
          (record { items_are = c.in_ok-out.ensures.items; members = λ x low. c.in_ok-out.ensures.members x (rw c.requires at low) })
          fewer (search rules) h) (search rules);
      reads_back = IfOk-weaker c.word_of-2.result (λ text. text.items ≡ name f ++ (codes "!=" ++ c.in_ok-list-2.list.items)) _
          (λ text h x low here. says_others f c.args.set.now c.in_ok-others.others.intervals c.in_ok-out.out.items c.in_ok-list-2.list.items text.items
          (subst (λ (most : ℕ). AreSpansFrom most 0 c.in_ok-others.others.intervals) (c.in_ok-others.ensures.top ∙ c.requires) c.intervals.ensures.canonical)
          (some-intervals c.in_ok-others.others.intervals c.intervals.result.now c.intervals.ensures.value (let k = c.if-is_empty.ensures in grind (arith, nat_tests)))
          c.in_ok-out.ensures.parts (search rules) c.in_ok-out.ensures.members (λ y under. c.in_ok-others.ensures.members y (rw (← c.requires) at under)) h) (search rules);
    }
