use Rattle.std.proofs.Common.{arith, ap, get_or, length, ◌<◌, ◌∙◌, sym, subst, List}
use Rattle.std.proofs.lemmas.Bool.{false≢true}
use Rattle.std.proofs.lemmas.Result.{on_ok_weaker}
use Rattle.classify.specs.steps.Pieces.{CutsStart, IsSplitOf}
use Rattle.classify.specs.steps.Fields.{EachEdit, EachField, EachLine, HasCuts}
use Rattle.classify.proofs.laws.line.EditLaws.{Cut}
use Rattle.bits.specs.MarginRows.{Room}
use Rattle.classify.proofs.laws.classifier.ClassifierLaws.{same_keeps, no_set}
use Rattle.classify.proofs.classifier.lines.prepare_lines.Goals as goal

pub returns-clause-split : goal.returns-clause-split
returns-clause-split c k s l lt =
    let P : List Cut → Type 0 = λ line. IsSplitOf (get_or c.args.spans.now k s).top (get_or c.args.spans.now k s).intervals (get_or c.args.lines.now k l).pieces line in
    subst P (sym (c.reserve_lines.ensures.more k l (omega (arith, c.split_lines.auto.lines))).same) (c.split_lines.ensures.split k s l lt)

pub returns-clause-cuts : goal.returns-clause-cuts
returns-clause-cuts c =
    let cuts : EachEdit (λ _ m. 0 < m.room.places) c.split_lines.new.lines c.reserve_lines.new.lines → EachField (λ s _ m. HasCuts s m) c.args.spans.now c.args.lines.now c.reserve_lines.new.lines =
    λ _ k s l lt.
    (let P : List Cut → Type 0 = λ line. CutsStart (get_or c.args.spans.now k s).top (get_or c.args.spans.now k s).intervals line in
    subst P (sym (c.reserve_lines.ensures.more k l (omega (arith, c.split_lines.auto.lines))).same) (c.in_ok-split_lines.ensures.cuts k s l lt)) in
    on_ok_weaker c.reserve_lines.result cuts c.reserve_lines.ensures.room

pub returns-clause-ready : goal.returns-clause-ready
returns-clause-ready c =
    let ready : EachEdit (λ _ m. 0 < m.room.places) c.split_lines.new.lines c.reserve_lines.new.lines → EachLine (λ m. 0 < m.room.places) c.reserve_lines.new.lines = λ room k l lt. room k l (omega (arith, c.reserve_lines.auto.lines)) in
    on_ok_weaker c.reserve_lines.result ready c.reserve_lines.ensures.room

pub returns-in_err-split_lines-clause-there : goal.returns-in_err-split_lines-clause-there
returns-in_err-split_lines-clause-there c room = absurd (false≢true (c.in_err-split_lines.ensures.there (λ k s l lt. (room k s l lt).cuts)))

pub returns-clause-there : goal.returns-clause-there
returns-clause-there c room = c.reserve_lines.ensures.there (λ k l lt.
    (let lt' : k < length c.args.lines.now = omega (arith, c.split_lines.auto.lines) in
    omega (arith, ap (λ (r : Room). r.places) (c.split_lines.ensures.room k l lt'), (room k no_set l lt').room)))

pub returns-clause-room : goal.returns-clause-room
returns-clause-room c k l lt =
    let split = c.split_lines.ensures.room k l lt in
    let more = (c.reserve_lines.ensures.more k l (omega (arith, c.split_lines.auto.lines))).room in
    record { more = omega (arith, ap (λ (r : Room). r.places) split, more.more); before = more.before ∙ ap (λ (r : Room). r.before) split }

pub returns-in_err-split_lines-clause-room : goal.returns-in_err-split_lines-clause-room
returns-in_err-split_lines-clause-room c k l lt = same_keeps _ _ (c.split_lines.ensures.room k l lt)
