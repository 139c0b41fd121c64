use Rattle.std.proofs.Common.{arith, ap, subst, sym, get_or, length, ◌<◌, List, [], ◌∙◌}
use Rattle.std.proofs.lemmas.Bool.{false≢true}
use Rattle.bits.specs.MarginRows.{Room}
use Rattle.fields.specs.numbers.Spans.{SpanSet}
use Rattle.classify.specs.steps.Pieces.{CutsStart, IsApart, IsRising, row_bits, row_in}
use Rattle.classify.proofs.laws.classifier.ClassifierLaws.{margin_by, margin_taken}
use Rattle.classify.proofs.laws.line.EditLaws.{Cut}
use Rattle.classify.proofs.laws.line.ApartLaws.{apart_after}
use Rattle.classify.proofs.laws.line.BoxLaws.{says_from_line, same_after_merge}
use Rattle.classify.proofs.laws.line.KeptLaws.{bits_said}
use Rattle.classify.proofs.classifier.lines.insert_lines.Goals as goal

abbrev no_set : SpanSet
no_set = record { top = 0; intervals = [] }

pub prepare_lines-requires-clause-rising : goal.prepare_lines-requires-clause-rising
prepare_lines-requires-clause-rising c k s l lt = (c.requires.sound k s l lt).rising

pub insert_prepared_lines-requires-clause-cut : goal.insert_prepared_lines-requires-clause-cut
insert_prepared_lines-requires-clause-cut c k s l lt =
    let lt' : k < length c.args.lines.now = omega (arith, c.prepare_lines.auto.lines) in
    let sound = c.requires.sound k s l lt' in
    let split = c.prepare_lines.ensures.split k s l lt' in
    let ltp : k < length c.prepare_lines.new.lines = omega (arith, c.prepare_lines.auto.lines) in
    let s' : SpanSet = get_or c.args.spans.now k s in
    let P : List Cut → Type 0 = λ line. IsRising s'.top line × CutsStart s'.top s'.intervals line × IsApart s'.intervals line in
    let all = subst P (sym (c.make_way.ensures.same k l ltp).0) (split.rising, c.in-Ok.ensures.cuts k s l lt', apart_after _ _ _ _ sound.rising sound.differ split) in
    record { rising = all.0; cuts = all.1; apart = all.2 }

pub insert_prepared_lines-requires-clause-room : goal.insert_prepared_lines-requires-clause-room
insert_prepared_lines-requires-clause-room c k l lt =
    let ltp : k < length c.prepare_lines.new.lines = omega (arith, c.make_way.auto.lines) in
    omega (arith, (c.make_way.ensures.same k l ltp).1, c.in-Ok.ensures.ready k l ltp)

pub insert_prepared_lines-requires-clause-place : goal.insert_prepared_lines-requires-clause-place
insert_prepared_lines-requires-clause-place c k l lt =
    let lt' : k < length c.args.lines.now = omega (arith, c.prepare_lines.auto.lines) in
    let sound = c.requires.sound k no_set l lt' in
    let split = c.prepare_lines.ensures.split k no_set l lt' in
    let ltp : k < length c.prepare_lines.new.lines = omega (arith, c.make_way.auto.lines) in
    omega (arith, c.requires.place, sound.bits, bits_said _ _ _ sound.rising split.rising split.same, ap row_bits (c.make_way.ensures.same k l ltp).0)

pub unsplit_lines-requires-clause-rising : goal.unsplit_lines-requires-clause-rising
unsplit_lines-requires-clause-rising c k s l lt = (c.prepare_lines.ensures.split k s l (omega (arith, c.prepare_lines.auto.lines))).rising

pub unsplit_lines-requires-clause-apart : goal.unsplit_lines-requires-clause-apart
unsplit_lines-requires-clause-apart c k s l lt =
    let lt' : k < length c.args.lines.now = omega (arith, c.prepare_lines.auto.lines) in
    let sound = c.requires.sound k s l lt' in
    apart_after _ _ _ _ sound.rising sound.differ (c.prepare_lines.ensures.split k s l lt')

pub returns-in-Ok-clause-ok : goal.returns-in-Ok-clause-ok
returns-in-Ok-clause-ok c k s l lt sets line =
    let lt' : k < length c.prepare_lines.new.lines = omega (arith, c.prepare_lines.auto.lines) in
    let split = c.prepare_lines.ensures.split k s l lt in
    let way = (c.make_way.ensures.same k l lt').0 in
    (c.insert_prepared_lines.ensures k s l (omega (arith, c.make_way.auto.lines))).line sets (λ x le. ap (λ (ps : List Cut). row_in ps x) way ∙ split.same x ∙ says_from_line _ sets _ line x le)

pub returns-in-Ok-clause-sound : goal.returns-in-Ok-clause-sound
returns-in-Ok-clause-sound c k s l lt =
    let lt' : k < length c.prepare_lines.new.lines = omega (arith, c.prepare_lines.auto.lines) in
    let sound = c.requires.sound k s l lt in
    let split = c.prepare_lines.ensures.split k s l lt in
    let way = (c.make_way.ensures.same k l lt').0 in
    let made = (c.insert_prepared_lines.ensures k s l (omega (arith, c.make_way.auto.lines))).sound in
    record { rising = made.rising; differ = made.differ; bits = omega (arith, made.bits, sound.bits, bits_said _ _ _ sound.rising split.rising split.same, ap row_bits way) }

pub returns-in-Err-clause-err : goal.returns-in-Err-clause-err
returns-in-Err-clause-err c k l lt =
    let lt' : k < length c.prepare_lines.new.lines = omega (arith, c.prepare_lines.auto.lines) in
    let sound = c.requires.sound k no_set l lt in
    let split = c.prepare_lines.ensures.split k no_set l lt in
    same_after_merge _ _ _ _ _ sound.rising sound.differ split (c.unsplit_lines.ensures.joined k no_set l lt')

pub returns-in-Err-clause-there : goal.returns-in-Err-clause-there
returns-in-Err-clause-there c room = absurd (false≢true (c.in-Err.ensures.there room))

pub returns-in-Ok-clause-room : goal.returns-in-Ok-clause-room
returns-in-Ok-clause-room c k l lt =
    let lt' : k < length c.prepare_lines.new.lines = omega (arith, c.prepare_lines.auto.lines) in
    omega (arith, (c.insert_prepared_lines.ensures k no_set l (omega (arith, c.make_way.auto.lines))).room, (c.make_way.ensures.same k l lt').1, (c.prepare_lines.ensures.room k l lt).more)

pub returns-in-Err-clause-back : goal.returns-in-Err-clause-back
returns-in-Err-clause-back c k l lt =
    let lt' : k < length c.prepare_lines.new.lines = omega (arith, c.prepare_lines.auto.lines) in
    let kept = c.prepare_lines.ensures.room k l lt in
    let same = c.unsplit_lines.ensures.room k l lt' in
    record { more = omega (arith, ap (λ (r : Room). r.places) same, kept.more); before = ap (λ (r : Room). r.before) same ∙ kept.before }

pub returns-in-Ok-clause-margin : goal.returns-in-Ok-clause-margin
returns-in-Ok-clause-margin c one =
    margin_taken c.args.at _ _ c.insert_prepared_lines.auto.lines (λ k l lt. (c.insert_prepared_lines.ensures k no_set l lt).margin)
    (c.make_way.ensures.margin (margin_by (λ n. n) _ _ c.prepare_lines.auto.lines (λ k l lt. (c.prepare_lines.ensures.room k l lt).before) one))

pub returns-in-Err-clause-margin : goal.returns-in-Err-clause-margin
returns-in-Err-clause-margin c one =
    margin_by (λ n. n) _ _ c.unsplit_lines.auto.lines (λ k l lt. ap (λ (r : Room). r.before) (c.unsplit_lines.ensures.room k l lt))
    (margin_by (λ n. n) _ _ c.prepare_lines.auto.lines (λ k l lt. (c.prepare_lines.ensures.room k l lt).before) one)
