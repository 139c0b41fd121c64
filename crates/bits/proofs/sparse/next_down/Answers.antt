use Rattle.std.proofs.Common.{◌%◌, ◌/◌, ◌*◌, ◌-◌, arith, ap, sym, ◌∙◌}
use Rattle.std.specs.Prelude.{slice_index}
use Rattle.std.proofs.lemmas.Bool.{ne_eqb}
use Rattle.bits.specs.steps.Packing.{low_bit}
use Rattle.bits.proofs.laws.ShiftLaws.{stay_blank, blank_low}
use Rattle.bits.proofs.sparse.next_down.Goals as goal
use Rattle.bits.proofs.sparse.next_down.Goals.{else-start-next-via-then-start-next+else-word_at-eq1, else-start-next-via-else-start-next}

pub returns-then-word_at-eq1-clause-blank : goal.returns-then-word_at-eq1-clause-blank
returns-then-word_at-eq1-clause-blank c =
    stay_blank c.args.words.now c.args.start ((c.next_marked-next.result - 1) / 2 * 2) (λ k ge below. c.requires.summed k ge (c.next_marked-next.ensures.none k ge (omega arith)))
    (λ some. blank_low (slice_index c.args.words.now ((c.next_marked-next.result - 1) / 2 * 2)) (c.requires.summed ((c.next_marked-next.result - 1) / 2 * 2) (omega arith) (c.next_marked-next.ensures.none ((c.next_marked-next.result - 1) / 2 * 2) (omega arith) (omega arith))))

pub returns-clause-blank : goal.returns-clause-blank
returns-clause-blank c =
    stay_blank c.args.words.now c.args.start c.next_marked-next.result (λ k ge below. c.requires.summed k ge (c.next_marked-next.ensures.none k ge below))
    (λ some. elim c.else-start-next.branch [
      | else-start-next-via-then-start-next+else-word_at-eq1 w ↦ ap low_bit (sym w.word_at.ensures) ∙ ne_eqb (w.word_at.result % 2) 1 w.if-word_at-eq1.false
      | else-start-next-via-else-start-next w ↦ absurd (omega (arith, some, w.if-start-next.false))
    ])
