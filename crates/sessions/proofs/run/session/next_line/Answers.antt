use Rattle.std.proofs.Common.{◌≡◌, ◌<◌, ◌==◌, ◌||◌, ◌&&◌, ◌⊎◌, inl, inr, ℕ, Bool, true, false, ◌∙◌, rules, arith, [], sym, subst, ap}
use Rattle.std.proofs.lemmas.Bool.{ne_eqb, true≢false}
use Rattle.std.proofs.KnownBytes.{Appends-trans}
use Rattle.fields.specs.text.Tap.{is_late, known, turns_left}
use Rattle.fields.specs.text.Line.{ReadsPart}
use Rattle.sessions.specs.run.Console.{reader, writer}
use Rattle.sessions.proofs.run.session.next_line.Goals as goal

-- a tap that shows bytes, or is asked while nothing is withheld, isn't asked late
asked_in_time : (late withheld : Bool) (shown : ℕ) {after : Bool} → after ≡ (late || (withheld && shown == 0)) → (0 < shown) ⊎ (withheld ≡ false) → after ≡ late
asked_in_time true withheld shown is in_time = is
asked_in_time false false shown is in_time = is
asked_in_time false true shown is (inl more) = is ∙ ne_eqb shown 0 (λ none. absurd (omega (arith, more, none)))
asked_in_time false true shown is (inr none) = absurd (true≢false none)

pub parts-preserved : goal.parts-preserved
parts-preserved g c =
    let given = known g.W.Write.contents in
    let remaining = known g.R.Read.remaining in
    let first = c.args.console.now in
    let handed = c.hand_on_in_time.new.console in
    let fewer = ap turns_left c.hand_on_in_time.ensures.reader in
    record {
      same = search rules;
      prompt = asked_in_time _ _ _ c.read_part.ensures.late c.in_ok-hand_on_in_time.ensures.handed ∙ ap is_late c.hand_on_in_time.ensures.reader ∙ c.parts.invariant.prompt;
      reads = rw c.in-Ok-None.field-0-is at c.in-Ok-None.ensures.reads (remaining (reader first)) (turns_left (reader first))
          (subst (λ t. ReadsPart (remaining (reader first)) (remaining t) (turns_left (reader first)) (turns_left t) 10240 c.parts.line.items c.parts.too_long) (sym c.hand_on_in_time.ensures.reader) c.parts.invariant.reads);
      given = rw c.read_part.ensures.writer (Appends-trans (given (writer first)) (given (writer c.parts.console)) (given (writer handed)) [] [] c.parts.invariant.given c.hand_on_in_time.ensures.given);
      still = λ as_before. absurd (omega (arith, fewer, as_before, c.in-Ok-None.ensures.turns));
      fresh = search rules;
      open_out = search rules;
      within = search rules;
      room = omega arith;
      capacity = omega arith;
      turns = omega (arith, fewer, c.in-Ok-None.ensures.turns);
    }

pub returns-in-Ok-Some-clause-reads : goal.returns-in-Ok-Some-clause-reads
returns-in-Ok-Some-clause-reads g c =
    let remaining = known g.R.Read.remaining in
    let first = reader c.args.console.now in
    rw c.in-Ok-Some.field-0-is at c.in-Ok-Some.ensures.reads (remaining first) (turns_left first)
    (subst (λ t. ReadsPart (remaining first) (remaining t) (turns_left first) (turns_left t) 10240 c.parts.line.items c.parts.too_long) (sym c.hand_on_in_time.ensures.reader) c.parts.invariant.reads)

pub returns-in-Err-clause-reads : goal.returns-in-Err-clause-reads
returns-in-Err-clause-reads g c =
    let remaining = known g.R.Read.remaining in
    let first = reader c.args.console.now in
    c.in-Err.ensures.reads (remaining first) (turns_left first)
    (subst (λ t. ReadsPart (remaining first) (remaining t) (turns_left first) (turns_left t) 10240 c.parts.line.items c.parts.too_long) (sym c.hand_on_in_time.ensures.reader) c.parts.invariant.reads)
