use Rattle.std.proofs.Common.{inl, inr, ◌<◌, ◌∙◌, arith}
use Rattle.dumps.proofs.laws.KnownLaws.{part_taken, nothing_taken}
use Rattle.dumps.proofs.options.known.spanned.Goals as goal

pub returns-in-Some : goal.returns-in-Some
returns-in-Some c =
    let h = c.in-Some.ensures.lookup in
    h.0.2 ∙ part_taken c.args.words.now c.args.span.from c.args.span.to h.0.0

pub returns-in-None : goal.returns-in-None
returns-in-None c =
    let words = c.args.words.now in
    let crossed : c.args.span.to < c.args.span.from = elim c.in-None.ensures.lookup.0 [ inl lt ↦ lt | inr lt ↦ let le = c.requires in omega (arith, lt, le) ] in
    nothing_taken words c.args.span.from c.args.span.to crossed
