use Rattle.std.proofs.Common.{◌≤◌, arith, leb-true}
use Rattle.std.proofs.Math.Dec.{leb}
use Rattle.std.proofs.lemmas.Bool.{and_parts}
use Rattle.questions.proofs.boxes.ends.widened.Goals as goal

pub returns-clause-kept : goal.returns-clause-kept
returns-clause-kept c = λ x between. record { least = omega (arith, between.least, c.min.ensures); greatest = omega (arith, between.greatest, c.max.ensures) }

pub returns-clause-added : goal.returns-clause-added
returns-clause-added c = λ x small inside.
    let both = and_parts (leb c.args.span.first x) (leb x c.args.span.last) inside in
    let low : c.args.span.first ≤ x = leb-true c.args.span.first x both.0 in
    let high : x ≤ c.args.span.last = leb-true x c.args.span.last both.1 in
    record { least = omega (arith, low, c.min.ensures, c.clipped.ensures); greatest = omega (arith, high, small, c.max.ensures, c.clipped-2.ensures) }
