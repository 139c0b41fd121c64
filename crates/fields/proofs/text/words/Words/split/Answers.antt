use Rattle.std.proofs.Common.{Ok, rules}
use Rattle.fields.specs.steps.Cutting.{view_cutting}
use Rattle.fields.proofs.laws.text.WordLaws.{words_of-law, came, exact-found, exact-only, exact-quoting}
use Rattle.fields.proofs.laws.text.PrintedLaws.{found_line, found_words}
use Rattle.fields.proofs.text.words.Words.split.Goals as goal

pub invariant_of-result : goal.invariant_of-result
invariant_of-result c = (c.in_ok-cutting.cutting.rise, found_words (view_cutting c.in_ok-cutting.cutting).words c.args.line.now (came _ _ c.in_ok-cutting.ensures))

pub returns-in_err-cutting-clause-only : goal.returns-in_err-cutting-clause-only
returns-in_err-cutting-clause-only c = exact-only c.from_residual.result c.args.line.now (search rules)

pub returns-in_err-cutting-clause-quoting : goal.returns-in_err-cutting-clause-quoting
returns-in_err-cutting-clause-quoting c = exact-quoting c.from_residual.result c.args.line.now (search rules)

pub returns-in_err-cutting-clause-law : goal.returns-in_err-cutting-clause-law
returns-in_err-cutting-clause-law c = λ words. words_of-law words c.args.line.now

pub returns-clause-found : goal.returns-clause-found
returns-clause-found c = exact-found (Ok (view_cutting c.in_ok-cutting.cutting).words) c.args.line.now (came _ _ c.in_ok-cutting.ensures)

pub returns-clause-only : goal.returns-clause-only
returns-clause-only c = exact-only (Ok (view_cutting c.in_ok-cutting.cutting).words) c.args.line.now (came _ _ c.in_ok-cutting.ensures)

pub returns-clause-law : goal.returns-clause-law
returns-clause-law c = λ words. words_of-law words c.args.line.now

pub returns-clause-one_line : goal.returns-clause-one_line
returns-clause-one_line c = found_line (view_cutting c.in_ok-cutting.cutting).words c.args.line.now (came _ _ c.in_ok-cutting.ensures)

pub returns-clause-words_in_line : goal.returns-clause-words_in_line
returns-clause-words_in_line c = found_words (view_cutting c.in_ok-cutting.cutting).words c.args.line.now (came _ _ c.in_ok-cutting.ensures)
