use Rattle.std.proofs.Common.{arith, get_or, of_calls}
use Rattle.classify.proofs.laws.classifier.ClassifierLaws.{classifier_empty, kept_empty, none_before}
use Rattle.classify.proofs.laws.classifier.RuleLaws.{no_rules}
use Rattle.classify.proofs.laws.classifier.WholeLaws.{whole_empty}
use Rattle.classify.proofs.classifier.Classifier.new.Goals as goal

pub invariant_of-result : goal.invariant_of-result
invariant_of-result c =
    let ok = c.in_ok-lines.ensures.ok in (
      kept_empty c.in_ok-lines.lines ok.long (λ k l lt. let h = (ok.at k l (omega (arith, ok.long))).2 in search of_calls)
          (none_before c.in_ok-lines.lines (λ k l lt. let h = (ok.at k l (omega (arith, ok.long))).2 in search of_calls)),
      λ k l lt _. whole_empty (get_or c.in_ok-lines.lines k l) (let h = (ok.at k l (omega (arith, ok.long))).2 in search of_calls),
      c.others.ensures,
    )

pub returns-clause-boxes : goal.returns-clause-boxes
returns-clause-boxes c =
    let ok = c.in_ok-lines.ensures.ok in
    classifier_empty c.in_ok-lines.lines ok.long (λ k l lt. let h = (ok.at k l (omega (arith, ok.long))).2 in search of_calls)

pub returns-clause-rules : goal.returns-clause-rules
returns-clause-rules c = no_rules _ (returns-clause-boxes c)
