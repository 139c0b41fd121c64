use Rattle.std.proofs.Common.{take, flat_map}
use Rattle.fields.specs.text.Tap.{Wrote}
use Rattle.rules.specs.steps.Writing.{match_text}
use Rattle.rules.specs.steps.Views.{view_match}
use Rattle.rules.specs.declared.rule.spec.Match.{Match}
use Rattle.rules.proofs.printing.put_matches.Given as goal

abbrev pub invariant-loop-one : goal.invariant-loop-one
invariant-loop-one g l = Wrote g.W.Write.contents l.initial.output l.output (flat_map (λ (m : Match). match_text (view_match m)) (take l.one-index l.matches))
