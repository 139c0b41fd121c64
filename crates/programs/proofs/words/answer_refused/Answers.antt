use Rattle.std.proofs.Common.{◌∙◌, rules, sym, subst}
use denote.Enum.Bare.{same_true, same_false}
use Rattle.clap.specs.contracts.error.kind.ErrorKind.{the_type}
use Rattle.programs.specs.Line.{IsReplied, version, unwritten, refused}
use Rattle.programs.proofs.words.answer_refused.Goals as goal
use Rattle.programs.proofs.words.answer_refused.Goals.{in-Ok, in-Err}

pub returns-then-eq : goal.returns-then-eq
returns-then-eq g c =
    let is = sym c.kind.ensures ∙ same_true the_type (search rules) _ _ (sym c.if-eq.ensures) in
    elim c.match-print.branch [
      | in-Ok w ↦ subst (IsReplied c.args.error) (sym w.result-is) (version c.args.error is)
      | in-Err w ↦ subst (IsReplied c.args.error) (sym w.result-is) (unwritten c.args.error is)
    ]

pub returns : goal.returns
returns g c = refused c.args.error (λ is. same_false the_type _ _ (sym c.if-eq.ensures) (c.kind.ensures ∙ is))
