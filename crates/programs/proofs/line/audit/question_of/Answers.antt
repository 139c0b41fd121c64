use Rattle.std.proofs.Common.{codes, inl, inr, sym, ◌∙◌}
use Rattle.clap.specs.Words.{found_of}
use Rattle.clap.proofs.WalkLemmas.{first_value-rows}
use Rattle.programs.proofs.line.audit.question_of.Goals.{in_default-2-via-in-Some+in_default, in_default-2-via-in_default, in_default-3-via-in-Some+in_default, in_default-3-via-in_default}
use Rattle.programs.proofs.line.audit.question_of.Goals as goal

pub returns-in-Some : goal.returns-in-Some
returns-in-Some c = (c.in-dead.is, c.in-Some.ensures ∙ first_value-rows (found_of c.args.matches.now) (codes "file"))

pub returns-in-None : goal.returns-in-None
returns-in-None c = inl (inl c.in-dead.is, sym (c.in-None.ensures ∙ first_value-rows (found_of c.args.matches.now) (codes "file")))

pub returns-in-Some-Some : goal.returns-in-Some-Some
returns-in-Some-Some c = (
  c.in-compare.is,
  c.in-Some-Some.ensures ∙ first_value-rows (found_of c.args.matches.now) (codes "old"),
  c.in-Some-Some.ensures' ∙ first_value-rows (found_of c.args.matches.now) (codes "new"),
)

pub returns-in_default-2 : goal.returns-in_default-2
returns-in_default-2 c = inr (inl (
  c.in-compare.is,
  elim c.in_default-2.branch [
    | in_default-2-via-in-Some+in_default w ↦ inr (sym (w.in_default-2.ensures' ∙ first_value-rows (found_of c.args.matches.now) (codes "new")))
    | in_default-2-via-in_default w ↦ inl (sym (w.in_default-2.ensures ∙ first_value-rows (found_of c.args.matches.now) (codes "old")))
  ],
))

pub returns-in-Some-get_str : goal.returns-in-Some-get_str
returns-in-Some-get_str c = (c.in-tests.is, c.in-Some-get_str.ensures ∙ first_value-rows (found_of c.args.matches.now) (codes "file"))

pub returns-in-None-get_str : goal.returns-in-None-get_str
returns-in-None-get_str c = inl (inr (inl c.in-tests.is), sym (c.in-None-get_str.ensures ∙ first_value-rows (found_of c.args.matches.now) (codes "file")))

pub returns-in-Some-get_str-2 : goal.returns-in-Some-get_str-2
returns-in-Some-get_str-2 c = (c.in-cover.is, c.in-Some-get_str-2.ensures ∙ first_value-rows (found_of c.args.matches.now) (codes "file"))

pub returns-in-None-get_str-2 : goal.returns-in-None-get_str-2
returns-in-None-get_str-2 c = inl (inr (inr (inl c.in-cover.is)), sym (c.in-None-get_str-2.ensures ∙ first_value-rows (found_of c.args.matches.now) (codes "file")))

pub returns-in-Some-get_str-3 : goal.returns-in-Some-get_str-3
returns-in-Some-get_str-3 c = (c.in-reach.is, c.in-Some-get_str-3.ensures ∙ first_value-rows (found_of c.args.matches.now) (codes "file"))

pub returns-in-None-get_str-3 : goal.returns-in-None-get_str-3
returns-in-None-get_str-3 c = inl (inr (inr (inr (inl c.in-reach.is))), sym (c.in-None-get_str-3.ensures ∙ first_value-rows (found_of c.args.matches.now) (codes "file")))

pub returns-in-Some-get_str-4 : goal.returns-in-Some-get_str-4
returns-in-Some-get_str-4 c = (c.in-walk.is, c.in-Some-get_str-4.ensures ∙ first_value-rows (found_of c.args.matches.now) (codes "file"))

pub returns-in-None-get_str-4 : goal.returns-in-None-get_str-4
returns-in-None-get_str-4 c = inl (inr (inr (inr (inr c.in-walk.is))), sym (c.in-None-get_str-4.ensures ∙ first_value-rows (found_of c.args.matches.now) (codes "file")))

pub returns-in-Some-Some-2 : goal.returns-in-Some-Some-2
returns-in-Some-Some-2 c = (
  c.in-assert.is,
  c.in-Some-Some-2.ensures ∙ first_value-rows (found_of c.args.matches.now) (codes "file"),
  c.in-Some-Some-2.ensures' ∙ first_value-rows (found_of c.args.matches.now) (codes "claims"),
)

pub returns-in_default-3 : goal.returns-in_default-3
returns-in_default-3 c = inr (inr (
  c.in-assert.is,
  elim c.in_default-3.branch [
    | in_default-3-via-in-Some+in_default w ↦ inr (sym (w.in_default-3.ensures' ∙ first_value-rows (found_of c.args.matches.now) (codes "claims")))
    | in_default-3-via-in_default w ↦ inl (sym (w.in_default-3.ensures ∙ first_value-rows (found_of c.args.matches.now) (codes "file")))
  ],
))
