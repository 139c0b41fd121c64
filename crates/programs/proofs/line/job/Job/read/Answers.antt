use Rattle.std.proofs.Common.{Bor, ap, map, refl, ◌∙◌}
use Rattle.std.proofs.lemmas.Result.{err_from_is_err_and}
use Rattle.clap.specs.Words.{Text, is_simple_and_free}
use Rattle.programs.specs.JobLine.{LacksFile, program_app}
use Rattle.programs.proofs.CommandLine.{refusal_is_fault, named_by_words, named_is_known, taken_words}
use Rattle.programs.proofs.line.job.Job.read.Goals as goal

pub parse-requires : goal.parse-requires
parse-requires c = ap is_simple_and_free c.in_ok-program.ensures ∙ refl

pub returns-in_err-matches-clause-fault : goal.returns-in_err-matches-clause-fault
returns-in_err-matches-clause-fault c =
    let texts = map (λ (s : Bor Text). s.now) c.args.words.now in
    let p = err_from_is_err_and c.from_residual-in_err-matches.result c.from_residual-in_err-matches.ensures.1 in
    rw (p.1, p.2) (refusal_is_fault program_app _ LacksFile texts c.in_err-matches.field-0.0 c.in_ok-program.ensures c.in_err-matches.ensures.refused)

pub job_of-requires : goal.job_of-requires
job_of-requires c =
    let texts = map (λ (s : Bor Text). s.now) c.args.words.now in
    named_is_known program_app texts _ (named_by_words program_app _ texts c.in_ok-matches.matches _ _ refl c.in_ok-program.ensures c.in_ok-matches.ensures.matches c.in-Some.ensures.name c.in-Some.ensures.rows)

pub returns-in-Some-clause-job : goal.returns-in-Some-clause-job
returns-in-Some-clause-job c =
    let texts = map (λ (s : Bor Text). s.now) c.args.words.now in
    (taken_words program_app _ texts c.in_ok-program.ensures c.in_ok-matches.ensures.taken, _, named_by_words program_app _ texts c.in_ok-matches.matches _ _ refl c.in_ok-program.ensures c.in_ok-matches.ensures.matches c.in-Some.ensures.name c.in-Some.ensures.rows, c.job_of.ensures)
