use Rattle.std.proofs.Common.{Bor, map}
use Rattle.clap.specs.Words.{Text, app_of, fault_of}
use Rattle.programs.proofs.CommandLine.{stands_for_refusal}
use Rattle.programs.proofs.line.program.parse.Goals as goal

pub returns-in-Err-clause-refused : goal.returns-in-Err-clause-refused
returns-in-Err-clause-refused c =
    let texts = map (λ (s : Bor Text). s.now) c.args.words.now in
    stands_for_refusal (fault_of (app_of c.args.program) texts) c.in-Err.error c.fault_of.result (c.in-Err.ensures.kinds c.requires) c.fault_of.ensures
