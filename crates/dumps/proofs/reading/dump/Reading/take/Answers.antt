use Rattle.dumps.specs.Views.{table_in, refusal_in, rule_line_in, read_in, refused_in}
use Rattle.dumps.proofs.laws.ReadingLaws.{apart_refused}
use Rattle.dumps.proofs.reading.dump.Reading.take.Goals as goal

pub returns-in-Err-clause-refused : goal.returns-in-Err-clause-refused
returns-in-Err-clause-refused c =
    apart_refused (table_in c.args.self.now.table) (rule_line_in c.args.line) (read_in c.args.self.now) (refusal_in c.in-Err.fault)
    (refused_in c.refused_apart.result) c.in-Err.ensures c.refused_apart.ensures
