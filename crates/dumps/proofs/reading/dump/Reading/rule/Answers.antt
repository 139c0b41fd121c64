use Rattle.dumps.specs.Views.{table_in, rule_line_in, read_in}
use Rattle.dumps.proofs.laws.ReadingLaws.{moved_refused}
use Rattle.dumps.proofs.reading.dump.Reading.rule.Goals as goal

pub returns-clause-refused : goal.returns-clause-refused
returns-clause-refused c =
    moved_refused (table_in c.args.self.now.table) (rule_line_in c.args.line) (read_in c.args.self.now) (read_in c.take.new.self)
    c.check_moved.result c.in_ok-take.ensures.taken c.check_moved.ensures.refused
