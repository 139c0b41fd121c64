use Rattle.std.proofs.Common.{OnOk, rules}
use Rattle.std.proofs.lemmas.Result.{on_ok_weaker}
use Rattle.dumps.specs.Reading.{IsLineRead}
use Rattle.dumps.specs.Views.{read_in, table_in}
use Rattle.dumps.proofs.laws.ReadingLaws.{rules_stand_beside_lines}
use Rattle.dumps.proofs.reading.dump.Reading.line.Goals as goal

pub returns-in-Ok-clause-beside : goal.returns-in-Ok-clause-beside
returns-in-Ok-clause-beside c =
    let table = table_in c.args.self.now.table in
    let old = read_in c.args.self.now in
    let new = read_in c.words-in-Ok.new.self in
    let read : OnOk c.words-in-Ok.result (IsLineRead table c.args.line.now old new) = search rules in
    on_ok_weaker c.words-in-Ok.result (rules_stand_beside_lines table c.args.line.now old new) read
