use Rattle.std.proofs.Common.{◌≡◌, Some, ap, sym, ◌∙◌, rules}
use Rattle.dumps.specs.Known.{written_by, written_in, kind_of, name_refusal, add_refused_in}
use Rattle.dumps.proofs.laws.KnownLaws.{name_refused, there_refused}
use Rattle.dumps.proofs.options.kept.KnownOptions.add.Goals as goal

pub returns-in-Some-name_refusal-clause-refused : goal.returns-in-Some-name_refusal-clause-refused
returns-in-Some-name_refusal-clause-refused c =
    let row = written_in c.in-Some.row in
    let written : written_by c.args.text.now ≡ Some row = search rules in
    let kind : kind_of c.args.self.now.extensions.items row.name ≡ c.kind_named.result = search rules in
    name_refused c.args.text.now c.args.self.now row c.in-Some-name_refusal.why (add_refused_in c.add_refused-in-Some-name_refusal.result) written
    (ap name_refusal kind ∙ sym c.name_refusal.ensures ∙ c.in-Some-name_refusal.is) c.add_refused-in-Some-name_refusal.ensures

pub returns-then-has_option-clause-refused : goal.returns-then-has_option-clause-refused
returns-then-has_option-clause-refused c =
    let row = written_in c.in-Some.row in
    let written : written_by c.args.text.now ≡ Some row = search rules in
    there_refused c.args.text.now c.args.self.now row (add_refused_in c.add_refused-then-has_option.result) written
    (sym c.has_option.ensures ∙ c.if-has_option.true) c.add_refused-then-has_option.ensures
