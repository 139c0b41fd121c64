use Rattle.std.proofs.Common.{◌≡◌, ap, sym, ◌∙◌, rules}
use Rattle.dumps.specs.Known.{kind_of, name_refusal, add_refused_in}
use Rattle.dumps.proofs.laws.KnownLaws.{match_refused}
use Rattle.dumps.proofs.options.kept.KnownOptions.add_match.Goals as goal

pub returns-in-Some-clause-refused : goal.returns-in-Some-clause-refused
returns-in-Some-clause-refused c =
    let kind : kind_of c.args.self.now.extensions.items c.args.name.now ≡ c.kind_named.result = search rules in
    match_refused c.args.name.now c.args.self.now c.in-Some.why (add_refused_in c.add_refused-in-Some.result)
    (ap name_refusal kind ∙ sym c.name_refusal.ensures ∙ c.in-Some.is) c.add_refused-in-Some.ensures
