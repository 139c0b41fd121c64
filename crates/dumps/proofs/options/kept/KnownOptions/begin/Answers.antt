use Rattle.std.proofs.Common.{◌≡◌, List, is_some, map, not, ap, ◌∙◌, refl, rules}
use Rattle.dumps.specs.Known.{kind_of, kept_extension}
use Rattle.dumps.specs.declared.options.kept.KeptExtension.{KeptExtension}
use Rattle.dumps.proofs.laws.KnownLaws.{match_pushed, match_stays_there}
use Rattle.dumps.proofs.options.kept.KnownOptions.begin.Goals as goal

pub returns-in_ok-push-clause-there : goal.returns-in_ok-push-clause-there
returns-in_ok-push-clause-there c =
    let words = c.args.self.now.words.items in
    let kind : kind_of c.args.self.now.extensions.items c.args.name.now ≡ c.kind_named.result = search rules in
    ap (λ (l : List KeptExtension). map (kept_extension words) l) c.in_ok-push.ensures.items
    ∙ match_pushed words c.args.self.now.extensions.items c.args.name.now _ (ap is_some kind ∙ c.is_none.ensures ∙ ap not c.if-is_none.true) refl

pub returns-else-is_none-clause-there : goal.returns-else-is_none-clause-there
returns-else-is_none-clause-there c =
    let kind : kind_of c.args.self.now.extensions.items c.args.name.now ≡ c.kind_named.result = search rules in
    match_stays_there c.args.self.now.words.items c.args.self.now.extensions.items c.args.name.now (ap is_some kind ∙ c.is_none.ensures ∙ ap not c.if-is_none.false)
