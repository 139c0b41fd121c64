use Rattle.std.specs.Borrow.{Bor}
use Rattle.std.proofs.Common.{◌≡◌, ◌∷◌, ◌++◌, [], List, ℕ, length, map, ap, ◌∙◌, rules}
use Rattle.std.proofs.lemmas.Result.{on_ok_weaker}
use Rattle.dumps.specs.Known.{known_rows, known_extensions, added_row, written_in, kept_row, kept_extension, with_match}
use Rattle.dumps.specs.declared.options.row.Role.TheVariants as role
use Rattle.dumps.specs.declared.options.kept.KeptOption.{KeptOption}
use Rattle.dumps.proofs.laws.KnownLaws.{option_pushed, extensions_stay, ok_always}
use Rattle.dumps.proofs.options.kept.KnownOptions.add_asking.Goals as goal

pub returns-clause-last : goal.returns-clause-last
returns-clause-last c =
    let self = c.args.self.now in
    let words = self.words.items in
    let begins : c.len-from.result ≡ length words = search rules in
    let whole : c.len-to.result ≡ length c.push.new.self.items = search rules in
    let ends : c.len-to.result ≡ length (words ++ c.args.row.option ∷ []) = whole ∙ ap length c.in_ok-push.ensures.items in
    let kept : KeptOption =
    record { owner = c.args.row.name; names = record { from = c.len-from.result; to = c.len-to.result }; values = c.args.row.values; role = role.Unopposed } in
    ok_always c.begin.result (known_rows c.begin.new.self ≡ known_rows self ++ added_row (written_in c.args.row) ∷ [])
    (c.begin.ensures.same
    ∙ ap (λ (l : List KeptOption). map (kept_row c.push.new.self.items) l) c.in_ok-push-2.ensures.items
    ∙ ap (λ (l : List (Bor (List ℕ))). map (kept_row l) (self.options.items ++ kept ∷ [])) c.in_ok-push.ensures.items
    ∙ option_pushed words c.args.row.option self.options.items c.args.row.name c.args.row.values c.len-from.result c.len-to.result begins ends self.within.names)

pub returns-clause-there : goal.returns-clause-there
returns-clause-there c =
    let self = c.args.self.now in
    let words = self.words.items in
    let extensions = self.extensions.items in
    let stay : map (kept_extension c.push.new.self.items) extensions ≡ known_extensions self =
    ap (λ (l : List (Bor (List ℕ))). map (kept_extension l) extensions) c.in_ok-push.ensures.items
    ∙ extensions_stay words (c.args.row.option ∷ []) extensions self.within.protocols self.within.sets in
    on_ok_weaker c.begin.result (λ e. e ∙ ap (with_match c.args.row.name.now) stay) c.begin.ensures.there
