use Rattle.std.proofs.Common.{◌∷◌, ◌++◌, [], ◌≡◌, ℕ, List, drop, map, ap, sym, subst, ◌∙◌, rules}
use Rattle.dumps.specs.Known.{kept_row, kept_extension}
use Rattle.dumps.specs.TableLines.{AreOption, IsOptionOf}
use Rattle.dumps.specs.Views.{texts_in}
use Rattle.dumps.specs.declared.options.kept.KeptOption.{KeptOption}
use Rattle.dumps.specs.declared.options.kept.KeptExtension.{KeptExtension}
use Rattle.dumps.proofs.laws.KnownLaws.{extensions_stay}
use Rattle.dumps.proofs.laws.TableLineLaws.{option_means, option_last, words_last}
use Rattle.dumps.proofs.options.kept.KnownOptions.add_option_line.Goals as goal

pub returns-clause-last : goal.returns-clause-last
returns-clause-last c =
    let self = c.args.self.now in
    let line = c.args.line.now in
    let before = self.words.items in
    let after = c.keep.new.self.words.items in
    let kept = c.in-Some.kept in
    let words = c.in_ok-span.ensures in
    let of : IsOptionOf (drop c.in_ok-span.span.from after) c.in_ok-span.span kept = search rules in
    λ _. record {
      row = kept_row after kept;
      means = option_means line before words.more after c.in_ok-span.span kept words.are words.words words.from words.to of;
      last =
          ap (λ (l : List KeptOption). map (kept_row after) l) (c.in_ok-push.ensures.items ∙ ap (λ (l : List KeptOption). l ++ kept ∷ []) words.options)
          ∙ option_last before words.more after self.options.items kept words.words self.within.names;
      same =
          ap (λ (l : List KeptExtension). map (kept_extension after) l) words.extensions
          ∙ ap (λ l. map (kept_extension l) self.extensions.items) words.words
          ∙ extensions_stay before words.more self.extensions.items self.within.protocols self.within.sets;
    }

pub returns-in_default-clause-none : goal.returns-in_default-clause-none
returns-in_default-clause-none c =
    let after = c.keep.new.self.words.items in
    let words = c.in_ok-span.ensures in
    let same : c.split_at.result.1.now ≡ drop c.in_ok-span.span.from after = search rules in
    λ _ row means. c.in_default.ensures.none row
    (subst (λ (texts : List (List ℕ)). AreOption texts row)
    (words_last c.args.line.now c.args.self.now.words.items words.more after c.in_ok-span.span words.are words.words words.from ∙ ap texts_in (sym same)) means)
