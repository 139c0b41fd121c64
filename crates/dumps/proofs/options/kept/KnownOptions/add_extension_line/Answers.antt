use Rattle.std.proofs.Common.{◌∷◌, ◌++◌, [], ◌≡◌, ℕ, ◌≤◌, List, length, drop, map, ap, sym, subst, ◌∙◌, rules}
use Rattle.std.specs.Prelude.{is_ok}
use Rattle.dumps.specs.Known.{kept_row, kept_extension}
use Rattle.dumps.specs.TableLines.{AreExtension, IsExtensionOf}
use Rattle.dumps.specs.Views.{texts_in}
use Rattle.dumps.specs.declared.options.kept.KeptOption.{KeptOption}
use Rattle.dumps.specs.declared.options.kept.KeptExtension.{KeptExtension}
use Rattle.dumps.proofs.laws.KnownLaws.{options_stay, within_pushed}
use Rattle.dumps.proofs.laws.TableLineLaws.{extension_means, extension_last, extension_within, words_last}
use Rattle.dumps.proofs.options.kept.KnownOptions.add_extension_line.Goals as goal

pub returns-clause-last : goal.returns-clause-last
returns-clause-last c =
    let self = c.args.self.now in
    let line = c.args.line.now in
    let before = self.words.items in
    let after = c.keep.new.self.words.items in
    let kept = c.in-Some.kept in
    let words = c.in_ok-span.ensures in
    let of : IsExtensionOf (drop c.in_ok-span.span.from after) c.in_ok-span.span kept = search rules in
    λ _. record {
      row = kept_extension after kept;
      means = extension_means line before words.more after c.in_ok-span.span kept words.are words.words words.from words.to of;
      last =
          ap (λ (l : List KeptExtension). map (kept_extension after) l) (c.in_ok-push.ensures.items ∙ ap (λ (l : List KeptExtension). l ++ kept ∷ []) words.extensions)
          ∙ extension_last before words.more after self.extensions.items kept words.words self.within.protocols self.within.sets;
      same =
          ap (λ (l : List KeptOption). map (kept_row after) l) words.options
          ∙ ap (λ l. map (kept_row l) self.options.items) words.words
          ∙ options_stay before words.more self.options.items self.within.names;
    }

pub returns-in_default-clause-none : goal.returns-in_default-clause-none
returns-in_default-clause-none c =
    let after = c.keep.new.self.words.items in
    let words = c.in_ok-span.ensures in
    let same : c.split_at.result.1.now ≡ drop c.in_ok-span.span.from after = search rules in
    λ _ row means. c.in_default.ensures.none row
    (subst (λ (texts : List (List ℕ)). AreExtension texts row)
    (words_last c.args.line.now c.args.self.now.words.items words.more after c.in_ok-span.span words.are words.words words.from ∙ ap texts_in (sym same)) means)

pub invariant_of-self : goal.invariant_of-self
invariant_of-self c =
    let self = c.keep.new.self in
    let kept = c.in-Some.kept in
    let count = length self.words.items in
    let ends = extension_within c.split_at.result.1.now c.in_ok-span.span kept c.in-Some.ensures.extension in
    record {
      within =
          within_pushed count self.options.items self.extensions.items c.push.new.self.items kept (is_ok c.push.result)
          (subst (λ n. kept.protocols.to ≤ n) c.in_ok-span.ensures.to ends.0)
          (subst (λ n. kept.sets.to ≤ n) c.in_ok-span.ensures.to ends.1)
          c.push.ensures.items self.within;
    }
