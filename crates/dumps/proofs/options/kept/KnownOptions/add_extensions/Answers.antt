use Rattle.std.specs.Borrow.{Bor}
use Rattle.std.specs.List.{AllZip}
use Rattle.std.proofs.Common.{◌∷◌, ◌++◌, [], List, ℕ, length, refl, subst, sym, ◌∙◌, rules}
use Rattle.std.proofs.lemmas.List.{map-append}
use Rattle.std.proofs.lemmas.Iterator.Consumers.{YieldsList-end, YieldsList-turn}
use Rattle.std.proofs.lemmas.Iterator.Splits.{YieldsList-from_lines}
use Rattle.dumps.specs.Known.{add_refused_in, known_extensions}
use Rattle.dumps.specs.TableLines.{IsExtensionLine, IsNoExtension}
use Rattle.dumps.specs.Views.{texts_in}
use Rattle.dumps.specs.declared.options.refusal.OptionRefusal.TheVariants.{NotARow}
use Rattle.dumps.proofs.laws.TableLineLaws.{zip_push, refused_for}
use Rattle.dumps.proofs.options.kept.KnownOptions.add_extensions.Goals as goal

pub loop-line-preserved : goal.loop-line-preserved
loop-line-preserved c =
    let lines = c.loop-line.yielded in
    let line = c.in-Some.line in
    let rows = known_extensions c.loop-line.self in
    let added = c.in_ok-add_extension_line.ensures.last c.if-not-branch.false in
    let more = zip_push IsExtensionLine (texts_in lines) rows line.now added.row c.loop-line.invariant.extensions added.means in
    let texts = map-append (λ (text : Bor (List ℕ)). text.now) lines (line ∷ []) in
    record {
      extensions =
          subst (AllZip IsExtensionLine (texts_in (lines ++ line ∷ []))) (sym added.last)
          (subst (λ (all : List (List ℕ)). AllZip IsExtensionLine all (rows ++ added.row ∷ [])) (sym texts) more);
      same = added.same ∙ c.loop-line.invariant.same;
    }

pub returns-then-not-branch-clause-refused : goal.returns-then-not-branch-clause-refused
returns-then-not-branch-clause-refused c =
    let text = c.args.text.now in
    let turn = YieldsList-turn (YieldsList-from_lines text (search rules)) c.loop-line.yielded _ c.loop-line.yielded_by _ _ _ c.in-Some.is c.next.ensures.steps in
    refused_for (IsNoExtension text) (add_refused_in c.add_refused.result) (NotARow, c.as_bytes.result.now) c.add_refused.ensures
    (subst (λ (line : List ℕ). IsNoExtension text (NotARow, line)) (sym c.as_bytes.ensures.value) (record {
      refusal = refl;
      line = (length c.loop-line.yielded, turn.0, sym turn.1);
      none = c.in_ok-add_extension_line.ensures.none c.if-not-branch.true;
    }))

pub returns : goal.returns
returns c =
    let ended = YieldsList-end (YieldsList-from_lines c.args.text.now (search rules)) c.loop-line.yielded _ c.loop-line.yielded_by _ _ c.in-None.is c.next.ensures.steps in
    record {
      extensions = record { each = subst (λ (all : List (List ℕ)). AllZip IsExtensionLine all (known_extensions c.loop-line.self)) ended.0 c.loop-line.invariant.extensions };
      same = c.loop-line.invariant.same;
      refused = tt;
    }
