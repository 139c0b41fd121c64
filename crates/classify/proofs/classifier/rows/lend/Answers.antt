use Rattle.std.proofs.Common.{◌≡◌, ℕ, ◌+◌, ◌<◌, ◌∙◌, ap, arith, sym, subst, length, map, take, get_or, Bool, List, []}
use Rattle.std.specs.Prelude.{bit_and, slice_index}
use Rattle.std.proofs.lemmas.List.{length-set, take_more_set}
use Rattle.bits.specs.declared.turned_rows.TurnedWords.{TurnedWords}
use Rattle.classify.specs.steps.CommonPlaces.{AreRowsOf, IsRowOf, rows_found, IsOfAll}
use Rattle.classify.specs.steps.Edits.{row_of}
use Rattle.classify.specs.steps.Fields.{shown_line}
use Rattle.classify.proofs.laws.classifier.ClassifierLaws.{shown_at_place}
use Rattle.classify.proofs.laws.search.CandidateLaws.{found_at}
use Rattle.classify.proofs.laws.search.NextLaws.{row_lent, rows_more, rows_none, sum_more, sum_none}
use Rattle.classify.proofs.laws.line.EditLaws.{Cut}
use Rattle.classify.specs.steps.Kept.{PiecesAndRoom}
use Rattle.classify.proofs.classifier.rows.lend.Goals as goal

pub loop-i-init : goal.loop-i-init
loop-i-init c = record {
  long = c.requires.long;
  rows = λ margin same. rows_none margin (rows_found (map shown_line c.args.lines.now) c.args.others.now c.args.places.now);
  summed = sum_none;
}

pub loop-i-preserved : goal.loop-i-preserved
loop-i-preserved c =
    let h = c.loop-i.invariant in
    let i : ℕ = c.loop-i.i in
    let row : TurnedWords = c.row-row.result in
    let rows : List TurnedWords = c.loop-i.rows in
    let lt : i < length c.args.others.now = c.loop-i-test.true in
    let e = take_more_set rows i row (omega (arith, lt, h.long, c.requires.found.few)) in
    let found : List (List Bool) = rows_found (map shown_line c.args.lines.now) c.args.others.now c.args.places.now in
    record {
      long = length-set rows i row ∙ h.long;
      rows = λ margin same.
          (let k : ℕ = slice_index c.args.others.now i in
          let now : PiecesAndRoom = c.index-lines-others.result in
          let at : now ≡ get_or c.args.lines.now k now = c.index-lines-others.is in
          let in' : k < length c.args.lines.now = omega (arith, c.requires.found.among i 0 lt, c.requires.fields) in
          let lent = c.row-row.ensures in
          let own : List Bool = row_of now.pieces (slice_index c.args.places.now i) in
          let is : IsRowOf margin own row = row_lent now margin own row (ap (λ (l : PiecesAndRoom). l.room.before) at ∙ same k now in') (record { own = lent.own; turn = lent.turn; has = lent.bits; summed = lent.summed }) in
          let here : get_or found i [] ≡ own = found_at (map shown_line c.args.lines.now) c.args.others.now c.args.places.now i [] lt ∙ ap (λ (line : List Cut). row_of line (slice_index c.args.places.now i)) (shown_at_place c.args.lines.now k now in') ∙ ap (λ (l : PiecesAndRoom). row_of l.pieces (slice_index c.args.places.now i)) (sym at) in
          let P : List Bool → Type 0 = λ bits. IsRowOf margin bits row in
          let Q : List TurnedWords → Type 0 = λ rs. AreRowsOf margin found (i + 1) rs in
          subst Q (sym e) (rows_more margin found i (take i rows) row (h.rows margin same) (subst P (sym here) is)));
      summed = (let Q : List TurnedWords → Type 0 = λ rs. IsOfAll (bit_and c.loop-i.summary row.summary) rs in subst Q (sym e) (sum_more (take i rows) c.loop-i.summary row h.summed));
    }

pub returns-clause-rows : goal.returns-clause-rows
returns-clause-rows c margin same =
    let end : c.loop-i.i ≡ length c.args.others.now = omega arith in
    let P : ℕ → Type 0 = λ n. AreRowsOf margin (rows_found (map shown_line c.args.lines.now) c.args.others.now c.args.places.now) n (take n c.loop-i.rows) in
    subst P end (c.loop-i.invariant.rows margin same)

pub returns-clause-summed : goal.returns-clause-summed
returns-clause-summed c =
    let end : c.loop-i.i ≡ length c.args.others.now = omega arith in
    let P : ℕ → Type 0 = λ n. IsOfAll c.loop-i.summary (take n c.loop-i.rows) in
    subst P end c.loop-i.invariant.summed
