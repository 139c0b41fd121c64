use Rattle.std.proofs.Common.{arith, ap, length, get_or, ◌<◌, ◌+◌, ℕ, subst, ◌≡◌, ◌∙◌, sym, refl}
use Rattle.std.proofs.lemmas.List.{get_or_default}
use Rattle.fields.specs.numbers.Spans.{SpanSet}
use Rattle.classify.specs.steps.Fields.{shown_line, IsKeptWithCuts, HasSameRoom}
use Rattle.classify.specs.steps.Pieces.{CutsStart, IsRising, IsSplitOf}
use Rattle.std.proofs.lemmas.Bool.{false≢true}
use Rattle.classify.proofs.laws.line.LoopLaws.{Edited, edited_more, edited_anyway, edited_weaker}
use Rattle.classify.proofs.laws.line.EditLaws.{split_same}
use Rattle.std.proofs.Math.ListN.{set}
use Rattle.classify.proofs.laws.classifier.ClassifierLaws.{no_set}
use Rattle.classify.specs.steps.Kept.{PiecesAndRoom}
use Rattle.classify.proofs.classifier.lines.split_lines.Goals as goal

pub split_all-requires : goal.split_all-requires
split_all-requires c =
    let h = c.loop-k.invariant in
    let lt : c.loop-k.k < length c.args.lines.now = omega (arith, h.as_long) in
    let P : PiecesAndRoom → Type 0 = λ p. IsRising c.index-spans-k.result.top (shown_line p) in
    let Q : SpanSet → Type 0 = λ s. IsRising s.top (shown_line (get_or c.args.lines.now c.loop-k.k c.index-lines-k.result)) in
    subst P (sym (h.rest c.loop-k.k c.index-lines-k.result (omega arith))) (subst Q (sym c.index-spans-k.is) (c.requires.rising c.loop-k.k c.index-spans-k.result c.index-lines-k.result lt))

pub returns-in_err-split_all-clause-split : goal.returns-in_err-split_all-clause-split
returns-in_err-split_all-clause-split c k s l lt =
    let R : ℕ → PiecesAndRoom → PiecesAndRoom → Type 0 = λ j p q. (s : SpanSet) → IsSplitOf (get_or c.args.spans.now j s).top (get_or c.args.spans.now j s).intervals (shown_line p) (shown_line q) in
    let before = c.loop-k.invariant in
    let h : Edited R c.args.lines.now c.loop-k.lines c.loop-k.k = edited_weaker _ R c.args.lines.now c.loop-k.lines c.loop-k.k (λ j p q r s. (r s).0) before in
    let lt' : c.loop-k.k < length c.args.spans.now = omega (arith, h.as_long, c.requires.as_long) in
    let m : Edited R c.args.lines.now (set c.loop-k.lines c.loop-k.k c.split_all.new.line) (c.loop-k.k + 1) =
    edited_more R c.args.lines.now c.loop-k.lines c.loop-k.k (get_or c.loop-k.lines c.loop-k.k c.index-lines-k.result) c.split_all.new.line h (omega (arith, h.as_long))
    (ap (λ (d : PiecesAndRoom). get_or c.loop-k.lines c.loop-k.k d) c.index-lines-k.is)
    (λ s.
    (let e : c.index-spans-k.result ≡ get_or c.args.spans.now c.loop-k.k s = c.index-spans-k.is ∙ get_or_default c.args.spans.now c.loop-k.k c.index-spans-k.result s lt' in
    let P : SpanSet → Type 0 = λ t. IsSplitOf t.top t.intervals (shown_line (get_or c.loop-k.lines c.loop-k.k c.index-lines-k.result)) (shown_line c.split_all.new.line) in
    subst P e c.split_all.ensures.split)) in
    edited_anyway R c.args.lines.now _ (c.loop-k.k + 1) k l m (λ _ t. split_same (get_or c.args.spans.now k t).top (get_or c.args.spans.now k t).intervals (shown_line (get_or c.args.lines.now k l)) (c.requires.rising k t l lt)) s

pub loop-k-preserved : goal.loop-k-preserved
loop-k-preserved c =
    let h = c.loop-k.invariant in
    let lt : c.loop-k.k < length c.args.spans.now = omega (arith, h.as_long, c.requires.as_long) in
    edited_more _ _ c.loop-k.lines c.loop-k.k (get_or c.loop-k.lines c.loop-k.k c.index-lines-k.result) c.split_all.new.line h (omega (arith, h.as_long))
    (ap (λ (d : PiecesAndRoom). get_or c.loop-k.lines c.loop-k.k d) c.index-lines-k.is)
    (λ s.
    (let e : c.index-spans-k.result ≡ get_or c.args.spans.now c.loop-k.k s = c.index-spans-k.is ∙ get_or_default c.args.spans.now c.loop-k.k c.index-spans-k.result s lt in
    let P : SpanSet → Type 0 = λ t. IsSplitOf t.top t.intervals (shown_line (get_or c.loop-k.lines c.loop-k.k c.index-lines-k.result)) (shown_line c.split_all.new.line) × CutsStart t.top t.intervals (shown_line c.split_all.new.line)
    × IsKeptWithCuts t (get_or c.loop-k.lines c.loop-k.k c.index-lines-k.result) c.split_all.new.line
    × HasSameRoom (get_or c.loop-k.lines c.loop-k.k c.index-lines-k.result) c.split_all.new.line in
    subst P e (c.split_all.ensures.split, c.in_ok-split_all.ensures.ok, c.split_all.ensures.kept, c.split_all.ensures.room)))

pub returns-clause-split : goal.returns-clause-split
returns-clause-split c k s l lt = (c.loop-k.invariant.done k l (omega arith) s).0

pub returns-clause-cuts : goal.returns-clause-cuts
returns-clause-cuts c k s l lt = (c.loop-k.invariant.done k l (omega arith) s).1

pub returns-in_err-split_all-clause-there : goal.returns-in_err-split_all-clause-there
returns-in_err-split_all-clause-there c cuts =
    let h = c.loop-k.invariant in
    let lt : c.loop-k.k < length c.args.lines.now = omega (arith, h.as_long) in
    let P : PiecesAndRoom → Type 0 = λ p. CutsStart c.index-spans-k.result.top c.index-spans-k.result.intervals (shown_line p) in
    let Q : SpanSet → Type 0 = λ s. CutsStart s.top s.intervals (shown_line (get_or c.args.lines.now c.loop-k.k c.index-lines-k.result)) in
    absurd (false≢true (c.in_err-split_all.ensures.there (subst P (sym (h.rest c.loop-k.k c.index-lines-k.result (omega arith))) (subst Q (sym c.index-spans-k.is) (cuts c.loop-k.k c.index-spans-k.result c.index-lines-k.result lt)))))

pub returns-clause-kept : goal.returns-clause-kept
returns-clause-kept c k s l lt = (c.loop-k.invariant.done k l (omega arith) s).2

pub returns-in_err-split_all-clause-kept : goal.returns-in_err-split_all-clause-kept
returns-in_err-split_all-clause-kept c k s l lt =
    let R : ℕ → PiecesAndRoom → PiecesAndRoom → Type 0 = λ j p q. (s : SpanSet) → IsKeptWithCuts (get_or c.args.spans.now j s) p q in
    let h : Edited R c.args.lines.now c.loop-k.lines c.loop-k.k = edited_weaker _ R c.args.lines.now c.loop-k.lines c.loop-k.k (λ j p q r s. (r s).2) c.loop-k.invariant in
    let lt' : c.loop-k.k < length c.args.spans.now = omega (arith, h.as_long, c.requires.as_long) in
    let m : Edited R c.args.lines.now (set c.loop-k.lines c.loop-k.k c.split_all.new.line) (c.loop-k.k + 1) =
    edited_more R c.args.lines.now c.loop-k.lines c.loop-k.k (get_or c.loop-k.lines c.loop-k.k c.index-lines-k.result) c.split_all.new.line h (omega (arith, h.as_long))
    (ap (λ (d : PiecesAndRoom). get_or c.loop-k.lines c.loop-k.k d) c.index-lines-k.is)
    (λ s.
    (let e : c.index-spans-k.result ≡ get_or c.args.spans.now c.loop-k.k s = c.index-spans-k.is ∙ get_or_default c.args.spans.now c.loop-k.k c.index-spans-k.result s lt' in
    let P : SpanSet → Type 0 = λ t. IsKeptWithCuts t (get_or c.loop-k.lines c.loop-k.k c.index-lines-k.result) c.split_all.new.line in
    subst P e c.split_all.ensures.kept)) in
    edited_anyway R c.args.lines.now _ (c.loop-k.k + 1) k l m (λ _ t _. refl) s

pub returns-clause-room : goal.returns-clause-room
returns-clause-room c k l lt = (c.loop-k.invariant.done k l (omega arith) no_set).3

pub returns-in_err-split_all-clause-room : goal.returns-in_err-split_all-clause-room
returns-in_err-split_all-clause-room c k l lt =
    let R : ℕ → PiecesAndRoom → PiecesAndRoom → Type 0 = λ j p q. HasSameRoom p q in
    let h : Edited R c.args.lines.now c.loop-k.lines c.loop-k.k = edited_weaker _ R c.args.lines.now c.loop-k.lines c.loop-k.k (λ j p q r. (r no_set).3) c.loop-k.invariant in
    let m : Edited R c.args.lines.now (set c.loop-k.lines c.loop-k.k c.split_all.new.line) (c.loop-k.k + 1) =
    edited_more R c.args.lines.now c.loop-k.lines c.loop-k.k (get_or c.loop-k.lines c.loop-k.k c.index-lines-k.result) c.split_all.new.line h (omega (arith, h.as_long))
    (ap (λ (d : PiecesAndRoom). get_or c.loop-k.lines c.loop-k.k d) c.index-lines-k.is) c.split_all.ensures.room in
    edited_anyway R c.args.lines.now _ (c.loop-k.k + 1) k l m (λ _. refl)
