use Rattle.std.proofs.Common.{◌≡◌, ◌<◌, ◌∙◌, ap, arith, get_or, length, List, ℕ, Bool, of_calls, sym}
use Rattle.classify.specs.Classifier.{ClassifiedAndRoom}
use Rattle.classify.proofs.laws.classifier.ClassifierLaws.{copied, kept_shown, same_shown, margin_by}
use Rattle.classify.proofs.laws.classifier.WholeLaws.{whole_same}
use Rattle.classify.specs.steps.Fields.{shown_line}
use Rattle.classify.specs.steps.Kept.{PiecesAndRoom}
use Rattle.classify.proofs.classifier.Classifier.copy.Goals as goal

pub invariant_of-result : goal.invariant_of-result
invariant_of-result c =
    let ok = c.in_ok-lines.ensures.ok in
    let n = c.self.invariant.0.fields in
    let all : (k : ℕ) (l : PiecesAndRoom) → k < length c.self.inside.lines → get_or c.in_ok-lines.lines k l ≡ get_or c.self.inside.lines k l =
    copied _ _ _ c.each_ref.ensures.items (λ j r m below. let h = ok.at j r m (omega (arith, n)) in search of_calls) in (
      kept_shown c.self.inside.lines c.in_ok-lines.lines c.self.inside.len (ok.long ∙ sym n) (λ k l lt. ap shown_line (all k l lt))
          (margin_by (λ m. m) _ _ (ok.long ∙ sym n) (λ k l lt. ap (λ (m : PiecesAndRoom). m.room.before) (all k l lt)) c.self.invariant.0.margin) c.self.invariant.0,
      λ k l lt on. (let lt' : k < length c.self.inside.lines = omega (arith, ok.long, n) in
          whole_same (get_or c.self.inside.lines k l) (get_or c.in_ok-lines.lines k l) (ap shown_line (all k l lt')) (c.self.invariant.1 k l lt' on)),
      c.others.ensures,
    )

pub returns : goal.returns
returns c =
    let ok = c.in_ok-lines.ensures.ok in
    let n = c.self.invariant.0.fields in
    ap (λ (lines : List (List (ℕ × List Bool))). record { len = c.self.inside.len; lines = lines })
    (same_shown c.self.inside.lines c.in_ok-lines.lines (ok.long ∙ sym n) (λ k l lt. ap shown_line (copied _ _ _ c.each_ref.ensures.items (λ j r m below. let h = ok.at j r m (omega (arith, n)) in search of_calls) k l lt))) ∙ ap (λ (k : ClassifiedAndRoom). k.shown) c.self.view_is
