use Rattle.std.proofs.Common.{◌+◌, ◌++◌, ◌∷◌, List, ℕ, drop, sym, ◌∙◌, ap, append_assoc, refl, subst}
use Rattle.std.specs.Prelude.{decimal}
use Rattle.std.proofs.lemmas.List.{append-nil}
use Rattle.fields.specs.text.Tap.{Wrote}
use Rattle.fields.proofs.laws.text.PutLaws.{puts-after, stops-in, wrote-then}
use Rattle.sessions.specs.Replies.{further_numbers}
use Rattle.sessions.proofs.laws.ReplyLaws.{further_end, further_more}
use Rattle.sessions.proofs.reply.lines.put_further.Goals as goal

pub loop-at-preserved : goal.loop-at-preserved
loop-at-preserved g c =
    let at = c.in-Some.at in let done = c.loop-at.invariant.0 in
    let one : List ℕ = 44 ∷ decimal (at + 1) in
    let left = further_numbers (at + 1 + 1) (drop (at + 1) c.args.row.now) in
    let more = further_more c.args.row.now c.loop-at.next at (sym c.in-Some.ensures) in
    (done ++ one, wrote-then c.loop-at.invariant.1 c.in_ok-put_next.ensures, c.loop-at.invariant.2 ∙ ap (λ (text : List ℕ). done ++ text) more ∙ sym (append_assoc done one left))

pub returns-in_err-put_next : goal.returns-in_err-put_next
returns-in_err-put_next g c =
    let at = c.in-Some.at in let done = c.loop-at.invariant.0 in
    let one : List ℕ = 44 ∷ decimal (at + 1) in
    let left = further_numbers (at + 1 + 1) (drop (at + 1) c.args.row.now) in
    let more = further_more c.args.row.now c.loop-at.next at (sym c.in-Some.ensures) in
    puts-after _ _ _ _ _ _ done (one ++ left) (c.loop-at.invariant.2 ∙ ap (λ (text : List ℕ). done ++ text) more) c.loop-at.invariant.1
    (stops-in _ _ _ _ _ one left refl c.from_residual.ensures.0 c.in_err-put_next.ensures)

pub returns : goal.returns
returns g c =
    let done = c.loop-at.invariant.0 in
    let all = c.loop-at.invariant.2 ∙ ap (λ (text : List ℕ). done ++ text) (further_end c.args.row.now c.loop-at.next (sym c.in_default.ensures)) ∙ append-nil done in
    subst (λ (text : List ℕ). Wrote g.W.Write.contents c.args.output.now c.loop-at.output text) (sym all) c.loop-at.invariant.1
