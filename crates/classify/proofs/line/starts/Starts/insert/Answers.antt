use Rattle.std.proofs.Common.{◌≡◌, ◌<◌, ◌≤◌, ◌+◌, ◌-◌, ◌^◌, ◌∙◌, ◌++◌, sym, ap, arith, length, length-append, insert, List, ℕ}
use Rattle.std.specs.Prelude.{slice_index}
use Rattle.std.proofs.lemmas.List.Edits.{insert-append_right, length-insert}
use Rattle.std.proofs.lemmas.List.Elements.{All-same}
use Rattle.classify.proofs.laws.line.PlaceLaws.{wide_inserted}
use Rattle.classify.proofs.line.starts.Starts.insert.Goals.{else-k-narrow-2-via-then-k-narrow-2+else-x-from, else-k-narrow-2-via-else-k-narrow-2}
use Rattle.classify.proofs.line.starts.Starts.insert.Goals as goal

pub returns-clause-ok : goal.returns-clause-ok
returns-clause-ok c =
    ap (λ (ws : List ℕ). c.self.inside.narrow ++ ws) c.in_ok-insert-3.ensures.items
    ∙ sym (insert-append_right c.self.inside.narrow c.self.inside.wide.items c.len-narrow.result c.args.k c.args.x (sym c.len-narrow.ensures) (omega arith))
    ∙ ap (λ (ss : List ℕ). insert ss c.args.k c.args.x) c.self.view_is

pub invariant_of-self-2 : goal.invariant_of-self-2
invariant_of-self-2 c =
    let narrow : List ℕ = c.self.inside.narrow in
    let wide : List ℕ = c.self.inside.wide.items in
    let held : c.len-narrow.result ≡ length narrow = c.len-narrow.ensures in
    let items : c.insert-2.new.self.items ≡ insert wide (c.args.k - length narrow) c.args.x = c.in_ok-insert-3.ensures.items ∙ ap (λ n. insert wide (c.args.k - n) c.args.x) held in
    let long : length narrow + length wide ≡ length c.args.self.now = sym (length-append narrow wide) ∙ ap length c.self.view_is in
    let past : length narrow ≤ c.args.k = omega (arith, held, c.if-k-narrow.false) in
    let within : c.args.k ≤ length narrow + length wide = omega (arith, long, c.requires.place) in
    let first : c.args.k ≡ length narrow → 2 ^ 32 ≤ c.args.x = λ same. elim c.else-k-narrow-2.branch [
      | else-k-narrow-2-via-then-k-narrow-2+else-x-from w ↦ omega (arith, w.if-x-from.false, w.from.ensures)
      | else-k-narrow-2-via-else-k-narrow-2 w ↦ absurd (w.if-k-narrow-2.false (same ∙ sym held))
    ] in
    let above : 0 < c.args.k → slice_index (narrow ++ wide) (c.args.k - 1) < c.args.x = λ later. omega (arith, c.requires.above later, ap (λ (ss : List ℕ). slice_index ss (c.args.k - 1)) c.self.view_is) in
    record {
      few = omega (arith, ap length items, length-insert wide (c.args.k - length narrow) c.args.x (omega (arith, past, within)), long, c.requires.few);
      long = All-same (λ y. 2 ^ 32 ≤ y) c.insert-2.new.self.items _ items (wide_inserted narrow wide c.args.k c.args.x past within first above c.self.invariant.long);
    }
