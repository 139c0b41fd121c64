use Rattle.std.proofs.Common.{ℕ, Bool, false, [], ◌∷◌, length, arith, sym, subst, ap, IsTrue, ◌↔◌, length-append}
use Rattle.table.specs.chains.Table.{chain_at}
use Rattle.questions.specs.Scopes.{table_of}
use Rattle.questions.specs.asked.Idle.{AreIdle}
use Rattle.questions.proofs.laws.IdleLaws.{each_pushed}
use Rattle.questions.proofs.walking.idle.idle_marks.Goals as goal

pub loop-place-init : goal.loop-place-init
loop-place-init c = record { long = ap length c.new-marks.ensures.items; each = λ k lt. absurd (omega (arith, lt, ap length c.new-marks.ensures.items)) }

pub is_idle-requires-clause-place : goal.is_idle-requires-clause-place
is_idle-requires-clause-place c = omega (arith, c.loop-place-test.true, c.chain_count-place-end.ensures)

pub loop-place-preserved : goal.loop-place-preserved
loop-place-preserved c =
    let Marked : ℕ → Bool → Type 0 = λ k mark. IsTrue mark ↔ AreIdle c.args.packet.now.values (chain_at (table_of c.args.subject.now) k).rules in
    let before = c.loop-place.marks.items in
    let own : Marked (length before) c.is_idle.result = subst (λ (k : ℕ). Marked k c.is_idle.result) (sym c.loop-place.invariant.long) c.is_idle.ensures in
    rw c.in_ok-push.ensures.items (record {
      long = omega (arith, length-append before (c.is_idle.result ∷ []), c.loop-place.invariant.long);
      each = each_pushed Marked before c.is_idle.result false c.loop-place.invariant.each own;
    })

pub returns : goal.returns
returns c = record {
  long = omega (arith, c.loop-place.invariant.long, c.chain_count-place-end.ensures, c.loop-place-test.false, c.loop-place.auto.place-end);
  each = λ k lt. c.loop-place.invariant.each k (omega (arith, lt, c.loop-place.invariant.long, c.chain_count-place-end.ensures, c.loop-place-test.false));
}
