-- Steps of the walk of a box, and its end.
use Rattle.std.proofs.Common.{◌≡◌, inl, inr, List, length, sym, arith, subst, Some, All, Vec, Global}
use Rattle.std.proofs.lemmas.List.Elements.{All-pop, Contains-push_cases}
use Rattle.fields.specs.declared.packet.hook.Hook.{Hook}
use Rattle.fields.specs.Packet.{PacketView as Packet}
use Rattle.table.specs.chains.Table.{Table}
use Rattle.table.specs.declared.walk.trail.Step.{Step}
use Rattle.table.specs.walk.Cases.{Under}
use Rattle.questions.specs.Foreign.{Assignment}
use Rattle.questions.specs.Scopes.{AreExactUnder, AreLeavesUnder, EndsUnder, IsOf, IsSurely, Known, Whole, entries_by, known_under, left_under}
use Rattle.questions.specs.boxes.Boxes.{IsAtHook}
use Rattle.questions.specs.steps.Taken.{IsFurther, IsStep}
use Rattle.questions.specs.steps.Waiting.{IsAccounted, IsSettled, FitsTask, AreThere, Begins, Belongs, rests_of}
use Rattle.questions.specs.declared.walking.front.Front.{Front}
use Rattle.questions.specs.declared.walking.scope.Scope.{Scope}
use Rattle.questions.specs.declared.walking.task.Leaf.{Leaf}
use Rattle.questions.specs.declared.walking.task.Pending.{Pending}
use Rattle.questions.specs.declared.walking.task.Task.{Task}
use Rattle.questions.proofs.laws.WaitLaws.{any_same}

-- no task is left
pub all_leaves : (t : Table) (known : Known) (hook : Hook) (scope : Scope) (front : Front) → Begins t known hook scope front → length front.tasks.items ≡ 0 → AreLeavesUnder t known hook scope front.leaves.items
all_leaves t known hook scope front begins none = λ p can e own.
    elim (begins.all p can e own) [ inl a ↦ absurd (omega (arith, none, a.2)) | inr a ↦ a ]

-- and these are exact
pub all_exact : (t : Table) (known : Known) (hook : Hook) (scope : Scope) (front : Front) → Begins t known hook scope front → AreExactUnder t known hook scope front.leaves.items
all_exact t known hook scope front begins = λ p can e. (begins.fits p can e).leaves

module _ (w : Whole) (a : Assignment) where
  abbrev t : Table
  t = left_under w a

  abbrev known : Known
  known = known_under w a

  -- what a task fits, it fits at a later rule
  pub fits_later : (scope : Scope) (p : Packet) (task next : Task) → IsAtHook p → IsFurther t known scope task next → FitsTask t known scope p task → FitsTask t known scope p next
  fits_later scope p task next can further fits own =
      let there = rw further.same at own in
      let belongs = fits there in
      (belongs.0, (further.waits p can belongs.0 (record { own = there; reaches = belongs.1 })).reaches)

  -- and with more answers
  pub fits_settled : (scope : Scope) (p : Packet) (task next : Task) → IsSettled task next → FitsTask t known scope p task → FitsTask t known scope p next
  fits_settled scope p task next settled fits own =
      let belongs = fits (record { inside = rw settled.area at own.inside; agrees = settled.answers known.holds own.agrees }) in
      let at : Vec Pending Global → Vec Step Global → Type 0 = λ rests trail. Belongs t known scope p (Under (rests_of t.chains rests.items) (entries_by known t.chains trail.items)) in
      subst (λ rests. at rests next.trail) (sym settled.rests) (subst (λ trail. at task.rests trail) (sym settled.trail) belongs)

  -- one step of the loop
  pub begun_next : (hook : Hook) (scope : Scope) (old new : Front) → Begins t known hook scope old → IsStep w hook scope old new → Begins t known hook scope new
  begun_next hook scope old new begins (policy, task, left, up, on) = record {
    all = λ p can e own. by_case p can e own (begins.all p can e own);
    fits = λ p can e.
        (let before = begins.fits p can e in
        let split = All-pop (FitsTask t known scope p) old.tasks.items left.tasks.items (Some task) up.tasks before.tasks in
        (on.moves a).fits scope p (record { at_hook = can; ends = up.ends p e }) (fits_later scope p task on.next can (on.further a) split.1)
        (record { tasks = split.0; leaves = rw (← up.leaves) at before.leaves }));
    there = (on.moves a).keeps.there (All-pop (AreThere t.chains) old.tasks.items left.tasks.items (Some task) up.tasks begins.there).0;
    decided = (let S : List Leaf → Type 0 = λ ls. All (IsSurely known) ls in (on.moves a).keeps.decided (subst S (sym up.leaves) begins.decided));
  }
    where
      by_case : (p : Packet) → IsAtHook p → p.hook ≡ hook → IsOf known p scope → IsAccounted t known p old → IsAccounted t known p new
      by_case p can e own (inr ends) = (on.moves a).keeps.kept p (inr (any_same (EndsUnder t known p) old.leaves.items left.leaves.items up.leaves ends))
      by_case p can e own (inl waits) =
          elim (Contains-push_cases left.tasks.items task waits.1 (rw (← up.tasks) (waits.0, waits.2, waits.3))) [
            | inl c ↦ (on.moves a).keeps.kept p (inl (c.0, waits.1, c.1, c.2, waits.4))
            | inr is ↦ (on.moves a).moved p (record { at_hook = can; ends = up.ends p e }) ((on.further a).waits p can own (rw (← is) at waits.4))
          ]
