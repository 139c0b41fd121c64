use Rattle.std.proofs.Common.{◌≡◌, ℕ, ◌∷◌, ◌++◌, [], List, refl, ◌∙◌, ap}
use Rattle.table.specs.steps.Kept.{hook_index}
use Rattle.questions.specs.Scopes.{answered, known_by, table_of}
use Rattle.questions.specs.declared.walking.front.Front.{Front}
use Rattle.questions.specs.declared.walking.task.Pending.{Pending}
use Rattle.questions.specs.declared.walking.task.Task.{Task}
use Rattle.questions.proofs.laws.ForeignLaws.{left_sound}
use Rattle.questions.proofs.laws.WaitLaws.{begun, task_moves}
use Rattle.questions.proofs.laws.AnswerLaws.{asked_first}
use Rattle.questions.proofs.walking.engine.begin.Goals as goal

pub returns-clause-begins : goal.returns-clause-begins
returns-clause-begins c = λ a.
    let s = c.args.subject.now in
    let t = answered s a in
    let known = known_by s a in
    let task : Task = record { scope = c.args.start; rests = c.push.new.self; trail = c.new-3.result } in
    let old : Front = record { alloc = c.args.alloc; tasks = c.new.result; leaves = c.new-2.result } in
    begun t known c.args.hook c.args.start c.push.new.self.items c.new-rests.result.items c.new-3.result.items c.hook_index.result old _ (left_sound s.needs.now a (table_of s) c.stands.ensures.sound) c.hook_index.ensures c.in_ok-push.ensures.items c.new-rests.ensures.items c.new-3.ensures.items c.new.ensures.items c.new-2.ensures.items
    (λ policy there. task_moves t known policy old _ task c.in_ok-push-2.ensures.items refl there)

pub returns-clause-first : goal.returns-clause-first
returns-clause-first c =
    let task : Task = record { scope = c.args.start; rests = c.push.new.self; trail = c.new-3.result } in
    let at : ℕ → Pending = λ k. record { chain = k; passed = 0 } in
    let rests : c.push.new.self.items ≡ at (hook_index c.args.hook) ∷ [] =
    c.in_ok-push.ensures.items ∙ ap (λ (ps : List Pending). ps ++ at c.hook_index.result ∷ []) c.new-rests.ensures.items ∙ ap (λ k. at k ∷ []) c.hook_index.ensures in
    record {
      task = task;
      tasks = c.in_ok-push-2.ensures.items ∙ ap (λ (ts : List Task). ts ++ task ∷ []) c.new.ensures.items;
      leaves = c.new-2.ensures.items;
      stands = refl;
      rests = rests;
      trail = c.new-3.ensures.items;
    }

pub returns-clause-asked : goal.returns-clause-asked
returns-clause-asked c = λ needs. asked_first needs c.args.hook c.args.start _ (returns-clause-first c)
