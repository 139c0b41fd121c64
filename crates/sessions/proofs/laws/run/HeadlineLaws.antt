-- What the lines of a run leave of a session's table, and what several runs leave.
use Rattle.std.proofs.Common.{◌≡◌, ℕ, ◌+◌, List, ◌++◌, fold, IfSome, Result, ap, sym, subst, ◌∙◌, [], ◌∷◌}
use Rattle.table.specs.edits.Headline.{ChainsHaveOneListOfClassifiers}
use Rattle.table.specs.chains.Table.{AreClassified, Table, TableView}
use Rattle.table.specs.walk.Walk.{Shows, walk}
use Rattle.restore.specs.Changes.{changed_by}
use Rattle.restore.proofs.laws.CallLaws.{changed_then}
use Rattle.sessions.specs.line.Outcome.{Line, Reply, reply_text}
use Rattle.sessions.specs.run.Accepted.{accepted}
use Rattle.sessions.specs.run.Run.{Moment, RunFault, Runs}
use Rattle.sessions.specs.run.Headline.{AnswersByWalks, Done, Headline, IsReadIn, IsWritten, PacketsWereWalked, RefusedChangedNothing, Stands, Follow, OfEach, Run, RunsLeaveWhatTheyAccept, accepted_by, accepted_in}
use Rattle.sessions.specs.run.Session.{Kind, OfRestore, OfSession, State, finish_of, start_of, step}
use Rattle.sessions.proofs.laws.run.AcceptedLaws.{restore_leaves, session_leaves, packet_is_walked, refused_changes_nothing}
use Rattle.sessions.proofs.laws.run.WrittenLaws.{fold_of, is_written, leads_to}

-- ---- What the lines of a run leave of a session's table.

-- equal tables have one list of classifiers
one_view : ChainsHaveOneListOfClassifiers → (old new : TableView) → new.table ≡ old.table → AreClassified old.table.chains old.classifiers → AreClassified new.table.chains new.classifiers → new ≡ old
one_view one old new tables is other =
    let lists : new.classifiers ≡ old.classifiers = one old.table.chains new.classifiers old.classifiers (subst (λ (t : Table). AreClassified t.chains new.classifiers) tables other) is in
    (λ i. record { table = tables i; classifiers = lists i })

-- the output up to each line was written
abbrev WritesEach : State → Done → Type 0
WritesEach start done = (s : State) (line : Line) → IsReadIn start done.lines s line → IsWritten done.answer (step s line).printed done.written

-- a reply to a line was written after what was printed before
abbrev PrintedWith : Done → State → Reply → Type 0
PrintedWith done s reply = IsWritten done.answer (s.printed ++ reply_text (s.now.number + 1) reply) done.written

refused_changed : ChainsHaveOneListOfClassifiers → (start : State) (done : Done) → WritesEach start done → RefusedChangedNothing start done
refused_changed one start done writes s line fault old new read fails before after = (
  one_view one old new (after.0 ∙ refused_changes_nothing s.now.table s.now.mode line fault fails ∙ sym before.0) before.1 after.1,
  subst (PrintedWith done s) fails (writes s line read),
)

packets_walked : (start : State) (done : Done) → WritesEach start done → PacketsWereWalked start done
packets_walked start done writes s line packet text read outside asks says = (
  packet_is_walked s.now.table s.now.mode line packet text outside asks says,
  subst (PrintedWith done s) says (writes s line read),
)

-- a table of some chains answers their walks
pub walks_through : (chains : Table) (t : TableView) → t.table ≡ chains → AnswersByWalks chains t
walks_through chains t is packet verdict trail a =
    subst (λ (u : Table). (verdict ≡ (walk u packet).verdict) × IfSome trail (Shows u.chains (walk u packet))) is (a.decides, a.shows)

-- the lines of either kind of run leave what they accept
run_leaves : (kind : Kind) (t : Table) (lines : List Line) → (fold step (start_of kind t) lines).now.table ≡ changed_by t (accepted (start_of kind t) lines)
run_leaves OfSession t lines = session_leaves t lines
run_leaves (OfRestore noflush test list) t lines = restore_leaves noflush test t lines

pub run_headline : ChainsHaveOneListOfClassifiers → (kind : Kind) (before after : Moment) (lines : List Line) (r : Result ℕ RunFault)
    → (runs : Runs (start_of kind before.table.table) (finish_of kind) lines before r after) → Stands after.table
    → Headline (start_of kind before.table.table) (record { lines = lines; written = runs.written; answer = r }) before.table after.table
run_headline one kind before after lines r runs stands =
    let start = start_of kind before.table.table in
    let done : Done = record { lines = lines; written = runs.written; answer = r } in
    let leaves : after.table.table ≡ changed_by before.table.table (accepted start lines) = runs.table ∙ run_leaves kind before.table.table lines in
    let leads = leads_to kind start lines before after r runs in
    let writes = is_written kind start lines before after r runs in
    record {
      reached = (leads.0, leads.1, (runs.table ∙ ap (λ (s : State). s.now.table) (fold_of start leads.0 lines leads.1), stands.classified));
      chains = leaves;
      stands = stands;
      walks = walks_through (changed_by before.table.table (accepted start lines)) after.table leaves;
      packets = packets_walked start done writes;
      refused = refused_changed one start done writes;
    }

-- ---- What several runs leave.

chains_are : (old new : TableView) (runs : List Run) → Follow old runs new → new.table ≡ changed_by old.table (accepted_by old.table runs)
chains_are old new [] h = ap (λ (v : TableView). v.table) h
chains_are old new (run ∷ runs) h =
    let left = changed_by old.table (accepted_in old.table run) in
    chains_are h.0 new runs h.2 ∙ ap (λ (t : Table). changed_by t (accepted_by t runs)) h.1.chains
    ∙ sym (changed_then old.table (accepted_in old.table run) (accepted_by left runs))

stand : (old new : TableView) (runs : List Run) → Stands old → Follow old runs new → Stands new
stand old new [] stands h = subst Stands (sym h) stands
stand old new (run ∷ runs) stands h = stand h.0 new runs h.1.stands h.2

packets_of : (old new : TableView) (runs : List Run) → Follow old runs new → OfEach PacketsWereWalked old.table runs
packets_of old new [] h = tt
packets_of old new (run ∷ runs) h =
    (h.1.packets, subst (λ (t : Table). OfEach PacketsWereWalked t runs) h.1.chains (packets_of h.0 new runs h.2))

refused_of : (old new : TableView) (runs : List Run) → Follow old runs new → OfEach RefusedChangedNothing old.table runs
refused_of old new [] h = tt
refused_of old new (run ∷ runs) h =
    (h.1.refused, subst (λ (t : Table). OfEach RefusedChangedNothing t runs) h.1.chains (refused_of h.0 new runs h.2))

pub runs_leave : RunsLeaveWhatTheyAccept
runs_leave old new runs h =
    let is = chains_are old new runs h in
    record {
      chains = is;
      stands = λ stands. stand old new runs stands h;
      walks = walks_through (changed_by old.table (accepted_by old.table runs)) new is;
      packets = packets_of old new runs h;
      refused = refused_of old new runs h;
    }
