-- A restore of a file, by what its run did.
use Rattle.std.proofs.Common.{◌≡◌, ◌==◌, inr, cond, ℕ, Bool, false, List, [], Option, Some, None, Ok, refl, sym, ap, subst, ◌∙◌, append-nil}
use Rattle.std.specs.Prelude.{IfSome}
use Rattle.std.specs.Io.KnownBytes.{Appends, prepend_known}
use Rattle.std.specs.Io.Buffered.{reader_buffer, reader_inner, reader_remaining}
use Rattle.std.specs.declared.io.buffered.BufReader.{BufReader}
use Rattle.fields.specs.declared.text.tap.Tap.{Tap}
use Rattle.fields.specs.text.Tap.{device, known}
use Rattle.sessions.specs.line.Outcome.{Line}
use Rattle.sessions.specs.run.Headline.{RunsTo}
use Rattle.sessions.specs.run.Run.{Moment, Runs}
use Rattle.sessions.specs.declared.run.session.Session.{Session}
use Rattle.sessions.specs.run.Session.{Kind, OfRestore, State, marks_of, whole_run}
use Rattle.sessions.specs.run.Views.{table_of}
use Rattle.sessions.proofs.laws.run.WholeLaws.{if_whole}
use Rattle.programs.specs.Buffers.{Reads}
use Rattle.programs.specs.Loaded.{IsRestored}

-- an empty buffer adds nothing to what a reader has left
nothing_before : (left : Option (List ℕ)) → prepend_known [] left ≡ left
nothing_before None = refl
nothing_before (Some bytes) = refl

pub left-is : {R A : Type 0} (remaining : R → Option (List ℕ)) (reader : R) (input : Tap (BufReader R A)) → Reads reader input → known (reader_remaining remaining) input ≡ remaining reader
left-is remaining reader input reads =
    let inner = reader_inner (device input) in
    ap (λ size. cond (size == 0) None (prepend_known (reader_buffer (device input)) (remaining inner))) reads.capacity
    ∙ ap (λ bytes. prepend_known bytes (remaining inner)) reads.empty ∙ nothing_before (remaining inner) ∙ ap remaining reads.inner

abbrev kind : Kind
kind = OfRestore false false false

-- what is said of a whole run, by the bytes that were left
abbrev Says : Moment → List Bool → ℕ → Moment → List ℕ → Type 0
Says before marks status after bytes =
    let s = whole_run kind before.table.table bytes marks in Appends before.given after.given s.printed × (status ≡ s.now.status) × (after.table.table ≡ s.now.table)

-- a moment at which these bytes are left
abbrev leaving : List ℕ → Moment → Moment
leaving bytes m = record { left = Some bytes; given = m.given; table = m.table; boxes = m.boxes }

-- a run is one of an input of the bytes that it read
of_read : {start : State} {finish : State → State} {lines : List Line} {before after : Moment} {status : ℕ} (runs : Runs start finish lines before (Ok status) after)
    → Runs start finish lines (leaving runs.bytes before) (Ok status) (leaving [] after)
of_read runs = record {
  bytes = runs.bytes;
  written = runs.written;
  reads = sym (append-nil runs.bytes);
  writes = runs.writes;
  ran = record {
    last = runs.ran.last;
    leads = runs.ran.leads;
    read = record { texts = runs.ran.read.texts; whole = inr refl };
    done = inr refl;
    printed = runs.ran.printed;
    answer = runs.ran.answer;
  };
  table = runs.table;
  boxes = runs.boxes;
}

-- with a status
module _ (old new : Session) {before after : Moment} {status : ℕ} (runs : RunsTo kind before (Ok status) after) (from : before.table.table ≡ (table_of old).table) (to : after.table.table ≡ (table_of new).table) where
  restored : (left : Option (List ℕ)) (bytes : List ℕ) → IfSome left (λ all. bytes ≡ all) → Says before (marks_of runs.lines) status after bytes → IsRestored left old status new
  restored left bytes are whole =
      let marks = marks_of runs.lines in
      (bytes, are, marks, (whole.1 ∙ ap (λ t. (whole_run kind t bytes marks).now.status) from, sym to ∙ whole.2 ∙ ap (λ t. (whole_run kind t bytes marks).now.table) from))

  pub loaded : (left : Option (List ℕ)) → before.left ≡ left → IsRestored left old status new
  loaded None is =
      let bytes = runs.runs.bytes in
      restored None bytes tt (if_whole kind runs.lines (leaving bytes before) (leaving [] after) (Ok status) (of_read runs.runs))
  loaded (Some bytes) is = restored (Some bytes) bytes refl (subst (λ left. IfSome left (Says before (marks_of runs.lines) status after)) is runs.whole)
