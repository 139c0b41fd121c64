-- How far a run is, with each line executed and its reply handed on, and what it did at each of its ends.
use Rattle.std.proofs.Common.{◌≡◌, ℕ, Bool, true, false, List, [], ◌∷◌, length, replicate, ◌+◌, ◌++◌, refl, ap, subst, ◌∙◌, append-nil, length-append, Option, Result, Ok, Err, OnOk, sym, arith, ◌⊎◌, inl, inr, ◌-◌, ◌^◌, ◌<◌, ◌≤◌, min, cond, append_assoc}
use Rattle.std.proofs.lemmas.List.{length-replicate}
use Rattle.std.specs.Io.KnownBytes.{Appends, Consumes}
use Rattle.std.proofs.KnownBytes.{Consumes-trans, Consumes-nil, Appends-nil, Appends-trans}
use Rattle.fields.specs.declared.text.tap.Tap.{Tap}
use Rattle.fields.specs.text.Tap.{IsBeginning, Puts, Wrote, known}
use Rattle.fields.specs.text.Line.{IsHeld, EndsAt, lines_of, ended_lines, IsOneLine}
use Rattle.fields.proofs.laws.text.PutLaws.{puts-then}
use Rattle.table.specs.chains.Table.{TableView, Table}
use Rattle.table.specs.edits.Edits.{MakesOneBox, MakesBoxes}
use Rattle.fields.proofs.laws.text.LineLaws.{lines_of-ended, lines_of-last, ended_lines-ended, ended_lines-part, EndsAt-later}
use Rattle.sessions.specs.declared.line.mode.Mode.{Mode}
use Rattle.sessions.specs.declared.run.session.Progress.{Progress}
use Rattle.sessions.specs.line.Boxes.{may_box}
use Rattle.sessions.specs.line.Executed.{HasChain, IsOutcomeOf, IsReply}
use Rattle.sessions.specs.line.Outcome.{Line, Outcome, Reply, outcome, reply_text, status_after, has_ended}
use Rattle.sessions.specs.steps.Lines.{ExecutesLine, ExecutedAll, state_of}
use Rattle.sessions.specs.run.Session.{State, step, texts_of}
use Rattle.sessions.specs.run.Run.{AreBoxed, count_lines, EndsLine, Lead, makes, may_make, LineStopped, Moment, Ran, RunFault, Runs, ReadFailed, WriteFailed}
use Rattle.sessions.specs.declared.line.outcome.Outcome as made
use Rattle.sessions.proofs.laws.line.BoxLaws.{box_made}
use Rattle.sessions.proofs.laws.run.WrittenLaws.{fold_of, lead_more, texts_more}

-- ---- A line that was read is executed, and its reply is written and handed on.

-- a text that was held so
some_text : (line : List ℕ) (too_long : Bool) → (text : List ℕ) × IsHeld 10240 text line too_long
some_text line true = (replicate 10241 0, let zeros : List ℕ = replicate 10241 0 in let long : length zeros ≡ 10241 = length-replicate {A = ℕ} 10241 0 in omega (arith, long))
some_text line false = (line, refl)

-- whatever text was held, the chain that is to be printed is there
pub index_of : (line : List ℕ) (too_long : Bool) (mode : Mode) (old new : TableView) (t : made.Outcome)
    → ((text : List ℕ) → IsHeld 10240 text line too_long → IsOutcomeOf text mode old new t) → HasChain new.table t.reply
index_of line too_long mode old new t is = let text = some_text line too_long in (is text.0 text.1).1.place

-- what is written and then handed on
pub puts_on : {T X E : Type 0} (contents : T → Option (List ℕ)) (a b c : Tap T) (r : Result X E) (text : List ℕ) → Wrote contents a b text → Puts contents b c r [] → Puts contents a c r text
puts_on contents a b c r text wrote flushed = subst (λ (l : List ℕ). Puts contents a c r l) (append-nil text) (puts-then contents a b c r text [] wrote flushed)

begins_nothing : (part : List ℕ) → IsBeginning part [] → part ≡ []
begins_nothing [] h = refl
begins_nothing (b ∷ bs) h = let none : 0 ≡ length (b ∷ bs) + length h.0 = ap length h.1 ∙ length-append (b ∷ bs) h.0 in absurd (omega (arith, none))

-- what is handed on gives the writer nothing, also where it fails
pub gives_nothing : {T X E : Type 0} (contents : T → Option (List ℕ)) (a b : Tap T) (r : Result X E) → Puts contents a b r [] → Appends (known contents a) (known contents b) []
gives_nothing contents a b (Ok x) p = p.appends
gives_nothing contents a b (Err e) p = subst (Appends (known contents a) (known contents b)) (begins_nothing p.part p.begins) p.appends

-- a line that was executed, by what was made of it
pub executed : {W E : Type 0} (contents : W → Option (List ℕ)) (text : List ℕ) (mode : Mode) (old new : TableView) (p p' : Progress) (t : made.Outcome) (boxes boxes' : ℕ) (o o' : Tap W) (r : Result (Unit {0}) E)
    → mode ≡ p.mode → IsOutcomeOf text mode old new t → (may_box mode text ≡ true → OnOk t.reply (MakesOneBox boxes boxes')) → p'.mode ≡ t.mode → p'.number ≡ p.number + 1
    → ((said : Reply) → IsReply new.table t.reply said → p'.status ≡ status_after p.status said) → ((said : Reply) → IsReply new.table t.reply said → Puts contents o o' r (reply_text (p.number + 1) said))
    → ExecutesLine contents old.table p boxes new.table p' boxes' o o' r text
executed contents text mode old new p p' t boxes boxes' o o' r stood outcomes boxed stands numbered status puts =
    let found = subst (λ (m : Mode). IsOutcomeOf text m old new t) stood outcomes in
    let line : Line = record { text = text; refused = found.0 } in
    let said : Outcome = outcome old.table p.mode line in
    let is = found.1 in (
      found.0,
      reply_text (p.number + 1) said.reply,
      (λ printed. λ i. record {
        now = record { table = is.table i; mode = (is.mode ∙ sym stands) i; number = sym numbered i; status = sym (status said.reply is.reply) i };
        printed = printed ++ reply_text (p.number + 1) said.reply;
      }),
      puts said.reply is.reply,
      box_made p.mode line old new t boxes boxes' is (subst (λ (m : Mode). may_box m text ≡ true → OnOk t.reply (MakesOneBox boxes boxes')) stood boxed),
    )

-- ---- How far a run is, and what it did at each of its ends.

-- Lines were read, each up to its newline, and executed, one after another.
pub record Reached (from : State) (before now : Moment) (p : Progress) : Type 0 where
  pub bytes : List ℕ
  pub lines : List Line
  pub printed : List ℕ
  pub taken : Consumes before.left now.left bytes
  pub whole : (rest : List ℕ) → lines_of (bytes ++ rest) ≡ texts_of lines ++ lines_of rest
  pub ended : (rest : List ℕ) → ended_lines (bytes ++ rest) ≡ texts_of lines ++ ended_lines rest
  pub ends : EndsLine bytes
  pub leads : Lead from lines (state_of now.table.table p printed)
  pub writes : Appends before.given now.given printed
  pub boxes : AreBoxed from lines before.boxes now.boxes

-- the same moment, but for what the reader has left
abbrev pub reads_on : Moment → Option (List ℕ) → Moment
reads_on now left = record { left = left; given = now.given; table = now.table; boxes = now.boxes }

-- the same moment, but for what the writer was given
abbrev pub gives_on : Moment → Option (List ℕ) → Moment
gives_on now given = record { left = now.left; given = given; table = now.table; boxes = now.boxes }

-- one line more
abbrev more : List Line → List ℕ → Bool → List Line
more lines text refused = lines ++ record { text = text; refused = refused } ∷ []

-- a line took the state from one to the other, and its reply is this
abbrev pub Steps : Table → Progress → List ℕ → Bool → List ℕ → Table → Progress → Type 0
Steps t p text refused reply t' p' =
    (printed : List ℕ) → step (state_of t p printed) (record { text = text; refused = refused }) ≡ state_of t' p' (printed ++ reply)

module _ (read : List ℕ → List (List ℕ)) where
  -- bytes that give these lines and then go on with a line that gives one
  next_line : (bytes piece text : List ℕ) (lines : List Line) (refused : Bool) → ((rest : List ℕ) → read (bytes ++ rest) ≡ texts_of lines ++ read rest)
      → (rest : List ℕ) → read (piece ++ rest) ≡ text ∷ read rest → read ((bytes ++ piece) ++ rest) ≡ texts_of (more lines text refused) ++ read rest
  next_line bytes piece text lines refused whole rest one =
      ap read (append_assoc bytes piece rest) ∙ whole (piece ++ rest) ∙ ap (λ ls. texts_of lines ++ ls) one
      ∙ sym (append_assoc (texts_of lines) (text ∷ []) (read rest)) ∙ ap (λ ls. ls ++ read rest) (sym (texts_more lines text refused))

at_first : (a b : ℕ) → b ≡ a → a + 0 ≡ 0 + b
at_first a b is = omega arith

at_later : (one old new more : ℕ) → new ≡ old + more → one + new ≡ (one + old) + more
at_later one old new more is = omega arith

-- a line more is counted, or not
count_more : (holds : State → Line → Bool) (from s : State) (lines : List Line) (line : Line) → Lead from lines s
    → count_lines holds from (lines ++ line ∷ []) ≡ count_lines holds from lines + cond (holds s line) 1 0
count_more holds from s [] line h = let one : State → ℕ = λ x. cond (holds x line) 1 0 in at_first (one from) (one s) (ap one h)
count_more holds from s (first ∷ lines) line h =
    at_later (cond (holds from first) 1 0) (count_lines holds (step from first) lines) (count_lines holds (step from first) (lines ++ line ∷ [])) (cond (holds s line) 1 0)
    (count_more holds (step from first) s lines line h.1)

-- a box more is such a line more
boxes_more : (a b old count total : ℕ) (may : Bool) → a ≤ old + count → MakesBoxes may a b → total ≡ count + cond may 1 0 → b ≤ old + total
boxes_more a b old count total true few made is = elim made [ inl same ↦ omega (arith, few, same, is) | inr one ↦ omega (arith, few, one, is) ]
boxes_more a b old count total false few made is = omega (arith, few, made, is)

-- where the line makes a box there is one more
each_more : (a b old count total : ℕ) (may puts : Bool) → min (old + count) (2 ^ 64 - 1) ≤ a → MakesBoxes may a b → (puts ≡ true → MakesOneBox a b) → total ≡ count + cond puts 1 0
    → min (old + total) (2 ^ 64 - 1) ≤ b
each_more a b old count total may true each made put is = let one : MakesOneBox a b = put refl in omega (arith, each, one, is)
each_more a b old count total false false each made put is = omega (arith, each, made, is)
each_more a b old count total true false each made put is = elim made [ inl same ↦ omega (arith, each, same, is) | inr one ↦ omega (arith, each, one, is) ]

-- at the beginning
pub reached_nothing : (from : State) (before : Moment) (p : Progress) → state_of before.table.table p [] ≡ from → Reached from before before p
reached_nothing from before p begins = record {
  bytes = [];
  lines = [];
  printed = [];
  taken = Consumes-nil before.left;
  whole = λ rest. refl;
  ended = λ rest. refl;
  ends = inl refl;
  leads = begins;
  writes = Appends-nil before.given;
  boxes = record { each = omega arith; few = omega arith };
}

-- the replies may have been handed on, which gives the writer nothing
pub handed_on : {from : State} {before now : Moment} {p : Progress} → Reached from before now p → (given : Option (List ℕ)) → Appends now.given given [] → Reached from before (gives_on now given) p
handed_on {before = before} {now = now} r given nothing = record {
  bytes = r.bytes;
  lines = r.lines;
  printed = r.printed;
  taken = r.taken;
  whole = r.whole;
  ended = r.ended;
  ends = r.ends;
  leads = r.leads;
  writes = subst (Appends before.given given) (append-nil r.printed) (Appends-trans before.given now.given given r.printed [] r.writes nothing);
  boxes = r.boxes;
}

module _ {from : State} {before now : Moment} {p : Progress} (r : Reached from before now p) (going : has_ended p.mode ≡ false) (left : Option (List ℕ)) (text : List ℕ) (lone : IsOneLine text) where
  taken_all : (piece : List ℕ) → Consumes now.left left piece → Consumes before.left left (r.bytes ++ piece)
  taken_all piece taken = Consumes-trans before.left now.left left r.bytes piece r.taken taken

  met : EndsAt now.left left → EndsAt before.left left
  met end = EndsAt-later before.left now.left left r.bytes r.taken end

  stopped : LineStopped from r.lines (r.bytes ++ text) r.printed
  stopped =
      let is = r.ended text ∙ ap (λ ls. texts_of r.lines ++ ls) (ended_lines-part text lone) ∙ append-nil (texts_of r.lines) in
      record { last = state_of now.table.table p r.printed; leads = r.leads; texts = sym is; going = going; printed = refl }

  ran_so_far : (fault : RunFault) (finish : State → State) → Consumes now.left left text → Ran from finish r.lines (r.bytes ++ text) (EndsAt before.left left) r.printed (Err fault)
      → Runs from finish r.lines before (Err fault) (reads_on now left)
  ran_so_far fault finish taken ran = record {
    bytes = r.bytes ++ text;
    written = r.printed;
    reads = taken_all text taken;
    writes = r.writes;
    ran = ran;
    table = ap (λ (s : State). s.now.table) (sym (fold_of from (state_of now.table.table p r.printed) r.lines r.leads));
    boxes = r.boxes;
  }

  -- after a part of a line the reader failed, or the writer as it handed the replies on
  pub line_failed : (fault : RunFault) (finish : State → State) → Consumes now.left left text → (lines : List Line) × Runs from finish lines before (Err fault) (reads_on now left)
  line_failed ReadFailed finish taken = (r.lines, ran_so_far ReadFailed finish taken stopped)
  line_failed WriteFailed finish taken = (r.lines, ran_so_far WriteFailed finish taken (inr (inl stopped)))

  -- there was no line left
  pub executed_nothing : Consumes now.left left [] → EndsAt now.left left → ExecutedAll from before (reads_on now left) p
  executed_nothing taken end = record {
    bytes = r.bytes ++ [];
    lines = r.lines;
    printed = r.printed;
    reads = taken_all [] taken;
    leads = r.leads;
    read = record { texts = sym (r.whole [] ∙ append-nil (texts_of r.lines)); whole = inr (met end) };
    done = inr (met end);
    writes = r.writes;
    boxes = r.boxes;
  }

  module _ (refused : Bool) (reply : List ℕ) (given : Option (List ℕ)) (t' : TableView) (boxes' : ℕ) (p' : Progress) (executed : Steps now.table.table p text refused reply t'.table p')
      (made : MakesBoxes (may_box p.mode text) now.boxes boxes') (put : makes (state_of now.table.table p []) (record { text = text; refused = refused }) ≡ true → MakesOneBox now.boxes boxes') where
    abbrev next : Moment
    next = record { left = left; given = given; table = t'; boxes = boxes' }

    abbrev all : List Line
    all = more r.lines text refused

    abbrev line : Line
    line = record { text = text; refused = refused }

    counted : (holds : State → Line → Bool) → count_lines holds from all ≡ count_lines holds from r.lines + cond (holds (state_of now.table.table p r.printed) line) 1 0
    counted holds = count_more holds from (state_of now.table.table p r.printed) r.lines line r.leads

    boxed : AreBoxed from all before.boxes boxes'
    boxed = record {
      each = each_more now.boxes boxes' before.boxes (count_lines makes from r.lines) (count_lines makes from all) (may_box p.mode text)
          (makes (state_of now.table.table p r.printed) line) r.boxes.each made put (counted makes);
      few = boxes_more now.boxes boxes' before.boxes (count_lines may_make from r.lines) (count_lines may_make from all) (may_box p.mode text)
          r.boxes.few made (counted may_make);
    }

    all_written : (part : List ℕ) → Appends now.given given part → Appends before.given given (r.printed ++ part)
    all_written part writes = Appends-trans before.given now.given given r.printed part r.writes writes

    leads_all : Lead from all (state_of t'.table p' (r.printed ++ reply))
    leads_all =
        subst (Lead from all) (executed r.printed) (lead_more from (state_of now.table.table p r.printed) r.lines (record { text = text; refused = refused }) r.leads going)

    ended_piece : (rest : List ℕ) → lines_of ((r.bytes ++ (text ++ 10 ∷ [])) ++ rest) ≡ texts_of all ++ lines_of rest
    ended_piece rest = next_line lines_of r.bytes (text ++ 10 ∷ []) text r.lines refused r.whole rest (lines_of-ended text rest lone)

    ended_texts : texts_of all ≡ lines_of (r.bytes ++ (text ++ 10 ∷ []))
    ended_texts = sym (ap lines_of (sym (append-nil (r.bytes ++ (text ++ 10 ∷ [])))) ∙ ended_piece [] ∙ append-nil (texts_of all))

    ends_piece : EndsLine (r.bytes ++ (text ++ 10 ∷ []))
    ends_piece = inr (r.bytes ++ text, sym (append_assoc r.bytes text (10 ∷ [])))

    last_texts : 0 < length text → texts_of all ≡ lines_of (r.bytes ++ text)
    last_texts some = texts_more r.lines text refused ∙ sym (r.whole text ∙ ap (λ ls. texts_of r.lines ++ ls) (lines_of-last text lone some))

    -- a line that a newline ended was executed
    pub reached_more : Consumes now.left left (text ++ 10 ∷ []) → Appends now.given given reply → Reached from before next p'
    reached_more taken wrote = record {
      bytes = r.bytes ++ (text ++ 10 ∷ []);
      lines = all;
      printed = r.printed ++ reply;
      taken = taken_all (text ++ 10 ∷ []) taken;
      whole = ended_piece;
      ended = λ rest. next_line ended_lines r.bytes (text ++ 10 ∷ []) text r.lines refused r.ended rest (ended_lines-ended text rest lone);
      ends = ends_piece;
      leads = leads_all;
      writes = all_written reply wrote;
      boxes = boxed;
    }

    -- and the run has ended
    pub executed_to_fault : Consumes now.left left (text ++ 10 ∷ []) → Appends now.given given reply → has_ended p'.mode ≡ true → ExecutedAll from before next p'
    executed_to_fault taken wrote over = record {
      bytes = r.bytes ++ (text ++ 10 ∷ []);
      lines = all;
      printed = r.printed ++ reply;
      reads = taken_all (text ++ 10 ∷ []) taken;
      leads = leads_all;
      read = record { texts = ended_texts; whole = inl ends_piece };
      done = inl over;
      writes = all_written reply wrote;
      boxes = boxed;
    }

    -- the last line was executed
    pub executed_last : 0 < length text → Consumes now.left left text → EndsAt now.left left → Appends now.given given reply → ExecutedAll from before next p'
    executed_last some taken end wrote = record {
      bytes = r.bytes ++ text;
      lines = all;
      printed = r.printed ++ reply;
      reads = taken_all text taken;
      leads = leads_all;
      read = record { texts = last_texts some; whole = inr (met end) };
      done = inr (met end);
      writes = all_written reply wrote;
      boxes = boxed;
    }

    -- the writer failed in the reply to a line of this piece
    reply_failed : (finish : State → State) (piece : List ℕ) → texts_of all ≡ lines_of (r.bytes ++ piece)
        → EndsLine (r.bytes ++ piece) ⊎ EndsAt before.left left → Consumes now.left left piece
        → (part : List ℕ) → IsBeginning part reply → Appends now.given given part → (lines : List Line) × Runs from finish lines before (Err WriteFailed) next
    reply_failed finish piece texts whole taken part begins writes = (
      all,
      record {
        bytes = r.bytes ++ piece;
        written = r.printed ++ part;
        reads = taken_all piece taken;
        writes = all_written part writes;
        ran = inl (record {
          before = r.lines;
          line = record { text = text; refused = refused };
          first = state_of now.table.table p r.printed;
          last = state_of t'.table p' (r.printed ++ reply);
          split = refl;
          leads = r.leads;
          replies = (going, sym (executed r.printed));
          read = record { texts = texts; whole = whole };
          between = record {
            all = (part, refl);
            part = (begins.0, ap (λ l. r.printed ++ l) begins.1 ∙ sym (append_assoc r.printed part begins.0));
          };
        });
        table = ap (λ (s : State). s.now.table) (sym (fold_of from (state_of t'.table p' (r.printed ++ reply)) all leads_all));
        boxes = boxed;
      },
    )

    -- it failed in the reply to a line that a newline ended
    pub write_failed : (finish : State → State) → Consumes now.left left (text ++ 10 ∷ []) → (part : List ℕ) → IsBeginning part reply → Appends now.given given part
        → (lines : List Line) × Runs from finish lines before (Err WriteFailed) next
    write_failed finish taken part begins writes = reply_failed finish (text ++ 10 ∷ []) ended_texts (inl ends_piece) taken part begins writes

    -- or in that to the last line
    pub last_failed : (finish : State → State) → 0 < length text → Consumes now.left left text → EndsAt now.left left
        → (part : List ℕ) → IsBeginning part reply → Appends now.given given part → (lines : List Line) × Runs from finish lines before (Err WriteFailed) next
    last_failed finish some taken end part begins writes = reply_failed finish text (last_texts some) (inr (met end)) taken part begins writes
