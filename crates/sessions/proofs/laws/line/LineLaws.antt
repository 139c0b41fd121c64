-- What the code makes of a line, by where it stands, is what the definition says, for some mark.
use Rattle.std.proofs.Common.{◌≡◌, inl, inr, ℕ, ◌<◌, ◌≤◌, ◌||◌, not, Bool, true, false, cond, List, length, refl, sym, ap, subst, ◌∙◌, Option, Some, None, Result, Ok, Err, arith}
use Rattle.std.specs.Str.{bytes_eq}
use Rattle.std.proofs.lemmas.Bool.{cases_Bool, false≢true, lt-ltb, le-ltb}
use Rattle.std.proofs.lemmas.Slice.Eq.{bytes_eq-Decides}
use Rattle.fields.specs.text.Line.{IsHeld}
use Rattle.fields.specs.text.Words.{words_of}
use Rattle.table.specs.chains.Table.{Table, TableView}
use Rattle.restore.specs.Sequence.{◌>>=◌, or_refused}
use Rattle.restore.specs.declared.fault.RestoreFault.{RestoreFault}
use Rattle.restore.specs.declared.fault.RestoreFault.TheVariants.{LineTooLong, Quoting}
use Rattle.restore.specs.sections.Lines as lines
use Rattle.restore.specs.sections.Lines.{IsLine, puts_table}
use Rattle.restore.specs.sections.Restore.{Restore, Restoring, ended_at, line_at, restore_line, takes_no_memory}
use Rattle.restore.specs.sections.Section.{is_quiet, is_too_long, is_out_of_memory}
use Rattle.sessions.specs.line.Fault.{Line as OfLine, NoMemory, of_line}
use Rattle.sessions.specs.line.Request.{Nothing, request_of, request_on}
use Rattle.sessions.specs.line.Outcome.{Mode, Outside, AfterFault, InRestore, Outcome, ended, fails, is_end, needs_no_memory, restore_outcome, execute, executed, silent, outcome}
use Rattle.sessions.specs.line.Executed.{IsOutcome, IsOutcomeOf}
use Rattle.sessions.specs.steps.Lines.{Comes, RanOut}
use Rattle.sessions.specs.declared.reply.answer.Answer.TheVariants as answers
use Rattle.sessions.specs.declared.line.outcome.Outcome as made
use Rattle.sessions.proofs.laws.line.OutcomeLaws.{err_is, ok_is, ok≢err, fails_on, fails_outcome, silent_outcome}

-- the line isn't marked
unmarked : (text : List ℕ) (mode : Mode) (old new : TableView) (t : made.Outcome) → IsOutcome (executed old.table mode text) new t → IsOutcomeOf text mode old new t
unfolding outcome
unmarked text mode old new t is = (false, is)

-- the line is marked, and may be
marked : (text : List ℕ) (mode : Mode) (old new : TableView) (t : made.Outcome) → needs_no_memory mode text ≡ false → RanOut mode old new t → IsOutcomeOf text mode old new t
unfolding outcome
marked text mode old new t may out =
    (true, subst (λ (b : Bool). IsOutcome (cond (not b) (fails old.table mode NoMemory) (executed old.table mode text)) new t) (sym may) (fails_on old new t mode NoMemory out.table out.mode out.reply))

-- what came, or that memory was refused where it may be
pub came : (text : List ℕ) (mode : Mode) (old new : TableView) (t : made.Outcome) (said : Outcome) → said ≡ executed old.table mode text → needs_no_memory mode text ≡ false
    → Comes said mode old new t → IsOutcomeOf text mode old new t
came text mode old new t said is may (inl outcome) = unmarked text mode old new t (subst (λ (x : Outcome). IsOutcome x new t) is outcome)
came text mode old new t said is may (inr out) = marked text mode old new t may out

-- Lines that were read

-- a line that isn't too long is its text
pub read_as : (line text : List ℕ) (too_long : Bool) (mode : Mode) (old new : TableView) (t : made.Outcome) → IsHeld 10240 text line too_long → too_long ≡ false
    → IsOutcomeOf line mode old new t → IsOutcomeOf text mode old new t
read_as line text true mode old new t held short is = absurd (false≢true (sym short))
read_as line text false mode old new t held short is = subst (λ (x : List ℕ). IsOutcomeOf x mode old new t) held is

-- one that is too long has more bytes
pub read_long : (line text : List ℕ) (too_long : Bool) → IsHeld 10240 text line too_long → too_long ≡ true → 10240 < length text
read_long line text true held long = held
read_long line text false held long = absurd (false≢true long)

too_long_is : (text : List ℕ) → 10240 < length text → is_too_long text ≡ true
too_long_is text long = lt-ltb 10240 (length text) long

pub not_too_long : (text : List ℕ) → length text ≤ 10240 → is_too_long text ≡ false
not_too_long text within = le-ltb 10240 (length text) within

-- the end line of a restore isn't too long
pub long_ends_nothing : (word text line : List ℕ) (too_long : Bool) → length word ≤ 64 → IsHeld 10240 text line too_long → too_long ≡ true
    → not too_long ≡ bytes_eq text word
long_ends_nothing word text line true few held long =
    elim (cases_Bool (bytes_eq text word)) [
      | inl same ↦ let e : text ≡ word = (bytes_eq-Decides text word).0 same in absurd (omega (arith, few, held, ap (λ (l : List ℕ). length l) e))
      | inr other ↦ sym other
    ]
long_ends_nothing word text line false few held long = absurd (false≢true long)

-- Outside of restores

-- a line that is too long
pub outside_long : (text : List ℕ) (v : TableView) (t : made.Outcome) → 10240 < length text → t.mode ≡ Outside → t.reply ≡ Err (OfLine LineTooLong) → IsOutcomeOf text Outside v v t
unfolding request_on
outside_long text v t long s r =
    unmarked text Outside v v t
    (subst (λ (b : Bool). IsOutcome (execute v.table (cond b (Err (OfLine LineTooLong)) (cond (is_quiet text) (Ok Nothing) (or_refused (OfLine Quoting) (words_of text) >>= request_of)))) v t) (sym (too_long_is text long))
    (fails_outcome v t Outside (OfLine LineTooLong) s r))

-- a blank line or a comment
pub outside_quiet : (text : List ℕ) (v : TableView) (t : made.Outcome) → length text ≤ 10240 → is_quiet text ≡ true → t.mode ≡ Outside → t.reply ≡ Ok answers.Nothing → IsOutcomeOf text Outside v v t
unfolding request_on
outside_quiet text v t within quiet s r =
    unmarked text Outside v v t
    (subst (λ (b : Bool). IsOutcome (execute v.table (cond b (Err (OfLine LineTooLong)) (cond (is_quiet text) (Ok Nothing) (or_refused (OfLine Quoting) (words_of text) >>= request_of)))) v t) (sym (not_too_long text within))
    (subst (λ (b : Bool). IsOutcome (execute v.table (cond b (Ok Nothing) (or_refused (OfLine Quoting) (words_of text) >>= request_of))) v t) (sym quiet) (silent_outcome v t Outside s r)))

pub loud : (text : List ℕ) → length text ≤ 10240 → is_quiet text ≡ false → request_on text ≡ (or_refused (OfLine Quoting) (words_of text) >>= request_of)
unfolding request_on
loud text within quiet =
    ap (λ (b : Bool). cond b (Err (OfLine LineTooLong)) (cond (is_quiet text) (Ok Nothing) (or_refused (OfLine Quoting) (words_of text) >>= request_of))) (not_too_long text within)
    ∙ ap (λ (b : Bool). cond b (Ok Nothing) (or_refused (OfLine Quoting) (words_of text) >>= request_of)) quiet

may_be_marked : (text : List ℕ) → length text ≤ 10240 → is_quiet text ≡ false → needs_no_memory Outside text ≡ false
may_be_marked text within quiet = ap (λ (b : Bool). b || is_quiet text) (not_too_long text within) ∙ quiet

-- the words of a line
pub outside_words : (text : List ℕ) (words : List (List ℕ)) (old new : TableView) (t : made.Outcome) → length text ≤ 10240 → is_quiet text ≡ false → words_of text ≡ Some words
    → Comes (execute old.table (request_of words)) Outside old new t → IsOutcomeOf text Outside old new t
outside_words text words old new t within quiet read comes =
    came text Outside old new t (execute old.table (request_of words))
    (ap (execute old.table) (sym (loud text within quiet ∙ ap (λ (o : Option (List (List ℕ))). or_refused (OfLine Quoting) o >>= request_of) read)))
    (may_be_marked text within quiet) comes

-- bad quoting
pub outside_quoting : (text : List ℕ) (v : TableView) (t : made.Outcome) → length text ≤ 10240 → is_quiet text ≡ false → words_of text ≡ None
    → t.mode ≡ Outside → t.reply ≡ Err (OfLine Quoting) → IsOutcomeOf text Outside v v t
outside_quoting text v t within quiet none s r =
    unmarked text Outside v v t
    (subst (λ request. IsOutcome (execute v.table request) v t) (sym (loud text within quiet ∙ ap (λ (o : Option (List (List ℕ))). or_refused (OfLine Quoting) o >>= request_of) none))
    (fails_outcome v t Outside (OfLine Quoting) s r))

-- out of memory
pub outside_memory : (text : List ℕ) (v : TableView) (t : made.Outcome) → length text ≤ 10240 → is_quiet text ≡ false → t.mode ≡ Outside → t.reply ≡ Err NoMemory → IsOutcomeOf text Outside v v t
outside_memory text v t within quiet s r = marked text Outside v v t (may_be_marked text within quiet) (record { table = refl; mode = s; reply = r })

-- In a restore

-- its end line
pub within_end : (text : List ℕ) (word : Option (List ℕ)) (r : Restore) (v : TableView) (t : made.Outcome) → is_end word text ≡ true → IsOutcome (ended v.table (ended_at r.state)) v t
    → IsOutcomeOf text (InRestore word r) v v t
within_end text word r v t end is =
    unmarked text (InRestore word r) v v t
    (subst (λ (b : Bool). IsOutcome (cond b (ended v.table (ended_at r.state)) (restore_outcome v.table word r (restore_line r v.table text))) v t) (sym end) is)

pub end_accepted : (e : Result (Unit {0}) RestoreFault) (u : Unit {0}) (v : TableView) (t : made.Outcome) → Ok u ≡ e → t.mode ≡ Outside → t.reply ≡ Ok answers.Nothing → IsOutcome (ended v.table e) v t
end_accepted e u v t is s r = subst (λ x. IsOutcome (ended v.table x) v t) is (silent_outcome v t Outside s r)

pub end_refused : (e : Result (Unit {0}) RestoreFault) (f : RestoreFault) (v : TableView) (t : made.Outcome) → Err f ≡ e → t.mode ≡ Outside → t.reply ≡ Err (of_line f) → IsOutcome (ended v.table e) v t
end_refused e f v t is s r = subst (λ x. IsOutcome (ended v.table x) v t) is (fails_outcome v t Outside (of_line f) s r)

-- another line
inside : (text : List ℕ) (word : Option (List ℕ)) (r : Restore) (old new : TableView) (t : made.Outcome) → is_end word text ≡ false
    → IsOutcome (restore_outcome old.table word r (restore_line r old.table text)) new t → IsOutcomeOf text (InRestore word r) old new t
inside text word r old new t other is =
    unmarked text (InRestore word r) old new t
    (subst (λ (b : Bool). IsOutcome (cond b (ended old.table (ended_at r.state)) (restore_outcome old.table word r (restore_line r old.table text))) new t) (sym other) is)

-- a line that is too long
pub within_long : (text : List ℕ) (word : Option (List ℕ)) (r : Restore) (v : TableView) (t : made.Outcome) → is_end word text ≡ false → 10240 < length text
    → t.mode ≡ AfterFault word → t.reply ≡ Err (OfLine LineTooLong) → IsOutcomeOf text (InRestore word r) v v t
unfolding restore_line
within_long text word r v t other long s reply =
    inside text word r v v t other
    (subst (λ (b : Bool). IsOutcome (restore_outcome v.table word r (cond b (Err LineTooLong) (line_at r.state r v.table text))) v t) (sym (too_long_is text long))
    (fails_outcome v t (InRestore word r) (OfLine LineTooLong) s reply))

-- a line that was accepted
accepted : (s : Restoring) (word : Option (List ℕ)) (r next : Restore) (old new : TableView) (t : made.Outcome) → (let x : Result Restore RestoreFault = Ok next in x) ≡ Ok s.restore → new.table ≡ s.table
    → t.mode ≡ InRestore word next → t.reply ≡ Ok answers.Nothing → IsOutcome (restore_outcome old.table word r (Ok s)) new t
accepted s word r next old new t is table mode reply =
    subst (λ (x : Table). IsOutcome (silent x (InRestore word s.restore)) new t) table
    (silent_outcome new t (InRestore word s.restore) (mode ∙ ap (λ (x : Restore). InRestore word x) (ok_is next s.restore is)) reply)

goes_on : (given : Result Restoring RestoreFault) (puts : Bool) (word : Option (List ℕ)) (r next : Restore) (old new : TableView) (t : made.Outcome)
    → lines.Answers given puts old new (Ok next) → t.mode ≡ InRestore word next → t.reply ≡ Ok answers.Nothing → IsOutcome (restore_outcome old.table word r given) new t
goes_on (Ok s) true word r next old new t a mode reply = accepted s word r next old new t a.0 a.1 mode reply
goes_on (Ok s) false word r next old new t a mode reply = accepted s word r next old new t a.0 a.1 mode reply
goes_on (Err f) puts word r next old new t a mode reply = absurd (ok≢err next f a.0)

-- a line that was refused
gives_up : (given : Result Restoring RestoreFault) (puts : Bool) (word : Option (List ℕ)) (r : Restore) (f : RestoreFault) (old new : TableView) (t : made.Outcome)
    → lines.Answers given puts old new (Err f) → t.mode ≡ AfterFault word → t.reply ≡ Err (of_line f) → IsOutcome (restore_outcome old.table word r given) new t
gives_up (Ok s) true word r f old new t a mode reply = absurd (ok≢err s.restore f (sym a.0))
gives_up (Ok s) false word r f old new t a mode reply = absurd (ok≢err s.restore f (sym a.0))
gives_up (Err g) puts word r f old new t a mode reply =
    fails_on old new t (InRestore word r) (of_line g) a.1 mode (reply ∙ ap (λ (x : RestoreFault). Err (of_line x)) (err_is f g a.0))

accepted_in : (text : List ℕ) (word : Option (List ℕ)) (r next : Restore) (old new : TableView) (t : made.Outcome) → is_end word text ≡ false → IsLine r text old new (Ok next)
    → t.mode ≡ InRestore word next → t.reply ≡ Ok answers.Nothing → IsOutcomeOf text (InRestore word r) old new t
accepted_in text word r next old new t other (inl a) mode reply =
    inside text word r old new t other (goes_on (restore_line r old.table text) (puts_table r text) word r next old new t a mode reply)
accepted_in text word r next old new t other (inr out) mode reply = absurd (ok≢err next out.fault out.answer)

refused_in : (text : List ℕ) (word : Option (List ℕ)) (r : Restore) (f : RestoreFault) (old new : TableView) (t : made.Outcome) → is_end word text ≡ false → IsLine r text old new (Err f)
    → t.mode ≡ AfterFault word → t.reply ≡ Err (of_line f) → IsOutcomeOf text (InRestore word r) old new t
refused_in text word r f old new t other (inl a) mode reply =
    inside text word r old new t other (gives_up (restore_line r old.table text) (puts_table r text) word r f old new t a mode reply)
refused_in text word r f old new t other (inr out) mode reply =
    marked text (InRestore word r) old new t (ap (λ (b : Bool). b || takes_no_memory r.state text) other ∙ out.may_take)
    (record {
      table = out.unchanged;
      mode = mode;
      reply = reply ∙ ap (λ (b : Bool). Err (cond b NoMemory (OfLine f))) (ap is_out_of_memory (err_is f out.fault out.answer) ∙ out.memory);
    })

pub within_accepted : (text line : List ℕ) (too_long : Bool) (word : Option (List ℕ)) (r next : Restore) (old new : TableView) (t : made.Outcome) → IsHeld 10240 text line too_long → too_long ≡ false
    → is_end word text ≡ false → IsLine r line old new (Ok next) → t.mode ≡ InRestore word next → t.reply ≡ Ok answers.Nothing → IsOutcomeOf text (InRestore word r) old new t
within_accepted text line true word r next old new t held short other is mode reply = absurd (false≢true (sym short))
within_accepted text line false word r next old new t held short other is mode reply =
    accepted_in text word r next old new t other (subst (λ (x : List ℕ). IsLine r x old new (Ok next)) held is) mode reply

pub within_refused : (text line : List ℕ) (too_long : Bool) (word : Option (List ℕ)) (r : Restore) (f : RestoreFault) (old new : TableView) (t : made.Outcome) → IsHeld 10240 text line too_long → too_long ≡ false
    → is_end word text ≡ false → IsLine r line old new (Err f) → t.mode ≡ AfterFault word → t.reply ≡ Err (of_line f) → IsOutcomeOf text (InRestore word r) old new t
within_refused text line true word r f old new t held short other is mode reply = absurd (false≢true (sym short))
within_refused text line false word r f old new t held short other is mode reply =
    refused_in text word r f old new t other (subst (λ (x : List ℕ). IsLine r x old new (Err f)) held is) mode reply

-- After a fault

pub passing_end : (text : List ℕ) (word : Option (List ℕ)) (v : TableView) (t : made.Outcome) → is_end word text ≡ true → t.mode ≡ Outside → t.reply ≡ Ok answers.Nothing → IsOutcomeOf text (AfterFault word) v v t
passing_end text word v t end s r =
    unmarked text (AfterFault word) v v t (subst (λ (b : Bool). IsOutcome (silent v.table (cond b Outside (AfterFault word))) v t) (sym end) (silent_outcome v t Outside s r))

pub passing_on : (text : List ℕ) (word : Option (List ℕ)) (v : TableView) (t : made.Outcome) → is_end word text ≡ false → t.mode ≡ AfterFault word → t.reply ≡ Ok answers.Nothing
    → IsOutcomeOf text (AfterFault word) v v t
passing_on text word v t other s r =
    unmarked text (AfterFault word) v v t (subst (λ (b : Bool). IsOutcome (silent v.table (cond b Outside (AfterFault word))) v t) (sym other) (silent_outcome v t (AfterFault word) s r))
