-- Which lines have a box made.
use Rattle.std.proofs.Common.{◌≡◌, ℕ, ◌≤◌, ◌&&◌, Bool, true, false, List, length, refl, sym, ap, subst, ◌∙◌, Option, Some, Result, Ok, Err, OnOk, if◌then◌else◌}
use Rattle.std.proofs.lemmas.Bool.{false≢true}
use Rattle.fields.specs.text.Line.{IsHeld}
use Rattle.fields.specs.text.Words.{words_of}
use Rattle.table.specs.chains.Table.{Table, TableView}
use Rattle.table.specs.edits.Edits.{MakesOneBox}
use Rattle.restore.specs.Sequence.{◌>>=◌, or_refused}
use Rattle.restore.specs.declared.fault.RestoreFault.TheVariants.{LineTooLong, Quoting}
use Rattle.restore.specs.sections.Lines.{line_puts}
use Rattle.restore.specs.sections.Restore.{Restore}
use Rattle.restore.specs.sections.Section.{is_quiet, is_too_long}
use Rattle.sessions.specs.line.Boxes.{asks_put, is_said, makes_box, may_box}
use Rattle.sessions.specs.line.Executed.{IsOutcome, IsReply}
use Rattle.sessions.specs.line.Fault.{Fault, Line as OfLine}
use Rattle.sessions.specs.line.Outcome.{InRestore, Line, Mode, Outside, Reply, is_end, outcome}
use Rattle.sessions.specs.line.Request.{Request, Nothing, request_of, request_on}
use Rattle.sessions.specs.declared.reply.answer.Answer.{Answer}
use Rattle.sessions.specs.declared.line.outcome.Outcome as made
use Rattle.sessions.proofs.laws.line.LineLaws.{loud, not_too_long}

module _ (P : Type 0) where
  -- of a refusal nothing is asked
  pub on_fault : (r : Result Answer Fault) (f : Fault) → r ≡ Err f → OnOk r P
  on_fault r f is = subst (λ (x : Result Answer Fault). OnOk x P) (sym is) tt

  -- what holds holds of any answer
  pub on_answer : (r : Result Answer Fault) → P → OnOk r P
  on_answer (Ok a) p = p
  on_answer (Err f) p = tt

  -- an answer that isn't a fault
  on_said : (t : Table) (r : Result Answer Fault) (said : Reply) → IsReply t r said → is_said said ≡ true → OnOk r P → P
  on_said t (Ok a) said is so p = p
  on_said t (Err f) said is so p = absurd (false≢true (sym (ap is_said is) ∙ so))

both : (a b : Bool) → (a && b) ≡ true → (a ≡ true) × (b ≡ true)
both true b e = (refl, e)
both false b e = absurd (false≢true e)

-- a line that makes a box had one made
pub box_made : (mode : Mode) (line : Line) (old new : TableView) (t : made.Outcome) (a b : ℕ) → IsOutcome (outcome old.table mode line) new t
    → (may_box mode line.text ≡ true → OnOk t.reply (MakesOneBox a b)) → makes_box old.table mode line ≡ true → MakesOneBox a b
box_made mode line old new t a b is boxed makes =
    let two = both (may_box mode line.text) (is_said (outcome old.table mode line).reply) makes in
    on_said (MakesOneBox a b) new.table t.reply (outcome old.table mode line).reply is.reply two.1 (boxed two.0)

-- a line that isn't too long is its text
pub line_is : (line text : List ℕ) (too_long : Bool) → IsHeld 10240 text line too_long → too_long ≡ false → line ≡ text
line_is line text true held short = absurd (false≢true (sym short))
line_is line text false held short = held

module _ (line text : List ℕ) (too_long : Bool) (held : IsHeld 10240 text line too_long) (short : too_long ≡ false) where
  -- Outside of restores

  abbrev by_line : Bool → Bool → List ℕ → Result Request Fault
  by_line long quiet bytes = if long then Err (OfLine LineTooLong) else if quiet then Ok Nothing else or_refused (OfLine Quoting) (words_of bytes) >>= request_of

  -- a blank line or a comment
  pub quiet_asks : length line ≤ 10240 → is_quiet line ≡ true → may_box Outside text ≡ false
  unfolding request_on
  quiet_asks within quiet =
      ap (may_box Outside) (sym (line_is line text too_long held short))
      ∙ ap (λ (b : Bool). asks_put (by_line b (is_quiet line) line)) (not_too_long line within) ∙ ap (λ (b : Bool). asks_put (by_line false b line)) quiet

  -- the words of a line
  pub words_ask : (words : List (List ℕ)) → length line ≤ 10240 → is_quiet line ≡ false → words_of line ≡ Some words → asks_put (request_of words) ≡ may_box Outside text
  words_ask words within noisy read =
      sym (ap (may_box Outside) (sym (line_is line text too_long held short))
      ∙ ap asks_put (loud line within noisy ∙ ap (λ (o : Option (List (List ℕ))). or_refused (OfLine Quoting) o >>= request_of) read))

  -- In a restore

  pub section_asks : (word : Option (List ℕ)) (r : Restore) → is_end word text ≡ false → line_puts r.state line ≡ may_box (InRestore word r) text
  section_asks word r other =
      ap (line_puts r.state) (line_is line text too_long held short) ∙ sym (ap (λ (b : Bool). if b then false else line_puts r.state text) other)

-- the end line of a restore asks for none
pub end_asks : (text : List ℕ) (word : Option (List ℕ)) (r : Restore) → is_end word text ≡ true → may_box (InRestore word r) text ≡ false
end_asks text word r end = ap (λ (b : Bool). if b then false else line_puts r.state text) end
