-- What a restore answers to a line.
use Rattle.std.proofs.Common.{◌≡◌, inl, inr, ℕ, Bool, true, false, not, ◌||◌, ◌&&◌, List, refl, sym, ◌∙◌, ap, subst, Some, None, Result, Ok, Err, IsTrue, IsFalse, if◌then◌else◌}
use Rattle.std.proofs.lemmas.Bool.{true≢false, false≢true, false_from_ne_true}
use Rattle.table.specs.chains.Table.{Table, TableView}
use Rattle.fields.specs.Refusals.{Refuses}
use Rattle.restore.specs.Sequence.{Gives, made_into}
use Rattle.restore.specs.sections.Lines.{Answers, IsLine, puts_table}
use Rattle.restore.specs.sections.Restore.{Restore, Restoring, SectionState, Between, Skipping, Building, between, committed, is_commit, is_skipping, line_at, moved, restore_line, skipped, takes_no_memory}
use Rattle.restore.specs.sections.Section.{RestoreFault, LineTooLong, Section, is_out_of_memory, is_quiet, is_too_long, line_in}

-- a line of more bytes than it may have
pub too_long : (r : Restore) (line : List ℕ) (old : TableView) → is_too_long line ≡ true → IsLine r line old old (Err LineTooLong)
unfolding restore_line
too_long r line old long =
    inl (subst (λ b. Answers (if b then Err LineTooLong else line_at r.state r old.table line) (puts_table r line) old old (Err LineTooLong)) (sym long) (refl, refl))

-- another line is done by where it stands
by_state : (r : Restore) (line : List ℕ) (t : Table) → is_too_long line ≡ false → restore_line r t line ≡ line_at r.state r t line
unfolding restore_line
by_state r line t short = ap (λ b. if b then Err LineTooLong else line_at r.state r t line) short

answered : (r : Restore) (line : List ℕ) (old new : TableView) (result : Result Restore RestoreFault) (given : Result Restoring RestoreFault) → restore_line r old.table line ≡ given → Answers given (puts_table r line) old new result → IsLine r line old new result
answered r line old new result given is a = inl (subst (λ (g : Result Restoring RestoreFault). Answers g (puts_table r line) old new result) (sym is) a)

-- a refusal: the definition's, or that memory ran out on a line that may take some
refused : {A : Type 0} (r : Restore) (line : List ℕ) (old : TableView) (f : RestoreFault) (put : A → Restoring) (given : Result A RestoreFault) → restore_line r old.table line ≡ made_into put given → Gives is_out_of_memory (λ x. x) (Err f) given → (takes_no_memory r.state line ≡ true → is_out_of_memory f ≡ false) → IsLine r line old old (Err f)
refused r line old f put given is g needs =
    elim (is_out_of_memory f) as (λ b. is_out_of_memory f ≡ b → Refuses (if b then None else Some f) given → IsLine r line old old (Err f)) [
      | true ↦ λ memory h. inr (record { fault = f; answer = refl; memory = memory; may_take = false_from_ne_true (takes_no_memory r.state line) (λ takes. true≢false (sym memory ∙ needs takes)); unchanged = refl })
      | false ↦ λ memory h. answered r line old old (Err f) (Err f) (is ∙ ap (made_into put) h) (refl, refl)
    ] refl g

either : (a b c : Bool) → (a ≡ true → c ≡ false) → (b ≡ true → c ≡ false) → (a || b) ≡ true → c ≡ false
either true b c left right e = left refl
either false b c left right e = right e

-- a restore in these words
at_state : (noflush test : Bool) (line : List ℕ) (old new : TableView) (state known : SectionState) (r : Restore) (result : Result Restore RestoreFault) → record { noflush = noflush; test = test; state = state } ≡ r → state ≡ known → IsLine (record { noflush = noflush; test = test; state = known }) line old new result → IsLine r line old new result
at_state noflush test line old new state known r result seen is h =
    subst (λ (s : Restore). IsLine s line old new result) seen (subst (λ (p : SectionState). IsLine (record { noflush = noflush; test = test; state = p }) line old new result) (sym is) h)

-- the same, of what a table and the next place are known to be
pub reached : (noflush test : Bool) (line : List ℕ) (old new known_new : TableView) (state known next known_next : SectionState) (r : Restore) → record { noflush = noflush; test = test; state = state } ≡ r → state ≡ known → new ≡ known_new → next ≡ known_next → IsLine (record { noflush = noflush; test = test; state = known }) line old known_new (Ok (record { noflush = noflush; test = test; state = known_next })) → IsLine r line old new (Ok (record { noflush = noflush; test = test; state = next }))
reached noflush test line old new known_new state known next known_next r seen is table after h =
    at_state noflush test line old new state known r (Ok (record { noflush = noflush; test = test; state = next })) seen is
    (subst (λ (t : TableView). IsLine (record { noflush = noflush; test = test; state = known }) line old t (Ok (record { noflush = noflush; test = test; state = next }))) (sym table)
    (subst (λ (p : SectionState). IsLine (record { noflush = noflush; test = test; state = known }) line old known_new (Ok (record { noflush = noflush; test = test; state = p }))) (sym after) h))

-- the same, of a refusal
pub stopped : (noflush test : Bool) (line : List ℕ) (old : TableView) (state known : SectionState) (r : Restore) (f : RestoreFault) (result : Result Restore RestoreFault) → record { noflush = noflush; test = test; state = state } ≡ r → state ≡ known → result ≡ Err f → IsLine (record { noflush = noflush; test = test; state = known }) line old old (Err f) → IsLine r line old old result
stopped noflush test line old state known r f result seen is answer h =
    at_state noflush test line old old state known r result seen is
    (subst (λ (x : Result Restore RestoreFault). IsLine (record { noflush = noflush; test = test; state = known }) line old old x) (sym answer) h)

module _ (noflush test : Bool) (line : List ℕ) (short : is_too_long line ≡ false) where
  -- the restore, with its next line there
  abbrev here : SectionState → Restore
  here state = record { noflush = noflush; test = test; state = state }

  -- of what a line takes no memory
  takes_none : (state : SectionState) → is_skipping state ≡ false → takes_no_memory state line ≡ (is_quiet line || is_commit line)
  takes_none state other = (λ i. short i || other i || is_quiet line || is_commit line)

  pub between_ok : (old : TableView) (state : SectionState) → between noflush old.table line ≡ Ok state → IsLine (here Between) line old old (Ok (here state))
  between_ok old state e =
      answered (here Between) line old old (Ok (here state)) (Ok (moved old.table (here Between) state)) (by_state (here Between) line old.table short ∙ ap (made_into (moved old.table (here Between))) e) (refl, refl, refl)

  pub between_err : (old : TableView) (f : RestoreFault) → Gives is_out_of_memory (λ (p : SectionState). p) (Err f) (between noflush old.table line) → (IsTrue (is_quiet line) → IsFalse (is_out_of_memory f)) → (IsTrue (is_commit line) → IsFalse (is_out_of_memory f)) → IsLine (here Between) line old old (Err f)
  between_err old f g quiet commit =
      refused (here Between) line old f (moved old.table (here Between)) (between noflush old.table line) (by_state (here Between) line old.table short) g
      (λ takes. either (is_quiet line) (is_commit line) (is_out_of_memory f) quiet commit (sym (takes_none Between refl) ∙ takes))

  pub skipped_line : (old : TableView) → IsLine (here Skipping) line old old (Ok (here (skipped line)))
  skipped_line old =
      answered (here Skipping) line old old (Ok (here (skipped line))) (Ok (moved old.table (here Skipping) (skipped line))) (by_state (here Skipping) line old.table short) (refl, refl, refl)

  -- a line of a section that is built, which doesn't end it
  in_section : (t : Table) (s : Section) → is_commit line ≡ false → restore_line (here (Building s)) t line ≡ made_into (λ (next : Section). moved t (here (Building s)) (Building next)) (line_in s line)
  in_section t s other =
      by_state (here (Building s)) line t short
      ∙ ap (λ b. if b then Ok (moved (committed test t s) (here (Building s)) Between) else made_into (λ (next : Section). moved t (here (Building s)) (Building next)) (line_in s line)) other

  pub section_ok : (old : TableView) (s next : Section) → is_commit line ≡ false → line_in s line ≡ Ok next → IsLine (here (Building s)) line old old (Ok (here (Building next)))
  section_ok old s next other e =
      answered (here (Building s)) line old old (Ok (here (Building next))) (Ok (moved old.table (here (Building s)) (Building next)))
      (in_section old.table s other ∙ ap (made_into (λ (n : Section). moved old.table (here (Building s)) (Building n))) e)
      (subst (λ b. Answers (Ok (moved old.table (here (Building s)) (Building next))) (true && b && not test) old old (Ok (here (Building next)))) (sym other) (refl, refl, refl))

  pub section_err : (old : TableView) (s : Section) (f : RestoreFault) → is_commit line ≡ false → Gives is_out_of_memory (λ (next : Section). next) (Err f) (line_in s line) → (IsTrue (is_too_long line || is_quiet line) → IsFalse (is_out_of_memory f)) → IsLine (here (Building s)) line old old (Err f)
  section_err old s f other g quiet =
      refused (here (Building s)) line old f (λ (next : Section). moved old.table (here (Building s)) (Building next)) (line_in s line) (in_section old.table s other) g
      (λ takes. either (is_quiet line) false (is_out_of_memory f) (λ q. quiet ((λ i. short i || is_quiet line) ∙ q)) (λ never. absurd (false≢true never)) (sym ((takes_none (Building s) refl) ∙ (λ i. is_quiet line || other i)) ∙ takes))

  -- the answer where the section's table may be put in place
  Committed : Bool → Bool → TableView → TableView → Section → Type 0
  Committed commits tests old new s =
      Answers (if commits then Ok (moved (committed tests old.table s) (record { noflush = noflush; test = tests; state = Building s }) Between) else made_into (λ (next : Section). moved old.table (record { noflush = noflush; test = tests; state = Building s }) (Building next)) (line_in s line)) (true && commits && not tests) old new (Ok (record { noflush = noflush; test = tests; state = Between }))

  put : (tests : Bool) (old new : TableView) (s : Section) → new.table ≡ committed tests old.table s → (tests ≡ true → new ≡ old) → Committed true tests old new s
  unfolding Committed
  put true old new s is unchanged = (refl, is, unchanged refl)
  put false old new s is unchanged = (refl, is)

  -- `COMMIT`
  pub section_commits : (old new : TableView) (s : Section) → is_commit line ≡ true → new.table ≡ committed test old.table s → (IsTrue test → new ≡ old) → IsLine (here (Building s)) line old new (Ok (here Between))
  unfolding Committed
  section_commits old new s commits is unchanged =
      let a = subst (λ b. Committed b test old new s) (sym commits) (put test old new s is unchanged) in
      answered (here (Building s)) line old new (Ok (here Between)) (line_at (Building s) (here (Building s)) old.table line) (by_state (here (Building s)) line old.table short) a
