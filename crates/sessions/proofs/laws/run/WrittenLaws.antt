-- Lines that lead from one state to another, and that what was printed up to a line of a run was written.
use Rattle.std.proofs.Common.{◌≡◌, ℕ, Bool, false, List, [], ◌∷◌, ◌++◌, fold, sym, ap, subst, ◌⊎◌, inl, inr, Result, Ok, Err, refl, ◌∙◌, append_assoc, append-nil}
use Rattle.std.proofs.lemmas.List.{map-append}
use Rattle.fields.specs.text.Tap.{IsBeginning}
use Rattle.sessions.specs.line.Outcome.{Line, has_ended}
use Rattle.sessions.specs.run.Run.{Lead, Moment, ReadFailed, RunFault, Runs, WriteFailed}
use Rattle.sessions.specs.run.Session.{State, step, texts_of, Kind, OfRestore, OfSession, finish_of}
use Rattle.sessions.specs.run.Headline.{IsReadIn, IsWritten}

-- ---- Lines that lead from one state to another.

-- lines lead where their steps go
pub fold_of : (from to : State) (lines : List Line) → Lead from lines to → fold step from lines ≡ to
fold_of from to [] h = sym h
fold_of from to (line ∷ lines) h = fold_of (step from line) to lines h.1

-- and one line more
pub lead_more : (from s : State) (lines : List Line) (line : Line) → Lead from lines s → has_ended s.now.mode ≡ false → Lead from (lines ++ line ∷ []) (step s line)
lead_more from s [] line h going = (subst (λ (x : State). has_ended x.now.mode ≡ false) h going, ap (λ (x : State). step x line) h)
lead_more from s (first ∷ lines) line h going = (h.0, lead_more (step from first) s lines line h.1 going)

-- the texts of lines and of one line more
pub texts_more : (lines : List Line) (text : List ℕ) (refused : Bool) → texts_of (lines ++ record { text = text; refused = refused } ∷ []) ≡ texts_of lines ++ text ∷ []
texts_more lines text refused = map-append (λ (l : Line). l.text) lines (record { text = text; refused = refused } ∷ [])

-- ---- What was printed up to a line of a run was written.

-- Beginnings

begins_then : (a b c : List ℕ) → IsBeginning a b → IsBeginning b c → IsBeginning a c
begins_then a b c h g = (h.0 ++ g.0, g.1 ∙ ap (λ l. l ++ g.0) h.1 ∙ append_assoc a h.0 g.0)

abbrev first_or : ℕ → List ℕ → ℕ
first_or d [] = d
first_or d (x ∷ xs) = x

abbrev rest_or : List ℕ → List ℕ
rest_or [] = []
rest_or (x ∷ xs) = xs

-- of two beginnings one begins the other
compare : (a b more other : List ℕ) → a ++ more ≡ b ++ other → IsBeginning a b ⊎ IsBeginning b a
compare [] b more other e = inl (b, refl)
compare (x ∷ a) [] more other e = inr (x ∷ a, refl)
compare (x ∷ a) (y ∷ b) more other e =
    let same : x ≡ y = ap (first_or 0) e in
    elim (compare a b more other (ap rest_or e)) [
      | inl h ↦ inl (h.0, λ i. sym same i ∷ h.1 i)
      | inr h ↦ inr (h.0, λ i. same i ∷ h.1 i)
    ]

-- Lines

prints_on : (from to : State) (lines : List Line) → Lead from lines to → IsBeginning from.printed to.printed
prints_on from to [] h = ([], ap (λ (s : State). s.printed) h ∙ sym (append-nil from.printed))
prints_on from to (line ∷ lines) h =
    begins_then from.printed (step from line).printed to.printed (_, refl) (prints_on (step from line) to lines h.1)

-- where lines lead, the last of them lead from where the first of them do
rest_leads : (start s last : State) (before rest : List Line) → Lead start before s → Lead start (before ++ rest) last → Lead s rest last
rest_leads start s last [] rest h g = subst (λ (x : State). Lead x rest last) (sym h) g
rest_leads start s last (line ∷ before) rest h g = rest_leads (step start line) s last before rest h.1 g.1

-- what was printed up to a line is a beginning of what was printed up to the last
printed_in : (start s last : State) (lines : List Line) (line : Line) → IsReadIn start lines s line → Lead start lines last → IsBeginning (step s line).printed last.printed
printed_in start s last lines line read leads =
    let there = rest_leads start s last read.before (line ∷ read.rest) read.leads (subst (λ ls. Lead start ls last) read.split leads) in
    prints_on (step s line) last read.rest there.1

-- the end prints after all lines
end_prints : (kind : Kind) (s : State) → IsBeginning s.printed (finish_of kind s).printed
end_prints OfSession s = (_, refl)
end_prints (OfRestore noflush test list) s = (_, refl)

module _ (kind : Kind) (start : State) (lines : List Line) (before after : Moment) where
  -- where the lines of a run lead
  pub leads_to : (r : Result ℕ RunFault) → Runs start (finish_of kind) lines before r after → (last : State) × Lead start lines last
  leads_to (Ok status) runs = (runs.ran.last, runs.ran.leads)
  leads_to (Err ReadFailed) runs = (runs.ran.last, runs.ran.leads)
  leads_to (Err WriteFailed) runs = elim runs.ran [
    | inl q ↦ (step q.first q.line, subst (λ ls. Lead start ls (step q.first q.line)) (sym q.split) (lead_more start q.first q.before q.line q.leads q.replies.0))
    | inr (inl q) ↦ (q.last, q.leads)
    | inr (inr q) ↦ (q.last, q.leads)
  ]

  pub is_written : (r : Result ℕ RunFault) (runs : Runs start (finish_of kind) lines before r after) (s : State) (line : Line) → IsReadIn start lines s line → IsWritten r (step s line).printed runs.written
  is_written (Ok status) runs s line read =
      subst (IsBeginning (step s line).printed) (sym runs.ran.printed)
      (begins_then (step s line).printed runs.ran.last.printed (finish_of kind runs.ran.last).printed (printed_in start s runs.ran.last lines line read runs.ran.leads) (end_prints kind runs.ran.last))
  is_written (Err ReadFailed) runs s line read =
      subst (IsBeginning (step s line).printed) (sym runs.ran.printed) (printed_in start s runs.ran.last lines line read runs.ran.leads)
  is_written (Err WriteFailed) runs s line read = elim runs.ran [
    | inl q ↦
        let leads : Lead start lines (step q.first q.line) = subst (λ ls. Lead start ls (step q.first q.line)) (sym q.split) (lead_more start q.first q.before q.line q.leads q.replies.0) in
        let all = printed_in start s (step q.first q.line) lines line read leads in
        let part : IsBeginning runs.written (step q.first q.line).printed = subst (λ (x : State). IsBeginning runs.written x.printed) q.replies.1 q.between.part in
        compare (step s line).printed runs.written all.0 part.0 (sym all.1 ∙ part.1)
    | inr (inl q) ↦ inl (subst (IsBeginning (step s line).printed) (sym q.printed) (printed_in start s q.last lines line read q.leads))
    | inr (inr q) ↦ inl (begins_then (step s line).printed q.last.printed runs.written (printed_in start s q.last lines line read q.leads) q.between.all)
  ]
