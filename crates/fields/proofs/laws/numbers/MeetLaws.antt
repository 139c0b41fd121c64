-- The numbers in the gaps of a list of intervals, and those in both of two lists.
use Rattle.std.proofs.Common.{◌≡◌, inl, inr, ℕ, ◌+◌, ◌-◌, ◌<◌, ◌≤◌, not, List, [], ◌∷◌, ◌++◌, refl, sym, ◌∙◌, ap, arith, subst, length, drop, get_or, add-one, drop-cons, Option, Some, None, ◌⊎◌, ◌&&◌, true, false, min, max}
use Rattle.std.specs.Prelude.{unwrap_or}
use Rattle.std.proofs.lemmas.Bool.{cases_lt}
use Rattle.std.proofs.Math.ListN.{drop_of_length-le}
use Rattle.std.proofs.lemmas.List.{append_assoc, append-nil, nil_from_length}
use Rattle.std.proofs.Math.Bool.{and_comm, and-false}
use Rattle.std.proofs.Math.Nat.{max_comm, min_comm}
use Rattle.fields.specs.declared.numbers.spans.Interval.{Interval}
use Rattle.fields.specs.numbers.Spans.{has, AreSpansFrom}
use Rattle.fields.proofs.laws.numbers.SpanLaws.{none_below, has_first, has_above, from_lower, from_members}

-- ---- The gaps of a list of intervals.

-- the gaps of the intervals, from low on
pub record AreGapsFrom (top low : ℕ) (spans gaps : List Interval) : Type 0 where
  pub rise : AreSpansFrom top low gaps
  pub members : (x : ℕ) → low ≤ x → x ≤ top → has gaps x ≡ not (has spans x)

-- from an interval's first number on, the gaps are those behind it
gaps_behind : (top low : ℕ) (s : Interval) (ss gaps : List Interval) → AreSpansFrom top low (s ∷ ss) → AreGapsFrom top (s.last + 1) ss gaps
    → (x : ℕ) → s.first ≤ x → x ≤ top → has gaps x ≡ not (has (s ∷ ss) x)
gaps_behind top low s ss gaps h g x ge le =
    elim (cases_lt s.last x) [
      | inl lt ↦ (g.members x (omega arith) le ∙ sym (ap not (has_above s ss x lt)))
      | inr in_first ↦ (none_below top (s.last + 1) x gaps g.rise (omega arith) ∙ sym (ap not (has_first s ss x ge in_first)))
    ]

-- an interval with no gap before it
no_gap : (top low : ℕ) (s : Interval) (ss gaps : List Interval) → AreSpansFrom top low (s ∷ ss) → s.first ≤ low → AreGapsFrom top (s.last + 1) ss gaps
    → AreGapsFrom top low (s ∷ ss) gaps
no_gap top low s ss gaps h at g =
    record {
      rise = from_lower top (s.last + 1) low gaps (omega (arith, h.0, h.1)) g.rise;
      members = λ x ge le. gaps_behind top low s ss gaps h g x (omega arith) le;
    }

-- an interval with a gap before it
gap_before : (top low : ℕ) (s gap : Interval) (ss gaps : List Interval) → AreSpansFrom top low (s ∷ ss) → low < s.first → gap.first ≡ low → gap.last + 1 ≡ s.first
    → AreGapsFrom top (s.last + 1) ss gaps → AreGapsFrom top low (s ∷ ss) (gap ∷ gaps)
gap_before top low s gap ss gaps h lt first last g =
    record {
      rise = (omega arith, omega arith, omega (arith, h.1, h.2), from_lower top (s.last + 1) (gap.last + 2) gaps (omega (arith, h.1)) g.rise);
      members = λ x ge le. elim (cases_lt x s.first) [
        | inl before ↦ (has_first gap gaps x (omega arith) (omega arith) ∙ sym (ap not (none_below top s.first x (s ∷ ss) (omega arith, h.1, h.2, h.3) before)))
        | inr behind ↦ (has_above gap gaps x (omega arith) ∙ gaps_behind top low s ss gaps h g x behind le)
      ];
    }

-- the gap behind the last interval, and none
last_gap : (top low : ℕ) (gap : Interval) → low ≤ top → gap.first ≡ low → gap.last ≡ top → AreGapsFrom top low [] (gap ∷ [])
last_gap top low gap le first last =
    record { rise = (omega arith, omega arith, omega arith, tt); members = λ x ge le. has_first gap [] x (omega arith) (omega arith) }

no_last_gap : (top low : ℕ) → top < low → AreGapsFrom top low [] []
no_last_gap top low lt = record { rise = tt; members = λ x ge le. absurd (omega arith) }

-- where the next gap starts, or above the top
abbrev pub low_of : ℕ → Option ℕ → ℕ
low_of top start = unwrap_or start (top + 1)

-- ---- the loop

-- with the gaps that are left, the list so far is all gaps
pub record Excepting (top : ℕ) (spans gaps left : List Interval) (start : Option ℕ) : Type 0 where
  pub within : unwrap_or start top ≤ top
  pub left_rises : AreSpansFrom top (low_of top start) left
  pub rest : (more : List Interval) → AreGapsFrom top (low_of top start) left more → AreGapsFrom top 0 spans (gaps ++ more)

-- the next gap starts behind an interval, if there is a number left for it
pub record StartsBehind (top : ℕ) (s : Interval) (start : Option ℕ) : Type 0 where
  pub some : s.last < top → start ≡ Some (s.last + 1)
  pub none : top ≤ s.last → start ≡ None

-- the gap before an interval, appended, if there is one
pub record GapAppended (top : ℕ) (s : Interval) (start : Option ℕ) (gaps now : List Interval) : Type 0 where
  pub gap : low_of top start < s.first → now ≡ gaps ++ record { first = low_of top start; last = s.first - 1 } ∷ []
  pub no_gap : s.first ≤ low_of top start → now ≡ gaps

low_behind : (top : ℕ) (s : Interval) (start : Option ℕ) → s.last ≤ top → StartsBehind top s start → (low_of top start ≡ s.last + 1) × (unwrap_or start top ≤ top)
low_behind top s start le b =
    elim (cases_lt s.last top) [
      | inl lt ↦ (ap (low_of top) (b.some lt), (let e : unwrap_or start top ≡ s.last + 1 = ap (λ (o : Option ℕ). unwrap_or o top) (b.some lt) in omega arith))
      | inr ge ↦ (
          let low : low_of top start ≡ top + 1 = ap (low_of top) (b.none ge) in
          let e : unwrap_or start top ≡ top = ap (λ (o : Option ℕ). unwrap_or o top) (b.none ge) in
          (omega arith, omega arith))
    ]

pub excepting_begun : (top : ℕ) (spans : List Interval) → AreSpansFrom top 0 spans → Excepting top spans [] spans (Some 0)
excepting_begun top spans h = record { within = omega arith; left_rises = h; rest = λ more g. g }

excepting_past : (top : ℕ) (spans gaps now ss : List Interval) (s : Interval) (start next : Option ℕ) → Excepting top spans gaps (s ∷ ss) start → GapAppended top s start gaps now
    → StartsBehind top s next → Excepting top spans now ss next
excepting_past top spans gaps now ss s start next e a b =
    let h : AreSpansFrom top (low_of top start) (s ∷ ss) = e.left_rises in
    let low : (low_of top next ≡ s.last + 1) × (unwrap_or next top ≤ top) = low_behind top s next h.2 b in
    let P : List Interval → List Interval → Type 0 = λ more l. AreGapsFrom top 0 spans (l ++ more) in
    record {
      within = low.1;
      left_rises = from_lower top (s.last + 2) (low_of top next) ss (omega (arith, low.0)) h.3;
      rest = λ more g. (
          let behind : AreGapsFrom top (s.last + 1) ss more = subst (λ (n : ℕ). AreGapsFrom top n ss more) low.0 g in
          elim (cases_lt (low_of top start) s.first) [
            | inl lt ↦ (
                let gap : Interval = record { first = low_of top start; last = s.first - 1 } in
                subst (P more) (sym (a.gap lt)) (rw append_assoc (e.rest (gap ∷ more) (gap_before top (low_of top start) s gap ss more h lt refl (omega arith) behind))))
            | inr ge ↦ subst (P more) (sym (a.no_gap ge)) (e.rest more (no_gap top (low_of top start) s ss more h ge behind))
          ]);
    }

pub gap_appended : (top first : ℕ) (s : Interval) (start : Option ℕ) (gaps now : List Interval) → start ≡ Some first → first < s.first
    → now ≡ gaps ++ record { first = first; last = s.first - 1 } ∷ [] → GapAppended top s start gaps now
gap_appended top first s start gaps now is lt appended =
    let P : Option ℕ → Type 0 = λ o. GapAppended top s o gaps now in
    subst P (sym is) (record { gap = λ _. appended; no_gap = λ ge. absurd (omega arith) })

pub no_room : (top first : ℕ) (s : Interval) (start : Option ℕ) (gaps now : List Interval) → start ≡ Some first → s.first ≤ first → now ≡ gaps → GapAppended top s start gaps now
no_room top first s start gaps now is ge same =
    let P : Option ℕ → Type 0 = λ o. GapAppended top s o gaps now in
    subst P (sym is) (record { gap = λ lt. absurd (omega arith); no_gap = λ _. same })

pub no_start : (top : ℕ) (s : Interval) (start : Option ℕ) (gaps now : List Interval) → start ≡ None → s.first ≤ top → now ≡ gaps → GapAppended top s start gaps now
no_start top s start gaps now is le same =
    let P : Option ℕ → Type 0 = λ o. GapAppended top s o gaps now in
    subst P (sym is) (record { gap = λ lt. absurd (omega arith); no_gap = λ _. same })

-- the interval at an index, and those behind it
at_index : (top : ℕ) (spans gaps items : List Interval) (start : Option ℕ) (i : ℕ) (d : Interval) → i < length items → Excepting top spans gaps (drop i items) start
    → Excepting top spans gaps (get_or items i d ∷ drop (i + 1) items) start
at_index top spans gaps items start i d lt e = rw (add-one, ← drop-cons items i d lt) e

pub excepting_next : (top : ℕ) (spans gaps now items : List Interval) (start next : Option ℕ) (i : ℕ) (d : Interval) → i < length items → Excepting top spans gaps (drop i items) start
    → GapAppended top (get_or items i d) start gaps now → StartsBehind top (get_or items i d) next → Excepting top spans now (drop (i + 1) items) next
excepting_next top spans gaps now items start next i d lt e a b =
    excepting_past top spans gaps now (drop (i + 1) items) (get_or items i d) start next (at_index top spans gaps items start i d lt e) a b

-- an interval that is left begins within the top
pub begins_within : (top : ℕ) (spans gaps items : List Interval) (start : Option ℕ) (i : ℕ) (d : Interval) → i < length items → Excepting top spans gaps (drop i items) start → (get_or items i d).first ≤ top
begins_within top spans gaps items start i d lt e = let h = at_index top spans gaps items start i d lt e in omega (arith, h.left_rises.1, h.left_rises.2)

-- the gap behind the last interval, appended, if there is one
pub record LastGapAppended (top : ℕ) (start : Option ℕ) (gaps now : List Interval) : Type 0 where
  pub gap : low_of top start ≤ top → now ≡ gaps ++ record { first = low_of top start; last = top } ∷ []
  pub no_gap : top < low_of top start → now ≡ gaps

pub last_gap_appended : (top first last : ℕ) (start : Option ℕ) (gaps now : List Interval) → start ≡ Some first → unwrap_or start top ≤ top → last ≡ top
    → now ≡ gaps ++ record { first = first; last = last } ∷ [] → LastGapAppended top start gaps now
last_gap_appended top first last start gaps now is within at appended =
    let P : Option ℕ → ℕ → Type 0 = λ o n. now ≡ gaps ++ record { first = low_of top o; last = n } ∷ [] in
    let le : low_of top start ≤ top = within_low top first start is within in
    record { gap = λ _. subst (λ (o : Option ℕ). P o top) (sym is) (subst (P (Some first)) at appended); no_gap = λ lt. absurd (omega arith) }
  where
    within_low : (top first : ℕ) (start : Option ℕ) → start ≡ Some first → unwrap_or start top ≤ top → low_of top start ≤ top
    within_low top first start is within =
        let e : low_of top start ≡ first = ap (low_of top) is in
        let f : unwrap_or start top ≡ first = ap (λ (o : Option ℕ). unwrap_or o top) is in
        omega arith

pub no_last : (top : ℕ) (start : Option ℕ) (gaps now : List Interval) → start ≡ None → now ≡ gaps → LastGapAppended top start gaps now
no_last top start gaps now is same =
    let low : low_of top start ≡ top + 1 = ap (low_of top) is in
    record { gap = λ le. absurd (omega arith); no_gap = λ _. same }

pub excepting_ended : (top : ℕ) (spans gaps now items : List Interval) (start : Option ℕ) (i : ℕ) → length items ≤ i → Excepting top spans gaps (drop i items) start → LastGapAppended top start gaps now
    → AreGapsFrom top 0 spans now
excepting_ended top spans gaps now items start i end e a =
    let P : List Interval → Type 0 = λ l. AreGapsFrom top 0 spans l in
    let nothing_left : Excepting top spans gaps [] start = rw (← drop_of_length-le items end) e in
    elim (cases_lt top (low_of top start)) [
      | inl lt ↦ subst P (sym (a.no_gap lt)) (subst P (append-nil gaps) (nothing_left.rest [] (no_last_gap top (low_of top start) lt)))
      | inr le ↦ (
          let gap : Interval = record { first = low_of top start; last = top } in
          subst P (sym (a.gap le)) (nothing_left.rest (gap ∷ []) (last_gap top (low_of top start) gap le refl refl)))
    ]

-- ---- The numbers in both of two lists of intervals.

-- the numbers of both
pub record IsMeet (top : ℕ) (a b both : List Interval) : Type 0 where
  pub rise : AreSpansFrom top 0 both
  pub members : (x : ℕ) → has both x ≡ (has a x && has b x)

meet_swapped : (top : ℕ) (a b both : List Interval) → IsMeet top a b both → IsMeet top b a both
meet_swapped top a b both m = record { rise = m.rise; members = λ x. m.members x ∙ and_comm (has a x) (has b x) }

-- no number is in both where one of them has none
none_in_left : (a b : List Interval) (x : ℕ) → has a x ≡ false → (has a x && has b x) ≡ false
none_in_left a b x none = ap (λ c. c && has b x) none

none_in_right : (a b : List Interval) (x : ℕ) → has b x ≡ false → (has a x && has b x) ≡ false
none_in_right a b x none = ap (λ c. has a x && c) none ∙ and-false (has a x)

-- behind the first interval of a list, the rest of the list does
meet_behind : (top : ℕ) (s : Interval) (ss b both : List Interval) → IsMeet top ss b both → (x : ℕ) → s.last < x → has both x ≡ (has (s ∷ ss) x && has b x)
meet_behind top s ss b both m x lt = m.members x ∙ sym (ap (λ c. c && has b x) (has_above s ss x lt))

-- what two first intervals share is shared, and the rest of the list whose first one ends before the other does for what follows
meet_shared : (top : ℕ) (s t p : Interval) (ss ts both : List Interval) → AreSpansFrom top 0 (s ∷ ss) → AreSpansFrom top 0 (t ∷ ts) → s.last ≤ t.last
    → p.first ≡ max s.first t.first → p.last ≡ min s.last t.last → p.first ≤ p.last → IsMeet top ss (t ∷ ts) both → IsMeet top (s ∷ ss) (t ∷ ts) (p ∷ both)
meet_shared top s t p ss ts both g h ends first last le m =
    let behind : AreSpansFrom top (p.last + 2) both = from_members top (p.last + 2) both m.rise
    (λ x lt. m.members x ∙ none_in_left ss (t ∷ ts) x (none_below top (s.last + 2) x ss g.3 (omega arith))) in
    let rise : AreSpansFrom top 0 (p ∷ both) = (omega arith, le, omega (arith, g.2), behind) in
    record {
      rise = rise;
      members = λ x. elim (cases_lt s.last x) [
        | inl lt ↦ (has_above p both x (omega arith) ∙ meet_behind top s ss (t ∷ ts) both m x lt)
        | inr within ↦ elim (cases_lt x p.first) [
          | inl before ↦ (
              let none : has (p ∷ both) x ≡ false = none_below top p.first x (p ∷ both) (omega arith, le, omega (arith, g.2), behind) before in
              elim (cases_lt x s.first) [
                | inl a ↦ (none ∙ sym (none_in_left (s ∷ ss) (t ∷ ts) x (none_below top s.first x (s ∷ ss) (omega arith, g.1, g.2, g.3) a)))
                | inr a ↦ (none ∙ sym (none_in_right (s ∷ ss) (t ∷ ts) x (none_below top t.first x (t ∷ ts) (omega arith, h.1, h.2, h.3) (omega arith))))
              ])
          | inr from ↦ (
              let in_s : has (s ∷ ss) x ≡ true = has_first s ss x (omega arith) within in
              let in_t : has (t ∷ ts) x ≡ true = has_first t ts x (omega arith) (omega arith) in
              has_first p both x from (omega arith) ∙ sym (ap (λ c. c && has (t ∷ ts) x) in_s ∙ in_t))
        ]
      ];
    }

-- where two first intervals share nothing, the rest of the list whose first one ends before the other does
meet_apart : (top : ℕ) (s t : Interval) (ss ts both : List Interval) → AreSpansFrom top 0 (s ∷ ss) → AreSpansFrom top 0 (t ∷ ts) → s.last ≤ t.last
    → min s.last t.last < max s.first t.first → IsMeet top ss (t ∷ ts) both → IsMeet top (s ∷ ss) (t ∷ ts) both
meet_apart top s t ss ts both g h ends apart m =
    record {
      rise = m.rise;
      members = λ x. elim (cases_lt s.last x) [
        | inl lt ↦ meet_behind top s ss (t ∷ ts) both m x lt
        | inr within ↦ (
            let none : has (t ∷ ts) x ≡ false = none_below top t.first x (t ∷ ts) (omega arith, h.1, h.2, h.3) (omega (arith, g.1)) in
            m.members x ∙ none_in_right ss (t ∷ ts) x none ∙ sym (none_in_right (s ∷ ss) (t ∷ ts) x none))
      ];
    }

-- ---- the loop

-- what two intervals share, appended, if they share anything
pub record Appended (s t : Interval) (done now : List Interval) : Type 0 where
  pub shared : max s.first t.first ≤ min s.last t.last → now ≡ done ++ record { first = max s.first t.first; last = min s.last t.last } ∷ []
  pub apart : min s.last t.last < max s.first t.first → now ≡ done

pub appended_shared : (s t : Interval) (first last : ℕ) (done now : List Interval) → first ≡ max s.first t.first → last ≡ min s.last t.last → first ≤ last
    → now ≡ done ++ record { first = first; last = last } ∷ [] → Appended s t done now
appended_shared s t first last done now f l le is =
    let P : ℕ → ℕ → Type 0 = λ m n. now ≡ done ++ record { first = m; last = n } ∷ [] in
    record { shared = λ _. subst (P (max s.first t.first)) l (subst (λ (m : ℕ). P m last) f is); apart = λ lt. absurd (omega arith) }

pub appended_none : (s t : Interval) (first last : ℕ) (done now : List Interval) → first ≡ max s.first t.first → last ≡ min s.last t.last → last < first → now ≡ done → Appended s t done now
appended_none s t first last done now f l lt same = record { shared = λ le. absurd (omega arith); apart = λ _. same }

appended_swapped : (s t : Interval) (done now : List Interval) → Appended s t done now → Appended t s done now
appended_swapped s t done now a =
    let P : ℕ → ℕ → Type 0 = λ first last. first ≤ last → now ≡ done ++ record { first = first; last = last } ∷ [] in
    record {
      shared = subst (P (max t.first s.first)) (min_comm s.last t.last) (subst (λ (n : ℕ). P n (min s.last t.last)) (max_comm s.first t.first) a.shared);
      apart = λ lt. a.apart (omega arith);
    }

-- with what is shared of the intervals that are left, the list so far is what is shared of all
pub record Meeting (top : ℕ) (a b done left right : List Interval) : Type 0 where
  pub left_rises : AreSpansFrom top 0 left
  pub right_rises : AreSpansFrom top 0 right
  pub rest : (both : List Interval) → IsMeet top left right both → IsMeet top a b (done ++ both)

pub meeting_begun : (top : ℕ) (a b : List Interval) → AreSpansFrom top 0 a → AreSpansFrom top 0 b → Meeting top a b [] a b
meeting_begun top a b g h = record { left_rises = g; right_rises = h; rest = λ both m. m }

meeting_swapped : (top : ℕ) (a b done left right : List Interval) → Meeting top a b done left right → Meeting top a b done right left
meeting_swapped top a b done left right m = record { left_rises = m.right_rises; right_rises = m.left_rises; rest = λ both h. m.rest both (meet_swapped top right left both h) }

left_past : (top : ℕ) (a b done now ss ts : List Interval) (s t : Interval) → Meeting top a b done (s ∷ ss) (t ∷ ts) → Appended s t done now → s.last ≤ t.last
    → Meeting top a b now ss (t ∷ ts)
left_past top a b done now ss ts s t m p ends =
    let P : List Interval → List Interval → Type 0 = λ both d. IsMeet top a b (d ++ both) in
    record {
      left_rises = from_lower top (s.last + 2) 0 ss (omega arith) m.left_rises.3;
      right_rises = m.right_rises;
      rest = λ both h. elim (cases_lt (min s.last t.last) (max s.first t.first)) [
        | inl lt ↦ subst (P both) (sym (p.apart lt)) (m.rest both (meet_apart top s t ss ts both m.left_rises m.right_rises ends lt h))
        | inr le ↦ (
            let i : Interval = record { first = max s.first t.first; last = min s.last t.last } in
            subst (P both) (sym (p.shared le)) (rw append_assoc (m.rest (i ∷ both) (meet_shared top s t i ss ts both m.left_rises m.right_rises ends refl refl le h))))
      ];
    }

right_past : (top : ℕ) (a b done now ss ts : List Interval) (s t : Interval) → Meeting top a b done (s ∷ ss) (t ∷ ts) → Appended s t done now → t.last ≤ s.last
    → Meeting top a b now (s ∷ ss) ts
right_past top a b done now ss ts s t m p ends =
    meeting_swapped top a b now ts (s ∷ ss) (left_past top a b done now ts ss t s (meeting_swapped top a b done (s ∷ ss) (t ∷ ts) m) (appended_swapped s t done now p) ends)

-- the next two lists that are left, of which one has lost its first interval, which ends no later than the other's
pub record Advanced (left right ss ts : List Interval) (s t : Interval) (next_left next_right : List Interval) : Type 0 where
  pub in_left : s.last ≤ t.last → (next_left ≡ ss) × (next_right ≡ right)
  pub in_right : t.last < s.last → (next_left ≡ left) × (next_right ≡ ts)

pub meeting_next : (top : ℕ) (a b done now left right ss ts next_left next_right : List Interval) (s t : Interval) → Meeting top a b done left right → left ≡ s ∷ ss → right ≡ t ∷ ts
    → Appended s t done now → Advanced left right ss ts s t next_left next_right → Meeting top a b now next_left next_right
meeting_next top a b done now left right ss ts next_left next_right s t m l r p n =
    let before : Meeting top a b done (s ∷ ss) (t ∷ ts) = rw (← l, ← r) m in
    elim (cases_lt t.last s.last) [
      | inl lt ↦ (let e = n.in_right lt in rw (e.0, e.1, l) (right_past top a b done now ss ts s t before p (omega arith)))
      | inr le ↦ (let e = n.in_left le in rw (e.0, e.1, r) (left_past top a b done now ss ts s t before p le))
    ]

-- where one list has ended, nothing else is shared
pub meeting_ended : (top : ℕ) (a b done left right : List Interval) → Meeting top a b done left right → (length left ≡ 0) ⊎ (length right ≡ 0) → IsMeet top a b done
meeting_ended top a b done left right m ended =
    let none : IsMeet top left right [] = elim ended [
      | inl e ↦ record { rise = tt; members = λ x. sym (none_in_left left right x (ap (λ (l : List Interval). has l x) (nil_from_length left e))) }
      | inr e ↦ record { rise = tt; members = λ x. sym (none_in_right left right x (ap (λ (l : List Interval). has l x) (nil_from_length right e))) }
    ] in
    subst (λ (l : List Interval). IsMeet top a b l) (append-nil done) (m.rest [] none)
