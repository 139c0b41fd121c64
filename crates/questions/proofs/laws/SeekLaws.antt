-- Packets of scopes that are parted, and ways that take their packets over.
use Rattle.std.proofs.Common.{◌≡◌, ◌⊎◌, inl, inr, ℕ, zero, suc, ◌+◌, ◌-◌, ◌<◌, ◌≤◌, Bool, true, false, not, cond, List, [], ◌∷◌, ◌++◌, length, get_or, map, refl, sym, ◌∙◌, ap, arith, subst, Option, Some, None, Contains, IsTrue, All}
use Rattle.std.specs.Prelude.{Any, IfSome, option_and_then, slice_get}
use Rattle.std.specs.List.{position}
use Rattle.std.proofs.lemmas.Bool.{cases_Bool, cases_lt, true≢false}
use Rattle.std.proofs.lemmas.List.Elements.{All-append, All-push, Contains-get_or, Contains-push_cases}
use Rattle.std.proofs.lemmas.List.Sums.{list_all-from_AllPass}
use Rattle.std.proofs.lemmas.Option.{get_or_from_slice_get, same_Some, slice_get-get_or}
use Rattle.fields.specs.numbers.Spans.{SpanSet}
use Rattle.fields.specs.Packet.{PacketView as Packet}
use Rattle.classify.specs.Classifier.{IsPoint}
use Rattle.rules.specs.Boxed.{IsBoxOf}
use Rattle.rules.specs.declared.rule.target.Target.{Target}
use Rattle.rules.specs.rule.Actions.{target_of}
use Rattle.rules.specs.rule.Allows.{matches}
use Rattle.rules.specs.rule.Rules.{Rule, empty_rule}
use Rattle.table.specs.chains.Sound.{IsSound}
use Rattle.fields.specs.declared.packet.hook.Hook.{Hook}
use Rattle.fields.specs.Hook.{name as hook_name}
use Rattle.table.specs.chains.Table.{Chain, Table, chain_at, chain_in, empty_chain, is_named, rules_of}
use Rattle.table.specs.steps.Kept.{hook_index}
use Rattle.table.proofs.laws.chains.PlaceLaws.{IsPlaced, placed_at}
use Rattle.table.specs.declared.walk.trail.Step.{Step}
use Rattle.table.specs.walk.Walk.{Rest, walk}
use Rattle.table.proofs.laws.chains.KeepLaws.{rules_by_name as named_rules}
use Rattle.questions.specs.Ends.{IsRule, rule_at}
use Rattle.questions.specs.Foreign.{Agrees, Assignment, all_hold, need_holds, needs_at, resolved, resolved_rule}
use Rattle.questions.specs.Leaves.{entry_of, name_at}
use Rattle.questions.specs.Scopes.{Whole, answered, table_of, whole_of}
use Rattle.questions.specs.asked.Always.{IsAlwaysDeadIn}
use Rattle.questions.specs.asked.Unclear.{HaveAll}
use Rattle.questions.specs.boxes.Boxes.{Has, IsAtHook, IsBoth, IsIn}
use Rattle.questions.specs.boxes.Cut.{IsCut, IsInSome, IsPartedFor}
use Rattle.questions.specs.declared.foreign.answers.Answer.{Answer}
use Rattle.questions.specs.declared.foreign.need.Need.{Need}
use Rattle.questions.specs.declared.foreign.subject.Subject.{Subject}
use Rattle.questions.specs.declared.walking.scope.Scope.{Scope}
use Rattle.questions.specs.steps.Answered.{IsMeeting, MeetsNever}
use Rattle.questions.specs.steps.Takers.{needs_of}
use Rattle.questions.specs.steps.Seeking.{AddsBoxes, AddsParts, AddsWays, AllMatch, AreAllWays, EndsAt, IsAheadOn, IsHere, IsLeftIn, IsPlaceOf, IsSameScope, IsTakenBy, KeepsIn, KeepsWanted, LeadsAwayAt, LiesIn, MayCome, NoneAheadTakesOut, TakesBy, TakesOver, TakesPlace, chains_of, top_of}
use Rattle.questions.specs.steps.Tried.{TakesOn}
use Rattle.questions.specs.steps.Straying.{Hits, IsLedAway, IsOpenWay, TakesOut, place_at, Decides}
use Rattle.questions.specs.boxes.Calls.{AreCalls, place_named}
use Rattle.questions.specs.declared.seeking.calls.Call.{Call}
use Rattle.questions.specs.declared.seeking.way.Way.{Way}
use Rattle.questions.proofs.laws.AnswerLaws.{agrees_with_one_more}
use Rattle.questions.proofs.laws.AreaLaws.{has_of_rule, some_left}
use Rattle.questions.proofs.laws.WayLaws.{listed, own_position}
use Rattle.questions.proofs.laws.TrailLaws.{none_some, rule_of_entry, rules_there, one_place}
use Rattle.questions.proofs.laws.ResolvedLaws.{never_matches, chain_left, length_same, resolved_is, resolved_matches, chain_named, resolved_not, rule_back}
use Rattle.questions.proofs.laws.ForeignLaws.{left_sound}
use Rattle.questions.proofs.laws.StrayLaws.{comes_by_way}
use Rattle.questions.proofs.laws.TakerLaws.{met_on}
use Rattle.questions.proofs.laws.WaitLaws.{any_kept, any_last, named_first}

-- the numbers of a packet that can be at its hook
pub point_of : (p : Packet) → IsAtHook p → IsPoint p.values
point_of p at f = at.packet.within f

-- ---- needs

fails_as : (inverted value : Bool) → cond inverted (not value) value ≡ false → value ≡ inverted
fails_as true true h = refl
fails_as true false h = absurd (true≢false h)
fails_as false true h = absurd (true≢false h)
fails_as false false h = refl

-- a copy has the packets of the scope
pub here_in_copy : (a : Assignment) (p : Packet) (scope copy : Scope) → IsAtHook p → IsSameScope scope copy → IsHere a p scope → IsHere a p copy
here_in_copy a p scope copy at same here =
    (same.0.all p.values (point_of p at) here.0 here.0, (let P : List Answer → Type 0 = λ answers. Agrees a answers in subst P (sym same.1) here.1))

abbrev AllKept : List Scope → List Scope → Type 0
AllKept old new = (a : Assignment) (p : Packet) → Any (IsHere a p) old → Any (IsHere a p) new

pub kept_by : (old more new : List Scope) → new ≡ old ++ more → AllKept old new
kept_by old more new e a p h = any_kept (IsHere a p) old more new e h

-- the part for which a need fails
pub parts_failing : (need : Need) (scope part : Scope) (area : List SpanSet) (old new : List Scope) → IsBoth scope.area scope.area area → part.area ≡ area
    → part.answers ≡ scope.answers ++ record { condition = need.condition; holds = need.inverted } ∷ [] → new ≡ old ++ part ∷ []
    → AddsParts scope (λ (a : Assignment) (p : Packet). IsTrue (need_holds a need)) old new
parts_failing need scope part area old new same is answers e = record {
  kept = kept_by old (part ∷ []) new e;
  parted = λ a p at here. elim (cases_Bool (need_holds a need)) [
    | inl t ↦ inr t
    | inr un ↦ inl (any_last (IsHere a p) old part new e (failing a p at here un))
  ];
}
  where
    failing : (a : Assignment) (p : Packet) → IsAtHook p → IsHere a p scope → need_holds a need ≡ false → IsHere a p part
    failing a p at here un =
        let value : a need.condition ≡ need.inverted = fails_as need.inverted (a need.condition) un in
        (rw (← is) at (same.all p.values (point_of p at) here.0 here.0), rw (← answers) at (agrees_with_one_more a scope.answers need.condition need.inverted here.1 value))

-- where a need is known to fail, the whole scope
pub parts_copied : (Other : Assignment → Packet → Type 0) (scope copy : Scope) (old new : List Scope) → IsSameScope scope copy → new ≡ old ++ copy ∷ [] → AddsParts scope Other old new
parts_copied Other scope copy old new same e = record {
  kept = kept_by old (copy ∷ []) new e;
  parted = λ a p at here. inl (any_last (IsHere a p) old copy new e (here_in_copy a p scope copy at same here));
}

-- and where it is known to hold, nothing
pub parts_none : (Other : Assignment → Packet → Type 0) (scope : Scope) (scopes : List Scope) → ((a : Assignment) (p : Packet) → IsAtHook p → IsHere a p scope → Other a p) → AddsParts scope Other scopes scopes
parts_none Other scope scopes h = record { kept = λ a p k. k; parted = λ a p at here. inr (h a p at here) }

-- one fact after another
pub parts_then : (scope : Scope) (P Q R : Assignment → Packet → Type 0) (old mid new : List Scope) → ((a : Assignment) (p : Packet) → P a p → Q a p → R a p) → AddsParts scope P old mid → AddsParts scope Q mid new → AddsParts scope R old new
parts_then scope P Q R old mid new both one two = record {
  kept = λ a p h. two.kept a p (one.kept a p h);
  parted = λ a p at here. elim (one.parted a p at here) [
    | inl there ↦ inl (two.kept a p there)
    | inr is ↦ elim (two.parted a p at here) [
      | inl there ↦ inl there
      | inr too ↦ inr (both a p is too)
    ]
  ];
}

pub parts_weaker : (scope : Scope) (P Q : Assignment → Packet → Type 0) (old new : List Scope) → ((a : Assignment) (p : Packet) → IsAtHook p → P a p → Q a p) → AddsParts scope P old new → AddsParts scope Q old new
parts_weaker scope P Q old new more parts = record {
  kept = parts.kept;
  parted = λ a p at here. elim (parts.parted a p at here) [ inl there ↦ inl there | inr is ↦ inr (more a p at is) ];
}

-- of the first so many needs each holds
abbrev pub HoldBelow : List Need → ℕ → Assignment → Packet → Type 0
HoldBelow needs count a p = (k : ℕ) (d : Need) → k < count → need_holds a (get_or needs k d) ≡ true

pub all_below : (needs : List Need) (count : ℕ) → length needs ≤ count → (a : Assignment) (p : Packet) → HoldBelow needs count a p → IsTrue (all_hold a needs)
all_below needs count all a p below = list_all-from_AllPass (need_holds a) needs (λ k d lt. below k d (omega (arith, lt, all)))

-- ---- boxes under the same answers

-- in a box that was taken off a list of boxes, or in what is left of them
pub boxes_next : (answers : List Answer) (boxes left : List (List SpanSet)) (scope : Scope) (own : List SpanSet) (old new : List Scope) → boxes ≡ left ++ own ∷ [] → scope.area ≡ own → scope.answers ≡ answers → new ≡ old ++ scope ∷ []
    → (a : Assignment) (p : Packet) → Agrees a answers → IsInSome boxes p.values ⊎ Any (IsHere a p) old → IsInSome left p.values ⊎ Any (IsHere a p) new
boxes_next answers boxes left scope own old new e is same more a p agrees (inr before) = inr (any_kept (IsHere a p) old (scope ∷ []) new more before)
boxes_next answers boxes left scope own old new e is same more a p agrees (inl there) =
    elim (some_left boxes left own p.values e there) [
      | inl still ↦ inl still
      | inr here ↦ inr (any_last (IsHere a p) old scope new more (rw (← is) at here, rw (← same) at agrees))
    ]

-- ---- a scope that a rule splits

-- the parts of a scope for which something fails that a rule needs, and then those that it doesn't match
abbrev NeedsMet : List Need → Assignment → Packet → Type 0
NeedsMet needs a p = IsTrue (all_hold a needs)

pub split_apart : (rule : Rule) (needs : List Need) (scope whole : Scope) (old mid new : List Scope) → AddsParts scope (NeedsMet needs) old mid → scope.area ≡ whole.area → scope.answers ≡ whole.answers → new ≡ mid ++ whole ∷ []
    → AddsParts scope (IsLeftIn rule needs None) old new
split_apart rule needs scope whole old mid new met area answers e = record {
  kept = λ a p h. any_kept (IsHere a p) mid (whole ∷ []) new e (met.kept a p h);
  parted = λ a p at here. inl (any_last (IsHere a p) mid whole new e (rw area at here.0, rw answers at here.1));
}

pub split_ports : (rule : Rule) (needs : List Need) (scope : Scope) (again others : List (List SpanSet)) (old mid some new : List Scope) → IsPartedFor rule scope.area again others → AddsParts scope (NeedsMet needs) old mid
    → AddsBoxes others scope.answers mid some → AddsBoxes again scope.answers some new → AddsParts scope (IsLeftIn rule needs None) old new
split_ports rule needs scope again others old mid some new parted met one two = record {
  kept = λ a p h. two.kept a p (one.kept a p (met.kept a p h));
  parted = λ a p at here. inl (elim (cases_Bool (matches p.values rule)) [
    | inl t ↦ two.each a p (parted.matched p.values (point_of p at) here.0 t) here.1
    | inr un ↦ elim (parted.others p.values (point_of p at) here.0 un) [
      | inl more ↦ two.each a p more here.1
      | inr off ↦ two.kept a p (one.each a p off here.1)
    ]
  ]);
}

-- the packets that the rule doesn't match are in some boxes
off_or_on : (rule : Rule) (scope : Scope) (inside : List SpanSet) (others : List (List SpanSet)) (mid new : List Scope) → IsCut rule scope.area inside others → AddsBoxes others scope.answers mid new
    → (a : Assignment) (p : Packet) → IsAtHook p → IsHere a p scope → Any (IsHere a p) new ⊎ ((matches p.values rule ≡ true) × IsIn inside p)
off_or_on rule scope inside others mid new cut boxes a p at here = elim (cases_Bool (matches p.values rule)) [
  | inl t ↦ inr (t, cut.matched p.values (point_of p at) here.0 t)
  | inr un ↦ inl (boxes.each a p (cut.others p.values (point_of p at) here.0 un) here.1)
]

pub split_parts : (rule : Rule) (needs : List Need) (scope left : Scope) (inside : List SpanSet) (others : List (List SpanSet)) (old mid new : List Scope) → IsCut rule scope.area inside others → AddsParts scope (NeedsMet needs) old mid → AddsBoxes others scope.answers mid new
    → left.area ≡ inside → IsMeeting needs scope.answers left.answers → AddsParts scope (IsLeftIn rule needs (Some left)) old new
split_parts rule needs scope left inside others old mid new cut met boxes is more = record {
  kept = λ a p h. boxes.kept a p (met.kept a p h);
  parted = λ a p at here. elim (met.parted a p at here) [
    | inl there ↦ inl (boxes.kept a p there)
    | inr held ↦ elim (off_or_on rule scope inside others mid new cut boxes a p at here) [
      | inl off ↦ inl off
      | inr on ↦ (let Q : List SpanSet → Type 0 = λ box. IsIn box p in inr (on.0, held, (subst Q (sym is) on.1, more.all a here.1 held)))
    ]
  ];
}

pub split_unmet : (rule : Rule) (needs : List Need) (scope : Scope) (others : List (List SpanSet)) (old mid new : List Scope) → AddsParts scope (NeedsMet needs) old mid → AddsBoxes others scope.answers mid new → MeetsNever needs scope.answers
    → AddsParts scope (IsLeftIn rule needs None) old new
split_unmet rule needs scope others old mid new met boxes none = record {
  kept = λ a p h. boxes.kept a p (met.kept a p h);
  parted = λ a p at here. elim (met.parted a p at here) [
    | inl there ↦ inl (boxes.kept a p there)
    | inr held ↦ absurd (true≢false (sym held ∙ none a here.1))
  ];
}

-- ---- the packets of a scope that a rule matches

-- those are in some boxes, which are put under the same answers
pub parts_matching : (rule : Rule) (scope : Scope) (boxes : List (List SpanSet)) (old new : List Scope) → ((numbers : List ℕ) → IsPoint numbers → matches numbers rule ≡ true → Has scope.area numbers → IsInSome boxes numbers)
    → AddsBoxes boxes scope.answers old new → AddsParts scope (λ a p. matches p.values rule ≡ true → ⊥) old new
parts_matching rule scope boxes old new inside adds = record {
  kept = adds.kept;
  parted = λ a p at here. elim (cases_Bool (matches p.values rule)) [
    | inl m ↦ inl (adds.each a p (inside p.values (point_of p at) m here.0) here.1)
    | inr un ↦ inr (λ m. true≢false (sym m ∙ un))
  ];
}

pub met_with_some : (rule : Rule) (box : List SpanSet) (needs : List Need) (scope : Scope) (area : List SpanSet) (answers : List Answer) → IsBoxOf rule box → IsBoth scope.area box area → IsMeeting needs scope.answers answers
    → (a : Assignment) (p : Packet) → IsAtHook p → IsHere a p scope → matches p.values rule ≡ true → IsTrue (all_hold a needs) → IsIn area p × Agrees a answers
met_with_some rule box needs scope area answers boxed both more a p at here m held =
    (both.all p.values (point_of p at) here.0 (has_of_rule rule box p.values boxed (point_of p at) m), more.all a here.1 held)

-- ---- ways

pub top_is_last : (wanted : Step) (places : List Step) (place : Step) → slice_get places (length places - 1) ≡ Some place → top_of wanted places ≡ place
top_is_last wanted [] place e = absurd (none_some e)
top_is_last wanted (x ∷ []) place e = same_Some x place e
top_is_last wanted (x ∷ y ∷ ys) place e =
    let k : length (x ∷ y ∷ ys) - 1 ≡ suc (length (y ∷ ys) - 1) = omega arith in
    top_is_last x (y ∷ ys) place (rw k at e)

-- ---- a way by one more place

abbrev steps_at : List Chain → List Step → List Rest
steps_at chains places = map (place_at chains) places

map_more : (chains : List Chain) (places : List Step) (by : Step) (above : List Rest) → map (place_at chains) (places ++ by ∷ []) ++ above ≡ map (place_at chains) places ++ place_at chains by ∷ above
map_more chains [] by above = refl
map_more chains (x ∷ places) by above = ap (λ (rests : List Rest). place_at chains x ∷ rests) (map_more chains places by above)

-- what an open way shows of the place after some others
way_at : (chains : List Chain) (values first chain : List ℕ) (before : List Rest) (place : Rest) (above : List Rest) → IsOpenWay chains values first chain (before ++ place ∷ above) → (o : Option Target) × Hits chains values place o
way_at chains values first chain [] place above way = (way.0, way.1)
way_at chains values first chain (x ∷ before) place above way = way_at chains values first x.chain before place above way.4

-- a rule that matches in the table that is left matches in the table, and all holds that it needs
pub matched_there : (s : Subject) (a : Assignment) (values : List ℕ) (by : Step) (o : Option Target) → IsSound (table_of s) → IsRule (table_of s) by → Hits (chains_of s a) values (place_at (chains_of s a) by) o
    → (matches values (rule_at (table_of s) by) ≡ true) × IsTrue (all_hold a (needs_of s.needs.now by)) × (target_of (rule_at (table_of s) by) ≡ o)
matched_there s a values by o sound is h =
    let t = table_of s in
    let needs = s.needs.now in
    let own : List Need = needs_at needs by.chain (by.number - 1) in
    let left = chain_left needs a t by.chain is.chain in
    let rule : Rule = rule_at t by in
    let within : by.number - 1 < length (chain_at t by.chain).rules = omega (arith, is.first, is.last) in
    let there : by.chain < length (resolved needs a t).chains = omega (arith, is.chain, length_same needs a t.chains) in
    let by_name : rules_of (chains_of s a) (name_at (chains_of s a) by.chain) ≡ (chain_at (resolved needs a t) by.chain).rules =
    named_rules (resolved needs a t) (chain_at (resolved needs a t) by.chain) (left_sound needs a t sound) (Contains-get_or (chains_of s a) by.chain (empty_chain []) there) in
    let here : slice_get (chain_at (resolved needs a t) by.chain).rules (by.number - 1) ≡ Some h.0 = ap (λ (rules : List Rule). slice_get rules (by.number - 1)) (sym by_name) ∙ h.1 in
    let is_rule : h.0 ≡ resolved_rule a own rule = sym (get_or_from_slice_get (chain_at (resolved needs a t) by.chain).rules (by.number - 1) h.0 empty_rule here) ∙ left.rules (by.number - 1) empty_rule within in
    let m : matches values (resolved_rule a own rule) ≡ true = rw is_rule at h.2 in
    let same : resolved_rule a own rule ≡ rule = resolved_matches a own rule values m in
    (rw same at m, held own rule m, ap target_of (sym (is_rule ∙ same)) ∙ h.3)
  where
    held : (own : List Need) (rule : Rule) → matches values (resolved_rule a own rule) ≡ true → IsTrue (all_hold a own)
    held own rule m = elim (cases_Bool (all_hold a own)) [
      | inl t ↦ t
      | inr un ↦ (let P : Rule → Type 0 = λ r. matches values r ≡ true in absurd (true≢false (sym (subst P (resolved_not a own rule un) m) ∙ never_matches values)))
    ]

-- and back
pub matched_left : (s : Subject) (a : Assignment) (values : List ℕ) (by : Step) → IsSound (table_of s) → IsRule (table_of s) by → matches values (rule_at (table_of s) by) ≡ true → IsTrue (all_hold a (needs_of s.needs.now by))
    → Hits (chains_of s a) values (place_at (chains_of s a) by) (target_of (rule_at (table_of s) by))
matched_left s a values by sound is m held =
    let t = table_of s in
    let needs = s.needs.now in
    let own : List Need = needs_at needs by.chain (by.number - 1) in
    let left = chain_left needs a t by.chain is.chain in
    let rule : Rule = rule_at t by in
    let rules : List Rule = (chain_at (resolved needs a t) by.chain).rules in
    let within : by.number - 1 < length (chain_at t by.chain).rules = omega (arith, is.first, is.last) in
    let there : by.chain < length (resolved needs a t).chains = omega (arith, is.chain, length_same needs a t.chains) in
    let by_name : rules_of (chains_of s a) (name_at (chains_of s a) by.chain) ≡ rules =
    named_rules (resolved needs a t) (chain_at (resolved needs a t) by.chain) (left_sound needs a t sound) (Contains-get_or (chains_of s a) by.chain (empty_chain []) there) in
    let here : slice_get rules (by.number - 1) ≡ Some rule =
    slice_get-get_or rules (by.number - 1) empty_rule (omega (arith, within, left.count)) ∙ ap Some (left.rules (by.number - 1) empty_rule within ∙ resolved_is a own rule held) in
    (rule, ap (λ (rs : List Rule). slice_get rs (by.number - 1)) by_name ∙ here, m, refl)

pub none_leaves_next : (s : Subject) (by ahead : Step) (count : ℕ) (a : Assignment) (p : Packet) → ahead.chain ≡ by.chain → ahead.number ≡ count + 1 → NoneAheadTakesOut s by count a p → KeepsIn s ahead a p → NoneAheadTakesOut s by (count + 1) a p
none_leaves_next s by ahead count a p chain number before here k o low high h l =
    elim (cases_lt k count) [
      | inl lt ↦ before k o low lt h l
      | inr le ↦ (
          let cs = chains_of s a in
          let e : k ≡ ahead.number - 1 = omega (arith, le, high, number) in
          let P : ℕ → ℕ → Type 0 = λ c n. Hits cs p.values (record { chain = name_at cs c; passed = n }) o in
          here o (rw (← chain) at (rw e at h)) l)
    ]

-- of the last so many calls those are taken over that name a chain
abbrev pub AreTakenFrom : Subject → Way → ℕ → List Call → ℕ → List Way → Type 0
AreTakenFrom s way chain calls before ways =
    (k : ℕ) (d : Call) → k < length calls → length calls ≤ k + before → (get_or calls k d).to ≡ chain → IsTakenBy s way (get_or calls k d).by ways

-- one way more that leads to the same rule
pub one_wanted : (way more : Way) (old new : List Way) → more.wanted ≡ way.wanted → new ≡ old ++ more ∷ [] → KeepsWanted way old new
one_wanted way more old new same e step is all =
    let P : Way → Type 0 = λ w. w.wanted ≡ step in
    rw (← e) at (All-push P old more all (same ∙ is))

module _ (s : Subject) (sound : IsSound (table_of s)) where
  -- a way without its places begins at its top
  pub top_way : (chains : List Chain) (values first : List ℕ) (wanted : Step) (places : List Step) (above : List Rest)
      → IsOpenWay chains values first (name_at chains wanted.chain) (steps_at chains places ++ above) → IsOpenWay chains values first (name_at chains (top_of wanted places).chain) above
  top_way chains values first wanted [] above way = way
  top_way chains values first wanted (place ∷ places) above way = top_way chains values first place places above way.4

  abbrev Matched : Assignment → List ℕ → Step → Type 0
  Matched a values by = (matches values (rule_at (table_of s) by) ≡ true) × IsTrue (all_hold a (needs_of s.needs.now by))

  -- one place more
  pub taken_by : (way more : Way) (by : Step) (old new : List Way) → more.wanted ≡ way.wanted → more.places.items ≡ way.places.items ++ by ∷ [] → new ≡ old ++ more ∷ []
      → ((a : Assignment) (p : Packet) → IsAtHook p → IsHere a p way.scope → Matched a p.values by → IsHere a p more.scope) → TakesBy s way by old new
  taken_by way more by old new wanted places e here = record {
    kept = λ a p h. any_kept (MayCome s a p) old (more ∷ []) new e h;
    taken = λ a p above at is own free leads.
        (let cs = chains_of s a in
        let hit = way_at cs p.values (hook_name p.hook) (name_at cs way.wanted.chain) (steps_at cs way.places.items) (place_at cs by) above leads in
        let m = matched_there s a p.values by hit.0 sound is hit.1 in
        let same : steps_at cs more.places.items ++ above ≡ steps_at cs way.places.items ++ place_at cs by ∷ above =
        ap (λ (ps : List Step). steps_at cs ps ++ above) places ∙ map_more cs way.places.items by above in
        any_last (MayCome s a p) old more new e
        (record { here = here a p at own (m.0, m.1); free = rw (← wanted) at free; above = above; leads = rw (← wanted) at (rw (← same) at leads) }));
    wanted = one_wanted way more old new wanted e;
  }

  -- a rule that isn't there, or matches none of the scope's packets, leads nowhere
  pub taken_never : (way : Way) (by : Step) (ways : List Way)
      → ((a : Assignment) (p : Packet) → IsAtHook p → IsRule (table_of s) by → IsHere a p way.scope → Matched a p.values by → ⊥) → TakesBy s way by ways ways
  taken_never way by ways none = record {
    kept = λ a p h. h;
    taken = λ a p above at is own free leads.
        (let cs = chains_of s a in
        let hit = way_at cs p.values (hook_name p.hook) (name_at cs way.wanted.chain) (steps_at cs way.places.items) (place_at cs by) above leads in
        let m = matched_there s a p.values by hit.0 sound is hit.1 in
        absurd (none a p at is own (m.0, m.1)));
    wanted = λ step is all. all;
  }

  -- ---- which rule enters the chain in which a way begins

  abbrev own_table : Table
  own_table = table_of s

  -- the rule at a place that matches
  pub rule_at_place : (a : Assignment) (p : Packet) (place : Rest) (o : Option Target) → Hits (chains_of s a) p.values place o
      → (by : Step) × IsRule own_table by × (place_at (chains_of s a) by ≡ place)
  rule_at_place a p place o h =
      let cs = chains_of s a in
      let there = rules_there cs place.chain place.passed h.0 h.1 in
      let by : Step = record { chain = there.0; number = place.passed + 1 } in
      let passed : place.passed + 1 - 1 ≡ place.passed = omega arith in
      let is : slice_get (rules_of cs (name_at cs there.0)) (place.passed + 1 - 1) ≡ Some h.0 =
      ap (λ n. slice_get (rules_of cs n) (place.passed + 1 - 1)) there.2 ∙ ap (slice_get (rules_of cs place.chain)) passed ∙ h.1 in
      let rule = rule_of_entry (resolved s.needs.now a own_table) p by (left_sound s.needs.now a own_table sound) (h.0, is, h.2, omega arith) in
      let make : List ℕ → ℕ → Rest = λ n k. record { chain = n; passed = k } in
      (by, rule_back s.needs.now a own_table by rule, ap (λ n. make n (place.passed + 1 - 1)) there.2 ∙ ap (make place.chain) passed)

  -- it names the chain at a place which it enters
  pub names_entered : (a : Assignment) (values : List ℕ) (by : Step) (o : Option Target) (to : ℕ) → to < length own_table.chains → IsRule own_table by → Hits (chains_of s a) values (place_at (chains_of s a) by) o
      → chain_in o ≡ Some (name_at (chains_of s a) to) → place_named own_table.chains (target_of (rule_at own_table by)) ≡ Some to
  names_entered a values by o to lt is h names =
      let m = matched_there s a values by o sound is h in
      let name : List ℕ = name_at own_table.chains to in
      let same : name_at (chains_of s a) to ≡ name = chain_named s.needs.now a own_table.chains to (empty_chain []) in
      let P : Option (List ℕ) → Option ℕ = λ x. option_and_then (λ n. position (is_named n) own_table.chains) x in
      ap (place_named own_table.chains) m.2 ∙ ap P (names ∙ ap Some same) ∙ own_position own_table to name sound lt refl

  -- it is listed, if it enters the chain at a place
  pub called : (calls : List Call) (a : Assignment) (values : List ℕ) (by : Step) (o : Option Target) (to : ℕ) → AreCalls own_table calls → to < length own_table.chains → IsRule own_table by
      → Hits (chains_of s a) values (place_at (chains_of s a) by) o → chain_in o ≡ Some (name_at (chains_of s a) to) → Contains calls (record { to = to; by = by })
  called calls a values by o to all lt is h names = listed own_table calls by to all is (names_entered a values by o to lt is h names)

  -- ---- what the rules of a way match

  hits_at : (chains : List Chain) (values first chain : List ℕ) (places : List Step) (above : List Rest) (k : ℕ) (place : Step) → k < length places → get_or places k place ≡ place
      → IsOpenWay chains values first chain (steps_at chains places ++ above) → ((o : Option Target) × Hits chains values (place_at chains place) o) × (IsLedAway chains values (place_at chains place) → ⊥)
  hits_at chains values first chain [] above k place lt is way = absurd (omega (arith, lt))
  hits_at chains values first chain (x ∷ places) above zero place lt is way =
      let P : Step → Type 0 = λ w. ((o : Option Target) × Hits chains values (place_at chains w) o) × (IsLedAway chains values (place_at chains w) → ⊥) in subst P is ((way.0, way.1), way.3)
  hits_at chains values first chain (x ∷ places) above (suc k) place lt is way = hits_at chains values first (name_at chains x.chain) places above k place (omega (arith, lt)) is way.4

  -- they match each packet that comes by it
  pub all_match : (a : Assignment) (p : Packet) (way : Way) → matches p.values (rule_at own_table way.wanted) ≡ true → MayCome s a p way → AllMatch own_table p way
  all_match a p way own may place (inl same) is = let P : Step → Type 0 = λ w. matches p.values (rule_at own_table w) ≡ true in subst P (sym same) own
  all_match a p way own may place (inr c) is =
      let hit = (hits_at (chains_of s a) p.values (hook_name p.hook) (name_at (chains_of s a) way.wanted.chain) way.places.items may.above c.0 place c.1 c.2 may.leads).0 in
      (matched_there s a p.values place hit.0 sound is hit.1).0

  -- ---- what leads away on a way

  pub never_led : (a : Assignment) (p : Packet) (way : Way) (place : Step) → MayCome s a p way → IsPlaceOf way place → IsLedAway (chains_of s a) p.values (place_at (chains_of s a) place) → ⊥
  never_led a p way place may (inl own) led = let P : Step → Type 0 = λ w. IsLedAway (chains_of s a) p.values (place_at (chains_of s a) w) in may.free (subst P own led)
  never_led a p way place may (inr c) led =
      (hits_at (chains_of s a) p.values (hook_name p.hook) (name_at (chains_of s a) way.wanted.chain) way.places.items may.above c.0 place c.1 c.2 may.leads).1 led

  -- a rule ahead on a way leads no packet away that comes by it
  pub not_away : (a : Assignment) (p : Packet) (way : Way) (by place : Step) → 0 < by.number → IsAheadOn way by place → MayCome s a p way → LeadsAwayAt s by a p → ⊥
  not_away a p way by place first ahead may away =
      let cs = chains_of s a in
      never_led a p way place may ahead.own (by.number - 1, omega (arith, first, ahead.ahead), rw ahead.chain at away)

  -- ---- rules that take packets out of a chain

  pub keeps_unseen : (by : Step) (a : Assignment) (p : Packet) → 0 < by.number → (IsRule own_table by → ⊥) → KeepsIn s by a p
  keeps_unseen by a p first none o h l =
      let cs = chains_of s a in
      let at = rule_of_entry (resolved s.needs.now a own_table) p by (left_sound s.needs.now a own_table sound) (h.0, h.1, h.2, first) in
      none (rule_back s.needs.now a own_table by at)

  pub keeps_staying : (by : Step) (a : Assignment) (p : Packet) → IsRule own_table by → (TakesOut (target_of (rule_at own_table by)) → ⊥) → KeepsIn s by a p
  keeps_staying by a p is stays o h l = let m = matched_there s a p.values by o sound is h in stays (subst TakesOut (sym m.2) l)

  pub keeps_unmatched : (by : Step) (a : Assignment) (p : Packet) → IsRule own_table by → (Matched a p.values by → ⊥) → KeepsIn s by a p
  keeps_unmatched by a p is un o h l = let m = matched_there s a p.values by o sound is h in un (m.0, m.1)

  -- the packets that a rule takes out are in parts of one scope
  pub parts_taken : (by : Step) (scope taken : Scope) (old new : List Scope) → IsRule own_table by → ((a : Assignment) (p : Packet) → IsAtHook p → IsHere a p scope → Matched a p.values by → IsHere a p taken)
      → AddsParts taken (λ a p. matches p.values (rule_at own_table by) ≡ true → ⊥) old new → AddsParts scope (KeepsIn s by) old new
  parts_taken by scope taken old new is all parts = record {
    kept = parts.kept;
    parted = λ a p at here. elim (cases_Bool (matches p.values (rule_at own_table by))) [
      | inr un ↦ inr (keeps_unmatched by a p is (λ m. true≢false (sym m.0 ∙ un)))
      | inl t ↦ elim (cases_Bool (all_hold a (needs_of s.needs.now by))) [
        | inr fails ↦ inr (keeps_unmatched by a p is (λ m. true≢false (sym m.1 ∙ fails)))
        | inl held ↦ elim (parts.parted a p at (all a p at here (t, held))) [
          | inl there ↦ inl there
          | inr un ↦ absurd (un t)
        ]
      ]
    ];
  }

  -- ---- paths

  pub ends_here : (by : Step) (left : Option Scope) (a : Assignment) (p : Packet) → IsRule own_table by → Decides (target_of (rule_at own_table by)) → IsLeftIn (rule_at own_table by) (needs_of s.needs.now by) left a p → EndsAt s by a p
  ends_here by left a p is decides m = ([], (target_of (rule_at own_table by), matched_left s a p.values by sound is m.0 m.1, decides))

  pub leads_away_here : (by : Step) (left : Option Scope) (a : Assignment) (p : Packet) → IsRule own_table by → TakesOut (target_of (rule_at own_table by)) → IsLeftIn (rule_at own_table by) (needs_of s.needs.now by) left a p → LeadsAwayAt s by a p
  leads_away_here by left a p is leaves m = inr (target_of (rule_at own_table by), matched_left s a p.values by sound is m.0 m.1, leaves)

  -- the chain that a rule names, by its place
  names_place : (to : Option Target) (k : ℕ) (a : Assignment) → place_named own_table.chains to ≡ Some k → chain_in to ≡ Some (name_at (chains_of s a) k)
  names_place to k a e = by_case (chain_in to) refl
    where
      by_case : (o : Option (List ℕ)) → chain_in to ≡ o → chain_in to ≡ Some (name_at (chains_of s a) k)
      by_case None none = absurd (none_some (sym (ap (option_and_then (λ n. position (is_named n) own_table.chains)) none) ∙ e))
      by_case (Some name) is =
          let at : position (is_named name) own_table.chains ≡ Some k = sym (ap (option_and_then (λ n. position (is_named n) own_table.chains)) is) ∙ e in
          let placed : IsPlaced own_table name k = placed_at own_table name k at in
          is ∙ ap Some (sym (placed.named (empty_chain [])) ∙ sym (chain_named s.needs.now a own_table.chains k (empty_chain [])))

  -- one rule more at the beginning of a path
  pub path_more : (by next : Step) (scope left : Scope) (old mid taken new : List Scope) → IsRule own_table by → place_named own_table.chains (target_of (rule_at own_table by)) ≡ Some next.chain
      → AddsParts scope (IsLeftIn (rule_at own_table by) (needs_of s.needs.now by) (Some left)) old mid → AddsParts left (NoneAheadTakesOut s next (next.number - 1)) mid taken → AddsParts left (EndsAt s next) taken new
      → AddsParts scope (EndsAt s by) old new
  path_more by next scope left old mid taken new is names one two three = record {
    kept = λ a p h. three.kept a p (two.kept a p (one.kept a p h));
    parted = λ a p at here. elim (one.parted a p at here) [
      | inl there ↦ inl (three.kept a p (two.kept a p there))
      | inr m ↦ elim (two.parted a p at m.2) [
        | inl there ↦ inl (three.kept a p there)
        | inr none ↦ elim (three.parted a p at m.2) [
          | inl there ↦ inl there
          | inr ends ↦ inr (
            place_at (chains_of s a) next ∷ ends.0,
            (target_of (rule_at own_table by), matched_left s a p.values by sound is m.0 m.1, names_place (target_of (rule_at own_table by)) next.chain a names, none, ends.1),
          )
        ]
      ]
    ];
  }

  -- ---- all rules that enter the chain in which a way begins

  pub taken_next : (way : Way) (chain : ℕ) (calls : List Call) (before : ℕ) (old new : List Way) → before < length calls → ((a : Assignment) (p : Packet) → Any (MayCome s a p) old → Any (MayCome s a p) new)
      → ((d : Call) → (get_or calls (length calls - 1 - before) d).to ≡ chain → IsTakenBy s way (get_or calls (length calls - 1 - before) d).by new)
      → AreTakenFrom s way chain calls before old → AreTakenFrom s way chain calls (before + 1) new
  taken_next way chain calls before old new within kept here after k d lt le to =
      elim (cases_lt (length calls - 1 - before) k) [
        | inl past ↦ λ a p above at is here free leads. kept a p ((after k d lt (omega (arith, past, within)) to) a p above at is here free leads)
        | inr not ↦ (
            let e : k ≡ length calls - 1 - before = omega (arith, not, le, within) in
            (rw (← e) at (here d)) to)
      ]

  -- a call that is listed is by the rule
  -- a packet that comes by a way comes by one that is longer by a rule which is listed
  pub taken_over : (hook : Hook) (way : Way) (calls : List Call) (old new : List Way) → AreCalls own_table calls → (top_of way.wanted way.places.items).chain < length own_table.chains
      → ((top_of way.wanted way.places.items).chain ≡ hook_index hook → ⊥) → ((a : Assignment) (p : Packet) → Any (MayCome s a p) old → Any (MayCome s a p) new)
      → AreTakenFrom s way (top_of way.wanted way.places.items).chain calls (length calls) new → KeepsWanted way old new → TakesOver s hook way old new
  taken_over hook way calls old new all lt other kept taken wanted = record {
    kept = kept;
    wanted = wanted;
    taken = λ a p at there may. by_above a p at there may may.above may.leads;
  }
    where
      top : ℕ
      top = (top_of way.wanted way.places.items).chain

      by_above : (a : Assignment) (p : Packet) → IsAtHook p → p.hook ≡ hook → MayCome s a p way → (above : List Rest)
          → IsOpenWay (chains_of s a) p.values (hook_name p.hook) (name_at (chains_of s a) way.wanted.chain) (steps_at (chains_of s a) way.places.items ++ above) → Any (MayCome s a p) new
      by_above a p at there may [] leads =
          let cs = chains_of s a in
          let begins : name_at cs top ≡ hook_name p.hook = top_way cs p.values (hook_name p.hook) way.wanted way.places.items [] leads in
          let first = named_first own_table.chains hook sound.listed.built_in in
          let same : name_at own_table.chains top ≡ name_at own_table.chains (hook_index hook) =
          sym (chain_named s.needs.now a own_table.chains top (empty_chain [])) ∙ begins ∙ ap hook_name there ∙ sym first.0 in
          absurd (other (one_place own_table top (hook_index hook) sound first.1 same))
      by_above a p at there may (place ∷ above) leads =
          let cs = chains_of s a in
          let way_up = top_way cs p.values (hook_name p.hook) way.wanted way.places.items (place ∷ above) leads in
          let found = rule_at_place a p place way_up.0 way_up.1 in
          let by : Step = found.0 in
          let P : Rest → Type 0 = λ r. Hits cs p.values r way_up.0 in
          let Q : Rest → Type 0 = λ r. IsOpenWay cs p.values (hook_name p.hook) (name_at cs way.wanted.chain) (steps_at cs way.places.items ++ r ∷ above) in
          let hit : Hits cs p.values (place_at cs by) way_up.0 = subst P (sym found.2) way_up.1 in
          let call : Call = record { to = top; by = by } in
          let on = called calls a p.values by way_up.0 top all lt found.1 hit way_up.2 in
          let T : Call → Type 0 = λ c. IsTakenBy s way c.by new in
          let own : IsTakenBy s way by new = subst T on.2 (taken on.0 call on.1 (omega arith) (ap (λ (x : Call). x.to) on.2)) in
          own a p above at found.1 may.here may.free (subst Q (sym found.2) leads)

-- ---- a way for each of some scopes

any_left : {X : Type 0} (P : X → Type 0) (xs ys : List X) (x : X) → xs ≡ ys ++ x ∷ [] → Any P xs → Any P ys ⊎ P x
any_left {X} P xs ys x e any =
    elim (Contains-push_cases ys x any.1 (rw (← e) (any.0, any.2, any.3))) [
      | inl c ↦ inl (c.0, any.1, c.1, c.2, any.4)
      | inr same ↦ inr (subst P (sym same) any.4)
    ]

pub scopes_next : (s : Subject) (a : Assignment) (p : Packet) (way more : Way) (scopes left : List Scope) (scope : Scope) (old new : List Way) → scopes ≡ left ++ scope ∷ [] → more.wanted ≡ way.wanted → more.scope ≡ scope → more.places.items ≡ way.places.items
    → new ≡ old ++ more ∷ [] → MayCome s a p way → Any (IsHere a p) scopes ⊎ Any (MayCome s a p) old → Any (IsHere a p) left ⊎ Any (MayCome s a p) new
scopes_next s a p way more scopes left scope old new e wanted is places added may (inr before) = inr (any_kept (MayCome s a p) old (more ∷ []) new added before)
scopes_next s a p way more scopes left scope old new e wanted is places added may (inl there) =
    let cs = chains_of s a in
    elim (any_left (IsHere a p) scopes left scope e there) [
      | inl still ↦ inl still
      | inr here ↦ inr (any_last (MayCome s a p) old more new added
          (record { here = rw (← is) at here; free = rw (← wanted) at may.free; above = may.above; leads = rw (← wanted) at (rw (← places) at may.leads) }))
    ]

-- a rule with more packets left
pub all_parted : (s : Subject) (rule : Rule) (needs : List Need) (scope : Scope) (Other : Assignment → Packet → Type 0) (old new : List Scope) → AddsParts scope (IsLeftIn rule needs None) old new → AddsParts scope Other old new
all_parted s rule needs scope Other old new parts = parts_weaker scope (IsLeftIn rule needs None) Other old new (λ a p at m. absurd m.2) parts

-- the first of some steps
pub with_first : (P : Step → Type 0) (path after : List Step) (by : Step) → path ≡ by ∷ after → P by → IfSome (slice_get path 0) P
with_first P path after by e h = let Q : List Step → Type 0 = λ steps. IfSome (slice_get steps 0) P in subst Q (sym e) h

pub at_first : (P : Step → Type 0) (path : List Step) (by : Step) → slice_get path 0 ≡ Some by → P by → IfSome (slice_get path 0) P
at_first P path by e h = let Q : Option Step → Type 0 = λ o. IfSome o P in subst Q (sym e) h

-- where no way is left, no packet comes
pub none_comes : (s : Subject) (start : Scope) (step : Step) (hook : Hook) (ways : List Way) → length ways ≡ 0 → AreAllWays s start step hook ways → IsAlwaysDeadIn s step hook start
none_comes s start step hook ways none all a p at there here on = let any = all a p at there here on in omega (arith, any.2, none)

-- a packet that may come by a way is one of that way's
pub have_all : (s : Subject) (start : Scope) (step : Step) (hook : Hook) (ways : List Way) → AreAllWays s start step hook ways → HaveAll (whole_of s) start step hook ways
have_all s start step hook ways all a p at there here on = let (k, way, lt, is, may) = all a p at there here on in (k, way, lt, is, may.here)

-- what holds of each packet of a scope that the rule matches, where all holds that it needs
abbrev pub OfEachMatched : Subject → Scope → Step → (Assignment → Packet → Type 0) → Type 0
OfEachMatched s start step Holds =
    (a : Assignment) (p : Packet) → IsAtHook p → IsHere a p start → matches p.values (rule_at (table_of s) step) ≡ true → IsTrue (all_hold a (needs_of s.needs.now step)) → Holds a p

-- the first way has each packet that comes
pub first_way : (s : Subject) (start : Scope) (step : Step) (hook : Hook) (first : Way) (ways : List Way) → IsSound (table_of s) → IsRule (table_of s) step → first.wanted ≡ step → OfEachMatched s start step (λ a p. IsHere a p first.scope)
    → first.places.items ≡ [] → ways ≡ first ∷ [] → AreAllWays s start step hook ways
first_way s start step hook first ways sound is wanted let_on places e a p at there here on =
    let cs = chains_of s a in
    let way = comes_by_way (answered s a) p (entry_of cs step) on in
    let met = met_on s a p step hook sound is at there on in
    let Q : Step → Type 0 = λ w. IsLedAway cs p.values (place_at cs w) → ⊥ in
    let R : Step → Type 0 = λ w. IsOpenWay cs p.values (hook_name p.hook) (name_at cs w.chain) (map (place_at cs) first.places.items ++ way.0.0) in
    let S : List Step → Type 0 = λ ps. IsOpenWay cs p.values (hook_name p.hook) (name_at cs step.chain) (map (place_at cs) ps ++ way.0.0) in
    any_last (MayCome s a p) [] first ways e
    (record { here = let_on a p at here met.matched.matched met.held; free = subst Q (sym wanted) way.1; above = way.0.0; leads = subst R (sym wanted) (subst S (sym places) way.0.1) })

-- and where there is none, no packet comes
pub none_matched : (s : Subject) (start : Scope) (step : Step) (hook : Hook) → IsSound (table_of s) → IsRule (table_of s) step → OfEachMatched s start step (λ a p. ⊥) → IsAlwaysDeadIn s step hook start
none_matched s start step hook sound is none a p at there here on = let met = met_on s a p step hook sound is at there on in none a p at here met.matched.matched met.held

-- what takes the place of a way lies in the scope in which that lies
pub lies_in_place : (t : Whole) (start : Scope) (way next : Way) → LiesIn start way.scope → TakesPlace t way next → LiesIn start next.scope
lies_in_place t start way next inside (inl longer) numbers is has = inside numbers is (longer.scope.area.first numbers is has)
lies_in_place t start way next inside (inr part) numbers is has = inside numbers is (part.less.inside numbers is has)

pub lie_next : (t : Whole) (start : Scope) (way : Way) (left new : List Way) → LiesIn start way.scope → All (λ (w : Way). LiesIn start w.scope) left → AddsWays (TakesPlace t way) left new → All (λ (w : Way). LiesIn start w.scope) new
lie_next t start way left new inside all (more, e, each) =
    let Lies : Way → Type 0 = λ w. LiesIn start w.scope in
    rw (← e) at (All-append Lies left more all (λ k d lt. lies_in_place t start way (get_or more k d) inside (each k d lt)))

pub next_ways : (s : Subject) (start : Scope) (step : Step) (hook : Hook) (way : Way) (ways left new : List Way) → ways ≡ left ++ way ∷ [] → way.wanted ≡ step → TakesOn s hook way left new → AreAllWays s start step hook ways
    → AreAllWays s start step hook new
next_ways s start step hook way ways left new e wanted tried all a p at there here on =
    let On : Step → Type 0 = λ w. Contains (walk (answered s a) p).trail (entry_of (answered s a).chains w) in
    elim (any_left (MayCome s a p) ways left way e (all a p at there here on)) [
      | inl before ↦ tried.kept a p before
      | inr may ↦ tried.taken a p at there (subst On (sym wanted) on) may
    ]
