-- Tasks and leaves that part a scope: what a step adds to the tasks that are left, and how each of them got on.
use Rattle.std.proofs.Common.{◌≡◌, inl, inr, ℕ, suc, ◌+◌, ◌≤◌, Bool, true, false, List, [], ◌∷◌, ◌++◌, length, get_or, map, reverse, refl, sym, ◌∙◌, ap, arith, subst, Some, All, AllPairs, ◌≢◌, Option, None, Contains, true≢false, append-nil, append_assoc, length-append}
use Rattle.std.proofs.lemmas.List.{length-map, length-reverse, map-append, reverse-append, get_or_push, length_push}
use Rattle.std.proofs.lemmas.List.Elements.{All-append, All-cons, All-map, All-nil, All-pop, Contains-get_or, All-contains}
use Rattle.std.proofs.lemmas.List.Kept.{AllPairs-cons}
use Rattle.std.specs.List.{position}
use Rattle.fields.specs.numbers.Field.{all_fields}
use Rattle.fields.specs.numbers.Spans.{SpanSet}
use Rattle.rules.specs.rule.Rules.{Rule}
use Rattle.classify.specs.Classifier.{IsPoint}
use Rattle.rules.specs.declared.rule.target.Target.{Target}
use Rattle.table.specs.chains.Table.{Chain, is_named}
use Rattle.table.specs.declared.walk.trail.Step.{Step}
use Rattle.rules.specs.declared.rule.target.Target.TheVariants as target
use Rattle.questions.specs.Foreign.{Agrees, Assignment, IsUnanswered}
use Rattle.questions.specs.Scopes.{scope_of, under, Whole}
use Rattle.questions.specs.boxes.Boxes.{Has, HasNumbers}
use Rattle.questions.specs.boxes.Cut.{IsCut, IsInSome, AreDisjoint, IsPortPart}
use Rattle.questions.specs.declared.foreign.answers.Answer.{Answer}
use Rattle.questions.specs.declared.walking.front.Front.{Front}
use Rattle.questions.specs.declared.walking.scope.Scope.{Scope}
use Rattle.questions.specs.declared.walking.task.Leaf.{Leaf}
use Rattle.questions.specs.declared.walking.task.Task.{Task}
use Rattle.questions.specs.steps.Taken.{IsGoneWith, AddsBoxes, AddsOne, AddsParts, AreApart, AreParts, IsWithin, scopes_of, AddsTasks, Enters, GetsOn, IsAnswered, IsBesides, IsEntered, IsNeededNext, IsPut, IsTurned, WaitAfter}
use Rattle.questions.specs.declared.foreign.need.Need.{Need}
use Rattle.questions.specs.declared.walking.task.Pending.{Pending}
use Rattle.questions.specs.steps.Waiting.{rule_ahead}
use Rattle.questions.proofs.laws.PartLaws.{all_reversed, joined_pairs, mapped_pairs, reversed_pairs}

-- ---- Tasks and leaves that part a scope.

-- ---- one part

one_alone : (own : Scope) → AreParts own (own ∷ [])
one_alone own = record { each = All-cons (IsWithin own) own [] (record { inside = λ numbers point has. has; some = λ some. some; answers = ([], sym (append-nil own.answers)) }) (All-nil (IsWithin own)); apart = λ i j d lt within. absurd (omega (arith, lt, within)) }

pub one_part : (own : Scope) (old new : Front) → AddsOne own old new → AddsParts 1 own old new
one_part own old new h =
    let P : Scope → Type 0 = λ s. AreParts own (s ∷ []) in
    record { tasks = h.task ∷ []; leaves = []; more = h.more; ends = h.same ∙ sym (append-nil old.leaves.items); few = omega arith; parts = subst P (sym h.scope) (one_alone own) }

pub leaf_part : (own : Scope) (leaf : Leaf) (old new : Front) → scope_of leaf ≡ own → new.tasks.items ≡ old.tasks.items → new.leaves.items ≡ old.leaves.items ++ leaf ∷ [] → AddsParts 1 own old new
leaf_part own leaf old new is same more =
    let P : Scope → Type 0 = λ s. AreParts own (s ∷ []) in
    record { tasks = []; leaves = leaf ∷ []; more = same ∙ sym (append-nil old.tasks.items); ends = more; few = omega arith; parts = subst P (sym is) (one_alone own) }

-- where fewer are few enough
pub more_parts : (few most : ℕ) (own : Scope) (old new : Front) → few ≤ most → AddsParts few own old new → AddsParts most own old new
more_parts few most own old new le h = record { tasks = h.tasks; leaves = h.leaves; more = h.more; ends = h.ends; few = omega (arith, le, h.few); parts = h.parts }

-- ---- the parts of two steps

apart_turned : (one other : Scope) → AreApart one other → AreApart other one
apart_turned one other (inl none) = inl (λ numbers point here there. none numbers point there here)
apart_turned one other (inr none) = inr (λ a here there. none a there here)

within_more : (own mid part : Scope) → IsWithin own mid → IsWithin mid part → IsWithin own part
within_more own mid part first second =
    let (more, is) = first.answers in
    let (rest, then) = second.answers in
    record {
      inside = λ numbers point has. first.inside numbers point (second.inside numbers point has);
      some = λ some. second.some (first.some some);
      answers = (more ++ rest, then ∙ ap (λ (given : List Answer). given ++ rest) is ∙ append_assoc own.answers more rest);
    }

-- boxes of one box, under its answers, and parts of a scope that share nothing with them
module _ (box : List SpanSet) (answers : List Answer) where
  abbrev own : Scope
  own = under box answers

  abbrev each : List SpanSet → Scope
  each part = under part answers

  -- a task for each box
  as_many : (boxes : List (List SpanSet)) (tasks : List Task) → scopes_of tasks ≡ map each (reverse boxes) → length tasks ≡ length boxes
  as_many boxes tasks is = sym (length-map tasks (λ (task : Task). task.scope)) ∙ ap (λ (ss : List Scope). length ss) is ∙ length-map (reverse boxes) each ∙ length-reverse boxes

  box_within : (boxes : List (List SpanSet)) → AreDisjoint boxes → ((numbers : List ℕ) → IsPoint numbers → IsInSome boxes numbers → Has box numbers) → All (λ part. IsWithin own (each part)) boxes
  box_within boxes are inside k d lt = record {
    inside = λ numbers point has. inside numbers point (get_or boxes k d, Contains-get_or boxes k d lt, has);
    some = λ _. are.some k d lt;
    answers = ([], sym (append-nil answers));
  }

  boxes_apart : (boxes : List (List SpanSet)) → AreDisjoint boxes → AllPairs AreApart (map each (reverse boxes))
  boxes_apart boxes are = mapped_pairs AreApart each (reverse boxes) (reversed_pairs (λ a b. AreApart (each a) (each b)) (λ a b. apart_turned (each a) (each b)) boxes (λ i j d lt within. inl (are.apart i j d lt within)))

  -- boxes, and other parts
  parts_with : (boxes : List (List SpanSet)) (parts : List Scope) → AreDisjoint boxes → ((numbers : List ℕ) → IsPoint numbers → IsInSome boxes numbers → Has box numbers) → AreParts own parts
      → All (λ part. All (AreApart (each part)) parts) boxes → AreParts own (map each (reverse boxes) ++ parts)
  parts_with boxes parts are inside others apart = record {
    each = All-append (IsWithin own) (map each (reverse boxes)) parts (All-map (IsWithin own) each (reverse boxes) (all_reversed (λ part. IsWithin own (each part)) boxes (box_within boxes are inside))) others.each;
    apart = joined_pairs AreApart (map each (reverse boxes)) parts (boxes_apart boxes are) others.apart
        (All-map (λ scope. All (AreApart scope) parts) each (reverse boxes) (all_reversed (λ part. All (AreApart (each part)) parts) boxes apart));
  }

  -- the boxes alone
  pub boxes_part : (boxes : List (List SpanSet)) (old new : Front) → AreDisjoint boxes → ((numbers : List ℕ) → IsPoint numbers → IsInSome boxes numbers → Has box numbers) → AddsBoxes boxes answers old new → AddsParts (length boxes) own old new
  boxes_part boxes old new are inside h =
      let none : AreParts own [] = record { each = All-nil (IsWithin own); apart = λ i j d lt within. absurd (omega (arith, within)) } in
      record {
        tasks = h.tasks;
        leaves = [];
        more = h.more;
        ends = h.same ∙ sym (append-nil old.leaves.items);
        few = omega (arith, as_many boxes h.tasks h.scopes);
        parts = rw (← h.scopes) at (parts_with boxes [] are inside none (λ k d lt. All-nil (AreApart (each (get_or boxes k d)))));
      }

  -- boxes, and then parts of a box that shares no numbers with them
  pub boxes_then : (most : ℕ) (inner : List SpanSet) (outside : List (List SpanSet)) (old mid new : Front) → AreDisjoint (inner ∷ outside) → ((numbers : List ℕ) → IsPoint numbers → Has inner numbers → Has box numbers)
      → ((numbers : List ℕ) → IsPoint numbers → IsInSome outside numbers → Has box numbers) → AddsBoxes outside answers old mid → AddsParts most (under inner answers) mid new → AddsParts (length outside + most) own old new
  boxes_then most inner outside old mid new are first rest boxes h =
      let here : List Scope = scopes_of h.tasks ++ map scope_of h.leaves in
      let disjoint : AreDisjoint outside = record {
        some = λ k d lt. are.some (suc k) d (omega (arith, lt));
        apart = λ i j d lt within. are.apart (suc i) (suc j) d (omega (arith, lt)) (omega (arith, within));
      } in
      let inner_within : IsWithin own (under inner answers) = record { inside = first; some = λ _. are.some 0 inner (omega arith); answers = ([], sym (append-nil answers)) } in
      let others : AreParts own here = record { each = λ k d lt. within_more own (under inner answers) (get_or here k d) inner_within (h.parts.each k d lt); apart = h.parts.apart } in
      let apart : All (λ part. All (AreApart (each part)) here) outside = λ i d lt k e less.
      inl (λ numbers point out in_part. are.apart 0 (suc i) d (omega arith) (omega (arith, lt)) numbers point ((h.parts.each k e less).inside numbers point in_part) out) in
      let same : scopes_of (boxes.tasks ++ h.tasks) ++ map scope_of h.leaves ≡ map each (reverse outside) ++ here =
      ap (λ (ss : List Scope). ss ++ map scope_of h.leaves) (map-append (λ (task : Task). task.scope) boxes.tasks h.tasks ∙ ap (λ (ss : List Scope). ss ++ scopes_of h.tasks) boxes.scopes)
      ∙ append_assoc (map each (reverse outside)) (scopes_of h.tasks) (map scope_of h.leaves) in
      record {
        tasks = boxes.tasks ++ h.tasks;
        leaves = h.leaves;
        more = h.more ∙ ap (λ (ts : List Task). ts ++ h.tasks) boxes.more ∙ append_assoc old.tasks.items boxes.tasks h.tasks;
        ends = h.ends ∙ ap (λ (ls : List Leaf). ls ++ h.leaves) boxes.same;
        few = omega (arith, h.few, length-append boxes.tasks h.tasks, as_many outside boxes.tasks boxes.scopes);
        parts = rw (← same) at (parts_with outside here disjoint rest others apart);
      }

  -- those of a cut, where the rule's part goes on in at most two
  pub cut_then : (rule : Rule) (most : ℕ) (inner : List SpanSet) (outside : List (List SpanSet)) (old mid new : Front) → IsCut rule box inner outside → AreDisjoint (inner ∷ outside) → length outside ≤ length all_fields → most ≤ 2
      → AddsBoxes outside answers old mid → AddsParts most (under inner answers) mid new → AddsParts (length all_fields + 2) own old new
  cut_then rule most inner outside old mid new cut are few le boxes h =
      more_parts (length outside + most) (length all_fields + 2) own old new (omega (arith, few, le))
      (boxes_then most inner outside old mid new are (λ numbers point inside. (cut.only numbers point inside).0) (λ numbers point some. (cut.rest numbers point some).0) boxes h)

  -- boxes, and then others
  pub boxes_more : (one other : List (List SpanSet)) (old mid new : Front) → AddsBoxes other answers old mid → AddsBoxes one answers mid new → AddsBoxes (one ++ other) answers old new
  boxes_more one other old mid new h g = record {
    tasks = h.tasks ++ g.tasks;
    more = g.more ∙ ap (λ (ts : List Task). ts ++ g.tasks) h.more ∙ append_assoc old.tasks.items h.tasks g.tasks;
    same = g.same ∙ h.same;
    scopes = map-append (λ (task : Task). task.scope) h.tasks g.tasks ∙ ap (λ (ss : List Scope). ss ++ scopes_of g.tasks) h.scopes ∙ ap (λ (ss : List Scope). map each (reverse other) ++ ss) g.scopes
        ∙ sym (ap (map each) (reverse-append one other) ∙ map-append each (reverse other) (reverse one));
  }

-- ---- boxes one after another

-- of some boxes these are left, and the others have a task each, the last first
pub record HasAdded (boxes left : List (List SpanSet)) (answers : List Answer) (old new : Front) : Type 0 where
  pub tasks : List Task
  pub more : new.tasks.items ≡ old.tasks.items ++ tasks
  pub same : new.leaves.items ≡ old.leaves.items
  pub scopes : scopes_of tasks ++ map (λ (box : List SpanSet). under box answers) (reverse left) ≡ map (λ (box : List SpanSet). under box answers) (reverse boxes)

pub none_added : (boxes : List (List SpanSet)) (answers : List Answer) (old : Front) → HasAdded boxes boxes answers old old
none_added boxes answers old = record { tasks = []; more = sym (append-nil old.tasks.items); same = refl; scopes = refl }

pub box_added : (boxes before left : List (List SpanSet)) (box : List SpanSet) (answers : List Answer) (old mid new : Front) → before ≡ left ++ box ∷ [] → HasAdded boxes before answers old mid → AddsOne (under box answers) mid new
    → HasAdded boxes left answers old new
box_added boxes before left box answers old mid new is h one =
    let each : List SpanSet → Scope = λ b. under b answers in
    let rest : List Scope = map each (reverse left) in
    let turned : map each (reverse before) ≡ each box ∷ rest = ap (λ (bs : List (List SpanSet)). map each (reverse bs)) is ∙ ap (map each) (reverse-append left (box ∷ [])) in
    record {
      tasks = h.tasks ++ one.task ∷ [];
      more = one.more ∙ ap (λ (ts : List Task). ts ++ one.task ∷ []) h.more ∙ append_assoc old.tasks.items h.tasks (one.task ∷ []);
      same = one.same ∙ h.same;
      scopes = ap (λ (ss : List Scope). ss ++ rest) (map-append (λ (task : Task). task.scope) h.tasks (one.task ∷ []))
          ∙ append_assoc (scopes_of h.tasks) (one.task.scope ∷ []) rest
          ∙ ap (λ (scope : Scope). scopes_of h.tasks ++ scope ∷ rest) one.scope
          ∙ ap (λ (ss : List Scope). scopes_of h.tasks ++ ss) (sym turned)
          ∙ h.scopes;
    }

pub all_added : (boxes left : List (List SpanSet)) (answers : List Answer) (old new : Front) → left ≡ [] → HasAdded boxes left answers old new → AddsBoxes boxes answers old new
all_added boxes left answers old new none h = record {
  tasks = h.tasks;
  more = h.more;
  same = h.same;
  scopes = sym (ap (λ (bs : List (List SpanSet)). scopes_of h.tasks ++ map (λ (box : List SpanSet). under box answers) (reverse bs)) none ∙ append-nil (scopes_of h.tasks)) ∙ h.scopes;
}

-- ---- the parts of a condition

-- the answers, and one more
abbrev more : List Answer → ℕ → Bool → List Answer
more answers condition holds = answers ++ record { condition = condition; holds = holds } ∷ []

pub parted_by : (box same : List SpanSet) (answers : List Answer) (condition : ℕ) (old mid new : Front) → ((numbers : List ℕ) → IsPoint numbers → Has same numbers → Has box numbers) → (HasNumbers box → HasNumbers same)
    → AddsOne (under same (more answers condition false)) old mid → AddsOne (under box (more answers condition true)) mid new → AddsParts 2 (under box answers) old new
parted_by box same answers condition old mid new inside some first second =
    let own : Scope = under box answers in
    let one : Scope = under same (more answers condition false) in
    let other : Scope = under box (more answers condition true) in
    let answer : Bool → Answer = λ holds. record { condition = condition; holds = holds } in
    let given : (a : Assignment) (holds : Bool) → Agrees a (more answers condition holds) → a condition ≡ holds = λ a holds agrees.
    (All-pop (λ (x : Answer). a x.condition ≡ x.holds) (more answers condition holds) answers (Some (answer holds)) refl agrees).1 in
    let apart : AreApart one other = inr (λ a here there. true≢false (sym (given a true there) ∙ given a false here)) in
    let P : Scope → Scope → Type 0 = λ s r. AreParts own (s ∷ r ∷ []) in
    record {
      tasks = first.task ∷ second.task ∷ [];
      leaves = [];
      more = second.more ∙ ap (λ (ts : List Task). ts ++ second.task ∷ []) first.more ∙ append_assoc old.tasks.items (first.task ∷ []) (second.task ∷ []);
      ends = second.same ∙ first.same ∙ sym (append-nil old.leaves.items);
      few = omega arith;
      parts = rw (← first.scope) at (subst (P one) (sym second.scope) (record {
        each = All-cons (IsWithin own) one (other ∷ []) (record { inside = inside; some = some; answers = (answer false ∷ [], refl) })
            (All-cons (IsWithin own) other [] (record { inside = λ numbers point has. has; some = λ h. h; answers = (answer true ∷ [], refl) }) (All-nil (IsWithin own)));
        apart = AllPairs-cons AreApart one (other ∷ []) (All-cons (AreApart one) other [] apart (All-nil (AreApart one)))
            (AllPairs-cons AreApart other [] (All-nil (AreApart other)) (λ i j d lt within. absurd (omega (arith, within))));
      }));
    }

-- ---- What a step adds to the tasks that are left, and how each of them got on.

-- ---- tasks that are put on others

pub adds_none : (Holds : Task → Type 0) (old new : Front) → new.tasks.items ≡ old.tasks.items → AddsTasks Holds old new
adds_none Holds old new same = ([], same ∙ sym (append-nil old.tasks.items), All-nil Holds)

pub adds_more : (Holds : Task → Type 0) (a b c : Front) → AddsTasks Holds a b → AddsTasks Holds b c → AddsTasks Holds a c
adds_more Holds a b c (xs, e, all) (ys, f, more) = (xs ++ ys, f ∙ ap (λ (ts : List Task). ts ++ ys) e ∙ append_assoc a.tasks.items xs ys, All-append Holds xs ys all more)

pub adds_weaker : (P Q : Task → Type 0) (old new : Front) → ((next : Task) → P next → Q next) → AddsTasks P old new → AddsTasks Q old new
adds_weaker P Q old new weaker (xs, e, all) = (xs, e, λ k d lt. weaker (get_or xs k d) (all k d lt))

-- a task that is put there entered a chain
pub put_entered : (chains : List Chain) (name : List ℕ) (scope : Scope) (waiting : List Pending) (to : ℕ) (trail : List Step) (old new : Front) → position (is_named name) chains ≡ Some to
    → AddsTasks (IsPut scope (waiting ++ record { chain = to; passed = 0 } ∷ []) trail) old new → AddsTasks (IsEntered chains name waiting trail) old new
put_entered chains name scope waiting to trail old new is =
    adds_weaker (IsPut scope (waiting ++ record { chain = to; passed = 0 } ∷ []) trail) (IsEntered chains name waiting trail) old new
    (λ next put. record { rests = inr (to, is, put.there.rests); trail = put.there.trail })

-- or there is no such chain
pub put_below : (chains : List Chain) (name : List ℕ) (scope : Scope) (waiting : List Pending) (trail : List Step) (old new : Front)
    → AddsTasks (IsPut scope waiting trail) old new → AddsTasks (IsEntered chains name waiting trail) old new
put_below chains name scope waiting trail old new =
    adds_weaker (IsPut scope waiting trail) (IsEntered chains name waiting trail) old new (λ next put. record { rests = inl put.there.rests; trail = put.there.trail })

module _ (chains : List Chain) (to : Option Target) (below : List Pending) (behind : Pending) (trail : List Step) (old new : Front) where
  turned_by : (target : Option Target) → target ≡ to → AddsTasks (IsTurned chains to below behind trail) old new → AddsTasks (IsTurned chains target below behind trail) old new
  turned_by target e h = let P : Option Target → Type 0 = λ o. AddsTasks (IsTurned chains o below behind trail) old new in subst P (sym e) h

  -- a task that is put there followed a target
  pub put_turned : (target : Option Target) → target ≡ to → (scope : Scope) (rests : List Pending) → WaitAfter chains to below behind rests → AddsTasks (IsPut scope rests trail) old new → AddsTasks (IsTurned chains target below behind trail) old new
  put_turned target e scope rests after h =
      turned_by target e (adds_weaker (IsPut scope rests trail) (IsTurned chains to below behind trail) old new (λ next put. record { rests = rw (← put.there.rests) at after; trail = put.there.trail }) h)

  -- so did one that came into a chain
  pub entered_turned : (target : Option Target) → target ≡ to → (name : List ℕ) (waiting : List Pending) → ((rests : List Pending) → Enters chains name waiting rests → WaitAfter chains to below behind rests)
      → AddsTasks (IsEntered chains name waiting trail) old new → AddsTasks (IsTurned chains target below behind trail) old new
  entered_turned target e name waiting after h =
      turned_by target e (adds_weaker (IsEntered chains name waiting trail) (IsTurned chains to below behind trail) old new (λ next is. record { rests = after next.rests.items is.rests; trail = is.trail }) h)

-- ---- how they got on

-- behind the next rule
abbrev pub behind : Pending → Pending
behind at = record { chain = at.chain; passed = at.passed + 1 }

-- other chains wait then than before
pub last_same : (xs ys : List Pending) (a b : Pending) → xs ++ a ∷ [] ≡ ys ++ b ∷ [] → a ≡ b
last_same xs ys a b e =
    let long : length xs ≡ length ys = omega (arith, ap (λ (ps : List Pending). length ps) e, length_push xs a, length_push ys b) in
    sym (get_or_push xs a a (length xs) refl) ∙ ap (λ (ps : List Pending). get_or ps (length xs) a) e ∙ get_or_push ys b a (length xs) (sym long)

more_wait : (below : List Pending) (at : Pending) → below ≢ below ++ at ∷ []
more_wait below at e = omega (arith, ap (λ (ps : List Pending). length ps) e, length_push below at)

not_behind : (below : List Pending) (at : Pending) → below ++ behind at ∷ [] ≢ below ++ at ∷ []
not_behind below at e = omega (arith, ap (λ (p : Pending). p.passed) (last_same below below (behind at) at e))

moved_by : (chains : List Chain) (to : Option Target) (below : List Pending) (at : Pending) (rests : List Pending)
    → ((name : List ℕ) → to ≡ Some (target.Goto name) → position (is_named name) chains ≡ Some at.chain → ⊥) → WaitAfter chains to below (behind at) rests → rests ≢ below ++ at ∷ []
moved_by chains None below at rests apart is e = not_behind below at (sym is ∙ e)
moved_by chains (Some target.Log) below at rests apart is e = not_behind below at (sym is ∙ e)
moved_by chains (Some target.Accept) below at rests apart is e = absurd is
moved_by chains (Some target.Drop) below at rests apart is e = absurd is
moved_by chains (Some (target.Reject kind)) below at rests apart is e = absurd is
moved_by chains (Some target.Return) below at rests apart is e = more_wait below at (sym is ∙ e)
moved_by chains (Some (target.Jump name)) below at rests apart (inl same) e = not_behind below at (sym same ∙ e)
moved_by chains (Some (target.Jump name)) below at rests apart (inr (c, there, is)) e =
    let first : Pending = record { chain = c; passed = 0 } in
    omega (arith, ap (λ (ps : List Pending). length ps) (sym is ∙ e), length_push (below ++ behind at ∷ []) first, length_push below (behind at), length_push below at)
moved_by chains (Some (target.Goto name)) below at rests apart (inl same) e = more_wait below at (sym same ∙ e)
moved_by chains (Some (target.Goto name)) below at rests apart (inr (c, there, is)) e =
    apart name refl (there ∙ ap (λ (p : Pending). Some p.chain) (last_same below below (record { chain = c; passed = 0 }) at (sym is ∙ e)))

module _ (t : Whole) (scope : Scope) (below : List Pending) (at : Pending) (trail : List Step) (old new : Front) where
  -- a task that is put there
  pub put_past : AddsTasks (IsPut scope (below ++ behind at ∷ []) trail) old new → AddsTasks (GetsOn t scope (below ++ at ∷ []) trail) old new
  put_past = adds_weaker (IsPut scope (below ++ behind at ∷ []) trail) (GetsOn t scope (below ++ at ∷ []) trail) old new
      (λ next put. inr (inl (record { below = below; at = at; newest = refl; there = put.there })))

  -- those of some boxes
  pub besides_past : (boxes : List (List SpanSet)) → AddsTasks (IsBesides boxes scope.answers (below ++ behind at ∷ []) trail) old new
      → AddsTasks (GetsOn t scope (below ++ at ∷ []) trail) old new
  besides_past boxes = adds_weaker (IsBesides boxes scope.answers (below ++ behind at ∷ []) trail) (GetsOn t scope (below ++ at ∷ []) trail) old new
      (λ next put. inr (inl (record { below = below; at = at; newest = refl; there = put.there })))

  -- by this rule, which matches all of the box and goes to no chain of its own
  pub matched_all : (chains : List Chain) (to : Option Target) → ((name : List ℕ) → to ≡ Some (target.Goto name) → position (is_named name) chains ≡ Some at.chain → ⊥)
      → AddsTasks (IsTurned chains to below (behind at) (trail ++ record { chain = at.chain; number = at.passed + 1 } ∷ [])) old new
      → AddsTasks (IsGoneWith t.needs scope.answers (below ++ at ∷ []) trail) old new
  matched_all chains to apart =
      adds_weaker (IsTurned chains to below (behind at) (trail ++ record { chain = at.chain; number = at.passed + 1 } ∷ [])) (IsGoneWith t.needs scope.answers (below ++ at ∷ []) trail) old new
      (λ next is. inl (record { below = below; at = at; newest = refl; on = is.trail; moved = moved_by chains to below at next.rests.items apart is.rests }))

  -- so it got on
  pub gone_on : AddsTasks (IsGoneWith t.needs scope.answers (below ++ at ∷ []) trail) old new → AddsTasks (GetsOn t scope (below ++ at ∷ []) trail) old new
  gone_on =
      adds_weaker (IsGoneWith t.needs scope.answers (below ++ at ∷ []) trail) (GetsOn t scope (below ++ at ∷ []) trail) old new
      (λ next is. elim is [ inl on ↦ inl on | inr answered ↦ inr (inr (inr (inl answered))) ])

  -- as parts of the box, by ports that the rule lists
  pub parts_on : (rule : Rule) (parts : List (List SpanSet)) → rule ≡ rule_ahead t.table at → All (IsPortPart rule scope.area) parts → AddsTasks (IsBesides parts scope.answers (below ++ at ∷ []) trail) old new
      → AddsTasks (GetsOn t scope (below ++ at ∷ []) trail) old new
  parts_on rule parts same sides =
      let Part : Rule → Type 0 = λ r. All (IsPortPart r scope.area) parts in
      let all : Part (rule_ahead t.table at) = subst Part same sides in
      adds_weaker (IsBesides parts scope.answers (below ++ at ∷ []) trail) (GetsOn t scope (below ++ at ∷ []) trail) old new
      (λ next put. inr (inr (inr (inr (record {
        below = below;
        at = at;
        newest = refl;
        part = All-contains (IsPortPart (rule_ahead t.table at) scope.area) parts next.scope.area all put.area;
        answers = put.answers;
        there = put.there;
      })))))

-- out of the newest chain
pub back_on : (t : Whole) (scope : Scope) (rests below : List Pending) (at : Pending) (trail : List Step) (old new : Front) → rests ≡ below ++ at ∷ []
    → AddsTasks (IsPut scope below trail) old new → AddsTasks (GetsOn t scope rests trail) old new
back_on t scope rests below at trail old new newest =
    adds_weaker (IsPut scope below trail) (GetsOn t scope rests trail) old new
    (λ next put. inr (inr (inl (record { at = at; newest = newest ∙ ap (λ (ps : List Pending). ps ++ at ∷ []) (sym put.there.rests); trail = put.there.trail }))))

-- a task of one of some boxes
pub put_beside : (boxes : List (List SpanSet)) (box : List SpanSet) (answers : List Answer) (scope : Scope) (rests : List Pending) (trail : List Step) (old new : Front) → Contains boxes box
    → scope ≡ record { area = box; answers = answers } → AddsTasks (IsPut scope rests trail) old new → AddsTasks (IsBesides boxes answers rests trail) old new
put_beside boxes box answers scope rests trail old new on is =
    adds_weaker (IsPut scope rests trail) (IsBesides boxes answers rests trail) old new
    (λ next put.
    (let same = put.scope ∙ is in
    record { area = rw (← ap (λ (s : Scope). s.area) same) at on; answers = ap (λ (s : Scope). s.answers) same; there = put.there }))

-- one of one more answer
pub put_answered : (needs : List (List (List Need))) (scope : Scope) (answers : List Answer) (answer : Answer) (below : List Pending) (at : Pending) (trail : List Step) (old new : Front)
    → IsUnanswered answers answer.condition → IsNeededNext needs at answer.condition → scope.answers ≡ answers ++ answer ∷ []
    → AddsTasks (IsPut scope (below ++ at ∷ []) trail) old new → AddsTasks (IsAnswered needs answers (below ++ at ∷ []) trail) old new
put_answered needs scope answers answer below at trail old new unanswered needed is =
    adds_weaker (IsPut scope (below ++ at ∷ []) trail) (IsAnswered needs answers (below ++ at ∷ []) trail) old new (λ next put. record {
      below = below;
      at = at;
      newest = refl;
      answer = answer;
      unanswered = unanswered;
      needed = needed;
      answers = ap (λ (s : Scope). s.answers) put.scope ∙ is;
      there = put.there;
    })
