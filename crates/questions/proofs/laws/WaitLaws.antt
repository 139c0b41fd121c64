-- Nobody is lost on the way through the table.
use Rattle.std.proofs.Common.{◌≡◌, inl, inr, ◌⊎◌, ℕ, zero, suc, ◌+◌, ◌-◌, ◌<◌, ◌≤◌, Bool, true, false, cond, List, [], ◌∷◌, ◌++◌, length, get_or, take, map, refl, sym, ◌∙◌, ap, arith, subst, Option, Some, None, All, Contains, Any, IfSome, IsTrue, slice_get, true≢false}
use Rattle.std.specs.List.{list_any, position}
use Rattle.std.proofs.lemmas.Bool.{cases_Bool, cond-false, or_parts}
use Rattle.std.proofs.lemmas.List.{reverse-append}
use Rattle.std.proofs.lemmas.List.Elements.{All-nil, All-cons, All-push, Contains-append_left, Contains-push, Contains-push_cases, Contains-get_or}
use Rattle.std.proofs.lemmas.Option.{slice_get_past, slice_get-get_or}
use Rattle.fields.specs.declared.packet.hook.Hook.{Hook}
use Rattle.fields.specs.declared.packet.hook.Hook.TheVariants.{Input, Forward, Output}
use Rattle.fields.specs.numbers.Spans.{SpanSet}
use Rattle.fields.specs.Hook.{name as hook_name}
use Rattle.fields.specs.Packet.{PacketView as Packet}
use Rattle.rules.specs.rule.Actions.{target_of}
use Rattle.rules.specs.rule.Allows.{matches}
use Rattle.rules.specs.rule.Rules.{Rule}
use Rattle.rules.specs.declared.rule.target.Target.{Target}
use Rattle.table.specs.chains.Sound.{IsSound}
use Rattle.table.specs.chains.Table.{Chain, Table, built_in_names, chain_at, empty_chain, is_named, names_of, rules_of}
use Rattle.table.specs.declared.verdict.Verdict.{Verdict}
use Rattle.table.specs.declared.verdict.Verdict.TheVariants.{Accept}
use Rattle.table.specs.steps.Kept.{hook_index}
use Rattle.table.specs.declared.walk.trail.Step.{Step}
use Rattle.table.specs.walk.Cases.{Stage, Under, Over, StepsTo, GoesTo, next_rule, on_by}
use Rattle.table.specs.walk.Walk.{Rest, Entry, after_match, end_verdict, whole}
use Rattle.table.proofs.laws.chains.KeepLaws.{rules_by_name}
use Rattle.table.proofs.laws.chains.PlaceLaws.{IsPlaced, placed_at, any_none}
use Rattle.table.proofs.laws.walk.CaseLaws.{walk_is}
use Rattle.classify.specs.Classifier.{IsPoint}
use Rattle.questions.specs.Leaves.{name_at}
use Rattle.questions.specs.Foreign.{Agrees, never}
use Rattle.questions.specs.Scopes.{EndsUnder, IsOf, IsSurely, Known, ShowsUnder, entries_by, is_met, scope_of, under, walked_by}
use Rattle.questions.specs.boxes.Boxes.{Has}
use Rattle.questions.specs.boxes.Cut.{IsInSome, IsCut, IsPartedFor, IsApart}
use Rattle.questions.specs.steps.Waiting.{rest_of, rests_of, behind, Reaches, stage_of, WaitsIn, IsAccounted, Belongs, FitsTask, IsThere, AreThere, IsAsked, IsOfSome, Keeps, Moves, PassesOver, Begins, entry_before, IsLastMet}
use Rattle.questions.specs.declared.foreign.answers.Answer.{Answer}
use Rattle.questions.specs.declared.walking.front.Front.{Front}
use Rattle.questions.specs.declared.walking.scope.Scope.{Scope}
use Rattle.questions.specs.declared.walking.task.Leaf.{Leaf}
use Rattle.questions.specs.declared.walking.task.Pending.{Pending}
use Rattle.questions.specs.declared.walking.task.Task.{Task}
use Rattle.questions.proofs.laws.AnswerLaws.{agrees_before, agrees_with_one_more}
use Rattle.questions.proofs.laws.AreaLaws.{some_left}
use Rattle.questions.proofs.laws.ResolvedLaws.{never_matches}

-- ---- one step more

goes_more : (n : ℕ) (cs : List Chain) (policy : Verdict) (values : List ℕ) (now mid next : Stage) → GoesTo n cs policy values now mid → StepsTo cs policy values mid next → GoesTo (suc n) cs policy values now next
goes_more zero cs policy values now mid next g s = let P : Stage → Type 0 = λ x. StepsTo cs policy values x next in (next, subst P (sym g) s, refl)
goes_more (suc n) cs policy values now mid next g s = (g.0, g.1, goes_more n cs policy values g.0 mid next g.2 s)

pub reaches_more : (t : Table) (p : Packet) (mid next : Stage) → Reaches t p mid → StepsTo t.chains (end_verdict t p) p.values mid next → Reaches t p next
reaches_more t p mid next r s = (suc r.0, goes_more r.0 t.chains (end_verdict t p) p.values _ mid next r.1 s)

-- ---- lists

pub any_kept : {X : Type 0} (P : X → Type 0) (xs ys zs : List X) → zs ≡ xs ++ ys → Any P xs → Any P zs
any_kept {X} P xs ys zs e a =
    let c : Contains (xs ++ ys) a.1 = Contains-append_left xs ys a.1 (a.0, a.2, a.3) in
    rw e (c.0, a.1, c.1, c.2, a.4)

pub any_last : {X : Type 0} (P : X → Type 0) (xs : List X) (x : X) (zs : List X) → zs ≡ xs ++ x ∷ [] → P x → Any P zs
any_last {X} P xs x zs e h =
    let c : Contains (xs ++ x ∷ []) x = Contains-push xs x in
    rw e (c.0, x, c.1, c.2, h)

pub any_same : {X : Type 0} (P : X → Type 0) (xs zs : List X) → zs ≡ xs → Any P xs → Any P zs
any_same {X} P xs zs e a = let Q : List X → Type 0 = λ l. Any P l in subst Q (sym e) a

-- ---- a task more, a leaf more

module _ (t : Table) (known : Known) (policy : Verdict) (old new : Front) where
  module _ (task : Task) (tasks : new.tasks.items ≡ old.tasks.items ++ task ∷ []) (leaves : new.leaves.items ≡ old.leaves.items) where
    kept_task : (p : Packet) → IsAccounted t known p old → IsAccounted t known p new
    kept_task p (inl a) = inl (any_kept (WaitsIn t known p) old.tasks.items (task ∷ []) new.tasks.items tasks a)
    kept_task p (inr a) = inr (any_same (EndsUnder t known p) old.leaves.items new.leaves.items leaves a)

    pub task_moves : AreThere t.chains task → Moves t known policy task.scope (stage_of known t.chains task) old new
    task_moves there = record {
      moved = λ p asked stands. inl (any_last (WaitsIn t known p) old.tasks.items task new.tasks.items tasks stands);
      fits = λ start p asked fit all. record {
        tasks = (let Q : List Task → Type 0 = λ ts. All (FitsTask t known start p) ts in subst Q (sym tasks) (All-push (FitsTask t known start p) old.tasks.items task all.tasks fit));
        leaves = (let Q : List Leaf → Type 0 = λ ls. All (ShowsUnder t known start p) ls in subst Q (sym leaves) all.leaves);
      };
      keeps = record {
        kept = kept_task;
        there = λ all. (let Q : List Task → Type 0 = λ ts. All (AreThere t.chains) ts in subst Q (sym tasks) (All-push (AreThere t.chains) old.tasks.items task all there));
        decided = λ all. (let Q : List Leaf → Type 0 = λ ls. All (IsSurely known) ls in subst Q (sym leaves) all);
      };
    }

  module _ (leaf : Leaf) (tasks : new.tasks.items ≡ old.tasks.items) (leaves : new.leaves.items ≡ old.leaves.items ++ leaf ∷ []) where
    kept_leaf : (p : Packet) → IsAccounted t known p old → IsAccounted t known p new
    kept_leaf p (inl a) = inl (any_same (WaitsIn t known p) old.tasks.items new.tasks.items tasks a)
    kept_leaf p (inr a) = inr (any_kept (EndsUnder t known p) old.leaves.items (leaf ∷ []) new.leaves.items leaves a)

    -- the rule that decides it has all that it needs, if the last rule of its trail has
    surely : (leaf.by_policy ≡ false → Agrees known.holds leaf.answers → IsLastMet known leaf.trail.items) → IsSurely known leaf
    surely met agrees =
        let P : Bool → Type 0 = λ b. IfSome (cond b None (slice_get leaf.trail.items (length leaf.trail.items - 1))) (λ step. IsTrue (is_met known step)) in
        elim (cases_Bool leaf.by_policy) [ inl t ↦ subst P (sym t) tt | inr f ↦ subst P (sym f) (met f agrees) ]

    pub leaf_moves : (leaf.by_policy ≡ false → Agrees known.holds leaf.answers → IsLastMet known leaf.trail.items) → Moves t known policy (scope_of leaf) (Over (walked_by known t.chains leaf)) old new
    leaf_moves met = record {
      moved = λ p asked stands. inr (any_last (EndsUnder t known p) old.leaves.items leaf new.leaves.items leaves (record { own = stands.own; walked = walk_is t p (walked_by known t.chains leaf) stands.reaches }));
      fits = λ start p asked fit all. record {
        tasks = (let Q : List Task → Type 0 = λ ts. All (FitsTask t known start p) ts in subst Q (sym tasks) all.tasks);
        leaves = (let Q : List Leaf → Type 0 = λ ls. All (ShowsUnder t known start p) ls in
            subst Q (sym leaves) (All-push (ShowsUnder t known start p) old.leaves.items leaf all.leaves (λ of. let own = fit of in (own.0, walk_is t p (walked_by known t.chains leaf) own.1))));
      };
      keeps = record {
        kept = kept_leaf;
        there = λ all. (let Q : List Task → Type 0 = λ ts. All (AreThere t.chains) ts in subst Q (sym tasks) all);
        decided = λ all. (let Q : List Leaf → Type 0 = λ ls. All (IsSurely known) ls in subst Q (sym leaves) (All-push (IsSurely known) old.leaves.items leaf all (surely met)));
      };
    }

-- ---- rests

pub rests_push : (cs : List Chain) (waiting : List Pending) (at : Pending) → rests_of cs (waiting ++ at ∷ []) ≡ rest_of cs at ∷ rests_of cs waiting
rests_push cs waiting at = ap (map (rest_of cs)) (reverse-append waiting (at ∷ []))

-- ---- a name that no chain has

pub no_rules : (cs : List Chain) (name : List ℕ) → list_any (is_named name) cs ≡ false → rules_of cs name ≡ []
no_rules [] name none = refl
no_rules (c ∷ cs) name none =
    let (here, later) = or_parts (is_named name c) (list_any (is_named name) cs) none in
    cond-false (is_named name c) c.rules (rules_of cs name) here ∙ no_rules cs name later

-- ---- stages

module _ (t : Table) (known : Known) (policy : Verdict) (scope : Scope) (old new : Front) where
  -- the same stage, written otherwise
  pub moves_same : (one two : Stage) → one ≡ two → Moves t known policy scope one old new → Moves t known policy scope two old new
  moves_same one two e h = let P : Stage → Type 0 = λ s. Moves t known policy scope s old new in subst P e h

  -- a step that every walk takes
  pub moves_step : (one two : Stage) → ((p : Packet) → StepsTo t.chains (end_verdict t p) p.values one two) → Moves t known policy scope two old new → Moves t known policy scope one old new
  moves_step one two s h = record {
    moved = λ p asked stands. h.moved p asked (record { own = stands.own; reaches = reaches_more t p one two stands.reaches (s p) });
    fits = λ start p asked fit. h.fits start p asked (λ of. let own = fit of in (own.0, reaches_more t p one two own.1 (s p)));
    keeps = h.keeps;
  }

  pub pushed_moves : (rests more : List Pending) (at : Pending) (es : List Entry) → more ≡ rests ++ at ∷ [] → IsThere t.chains at → All (IsThere t.chains) rests
      → (All (IsThere t.chains) more → Moves t known policy scope (Under (rests_of t.chains more) es) old new) → Moves t known policy scope (Under (rest_of t.chains at ∷ rests_of t.chains rests) es) old new
  pushed_moves rests more at es e there all h =
      let there_now : All (IsThere t.chains) more = rw (← e) at (All-push (IsThere t.chains) rests at all there) in
      moves_same (Under (rests_of t.chains more) es) (Under (rest_of t.chains at ∷ rests_of t.chains rests) es) (ap (λ (rs : List Rest). Under rs es) (ap (rests_of t.chains) e ∙ rests_push t.chains rests at)) (h there_now)

  -- below another rest
  pub pushed_below : (top : Rest) (rests more : List Pending) (at : Pending) (es : List Entry) → more ≡ rests ++ at ∷ [] → IsThere t.chains at → All (IsThere t.chains) rests
      → (All (IsThere t.chains) more → Moves t known policy scope (Under (top ∷ rests_of t.chains more) es) old new) → Moves t known policy scope (Under (top ∷ rest_of t.chains at ∷ rests_of t.chains rests) es) old new
  pushed_below top rests more at es e there all h =
      let there_now : All (IsThere t.chains) more = rw (← e) at (All-push (IsThere t.chains) rests at all there) in
      moves_same (Under (top ∷ rests_of t.chains more) es) (Under (top ∷ rest_of t.chains at ∷ rests_of t.chains rests) es) (ap (λ (rs : List Rest). Under (top ∷ rs) es) (ap (rests_of t.chains) e ∙ rests_push t.chains rests at)) (h there_now)

  -- by what the target is
  pub turned : (target to : Option Target) (own : Rest) (waiting : List Rest) (es : List Entry) → target ≡ to → Moves t known policy scope (on_by (after_match to own waiting) es) old new → Moves t known policy scope (on_by (after_match target own waiting) es) old new
  turned target to own waiting es e h = moves_same (on_by (after_match to own waiting) es) (on_by (after_match target own waiting) es) (ap (λ (o : Option Target). on_by (after_match o own waiting) es) (sym e)) h

  -- a chain that is there
  pub entered : (name bytes : List ℕ) (i : ℕ) (rs : List Rest) (es : List Entry) → Some i ≡ position (is_named bytes) t.chains → bytes ≡ name
      → (IsThere t.chains (record { chain = i; passed = 0 }) → Moves t known policy scope (Under (rest_of t.chains (record { chain = i; passed = 0 }) ∷ rs) es) old new)
      → Moves t known policy scope (Under (whole name ∷ rs) es) old new
  entered name bytes i rs es e same h =
      let placed : IsPlaced t bytes i = placed_at t bytes i (sym e) in
      let named : name_at t.chains i ≡ name = placed.named (empty_chain []) ∙ same in
      let rest : List ℕ → Rest = λ n. record { chain = n; passed = 0 } in
      moves_same (Under (rest (name_at t.chains i) ∷ rs) es) (Under (whole name ∷ rs) es) (ap (λ n. Under (rest n ∷ rs) es) named) (h placed.within)

  -- and one that isn't
  pub not_entered : (name bytes : List ℕ) (rs : List Rest) (es : List Entry) → None ≡ position (is_named bytes) t.chains → bytes ≡ name
      → Moves t known policy scope (Under rs es) old new → Moves t known policy scope (Under (whole name ∷ rs) es) old new
  not_entered name bytes rs es e same h =
      let none : rules_of t.chains name ≡ [] = ap (rules_of t.chains) (sym same) ∙ no_rules t.chains bytes (any_none (is_named bytes) t.chains (sym e)) in
      let ends : next_rule t.chains (whole name) ≡ None = ap (λ (rules : List Rule). slice_get rules 0) none in
      moves_step (Under (whole name ∷ rs) es) (Under rs es) (λ p. inr (inr (inr (ends, refl)))) h

-- ---- what is kept

pub keeps_all : (t : Table) (known : Known) (front : Front) → Keeps t known front front
keeps_all t known front = record { kept = λ p a. a; there = λ a. a; decided = λ a. a }

pub keeps_then : (t : Table) (known : Known) (one two three : Front) → Keeps t known one two → Keeps t known two three → Keeps t known one three
keeps_then t known one two three a b = record { kept = λ p h. b.kept p (a.kept p h); there = λ h. b.there (a.there h); decided = λ h. b.decided (a.decided h) }

-- ---- boxes that go on behind a rule, one after another

pub passed_next : (t : Table) (known : Known) (policy : Verdict) (p : Packet) (boxes left : List (List SpanSet)) (scope : Scope) (stage : Stage) (old new : Front) → boxes ≡ left ++ scope.area ∷ [] → IsAsked t policy p → Reaches t p stage
    → Moves t known policy scope stage old new → IsOfSome known p boxes scope.answers ⊎ IsAccounted t known p old → IsOfSome known p left scope.answers ⊎ IsAccounted t known p new
passed_next t known policy p boxes left scope stage old new e asked reaches h (inr a) = inr (h.keeps.kept p a)
passed_next t known policy p boxes left scope stage old new e asked reaches h (inl is) =
    elim (some_left boxes left scope.area p.values e is.inside) [
      | inl there ↦ inl (record { inside = there; agrees = is.agrees })
      | inr here ↦ inr (h.moved p asked (record { own = record { inside = here; agrees = is.agrees }; reaches = reaches }))
    ]

-- a box that is taken out of some was one of them, and the others were, too
pub some_before : (boxes left : List (List SpanSet)) (box : List SpanSet) (numbers : List ℕ) → boxes ≡ left ++ box ∷ [] → IsInSome left numbers ⊎ Has box numbers → IsInSome boxes numbers
some_before boxes left box numbers e h =
    rw e (elim h [
      | inl some ↦ (some.0, Contains-append_left left (box ∷ []) some.0 some.1, some.2)
      | inr here ↦ (box, Contains-push left box, here)
    ])

-- the only box
pub only_one : (box : List SpanSet) (numbers : List ℕ) → IsInSome (box ∷ []) numbers → Has box numbers
only_one box numbers (other, on, has) =
    elim (Contains-push_cases [] box other on) [ inl none ↦ absurd (omega (arith, none.1)) | inr same ↦ rw (← same) at has ]

-- ---- the next rule

module _ (t : Table) (known : Known) (sound : IsSound t) (policy : Verdict) (at : Pending) (there : IsThere t.chains at) where
  own_rules : rules_of t.chains (name_at t.chains at.chain) ≡ (chain_at t at.chain).rules
  own_rules = rules_by_name t (chain_at t at.chain) sound (Contains-get_or t.chains at.chain (empty_chain []) there)

  -- none is left: the walks come back
  pub comes_back : (scope : Scope) (waiting : List Rest) (es : List Entry) (old new : Front) → length (chain_at t at.chain).rules ≤ at.passed
      → Moves t known policy scope (Under waiting es) old new → Moves t known policy scope (Under (rest_of t.chains at ∷ waiting) es) old new
  comes_back scope waiting es old new le h =
      let none : next_rule t.chains (rest_of t.chains at) ≡ None = ap (λ (rs : List Rule). slice_get rs at.passed) own_rules ∙ slice_get_past (chain_at t at.chain).rules at.passed le in
      moves_step t known policy scope old new (Under (rest_of t.chains at ∷ waiting) es) (Under waiting es) (λ p. inr (inr (inr (none, refl)))) h

  module _ (rule : Rule) (passed : at.passed < length (chain_at t at.chain).rules) (is : rule ≡ get_or (chain_at t at.chain).rules (at.passed + 1 - 1) rule) (waiting : List Rest) (es : List Entry) where
    next_is : next_rule t.chains (rest_of t.chains at) ≡ Some rule
    next_is =
        ap (λ (rs : List Rule). slice_get rs at.passed) own_rules ∙ slice_get-get_or (chain_at t at.chain).rules at.passed rule passed
        ∙ ap Some (ap (λ j. get_or (chain_at t at.chain).rules j rule) (omega arith) ∙ sym is)

    abbrev here : Stage
    here = Under (rest_of t.chains at ∷ waiting) es

    abbrev after : Stage
    after = Under (rest_of t.chains (behind at) ∷ waiting) es

    goes_past : (p : Packet) → matches p.values rule ≡ false → Reaches t p here → Reaches t p after
    goes_past p un reaches = reaches_more t p here after reaches (inl (rule, next_is, un, refl))

    -- it goes past where the rule doesn't match
    passes : (start scope : Scope) (p : Packet) (boxes : List (List SpanSet)) → (IsOf known p scope → Belongs t known start p here) → (IsInSome boxes p.values → Has scope.area p.values × (matches p.values rule ≡ false))
        → IsOfSome known p boxes scope.answers → Belongs t known start p after
    passes start scope p boxes fit rest some =
        let own = rest some.inside in
        let belongs = fit (record { inside = own.0; agrees = some.agrees }) in
        (belongs.0, goes_past p own.1 belongs.1)

    pub apart_moves : (scope : Scope) (old new : Front) → IsApart rule scope.area → Moves t known policy scope after old new → Moves t known policy scope here old new
    apart_moves scope old new apart h = record {
      moved = λ p asked stands. h.moved p asked (record {
        own = stands.own;
        reaches = goes_past p (apart.none p.values asked.at_hook.packet.within stands.own.inside) stands.reaches;
      });
      fits = λ start p asked fit. h.fits start p asked (λ of. let own = fit of in (own.0, goes_past p (apart.none p.values asked.at_hook.packet.within of.inside) own.1));
      keeps = h.keeps;
    }

    pub cut_moves : (box inside : List SpanSet) (answers : List Answer) (outside : List (List SpanSet)) (old mid new : Front) → IsCut rule box inside outside → length es < 65536 → PassesOver t known policy outside answers after old mid
        → Moves t known policy (under inside answers) (on_by (after_match (target_of rule) (rest_of t.chains (behind at)) waiting) (es ++ entry_before t.chains (behind at) ∷ [])) mid new → Moves t known policy (under box answers) here old new
    cut_moves box inside answers outside old mid new cut room over h = record {
      moved = λ p asked stands.
          elim (cases_Bool (matches p.values rule)) [
            | inl m ↦ h.moved p asked (record {
              own = record { inside = cut.matched p.values asked.at_hook.packet.within stands.own.inside m; agrees = stands.own.agrees };
              reaches = reaches_more t p here (on_by (after_match (target_of rule) (rest_of t.chains (behind at)) waiting) (es ++ entry_before t.chains (behind at) ∷ [])) stands.reaches (inr (inr (inl (rule, next_is, m, room, refl))));
            })
            | inr un ↦ h.keeps.kept p (over.passed p asked (record { inside = cut.others p.values asked.at_hook.packet.within stands.own.inside un; agrees = stands.own.agrees }) (goes_past p un stands.reaches))
          ];
      fits = λ start p asked fit all.
          (let point = asked.at_hook.packet.within in
          h.fits start p asked (λ of.
          let own = cut.only p.values point of.inside in
          let fits_here = fit (record { inside = own.0; agrees = of.agrees }) in
          (fits_here.0, reaches_more t p here (on_by (after_match (target_of rule) (rest_of t.chains (behind at)) waiting) (es ++ entry_before t.chains (behind at) ∷ [])) fits_here.1 (inr (inr (inl (rule, next_is, own.1, room, refl))))))
          (over.fits start p asked (passes start (under box answers) p outside fit (cut.rest p.values point)) all));
      keeps = keeps_then t known old mid new over.keeps h.keeps;
    }

    pub parted_moves : (box : List SpanSet) (answers : List Answer) (again outside : List (List SpanSet)) (old mid new : Front) → IsPartedFor rule box again outside → PassesOver t known policy outside answers after old mid → PassesOver t known policy again answers here mid new
        → Moves t known policy (under box answers) here old new
    parted_moves box answers again outside old mid new parted over once = record {
      moved = λ p asked stands.
          elim (cases_Bool (matches p.values rule)) [
            | inl m ↦ once.passed p asked (record { inside = parted.matched p.values asked.at_hook.packet.within stands.own.inside m; agrees = stands.own.agrees }) stands.reaches
            | inr un ↦ elim (parted.others p.values asked.at_hook.packet.within stands.own.inside un) [
              | inl here ↦ once.passed p asked (record { inside = here; agrees = stands.own.agrees }) stands.reaches
              | inr out ↦ once.keeps.kept p (over.passed p asked (record { inside = out; agrees = stands.own.agrees }) (goes_past p un stands.reaches))
            ]
          ];
      fits = λ start p asked fit all.
          (let point = asked.at_hook.packet.within in
          once.fits start p asked (λ some. fit (record { inside = parted.only p.values point some.inside; agrees = some.agrees }))
          (over.fits start p asked (passes start (under box answers) p outside fit (parted.rest p.values point)) all));
      keeps = keeps_then t known old mid new over.keeps once.keeps;
    }

    -- where the rule matches no packet at all, both go on behind it
    pub handed_moves : (box inside : List SpanSet) (answers : List Answer) (outside : List (List SpanSet)) (old mid new : Front) → ((numbers : List ℕ) → matches numbers rule ≡ false) → IsPartedFor rule box (inside ∷ []) outside
        → PassesOver t known policy outside answers after old mid → Moves t known policy (under inside answers) after mid new → Moves t known policy (under box answers) here old new
    handed_moves box inside answers outside old mid new none parted over h = record {
      moved = λ p asked stands.
          (let reaches = goes_past p (none p.values) stands.reaches in
          elim (parted.others p.values asked.at_hook.packet.within stands.own.inside (none p.values)) [
            | inl here ↦ h.moved p asked (record { own = record { inside = only_one inside p.values here; agrees = stands.own.agrees }; reaches = reaches })
            | inr out ↦ h.keeps.kept p (over.passed p asked (record { inside = out; agrees = stands.own.agrees }) reaches)
          ]);
      fits = λ start p asked fit all.
          (let point = asked.at_hook.packet.within in
          h.fits start p asked (λ of.
          let belongs = fit (record { inside = parted.only p.values point (inside, Contains-push [] inside, of.inside); agrees = of.agrees }) in
          (belongs.0, goes_past p (none p.values) belongs.1))
          (over.fits start p asked (passes start (under box answers) p outside fit (parted.rest p.values point)) all));
      keeps = keeps_then t known old mid new over.keeps h.keeps;
    }

-- ---- a condition that is answered

module _ (t : Table) (known : Known) (policy : Verdict) (box same : List SpanSet) (answers : List Answer) (condition : ℕ) (stage : Stage) where
  -- the answers, and one more
  abbrev more : Bool → List Answer
  more holds = answers ++ record { condition = condition; holds = holds } ∷ []

  fewer : (holds : Bool) → Agrees known.holds (more holds) → Agrees known.holds answers
  fewer holds agrees = agrees_before known.holds answers (record { condition = condition; holds = holds } ∷ []) agrees

  -- those for which it doesn't hold, in a box with the same packets, and those for which it holds
  pub parts_by : (old mid new : Front) → ((numbers : List ℕ) → IsPoint numbers → Has box numbers → Has same numbers) → ((numbers : List ℕ) → IsPoint numbers → Has same numbers → Has box numbers)
      → Moves t known policy (under same (more false)) stage old mid → Moves t known policy (under box (more true)) stage mid new → Moves t known policy (under box answers) stage old new
  parts_by old mid new all only other h = record {
    moved = λ p asked stands.
        (let more_agrees : (holds : Bool) → known.holds condition ≡ holds → Agrees known.holds (more holds) = λ holds is. agrees_with_one_more known.holds answers condition holds stands.own.agrees is in
        elim (cases_Bool (known.holds condition)) [
          | inl held ↦ h.moved p asked (record { own = record { inside = stands.own.inside; agrees = more_agrees true held }; reaches = stands.reaches })
          | inr fails ↦ h.keeps.kept p (other.moved p asked (record { own = record { inside = all p.values asked.at_hook.packet.within stands.own.inside; agrees = more_agrees false fails }; reaches = stands.reaches }))
        ]);
    fits = λ start p asked fit before.
        h.fits start p asked (λ of. fit (record { inside = of.inside; agrees = fewer true of.agrees }))
        (other.fits start p asked (λ of. fit (record { inside = only p.values asked.at_hook.packet.within of.inside; agrees = fewer false of.agrees })) before);
    keeps = keeps_then t known old mid new other.keeps h.keeps;
  }

-- ---- answers that aren't right

-- nothing is said of the packets of a scope whose answers aren't right
pub wrong_moves : (t : Table) (known : Known) (policy : Verdict) (scope other : Scope) (stage next : Stage) (old new : Front) → (Agrees known.holds scope.answers → ⊥) → (Agrees known.holds other.answers → ⊥) → Moves t known policy other next old new → Moves t known policy scope stage old new
wrong_moves t known policy scope other stage next old new wrong bad h = record {
  moved = λ p asked stands. absurd (wrong stands.own.agrees);
  fits = λ start p asked fit. h.fits start p asked (λ of. absurd (bad of.agrees));
  keeps = h.keeps;
}

pub wrong_passes : (t : Table) (known : Known) (policy : Verdict) (scope other : Scope) (boxes : List (List SpanSet)) (stage over next : Stage) (old mid new : Front) → (Agrees known.holds scope.answers → ⊥) → (Agrees known.holds other.answers → ⊥)
    → PassesOver t known policy boxes other.answers over old mid → Moves t known policy other next mid new → Moves t known policy scope stage old new
wrong_passes t known policy scope other boxes stage over next old mid new wrong bad passes h = record {
  moved = λ p asked stands. absurd (wrong stands.own.agrees);
  fits = λ start p asked fit before. h.fits start p asked (λ of. absurd (bad of.agrees)) (passes.fits start p asked (λ some. absurd (bad some.agrees)) before);
  keeps = keeps_then t known old mid new passes.keeps h.keeps;
}

-- ---- parts of a box for a rule that matches nothing

-- what a rule matches of a box, and the others, are parts for any rule that matches no more
pub cut_parts : (rule : Rule) (box inside : List SpanSet) (outside : List (List SpanSet)) → IsCut rule box inside outside → IsPartedFor rule box (inside ∷ []) outside
cut_parts rule box inside outside cut = record {
  matched = λ numbers point has m. (inside, Contains-push [] inside, cut.matched numbers point has m);
  others = λ numbers point has un. inr (cut.others numbers point has un);
  only = λ numbers point some. (cut.only numbers point (only_one inside numbers some)).0;
  rest = cut.rest;
}

pub never_parts : (rule : Rule) (box : List SpanSet) (again outside : List (List SpanSet)) → IsPartedFor rule box again outside → IsPartedFor never box again outside
never_parts rule box again outside parted = record {
  matched = λ numbers point has m. absurd (true≢false (sym m ∙ never_matches numbers));
  others = λ numbers point has un. by_rule numbers point has (cases_Bool (matches numbers rule));
  only = parted.only;
  rest = λ numbers point some. ((parted.rest numbers point some).0, never_matches numbers);
}
  where
    by_rule : (numbers : List ℕ) → IsPoint numbers → Has box numbers → (matches numbers rule ≡ true) ⊎ (matches numbers rule ≡ false) → IsInSome again numbers ⊎ IsInSome outside numbers
    by_rule numbers point has (inl m) = inl (parted.matched numbers point has m)
    by_rule numbers point has (inr un) = parted.others numbers point has un

-- ---- the end of all chains, and of the trail

module _ (t : Table) (known : Known) (policy : Verdict) (scope : Scope) (old new : Front) where
  pub ended : (es : List Entry) → Moves t known policy scope (Over (record { trail = es; verdict = policy; by_policy = true })) old new → Moves t known policy scope (Under [] es) old new
  ended es h =
      let over : Verdict → Stage = λ v. Over (record { trail = es; verdict = v; by_policy = true }) in
      record {
        moved = λ p asked stands. h.moved p asked (record {
          own = stands.own;
          reaches = reaches_more t p (Under [] es) (over policy) stands.reaches (sym (ap over asked.ends));
        });
        fits = λ start p asked fit. h.fits start p asked (λ of. let own = fit of in (own.0, reaches_more t p (Under [] es) (over policy) own.1 (sym (ap over asked.ends))));
        keeps = h.keeps;
      }

  -- the newest rest
  pub at_rest : (rests left : List Pending) (at : Pending) (es : List Entry) → rests ≡ left ++ at ∷ [] → Moves t known policy scope (Under (rest_of t.chains at ∷ rests_of t.chains left) es) old new → Moves t known policy scope (Under (rests_of t.chains rests) es) old new
  at_rest rests left at es e h =
      moves_same t known policy scope old new (Under (rest_of t.chains at ∷ rests_of t.chains left) es) (Under (rests_of t.chains rests) es) (ap (λ (rs : List Rest). Under rs es) (sym (ap (rests_of t.chains) e ∙ rests_push t.chains left at))) h

  -- none
  pub at_no_rest : (rests : List Pending) (es : List Entry) → rests ≡ [] → Moves t known policy scope (Under [] es) old new → Moves t known policy scope (Under (rests_of t.chains rests) es) old new
  at_no_rest rests es e h = moves_same t known policy scope old new (Under [] es) (Under (rests_of t.chains rests) es) (ap (λ (ps : List Pending). Under (rests_of t.chains ps) es) (sym e)) h

-- ---- the first rule of a hook's chain

pub named_first : (cs : List Chain) (hook : Hook) → take 3 (names_of cs) ≡ built_in_names → (name_at cs (hook_index hook) ≡ hook_name hook) × (hook_index hook < length cs)
named_first [] hook e = absurd (omega (arith, ap (λ (ns : List (List ℕ)). length ns) e))
named_first (a ∷ []) hook e = absurd (omega (arith, ap (λ (ns : List (List ℕ)). length ns) e))
named_first (a ∷ b ∷ []) hook e = absurd (omega (arith, ap (λ (ns : List (List ℕ)). length ns) e))
named_first (a ∷ b ∷ c ∷ cs) Input e = (ap (λ (ns : List (List ℕ)). get_or ns 0 []) e, omega arith)
named_first (a ∷ b ∷ c ∷ cs) Forward e = (ap (λ (ns : List (List ℕ)). get_or ns 1 []) e, omega arith)
named_first (a ∷ b ∷ c ∷ cs) Output e = (ap (λ (ns : List (List ℕ)). get_or ns 2 []) e, omega arith)

pub begun : (t : Table) (known : Known) (hook : Hook) (scope : Scope) (rests empty : List Pending) (trail : List Step) (k : ℕ) (old new : Front) → IsSound t → k ≡ hook_index hook → rests ≡ empty ++ record { chain = k; passed = 0 } ∷ [] → empty ≡ [] → trail ≡ [] → old.tasks.items ≡ [] → old.leaves.items ≡ []
    → ((policy : Verdict) → All (IsThere t.chains) rests → Moves t known policy scope (Under (rests_of t.chains rests) (entries_by known t.chains trail)) old new) → Begins t known hook scope new
begun t known hook scope rests empty trail k old new sound at is none bare no_task no_leaf h =
    let first : ℕ → Pending = λ j. record { chain = j; passed = 0 } in
    let named = named_first t.chains hook sound.listed.built_in in
    let one : rests ≡ first (hook_index hook) ∷ [] = is ∙ ap (λ (ps : List Pending). ps ++ first k ∷ []) none ∙ ap (λ j. first j ∷ []) at in
    let P : List Pending → Type 0 = λ ps. All (IsThere t.chains) ps in
    let Q : List Task → Type 0 = λ ts. All (AreThere t.chains) ts in
    let there : All (IsThere t.chains) rests = subst P (sym one) (All-cons (IsThere t.chains) (first (hook_index hook)) [] named.1 (All-nil (IsThere t.chains))) in
    let rest : List ℕ → Rest = λ n. record { chain = n; passed = 0 } in
    let stage : (p : Packet) → p.hook ≡ hook → Under (whole (hook_name p.hook) ∷ []) [] ≡ Under (rests_of t.chains rests) (entries_by known t.chains trail) =
    λ p e. ap (λ g. Under (rest (hook_name g) ∷ []) []) e
    ∙ ap (λ n. Under (rest n ∷ []) []) (sym named.0)
    ∙ ap (λ (ps : List Pending). Under (rests_of t.chains ps) []) (sym one)
    ∙ ap (λ (ss : List Step). Under (rests_of t.chains rests) (entries_by known t.chains ss)) (sym bare) in
    record {
      all = λ p can e own. (h (end_verdict t p) there).moved p (record { at_hook = can; ends = refl }) (record { own = own; reaches = (0, stage p e) });
      fits = λ p can e.
          (let T : List Task → Type 0 = λ ts. All (FitsTask t known scope p) ts in
          let L : List Leaf → Type 0 = λ ls. All (ShowsUnder t known scope p) ls in
          (h (end_verdict t p) there).fits scope p (record { at_hook = can; ends = refl }) (λ own. (own, (0, stage p e)))
          (record { tasks = subst T (sym no_task) (All-nil (FitsTask t known scope p)); leaves = subst L (sym no_leaf) (All-nil (ShowsUnder t known scope p)) }));
      there = (h Accept there).keeps.there (subst Q (sym no_task) (All-nil (AreThere t.chains)));
      decided = (let S : List Leaf → Type 0 = λ ls. All (IsSurely known) ls in (h Accept there).keeps.decided (subst S (sym no_leaf) (All-nil (IsSurely known))));
    }
