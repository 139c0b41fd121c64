-- Calls leave what their accepted changes give by plain list edits.
use Rattle.std.proofs.Common.{◌≡◌, ℕ, List, [], ◌∷◌, ◌++◌, ◌&&◌, not, Bool, true, false, ◌==◌, Option, Some, None, option_map, Result, Ok, Err, refl, sym, ap, subst, ◌∙◌, if◌then◌else◌}
use Rattle.std.proofs.lemmas.Bool.{false≢true}
use Rattle.std.specs.Bool.{MatchBool}
use Rattle.table.specs.edits.Edits.{Edit, IsStep, IsStepIfRoom, edited, may_grow}
use Rattle.table.specs.edits.Headline.{ChainsHaveOneListOfClassifiers, edited_by}
use Rattle.table.specs.chains.Table.{AreClassified, Table, TableView}
use Rattle.table.specs.declared.fault.TableFault.{TableFault}
use Rattle.table.specs.walk.Cases.{WalksByCases, WalksInOneWay}
use Rattle.table.specs.walk.Walk.{walk}
use Rattle.table.proofs.laws.edits.AnswerLaws.{if_room}
use Rattle.table.specs.edits.Headline as table_law
use Rattle.restore.specs.Sequence.{made_into}
use Rattle.restore.specs.Changes.{Change, changed, changed_by}
use Rattle.restore.specs.Calls.{Call, Edits, Asks, Begins, Takes, Commits, GivesUp, Reads, Ends, Pending, Places, Standing, standing, opened, put, with_line, section_change, accepted, accepted_of, after, places_after, pending_at, IsCall, IsPendingIn, Lead, CallsLeaveWhatTheyAccept, RefusedCallsChangeNothing}
use Rattle.restore.specs.Listing.{ListingsRestoreClassifiers, RestoresAsEqual}
use Rattle.restore.specs.sections.Lines.{IsLine, is_building}
use Rattle.restore.specs.sections.Restore.{SectionState, Between, Skipping, Building, Restore, Restoring, moved, between, line_at, is_commit, restore_line}
use Rattle.restore.specs.sections.Section.{RestoreFault, asked, begun, is_too_long, line_in}
use Rattle.restore.specs.Changes as change
use Rattle.restore.specs.sections.Section as section
use Rattle.restore.proofs.laws.sections.HeadlineLaws.{OnGiven, IsBegun, between_is, edits_asked, of_both, accepted_line, refused_unchanged}

-- plain edits one after another

pub changed_then : (t : Table) (first next : List Change) → changed_by t (first ++ next) ≡ changed_by (changed_by t first) next
changed_then t [] next = refl
changed_then t (change ∷ first) next = changed_then (changed t change) first next

-- a pending section is the edits of its lines, made of the table that it began as

abbrev Fits : Option Pending → Type 0
Fits None = Unit {0}
Fits (Some o) = o.section.table ≡ edited_by o.from o.edits

abbrev FitIn : Places → Type 0
FitIn places = (place : ℕ) → Fits (places place)

-- a place more that fits
fit_put : (place : ℕ) (pending : Option Pending) (places : Places) → Fits pending → FitIn places → FitIn (put place pending places)
fit_put place pending places one all other = of_both {A = Option Pending} Fits (other == place) one (all other)

-- a line of the pending section
fits_line : (o : Pending) (line : List ℕ) (r : Result section.Section RestoreFault) → Fits (Some o) → line_in o.section line ≡ r → OnGiven r (λ next. Fits (Some (with_line line next o)))
fits_line o line r fits is =
    subst (λ (x : Result section.Section RestoreFault). OnGiven x (λ next. Fits (Some (with_line line next o)))) is (edits_asked o.from o.section o.edits (asked o.section line) fits)

-- what a call leaves: the table of the plain edits, and sections that fit
record Follows (s : Standing) (call : Call) (new : TableView) : Type 0 where
  table : new.table ≡ (after s call).table
  fits : FitIn (after s call).places

-- edits of the table

-- of a call that takes memory or takes none
of_either : (e : Edit) (old new : TableView) (r : Result (Unit {0}) TableFault) (grows : Bool) → MatchBool grows (IsStepIfRoom e old new r) (IsStep e old new r) → IsStepIfRoom e old new r
of_either e old new r true h = h
of_either e old new r false h = if_room e old new r h

module _ (leave : table_law.CallsLeaveWhatTheyAccept) (refuse : table_law.RefusedCallsChangeNothing) where
  follows_edit : (s : Standing) (old new : TableView) (e : Edit) (r : Result (Unit {0}) TableFault) → old.table ≡ s.table → FitIn s.places → IsStepIfRoom e old new r → Follows s (Edits e r) new
  follows_edit s old new e (Ok u) is fits h = record {
    table = leave old new (record { edit = e; answer = Ok u } ∷ []) (new, h, refl) ∙ ap (edited e) is;
    fits = fits;
  }
  follows_edit s old new e (Err f) is fits h = record {
    table = ap (λ (v : TableView). v.table) (refuse e old new f h) ∙ is;
    fits = fits;
  }

-- lines of a restore

-- the section that is pending after a line of a restore between this state and the next
abbrev next_pending : Table → Option Pending → List ℕ → Restore → SectionState → SectionState → Option Pending
next_pending t pending line r before next = pending_at next before (begun r.noflush t).table line pending

-- what a line of a restore leaves: the table of the change that it makes, and a section that fits
record FitsNext (t : Table) (pending : Option Pending) (line : List ℕ) (r : Restore) (state : SectionState) (next : Restoring) : Type 0 where
  table : next.table ≡ changed_by t (if is_building state && is_commit line && not r.test then section_change pending else [])
  fits : Fits (next_pending t pending line r state next.restore.state)

fits_begun : (t : Table) (pending : Option Pending) (line : List ℕ) (r : Restore) (state : SectionState) → IsBegun r.noflush t state → Fits (next_pending t pending line r Between state)
fits_begun t pending line r Between is = tt
fits_begun t pending line r Skipping is = tt
fits_begun t pending line r (Building s) is = ap (λ (x : section.Section). x.table) is

opens : (t : Table) (pending : Option Pending) (line : List ℕ) (r : Restore) (p : Result SectionState RestoreFault) → OnGiven p (IsBegun r.noflush t) → OnGiven (made_into (moved t r) p) (FitsNext t pending line r Between)
opens t pending line r (Ok state) is = record { table = refl; fits = fits_begun t pending line r state is }
opens t pending line r (Err f) is = tt

commits : (t u from : Table) (es : List Edit) (test : Bool) → u ≡ edited_by from es
    → (if test then t else u) ≡ changed_by t (if not test then change.SectionOf from es ∷ [] else [])
commits t u from es true fits = refl
commits t u from es false fits = fits

builds : (t : Table) (o : Pending) (line : List ℕ) (r : Restore) (q : Result section.Section RestoreFault) → OnGiven q (λ next. Fits (Some (with_line line next o)))
    → OnGiven (made_into (λ next. moved t r (Building next)) q) (λ (next : Restoring). (next.table ≡ t) × Fits (next_pending t (Some o) line r (Building o.section) next.restore.state))
builds t o line r (Ok next) fits = (refl, fits)
builds t o line r (Err f) fits = tt

-- a line of a section that is built, by whether it is `COMMIT`
fits_built : (t : Table) (o : Pending) (line : List ℕ) (r : Restore) (q : Result Restoring RestoreFault) (commit : Bool) → Fits (Some o)
    → OnGiven q (λ (next : Restoring). (next.table ≡ t) × Fits (next_pending t (Some o) line r (Building o.section) next.restore.state))
    → OnGiven (if commit then Ok (moved (if r.test then t else o.section.table) r Between) else q)
    (λ (next : Restoring). (next.table ≡ changed_by t (if commit && not r.test then section_change (Some o) else [])) × Fits (next_pending t (Some o) line r (Building o.section) next.restore.state))
fits_built t o line r q true fits rest = (commits t o.section.table o.from o.edits r.test fits, tt)
fits_built t o line r q false fits rest = rest

as_next : (t : Table) (pending : Option Pending) (line : List ℕ) (r : Restore) (state : SectionState) (q : Result Restoring RestoreFault)
    → OnGiven q (λ (next : Restoring). (next.table ≡ changed_by t (if is_building state && is_commit line && not r.test then section_change pending else [])) × Fits (next_pending t pending line r state next.restore.state))
    → OnGiven q (FitsNext t pending line r state)
as_next t pending line r state (Ok next) h = record { table = h.0; fits = h.1 }
as_next t pending line r state (Err f) h = tt

fits_at : (t : Table) (pending : Option Pending) (line : List ℕ) (r : Restore) (state : SectionState) → Fits pending → IsPendingIn state pending
    → OnGiven (line_at state r t line) (FitsNext t pending line r state)
fits_at t pending line r Between fits is = opens t pending line r (between r.noflush t line) (between_is t r line)
fits_at t pending line r Skipping fits is =
    record { table = refl; fits = of_both (λ (p : SectionState). Fits (next_pending t pending line r Skipping p)) (is_commit line) tt tt }
fits_at t pending line r (Building s) fits is =
    let o : Pending = is.0 in
    let own : Fits (Some o) = subst Fits is.1 fits in
    let at_own : OnGiven (line_at (Building o.section) r t line) (FitsNext t (Some o) line r (Building o.section)) =
    as_next t (Some o) line r (Building o.section) (line_at (Building o.section) r t line)
    (fits_built t o line r (made_into (λ next. moved t r (Building next)) (line_in o.section line)) (is_commit line) own (builds t o line r (line_in o.section line) (fits_line o line (line_in o.section line) own refl))) in
    subst (λ (x : section.Section). OnGiven (line_at (Building x) r t line) (FitsNext t pending line r (Building x))) is.2
    (subst (λ (x : Option Pending). OnGiven (line_at (Building o.section) r t line) (FitsNext t x line r (Building o.section))) (sym is.1) at_own)

fits_read : (t : Table) (pending : Option Pending) (line : List ℕ) (r : Restore) → Fits pending → IsPendingIn r.state pending
    → OnGiven (restore_line r t line) (FitsNext t pending line r r.state)
unfolding restore_line
fits_read t pending line r fits is =
    of_both {A = Result Restoring RestoreFault} (λ p. OnGiven p (FitsNext t pending line r r.state)) (is_too_long line) tt (fits_at t pending line r r.state fits is)

follows_line : (s : Standing) (old new : TableView) (place : ℕ) (r next : Restore) (line : List ℕ) → old.table ≡ s.table → FitIn s.places → IsPendingIn r.state (s.places place)
    → IsLine r line old new (Ok next) → Follows s (Reads place r line (Ok next)) new
follows_line s old new place r next line is fits pending h =
    let given : restore_line r s.table line ≡ Ok (record { table = new.table; restore = next }) = subst (λ (t : Table). restore_line r t line ≡ Ok (let x : Restoring = record { table = new.table; restore = next } in x)) is (accepted_line r next line old new h) in
    let came : FitsNext s.table (s.places place) line r r.state (record { table = new.table; restore = next }) = subst (λ (x : Result Restoring RestoreFault). OnGiven x (FitsNext s.table (s.places place) line r r.state)) given (fits_read s.table (s.places place) line r (fits place) pending) in
    record { table = came.table; fits = fit_put place (next_pending s.table (s.places place) line r r.state next.state) s.places came.fits fits }

-- all calls

module _ (leave : table_law.CallsLeaveWhatTheyAccept) (refuse : table_law.RefusedCallsChangeNothing) where
  -- a call that leaves the table, with a place that fits
  stays : (s : Standing) (old new : TableView) (call : Call) → accepted_of s call ≡ [] → old.table ≡ s.table → new ≡ old → FitIn (places_after s call) → Follows s call new
  stays s old new call none is same fits = record {
    table = ap (λ (v : TableView). v.table) same ∙ is ∙ ap (changed_by s.table) (sym none);
    fits = fits;
  }

  empties : (s : Standing) (place : ℕ) → FitIn s.places → FitIn (put place None s.places)
  empties s place fits = fit_put place None s.places tt fits

  follows : (s : Standing) (old new : TableView) (call : Call) → old.table ≡ s.table → FitIn s.places → IsCall s old call new → Follows s call new
  follows s old new (Edits e r) is fits h = follows_edit leave refuse s old new e r is fits (of_either e old new r (may_grow e) h)
  follows s old new Asks is fits h = stays s old new Asks refl is h fits
  follows s old new (Begins place noflush (Ok first)) is fits h =
      stays s old new (Begins place noflush (Ok first)) refl is h.1
      (fit_put place (Some (opened (begun noflush s.table).table first)) s.places (ap (λ (x : section.Section). x.table) (h.0 ∙ ap (begun noflush) is)) fits)
  follows s old new (Begins place noflush (Err f)) is fits h = stays s old new (Begins place noflush (Err f)) refl is h.1 fits
  follows s old new (Takes place line (Ok next)) is fits h =
      let own : Fits (Some h.0) = subst Fits h.1 (fits place) in
      stays s old new (Takes place line (Ok next)) refl is h.3
      (fit_put place (option_map (with_line line next) (s.places place)) s.places
      (subst (λ (x : Option Pending). Fits (option_map (with_line line next) x)) (sym h.1) (fits_line h.0 line (Ok next) own h.2)) fits)
  follows s old new (Takes place line (Err f)) is fits h = stays s old new (Takes place line (Err f)) refl is h.3 (empties s place fits)
  follows s old new (Commits place) is fits h = record {
    table = h.2 ∙ subst (λ (x : Option Pending). h.0.section.table ≡ changed_by s.table (section_change x)) (sym h.1) (subst Fits h.1 (fits place));
    fits = empties s place fits;
  }
  follows s old new (GivesUp place) is fits h = stays s old new (GivesUp place) refl is h (empties s place fits)
  follows s old new (Reads place r line (Ok next)) is fits h = follows_line s old new place r next line is fits h.0 h.1
  follows s old new (Reads place r line (Err f)) is fits h = stays s old new (Reads place r line (Err f)) refl is (refused_unchanged r line old new f h.1) (empties s place fits)
  follows s old new (Ends place r answer) is fits h = stays s old new (Ends place r answer) refl is h.1 (empties s place fits)

  leads : (s : Standing) (old new : TableView) (calls : List Call) → old.table ≡ s.table → FitIn s.places → Lead s old calls new → new.table ≡ changed_by s.table (accepted s calls)
  leads s old new [] is fits h = ap (λ (v : TableView). v.table) h ∙ is
  leads s old new (call ∷ calls) is fits h =
      let one = follows s old h.0 call is fits h.1 in
      leads (after s call) h.0 new calls one.table one.fits h.2 ∙ sym (changed_then s.table (accepted_of s call) (accepted (after s call) calls))

  pub refused_calls : RefusedCallsChangeNothing
  refused_calls s old new (Edits e (Ok u)) h is = absurd (false≢true is)
  refused_calls s old new (Edits e (Err f)) h is = refuse e old new f (of_either e old new (Err f) (may_grow e) h)
  refused_calls s old new Asks h is = h
  refused_calls s old new (Begins place noflush answer) h is = h.1
  refused_calls s old new (Takes place line answer) h is = h.3
  refused_calls s old new (Commits place) h is = absurd (false≢true is)
  refused_calls s old new (GivesUp place) h is = h
  refused_calls s old new (Reads place r line (Ok next)) h is = absurd (false≢true is)
  refused_calls s old new (Reads place r line (Err f)) h is = refused_unchanged r line old new f h.1
  refused_calls s old new (Ends place r answer) h is = h.1

  pub calls_leave : RestoresAsEqual → ListingsRestoreClassifiers → ChainsHaveOneListOfClassifiers → WalksByCases → WalksInOneWay → CallsLeaveWhatTheyAccept
  calls_leave restores listings one by_cases one_way old new calls stands lead = record {
    chains = leads (standing old.table) old new calls refl (λ place. tt) lead;
    stands = stands;
    restores = restores new.table stands.sound;
    restored = λ made other is. listings new made stands.sound stands.classified other.classified is;
    classifiers = λ other also is.
        let lists : other.classifiers ≡ new.classifiers = one new.table.chains other.classifiers new.classifiers (subst (λ (x : Table). AreClassified x.chains other.classifiers) is also.classified) stands.classified in
        (λ i. record { table = is i; classifiers = lists i });
    walks = by_cases new.table;
    one_walk = λ packet walked goes. one_way new.table packet walked (walk new.table packet) goes (by_cases new.table packet);
  }
