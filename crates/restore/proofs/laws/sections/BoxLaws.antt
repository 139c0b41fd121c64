-- What lines of a section ask for a box.
use Rattle.std.proofs.Common.{◌≡◌, ℕ, Bool, true, false, List, [], ◌∷◌, drop, refl, sym, ◌∙◌, ap, subst, Option, Some, None, Result, Ok, Err, OnOk, slice_get, is_some, unwrap_or, if◌then◌else◌, length}
use Rattle.std.proofs.lemmas.Bool.{false≢true}
use Rattle.fields.specs.text.Words.{words_of}
use Rattle.std.specs.FinSet as set
use Rattle.table.specs.chains.Table.{has_chain, is_built_in}
use Rattle.table.specs.edits.Edits.{Edit, Flush, NewChain, SetPolicy}
use Rattle.table.specs.declared.fault.TableFault.{TableFault}
use Rattle.restore.specs.Sequence.{◌>>=◌, or_refused, made_into, refused_as}
use Rattle.restore.specs.commands.Command as command
use Rattle.restore.specs.commands.Command.{Change, CommandFault, command_puts}
use Rattle.restore.specs.commands.CommandForms.{edit_of}
use Rattle.restore.specs.sections.Lines.{asks_put, edit_puts, line_puts}
use Rattle.restore.specs.sections.Restore.{Building, SectionState, is_commit}
use Rattle.restore.specs.sections.Section.{Asked, BadChainLine, DuplicateChainLine, LineTooLong, NotAllowed, OfTable, Quoting, RestoreFault, Section, asked, asked_by, asked_of_chain, asked_of_command, asks_nothing, begins_with, by_chain_line, chain_edit, chain_line, checked_policy, is_none_word, is_quiet, is_too_long, may_be_policy, policy_word, without_counters}
use Rattle.restore.proofs.laws.sections.CommandLaws.{asked_is}

-- a command puts a rule into a chain just where its words ask for that
pub command_asks : (words rest : List (List ℕ)) (c : command.Command) → rest ≡ without_counters words → made_into Change (edit_of (length words) rest) ≡ Ok c → command_puts c ≡ asks_put (asked_of_command words)
command_asks words rest c left read = let found = asked_is words rest c left read in ap command_puts found.2 ∙ sym (ap asks_put found.1)

-- what holds where the table accepts an edit holds where the section does
pub on_accepted : (P : Type 0) (a : Result (Unit {0}) TableFault) (r : Result (Unit {0}) RestoreFault) → r ≡ refused_as OfTable a → OnOk a P → OnOk r P
on_accepted P a r is h =
    subst (λ (x : Result (Unit {0}) RestoreFault). OnOk x P) (sym is) (elim a as (λ (x : Result (Unit {0}) TableFault). OnOk x P → OnOk (refused_as OfTable x) P) [ Ok u ↦ λ p. p | Err f ↦ λ p. tt ] h)

-- Chain lines

chain_edit_puts : (built none there : Bool) (name policy : List ℕ)
    → edit_puts (if built then (if none then None else Some (SetPolicy name policy)) else if there then Some (Flush name) else Some (NewChain name)) ≡ false
chain_edit_puts true true there name policy = refl
chain_edit_puts true false there name policy = refl
chain_edit_puts false none true name policy = refl
chain_edit_puts false none false name policy = refl

once_asks : (twice : Bool) (name : List ℕ) (edit : Option Edit) → edit_puts edit ≡ false → asks_put (made_into (by_chain_line name) (if twice then Err DuplicateChainLine else Ok edit)) ≡ false
once_asks true name edit is = refl
once_asks false name edit is = is

checked_asks : (may : Bool) (policy : List ℕ) (asks : List ℕ → Result Asked RestoreFault) → asks_put (asks policy) ≡ false → asks_put ((if may then Ok policy else Err BadChainLine) >>= asks) ≡ false
checked_asks true policy asks is = is
checked_asks false policy asks is = refl

-- no chain line asks for a rule to be put into a chain
chain_asks : (s : Section) (name : List ℕ) (words : List (List ℕ)) → asks_put (asked_of_chain s name words) ≡ false
chain_asks s name words =
    elim (policy_word words) as (λ (o : Option (List ℕ)). asks_put (checked_policy name o >>= λ policy. made_into (by_chain_line name) (chain_line s name policy)) ≡ false) [
      | None ↦ refl
      | Some policy ↦
          checked_asks (may_be_policy name policy) policy (λ p. made_into (by_chain_line name) (chain_line s name p))
          (once_asks (set.contains s.named name) name (chain_edit s.table name policy) (chain_edit_puts (is_built_in name) (is_none_word policy) (has_chain s.table name) name policy))
    ]

-- Words, by the first of them

abbrev by_first : Bool → Bool → Section → List ℕ → List (List ℕ) → Result Asked RestoreFault
by_first star colon s w ws = if star then Err NotAllowed else if colon then asked_of_chain s (drop 1 w) ws else asked_of_command (w ∷ ws)

first_is : (w first : List ℕ) (ws : List (List ℕ)) → slice_get (w ∷ ws) 0 ≡ Some first → w ≡ first
first_is w first ws e = ap (λ (o : Option (List ℕ)). unwrap_or o []) e

pub no_words_ask : (s : Section) (words : List (List ℕ)) → words ≡ [] → asks_put (asked_by s words) ≡ false
no_words_ask s words none = ap (λ (ws : List (List ℕ)). asks_put (asked_by s ws)) none

pub chain_words_ask : (s : Section) (words : List (List ℕ)) (first : List ℕ) → slice_get words 0 ≡ Some first → begins_with 42 first ≡ false → begins_with 58 first ≡ true → asks_put (asked_by s words) ≡ false
chain_words_ask s [] first e star colon = absurd (false≢true (ap is_some e))
chain_words_ask s (w ∷ ws) first e star colon =
    let same = first_is w first ws e in
    ap (λ b. asks_put (by_first b (begins_with 58 w) s w ws)) (ap (begins_with 42) same ∙ star)
    ∙ ap (λ b. asks_put (by_first false b s w ws)) (ap (begins_with 58) same ∙ colon) ∙ chain_asks s (drop 1 w) ws

pub other_words_ask : (s : Section) (words : List (List ℕ)) (first : List ℕ) → slice_get words 0 ≡ Some first → begins_with 42 first ≡ false → begins_with 58 first ≡ false → asks_put (asked_of_command words) ≡ asks_put (asked_by s words)
other_words_ask s [] first e star colon = absurd (false≢true (ap is_some e))
other_words_ask s (w ∷ ws) first e star colon =
    let same = first_is w first ws e in
    sym (ap (λ b. asks_put (by_first b (begins_with 58 w) s w ws)) (ap (begins_with 42) same ∙ star)
    ∙ ap (λ b. asks_put (by_first false b s w ws)) (ap (begins_with 58) same ∙ colon))

-- Lines

abbrev by_line : Bool → Bool → Section → List ℕ → Result Asked RestoreFault
by_line long quiet s line =
    if long then Err LineTooLong else if quiet then Ok asks_nothing else or_refused Quoting (words_of line) >>= λ words. asked_by s words

pub quiet_asks : (s : Section) (line : List ℕ) → is_too_long line ≡ false → is_quiet line ≡ true → asks_put (asked s line) ≡ false
unfolding asked
quiet_asks s line short quiet = ap (λ b. asks_put (by_line b (is_quiet line) s line)) short ∙ ap (λ b. asks_put (by_line false b s line)) quiet

pub words_ask : (s : Section) (line : List ℕ) (words : List (List ℕ)) → is_too_long line ≡ false → is_quiet line ≡ false → or_refused Quoting (words_of line) ≡ Ok words → asks_put (asked_by s words) ≡ asks_put (asked s line)
unfolding asked
words_ask s line words short loud read =
    sym (ap (λ b. asks_put (by_line b (is_quiet line) s line)) short ∙ ap (λ b. asks_put (by_line false b s line)) loud
    ∙ ap (λ (r : Result (List (List ℕ)) RestoreFault). asks_put (r >>= λ ws. asked_by s ws)) read)

-- a line of a section that isn't its `COMMIT`
pub section_line_puts : (state : SectionState) (s : Section) (line : List ℕ) → state ≡ Building s → is_commit line ≡ false → asks_put (asked s line) ≡ line_puts state line
section_line_puts state s line is other =
    sym (ap (λ (p : SectionState). line_puts p line) is ∙ ap (λ b. if b then false else asks_put (asked s line)) other)

-- and its `COMMIT`
pub commit_puts : (state : SectionState) (s : Section) (line : List ℕ) → state ≡ Building s → is_commit line ≡ true → line_puts state line ≡ false
commit_puts state s line is commit = ap (λ (p : SectionState). line_puts p line) is ∙ ap (λ b. if b then false else asks_put (asked s line)) commit
