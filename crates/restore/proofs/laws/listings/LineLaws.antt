-- What the lines of a listing ask, that they are done where the table lets them, and lines done one after another.
use Rattle.std.proofs.Common.{◌≡◌, ℕ, suc, ◌-◌, false, cond, List, [], ◌∷◌, ◌++◌, length, take, drop, sym, ap, subst, ◌∙◌, arith, ◌≤◌, Bool, true, ◌&&◌, not, Option, Some, None, refl}
use Rattle.std.specs.Prelude.{Result, Ok, Err, codes, nat_lt, nat_le, All}
use Rattle.std.proofs.Math.Seq.{take-append_seam}
use Rattle.std.proofs.lemmas.List.{length-append}
use Rattle.std.proofs.lemmas.Bool.{and_parts, cond-true, leb-true, le-ltb}
use Rattle.std.proofs.lemmas.List.Elements.{All-cons, All-nil}
use Rattle.std.specs.FinSet as set
use Rattle.table.specs.chains.Table.{Table, has_chain, is_built_in}
use Rattle.rules.proofs.laws.printing.TextLaws.{bare-from}
use Rattle.fields.specs.text.Line.{IsOneLine}
use Rattle.fields.specs.text.Printed.{Shown, bare, IsBareWord, IsPrintable}
use Rattle.fields.specs.text.Words.{words_of}
use Rattle.fields.specs.values.Name.{has_name_form, is_name, is_target_word, name_of}
use Rattle.fields.proofs.laws.text.PrintedLaws.{found_line, words_of-spaced_all}
use Rattle.fields.proofs.laws.values.BareLaws.{name_is_bare}
use Rattle.rules.specs.Printing.{rule_text, IsListedLine}
use Rattle.rules.specs.reading.Steps.{rule_of}
use Rattle.rules.specs.rule.Rules.{Rule}
use Rattle.rules.specs.declared.reading.fault.Refusal.{Refusal}
use Rattle.table.specs.edits.Edits.{Edit, Append, Flush, NewChain, SetPolicy, step}
use Rattle.table.specs.edits.Headline.{policy_text}
use Rattle.table.specs.declared.fault.TableFault.{TableFault}
use Rattle.table.specs.declared.policy.Policy.{Policy}
use Rattle.table.specs.declared.policy.Policy.TheVariants.{Accept, Drop}
use Rattle.restore.specs.Sequence.{◌>>=◌, made_into, or_refused, refused_as}
use Rattle.restore.specs.sections.Section.{RestoreFault, LineTooLong, Section, inside, is_too_long, line_in, lines_in, Command, OfTable, BadChainLine, DuplicateChainLine, Quoting, Asked, asked, asked_by, asks_nothing, by_chain_line, by_command, chain_edit, chain_line, done, is_none_word, is_quiet, may_be_policy, with_name}
use Rattle.restore.specs.sections.Restore.{Restore, Restoring, SectionState, Between, Building, committed, is_commit, line_at, moved, restore_line, restore_lines}
use Rattle.restore.specs.commands.Command.{CommandFault}
use Rattle.restore.specs.commands.CommandForms.{edit_of, or_second, refused}
use Rattle.restore.specs.Listing.{policy_word}

-- ---- Lines of a section that are done one after another, in a section and in a restore.

-- a line is done in a section
pub record IsDone (s : Section) (line : List ℕ) (next : Section) : Type 0 where
  pub short : is_too_long line ≡ false
  pub within : is_commit line ≡ false
  pub done : line_in s line ≡ Ok next

-- and lines, one after another
abbrev pub Runs : Section → List (List ℕ) → Section → Type 0
Runs s [] last = s ≡ last
Runs s (line ∷ lines) last = (next : Section) × IsDone s line next × Runs next lines last

pub runs_append : (s mid last : Section) (xs ys : List (List ℕ)) → Runs s xs mid → Runs mid ys last → Runs s (xs ++ ys) last
runs_append s mid last [] ys first second = let P : Section → Type 0 = λ q. Runs q ys last in subst P (sym first) second
runs_append s mid last (x ∷ xs) ys (next, is, more) second = (next, is, runs_append next mid last xs ys more second)

pub runs_in_section : (s last : Section) (lines : List (List ℕ)) → Runs s lines last → lines_in s lines ≡ Ok last
runs_in_section s last [] runs = ap Ok runs
runs_in_section s last (x ∷ xs) (next, is, more) =
    ap (λ (q : Result Section RestoreFault). q >>= λ m. lines_in m xs) is.done ∙ runs_in_section next last xs more

-- a restore stands there, with this table in place
abbrev pub standing : Table → SectionState → Restoring
standing t state = record { table = t; restore = record { noflush = false; test = false; state = state } }

line_built : (t : Table) (s next : Section) (line : List ℕ) → IsDone s line next
    → restore_line (standing t (Building s)).restore t line ≡ Ok (standing t (Building next))
unfolding restore_line
line_built t s next line is =
    let r : Restore = (standing t (Building s)).restore in
    ap (λ b. cond b (Err LineTooLong) (line_at (Building s) r t line)) is.short
    ∙ ap (λ b. cond b (Ok (moved (committed r.test t s) r Between)) (made_into (λ (q : Section). moved t r (Building q)) (line_in s line))) is.within
    ∙ ap (made_into (λ (q : Section). moved t r (Building q))) is.done

pub runs_in_restore : (t : Table) (s last : Section) (lines rest : List (List ℕ)) → Runs s lines last
    → restore_lines (standing t (Building s)) (lines ++ rest) ≡ restore_lines (standing t (Building last)) rest
runs_in_restore t s last [] rest runs = ap (λ (q : Section). restore_lines (standing t (Building q)) rest) runs
runs_in_restore t s last (x ∷ xs) rest (next, is, more) =
    ap (λ (q : Result Restoring RestoreFault). q >>= λ m. restore_lines m (xs ++ rest)) (line_built t s next x is) ∙ runs_in_restore t next last xs rest more

-- what stands between the first and the last
pub inside_is : {A : Type 0} (first last : A) (xs : List A) → inside (first ∷ (xs ++ last ∷ [])) ≡ xs
inside_is first last xs =
    let long : length (first ∷ (xs ++ last ∷ [])) - 1 ≡ suc (length xs) = omega (arith, length-append xs (last ∷ [])) in
    ap (λ n. drop 1 (take n (first ∷ (xs ++ last ∷ [])))) long ∙ take-append_seam xs (last ∷ [])

-- ---- What the lines of a listing ask, and that they are done where the table lets them.

-- Any line

asked_words : (s : Section) (line : List ℕ) (words : List (List ℕ)) → is_too_long line ≡ false → is_quiet line ≡ false → words_of line ≡ Some words
    → asked s line ≡ asked_by s words
unfolding asked
asked_words s line words short loud cut =
    let by : Result Asked RestoreFault = or_refused Quoting (words_of line) >>= λ ws. asked_by s ws in
    ap (λ b. cond b (Err LineTooLong) (cond (is_quiet line) (Ok asks_nothing) by)) short
    ∙ ap (λ b. cond b (Ok asks_nothing) by) loud
    ∙ ap (λ (o : Option (List (List ℕ))). or_refused Quoting o >>= λ ws. asked_by s ws) cut

-- a line whose words ask an edit that the table does
line_done : (s : Section) (line : List ℕ) (words : List (List ℕ)) (edit : Edit) (name : Option (List ℕ)) (t : Table) → is_too_long line ≡ false
    → is_quiet line ≡ false → words_of line ≡ Some words
    → asked_by s words ≡ Ok (record { edit = Some edit; name = name }) → step edit s.table ≡ Ok t
    → line_in s line ≡ Ok (record { table = t; named = with_name name s.named })
line_done s line words edit name t short loud cut asks does =
    ap (done s) (asked_words s line words short loud cut ∙ asks)
    ∙ ap (λ (q : Result Table TableFault). refused_as OfTable q >>= λ next. Ok (record { table = next; named = with_name name s.named })) does

-- Words

name_bare : (name : List ℕ) → is_name name ≡ true → IsBareWord name
unfolding name_of
name_bare name is = name_is_bare name (cond-true (is_name name) _ _ is)

pub name_short : (name : List ℕ) → is_name name ≡ true → length name ≤ 28
name_short name is =
    let form = (and_parts (has_name_form name) (not (is_target_word name)) is).0 in
    let a = (and_parts _ _ form).0 in
    let b = (and_parts _ _ a).0 in
    let c = (and_parts _ _ b).0 in
    leb-true (length name) 28 (and_parts (nat_lt 0 (length name)) (nat_le (length name) 28) c).1

word_bare : (o : Option Policy) → IsBareWord (policy_word o)
word_bare None = bare-from (codes "-") refl
word_bare (Some Accept) = bare-from (codes "ACCEPT") refl
word_bare (Some Drop) = bare-from (codes "DROP") refl

word_short : (o : Option Policy) → length (policy_word o) ≤ 6
word_short None = omega arith
word_short (Some Accept) = omega arith
word_short (Some Drop) = omega arith

-- Chain lines

-- `:INPUT ACCEPT [0:0]`, without the newline
abbrev pub chain_text : List ℕ → Option Policy → List ℕ
chain_text name o = codes ":" ++ (name ++ (codes " " ++ (policy_word o ++ codes " [0:0]")))

-- a built-in chain has a policy, and no other chain has one
abbrev pub HasPolicy : List ℕ → Option Policy → Type 0
HasPolicy name None = is_built_in name ≡ false
HasPolicy name (Some p) = is_built_in name ≡ true

abbrev chain_words : List ℕ → Option Policy → List (List ℕ)
chain_words name o = (58 ∷ name) ∷ policy_word o ∷ codes "[0:0]" ∷ []

abbrev shown_chain : List ℕ → Option Policy → List Shown
shown_chain name o = bare (58 ∷ name) ∷ bare (policy_word o) ∷ bare (codes "[0:0]") ∷ []

colon_bare : (name : List ℕ) → IsBareWord name → IsBareWord (58 ∷ name)
colon_bare name is = record { some = λ e. cc; bytes = is.bytes }

pub chain_cut : (name : List ℕ) (o : Option Policy) → is_name name ≡ true → words_of (chain_text name o) ≡ Some (chain_words name o)
chain_cut name o is =
    let last : All IsPrintable (bare (codes "[0:0]") ∷ []) =
    All-cons IsPrintable (bare (codes "[0:0]")) [] (bare-from (codes "[0:0]") refl) (All-nil IsPrintable) in
    words_of-spaced_all (shown_chain name o)
    (All-cons IsPrintable (bare (58 ∷ name)) (bare (policy_word o) ∷ bare (codes "[0:0]") ∷ []) (colon_bare name (name_bare name is))
    (All-cons IsPrintable (bare (policy_word o)) (bare (codes "[0:0]") ∷ []) (word_bare o) last))

pub chain_one_line : (name : List ℕ) (o : Option Policy) → is_name name ≡ true → IsOneLine (chain_text name o)
chain_one_line name o is = found_line (chain_words name o) (chain_text name o) (chain_cut name o is)

chain_short : (name : List ℕ) (o : Option Policy) → is_name name ≡ true → is_too_long (chain_text name o) ≡ false
chain_short name o is =
    let few = name_short name is in
    let word = word_short o in
    let last : length (codes " [0:0]") ≡ 6 = refl in
    let inner = length-append (policy_word o) (codes " [0:0]") in
    let outer = length-append name (codes " " ++ (policy_word o ++ codes " [0:0]")) in
    le-ltb 10240 (length (chain_text name o)) (omega (arith, few, word, last, inner, outer))

-- a word that a chain of the name may have
may_have : (name : List ℕ) (o : Option Policy) → HasPolicy name o → may_be_policy name (policy_word o) ≡ true
may_have name None has = refl
may_have name (Some Accept) has = ap (λ b. b && true) has
may_have name (Some Drop) has = ap (λ b. b && true) has

chain_asks : (s : Section) (name : List ℕ) (o : Option Policy) (edit : Edit) → HasPolicy name o → set.contains s.named name ≡ false
    → chain_edit s.table name (policy_word o) ≡ Some edit
    → asked_by s (chain_words name o) ≡ Ok (by_chain_line name (Some edit))
chain_asks s name o edit has new is =
    let word : List ℕ = policy_word o in
    ap (λ b. cond b (Ok word) (Err BadChainLine) >>= λ p. made_into (by_chain_line name) (chain_line s name p)) (may_have name o has)
    ∙ ap (λ b. made_into (by_chain_line name) (cond b (Err DuplicateChainLine) (Ok (chain_edit s.table name word)))) new
    ∙ ap (λ (e : Option Edit). Ok (by_chain_line name e)) is

chain_done : (s : Section) (name : List ℕ) (o : Option Policy) (edit : Edit) (t : Table) → is_name name ≡ true → HasPolicy name o
    → set.contains s.named name ≡ false
    → chain_edit s.table name (policy_word o) ≡ Some edit → step edit s.table ≡ Ok t
    → IsDone s (chain_text name o) (record { table = t; named = set.insert s.named name })
chain_done s name o edit t is has new asks does = record {
  short = chain_short name o is;
  within = refl;
  done = line_done s (chain_text name o) (chain_words name o) edit (Some name) t (chain_short name o is) refl (chain_cut name o is)
      (chain_asks s name o edit has new asks) does;
}

policy_asked : (t : Table) (name : List ℕ) (p : Policy) → is_built_in name ≡ true → chain_edit t name (policy_text p) ≡ Some (SetPolicy name (policy_text p))
policy_asked t name p own =
    let user : Option Edit = cond (has_chain t name) (Some (Flush name)) (Some (NewChain name)) in
    ap (λ b. cond b (cond (is_none_word (policy_text p)) None (Some (SetPolicy name (policy_text p)))) user) own ∙ is_some_word p
  where
    is_some_word : (p : Policy) → cond (is_none_word (policy_text p)) None (Some (SetPolicy name (policy_text p))) ≡ Some (SetPolicy name (policy_text p))
    is_some_word Accept = refl
    is_some_word Drop = refl

new_asked : (t : Table) (name : List ℕ) → is_built_in name ≡ false → has_chain t name ≡ false → chain_edit t name (codes "-") ≡ Some (NewChain name)
new_asked t name user new =
    let asks : Bool → Option Edit = λ there. cond there (Some (Flush name)) (Some (NewChain name)) in
    ap (λ b. cond b None (asks (has_chain t name))) user ∙ ap asks new

-- the chain line of a built-in chain sets its policy
pub policy_done : (s : Section) (name : List ℕ) (p : Policy) (t : Table) → is_name name ≡ true → is_built_in name ≡ true → set.contains s.named name ≡ false
    → step (SetPolicy name (policy_text p)) s.table ≡ Ok t
    → IsDone s (chain_text name (Some p)) (record { table = t; named = set.insert s.named name })
policy_done s name p t is own new does = chain_done s name (Some p) (SetPolicy name (policy_text p)) t is own new (policy_asked s.table name p own) does

-- that of a user chain makes it
pub new_done : (s : Section) (name : List ℕ) (t : Table) → is_name name ≡ true → is_built_in name ≡ false → has_chain s.table name ≡ false
    → set.contains s.named name ≡ false → step (NewChain name) s.table ≡ Ok t
    → IsDone s (chain_text name None) (record { table = t; named = set.insert s.named name })
new_done s name t is user there new does = chain_done s name None (NewChain name) t is user new (new_asked s.table name user there) does

-- Rule lines

-- `-A INPUT`, and the rule, without the newline
abbrev pub rule_line_text : List ℕ → Rule → List ℕ
rule_line_text name r = codes "-A " ++ (name ++ rule_text r)

append_of : (end : ℕ) (name : List ℕ) (words : List (List ℕ)) (r : Rule) → rule_of end words ≡ Ok r
    → edit_of end (codes "-A" ∷ name ∷ words) ≡ Ok (Append name r)
unfolding edit_of
append_of end name words r read =
    ap (λ (q : Result Rule Refusal). refused_as (or_second end (codes "-A" ∷ name ∷ words)) (refused_as refused q >>= λ x. Ok (Append name x))) read

rule_asks : (s : Section) (name : List ℕ) (words : List (List ℕ)) (r : Rule) → ((end : ℕ) → rule_of end words ≡ Ok r)
    → asked_by s (codes "-A" ∷ name ∷ words) ≡ Ok (by_command (Append name r))
rule_asks s name words r read =
    let end : ℕ = length (codes "-A" ∷ name ∷ words) in
    ap (λ (q : Result Edit CommandFault). refused_as Command (made_into by_command q)) (append_of end name words r (read end))

-- the line of a rule appends it
pub rule_done : (s : Section) (name : List ℕ) (r : Rule) (t : Table) → IsListedLine name r → step (Append name r) s.table ≡ Ok t
    → IsDone s (rule_line_text name r) (record { table = t; named = s.named })
rule_done s name r t is does =
    let few = is.short in
    let short : is_too_long (rule_line_text name r) ≡ false = le-ltb 10240 (length (rule_line_text name r)) (omega (arith, few)) in
    record {
      short = short;
      within = refl;
      done = line_done s (rule_line_text name r) (codes "-A" ∷ name ∷ is.words) (Append name r) None t short refl is.cut
          (rule_asks s name is.words r is.read) does;
    }
