-- Laws of the command line: its faults, and the subcommand that the words name.
use Rattle.std.proofs.Common.{◌≡◌, ◌≢◌, inl, inr, List, subst, sym, ap, ap₂, ◌∙◌, Bool, true, false, if◌then◌else◌, [], ◌∷◌, find, Option, Some, None, option_map, ◌⊎◌}
use Rattle.std.proofs.lemmas.Option.{same_Some}
use Rattle.clap.specs.Words.{App, HasKind, IsAmong, Kinds, Row, Text, fault_of, kind_of, HasMatchesOf, Shape, is_simple, subcommand_of, subcommand_name_of, subcommand_rows_of}
use Rattle.clap.specs.declared.error.Error.{Error}
use Rattle.clap.specs.declared.error.kind.ErrorKind.TheVariants.{OutOfMemory}
use Rattle.clap.specs.Simple.{argument_words, built, entered, label_of, names_of, rows_at}
use Rattle.clap.specs.Walk.{answers_to, stop_after}
use Rattle.clap.specs.declared.parser.matches.ArgMatches.{ArgMatches}
use Rattle.programs.specs.Line.{IsFaultOn, IsRefusal, StandsFor}
use Rattle.programs.specs.declared.line.fault.LineFault.{LineFault}
use Rattle.programs.specs.declared.line.fault.LineFault.TheVariants as faults

-- ---- The faults of a command line.

-- what is kept of an error that isn't one of memory has one of its kinds
kept_kind : (kinds : Kinds) (error kept : Error) → HasKind kinds error → kept ≡ error → kind_of error ≢ OutOfMemory → IsAmong (kind_of kept) kinds
kept_kind kinds error kept kind same other = elim kind [
  | inl memory ↦ absurd (other memory)
  | inr among ↦ subst (λ e. IsAmong (kind_of e) kinds) (sym same) among
]

-- a fault that stands for an error of some kinds is a refusal of these
pub stands_for_refusal : (kinds : Kinds) (error : Error) (fault : LineFault) → HasKind kinds error → StandsFor error fault → IsRefusal kinds fault
stands_for_refusal kinds error faults.NoMemory kind stands = search
stands_for_refusal kinds error faults.NoSubcommand kind stands = absurd stands
stands_for_refusal kinds error faults.NoFile kind stands = absurd stands
stands_for_refusal kinds error (faults.Refused kept) kind stands = kept_kind kinds error kept kind stands.0 stands.1

-- a refusal of the kinds of some words is a fault of theirs
pub refusal_is_fault : (program app : App) (LacksFile : Text → List Row → Type 0) (words : List Text) (fault : LineFault) → app ≡ program → IsRefusal (fault_of app words) fault → IsFaultOn program LacksFile words fault
refusal_is_fault program app LacksFile words faults.NoMemory is refusal = search
refusal_is_fault program app LacksFile words faults.NoSubcommand is refusal = absurd refusal
refusal_is_fault program app LacksFile words faults.NoFile is refusal = absurd refusal
refusal_is_fault program app LacksFile words (faults.Refused error) is refusal = subst (λ a. IsAmong (kind_of error) (fault_of a words)) is refusal

-- ---- The subcommand that the words name.

-- a value whose two halves are known
both_read : {X A B : Type 0} (h : X → A × B) (o : Option X) (a : A) (b : B) → Some a ≡ option_map (λ x. (h x).0) o
    → Some b ≡ option_map (λ (p : A × B). p.1) (option_map h o) → option_map h o ≡ Some (a, b)
both_read h None a b first second = cc
both_read {A = A} {B = B} h (Some x) a b first second =
    let pair : A → B → Option (A × B) = λ y z. Some (y, z) in
    sym (ap₂ pair (same_Some a (h x).0 first) (same_Some b (h x).1 second))

-- the subcommand that a parse met is the one that the words name
pub named_by_words : (program app : App) (words : List Text) (m : ArgMatches) (name : Text) (rows : List Row) → is_simple program ≡ true → app ≡ program
    → HasMatchesOf app words m → Some name ≡ subcommand_name_of m → Some rows ≡ option_map (λ (p : Text × List Row). p.1) (subcommand_rows_of m)
    → subcommand_of program words ≡ Some (name, rows)
named_by_words program app words m name rows simple is matches first second =
    sym (ap (λ a. subcommand_of a words) is) ∙ sym (matches (ap is_simple is ∙ simple)).1 ∙ both_read _ _ _ _ first second

-- words that a parse takes have no fault
pub taken_words : (program app : App) (words : List Text) → app ≡ program → fault_of app words ≡ [] → fault_of program words ≡ []
taken_words program app words is taken = sym (ap (λ a. fault_of a words) is) ∙ taken

-- the name is that of one of the shapes
abbrev pub IsNamed : List Shape → Text → Type 0
IsNamed [] name = ⊥
IsNamed (s ∷ []) name = name ≡ s.name
IsNamed (s ∷ t ∷ more) name = (name ≡ s.name) ⊎ IsNamed (t ∷ more) name

-- what is met is the first shape, or one after it
first_or_later : (x : Bool) (s : Shape) (later : Option Shape) (words : List Text) (met : Text × List Row)
    → option_map (λ r. rows_at r words) (if x then Some s else later) ≡ Some met
    → (met.0 ≡ s.name) ⊎ (option_map (λ r. rows_at r words) later ≡ Some met)
first_or_later true s later words met e = inl (sym (ap (λ (p : Text × List Row). p.0) (same_Some _ _ e)))
first_or_later false s later words met e = inr e

-- what is met has the name of a shape
found_is_named : (test : Shape → Bool) (shapes : List Shape) (words : List Text) (met : Text × List Row)
    → option_map (λ r. rows_at r words) (find test shapes) ≡ Some met → IsNamed shapes met.0
found_is_named test [] words met e = absurd (cc)
found_is_named test (s ∷ []) words met e = elim (first_or_later (test s) s None words met e) [
  | inl first ↦ first
  | inr later ↦ absurd (cc)
]
found_is_named test (s ∷ t ∷ more) words met e = elim (first_or_later (test s) s (find test (t ∷ more)) words met e) [
  | inl first ↦ inl first
  | inr later ↦ inr (found_is_named test (t ∷ more) words met later)
]

-- what is entered is one of the program's subcommands
entered_is_named : (program : App) (stop : Option (Text × List Text)) (met : Text × List Row) → entered program stop ≡ Some met → IsNamed program.subs met.0
entered_is_named program None met e = absurd (cc)
entered_is_named program (Some p) met e = found_is_named (λ s. answers_to p.0 (label_of s)) program.subs p.1 met e

-- the words name no other subcommand
pub named_is_known : (program : App) (words : List Text) (met : Text × List Row) → subcommand_of program words ≡ Some met → IsNamed (built program).subs met.0
named_is_known program words met e = entered_is_named (built program) (stop_after (built program).top.rules (names_of (built program)) (argument_words program words)) met e
