-- What a rule asks beyond what the program reads (iptables-extensions(8)).
use Rattle.std.specs.Prelude.{◌≡◌, ◌≢◌, All, Contains, ℕ, Bool, true, false, not, ◌&&◌, ◌||◌, List, [], ◌∷◌, ◌++◌, length, flat_map, filter, if◌then◌else◌, codes, Option, Some, None, ◌==◌}
use Rattle.std.specs.List.{list_any}
use Rattle.dumps.specs.Options.{Row, Extension, Table, extension_of, is_role, is_match}
use Rattle.dumps.specs.Parts.{Part, spelled_words, target_of, value_of, IsTakenApart}
use Rattle.dumps.specs.Own.{is_read, is_of, begins, up_to_next}
use Rattle.dumps.specs.declared.options.row.Role.TheVariants as role
use Rattle.dumps.specs.declared.options.row.Kind.{Kind}
use Rattle.dumps.specs.declared.options.row.Kind.TheVariants as kind
use Rattle.dumps.specs.declared.options.row.Lasting.{Lasting}
use Rattle.dumps.specs.declared.options.row.Lasting.TheVariants as lasting

-- a condition: the name of its match, or `protocol`; what it asks, which targets may set; of which uses it is one; the words after the name; and whether
-- the rule needs that it doesn't hold
pub record Condition : Type 0 where
  pub name : List ℕ
  pub asks : List ℕ
  pub lasting : Lasting
  pub words : List (List ℕ)
  pub inverted : Bool

-- the part asks by itself: its option isn't one that only says more of another, or turns it
abbrev pub asks : Part → Bool
asks part = not (is_role role.Says part.row.role || (is_role role.Turns part.row.role || is_role role.Sets part.row.role))

-- A `!` before the part asks the opposite of what it asks without. Of a port that the program doesn't read, and of a type of ICMP, it doesn't:
-- a later fragment has none, so that neither holds (iptables-extensions(8), multiport, tcp, icmp).
abbrev pub is_opposed : Part → Bool
is_opposed part = is_role role.Asks part.row.role || (is_role role.AsksOf part.row.role || is_role role.Holds part.row.role)

-- the part turns what its match asks
abbrev pub turns : Part → Bool
turns part = is_role role.Turns part.row.role

-- what the part asks always holds
abbrev pub holds : Part → Bool
holds part = is_role role.Holds part.row.role

-- just one of the parts asks
abbrev pub is_single : List Part → Bool
is_single [] = false
is_single (part ∷ parts) = if asks part then not (list_any asks parts) else is_single parts

-- one is so, and the other isn't
abbrev pub differ : Bool → Bool → Bool
differ true b = not b
differ false b = b

-- a condition is inverted by a `!` before its only part that asks, where this asks the opposite, or by a part that turns it; both together
-- leave it as it is
abbrev pub is_inverted : List Part → Bool
is_inverted parts = differ (is_single parts && list_any (λ part. is_opposed part && part.inverted) parts) (list_any turns parts)

-- the words of a part in the text of a condition: without the `!` or the part that inverts the condition
abbrev pub text_words : Bool → Part → List (List ℕ)
text_words single part =
    if turns part then [] else spelled_words (part.inverted && not (single && is_opposed part)) part.option part.values

-- a thing by its name: a blank (32) stands before it, with which no name of a match begins
abbrev pub named_thing : List ℕ → List ℕ
named_thing name = 32 ∷ name

-- what some parts ask of a match: the thing that the first of them names which names one, or else what the match asks at all
abbrev pub asked_thing : List ℕ → List Part → List ℕ
asked_thing name [] = name
asked_thing name (part ∷ parts) = if is_role role.AsksOf part.row.role then named_thing (value_of part) else asked_thing name parts

-- the part asks how often packets before had its match
abbrev pub counts : Part → Bool
counts part = is_role role.Counts part.row.role

-- of which uses a condition is one: what packets before had is one of its place
abbrev pub lasting_by : List Part → Lasting → Lasting
lasting_by parts lasts = if list_any counts parts then lasting.Place else lasts

-- the condition that some parts ask of a match
abbrev pub condition_of : List ℕ → Lasting → List Part → Condition
condition_of name lasts parts =
    record {
      name = name;
      asks = asked_thing name parts;
      lasting = lasting_by parts lasts;
      words = flat_map (text_words (is_single parts)) parts;
      inverted = is_inverted parts;
    }

-- their only part that asks always holds
abbrev pub always_hold : List Part → Bool
always_hold parts = is_single parts && list_any holds parts && not (is_inverted parts)

-- that condition, unless it always holds
abbrev pub unless_always : List ℕ → Lasting → List Part → List Condition
unless_always name lasting parts = if always_hold parts then [] else condition_of name lasting parts ∷ []

-- what these parts, of which it doesn't read all, ask of a match: where the program doesn't read the match, it asks a condition without
-- parts too
abbrev pub asked_as : List ℕ → List Part → Kind → List Condition
asked_as name parts (kind.Known alone) = if length parts == 0 then [] else unless_always name lasting.Place parts
asked_as name parts (kind.Foreign lasts) = unless_always name lasts parts
asked_as name parts kind.Ends = []
asked_as name parts kind.Logs = []
asked_as name parts kind.Passes = []
asked_as name parts (kind.Decides all) = []

-- the same where the table has a match or target of this name; else nothing is asked
abbrev pub asked_of : List ℕ → List Part → Option Extension → List Condition
asked_of name parts None = []
asked_of name parts (Some row) = asked_as name parts row.kind

-- the part is an option of this match that the program doesn't read
abbrev pub is_unread : Table → List ℕ → Part → Bool
is_unread table name part = is_of name part && not (is_read table part)

-- All options of a match, if the program doesn't read one of them; else none. Those that it reads are among them, since what a match asks by
-- some may depend on the others: `-m conntrack --ctstate INVALID --ctproto tcp` holds of each packet without a connection.
abbrev pub asked_options : Table → List ℕ → List Part → List Part
asked_options table name parts = if list_any (is_unread table name) parts then filter (is_of name) parts else []

-- what a match asks whose parts are among these, up to where it is begun again
abbrev pub asked_by : Table → List ℕ → List Part → List Condition
asked_by table name parts = asked_of name (asked_options table name (up_to_next name parts)) (extension_of table.extensions name)

-- a match of this name was begun, or an option of it given
abbrev pub is_there : List ℕ → List Part → Bool
is_there name parts = list_any (λ part. begins name part || is_of name part) parts

-- what the match of this name asks that an option begins without `-m`, the first of the parts
abbrev pub implied_by : Table → List Part → List ℕ → List Part → List Condition
implied_by table before name parts = if length name == 0 || is_there name before then [] else asked_by table name parts

-- the condition that a protocol is
abbrev pub protocol_condition : Part → Condition
protocol_condition part =
    record { name = codes "protocol"; asks = codes "protocol"; lasting = lasting.Text; words = value_of part ∷ []; inverted = part.inverted }

-- what the match asks that the first of some parts begins, after the parts before it
abbrev pub asked_first : Table → List Part → List Part → List Condition
asked_first table before [] = []
asked_first table before (part ∷ after) =
    if is_role role.Match part.row.role then asked_by table (value_of part) after
    else if is_role role.Protocol part.row.role then (if is_read table part then [] else protocol_condition part ∷ [])
    else implied_by table before part.row.owner (part ∷ after)

-- the conditions of the parts after some, in the order in which their matches begin
abbrev pub conditions_after : Table → List Part → List Part → List Condition
conditions_after table before [] = []
conditions_after table before (part ∷ parts) =
    asked_first table before (part ∷ parts) ++ conditions_after table (before ++ part ∷ []) parts

-- a target that decides some packets alone, and whose others go on with the next rule: that it takes one is a condition of its place
abbrev pub taken_as : List ℕ → List Part → Kind → List Condition
taken_as name parts (kind.Decides all) = if all then [] else condition_of name lasting.Place (filter (is_of name) parts) ∷ []
taken_as name parts (kind.Known alone) = []
taken_as name parts (kind.Foreign lasts) = []
taken_as name parts kind.Ends = []
taken_as name parts kind.Logs = []
taken_as name parts kind.Passes = []

-- the same of the target of some parts, if they have one
abbrev pub taken_by : List Part → Option Extension → List Condition
taken_by parts None = []
taken_by parts (Some row) = taken_as row.name parts row.kind

-- the conditions of a line: those of its matches, and that of its target
abbrev pub conditions : Table → List Part → List Condition
conditions table parts = conditions_after table [] parts ++ taken_by parts (target_of table parts)

-- of some options those that begin a match or give a protocol are the rule's own
abbrev pub AreOwnStarts : List Row → Type 0
AreOwnStarts rows = All (λ (row : Row). (is_role role.Match row.role || is_role role.Protocol row.role) ≡ true → row.owner ≡ []) rows

-- in the table `-m` and `-p` are the rule's own
abbrev pub HasOwnStarts : Table → Type 0
HasOwnStarts table = AreOwnStarts table.options

-- how long a condition lasts that the options of a match ask which the program doesn't read: where it reads the match, one place
abbrev pub lasting_of : Kind → Option Lasting
lasting_of (kind.Known alone) = Some lasting.Place
lasting_of (kind.Foreign lasts) = Some lasts
lasting_of kind.Ends = None
lasting_of kind.Logs = None
lasting_of kind.Passes = None
lasting_of (kind.Decides all) = None

-- What becomes of an option that the program doesn't read, by the match or target that has it and the options of it that stand together:
-- these ask a condition of the line; or the only one of them that asks always holds, and no `!` stands before it; or it says what a target
-- does, which is no condition.
pub data IsAccounted (table : Table) (all : List Condition) (owner : Extension) (parts : List Part) : Type 0 where
  Asks : (lasts : Lasting) → lasting_of owner.kind ≡ Some lasts → Contains all (condition_of owner.name lasts parts) → IsAccounted table all owner parts
  Holds : is_match owner.kind ≡ true → always_hold parts ≡ true → IsAccounted table all owner parts
  OfTarget : is_match owner.kind ≡ false → IsAccounted table all owner parts

-- An option is accounted for with the others of its match or target, from some place up to where the match is begun again; and the table
-- has that match or target.
pub record IsNotLost (table : Table) (line : List Part) (part : Part) (all : List Condition) : Type 0 where
  pub owner : Extension
  pub its : extension_of table.extensions part.row.owner ≡ Some owner
  pub before : List Part
  pub from : List Part
  pub split : line ≡ before ++ from
  pub has : Contains (asked_options table owner.name (up_to_next owner.name from)) part
  pub accounted : IsAccounted table all owner (asked_options table owner.name (up_to_next owner.name from))

-- no option of a match or a target is lost that the program doesn't read
abbrev pub OptionsAreKept : Type 0
OptionsAreKept =
    (table : Table) (words : List (List ℕ)) (before after : List Part) (part : Part) → HasOwnStarts table
    → IsTakenApart table words (before ++ part ∷ after) → is_read table part ≡ false → part.row.owner ≢ []
    → IsNotLost table (before ++ part ∷ after) part (conditions table (before ++ part ∷ after))

-- what a match asks that `-m` begins is among the conditions, also where it has no option
abbrev pub MatchesAreAsked : Type 0
MatchesAreAsked =
    (table : Table) (before after : List Part) (name : List ℕ) (start : Part) → begins name start ≡ true
    → All (Contains (conditions table (before ++ start ∷ after))) (asked_by table name after)

-- each protocol that the program doesn't read is a condition
abbrev pub ProtocolsAreAsked : Type 0
ProtocolsAreAsked =
    (table : Table) (before after : List Part) (part : Part) → is_role role.Protocol part.row.role ≡ true
    → is_read table part ≡ false → Contains (conditions table (before ++ part ∷ after)) (protocol_condition part)

-- nothing that the program doesn't read is lost
pub record NothingIsLost : Type 0 where
  pub options : OptionsAreKept
  pub matches : MatchesAreAsked
  pub protocols : ProtocolsAreAsked
