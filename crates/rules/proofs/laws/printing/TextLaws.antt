-- The text of a readable rule is cut into its words, and is short.
use Prim.Native.Nat.{zero, suc}
use Rattle.rules.proofs.laws.reading.Readable.{false-true, value_room, ReadsBack, Each, Rises, IsGroup, OfRule, OfMatch, OfAction, ActionBack, IsMatch, IsLegal}
use Rattle.std.proofs.Common.{◌≡◌, ℕ, ◌+◌, ◌*◌, ◌≤◌, Bool, true, false, ◌||◌, not, List, [], ◌∷◌, ◌++◌, length, get_or, flat_map, Option, None, Some, refl, sym, ap, ◌∙◌, arith, length-append}
use Rattle.std.specs.Prelude.{codes, nat_lt, nat_le, ◌≢◌}
use Rattle.std.specs.List.{list_all, All}
use Rattle.std.proofs.lemmas.Bool.{and_parts, leb-true, ltb-true}
use Rattle.std.proofs.lemmas.Grind.{flat_map-append}
use Rattle.std.proofs.lemmas.List.Elements.{All-append, All-nil}
use Rattle.fields.specs.text.Words.{is_bare, words_of}
use Rattle.fields.specs.text.Printed.{Shown, bare, spelling, spaced, spaced_all, IsBareWord, IsPrintable, ArePrintable}
use Rattle.fields.proofs.laws.values.BareLaws.{some-bytes, is_bare_word}
use Rattle.fields.proofs.laws.text.PrintedLaws.{words_of-spaced_all}
use Rattle.rules.specs.options.Matches.{kind_name}
use Rattle.rules.specs.options.Options.{all_options, name_of, may_be_inverted, owner, slot, kind_has}
use Rattle.rules.specs.options.OptionValues.{option_of_value, slot_of}
use Rattle.rules.specs.rule.Actions.{is_action_of}
use Rattle.rules.specs.rule.Rules.{Match, Rule}
use Rattle.rules.specs.Printing.{one, shown_value, shown_bang, shown_option_value, shown_option_values, shown_match, shown_action, shown_rule, rule_text}
use Rattle.rules.specs.declared.rule.action.Action.{Action}
use Rattle.rules.specs.declared.rule.action.Action.TheVariants as action
use Rattle.rules.specs.declared.options.match_kind.MatchKind.{MatchKind}
use Rattle.rules.specs.declared.options.match_kind.MatchKind.TheVariants as kind
use Rattle.rules.specs.declared.options.option.Opt.{Opt}
use Rattle.rules.specs.declared.options.option.Owner.{Owner}
use Rattle.rules.specs.declared.options.option.Owner.TheVariants as owned
use Rattle.rules.specs.declared.options.option_value.OptionValue.{OptionValue}
use Rattle.rules.proofs.laws.options.TableLaws.{plain, each_option, each_kind}
use Rattle.rules.proofs.laws.options.WordForms.{name-word}

-- words that are spelled
no-words : ArePrintable []
no-words k d within = absurd (omega arith)

pub word-more : (w : Shown) (ws : List Shown) → IsPrintable w → ArePrintable ws → ArePrintable (w ∷ ws)
word-more w ws is are zero d within = is
word-more w ws is are (suc k) d within = are k d (omega arith)

words-more : (xs ys : List Shown) → ArePrintable xs → ArePrintable ys → ArePrintable (xs ++ ys)
words-more xs ys a b = All-append IsPrintable xs ys a b

pub bare-from : (text : List ℕ) → is_bare_word text ≡ true → IsBareWord text
bare-from text is =
    let (some, bytes) = and_parts (nat_lt 0 (length text)) (list_all is_bare text) is in
    record { some = some-bytes text (ltb-true 0 (length text) some); bytes = bytes }

name-bare : (o : Opt) → IsBareWord (name_of o)
name-bare o = bare-from (name_of o) (each_option (λ o. is_bare_word (name_of o)) refl o)

kind-bare : (k : MatchKind) → IsBareWord (kind_name k)
kind-bare k = bare-from (kind_name k) (each_kind (λ k. is_bare_word (kind_name k)) refl k)

option_value-spelled : (s : OptionValue) → ReadsBack s → ArePrintable (shown_option_value s)
option_value-spelled s back = words-more (shown_bang s.inverted) (bare (name_of (option_of_value s.value)) ∷ shown_value s.value) (bang s.inverted)
    (word-more (bare (name_of (option_of_value s.value))) (shown_value s.value) (name-bare (option_of_value s.value)) back.spelled)
  where
    bang : (b : Bool) → ArePrintable (shown_bang b)
    bang true = word-more (bare (codes "!")) [] (bare-from (codes "!") refl) no-words
    bang false = no-words

option_values-spelled : (ss : List OptionValue) → Each ReadsBack ss → ArePrintable (shown_option_values ss)
option_values-spelled [] back = no-words
option_values-spelled (s ∷ ss) back = words-more (shown_option_value s) (shown_option_values ss) (option_value-spelled s back.0) (option_values-spelled ss back.1)

matches-spelled : (ms : List Match) → Each IsMatch ms → ArePrintable (flat_map shown_match ms)
matches-spelled [] are = no-words
matches-spelled (m ∷ ms) are =
    words-more (shown_match m) (flat_map shown_match ms)
    (word-more (bare (codes "-m")) (bare (kind_name m.kind) ∷ shown_option_values m.option_values) (bare-from (codes "-m") refl) (word-more (bare (kind_name m.kind)) (shown_option_values m.option_values) (kind-bare m.kind) (option_values-spelled m.option_values are.0.back)))
    (matches-spelled ms are.1)

two-words : (a b : List ℕ) → IsBareWord a → IsBareWord b → ArePrintable (bare a ∷ one b)
two-words a b is are = word-more (bare a) (one b) is (word-more (bare b) [] are no-words)

action-spelled : (g : Option Action) → ActionBack g → ArePrintable (shown_action g)
action-spelled None back = no-words
action-spelled (Some action.Accept) back = two-words (codes "-j") (codes "ACCEPT") (bare-from (codes "-j") refl) (bare-from (codes "ACCEPT") refl)
action-spelled (Some action.Drop) back = two-words (codes "-j") (codes "DROP") (bare-from (codes "-j") refl) (bare-from (codes "DROP") refl)
action-spelled (Some action.Return) back = two-words (codes "-j") (codes "RETURN") (bare-from (codes "-j") refl) (bare-from (codes "RETURN") refl)
action-spelled (Some action.Reject) back = two-words (codes "-j") (codes "REJECT") (bare-from (codes "-j") refl) (bare-from (codes "REJECT") refl)
action-spelled (Some action.Log) back = two-words (codes "-j") (codes "LOG") (bare-from (codes "-j") refl) (bare-from (codes "LOG") refl)
action-spelled (Some (action.Jump name)) back = two-words (codes "-j") name (bare-from (codes "-j") refl) (name-word name back).bare
action-spelled (Some (action.Goto name)) back = two-words (codes "-g") name (bare-from (codes "-g") refl) (name-word name back).bare

-- the words of a readable rule are spelled
pub rule-spelled : (r : Rule) → IsLegal r → ArePrintable (shown_rule r)
rule-spelled r has =
    words-more (shown_option_values r.option_values) (flat_map shown_match r.matches ++ (shown_action r.action ++ shown_option_values r.target_options)) (option_values-spelled r.option_values has.option_values.back)
    (words-more (flat_map shown_match r.matches) (shown_action r.action ++ shown_option_values r.target_options) (matches-spelled r.matches has.matches)
    (words-more (shown_action r.action) (shown_option_values r.target_options) (action-spelled r.action has.action) (option_values-spelled r.target_options has.target_options.back)))

pub words-of-text : (r : Rule) → IsLegal r → words_of (rule_text r) ≡ Some (plain (shown_rule r))
words-of-text r has = words_of-spaced_all (shown_rule r) (rule-spelled r has)

-- a text of words has no newline (10) where none of its words is spelled with one
no-newline : (words : List Shown) → All (λ w. All (λ b. b ≢ 10) (spelling w)) words → All (λ b. b ≢ 10) (spaced_all words)
no-newline [] each = All-nil (λ b. b ≢ 10)
no-newline (w ∷ ws) each =
    All-append (λ b. b ≢ 10) (spaced w) (spaced_all ws) (after-blank (spelling w) (each 0 w (omega arith)))
    (no-newline ws (λ k d within. each (suc k) d (omega arith)))
  where
    after-blank : (bytes : List ℕ) → All (λ b. b ≢ 10) bytes → All (λ b. b ≢ 10) (32 ∷ bytes)
    after-blank bytes all zero d within = λ e. absurd (omega arith)
    after-blank bytes all (suc k) d within = all k d (omega arith)

-- so a rule's text has none where its words are spelled with none
pub rule-one-line : (r : Rule) → All (λ w. All (λ b. b ≢ 10) (spelling w)) (shown_rule r) → All (λ b. b ≢ 10) (rule_text r)
rule-one-line r each = no-newline (shown_rule r) each

-- how many bytes an option has at most, with `!`, its name and its values
abbrev bang_room : Bool → ℕ
bang_room true = 2
bang_room false = 0

abbrev option_value_room : Opt → ℕ
option_value_room o = bang_room (may_be_inverted o) + (length (name_of o) + 1 + value_room o)

size : List Shown → ℕ
size ws = length (spaced_all ws)

size-append : (xs ys : List Shown) → size (xs ++ ys) ≡ size xs + size ys
unfolding size
size-append xs ys = ap length (flat_map-append spaced xs ys) ∙ length-append (spaced_all xs) (spaced_all ys)

size-more : (word : List ℕ) (ws : List Shown) → size (bare word ∷ ws) ≡ length word + 1 + size ws
unfolding size
size-more word ws = let e = length-append (spaced (bare word)) (spaced_all ws) in omega (arith, e)

size-none : size [] ≡ 0
unfolding size
size-none = refl

option_value-size : (s : OptionValue) → ReadsBack s → size (shown_option_value s) ≤ option_value_room (option_of_value s.value)
unfolding size
option_value-size s back = go s.inverted (may_be_inverted (option_of_value s.value)) refl back.bang
  where
    o : Opt
    o = option_of_value s.value

    short : length (spaced_all (shown_value s.value)) ≤ value_room (option_of_value s.value)
    short = back.short

    named : size (bare (name_of (option_of_value s.value)) ∷ shown_value s.value) ≡ length (name_of (option_of_value s.value)) + 1 + length (spaced_all (shown_value s.value))
    named = size-more (name_of (option_of_value s.value)) (shown_value s.value)

    banged : size (bare (codes "!") ∷ (bare (name_of (option_of_value s.value)) ∷ shown_value s.value)) ≡ 1 + 1 + size (bare (name_of (option_of_value s.value)) ∷ shown_value s.value)
    banged = size-more (codes "!") (bare (name_of (option_of_value s.value)) ∷ shown_value s.value)

    go : (inverted may : Bool) → may_be_inverted (option_of_value s.value) ≡ may → (inverted ≡ true → may_be_inverted (option_of_value s.value) ≡ true)
        → size (shown_bang inverted ++ (bare (name_of (option_of_value s.value)) ∷ shown_value s.value)) ≤ bang_room may + (length (name_of (option_of_value s.value)) + 1 + value_room (option_of_value s.value))
    go true true is bang = omega (arith, short, named, banged)
    go true false is bang = false-true (sym is ∙ bang refl)
    go false true is bang = omega (arith, short, named)
    go false false is bang = omega (arith, short, named)

-- the sum of the numbers from a place on
rest : ℕ → List ℕ → ℕ
rest n [] = 0
rest zero (x ∷ xs) = x + rest zero xs
rest (suc n) (x ∷ xs) = rest n xs

rest-at : (n : ℕ) (xs : List ℕ) → get_or xs n 0 + rest (suc n) xs ≡ rest n xs
unfolding rest
rest-at n [] = refl
rest-at zero (x ∷ xs) = refl
rest-at (suc n) (x ∷ xs) = rest-at n xs

rest-less : (m n : ℕ) (xs : List ℕ) → m ≤ n → rest n xs ≤ rest m xs
unfolding rest
rest-less m n [] h = omega arith
rest-less zero zero (x ∷ xs) h = omega arith
rest-less zero (suc n) (x ∷ xs) h = let less = rest-less zero n xs (omega arith) in omega (arith, less)
rest-less (suc m) zero (x ∷ xs) h = absurd (omega arith)
rest-less (suc m) (suc n) (x ∷ xs) h = rest-less m n xs (omega arith)

-- options whose places rise fit into the room of the places
group-size : (limits : List ℕ) (n : ℕ) (ss : List OptionValue) → Rises n ss → Each ReadsBack ss → Each (λ s. option_value_room (option_of_value s.value) ≤ get_or limits (slot_of s) 0) ss
    → size (shown_option_values ss) ≤ rest n limits
group-size limits n [] rises back fits = let none = size-none in omega (arith, none)
group-size limits n (s ∷ ss) rises back fits =
    let first = option_value-size s back.0 in
    let fit = fits.0 in
    let more = group-size limits (suc (slot_of s)) ss rises.1 back.1 fits.1 in
    let sum = size-append (shown_option_value s) (shown_option_values ss) in
    let at = rest-at (slot_of s) limits in
    let less = rest-less n (slot_of s) limits rises.0 in
    omega (arith, first, fit, more, sum, at, less)

fits-all : (Owns : Owner → Type 0) (limits : List ℕ) → ((o : Opt) → Owns (owner o) → option_value_room o ≤ get_or limits (slot o) 0) → (ss : List OptionValue)
    → Each (λ s. Owns (owner (option_of_value s.value))) ss → Each (λ s. option_value_room (option_of_value s.value) ≤ get_or limits (slot_of s) 0) ss
fits-all Owns limits room [] own = tt
fits-all Owns limits room (s ∷ ss) own = (room (option_of_value s.value) own.0, fits-all Owns limits room ss own.1)

-- a test that an owner lets through
allowed : (owns : Bool) (a b : ℕ) → (not owns || nat_le a b) ≡ true → owns ≡ true → a ≤ b
allowed true a b h e = leb-true a b h
allowed false a b h e = false-true e

-- a rule's own options
abbrev is_of_rule : Owner → Bool
is_of_rule owned.Rule = true
is_of_rule w = false

abbrev rule_limits : List ℕ
rule_limits = 24 ∷ 24 ∷ 21 ∷ 21 ∷ 15 ∷ 5 ∷ []

own-room : (o : Opt) → owner o ≡ owned.Rule → option_value_room o ≤ get_or rule_limits (slot o) 0
own-room o e = allowed (is_of_rule (owner o)) (option_value_room o) (get_or rule_limits (slot o) 0) (each_option (λ o. not (is_of_rule (owner o)) || nat_le (option_value_room o) (get_or rule_limits (slot o) 0)) refl o) (ap is_of_rule e)

own-size : (ss : List OptionValue) → IsGroup OfRule ss → size (shown_option_values ss) ≤ 110
unfolding rest
own-size ss is = group-size rule_limits 0 ss is.rises is.back (fits-all OfRule rule_limits own-room ss is.own)

-- a match
abbrev kind_limits : MatchKind → List ℕ
kind_limits kind.Tcp = 22 ∷ 22 ∷ 62 ∷ []
kind_limits kind.Udp = 22 ∷ 22 ∷ []
kind_limits kind.Icmp = 22 ∷ []
kind_limits kind.Multiport = 102 ∷ []
kind_limits kind.Iprange = 46 ∷ 46 ∷ []
kind_limits kind.Conntrack = 73 ∷ []
kind_limits kind.State = 71 ∷ []
kind_limits kind.Comment = 525 ∷ []
kind_limits kind.Ttl = 15 ∷ []

match-room : (k : MatchKind) (o : Opt) → kind_has k o ≡ true → option_value_room o ≤ get_or (kind_limits k) (slot o) 0
match-room k o e =
    allowed (kind_has k o) (option_value_room o) (get_or (kind_limits k) (slot o) 0) (each_option (λ o. not (kind_has k o) || nat_le (option_value_room o) (get_or (kind_limits k) (slot o) 0)) (each_kind (λ k. list_all (λ o. not (kind_has k o) || nat_le (option_value_room o) (get_or (kind_limits k) (slot o) 0)) all_options) refl k) o) e

kind-room : (k : MatchKind) → 3 + (length (kind_name k) + 1 + rest 0 (kind_limits k)) ≤ 536
unfolding rest
kind-room k = leb-true _ 536 (each_kind (λ k. nat_le (3 + (length (kind_name k) + 1 + rest 0 (kind_limits k))) 536) refl k)

match-size : (m : Match) → IsMatch m → size (shown_match m) ≤ 536
match-size m is =
    let inside = group-size (kind_limits m.kind) 0 m.option_values is.rises is.back (fits-all (OfMatch m) (kind_limits m.kind) (match-room m.kind) m.option_values is.own) in
    let first = size-more (codes "-m") (bare (kind_name m.kind) ∷ shown_option_values m.option_values) in
    let second = size-more (kind_name m.kind) (shown_option_values m.option_values) in
    let room = kind-room m.kind in
    let two : length (codes "-m") ≡ 2 = refl in
    omega (arith, inside, first, second, room, two)

matches-size : (ms : List Match) → Each IsMatch ms → size (flat_map shown_match ms) ≤ 536 * length ms
matches-size [] are = let none = size-none in omega (arith, none)
matches-size (m ∷ ms) are =
    let one = match-size m are.0 in
    let others = matches-size ms are.1 in
    let sum = size-append (shown_match m) (flat_map shown_match ms) in
    omega (arith, one, others, sum)

-- a target with its options
abbrev action_limits : Option Action → List ℕ
action_limits (Some action.Reject) = 37 ∷ []
action_limits (Some action.Log) = 74 ∷ 14 ∷ 19 ∷ 18 ∷ 17 ∷ 10 ∷ []
action_limits g = []

target-room : (g : Option Action) (o : Opt) → is_action_of g (owner o) ≡ true → option_value_room o ≤ get_or (action_limits g) (slot o) 0
target-room None o e = false-true e
target-room (Some action.Accept) o e = allowed (is_action_of (Some action.Accept) (owner o)) (option_value_room o) (get_or (action_limits (Some action.Accept)) (slot o) 0) (each_option (λ o. not (is_action_of (Some action.Accept) (owner o)) || nat_le (option_value_room o) (get_or (action_limits (Some action.Accept)) (slot o) 0)) refl o) e
target-room (Some action.Drop) o e = allowed (is_action_of (Some action.Drop) (owner o)) (option_value_room o) (get_or (action_limits (Some action.Drop)) (slot o) 0) (each_option (λ o. not (is_action_of (Some action.Drop) (owner o)) || nat_le (option_value_room o) (get_or (action_limits (Some action.Drop)) (slot o) 0)) refl o) e
target-room (Some action.Return) o e = allowed (is_action_of (Some action.Return) (owner o)) (option_value_room o) (get_or (action_limits (Some action.Return)) (slot o) 0) (each_option (λ o. not (is_action_of (Some action.Return) (owner o)) || nat_le (option_value_room o) (get_or (action_limits (Some action.Return)) (slot o) 0)) refl o) e
target-room (Some action.Reject) o e = allowed (is_action_of (Some action.Reject) (owner o)) (option_value_room o) (get_or (action_limits (Some action.Reject)) (slot o) 0) (each_option (λ o. not (is_action_of (Some action.Reject) (owner o)) || nat_le (option_value_room o) (get_or (action_limits (Some action.Reject)) (slot o) 0)) refl o) e
target-room (Some action.Log) o e = allowed (is_action_of (Some action.Log) (owner o)) (option_value_room o) (get_or (action_limits (Some action.Log)) (slot o) 0) (each_option (λ o. not (is_action_of (Some action.Log) (owner o)) || nat_le (option_value_room o) (get_or (action_limits (Some action.Log)) (slot o) 0)) refl o) e
target-room (Some (action.Jump n)) o e = allowed (is_action_of (Some (action.Jump n)) (owner o)) (option_value_room o) (get_or (action_limits (Some (action.Jump n))) (slot o) 0) (each_option (λ o. not (is_action_of (Some (action.Jump n)) (owner o)) || nat_le (option_value_room o) (get_or (action_limits (Some (action.Jump n))) (slot o) 0)) refl o) e
target-room (Some (action.Goto n)) o e = allowed (is_action_of (Some (action.Goto n)) (owner o)) (option_value_room o) (get_or (action_limits (Some (action.Goto n))) (slot o) 0) (each_option (λ o. not (is_action_of (Some (action.Goto n)) (owner o)) || nat_le (option_value_room o) (get_or (action_limits (Some (action.Goto n))) (slot o) 0)) refl o) e

action-size : (g : Option Action) → ActionBack g → size (shown_action g) + rest 0 (action_limits g) ≤ 159
unfolding size rest
action-size None back = omega arith
action-size (Some action.Accept) back = leb-true _ 159 refl
action-size (Some action.Drop) back = leb-true _ 159 refl
action-size (Some action.Return) back = leb-true _ 159 refl
action-size (Some action.Reject) back = leb-true _ 159 refl
action-size (Some action.Log) back = leb-true _ 159 refl
action-size (Some (action.Jump name)) back =
    let short = (name-word name back).short in
    let whole = size-more (codes "-j") (one name) in
    let word = size-more name [] in
    omega (arith, short, whole, word)
action-size (Some (action.Goto name)) back =
    let short = (name-word name back).short in
    let whole = size-more (codes "-g") (one name) in
    let word = size-more name [] in
    omega (arith, short, whole, word)

-- the text of a readable rule has at most 110 + 16 * 536 + 159 bytes
pub rule-short : (r : Rule) → IsLegal r → length (rule_text r) ≤ 8845
unfolding size
rule-short r has =
    let a = shown_option_values r.option_values in
    let b = flat_map shown_match r.matches in
    let c = shown_action r.action in
    let d = shown_option_values r.target_options in
    let own = own-size r.option_values has.option_values in
    let few = has.few in
    let matches = matches-size r.matches has.matches in
    let target = action-size r.action has.action in
    let target_options = group-size (action_limits r.action) 0 r.target_options has.target_options.rises has.target_options.back (fits-all (OfAction r.action) (action_limits r.action) (target-room r.action) r.target_options has.target_options.own) in
    let one = size-append a (b ++ (c ++ d)) in
    let two = size-append b (c ++ d) in
    let three = size-append c d in
    omega (arith, own, few, matches, target, target_options, one, two, three)
