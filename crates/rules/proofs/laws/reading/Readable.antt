-- Rules that can be read: what a rule must be, so that its text reads back, and that their options stand in the order of a listing.
use Prim.Native.Nat.{suc, zero}
use Rattle.std.specs.Prelude.{◌≡◌, ℕ, ◌≤◌, true, List, [], ◌∷◌, length, map, Option, Some, None, Ok}
use Rattle.std.proofs.Common.{◌⊎◌, inl, inr, ◌+◌, ◌-◌, Bool, false, ◌++◌, flat_map, get_or, refl, subst, arith, lit<}
use Rattle.std.proofs.Math.Dec.{leb}
use Rattle.std.proofs.lemmas.Bool.{leb-true, leb-false}
use Rattle.std.specs.List.{All, Contains}
use Rattle.fields.specs.values.Name.{name_of}
use Rattle.fields.specs.text.Printed.{Shown, ArePrintable, spaced_all}
use Rattle.rules.specs.rule.Actions.{is_action_of}
use Rattle.rules.specs.options.Options.{may_be_inverted, owner, is_match_of, slot}
use Rattle.rules.specs.options.OptionValues.{option_of_value, slot_of, value_of}
use Rattle.rules.specs.rule.Rules.{Match, Rule, normal_form}
use Rattle.rules.specs.Printing.{shown_value}
use Rattle.rules.specs.rule.Needs.{unmet}
use Rattle.rules.specs.declared.rule.action.Action.{Action}
use Rattle.rules.specs.declared.options.option.Opt.{Opt}
use Rattle.rules.specs.declared.options.option.Owner.{Owner}
use Rattle.rules.specs.declared.options.option_value.OptionValue.{OptionValue}
use Rattle.rules.specs.rule.Readable.{rule_places, match_places, target_places, AreInOrder, IsInOrder, all_option_values, ValueReadsBack, NamesChain}
use Rattle.rules.specs.declared.options.match_kind.MatchKind.{MatchKind}
use Rattle.rules.specs.declared.options.value.Value.{Value}
use Rattle.rules.specs.declared.rule.action.Action.TheVariants as action
use Rattle.rules.specs.declared.options.option.Opt.TheVariants as opt
use Rattle.rules.specs.declared.options.option.Owner.TheVariants as owned
use Rattle.rules.specs.rule.Readable as readable
use Rattle.rules.specs.declared.options.match_kind.MatchKind.TheVariants as kind
use Rattle.rules.specs.declared.options.value.Value.TheVariants as value

-- ---- Rules that can be read: what a rule must be, so that its text reads back.

-- how many bytes the values of an option have at most, each with its blank
abbrev pub value_room : Opt → ℕ
value_room opt.Source = 19
value_room opt.Destination = 19
value_room opt.InInterface = 16
value_room opt.OutInterface = 16
value_room opt.Protocol = 10
value_room opt.SourcePort = 12
value_room opt.DestinationPort = 12
value_room opt.TcpFlags = 48
value_room opt.IcmpType = 8
value_room opt.SourcePorts = 91
value_room opt.DestinationPorts = 91
value_room opt.Ports = 91
value_room opt.SourceRange = 32
value_room opt.DestinationRange = 32
value_room opt.Ctstate = 61
value_room opt.State = 61
value_room opt.Comment = 515
value_room opt.TtlEqual = 4
value_room opt.TtlGreater = 4
value_room opt.TtlLess = 4
value_room opt.RejectWith = 23
value_room opt.LogPrefix = 61
value_room opt.LogLevel = 2
value_room o = 0

-- A value's text gives the value back, `!` may stand before it where it does, and its words are short.
pub record ReadsBack (s : OptionValue) : Type 0 where
  pub text : value_of (option_of_value s.value) s.inverted (map (λ (w : Shown). w.word) (shown_value s.value)) ≡ Ok s.value
  pub bang : s.inverted ≡ true → may_be_inverted (option_of_value s.value) ≡ true
  pub spelled : ArePrintable (shown_value s.value)
  pub short : length (spaced_all (shown_value s.value)) ≤ value_room (option_of_value s.value)

-- each has the property
abbrev pub Each : {X : Type 0} → (X → Type 0) → List X → Type 0
Each P [] = Unit {0}
Each P (x ∷ xs) = P x × Each P xs

-- the places rise from a number on
abbrev pub Rises : ℕ → List OptionValue → Type 0
Rises n [] = Unit {0}
Rises n (s ∷ ss) = (n ≤ slot_of s) × Rises (suc (slot_of s)) ss

-- Options of an owner, whose places rise.
pub record IsGroup (Owns : Owner → Type 0) (ss : List OptionValue) : Type 0 where
  pub rises : Rises 0 ss
  pub own : Each (λ s. Owns (owner (option_of_value s.value))) ss
  pub back : Each ReadsBack ss

abbrev pub OfRule : Owner → Type 0
OfRule w = w ≡ owned.Rule

abbrev pub OfMatch : Match → Owner → Type 0
OfMatch m w = is_match_of w m.kind ≡ true

abbrev pub OfAction : Option Action → Owner → Type 0
OfAction a w = is_action_of a w ≡ true

-- the name of a chain is one
abbrev pub ActionBack : Option Action → Type 0
ActionBack (Some (action.Jump name)) = name_of name ≡ Some name
ActionBack (Some (action.Goto name)) = name_of name ≡ Some name
ActionBack a = Unit {0}

abbrev pub IsMatch : Match → Type 0
IsMatch m = IsGroup (OfMatch m) m.option_values

-- The parts of a rule are legal beside one another.
pub record IsLegal (r : Rule) : Type 0 where
  pub option_values : IsGroup OfRule r.option_values
  pub few : length r.matches ≤ 16
  pub matches : Each IsMatch r.matches
  pub action : ActionBack r.action
  pub target_options : IsGroup (OfAction r.action) r.target_options

-- A rule whose text reads back.
pub record IsReadable (r : Rule) : Type 0 where
  pub parts : IsLegal r
  pub conditions : normal_form r ≡ r
  pub met : unmet r ≡ None

-- ---- What is legal for reading is readable: options whose places rise stand in the order of a listing.

pub false-true : {A : Type 0} → false ≡ true → A
false-true h = absurd (cc)

-- each is all
all-of : {X : Type 0} (P : X → Type 0) (xs : List X) → Each P xs → All P xs
all-of P [] each k d within = absurd (omega arith)
all-of P (x ∷ xs) each zero d within = each.0
all-of P (x ∷ xs) each (suc k) d within = all-of P xs each.1 k d (omega arith)

each-append : {X : Type 0} (P : X → Type 0) (xs ys : List X) → Each P xs → Each P ys → Each P (xs ++ ys)
each-append P [] ys a b = b
each-append P (x ∷ xs) ys a b = (a.0, each-append P xs ys a.1 b)

each-map : {X : Type 0} (P Q : X → Type 0) → ((x : X) → P x → Q x) → (xs : List X) → Each P xs → Each Q xs
each-map P Q f [] each = tt
each-map P Q f (x ∷ xs) each = (f x each.0, each-map P Q f xs each.1)

-- the only option of a place
here : (o : Opt) → Contains (readable.only o) o
here o = (0, lit< tt, refl)

-- from a place on, each option of the owner stands where its number says
abbrev StandAt : (Owner → Type 0) → ℕ → List (List Opt) → Type 0
StandAt Owns n places = (v : Value) (k : ℕ) → Owns (owner (option_of_value v)) → n + k ≡ slot (option_of_value v) → Contains (get_or places k []) (option_of_value v)

in-order : (Owns : Owner → Type 0) (n : ℕ) (places : List (List Opt)) (ss : List OptionValue) → StandAt Owns n places → Rises n ss → Each (λ s. Owns (owner (option_of_value s.value))) ss
    → AreInOrder places ss
in-order Owns n [] [] stand rises own = tt
in-order Owns n (p ∷ ps) [] stand rises own = tt
in-order Owns n [] (s ∷ ss) stand rises own =
    let first = rises.0 in
    let (k, within, is) = stand s.value (slot_of s - n) own.0 (omega (arith, first)) in
    absurd (omega arith)
in-order Owns n (p ∷ ps) (s ∷ ss) stand rises own =
    go (leb (suc n) (slot_of s)) refl (λ r. in-order Owns (suc n) ps (s ∷ ss) next r own) (λ r. in-order Owns (suc n) ps ss next r own.1)
  where
    next : StandAt Owns (suc n) ps
    next v k owns is = stand v (suc k) owns (omega (arith, is))

    go : (b : Bool) → leb (suc n) (slot_of s) ≡ b → (Rises (suc n) (s ∷ ss) → AreInOrder ps (s ∷ ss)) → (Rises (suc n) ss → AreInOrder ps ss)
        → (Contains p (option_of_value s.value) × AreInOrder ps ss) ⊎ AreInOrder ps (s ∷ ss)
    go true e later rest = inr (later (leb-true (suc n) (slot_of s) e, rises.1))
    go false e later rest =
        let first = rises.0 in
        let above = leb-false (suc n) (slot_of s) e in
        let at : slot_of s ≡ n = omega (arith, first, above) in
        let R : ℕ → Type 0 = λ m. Rises (suc m) ss in
        inl (stand s.value 0 own.0 (omega (arith, at)), rest (subst R at rises.1))

-- a group of options whose owner has these places
group-in-order : (Owns : Owner → Type 0) (places : List (List Opt)) → ((v : Value) → Owns (owner (option_of_value v)) → Contains (get_or places (slot (option_of_value v)) []) (option_of_value v))
    → (ss : List OptionValue) → IsGroup Owns ss → AreInOrder places ss
group-in-order Owns places at ss is = in-order Owns 0 places ss stand is.rises is.own
  where
    stand : StandAt Owns 0 places
    stand v k owns e =
        let C : ℕ → Type 0 = λ j. Contains (get_or places j []) (option_of_value v) in
        let same : slot (option_of_value v) ≡ k = omega (arith, e) in
        subst C same (at v owns)

-- the places of each owner
own-at : (v : Value) → OfRule (owner (option_of_value v)) → Contains (get_or rule_places (slot (option_of_value v)) []) (option_of_value v)
own-at (value.Source x) is = here opt.Source
own-at (value.Destination x) is = here opt.Destination
own-at (value.InInterface x) is = here opt.InInterface
own-at (value.OutInterface x) is = here opt.OutInterface
own-at (value.Protocol x) is = here opt.Protocol
own-at value.Fragment is = here opt.Fragment
own-at v is = absurd (cc)

match-at : (k : MatchKind) (v : Value) → is_match_of (owner (option_of_value v)) k ≡ true → Contains (get_or (match_places k) (slot (option_of_value v)) []) (option_of_value v)
match-at kind.Tcp (value.SourcePort x) is = here opt.SourcePort
match-at kind.Tcp (value.DestinationPort x) is = here opt.DestinationPort
match-at kind.Tcp (value.TcpFlags x) is = here opt.TcpFlags
match-at kind.Udp (value.SourcePort x) is = here opt.SourcePort
match-at kind.Udp (value.DestinationPort x) is = here opt.DestinationPort
match-at kind.Icmp (value.IcmpType x) is = here opt.IcmpType
match-at kind.Multiport (value.SourcePorts x) is = (0, lit< tt, refl)
match-at kind.Multiport (value.DestinationPorts x) is = (1, lit< tt, refl)
match-at kind.Multiport (value.Ports x) is = (2, lit< tt, refl)
match-at kind.Iprange (value.SourceRange x) is = here opt.SourceRange
match-at kind.Iprange (value.DestinationRange x) is = here opt.DestinationRange
match-at kind.Conntrack (value.Ctstate x) is = here opt.Ctstate
match-at kind.State (value.State x) is = here opt.State
match-at kind.Comment (value.Comment x) is = here opt.Comment
match-at kind.Ttl (value.TtlEqual x) is = (0, lit< tt, refl)
match-at kind.Ttl (value.TtlGreater x) is = (1, lit< tt, refl)
match-at kind.Ttl (value.TtlLess x) is = (2, lit< tt, refl)
match-at k v is = absurd (false-true is)

target-at : (g : Option Action) (v : Value) → OfAction g (owner (option_of_value v)) → Contains (get_or (target_places g) (slot (option_of_value v)) []) (option_of_value v)
target-at (Some action.Reject) (value.RejectWith x) is = here opt.RejectWith
target-at (Some action.Log) (value.LogPrefix x) is = here opt.LogPrefix
target-at (Some action.Log) (value.LogLevel x) is = here opt.LogLevel
target-at (Some action.Log) value.LogTcpSequence is = here opt.LogTcpSequence
target-at (Some action.Log) value.LogTcpOptions is = here opt.LogTcpOptions
target-at (Some action.Log) value.LogIpOptions is = here opt.LogIpOptions
target-at (Some action.Log) value.LogUid is = here opt.LogUid
target-at g v is = absurd (false-true is)

-- a rule with legal parts has its options in the order of a listing
pub legal-in-order : (r : Rule) → IsLegal r → IsInOrder r
legal-in-order r legal = record {
  own = group-in-order OfRule rule_places own-at r.option_values legal.option_values;
  matches =
      all-of (λ (m : Match). AreInOrder (match_places m.kind) m.option_values) r.matches
      (each-map IsMatch (λ (m : Match). AreInOrder (match_places m.kind) m.option_values) (λ m is. group-in-order (OfMatch m) (match_places m.kind) (match-at m.kind) m.option_values is) r.matches legal.matches);
  target = group-in-order (OfAction r.action) (target_places r.action) (target-at r.action) r.target_options legal.target_options;
}

-- the values of all its options read back
each-back : (ss : List OptionValue) → Each ReadsBack ss → Each ValueReadsBack ss
each-back ss each = each-map ReadsBack ValueReadsBack (λ s back. record { value = back.text; bang = back.bang }) ss each

each-match-back : (ms : List Match) → Each IsMatch ms → Each ValueReadsBack (flat_map (λ (m : Match). m.option_values) ms)
each-match-back [] each = tt
each-match-back (m ∷ ms) each = each-append ValueReadsBack m.option_values (flat_map (λ (m : Match). m.option_values) ms) (each-back m.option_values each.0.back) (each-match-back ms each.1)

legal-back : (r : Rule) → IsLegal r → All ValueReadsBack (all_option_values r)
legal-back r legal =
    let of_matches = flat_map (λ (m : Match). m.option_values) r.matches in
    all-of ValueReadsBack (all_option_values r)
    (each-append ValueReadsBack r.option_values (of_matches ++ r.target_options) (each-back r.option_values legal.option_values.back)
    (each-append ValueReadsBack of_matches r.target_options (each-match-back r.matches legal.matches) (each-back r.target_options legal.target_options.back)))

chain-named : (g : Option Action) → ActionBack g → NamesChain g
chain-named None back = tt
chain-named (Some (action.Jump name)) back = back
chain-named (Some (action.Goto name)) back = back
chain-named (Some action.Accept) back = tt
chain-named (Some action.Drop) back = tt
chain-named (Some action.Return) back = tt
chain-named (Some action.Reject) back = tt
chain-named (Some action.Log) back = tt

pub readable-of : (r : Rule) → IsReadable r → readable.IsReadable r
readable-of r is =
    let legal = is.parts in
    record { ordered = legal-in-order r legal; values = legal-back r legal; few = legal.few; chain = chain-named r.action legal.action; normal = is.conditions; met = is.met }
