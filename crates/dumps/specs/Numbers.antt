-- The conditions of the rules of one dump or more, by numbers.
use Rattle.std.specs.Prelude.{◌≡◌, ℕ, suc, ◌==◌, Bool, true, false, ◌&&◌, List, [], ◌∷◌, ◌++◌, map, filter, count_by, Option, Some, None, is_some, not, option_map, if◌then◌else◌, ◌↔◌}
use Rattle.std.specs.List.{list_any, slice_get, flat_map, IsDistinct, All}
use Rattle.std.specs.Str.{bytes_eq}
use Rattle.dumps.specs.Foreign.{Needed, ReadRule, is_in, is_named}
use Rattle.dumps.specs.SectionLines.{begins_with}
use Rattle.dumps.specs.declared.options.row.Lasting.{Lasting}
use Rattle.dumps.specs.declared.options.row.Lasting.TheVariants as lasting

-- where a condition of a place is asked: the chain; the number of the rule in it, from 1; and how many conditions of a place with the
-- same text the chain has before
pub record Place : Type 0 where
  pub chain : List ℕ
  pub rule : ℕ
  pub count : ℕ

-- a condition as it is asked: the name of its match, what it asks, its text, and where, if it is one of a place
pub record Asked : Type 0 where
  pub name : List ℕ
  pub asks : List ℕ
  pub text : List ℕ
  pub place : Option Place

-- what targets set while a packet walks, and the conditions in the order of their numbers, each as it was asked first
pub record Numbers : Type 0 where
  pub sets : List (List ℕ)
  pub all : List Asked

-- what tells a condition from the others: its text alone or, for one of a place, also the chain and the count
pub record Identity : Type 0 where
  pub text : List ℕ
  pub place : Option (List ℕ × ℕ)

-- what a place has to do with it: a rule put into the chain moves no condition of another text
abbrev pub place_identity : Place → List ℕ × ℕ
place_identity place = (place.chain, place.count)

-- what tells a condition as it is asked
abbrev pub identity_of : Asked → Identity
identity_of one = record { text = one.text; place = option_map place_identity one.place }

-- what tells each of some
abbrev pub identities : List Asked → List Identity
identities all = map identity_of all

-- two are of one place, or neither is of a place
abbrev pub is_one_place : Option (List ℕ × ℕ) → Option (List ℕ × ℕ) → Bool
is_one_place None None = true
is_one_place None (Some q) = false
is_one_place (Some p) None = false
is_one_place (Some p) (Some q) = bytes_eq p.0 q.0 && p.1 == q.1

-- two tell one condition
abbrev pub is_one : Identity → Identity → Bool
is_one a b = bytes_eq a.text b.text && is_one_place a.place b.place

-- the condition that this tells is among some
abbrev pub has : List Asked → Identity → Bool
has all one = list_any (is_one one) (identities all)

-- some conditions, and one more unless it is among them
abbrev pub with_one : List Asked → Asked → List Asked
with_one all one = if has all (identity_of one) then all else all ++ one ∷ []

-- some conditions, and those of others that aren't among them
abbrev pub with_all : List Asked → List Asked → List Asked
with_all all [] = all
with_all all (one ∷ more) = with_all (with_one all one) more

-- these get the next numbers that have none
abbrev pub added : Numbers → List Asked → Numbers
added old more = record { sets = old.sets; all = with_all old.all more }

-- what tells the condition of a number
abbrev pub identity_at : List Asked → ℕ → Option Identity
identity_at all number = option_map identity_of (slice_get all number)

-- whether a condition is one of a place, where a target may set what it asks
abbrev pub lasts_at_place : Bool → Lasting → Bool
lasts_at_place set lasting.Text = false
lasts_at_place set lasting.Place = true
lasts_at_place set lasting.Set = set

-- the need is of a condition of a place
abbrev pub is_of_place : List (List ℕ) → Needed → Bool
is_of_place sets need = lasts_at_place (is_named sets need.asks) need.lasting

-- how many of some needs are of a condition of a place and have this text
abbrev pub count_of : List (List ℕ) → List ℕ → List Needed → ℕ
count_of sets text needs = count_by (λ (need : Needed). is_of_place sets need && bytes_eq need.text text) needs

-- where a rule of a chain asks a need's condition, behind these needs of the chain
abbrev pub place_of : List (List ℕ) → List ℕ → ℕ → List Needed → Needed → Option Place
place_of sets chain rule before need =
    if is_of_place sets need then Some (record { chain = chain; rule = rule; count = count_of sets need.text before }) else None

-- the condition of a need there
abbrev pub asked : List (List ℕ) → List ℕ → ℕ → List Needed → Needed → Asked
asked sets chain rule before need = record { name = need.name; asks = need.asks; text = need.text; place = place_of sets chain rule before need }

-- those of the needs of a rule
abbrev pub asked_by_rule : List (List ℕ) → List ℕ → ℕ → List Needed → List Needed → List Asked
asked_by_rule sets chain rule before [] = []
asked_by_rule sets chain rule before (need ∷ needs) = asked sets chain rule before need ∷ asked_by_rule sets chain rule (before ++ need ∷ []) needs

-- those of each of the rules of a chain, from one rule on
abbrev pub asked_from : List (List ℕ) → List ℕ → ℕ → List Needed → List ReadRule → List (List Asked)
asked_from sets chain rule before [] = []
asked_from sets chain rule before (r ∷ rules) = asked_by_rule sets chain rule before r.needs ∷ asked_from sets chain (suc rule) (before ++ r.needs) rules

-- the conditions that the rules of a chain ask, rule by rule
abbrev pub asked_in : List (List ℕ) → List ℕ → List ReadRule → List (List Asked)
asked_in sets chain rules = asked_from sets chain 1 [] (filter (is_in chain) rules)

-- those of all rules in one list
abbrev pub in_one_list : List (List Asked) → List Asked
in_one_list rules = flat_map (λ (rule : List Asked). rule) rules

-- that a number is one of this condition
abbrev pub told : Asked → Option Identity
told one = Some (identity_of one)

-- The needs of a chain have these numbers, rule by rule: the conditions that had none got the next, and each need has the number at which
-- that stands what tells its condition.
pub record AreNumbered (chain : List ℕ) (rules : List ReadRule) (old new : Numbers) (numbers : List (List ℕ)) : Type 0 where
  pub after : new ≡ added old (in_one_list (asked_in old.sets chain rules))
  pub each : map (map (identity_at new.all)) numbers ≡ map (map told) (asked_in old.sets chain rules)

-- no condition has two numbers
abbrev pub AreApart : List Asked → Type 0
AreApart all = IsDistinct is_one (identities all)

-- two are asked at one place of a chain by its count, or neither is of a place
abbrev pub AreOfOnePlace : Option Place → Option Place → Type 0
AreOfOnePlace None None = Unit {0}
AreOfOnePlace None (Some q) = ⊥
AreOfOnePlace (Some p) None = ⊥
AreOfOnePlace (Some p) (Some q) = (p.chain ≡ q.chain) × (p.count ≡ q.count)

-- Two needs have one number just where their texts are alike and either neither is of a place, or both are, with one chain and one count.
abbrev pub OneNumberIsOneCondition : Type 0
OneNumberIsOneCondition =
    (all : List Asked) (a b : Asked) (m n : ℕ) → AreApart all → identity_at all m ≡ told a → identity_at all n ≡ told b
    → (m ≡ n) ↔ ((a.text ≡ b.text) × AreOfOnePlace a.place b.place)

-- a condition keeps its number where others get one, and is shown as it was asked first
abbrev pub NumbersStay : Type 0
NumbersStay = (all more : List Asked) (number : ℕ) (one : Asked) → slice_get all number ≡ Some one → slice_get (with_all all more) number ≡ Some one

-- and each that is asked has a number then
abbrev pub EachHasNumber : Type 0
EachHasNumber = (all more : List Asked) → All (λ (one : Asked). (number : ℕ) × (identity_at (with_all all more) number ≡ told one)) more

-- numbers tell conditions
pub record NumbersTellConditions : Type 0 where
  pub one : OneNumberIsOneCondition
  pub stay : NumbersStay
  pub each : EachHasNumber

-- the words of the condition of a number, and the name of its match; none where there is no such number
abbrev pub text_of : Option Asked → List ℕ
text_of None = []
text_of (Some one) = one.text

-- the same of its name
abbrev pub name_of : Option Asked → List ℕ
name_of None = []
name_of (Some one) = one.name

-- and where it was asked first, if it is of a place
abbrev pub place_at : Option Asked → Option Place
place_at None = None
place_at (Some one) = one.place

-- the chain and the number of the rule
abbrev pub rule_of : Place → List ℕ × ℕ
rule_of place = (place.chain, place.rule)

-- a condition of a thing, which is told by its name (a blank, 32, stands before it), and not of a place: all rules that ask it of one text have one
-- answer as long as nothing changes the thing
abbrev pub is_of_thing : Option Asked → Bool
is_of_thing None = false
is_of_thing (Some one) = begins_with 32 one.asks && not (is_some one.place)

-- a target sets, while a packet walks, what a condition asks
abbrev pub is_set : List (List ℕ) → Option Asked → Bool
is_set sets None = false
is_set sets (Some one) = is_named sets one.asks
