-- A list of ports is read item by item, and its text is read as the list.
use Rattle.std.proofs.Common.{◌≡◌, ◌==◌, inl, inr, ℕ, ◌+◌, ◌-◌, ◌<◌, ◌≤◌, Bool, true, false, cond, not, List, [], ◌∷◌, ◌++◌, length, map, Option, None, Some, refl, ap, sym, subst, ◌∙◌, suc, arith, leb, get_or, drop, flat_map, append-nil, append_assoc}
use Rattle.std.specs.Prelude.{decimal, sum_by, All, option_map}
use Rattle.std.specs.List.{list_all}
use Rattle.std.proofs.lemmas.Bool.{and_from, cases_lt, le-leb, lt-leb, leb-true}
use Rattle.std.proofs.lemmas.List.Folds.{list_all-append}
use Rattle.std.proofs.lemmas.List.Elements.{All-nil, All-cons}
use Rattle.std.proofs.lemmas.List.Sums.{sum_by-cons}
use Rattle.fields.specs.Sequence.{◌>>=◌}
use Rattle.fields.specs.text.Cut.{cut_at}
use Rattle.fields.specs.values.PortRange.{Ports, ArePorts, ports_between, port_of, ports_text}
use Rattle.fields.specs.values.PortList.{item_parted, port_item_of, port_count, all_read, counted, port_items_of, port_list_of, IsPortList, port_list_text}
use Rattle.fields.specs.steps.ValueParts.{item_within}
use Rattle.fields.proofs.laws.text.CutLaws.{cut_at-at, cut_at-none, step_before, same_some, parted, split, split-cut}
use Rattle.fields.proofs.laws.text.NumberLaws.{number_to_sound, decimal-differs}
use Rattle.fields.proofs.laws.values.PortRangeLaws.{port_of-decimal, cut-ports_text, one-read, both-read}

-- one item, where there is room for it
abbrev fitted : ℕ → Ports → Option Ports
fitted room item = cond (leb (port_count item) room) (Some item) None

abbrev with_more : ℕ → Option (List Ports) → Ports → Option (List Ports)
with_more room more item = option_map (λ items. item ∷ items) (more >>= counted (room - port_count item))

counted-more : (room : ℕ) (item : Ports) (more : Option (List Ports)) → ((more >>= λ items. Some (item ∷ items)) >>= counted room) ≡ (fitted room item >>= with_more room more)
counted-more room item None = elim (leb (port_count item) room) as (λ t. None ≡ (cond t (Some item) None >>= with_more room None)) [ true ↦ refl | false ↦ refl ]
counted-more room item (Some items) =
    ap (λ n. cond (leb n room) (Some (item ∷ items)) None) (sum_by-cons port_count item items) ∙ elim (cases_lt room (port_count item)) [
      | inl above ↦
          ap (λ t. cond t (Some (item ∷ items)) None) (lt-leb (port_count item + sum_by port_count items) room (omega arith))
          ∙ sym (ap (λ t. cond t (Some item) None >>= with_more room (Some items)) (lt-leb (port_count item) room above))
      | inr low ↦
          ap (λ t. cond t (Some (item ∷ items)) None) (rest low) ∙ mapped (leb (sum_by port_count items) (room - port_count item))
          ∙ sym (ap (λ t. cond t (Some item) None >>= with_more room (Some items)) (le-leb (port_count item) room low))
    ]
  where
    rest : port_count item ≤ room → leb (port_count item + sum_by port_count items) room ≡ leb (sum_by port_count items) (room - port_count item)
    rest low = elim (cases_lt (room - port_count item) (sum_by port_count items)) [
      | inl above ↦ lt-leb (port_count item + sum_by port_count items) room (omega arith) ∙ sym (lt-leb (sum_by port_count items) (room - port_count item) above)
      | inr less ↦ le-leb (port_count item + sum_by port_count items) room (omega arith) ∙ sym (le-leb (sum_by port_count items) (room - port_count item) less)
    ]

    mapped : (t : Bool) → cond t (Some (item ∷ items)) None ≡ option_map (λ xs. item ∷ xs) (cond t (Some items) None)
    mapped true = refl
    mapped false = refl

-- the first item and the others
items-cons : (room : ℕ) (text : List ℕ) (texts : List (List ℕ)) → (all_read port_item_of (text ∷ texts) >>= counted room) ≡ (item_within room text >>= with_more room (all_read port_item_of texts))
unfolding item_within
items-cons room text texts = go (port_item_of text)
  where
    go : (o : Option Ports) → ((o >>= λ x. all_read port_item_of texts >>= λ xs. Some (x ∷ xs)) >>= counted room) ≡ ((o >>= λ item. fitted room item) >>= with_more room (all_read port_item_of texts))
    go None = refl
    go (Some item) = counted-more room item (all_read port_item_of texts)

-- a text by its first comma
abbrev pub next_items : ℕ → List ℕ → Option (List ℕ × List ℕ) → Option (List Ports)
next_items room text None = item_within room text >>= λ item. Some (item ∷ [])
next_items room text (Some p) = item_within room p.0 >>= λ item. option_map (λ items. item ∷ items) (port_items_of (room - port_count item) p.1)

pub port_items_of-cut : (room : ℕ) (text : List ℕ) → port_items_of room text ≡ next_items room text (cut_at 44 text)
unfolding port_items_of
port_items_of-cut room text = ap (λ texts. all_read port_item_of texts >>= counted room) (split-cut text) ∙ go (cut_at 44 text)
  where
    alone : (o : Option Ports) → (o >>= with_more room (Some [])) ≡ (o >>= λ item. Some (item ∷ []))
    alone None = refl
    alone (Some item) = ap (λ t. option_map (λ items. item ∷ items) (cond t (Some []) None)) (le-leb (sum_by port_count []) (room - port_count item) (omega arith))

    go : (cut : Option (List ℕ × List ℕ)) → (all_read port_item_of (parted text cut) >>= counted room) ≡ next_items room text cut
    go None = items-cons room text [] ∙ alone (item_within room text)
    go (Some p) = items-cons room p.0 (split p.1)

-- an item's ports
abbrev IsItemOf : List ℕ → Ports → Type 0
IsItemOf text item = port_item_of text ≡ Some item

pub between-ports : (from to : ℕ) (item : Ports) → to ≤ 65535 → ports_between from to ≡ Some item → ArePorts item
between-ports from to item within e = go (leb from to) refl e
  where
    go : (t : Bool) → leb from to ≡ t → cond t (Some (record { from = from; to = to })) None ≡ Some item → ArePorts item
    go false low h = absurd (cc)
    go true low h = subst ArePorts (same_some (record { from = from; to = to }) item h) (record { ordered = leb-true from to low; within = within })

item-ports : (text : List ℕ) (item : Ports) → IsItemOf text item → ArePorts item
unfolding port_item_of
item-ports text item e = go (cut_at 58 text) e
  where
    go : (cut : Option (List ℕ × List ℕ)) → item_parted text cut ≡ Some item → ArePorts item
    go None h =
        let (port, reads, between) = step_before (port_of text) (λ port. ports_between port port) item h in
        between-ports port port item (number_to_sound 65535 text port reads).1 between
    go (Some p) h =
        let (from, first, more) = step_before (port_of p.0) (λ from. port_of p.1 >>= λ to. ports_between from to) item h in
        let (to, last, between) = step_before (port_of p.1) (λ to. ports_between from to) item more in
        between-ports from to item (number_to_sound 65535 p.1 to last).1 between

-- what was read is a list of ports
all-ports : (texts : List (List ℕ)) (items : List Ports) → all_read port_item_of texts ≡ Some items → (length items ≡ length texts) × All ArePorts items
all-ports [] items e = let same = same_some [] items e in subst (λ (xs : List Ports). (length xs ≡ 0) × All ArePorts xs) same (refl, All-nil ArePorts)
all-ports (text ∷ texts) items e =
    let (item, first, more) = step_before (port_item_of text) (λ x. all_read port_item_of texts >>= λ xs. Some (x ∷ xs)) items e in
    let (others, rest, same) = step_before (all_read port_item_of texts) (λ xs. Some (item ∷ xs)) items more in
    let (count, ports) = all-ports texts others rest in
    subst (λ (xs : List Ports). (length xs ≡ suc (length texts)) × All ArePorts xs) (same_some (item ∷ others) items same)
    (ap suc count, All-cons ArePorts item others (item-ports text item first) ports)

pub port_list_of-is : (text : List ℕ) (items : List Ports) → port_list_of text ≡ Some items → IsPortList items
unfolding port_items_of
port_list_of-is text items e =
    let (read, reads, few) = step_before (all_read port_item_of (split text)) (counted 15) items e in
    let (count, ports) = all-ports (split text) read reads in
    let some : 0 < length (split text) = ap-some (cut_at 44 text) (split-cut text) in
    go read (omega (arith, count, some)) ports few
  where
    ap-some : (cut : Option (List ℕ × List ℕ)) → split text ≡ parted text cut → 0 < length (split text)
    ap-some None same = omega (arith, ap length same)
    ap-some (Some p) same = omega (arith, ap length same)

    chosen : (read : List Ports) (t : Bool) → leb (sum_by port_count read) 15 ≡ t → 0 < length read → All ArePorts read → cond t (Some read) None ≡ Some items → IsPortList items
    chosen read false low some ports h = absurd (cc)
    chosen read true low some ports h = subst IsPortList (same_some read items h) (record { some = some; few = leb-true (sum_by port_count read) 15 low; ports = ports })

    go : (read : List Ports) → 0 < length read → All ArePorts read → counted 15 read ≡ Some items → IsPortList items
    go read some ports h = chosen read (leb (sum_by port_count read) 15) refl some ports h

-- the text of an item is read as the item
item-text : (item : Ports) → ArePorts item → port_item_of (ports_text item) ≡ Some item
unfolding port_item_of
item-text item are = elim (cut-ports_text item are) [
  | inl (same, text, none) ↦ ap (item_parted (ports_text item)) none ∙ ap (λ bytes. port_of bytes >>= λ port. ports_between port port) text ∙ one-read item are same
  | inr (text, two) ↦
      let ordered = are.ordered in
      let within = are.within in
      ap (item_parted (ports_text item)) two ∙ both-read port_of port_of item are (port_of-decimal item.from (omega arith)) (port_of-decimal item.to within)
]

-- and has no comma
item-comma : (item : Ports) → ArePorts item → list_all (λ c. not (c == 44)) (ports_text item) ≡ true
item-comma item are = go (item.from == item.to)
  where
    ordered : item.from ≤ item.to
    ordered = are.ordered

    within : item.to ≤ 65535
    within = are.within

    from : list_all (λ c. not (c == 44)) (decimal item.from) ≡ true
    from = decimal-differs 44 item.from refl (omega (arith, ordered, within))

    go : (t : Bool) → list_all (λ c. not (c == 44)) (cond t (decimal item.from) (decimal item.from ++ 58 ∷ decimal item.to)) ≡ true
    go true = from
    go false =
        list_all-append (λ c. not (c == 44)) (decimal item.from) (58 ∷ decimal item.to)
        ∙ and_from _ _ from (decimal-differs 44 item.to refl (omega (arith, within)))

-- the parts of the text are the items' texts
split-texts : (item : Ports) (items : List Ports) → All ArePorts (item ∷ items) → split (port_list_text (item ∷ items)) ≡ map ports_text (item ∷ items)
split-texts item [] are = split-cut (ports_text item) ∙ ap (parted (ports_text item)) (cut_at-none 44 (ports_text item) (item-comma item (are 0 item (omega arith))))
split-texts item (next ∷ items) are =
    let text = port_list_text (next ∷ items) in
    let rest : All ArePorts (next ∷ items) = λ k d within. are (suc k) d (omega arith) in
    split-cut (ports_text item ++ 44 ∷ text) ∙ ap (parted (ports_text item ++ 44 ∷ text)) (cut_at-at 44 (ports_text item) text (item-comma item (are 0 item (omega arith))))
    ∙ ap (λ texts. ports_text item ∷ texts) (split-texts next items rest)

items-read : (items : List Ports) → All ArePorts items → all_read port_item_of (map ports_text items) ≡ Some items
items-read [] are = refl
items-read (item ∷ items) are =
    let rest : All ArePorts items = λ k d within. are (suc k) d (omega arith) in
    ap (λ o. o >>= λ x. all_read port_item_of (map ports_text items) >>= λ xs. Some (x ∷ xs)) (item-text item (are 0 item (omega arith)))
    ∙ ap (λ o. o >>= λ xs. Some (item ∷ xs)) (items-read items rest)

pub port_list_of-port_list_text : (items : List Ports) → IsPortList items → port_list_of (port_list_text items) ≡ Some items
unfolding port_items_of
port_list_of-port_list_text items is = go items is.some is.few is.ports
  where
    go : (items : List Ports) → 0 < length items → sum_by port_count items ≤ 15 → All ArePorts items → port_list_of (port_list_text items) ≡ Some items
    go [] some few are = absurd (omega arith)
    go (item ∷ items) some few are =
        ap (λ texts. all_read port_item_of texts >>= counted 15) (split-texts item items are) ∙ ap (λ o. o >>= counted 15) (items-read (item ∷ items) are)
        ∙ ap (λ t. cond t (Some (item ∷ items)) None) (le-leb (sum_by port_count (item ∷ items)) 15 few)

pub reads_back : (items : List Ports) → IsPortList items → port_list_of (port_list_text items) ≡ Some items
reads_back items is = port_list_of-port_list_text items is

-- the first item and, each after a comma, the others
further : (item : Ports) (items : List Ports) → port_list_text (item ∷ items) ≡ ports_text item ++ flat_map (λ next. 44 ∷ ports_text next) items
further item [] = sym (append-nil (ports_text item))
further item (next ∷ items) = ap (λ text. ports_text item ++ 44 ∷ text) (further next items)

pub port_list_text-parts : (items : List Ports) (first : Ports) → 0 < length items → first ≡ get_or items 0 first
    → port_list_text items ≡ ports_text first ++ flat_map (λ next. 44 ∷ ports_text next) (drop 1 items)
port_list_text-parts [] first some is = absurd (omega arith)
port_list_text-parts (item ∷ items) first some is = further item items ∙ ap (λ one. ports_text one ++ flat_map (λ next. 44 ∷ ports_text next) items) (sym is)

-- each item counts
pub port_count-some : (item : Ports) → 1 ≤ port_count item
port_count-some item = elim (item.from == item.to) as (λ t. 1 ≤ cond t 1 2) [ true ↦ omega arith | false ↦ omega arith ]

-- a read item had room
pub item_within-room : (room : ℕ) (text : List ℕ) (item : Ports) → item_within room text ≡ Some item → port_count item ≤ room
unfolding item_within
item_within-room room text item e =
    let (read, reads, fits) = step_before (port_item_of text) (λ item. fitted room item) item e in
    go read (leb (port_count read) room) refl fits
  where
    go : (read : Ports) (t : Bool) → leb (port_count read) room ≡ t → cond t (Some read) None ≡ Some item → port_count item ≤ room
    go read false low h = absurd (cc)
    go read true low h = subst (λ (one : Ports). port_count one ≤ room) (same_some read item h) (leb-true (port_count read) room low)

-- the rest of a text, item by item
module _ (text : List ℕ) (items : List Ports) (room : ℕ) (rest : List ℕ) (same : option_map (λ more. items ++ more) (port_items_of room rest) ≡ port_list_of text) where
  abbrev after : Option (List Ports) → Option (List Ports)
  after o = option_map (λ more. items ++ more) o

  pub more-none : (part behind : List ℕ) → cut_at 44 rest ≡ Some (part, behind) → item_within room part ≡ None → port_list_of text ≡ None
  more-none part behind cut none =
      sym same ∙ ap after (port_items_of-cut room rest) ∙ ap (λ o. after (next_items room rest o)) cut
      ∙ ap (λ o. after (o >>= λ item. option_map (λ more. item ∷ more) (port_items_of (room - port_count item) behind))) none

  pub more-item : (part behind : List ℕ) (item : Ports) → cut_at 44 rest ≡ Some (part, behind) → item_within room part ≡ Some item
      → option_map (λ more. (items ++ item ∷ []) ++ more) (port_items_of (room - port_count item) behind) ≡ port_list_of text
  more-item part behind item cut one =
      joined (port_items_of (room - port_count item) behind)
      ∙ sym (ap after (port_items_of-cut room rest) ∙ ap (λ o. after (next_items room rest o)) cut
      ∙ ap (λ o. after (o >>= λ item. option_map (λ more. item ∷ more) (port_items_of (room - port_count item) behind))) one)
      ∙ same
    where
      joined : (o : Option (List Ports)) → option_map (λ more. (items ++ item ∷ []) ++ more) o ≡ option_map (λ more. items ++ more) (option_map (λ more. item ∷ more) o)
      joined None = refl
      joined (Some more) = ap Some (append_assoc items (item ∷ []) more)

  pub last-none : cut_at 44 rest ≡ None → item_within room rest ≡ None → port_list_of text ≡ None
  last-none cut none =
      sym same ∙ ap after (port_items_of-cut room rest) ∙ ap (λ o. after (next_items room rest o)) cut ∙ ap (λ o. after (o >>= λ item. Some (item ∷ []))) none

  pub last-item : (item : Ports) → cut_at 44 rest ≡ None → item_within room rest ≡ Some item → port_list_of text ≡ Some (items ++ item ∷ [])
  last-item item cut one =
      sym same ∙ ap after (port_items_of-cut room rest) ∙ ap (λ o. after (next_items room rest o)) cut ∙ ap (λ o. after (o >>= λ item. Some (item ∷ []))) one
