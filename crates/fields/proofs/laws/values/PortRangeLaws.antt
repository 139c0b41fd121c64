-- The text of a range of ports is read as the range.
use Rattle.std.proofs.Common.{◌≡◌, ◌==◌, ◌⊎◌, inl, inr, ℕ, ◌<◌, ◌≤◌, Bool, true, false, cond, List, [], ◌∷◌, ◌++◌, length, Option, None, Some, refl, ap, ◌∙◌, arith}
use Rattle.std.specs.Prelude.{decimal}
use Rattle.std.proofs.lemmas.Bool.{le-leb, eqb-true}
use Rattle.std.proofs.lemmas.Fmt.{decimal_nonempty}
use Rattle.fields.specs.Sequence.{◌>>=◌}
use Rattle.fields.specs.text.Cut.{cut_at}
use Rattle.fields.specs.values.PortRange.{Ports, ArePorts, ports_between, port_of, port_or, range_parted, port_range_of, ports_text}
use Rattle.fields.proofs.laws.text.CutLaws.{cut_at-at, cut_at-none}
use Rattle.fields.proofs.laws.text.NumberLaws.{number_to-decimal, decimal-differs}

pub ports_between-some : (from to : ℕ) → from ≤ to → ports_between from to ≡ Some (record { from = from; to = to })
ports_between-some from to ordered = ap (λ t. cond t (Some (record { from = from; to = to })) None) (le-leb from to ordered)

pub port_of-decimal : (n : ℕ) → n ≤ 65535 → port_of (decimal n) ≡ Some n
port_of-decimal n small = number_to-decimal 65535 n small (omega arith)

port_or-decimal : (missing n : ℕ) → n ≤ 65535 → port_or missing (decimal n) ≡ Some n
port_or-decimal missing n small = go (decimal n) (decimal_nonempty n (omega arith)) (port_of-decimal n small)
  where
    go : (text : List ℕ) → 0 < length text → port_of text ≡ Some n → port_or missing text ≡ Some n
    go [] some e = absurd (omega arith)
    go (b ∷ bs) some e = e

-- the text has no colon, or one
pub cut-ports_text : (ports : Ports) → ArePorts ports
    → ((ports.from ≡ ports.to) × (ports_text ports ≡ decimal ports.from) × (cut_at 58 (ports_text ports) ≡ None))
    ⊎ ((ports_text ports ≡ decimal ports.from ++ 58 ∷ decimal ports.to) × (cut_at 58 (ports_text ports) ≡ Some (decimal ports.from, decimal ports.to)))
cut-ports_text ports are = go (ports.from == ports.to) refl
  where
    ordered : ports.from ≤ ports.to
    ordered = are.ordered

    within : ports.to ≤ 65535
    within = are.within

    text : Bool → List ℕ
    text t = cond t (decimal ports.from) (decimal ports.from ++ 58 ∷ decimal ports.to)

    go : (t : Bool) → (ports.from == ports.to) ≡ t
        → ((ports.from ≡ ports.to) × (text t ≡ decimal ports.from) × (cut_at 58 (text t) ≡ None))
        ⊎ ((text t ≡ decimal ports.from ++ 58 ∷ decimal ports.to) × (cut_at 58 (text t) ≡ Some (decimal ports.from, decimal ports.to)))
    go true e = inl (eqb-true ports.from ports.to e, refl, cut_at-none 58 (decimal ports.from) (decimal-differs 58 ports.from refl (omega (arith, ordered, within))))
    go false e = inr (refl, cut_at-at 58 (decimal ports.from) (decimal ports.to) (decimal-differs 58 ports.from refl (omega (arith, ordered, within))))

-- the ports of one number, and those of two, each read in its own way
pub one-read : (ports : Ports) → ArePorts ports → ports.from ≡ ports.to → (port_of (decimal ports.from) >>= λ port. ports_between port port) ≡ Some ports
one-read ports are same =
    let ordered = are.ordered in
    let within = are.within in
    ap (λ o. o >>= λ port. ports_between port port) (port_of-decimal ports.from (omega arith)) ∙ ports_between-some ports.from ports.from (omega arith)
    ∙ ap (λ n. Some (record { from = ports.from; to = n })) same

pub both-read : (first last : List ℕ → Option ℕ) (ports : Ports) → ArePorts ports → first (decimal ports.from) ≡ Some ports.from → last (decimal ports.to) ≡ Some ports.to
    → (first (decimal ports.from) >>= λ from. last (decimal ports.to) >>= λ to. ports_between from to) ≡ Some ports
both-read first last ports are from-is to-is =
    ap (λ o. o >>= λ from. last (decimal ports.to) >>= λ to. ports_between from to) from-is ∙ ap (λ o. o >>= λ to. ports_between ports.from to) to-is
    ∙ ports_between-some ports.from ports.to are.ordered

pub port_range_of-ports_text : (ports : Ports) → ArePorts ports → port_range_of (ports_text ports) ≡ Some ports
unfolding port_range_of
port_range_of-ports_text ports are = elim (cut-ports_text ports are) [
  | inl (same, text, none) ↦ ap (range_parted (ports_text ports)) none ∙ ap (λ bytes. port_of bytes >>= λ port. ports_between port port) text ∙ one-read ports are same
  | inr (text, two) ↦
      ap (range_parted (ports_text ports)) two
      ∙ both-read (port_or 0) (port_or 65535) ports are (port_or-decimal 0 ports.from (omega (arith, ordered, within))) (port_or-decimal 65535 ports.to within)
]
  where
    ordered : ports.from ≤ ports.to
    ordered = are.ordered

    within : ports.to ≤ 65535
    within = are.within

-- the same by the two facts of the ports
pub reads_back : (ports : Ports) → ports.from ≤ ports.to → ports.to ≤ 65535 → port_range_of (ports_text ports) ≡ Some ports
reads_back ports ordered within = port_range_of-ports_text ports (record { ordered = ordered; within = within })
