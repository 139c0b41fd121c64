-- The names that stand for numbers.
use Rattle.std.specs.Borrow.{Bor}
use Rattle.std.proofs.Common.{◌≡◌, ℕ, true, List, [], ◌∷◌, ◌++◌, map, refl, ap, sym, subst, ◌∙◌}
use Rattle.std.specs.List.{filter_map, cons_option, list_all}
use Rattle.std.proofs.lemmas.Bool.{and_parts}
use Rattle.std.proofs.lemmas.List.{map-append}
use Rattle.std.proofs.lemmas.List.Elements.{filter_map-append, All-nil, All-cons}
use Rattle.fields.proofs.laws.text.PrintedLaws.{one_line_is}
use Rattle.fields.specs.text.Cut.{cut_at}
use Rattle.fields.specs.text.Line.{IsOneLine, is_one_line}
use Rattle.dumps.specs.Services.{names_of, services, icmp_types, HaveOneLine}

-- what a further line adds
pub line_more : (lines : List (Bor (List ℕ))) (line : Bor (List ℕ))
    → filter_map (cut_at 32) (map (λ (l : Bor (List ℕ)). l.now) (lines ++ line ∷ [])) ≡ filter_map (cut_at 32) (map (λ (l : Bor (List ℕ)). l.now) lines) ++ cons_option (cut_at 32 line.now) []
line_more lines line =
    ap (filter_map (cut_at 32)) (map-append (λ (l : Bor (List ℕ)). l.now) lines (line ∷ []))
    ∙ filter_map-append (cut_at 32) (map (λ (l : Bor (List ℕ)). l.now) lines) (line.now ∷ [])

-- numbers in one line, by the test
rows_fit : (rows : List (List ℕ × List ℕ)) → list_all (λ (row : List ℕ × List ℕ). is_one_line row.1) rows ≡ true → HaveOneLine rows
rows_fit [] test = All-nil (λ (row : List ℕ × List ℕ). IsOneLine row.1)
rows_fit (row ∷ rows) test =
    let (here, rest) = and_parts (is_one_line row.1) (list_all (λ (r : List ℕ × List ℕ). is_one_line r.1) rows) test in
    All-cons (λ (r : List ℕ × List ℕ). IsOneLine r.1) row rows (one_line_is row.1 here) (rows_fit rows rest)

services_fit : list_all (λ (row : List ℕ × List ℕ). is_one_line row.1) (names_of services) ≡ true
services_fit = refl

icmp_types_fit : list_all (λ (row : List ℕ × List ℕ). is_one_line row.1) (names_of icmp_types) ≡ true
icmp_types_fit = refl

pub services_in_lines : (rows : List (List ℕ × List ℕ)) → rows ≡ names_of services → HaveOneLine rows
services_in_lines rows are = subst HaveOneLine (sym are) (rows_fit (names_of services) services_fit)

pub icmp_types_in_lines : (rows : List (List ℕ × List ℕ)) → rows ≡ names_of icmp_types → HaveOneLine rows
icmp_types_in_lines rows are = subst HaveOneLine (sym are) (rows_fit (names_of icmp_types) icmp_types_fit)
