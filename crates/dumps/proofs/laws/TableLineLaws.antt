-- The rows of the table by the lines of a text, and words that are those of no role or kind.
use Rattle.std.proofs.Common.{◌≡◌, ◌≢◌, ◌+◌, ◌<◌, ℕ, Bool, true, false, ◌||◌, List, take, length, ap, ◌∙◌, arith, ◌≤◌, cond, [], ◌∷◌, ◌++◌, map, drop, Option, Some, None, refl, sym, subst}
use Rattle.std.specs.Prelude.{All, IfSome}
use Rattle.std.specs.List.{list_any, slice_index_or, AllZip}
use Rattle.std.specs.Str.{bytes_eq}
use Rattle.std.proofs.lemmas.List.Folds.{list_any_at, list_any_more}
use Rattle.std.proofs.lemmas.Slice.Eq.{bytes_eq-Decides}
use Rattle.std.specs.Borrow.{Bor}
use Rattle.std.proofs.lemmas.List.{drop-drop, map-append}
use Rattle.std.proofs.Math.Seq.{drop-append_seam, take-length}
use Rattle.dumps.specs.TableLines.{role_word, kind_word, words_between, IsOptionLine, IsExtensionLine, IsOptionOf, IsExtensionOf, behind, no_words}
use Rattle.dumps.specs.declared.options.row.Role.{Role}
use Rattle.dumps.specs.declared.options.row.Kind.{Kind}
use Rattle.dumps.specs.declared.options.table_line.TheConstants.{ROLES, KINDS}
use Rattle.dumps.specs.Known.{words_at, kept_row, kept_extension, own_owner}
use Rattle.dumps.specs.Options.{Row, Extension, is_match}
use Rattle.dumps.specs.Views.{texts_in}
use Rattle.dumps.specs.declared.options.kept.Span.{Span}
use Rattle.dumps.specs.declared.options.kept.KeptOption.{KeptOption}
use Rattle.dumps.specs.declared.options.kept.KeptExtension.{KeptExtension}
use Rattle.dumps.specs.declared.options.refusal.OptionRefusal.{OptionRefusal}
use Rattle.dumps.specs.declared.options.row.Role.TheVariants as role
use Rattle.dumps.specs.declared.options.row.Kind.TheVariants as kind
use Rattle.dumps.specs.declared.options.row.Lasting.TheVariants as lasting
use Rattle.dumps.proofs.laws.KnownLaws.{options_stay, extensions_stay}

-- ---- A word that isn't that of any role, or of any kind.

-- none of one more
pub none_more : {X : Type 0} (test : X → Bool) (xs : List X) (i : ℕ) (d : X) → i < length xs → list_any test (take i xs) ≡ false → test (slice_index_or xs i d) ≡ false
    → list_any test (take (i + 1) xs) ≡ false
none_more test xs i d inside before this = list_any_more test xs i d inside ∙ ap (λ b. b || test (slice_index_or xs i d)) before ∙ this

abbrev is-role : List ℕ → Role → Bool
is-role word r = bytes_eq (role_word r) word

abbrev is-kind : List ℕ → Kind → Bool
is-kind word k = bytes_eq (kind_word k) word

role-at : (word : List ℕ) (i : ℕ) (r : Role) → i < 14 → is-role word (slice_index_or ROLES i r) ≡ true → list_any (is-role word) ROLES ≡ true
role-at word i r inside is = list_any_at (is-role word) ROLES i r inside is

kind-at : (word : List ℕ) (i : ℕ) (k : Kind) → i < 10 → is-kind word (slice_index_or KINDS i k) ≡ true → list_any (is-kind word) KINDS ≡ true
kind-at word i k inside is = list_any_at (is-kind word) KINDS i k inside is

-- each role is among those that are tried
among-roles : (word : List ℕ) (r : Role) → is-role word r ≡ true → list_any (is-role word) ROLES ≡ true
among-roles word role.Own is = role-at word 0 role.Own (omega arith) is
among-roles word role.Ports is = role-at word 1 role.Ports (omega arith) is
among-roles word role.IcmpType is = role-at word 2 role.IcmpType (omega arith) is
among-roles word role.Protocol is = role-at word 3 role.Protocol (omega arith) is
among-roles word role.Match is = role-at word 4 role.Match (omega arith) is
among-roles word role.Target is = role-at word 5 role.Target (omega arith) is
among-roles word role.Asks is = role-at word 6 role.Asks (omega arith) is
among-roles word role.Unopposed is = role-at word 7 role.Unopposed (omega arith) is
among-roles word role.Holds is = role-at word 8 role.Holds (omega arith) is
among-roles word role.Says is = role-at word 9 role.Says (omega arith) is
among-roles word role.Turns is = role-at word 10 role.Turns (omega arith) is
among-roles word role.AsksOf is = role-at word 11 role.AsksOf (omega arith) is
among-roles word role.Counts is = role-at word 12 role.Counts (omega arith) is
among-roles word role.Sets is = role-at word 13 role.Sets (omega arith) is

among-kinds : (word : List ℕ) (k : Kind) → is-kind word k ≡ true → list_any (is-kind word) KINDS ≡ true
among-kinds word (kind.Known false) is = kind-at word 0 (kind.Known false) (omega arith) is
among-kinds word (kind.Known true) is = kind-at word 1 (kind.Known true) (omega arith) is
among-kinds word (kind.Foreign lasting.Text) is = kind-at word 2 (kind.Foreign lasting.Text) (omega arith) is
among-kinds word (kind.Foreign lasting.Place) is = kind-at word 3 (kind.Foreign lasting.Place) (omega arith) is
among-kinds word (kind.Foreign lasting.Set) is = kind-at word 4 (kind.Foreign lasting.Set) (omega arith) is
among-kinds word kind.Ends is = kind-at word 5 kind.Ends (omega arith) is
among-kinds word kind.Logs is = kind-at word 6 kind.Logs (omega arith) is
among-kinds word kind.Passes is = kind-at word 7 kind.Passes (omega arith) is
among-kinds word (kind.Decides true) is = kind-at word 8 (kind.Decides true) (omega arith) is
among-kinds word (kind.Decides false) is = kind-at word 9 (kind.Decides false) (omega arith) is

not-both : (b : Bool) → b ≡ true → b ≡ false → ⊥
not-both b is not = absurd (cc)

pub no_role : (word : List ℕ) → list_any (λ (r : Role). bytes_eq (role_word r) word) ROLES ≡ false → (r : Role) → role_word r ≢ word
no_role word none r is = not-both (list_any (is-role word) ROLES) (among-roles word r ((bytes_eq-Decides (role_word r) word).1 is)) none

pub no_kind : (word : List ℕ) → list_any (λ (k : Kind). bytes_eq (kind_word k) word) KINDS ≡ false → (k : Kind) → kind_word k ≢ word
no_kind word none k is = not-both (list_any (is-kind word) KINDS) (among-kinds word k ((bytes_eq-Decides (kind_word k) word).1 is)) none

-- ---- The rows of the table by the lines of a text.

abbrev Words : Type 0
Words = List (Bor (List ℕ))

-- one pair more
pub zip_push : {X Y : Type 0} (R : X → Y → Type 0) (xs : List X) (ys : List Y) (x : X) (y : Y) → AllZip R xs ys → R x y → AllZip R (xs ++ x ∷ []) (ys ++ y ∷ [])
zip_push R [] [] x y all one = (one, tt)
zip_push R [] (b ∷ ys) x y all one = absurd all
zip_push R (a ∷ xs) [] x y all one = absurd all
zip_push R (a ∷ xs) (b ∷ ys) x y all one = (all.0, zip_push R xs ys x y all.1 one)

-- what is left of the words of a line that were kept last
words_left : (before more after : Words) (span names : Span) (count : ℕ) → after ≡ before ++ more → span.to ≡ length after → names ≡ behind count span
    → words_at after names ≡ texts_in (drop count (drop span.from after))
words_left before more after span names count whole to are =
    ap (words_at after) are
    ∙ ap (λ n. texts_in (drop (span.from + count) (take n after))) to
    ∙ ap (λ (l : Words). texts_in (drop (span.from + count) l)) (take-length after)
    ∙ sym (ap texts_in (drop-drop count span.from after))

-- the words of a line that were kept last
pub words_last : (line : List ℕ) (before more after : Words) (span : Span) → texts_in more ≡ words_between line → after ≡ before ++ more → span.from ≡ length before
    → words_between line ≡ texts_in (drop span.from after)
words_last line before more after span are whole from =
    sym are
    ∙ sym (ap texts_in (drop-append_seam before more))
    ∙ sym (ap (λ (l : Words). texts_in (drop (length before) l)) whole)
    ∙ sym (ap (λ n. texts_in (drop n after)) from)

-- the option is that of the line
pub option_means : (line : List ℕ) (before more after : Words) (span : Span) (kept : KeptOption) → texts_in more ≡ words_between line → after ≡ before ++ more
    → span.from ≡ length before → span.to ≡ length after → IsOptionOf (drop span.from after) span kept → IsOptionLine line (kept_row after kept)
option_means line before more after span kept are whole from to of = record {
  owner = of.owner;
  values = of.values;
  words =
      words_last line before more after span are whole from ∙ of.are
      ∙ ap (λ (names : List (List ℕ)). of.owner ∷ (role_word kept.role ∷ (of.values ∷ names))) (sym (words_left before more after span kept.names 3 whole to of.names));
  owned = ap (own_owner kept.role) of.owned;
  counted = of.counted;
}

-- and the last one
pub option_last : (before more after : Words) (options : List KeptOption) (kept : KeptOption) → after ≡ before ++ more
    → All (λ (k : KeptOption). k.names.to ≤ length before) options → map (kept_row after) (options ++ kept ∷ []) ≡ map (kept_row before) options ++ kept_row after kept ∷ []
option_last before more after options kept whole within =
    map-append (kept_row after) options (kept ∷ [])
    ∙ ap (λ (rows : List Row). rows ++ kept_row after kept ∷ []) (ap (λ (l : Words). map (kept_row l) options) whole ∙ options_stay before more options within)

-- the words where a test holds, and else none
words_if : (after : Words) (test : Bool) (some : Span) (names : Span) → names ≡ cond test some no_words → words_at after names ≡ cond test (words_at after some) []
words_if after test some names are = ap (words_at after) are ∙ go test
  where
    go : (t : Bool) → words_at after (cond t some no_words) ≡ cond t (words_at after some) []
    go true = refl
    go false = refl

words_unless : (after : Words) (test : Bool) (some : Span) (names : Span) → names ≡ cond test no_words some → words_at after names ≡ cond test [] (words_at after some)
words_unless after test some names are = ap (words_at after) are ∙ go test
  where
    go : (t : Bool) → words_at after (cond t no_words some) ≡ cond t [] (words_at after some)
    go true = refl
    go false = refl

-- the match or target is that of the line
pub extension_means : (line : List ℕ) (before more after : Words) (span : Span) (kept : KeptExtension) → texts_in more ≡ words_between line → after ≡ before ++ more
    → span.from ≡ length before → span.to ≡ length after → IsExtensionOf (drop span.from after) span kept → IsExtensionLine line (kept_extension after kept)
extension_means line before more after span kept are whole from to of = record {
  more = words_at after (behind 2 span);
  words =
      words_last line before more after span are whole from ∙ of.are
      ∙ ap (λ (names : List (List ℕ)). kept.name.now ∷ (kind_word kept.kind ∷ names)) (sym (words_left before more after span (behind 2 span) 2 whole to refl));
  protocols = words_if after (is_match kept.kind) (behind 2 span) kept.protocols of.protocols;
  sets = words_unless after (is_match kept.kind) (behind 2 span) kept.sets of.sets;
}

-- its spans end where those of the line do, or are of no words
pub extension_within : (words : Words) (span : Span) (kept : KeptExtension) → IsExtensionOf words span kept → (kept.protocols.to ≤ span.to) × (kept.sets.to ≤ span.to)
extension_within words span kept of = (within (is_match kept.kind) kept.protocols of.protocols, without (is_match kept.kind) kept.sets of.sets)
  where
    within : (test : Bool) (names : Span) → names ≡ cond test (behind 2 span) no_words → names.to ≤ span.to
    within true names is = subst (λ (s : Span). s.to ≤ span.to) (sym is) (omega arith)
    within false names is = subst (λ (s : Span). s.to ≤ span.to) (sym is) (omega arith)

    without : (test : Bool) (names : Span) → names ≡ cond test no_words (behind 2 span) → names.to ≤ span.to
    without true names is = subst (λ (s : Span). s.to ≤ span.to) (sym is) (omega arith)
    without false names is = subst (λ (s : Span). s.to ≤ span.to) (sym is) (omega arith)

-- and the last one
pub extension_last : (before more after : Words) (extensions : List KeptExtension) (kept : KeptExtension) → after ≡ before ++ more
    → All (λ (k : KeptExtension). k.protocols.to ≤ length before) extensions → All (λ (k : KeptExtension). k.sets.to ≤ length before) extensions
    → map (kept_extension after) (extensions ++ kept ∷ []) ≡ map (kept_extension before) extensions ++ kept_extension after kept ∷ []
extension_last before more after extensions kept whole protocols sets =
    map-append (kept_extension after) extensions (kept ∷ [])
    ∙ ap (λ (rows : List Extension). rows ++ kept_extension after kept ∷ [])
    (ap (λ (l : Words). map (kept_extension l) extensions) whole ∙ extensions_stay before more extensions protocols sets)

-- why a fault refuses, where it is told
pub refused_for : (P : OptionRefusal × List ℕ → Type 0) (told : Option (OptionRefusal × List ℕ)) (why : OptionRefusal × List ℕ) → IfSome told (λ came. came ≡ why) → P why → IfSome told P
refused_for P None why is holds = tt
refused_for P (Some came) why is holds = subst P (sym is) holds
