-- One more value of a list.
use Rattle.std.proofs.Common.{◌≡◌, ℕ, List, [], ◌∷◌, ◌++◌, Bool, true, false, ◌||◌, ◌&&◌, sym, ◌∙◌, ap, refl, inl, inr}
use Rattle.std.specs.Prelude.{Option, is_some}
use Rattle.std.proofs.lemmas.Bool.{cases_Bool}
use Rattle.std.proofs.lemmas.List.Folds.{list_all-append, list_any-append}
use Rattle.fields.specs.declared.numbers.field.Field.{Field}
use Rattle.notation.specs.Words.{are_known, meaning, means, one_means}

and_true : (b : Bool) → (b && true) ≡ b
and_true true = refl
and_true false = refl

or_false : (b : Bool) → (b || false) ≡ b
or_false true = refl
or_false false = refl

-- they are known where those before are, and it is
pub known_more : (f : Field) (values : List (List ℕ)) (value : List ℕ) → are_known f values ≡ true → is_some (meaning f value) ≡ true
    → are_known f (values ++ value ∷ []) ≡ true
known_more f values value all one =
    list_all-append (λ (v : List ℕ). is_some (meaning f v)) values (value ∷ []) ∙ ap (λ b. b && (is_some (meaning f value) && true)) all ∙ and_true _ ∙ one

-- one of them holds of a number where one of those before does, or it does
pub means_more : (f : Field) (values : List (List ℕ)) (value : List ℕ) (x : ℕ)
    → one_means f (values ++ value ∷ []) x ≡ (one_means f values x || means (meaning f value) x)
means_more f values value x =
    list_any-append (λ (v : List ℕ). means (meaning f v) x) values (value ∷ []) ∙ ap (λ b. one_means f values x || b) (or_false _)
