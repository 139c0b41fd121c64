-- Steps one after another, each of which may be refused, and what it means that a call of the code gives what such steps give.
use Rattle.std.specs.Prelude.{◌≡◌, Option, Some, None, Result, Ok, Err}

infixl 10 ◌>>=◌
-- a step, and then another that gets the value of the first; the first refusal is the refusal of both
abbrev pub ◌>>=◌ : {A B E : Type 0} → Result A E → (A → Result B E) → Result B E
(Ok x) >>= f = f x
(Err e) >>= f = Err e

-- the value, or this refusal where there is none
abbrev pub or_refused : {A E : Type 0} → E → Option A → Result A E
or_refused e (Some x) = Ok x
or_refused e None = Err e

-- the same value, or the refusal turned into another kind
abbrev pub refused_as : {A E F : Type 0} → (E → F) → Result A E → Result A F
refused_as f (Ok x) = Ok x
refused_as f (Err e) = Err (f e)

-- the value turned into another, or the same refusal
abbrev pub made_into : {A B E : Type 0} → (A → B) → Result A E → Result B E
made_into f (Ok x) = Ok (f x)
made_into f (Err e) = Err e

-- the definition gives the refusal that the call's fault stands for; a fault that stands for none (out of memory) says nothing of
-- it
abbrev pub Refuses : {Y F : Type 0} → Option F → Result Y F → Type 0
Refuses None given = Unit {0}
Refuses (Some e) given = given ≡ Err e

-- the call's value, seen through `view`, is the definition's value, and its fault stands for the definition's refusal. Where the
-- fault stands for no refusal, that is where memory ran out, nothing is said
abbrev pub GivesFor : {X Y E F : Type 0} → (E → Option F) → (X → Y) → Result X E → Result Y F → Type 0
GivesFor refusal view (Ok x) given = given ≡ Ok (view x)
GivesFor refusal view (Err e) given = Refuses (refusal e) given
