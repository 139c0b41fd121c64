-- A time to live is the number of a byte, and its text is read as it.
use Rattle.std.proofs.Common.{◌≡◌, ℕ, ◌<◌, List, Some, arith}
use Rattle.fields.specs.values.Ttl.{ttl_of, ttl_text}
use Rattle.fields.proofs.laws.text.NumberLaws.{number_to-decimal, number_to_sound}

pub within : (text : List ℕ) (n : ℕ) → ttl_of text ≡ Some n → n < 256
unfolding ttl_of
within text n e = let low = (number_to_sound 255 text n e).1 in omega arith

pub reads_back : (n : ℕ) → n < 256 → ttl_of (ttl_text n) ≡ Some n
unfolding ttl_of
reads_back n small = number_to-decimal 255 n (omega arith) (omega arith)
