-- IPv4 addresses with a prefix length, as `-s address[/mask]` takes them (iptables(8), PARAMETERS, -s).
use Rattle.std.specs.Prelude.{ℕ, Bool, ◌+◌, ◌-◌, ◌*◌, ◌/◌, ◌%◌, ◌^◌, ◌<◌, ◌≤◌, ◌≡◌, ◌==◌, List, [], ◌∷◌, ◌++◌, Option, Some, None}
use Rattle.std.specs.Prelude.{if◌then◌else◌, decimal, count_ones}
use Rattle.fields.specs.Sequence.{◌>>=◌}
use Rattle.fields.specs.text.Cut.{cut_at}
use Rattle.fields.specs.text.Number.{number_to}

-- a prefix: an address, and how many of its leading bits count
pub record Network : Type 0 where
  pub address : ℕ
  pub length : ℕ

-- how many addresses share the same top n of 32 bits
abbrev pub block_size : ℕ → ℕ
block_size n = 2 ^ (32 - n)

-- the top n bits of an address
abbrev pub top_bits : ℕ → ℕ → ℕ
top_bits n address = address / block_size n

-- the address with the bits after the top n cleared
abbrev pub cleared : ℕ → ℕ → ℕ
cleared n address = top_bits n address * block_size n

-- a prefix has a length up to 32 and an address of 32 bits, of which those after the length are 0
pub record IsNetwork (p : Network) : Type 0 where
  pub small : p.address < 2 ^ 32
  pub short : p.length ≤ 32
  pub clear : cleared p.length p.address ≡ p.address

-- the prefix of this length that contains an address
abbrev pub network : ℕ → ℕ → Network
network address n = record { address = cleared n address; length = n }

-- the prefix contains the address: its top bits are those of the prefix
abbrev pub holds : Network → ℕ → Bool
holds p address = top_bits p.length address == top_bits p.length p.address

-- the mask of n one bits and then 32 - n zero bits
abbrev pub netmask : ℕ → ℕ
netmask n = 2 ^ 32 - 2 ^ (32 - n)

-- the length n up to 32 whose mask this is, if there is one
abbrev pub mask_length : ℕ → Option ℕ
mask_length mask = if netmask (count_ones mask) == mask then Some (count_ones mask) else None

-- the address that a text stands for: four numbers up to 255 with dots between them, the most significant first
unfoldable pub address_of : List ℕ → Option ℕ
address_of text = do
  a ← cut_at 46 text
  b ← cut_at 46 a.1
  c ← cut_at 46 b.1
  w ← number_to 255 a.0
  x ← number_to 255 b.0
  y ← number_to 255 c.0
  z ← number_to 255 c.1
  Some (((w * 256 + x) * 256 + y) * 256 + z)

-- a number up to 32, or the length of a dotted mask
abbrev pub length_from : List ℕ → Option ℕ → Option ℕ
length_from text None = address_of text >>= λ mask. mask_length mask
length_from text (Some n) = Some n

-- the length that a text stands for: a number up to 32, or a dotted mask of one bits before zero bits
unfoldable pub length_of : List ℕ → Option ℕ
length_of text = length_from text (number_to 32 text)

-- an address alone has the length 32; else the length stands after the first `/`
abbrev pub prefix_parted : List ℕ → Option (List ℕ × List ℕ) → Option Network
prefix_parted text None = address_of text >>= λ a. Some (network a 32)
prefix_parted text (Some p) = address_of p.0 >>= λ a. length_of p.1 >>= λ n. Some (network a n)

-- the prefix that a text stands for
unfoldable pub prefix_of : List ℕ → Option Network
prefix_of text = prefix_parted text (cut_at 47 text)

-- the four bytes of an address, the most significant first
abbrev pub octets : ℕ → List ℕ
octets a = (a / 16777216) ∷ (a / 65536 % 256) ∷ (a / 256 % 256) ∷ (a % 256) ∷ []

-- the address as `a.b.c.d`
abbrev pub address_text : ℕ → List ℕ
address_text a =
    decimal (a / 16777216) ++ (46 ∷ (decimal (a / 65536 % 256) ++ (46 ∷ (decimal (a / 256 % 256) ++ (46 ∷ decimal (a % 256))))))

-- the prefix as `a.b.c.d/n`
abbrev pub prefix_text : Network → List ℕ
prefix_text p = address_text p.address ++ (47 ∷ decimal p.length)

-- the text is four numbers up to 255 with dots, and stands for this address
abbrev pub IsAddressText : List ℕ → ℕ → Type 0
IsAddressText text a = (text ≡ address_text a) × (a < 2 ^ 32)

-- the texts that stand for a prefix: an address alone (length 32), or with `/` and a length up to 32, or with `/` and a dotted
-- mask; the prefix has the address with the bits after the length cleared
pub data IsPrefixText : List ℕ → Network → Type 0 where
  alone : (a : ℕ) → a < 2 ^ 32 → IsPrefixText (address_text a) (network a 32)
  with_length : (a n : ℕ) → a < 2 ^ 32 → n ≤ 32 → IsPrefixText (address_text a ++ 47 ∷ decimal n) (network a n)
  with_mask : (a n : ℕ) → a < 2 ^ 32 → n ≤ 32 → IsPrefixText (address_text a ++ 47 ∷ address_text (netmask n)) (network a n)
