-- Times to live, as `--ttl-eq`, `--ttl-gt` and `--ttl-lt` take them (iptables-extensions(8), ttl).
use Rattle.std.specs.Prelude.{ℕ, List, Option, decimal}
use Rattle.fields.specs.text.Number.{number_to}

-- the time to live that a text stands for: a number up to 255
unfoldable pub ttl_of : List ℕ → Option ℕ
ttl_of text = number_to 255 text

-- its decimal text
abbrev pub ttl_text : ℕ → List ℕ
ttl_text ttl = decimal ttl
