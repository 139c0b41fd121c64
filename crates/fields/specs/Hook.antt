-- The hooks, that is the points where a packet enters the table: one for each built-in chain (iptables(8), TABLES).
use Rattle.std.specs.Prelude.{ℕ, List, [], ◌∷◌, Option, codes, find}
use Rattle.std.specs.Str.{bytes_eq}
use Rattle.fields.specs.declared.packet.hook.Hook.{Hook}
use Rattle.fields.specs.declared.packet.hook.Hook.TheVariants.{Input, Forward, Output}

-- the name of the hook's built-in chain
abbrev pub name : Hook → List ℕ
name Input = codes "INPUT"
name Forward = codes "FORWARD"
name Output = codes "OUTPUT"

-- the hooks, in the order of a listing
abbrev pub all_hooks : List Hook
all_hooks = Input ∷ Forward ∷ Output ∷ []

-- the hook of a built-in chain's name
abbrev pub hook_of : List ℕ → Option Hook
hook_of text = find (λ hook. bytes_eq (name hook) text) all_hooks
