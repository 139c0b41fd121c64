use Rattle.std.proofs.Common.{◌≡◌, ◌++◌, List, ℕ, subst, OnOk}
use Rattle.std.specs.Prelude.{filter}
use Rattle.notation.specs.ValueText.{interface_name, is_some_byte}
use Rattle.notation.proofs.values.put_interface.Goals as goal

pub returns : goal.returns
unfolding interface_name
returns c =
    let P : List ℕ → Type 0 = λ bytes. OnOk c.put_name.result (c.put_name.new.line.items ≡ c.args.line.now.items ++ filter is_some_byte bytes) in
    subst P c.to_be_bytes.ensures c.put_name.ensures
