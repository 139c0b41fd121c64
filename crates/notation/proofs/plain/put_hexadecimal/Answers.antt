use Rattle.std.proofs.Common.{◌≡◌, ◌++◌, List, ℕ, subst, OnOk}
use Rattle.std.specs.Prelude.{flat_map}
use Rattle.notation.specs.IntervalText.{digits_of, hexadecimal_text}
use Rattle.notation.proofs.plain.put_hexadecimal.Goals as goal

pub returns : goal.returns
unfolding hexadecimal_text
returns c =
    let P : List ℕ → Type 0 = λ bytes. OnOk c.put_digits.result (c.put_digits.new.text.items ≡ c.args.text.now.items ++ flat_map digits_of bytes) in
    subst P c.to_be_bytes.ensures c.put_digits.ensures
