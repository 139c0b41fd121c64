use Rattle.std.proofs.Common.{◌≡◌, ◌∙◌, ◌<◌, ◌+◌, ◌*◌, ℕ, List, [], ◌∷◌, None, false, nat_lt, cond, ap, sym, length, drop, length-drop, rules, arith}
use Rattle.fields.specs.Sequence.{◌>>=◌}
use Rattle.notation.specs.Range.{digit_of, digits_from}
use Rattle.notation.proofs.interfaces.digits_value.Goals as goal

no-room : (n : ℕ) (xs : List ℕ) → 0 < length xs → nat_lt n 21267647932558653966460912964485513216 ≡ false → digits_from n xs ≡ None
no-room n [] some full = absurd (omega arith)
no-room n (b ∷ bs) some full = ap (λ t. cond t (digit_of b >>= λ d. digits_from (n * 16 + d) bs) None) full

pub returns-then-not-has_room : goal.returns-then-not-has_room
returns-then-not-has_room c =
    let left : 0 < length (drop c.loop-byte.byte-index c.args.text.now) = simp length-drop (omega arith) in
    sym (no-room c.loop-byte.value (drop c.loop-byte.byte-index c.args.text.now) left (search rules)) ∙ c.loop-byte.invariant
