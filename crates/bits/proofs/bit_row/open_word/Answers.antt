use Rattle.std.proofs.Common.{sym, ◌∙◌, ◌≡◌, ◌<◌, ◌+◌, ◌^◌, ap, length, arith, ◌++◌, ◌∷◌, [], subst, List, ℕ, true, Bool, cond, rules, vec_len, vec_capacity}
use Rattle.std.specs.Result.{is_ok}
use Rattle.bits.specs.steps.Packing.{IsOpen}
use Rattle.bits.proofs.laws.RowLaws.{open_new}
use Rattle.bits.proofs.bit_row.open_word.Goals as goal

pub returns-then-len-eq0-clause-open : goal.returns-then-len-eq0-clause-open
returns-then-len-eq0-clause-open c =
    let same_len : vec_len c.args.words.now ≡ length c.args.words.now.items = search rules in
    let lt : vec_len c.args.words.now < vec_capacity c.args.words.now = omega (arith, c.requires.packed.covers, c.requires.packed.tight, c.requires.room) in
    let ok : is_ok c.push.result ≡ true = c.push.ensures.succeeds lt in
    let is = c.push.ensures.items ∙ ap (λ (b : Bool). cond b (c.args.words.now.items ++ 0 ∷ []) c.args.words.now.items) ok in
    let small : length c.args.words.now.items + 1 < 2 ^ 58 = omega (arith, c.requires.packed.covers, c.requires.packed.tight, c.requires.room) in
    let P : List ℕ → Type 0 = λ vs. IsOpen c.args.words.now.items vs c.args.len in
    subst P (sym is) (open_new c.args.words.now.items c.args.len c.requires.packed c.if-len-eq0.true small)
