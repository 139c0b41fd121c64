use Rattle.std.proofs.Common.{◌≡◌, ◌<◌, ◌∙◌, ◌++◌, ap, arith, length, take, rules, vec_len, vec_capacity, ◌∷◌, List, ℕ}
use Rattle.std.specs.List.{concat}
use Rattle.std.proofs.lemmas.List.{length-drop}
use Rattle.bits.specs.steps.Blocks.{head_of}
use Rattle.bits.proofs.laws.HeldLaws.{on_ok}
use Rattle.bits.proofs.laws.BlockEditLaws.{cut_first_kept, cut_first_shown, kept_as, put_in_room}
use Rattle.bits.proofs.blocks.Blocks.cut_first.Goals as goal

pub get-requires : goal.get-requires
get-requires c = omega (arith, length-drop 128 c.self.inside.first, ap (λ (ns : List ℕ). length ns) c.in_ok-block.ensures, c.len.ensures, c.if-len-most.false)

pub invariant_of-self-2 : goal.invariant_of-self-2
invariant_of-self-2 c =
    let free_heads : length c.reserve.new.self.items < vec_capacity c.reserve.new.self = let n : vec_len c.reserve.new.self ≡ length c.reserve.new.self.items = search rules in omega (arith, n, c.in_ok-reserve.ensures.ok) in
    let free_begins : length c.reserve-2.new.self.items < vec_capacity c.reserve-2.new.self = let n : vec_len c.reserve-2.new.self ≡ length c.reserve-2.new.self.items = search rules in omega (arith, n, c.in_ok-reserve-2.ensures.ok) in
    kept_as _ _ _ _ _ _ _ _ c.truncate.ensures
    (on_ok c.insert_at.result c.insert_at.ensures.ok (c.insert_at.ensures.there free_heads) ∙ ap (λ (ns : List ℕ). c.get.result ∷ ns) c.in_ok-reserve.ensures.items ∙ ap (λ n. n ∷ c.self.inside.heads.items) (c.get.ensures ∙ ap head_of c.in_ok-block.ensures))
    (on_ok c.insert_at-2.result c.insert_at-2.ensures.ok (c.insert_at-2.ensures.there free_begins) ∙ ap (λ (ns : List ℕ). 128 ∷ ns) c.in_ok-reserve-2.ensures.items)
    (put_in_room c.insert.result _ _ _ c.insert.ensures.items (c.insert.ensures.succeeds (omega (arith, c.in_ok-reserve-3.ensures.ok))) ∙ ap (λ (bs : List (List ℕ)). c.in_ok-block.block ∷ bs) c.in_ok-reserve-3.ensures.items ∙ ap (λ (b : List ℕ). b ∷ c.self.inside.later.items) c.in_ok-block.ensures)
    (cut_first_kept c.self.inside.first _ _ _ 128 c.self.invariant (omega (arith, c.len.ensures, c.if-len-most.false)))

pub returns : goal.returns
returns c =
    ap (λ (ns : List ℕ). ns ++ concat c.insert.new.self.items) c.truncate.ensures
    ∙ ap (λ (bs : List (List ℕ)). take 128 c.self.inside.first ++ concat bs) (put_in_room c.insert.result _ _ _ c.insert.ensures.items (c.insert.ensures.succeeds (omega (arith, c.in_ok-reserve-3.ensures.ok)))
    ∙ ap (λ (bs : List (List ℕ)). c.in_ok-block.block ∷ bs) c.in_ok-reserve-3.ensures.items ∙ ap (λ (b : List ℕ). b ∷ c.self.inside.later.items) c.in_ok-block.ensures)
    ∙ cut_first_shown c.self.inside.first c.self.inside.later.items 128 ∙ c.self.view_is
