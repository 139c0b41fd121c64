use Rattle.std.proofs.Common.{◌≡◌, ℕ, ◌+◌, ◌-◌, ◌∙◌, ◌++◌, ◌∷◌, [], List, length, take, drop, ap, subst, refl, slice_set}
use Rattle.std.proofs.lemmas.List.{append_assoc}
use Rattle.bits.proofs.laws.BlockEditLaws.{filled_pair}
use Rattle.bits.proofs.laws.HeldLaws.{all_written}
use Rattle.bits.proofs.moves.insert_pair_at.Goals as goal

pub returns-clause-ok : goal.returns-clause-ok
returns-clause-ok c =
    let xs : List ℕ = c.args.items.now.items in
    let ys : List ℕ = c.args.first ∷ c.args.other ∷ [] in
    let new : List ℕ = c.raise.new.items in
    let one : c.push_reserved.new.self.items ≡ xs ++ (c.args.first ∷ []) = c.push_reserved.ensures.items ∙ ap (λ (zs : List ℕ). zs ++ (c.args.first ∷ [])) c.in_ok-reserve.ensures.items in
    let pushed : c.as_mut_slice.result.now ≡ xs ++ ys =
    c.as_mut_slice.ensures.value ∙ c.push_reserved-2.ensures.items ∙ ap (λ (zs : List ℕ). zs ++ (c.args.other ∷ [])) one ∙ append_assoc xs (c.args.first ∷ []) (c.args.other ∷ []) in
    let G : List ℕ → Type 0 = λ zs. (length new ≡ length zs) × (take c.args.at new ≡ take c.args.at zs) × (drop (c.args.at + 2) new ≡ take (length zs - (c.args.at + 2)) (drop c.args.at zs)) in
    let gap = subst G pushed (c.raise.ensures.same, c.raise.ensures.low, c.raise.ensures.high) in
    let whole = all_written c.push_reserved-2.new.self.len new c.push_reserved-2.new.self.items (c.raise.ensures.same ∙ c.as_mut_slice.ensures.len) in
    ap (λ (zs : List ℕ). slice_set (slice_set zs c.args.at c.args.first) (c.args.at + 1) c.args.other) whole
    ∙ filled_pair xs ys new c.args.at c.args.first c.args.other (record { few = refl; within = c.requires; same = gap.0; low = gap.1; high = gap.2 })
