use Rattle.std.proofs.Common.{◌≡◌, ℕ, ◌+◌, ◌-◌, ◌∙◌, ◌++◌, ◌∷◌, [], List, length, take, drop, ap, subst, rules, slice_set}
use Rattle.bits.proofs.laws.BlockEditLaws.{filled_one}
use Rattle.bits.proofs.laws.HeldLaws.{all_written}
use Rattle.bits.proofs.moves.insert_at.Goals as goal

pub returns-clause-ok : goal.returns-clause-ok
returns-clause-ok c =
    let xs : List ℕ = c.args.items.now.items in
    let ys : List ℕ = c.args.item ∷ [] in
    let new : List ℕ = c.raise.new.items in
    let pushed : c.as_mut_slice.result.now ≡ xs ++ ys = c.as_mut_slice.ensures.value ∙ c.in_ok-push.ensures.items in
    let G : List ℕ → Type 0 = λ zs. (length new ≡ length zs) × (take c.args.at new ≡ take c.args.at zs) × (drop (c.args.at + 1) new ≡ take (length zs - (c.args.at + 1)) (drop c.args.at zs)) in
    let gap = subst G pushed (c.raise.ensures.same, c.raise.ensures.low, c.raise.ensures.high) in
    let whole = all_written c.push.new.self.len new c.push.new.self.items (c.raise.ensures.same ∙ c.as_mut_slice.ensures.len) in
    ap (λ (zs : List ℕ). slice_set zs c.args.at c.args.item) whole
    ∙ filled_one xs ys new c.args.at c.args.item (record { few = search rules; within = c.requires; same = gap.0; low = gap.1; high = gap.2 })
