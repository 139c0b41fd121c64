use Rattle.std.proofs.Common.{◌∙◌, ◌++◌, ap, map, refl, List, ℕ}
use Rattle.std.specs.List.{concat}
use Rattle.bits.specs.steps.Held.{redirected}
use Rattle.bits.proofs.laws.BlockEditLaws.{kept_as, map_kept, map_shown}
use Rattle.bits.proofs.laws.HeldLaws.{all_written}
use Rattle.bits.proofs.blocks.Blocks.redirect.Goals as goal

pub invariant_of-self : goal.invariant_of-self
invariant_of-self c =
    let f : ℕ → ℕ = redirected c.args.from c.args.to in
    kept_as _ _ c.self.inside.begins.items _ _ _ _ _ c.redirect.ensures
    (all_written c.self.inside.heads.len c.redirect-2.new.numbers c.self.inside.heads.items (c.redirect-2.auto.numbers ∙ c.as_mut_slice.ensures.len) ∙ c.redirect-2.ensures ∙ ap (λ (ns : List ℕ). map f ns) c.as_mut_slice.ensures.value)
    refl
    (all_written c.self.inside.later.len c.redirect_each.new.blocks c.self.inside.later.items (c.redirect_each.auto.blocks ∙ c.as_mut_slice-2.ensures.len) ∙ c.redirect_each.ensures ∙ ap (λ (bs : List (List ℕ)). map (map f) bs) c.as_mut_slice-2.ensures.value)
    (map_kept f c.self.inside.first c.self.inside.heads.items c.self.inside.begins.items c.self.inside.later.items c.self.invariant)

pub returns : goal.returns
returns c =
    let f : ℕ → ℕ = redirected c.args.from c.args.to in
    ap (λ (bs : List (List ℕ)). c.redirect.new.self ++ concat bs)
    (all_written c.self.inside.later.len c.redirect_each.new.blocks c.self.inside.later.items (c.redirect_each.auto.blocks ∙ c.as_mut_slice-2.ensures.len) ∙ c.redirect_each.ensures ∙ ap (λ (bs : List (List ℕ)). map (map f) bs) c.as_mut_slice-2.ensures.value)
    ∙ ap (λ (ns : List ℕ). ns ++ concat (map (map f) c.self.inside.later.items)) c.redirect.ensures
    ∙ map_shown f c.self.inside.first c.self.inside.later.items ∙ ap (λ (ns : List ℕ). map f ns) c.self.view_is
