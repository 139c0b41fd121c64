use Rattle.std.proofs.Common.{◌≡◌, List, ℕ, sym, ap, subst, ◌∙◌, length, ◌++◌, ◌∷◌, [], Some, cond, rules, vec_len, take}
use Rattle.std.specs.Global.{Vec}
use Rattle.std.specs.BTreeMap.{get, is_at}
use Rattle.std.proofs.Math.Seq.{take-append_seam}
use Rattle.std.proofs.lemmas.List.{map_push, length-map}
use Rattle.dumps.specs.Foreign.{kept_names}
use Rattle.dumps.specs.Numbers.{Asked, Numbers, has, added, identity_at}
use Rattle.dumps.specs.Views.{kept_in, all_in, identity_in, key_cmp, IsIndex}
use Rattle.dumps.specs.declared.conditions.Kept.{Kept}
use Rattle.dumps.proofs.laws.NumberLaws.{index_pushed, index_same, added_last, at-end}
use Rattle.dumps.proofs.conditions.Conditions.add.Goals as goal

held : (kept : Vec Kept) → vec_len kept ≡ length kept.items
held kept = search rules

pub invariant_of-self-in-Ok : goal.invariant_of-self-in-Ok
invariant_of-self-in-Ok c =
    let all = all_in c.self.inside.kept.items in
    let pushed : all_in c.push.new.self.items ≡ all ++ kept_in c.args.kept ∷ [] = ap all_in c.in_ok-push.ensures.items ∙ map_push kept_in c.self.inside.kept.items c.args.kept in
    let count : c.len-number.result ≡ length all = c.len-number.ensures ∙ held c.self.inside.kept ∙ sym (length-map c.self.inside.kept.items kept_in) in
    subst (IsIndex c.insert.new.self) (sym pushed)
    (index_pushed c.self.inside.numbers c.insert.new.self all (kept_in c.args.kept) c.args.key c.self.invariant (sym c.requires.same)
    (ap (λ (v : Numbers). has v.all (identity_in c.args.key)) c.self.view_is ∙ c.requires.new)
    (λ q. c.in-Ok.ensures.updates.0 q ∙ ap (λ n. cond (is_at (key_cmp c.args.key) q) (Some n) (get key_cmp c.self.inside.numbers q)) count))

pub invariant_of-self-in-Err : goal.invariant_of-self-in-Err
invariant_of-self-in-Err c =
    let all : all_in c.truncate.new.self.items ≡ all_in c.self.inside.kept.items = ap all_in (c.truncate.ensures.items ∙ ap (take c.len-number.result) c.in_ok-push.ensures.items ∙ ap (λ n. take n (c.self.inside.kept.items ++ c.args.kept ∷ [])) (c.len-number.ensures ∙ held c.self.inside.kept) ∙ take-append_seam c.self.inside.kept.items (c.args.kept ∷ [])) in
    subst (IsIndex c.insert.new.self) (sym all) (index_same c.self.inside.numbers c.insert.new.self (all_in c.self.inside.kept.items) c.in-Err.ensures.err c.self.invariant)

pushed : (old new : List Kept) (one : Kept) → new ≡ old ++ one ∷ [] → all_in new ≡ all_in old ++ kept_in one ∷ []
pushed old new one e = ap all_in e ∙ map_push kept_in old one

count : (kept : Vec Kept) (n : ℕ) → n ≡ vec_len kept → n ≡ length (all_in kept.items)
count kept n e = e ∙ held kept ∙ sym (length-map kept.items kept_in)

pub returns-in-Ok-clause-after : goal.returns-in-Ok-clause-after
returns-in-Ok-clause-after c =
    let old : Numbers = record { sets = kept_names c.self.inside.set.items; all = all_in c.self.inside.kept.items } in
    ap (λ (l : List Asked). let x : Numbers = record { sets = kept_names c.self.inside.set.items; all = l } in x)
    (pushed c.self.inside.kept.items c.push.new.self.items c.args.kept c.in_ok-push.ensures.items)
    ∙ sym (added_last old (kept_in c.args.kept) (sym (ap (has old.all) c.requires.same) ∙ ap (λ (v : Numbers). has v.all (identity_in c.args.key)) c.self.view_is ∙ c.requires.new))
    ∙ ap (λ (v : Numbers). added v (kept_in c.args.kept ∷ [])) c.self.view_is

pub returns-in-Ok-clause-number : goal.returns-in-Ok-clause-number
returns-in-Ok-clause-number c =
    ap (λ (l : List Asked). identity_at l c.len-number.result) (pushed c.self.inside.kept.items c.push.new.self.items c.args.kept c.in_ok-push.ensures.items)
    ∙ at-end (all_in c.self.inside.kept.items) (kept_in c.args.kept) c.len-number.result (count c.self.inside.kept c.len-number.result c.len-number.ensures)
