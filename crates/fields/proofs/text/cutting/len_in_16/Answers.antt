use Rattle.std.proofs.Common.{ltb, sym, ap, ◌∙◌, arith, w8}
use lib.Count.{count_trailing_zeros}
use lib.Lanes.{chunk}
use Rattle.std.proofs.lemmas.Simd.{length-chunk, bitmask_splat, leading_from_mask_l, trailing_mask_l}
use Rattle.fields.proofs.text.cutting.len_in_16.Goals as goal

pub returns-then-stops-eq0 : goal.returns-then-stops-eq0
returns-then-stops-eq0 c =
    let v = chunk c.args.at 16 c.args.bytes.now in
    let long = length-chunk c.args.at 16 c.args.bytes.now c.requires in
    let stops = bitmask_splat w8 ltb v 16 35 long (omega arith) in
    sym (leading_from_mask_l (λ x. ltb x 35) v (sym stops ∙ c.if-stops-eq0.true) ∙ long)

pub returns-else-stops-eq0 : goal.returns-else-stops-eq0
returns-else-stops-eq0 c =
    let v = chunk c.args.at 16 c.args.bytes.now in
    let long = length-chunk c.args.at 16 c.args.bytes.now c.requires in
    let stops = bitmask_splat w8 ltb v 16 35 long (omega arith) in
    ap (count_trailing_zeros 64) stops ∙ trailing_mask_l (λ x. ltb x 35) 64 v (omega arith) (omega arith)
