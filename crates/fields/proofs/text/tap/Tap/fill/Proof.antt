-- `fill` by hand: the borrow of the tap is cut into those of its two fields, and both end when `fill_from` returns.
use mathlib.Core.Path.{◌≡◌, refl, sym, ap}
use Prim.Native.Nat.{ℕ, zero, ◌+◌, ◌-◌, ◌<◌}
use mathlib.Core.Bool.{Bool, true, false}
use mathlib.Core.List.{List, [], ◌∷◌}
use seplogic.Ra.Ura.{Ura}
use base.Fraction.{full_share}
use base.FractionLaws.{common}
use base.Logic.{SProp, ent, sep, id⊢, via, mono_r}
use base.Fml.{Lft, GName, ftrue, fres, fobs, fbor, flft}
use mir.Syntax.{named, a_type, dcons, dnil, ty_bool}
use mir.MapTy.{inst_fn}
use mir.Val.{Val, vptr}
use prog.Memory.{size, align, up}
use types.Logic.{Logic, sem}
use types.SemTy.{Body}
use types.Mut.{open_ref}
use types.Follow.{takes_two, after₂, followed₂}
use types.Kit.{mean, ‵, raw, ◌⊛◌, some, later, ◌$◌, ◌∵◌, !, qed, done, move, keep, drop, use1, use2, split, split3, join, fsplit, fsplit3, fjoin, fjoin3, fpack, fpick, feq_i, pick, await, suffices, group}
use types.Run.{enter, addr, stop, fld, no_more, and_then, returns}
use types.ByLocal.{alloc_all, pass_all, free_all, look_at, get, through, sets, lands_as}
use contract.Monad.{fact}
use contract.Running.{tables}
use denote.RattleType.{RattleType}
use denote.Memory.{part_at, mem}
use denote.Builtin.{bool}
use denote.Exit.{no, yes}
use denote.Param.{param, layout, bounded}
use denote.Param.Laws.{Laws, param_laws, of_field}
use denote.Param.Shared.{copy_shared}
use denote.Ref.{MutRef, mut_vals, mut_Tells, MutBor}
use denote.Signature.{plain, mut_ref_to}
use denote.Struct.Field.{Field, row_field, bool-field, u8-field, shr_slice_field}
use denote.Struct.Laws.{shr_slice_laws, shr_slice_copy, u8-laws, u8-copy}
use denote.Follow.{such_by, follows_by}
use Rattle.std.specs.Prelude.{Result, is_err, ⊤, IfSome, IfOk, OnOk, length}
use Rattle.std.specs.Io.{StartsWith}
use Rattle.std.specs.declared.io.traits.BufRead.{Ghosts as BufRead-ghosts}
use Rattle.std.specs.declared.io.traits.Read.{Ghosts as Read-ghosts}
use Rattle.std.specs.Borrow.{Bor}
use Rattle.std.specs.Io.BufRead.{Rests, FillKeeps}
use Rattle.std.specs.contracts.result.Result.{the_row as Result-row}
use Rattle.std.proofs.result.Result.TheLaws.{the_row_laws as Result-laws}
use Rattle.fields.specs.contracts.text.tap.ReadFailed.{the_row as ReadFailed-row}
use Rattle.fields.specs.contracts.text.tap.Seen.{the_row as Seen-row, the_type as Seen-type, the_field as Seen-field}
use Rattle.fields.proofs.text.tap.Seen.TheLaws.{the_field_laws as Seen-laws}
use Rattle.fields.proofs.text.tap.ReadFailed.TheLaws.{the_row_laws as ReadFailed-laws}
use Rattle.fields.specs.declared.text.tap.ReadFailed.{ReadFailed}
use denote.Struct.Members.{Member}
use denote.Struct.Declared.{Declared}
use denote.Laws.{shows}
use denote.Steps.{nothing, owned, heard, peeks}
use denote.Triple.Call.{calls_at}
use denote.Triple.Clauses.{lasts, Lasts}
use denote.Triple.Spec.{triple_of}
use denote.Triple.Table.{framed}
use denote.Triple.Walked.{Stays, stay_dropped, Goes-dropped, Goes-spent_ref, ends_at}
use borrow.Struct.Lend.{own_same}
use borrow.Struct.LendTwo.{kept_but, cuts_first, cuts_but, fills_but, Fills-first}
use denote.Plain.{bool_Lawful, bool_Makes, bool_vals, bool_Tells}
use Rattle.std.proofs.raw_atomic.Walks.{proved}
use Rattle.fields.specs.declared.text.tap.Seen.{Seen}
use Rattle.fields.specs.declared.text.tap.Tap.{Tap}
use Rattle.fields.specs.text.Tap.{is_late_after, lent}
use Rattle.fields.specs.contracts.text.tap.Tap.{the_row, the_type}
use Rattle.fields.specs.contracts.text.tap.Tap.fill as f
use Rattle.fields.proofs.text.tap.Tap.fill.Statement.{statement}
use Rattle.fields.proofs.text.tap.Tap.fill.Code as code
use Rattle.fields.specs.contracts.text.tap.fill_from as g
use Rattle.fields.proofs.text.tap.fill_from.Met.{met}

module _ (R : RattleType) where
  abbrev P : RattleType
  P = param 0 R

  abbrev W : RattleType
  W = the_row P

  abbrev ms : List Member
  ms = record { row = (row_field P).row; ty = layout R } ∷ record { row = Seen-field.row; ty = layout Seen-row } ∷ record { row = bool-field.row; ty = ty_bool } ∷ []

  abbrev d0 : ℕ
  d0 = up (align (layout R)) zero

  abbrev d1 : ℕ
  d1 = up (align (layout Seen-row)) (d0 + size (layout R))

  abbrev with_both : Tap R.Denot → R.Denot → Seen → Tap R.Denot
  with_both h w v = record h { device = w; seen = v }

  module _ (L : Laws R) {M : Type 1} {𝓤 : Ura M} (𝓛 : Logic 𝓤) (h : Tap R.Denot) (b o : ℕ) where
    abbrev T : Declared
    T = the_type P

    abbrev Rest : SProp 𝓤
    Rest = mean 𝓛 (kept_but T.name ms T.D T.to T.to_one (true ∷ true ∷ false ∷ []) M 𝓤 𝓛 h b o)

    cut : ent 𝓤 (sem 𝓛 (part_at W full_share h b o)) (sep 𝓤 (sem 𝓛 (part_at P full_share h.device b (o + d0))) (sep 𝓤 (sem 𝓛 (part_at Seen-row full_share h.seen b (o + d1))) Rest))
    cut = via 𝓤 (sep 𝓤 (sem 𝓛 (part_at P full_share h.device b (o + d0))) (mean 𝓛 (kept_but T.name ms T.D T.to T.to_one (true ∷ false ∷ false ∷ []) M 𝓤 𝓛 h b o)))
        (cuts_first T.name ms T.D T.to T.to_one 𝓛 ((param_laws 0 R L).lawful 𝓛, (Seen-laws.lawful 𝓛, (bool_Lawful 𝓛, tt))) 0 tt P d0 (λ k. k.device) (λ k b' o'. refl) h b o)
        (mono_r 𝓤 (sem 𝓛 (part_at P full_share h.device b (o + d0))) (cuts_but T.name ms T.D T.to T.to_one (true ∷ false ∷ false ∷ []) 1 tt Seen-row d1 (λ k. k.seen) (λ k b' o'. sym (own_same Seen-type k.seen b' (o' + d1))) M 𝓤 𝓛 h b o))

    back : (w : R.Denot) (v : Seen) → ent 𝓤 (sep 𝓤 (sem 𝓛 (part_at P full_share w b (o + d0))) (sep 𝓤 (sem 𝓛 (part_at Seen-row full_share v b (o + d1))) Rest)) (sem 𝓛 (part_at W full_share (with_both h w v) b o))
    back w v = via 𝓤 (sep 𝓤 (sem 𝓛 (part_at P full_share w b (o + d0))) (mean 𝓛 (kept_but T.name ms T.D T.to T.to_one (true ∷ false ∷ false ∷ []) M 𝓤 𝓛 (record h { seen = v }) b o)))
        (mono_r 𝓤 (sem 𝓛 (part_at P full_share w b (o + d0))) (fills_but T.name ms T.D T.to T.to_one (true ∷ false ∷ false ∷ []) 1 tt Seen-row d1 (λ k x. record k { seen = x }) (λ k x b' o'. sym (own_same Seen-type x b' (o' + d1))) (λ k x b' o'. refl) M 𝓤 𝓛 h v b o))
        (Fills-first T.name ms T.D T.to T.to_one 0 tt P d0 (λ k x. record k { device = x }) (λ k x b' o'. refl) (λ k x b' o'. refl) M 𝓤 𝓛 (record h { seen = v }) w b o)

-- the result
abbrev shown_field : Lft → Field
shown_field κ = shr_slice_field (record { mir = named 0; lft = κ }) u8-field.row tt

abbrev Shown : Lft → RattleType
Shown κ = Result-row (shown_field κ).row ReadFailed-row

shown_laws : (κ : Lft) → Laws (Shown κ)
shown_laws κ = Result-laws (shown_field κ).row ReadFailed-row
    (of_field (shown_field κ) (shr_slice_laws (record { mir = named 0; lft = κ }) u8-field.row tt) refl
    (copy_shared (shown_field κ) (shr_slice_copy (record { mir = named 0; lft = κ }) u8-field.row tt (of_field u8-field u8-laws refl (copy_shared u8-field u8-copy)).shr_laws)))
    ReadFailed-laws

-- what the clause says of the tap afterwards
abbrev IsFilled : {D : Type 0} → BufRead-ghosts D → Read-ghosts D → Tap D → Bool → Result (Bor (List ℕ)) ReadFailed → Tap D → Type 0
IsFilled gB gR h w r new = FillKeeps (gR.remaining h.device) (gR.remaining new.device) (gB.consumable_len new.device) r × (new.seen.failed ≡ is_err r) × (new.seen.turns ≡ h.seen.turns - 1) × (new.seen.shown ≡ lent r)
    × (new.seen.late ≡ is_late_after h w) × (h.seen.failed ≡ true → new.device ≡ h.device)

pub fill_spec : {M : Type 1} → statement M
unfolding such_by follows_by
fill_spec {M} 𝓤 𝓛 𝓜 𝓡 wired R L gB dB gR dR mB mR =
    let ended = f.ended R gB dB gR dR in
    let c = f.clauses R gB dB gR dR 𝓛 𝓜.mem 𝓡.returns in
    let stayed : Stays ended.signature.params ended.kept = (stay_dropped (mut_ref_to (0 ∷ []) tt (plain (λ κs. W R))) no, (stay_dropped (plain (λ _. bool)) yes, tt)) in
    let args = bounded (a_type ∷ []) (R, tt) (dcons dB (dcons dR dnil)) in
    let fn' = inst_fn args code.function in
    proved 𝓛 ended stayed c 𝓜 𝓡 (Goes-spent_ref 𝓛 2 (0 ∷ []) tt (plain (λ κs. W R)), (Goes-dropped 𝓛 2 (plain (λ _. bool)) yes (λ κs x f. refl), tt))
    (f.Key.name args) fn' (code.unfolded 𝓤 𝓛.H 𝓜 𝓡 wired (R, tt) dB dR)
    (λ κs. (mut_vals, (bool_vals, tt))) (λ κs. (mut_Tells (named 0) κs.0 (W R), (bool_Tells, tt))) (λ κs qs bounds a _ are.
    let κ = κs.0 in let q = qs.0 in let r = a.0 in let b = r.ref_ptr.0 in let o = r.ref_ptr.1 in let γ = r.ghost_name in let h = r.now in let w = a.1.0 in let vs = mut_vals r in
    let need = (c κs a).requires tt in
    qed 𝓛 (((‵ (flft κ q) ⊛ ‵ (flft κs.1.0 qs.1.0) ⊛ ‵ ftrue) ⊛ ‵ ((MutRef (named 0) κ (W R)).own_val r vs) ⊛ ‵ (bool.own_val w (bool_vals w)) ⊛ ‵ ftrue) ∷ raw need ∷ []) ∵
    split ! $ split3 ! $ move ! (3 ∷ []) $ split3 ! $ keep ! (0 ∷ 3 ∷ 4 ∷ 6 ∷ []) $ fsplit3 ! $ drop ! $
    -- [obs; the borrow; the token; the other token; the requires]
    enter ! _ _ _ _ _ $ alloc_all ! (λ l. pass_all ! refl ((tt, tt), ((tt, tt), tt)) $
    sets ! (addr ! (through ! refl (fld ! refl (stop !)))) refl (tt, tt) $
    sets ! (addr ! (through ! refl (fld ! refl (stop !)))) refl (tt, tt) $
    open_ref ! tt (mem (W R)) {b = b} {o = o} $
    use1 𝓛 (‵ (part_at (P R) full_share h.device b (o + d0 R)) ⊛ ‵ (part_at Seen-row full_share h.seen b (o + d1 R)) ⊛ raw (Rest R L 𝓛 h b o)) (cut R L 𝓛 h b o) $ split3 ! $
    move ! (3 ∷ 4 ∷ 5 ∷ 0 ∷ 1 ∷ 2 ∷ []) $ group ! 6 $
    use1 𝓛 (later (some (λ (γs : GName × GName). (‵ (fobs γs.0 ((P R).coded.code h.device)) ⊛ ‵ (fbor κ (Body (mem (P R)) b (o + d0 R) γs.0)))
    ⊛ (‵ (fobs γs.1 (Seen-row.coded.code h.seen)) ⊛ ‵ (fbor κ (Body (mem Seen-row) b (o + d1 R) γs.1)))
    ⊛ ‵ (flft κ q) ⊛ ‵ (after₂ (mem (W R)) (mem (P R)) (mem Seen-row) γ γs.0 γs.1 (with_both R h)))))
    (takes_two 𝓛 (mem (W R)) (mem (P R)) (mem Seen-row) (with_both R h) κ q b o b (o + d0 R) b (o + d1 R) γ (Rest R L 𝓛 h b o) (back R L 𝓛 h b o) ((W R).coded.code h) ((W R).coded.code h) h.device h.seen) $
    await ! tt $ pick ! (λ γs. split ! $ split ! $ move ! (2 ∷ []) $ split ! $ split ! $ move ! (2 ∷ []) $ split ! $
    let half = common q q in
    use1 𝓛 (‵ (flft κ half.0) ⊛ ‵ (flft κ half.1)) (𝓛.lfts.lft_cut κ q half.0 half.1 half.3) $ split ! $
    -- [a half; the other; after; the flag's obs, borrow; the device's obs, borrow; the other token; the requires]
    feq_i ! (List Val) (vptr b (o + d1 R) ∷ []) (vptr b (o + d1 R) ∷ []) refl $ move ! (0 ∷ 4 ∷ 5 ∷ []) $ fjoin3 ! $
    feq_i ! (List Val) (vptr b (o + d0 R) ∷ []) (vptr b (o + d0 R) ∷ []) refl $ move ! (0 ∷ 5 ∷ 6 ∷ []) $ fjoin3 ! $
    nothing ! $ owned ! bool _ (bool_Makes 𝓛) w _ refl $ join ! $ move ! (2 ∷ 0 ∷ []) $ join ! $ move ! (1 ∷ 0 ∷ []) $ join ! $
    nothing ! $ move ! (5 ∷ 0 ∷ []) $ join ! $ move ! (3 ∷ 0 ∷ []) $ join ! $ move ! (2 ∷ 0 ∷ []) $ join ! $ join ! $
    move ! (0 ∷ 2 ∷ []) $
    let G = triple_of 𝓛 (g.signature R) (g.spec R gB dB gR dR 𝓛 𝓜.mem 𝓡.returns) in
    let device : MutBor R.Denot = record { ref_ptr = (b, o + d0 R); ghost_name = γs.0; now = h.device } in
    let flag : MutBor Seen = record { ref_ptr = (b, o + d1 R); ghost_name = γs.1; now = h.seen } in
    let z : G.Ghost = (((κ, (κ, (κs.1.0, tt))), (half.0, (half.1, (qs.1.0, tt))), bounds, (device, (flag, (w, tt))), (mut_vals device, (mut_vals flag, (bool_vals w, tt)))), tt) in
    use2 𝓛 (raw (G.pre z)) (id⊢ 𝓤 _) $
    calls_at ! (framed 𝓤 𝓛.H 𝓜 (tables 𝓤 𝓛.H 𝓜 𝓡 𝓡.env)) G (met 𝓤 𝓛 𝓜 𝓡 (code.calls-fields::text::tap::fill_from 𝓡.env wired) R L gB dB gR dR mB mR) z
    (and_then ! (get ! refl) (and_then ! (get ! refl) (and_then ! (get ! refl) (no_more !)))) (λ v.
    use1 𝓛 (later (some (λ (r' : Result (Bor (List ℕ)) ReadFailed).
    ((‵ (flft κ half.0) ⊛ ‵ (flft κ half.1) ⊛ ‵ (flft κs.1.0 qs.1.0) ⊛ ‵ ftrue) ⊛ ‵ ((Shown κ).own_val r' (v ∷ [])))
    ⊛ some (λ (ws : Lasts (g.ended R gB dB gR dR) z.0.0 z.0.3). ‵ (lasts (g.ended R gB dB gR dR) z.0.0 z.0.3 ws)
    ⊛ ‵ (Rests (P R) device (λ new. FillKeeps (gR.remaining h.device) (gR.remaining new) (gB.consumable_len new) r' × (h.seen.failed ≡ true → new ≡ h.device)))
    ⊛ raw (fact 𝓤 (IfSome (gR.remaining h.device) (λ xs. IfOk r' (λ shown. StartsWith xs shown.now))))
    ⊛ raw (fact 𝓤 (IfSome (gR.remaining h.device) (λ xs. IfOk r' (λ shown. length shown.now ≡ 0 → xs ≡ []))))
    ⊛ raw (fact 𝓤 (OnOk r' ((h.seen.failed ≡ false) × (0 < h.seen.turns))))
    ⊛ raw (fact 𝓤 (ws.1.0 ≡ record { failed = is_err r'; shown = lent r'; turns = h.seen.turns - 1; late = is_late_after h w })))))) (id⊢ 𝓤 _) $
    await ! tt $ pick ! (λ r'. split ! $ split ! $ split ! $ move ! (1 ∷ []) $ split ! $ move ! (2 ∷ 0 ∷ []) $
    use2 𝓛 (‵ (flft κ q)) (𝓛.lfts.lft_glue κ q half.0 half.1 half.3) $ move ! (1 ∷ []) $ split ! $
    -- [the other token; nothing; the token; the result; the last values; after]
    move ! (4 ∷ []) $ pick ! (λ ws. split ! $ move ! (1 ∷ []) $ split ! $
    move ! (1 ∷ []) $ split ! $ move ! (1 ∷ []) $ split ! $ move ! (1 ∷ []) $ split ! $ move ! (1 ∷ []) $ heard ! _ (λ is.
    -- the three facts that the caller is told, behind the rest
    move ! (1 ∷ 0 ∷ []) $ join ! $ move ! (1 ∷ 0 ∷ []) $ join ! $ move ! (1 ∷ 2 ∷ 3 ∷ 4 ∷ 5 ∷ 6 ∷ 7 ∷ []) $ fpick ! (λ s.
    move ! (1 ∷ []) $ fsplit ! $ move ! (1 ∷ []) $ fsplit ! $
    fsplit ! $
    -- [the flag's last value; its borrow; nothing; nothing; the device's last value; the other token; nothing; the token; the result; after]
    move ! (4 ∷ 0 ∷ []) $ join ! $ move ! (0 ∷ 8 ∷ []) $
    use2 𝓛 (‵ (fres γ ((W R).coded.code (with_both R h s.0.1 ws.1.0))))
    (followed₂ 𝓛 (mem (W R)) (mem (P R)) (mem Seen-row) (with_both R h) γ γs.0 γs.1 s.0.1 ws.1.0) $
    move ! (7 ∷ []) $ peeks ! (Shown κ) _ (shows 𝓛 (Shown κ)) r' (v ∷ []) (λ sh.
    lands_as ! refl refl (((shown_laws κ).lawful 𝓛).typed r' (v ∷ []) sh).0 $
    returns ! (look_at ! 0 refl) $ free_all ! refl $ keep ! (1 ∷ 0 ∷ 5 ∷ 7 ∷ 8 ∷ []) $
    let last : Tap R.Denot = with_both R h s.0.1 ws.1.0 in
    suffices ! _ (ends_at 𝓛 ended stayed c ((κs, qs, bounds, a, (vs, (bool_vals w, tt))), tt) v r' (tt, (tt, tt)) (tt, (tt, tt))) $
    fpack ! ((u : (Tap R.Denot → Tap R.Denot) × Tap R.Denot) × ((w : Tap R.Denot) → ⊤) × IsFilled gB gR h w r' u.1)
    (λ u. fres γ ((W R).coded.code u.0.1)) (((λ _. last), last), (λ _. tt), (s.2.0, ap (λ k. k.failed) is, ap (λ k. k.turns) is, ap (λ k. k.shown) is, ap (λ k. k.late) is, s.2.1)) $
    move ! (0 ∷ 4 ∷ []) $ join ! $
    nothing ! $ nothing ! $ fjoin ! $ nothing ! $ fjoin ! $ move ! (0 ∷ 2 ∷ []) $ join ! $ nothing ! $ move ! (3 ∷ 0 ∷ []) $ join ! $ move ! (3 ∷ 0 ∷ []) $ join ! $ join ! $ done !)))))))))
