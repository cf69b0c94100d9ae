-- The slice is lent again, to f, for a lifetime that ends with the call. What the token of f's answer says is what it comes back as.
use Rattle.std.proofs.Common.{◌≡◌, List, [], ◌∷◌, ◌++◌, length, refl, sym, subst, ap, ◌∙◌}
use mir.Syntax.{named, erased, a_type, dcons, dnil, tnil, impl}
use mir.MapTy.{inst_fn}
use mir.Val.{Val, vnil, vcons, vstruct, of_list}
use base.Fraction.{full_share}
use base.FractionLaws.{common}
use base.Share.{halves, left, right}
use base.Logic.{SProp, ent, emp, id⊢, sep, wand, apply∗}
use base.Stored.{coded_list}
use base.Fml.{GName, Lft, Share, ftrue, fsep, flft, fdead, fres}
use prog.Wp.{WpFn}
use types.Kit.{‵, raw, ◌⊛◌, some, later, ◌$◌, ◌∵◌, !, qed, by, move, keep, drop, split, join, fsplit, fsplit3, fjoin, fpick, feq_l, feq_i}
use types.Kit.{suffices, use0, use1, use2, use3, rewrite, await, pick, given, learn}
use types.Part.{whole, sub, agg}
use types.Run.{addr, from, fld, hop, stop, of_opd, and_then, no_more, returns, enter}
use types.ByLocal.{alloc_all, pass_all, free_all, look_at, look_in_at, get, get_in, sets, lands_as}
use types.Tokens.{lft_new, lft_end, lft-common}
use contract.BorrowLft.{◌⊑◌, ⊑_trans, meet_⊑_left, meet_⊑_right}
use contract.Monad.{fact, fact_i}
use contract.Running.{tables}
use contract.Lifetimes.{Lfts}
use denote.Exit.{no}
use denote.FollowSlice.{heres_id}
use denote.Laws.{Is, shows}
use denote.Param.{param, layout, bounded}
use denote.Param.Laws.{param_laws}
use denote.Ref.{MutBor}
use denote.RattleType.{RattleType, owns}
use denote.Slice.{MutSlice, mut_slice_vals, slice_val, finally, res-finally}
use denote.Signature.{types_at, type_at, plain, named_lft}
use denote.Steps.{nothing, heard, peeks, only}
use denote.Struct.Tuple.{tuple_laws}
use denote.Triple.Call.{calls_at}
use denote.Triple.Carry.{insides}
use denote.Triple.Clauses.{lasts, Lasts, closing}
use denote.Triple.Spec.{triple_of}
use denote.Triple.Statement.{Contract}
use denote.Triple.Table.{framed}
use denote.Triple.Walked.{Stays, walk_of, stay_dropped, stay_slice, Goes-slice, Goes-dropped}
use borrow.Table.Owned as owned
use borrow.Rule.Slice.Lend.{kept_f, sl_relend, sl_relent_backˡ}
use Rattle.std.proofs.cell.Inside.{one, Good}
use Rattle.std.proofs.raw_atomic.Walks.{proved_at, leaves}
use Rattle.std.specs.contracts.ops.FnOnce.call_once as call_once
use Rattle.sgb_loans.specs.declared.loans.Ended.{Ended}
use Rattle.sgb_loans.specs.Loans.{ended_as}
use Rattle.sgb_loans.proofs.loans.Ended.TheLaws as ended_laws
use Rattle.sgb_loans.specs.contracts.loans.Ended as end
use Rattle.sgb_loans.specs.contracts.resolve.lend as f
use Rattle.sgb_loans.specs.contracts.resolve.lend.F-FnOnce as Called
use Rattle.sgb_loans.specs.contracts.resolve.lend.Key.{name as #self}
use Rattle.sgb_loans.proofs.resolve.lend.Statement.{statement}
use Rattle.sgb_loans.proofs.resolve.lend.Code as code

pub lend_spec : {M : Type 1} → statement M
lend_spec 𝓤 𝓛 𝓜 𝓡 wired T B F LT LB LF g d d' met _ =
    let H = 𝓛.H in let 𝓣 = tables 𝓤 H 𝓜 𝓡 𝓡.env in let R : RattleType = param 0 T in let Q : RattleType = param 1 B in
    let X : RattleType = param 2 F in let LR = param_laws 0 T LT in let LQ = param_laws 1 B LB in
    let En = f.ended T B F g d d' in let c = f.clauses T B F g d d' 𝓛 𝓜.mem 𝓡.returns in let E = Called.ended T B F in
    let inst = bounded (a_type ∷ a_type ∷ a_type ∷ []) (T, (B, (F, tt))) (dcons d (dcons d' dnil)) in
    let fn = inst_fn inst code.function in
    let hs : Stays En.signature.params En.kept =
    (stay_slice (0 ∷ []) tt (plain (λ _. R)), (stay_dropped (plain (λ _. X)) no, tt)) in
    proved_at 𝓛 En hs c 𝓜 𝓡 (Goes-slice 𝓛 4 0 tt (plain (λ _. R)), (Goes-dropped 𝓛 4 (plain (λ _. X)) no (λ κs x w. refl), tt))
    (#self inst) fn (code.unfolded 𝓤 H 𝓜 𝓡 wired (T, (B, (F, tt))) d d') (λ z are.
    let κs = z.0.0 in let qs = z.0.1 in let Post : Val → SProp 𝓤 = (walk_of 𝓛 En hs c).post z in
    let Run : List Val → SProp 𝓤 = λ ws. WpFn 𝓤 H 𝓣.C 𝓣.Λ fn ws Post in
    let κ = κs.0 in let κT = κs.1.0 in let κB = κs.1.1.0 in let κF = κs.1.1.1.0 in
    let all = z.0.3.0 in let h = z.0.3.1.0 in let fn' = are.0.0.1.0 in
    let w = one (layout F) z.0.4.1.0 (((param_laws 2 F LF).lawful 𝓛).typed h z.0.4.1.0 are.1.0) in
    let Vs : List Val = slice_val all.ref_ptr (length all.now) ∷ w.0 ∷ [] in
    let InT : Type 0 = κT ⊑ T.lives in let InB : Type 0 = κB ⊑ B.lives in let InF : Type 0 = κF ⊑ F.lives in
    let May : Type 0 = (p : MutBor (List T.Denot)) → p.now ≡ all.now → g.pre h (p, tt) in
    let Names : Type 0 = (p : MutBor (List T.Denot)) → (l : Ended T.Denot) → (a : B.Denot) → p.now ≡ all.now → g.post h (p, tt) (l, a)
    → l.name ≡ p.ghost_name in
    let b = all.ref_ptr.0 in let o = all.ref_ptr.1 in let xs = all.now in let r : Share = left qs.0 in let s : Share = right qs.0 in
    let t : Share = (common full_share s).0 in
    qed 𝓛
    (((‵ (flft κ qs.0) ⊛ ‵ (fsep (flft κT qs.1.0) (fsep (flft κB qs.1.1.0) (fsep (flft κF qs.1.1.1.0) ftrue))))
    ⊛ ‵ (owns (types_at En.signature.params κs) z.0.3 z.0.4))
    ∷ raw (fact 𝓤 InT) ∷ raw (fact 𝓤 InB) ∷ raw (fact 𝓤 InF) ∷ raw (fact 𝓤 May) ∷ raw (fact 𝓤 Names) ∷ []) ∵
    move ! (1 ∷ []) $ heard ! InT (λ inT. move ! (1 ∷ []) $ heard ! InB (λ inB. move ! (1 ∷ []) $ heard ! InF (λ inF.
    move ! (1 ∷ []) $ heard ! May (λ may. move ! (1 ∷ []) $ heard ! Names (λ names.
    split ! $ split ! $ move ! (2 ∷ []) $ fsplit3 ! $ keep ! (0 ∷ 1 ∷ 3 ∷ 4 ∷ []) $
    -- [the slice; the closure; the lifetime's token; the other tokens]
    suffices ! (Run Vs) (subst (λ (us : List Val). ent 𝓤 (Run Vs) (Run us)) (sym (λ i. are.0.0.0 i ++ (w.1 i ++ []))) (id⊢ 𝓤 (Run Vs))) $
    rewrite ! 0 (λ (us : List Val). ‵ ((MutSlice (named 0) κ R).own_val all us)) are.0.0.0 refl $
    rewrite ! 1 (λ (us : List Val). ‵ (X.own_val h us)) w.1 refl $
    enter ! 𝓣.C 𝓣.Λ fn Vs Post $ alloc_all ! (λ k. pass_all ! refl ((tt, (tt, (record { fits = fn' }, tt))), (w.2, tt)) $
    sets ! (of_opd ! (get ! refl)) refl w.2 $
    sets ! (addr ! (from ! (fld ! refl (hop ! (look_in_at ! 1 (sub ! 0 refl (whole !))) (stop !))))) refl (tt, tt) $
    sets ! (agg ! (and_then ! (get ! refl) (and_then ! (get_in ! (fld ! refl (stop !)) (sub ! 1 refl (whole !))) (no_more !)))) refl
    (tt, (tt, (record { fits = fn' }, tt))) $
    move ! (2 ∷ []) $ use1 𝓛 (‵ (flft κ r) ⊛ ‵ (flft κ s)) (𝓛.lfts.lft_cut κ qs.0 r s (halves qs.0)) $ split ! $
    lft_new ! tt (λ α. let κm : Lft = α ∷ κ in
    -- [the token of α; two of the lifetime; the slice; the closure; the other tokens]
    move ! (3 ∷ []) $ fsplit ! $ fsplit ! $ feq_l ! (λ _. fjoin ! $ move ! (0 ∷ 2 ∷ []) $
    use2 𝓛 (later (some (λ (δ : GName). ‵ ((owned.MutSlice erased κm R).own_val (record all { ghost_name = δ })) ⊛
    kept_f 𝓛 R κ r κm all.ghost_name δ xs b o))) (sl_relend 𝓛 R κ r κm b o all.ghost_name xs) $ await ! tt $ pick ! (λ δ. split ! $
    let lent = record all { ghost_name = δ } in
    fsplit ! $ feq_i ! (List Val) (mut_slice_vals lent) (mut_slice_vals lent) refl $ fjoin ! $ fjoin ! $
    -- [the slice, lent again; what is kept; the token of α; the lifetime's; the closure; the other tokens]
    move ! (2 ∷ 3 ∷ []) $
    let Back : SProp 𝓤 = wand 𝓤 (𝓛.A.lft κm t) (sep 𝓤 (𝓛.A.lft (α ∷ []) full_share) (𝓛.A.lft κ s)) in
    use2 𝓛 (‵ (flft κm t) ⊛ raw Back) (lft-common 𝓛 (α ∷ []) κ full_share s) $ split ! $
    move ! (2 ∷ 4 ∷ 0 ∷ 5 ∷ []) $
    -- [the slice, lent again; the closure; the lifetime's token; the other tokens; the way back; what is kept]
    let κ' : Lfts 4 = (κm, (κF, (κT, (κB, tt)))) in
    let G : Contract 𝓤 = triple_of 𝓛 E.signature (closing 𝓛 E (λ κs' a'. record {
      ghost = Unit {0};
      requires = λ _. insides 𝓤 3 (κs'.1.0, (κs'.1.1.0, (κs'.1.1.1.0, tt))) (F.lives, (T.lives, (B.lives, tt)))
          (call_once.requires-1 F (Called.args_row T B F) (Called.output_row T B F) (record { pre = g.pre; post = g.post }) d
          (impl [] tnil dnil) 𝓛 (F.lives, ((Called.args_row T B F).lives, ((Called.output_row T B F).lives, tt)))
          𝓜.mem 𝓡.returns a'.0 a'.1);
      ensures = λ _ r s.
          (call_once.clauses F (Called.args_row T B F) (Called.output_row T B F) (record { pre = g.pre; post = g.post }) d
          (impl [] tnil dnil) 𝓛 𝓜.mem 𝓡.returns (F.lives, ((Called.args_row T B F).lives, ((Called.output_row T B F).lives, tt)))
          (a'.0, (a'.1, tt))).ensures tt r (tt, (tt, tt));
    })) in
    nothing ! $ move ! (1 ∷ 0 ∷ []) $ fjoin ! $ move ! (1 ∷ 0 ∷ []) $ fjoin ! $
    let outlives : κm ⊑ κT = ⊑_trans κm κ κT (meet_⊑_right (α ∷ []) κ) z.0.2.0 in
    let z' : G.Ghost =
    ((κ', (t, (qs.1.1.1.0, (qs.1.0, (qs.1.1.0, tt)))), (outlives, tt), (h, (lent, tt)), (w.0 ∷ [], (mut_slice_vals lent, tt))), tt) in
    let Pair : RattleType = type_at E.signature.result κ' in
    move ! (2 ∷ []) $ fsplit3 ! $ move ! (2 ∷ []) $ fsplit ! $ move ! (3 ∷ 1 ∷ []) $ fjoin ! $ move ! (2 ∷ 0 ∷ []) $ fjoin ! $
    move ! (1 ∷ 0 ∷ []) $ fjoin ! $ move ! (2 ∷ 0 ∷ []) $ join ! $ join ! $
    let Ok : Type 0 = g.pre h (lent, tt) in
    use0 𝓛 (raw (fact 𝓤 Ok)) (fact_i 𝓤 Ok (emp 𝓤) (may lent refl)) $ use0 𝓛 (raw (fact 𝓤 InB)) (fact_i 𝓤 InB (emp 𝓤) inB) $ join ! $
    use0 𝓛 (raw (fact 𝓤 InT)) (fact_i 𝓤 InT (emp 𝓤) inT) $ join ! $
    use0 𝓛 (raw (fact 𝓤 InF)) (fact_i 𝓤 InF (emp 𝓤) inF) $ join ! $ move ! (1 ∷ 0 ∷ []) $ join ! $
    use1 𝓛 (raw (G.pre z')) (id⊢ 𝓤 (G.pre z')) $
    calls_at ! (framed 𝓤 H 𝓜 𝓣) G met.1 z' (and_then ! (get ! refl) (and_then ! (get ! refl) (no_more !))) (λ v.
    use1 𝓛
    (later
    (some
    (λ (y : Pair.Denot).
    ((‵ (flft κm t) ⊛ ‵ (fsep (flft κF qs.1.1.1.0) (fsep (flft κT qs.1.0) (fsep (flft κB qs.1.1.0) ftrue)))) ⊛ ‵ (Pair.own_val y (v ∷ [])))
    ⊛ some (λ (ws : Lasts E κ' (h, (lent, tt))). ‵ (lasts E κ' (h, (lent, tt)) ws)
    ⊛ raw (fact 𝓤 (g.post h (lent, tt) y)))))) (id⊢ 𝓤 (G.post z' v)) $
    await ! tt $ pick ! (λ y. split ! $ move ! (1 ∷ []) $ pick ! (λ ws. split ! $ drop ! $ heard ! (g.post h (lent, tt) y) (λ gave.
    split ! $ split ! $ move ! (2 ∷ []) $
    let Out : RattleType = end.the_row (named_lft 4 0 tt κ') R in let LOut = ended_laws.the_row_laws (named_lft 4 0 tt κ') R LR in
    let Pairs = tuple_laws (Out ∷ Q ∷ []) (LOut, (LQ, tt)) in
    peeks ! Pair (Is Pair) (shows 𝓛 Pair) y (v ∷ []) (λ told. let good = ((Pairs.lawful 𝓛).typed y (v ∷ []) told).0 in
    fpick ! (λ us. fsplit ! $ feq_l ! (λ is. fsplit3 ! $
    peeks ! Out (Is Out) (shows 𝓛 Out) y.0 us.0 (λ told₀. let w₀ = one (layout Out) us.0 ((LOut.lawful 𝓛).typed y.0 us.0 told₀) in
    move ! (1 ∷ []) $
    peeks ! Q (Is Q) (shows 𝓛 Q) y.1 us.1.0 (λ told₁. let w₁ = one (layout B) us.1.0 ((LQ.lawful 𝓛).typed y.1 us.1.0 told₁) in
    let V : Val = vstruct (vcons w₀.0 (vcons w₁.0 vnil)) in
    let e : v ≡ V = ap only (is ∙ (λ i. vstruct (of_list (w₀.1 i ++ (w₁.1 i ++ []))) ∷ [])) in
    lands_as ! e refl (subst (Good (layout Pair)) e good) $
    sets ! (of_opd ! (get_in ! (fld ! refl (stop !)) (sub ! 0 refl (whole !)))) refl w₀.2 $
    sets ! (of_opd ! (get_in ! (fld ! refl (stop !)) (sub ! 1 refl (whole !)))) refl w₁.2 $
    sets ! (of_opd ! (get ! refl)) refl w₁.2 $
    rewrite ! 0 (λ (ws : List Val). ‵ (Q.own_val y.1 ws)) w₁.1 refl $
    -- [the answer; the token; nothing; the lifetime's token; the other tokens; the way back; what is kept]
    let ys : List T.Denot = y.0.value in
    move ! (1 ∷ []) $ fsplit ! $ drop ! $ rewrite ! 0 (λ (j : GName). ‵ (ended_as R j ys)) (names lent y.0 y.1 refl gave) refl $
    rewrite ! 0 (λ (l : List T.Denot). ‵ (fres δ ((coded_list R.coded).code l))) (sym (heres_id R ys)) refl $
    use1 𝓛 (‵ (finally R δ ys)) (res-finally 𝓛 (named 0) κ R δ ys) $ move ! (3 ∷ 5 ∷ []) $
    use2 𝓛 (‵ (flft (α ∷ []) full_share) ⊛ ‵ (flft κ s))
    (apply∗ 𝓤 (𝓛.A.lft κm t) (sep 𝓤 (𝓛.A.lft (α ∷ []) full_share) (𝓛.A.lft κ s))) $ split ! $
    lft_end ! tt $ use1 𝓛 (‵ (fdead κm)) (𝓛.lfts.dead-incl κm (α ∷ []) (meet_⊑_left (α ∷ []) κ)) $
    -- [the loan is over; the lifetime's token; what the slice ended as; the answer; nothing; the other tokens; what is kept]
    move ! (0 ∷ 6 ∷ 2 ∷ []) $
    use3 𝓛 (later (given (length ys ≡ length xs)
    (‵ ((owned.MutSlice erased κ R).own_val (record all { now = ys })) ⊛ ‵ (flft κ r))))
    (sl_relent_backˡ 𝓛 R κ r κm b o all.ghost_name δ xs ys) $ await ! tt $ learn ! (λ same. split ! $
    returns ! (look_at ! 0 refl) $ free_all ! refl $
    move ! (1 ∷ 2 ∷ []) $ use2 𝓛 (‵ (flft κ qs.0)) (𝓛.lfts.lft_glue κ qs.0 r s (halves qs.0)) $
    -- [the lifetime's token; the slice; the answer; nothing; the other tokens]
    move ! (1 ∷ []) $ fsplit ! $
    feq_i ! (List Val) z.0.4.0 (mut_slice_vals (record all { now = ys })) (are.0.0.0 ∙ (λ i. slice_val all.ref_ptr (sym same i) ∷ [])) $
    fjoin ! $ fjoin ! $ nothing ! $ nothing ! $ fjoin ! $ move ! (1 ∷ 0 ∷ []) $ fjoin ! $
    -- [what is left of the parameters; the lifetime's token; the answer; nothing; the other tokens]
    move ! (4 ∷ []) $ fsplit3 ! $ move ! (2 ∷ []) $ fsplit ! $ move ! (2 ∷ 1 ∷ []) $ fjoin ! $ move ! (1 ∷ 0 ∷ []) $ fjoin ! $
    move ! (1 ∷ 0 ∷ []) $ fjoin ! $ move ! (2 ∷ 0 ∷ []) $ join ! $
    let Len : Type 0 = length ys ≡ length xs in
    let Ends : Type 0 = (p : MutBor (List T.Denot)) × (l : Ended T.Denot) × (p.now ≡ xs) × g.post h (p, tt) (l, y.1) × (ys ≡ l.value) in
    use0 𝓛 (raw (fact 𝓤 Len)) (fact_i 𝓤 Len (emp 𝓤) same) $
    use0 𝓛 (raw (fact 𝓤 Ends)) (fact_i 𝓤 Ends (emp 𝓤) (lent, y.0, refl, gave, refl)) $ join ! $
    -- [what it says; the tokens; what is left of the parameters; the answer]
    keep ! (1 ∷ 2 ∷ 3 ∷ 0 ∷ []) $ by ! (leaves 𝓛 En hs c z w₁.0 y.1 (ys, (tt, tt)) (same, (tt, tt)))))))))))))))))))))))
