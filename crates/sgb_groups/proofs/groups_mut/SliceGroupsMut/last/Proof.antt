-- The end of the walk is given up after the call at the back, and what that says is kept.
use Rattle.std.proofs.Common.{◌≡◌, List, [], ◌∷◌, ◌++◌, refl, sym, subst}
use mir.Syntax.{a_type, dcons, dnil}
use mir.Val.{Val}
use mir.MapTy.{inst_fn}
use base.Logic.{SProp, ent, emp, sep, id⊢}
use base.Fml.{Fml, ftrue, fsep, flft}
use prog.Wp.{WpFn}
use types.Kit.{‵, raw, ◌⊛◌, some, later, ◌$◌, ◌∵◌, !, qed, by, move, keep, drop, split, join, fsplit, fjoin}
use types.Kit.{suffices, use0, use1, use2, rewrite, await, pick}
use types.Run.{of_opd, and_then, no_more, returns, enter}
use types.ByLocal.{alloc_all, pass_all, free_all, look_at, get, sets, lands_as}
use contract.BorrowLft.{◌⊑◌}
use contract.Monad.{fact, fact_i}
use contract.Running.{tables}
use denote.Exit.{no}
use denote.Laws.{Is, shows}
use denote.Param.{param, layout, bounded}
use denote.Param.Laws.{param_laws}
use denote.RattleType.{RattleType}
use denote.Signature.{plain, named_lft}
use denote.Steps.{nothing, heard, peeks}
use denote.Triple.Call.{calls_at}
use denote.Triple.Clauses.{lasts, Lasts}
use denote.Triple.Entry.{on_entry}
use denote.Triple.Spec.{triple_of}
use denote.Triple.Table.{framed}
use denote.Triple.Walked.{Stays, walk_of, stay_dropped, Goes-dropped}
use Rattle.std.proofs.cell.Inside.{one}
use Rattle.std.proofs.raw_atomic.Walks.{proved_at, leaves}
use Rattle.sgb_split.specs.Calls.{IsCallableBy}
use Rattle.sgb_split.specs.declared.end.End.TheVariants.{Back}
use Rattle.sgb_loans.proofs.Parts.{Part, part_laws}
use Rattle.sgb_loans.proofs.Tokens.{ends_after}
use Rattle.sgb_loans.proofs.loans.Last.TheLaws as last_laws
use Rattle.sgb_loans.specs.Loans.{GroupsMut, LastPart, IsLastOf, rest_ends, input_ends_after}
use Rattle.sgb_loans.specs.contracts.loans.Last as last
use Rattle.sgb_loans.specs.contracts.loans.Last.into_part as part
use Rattle.sgb_loans.proofs.loans.Last.into_part.Met as part_met
use Rattle.sgb_groups.specs.Gives.{GivesMut, groups_of_mut}
use Rattle.sgb_groups.proofs.groups_mut.SliceGroupsMut.TheLaws as groups_laws
use Rattle.sgb_groups.specs.contracts.groups_mut.SliceGroupsMut as groups
use Rattle.sgb_groups.specs.contracts.groups_mut.SliceGroupsMut.take_last as take
use Rattle.sgb_groups.proofs.groups_mut.SliceGroupsMut.take_last.Met as take_met
use Rattle.sgb_groups.specs.contracts.groups_mut.SliceGroupsMut.last.{ended, clauses}
use Rattle.sgb_groups.specs.contracts.groups_mut.SliceGroupsMut.last.Key.{name as #self}
use Rattle.sgb_groups.proofs.groups_mut.SliceGroupsMut.last.Statement.{statement}
use Rattle.sgb_groups.proofs.groups_mut.SliceGroupsMut.last.Code as code

pub last_spec : {M : Type 1} → statement M
last_spec 𝓤 𝓛 𝓜 𝓡 wired T J W LT LJ LW g d h d' d'' met met' glue =
    let H = 𝓛.H in let 𝓣 = tables 𝓤 H 𝓜 𝓡 𝓡.env in let R : RattleType = param 0 T in let LR = param_laws 0 T LT in
    let En = ended T J W g d h d' d'' in let c = clauses T J W g d h d' d'' 𝓛 𝓜.mem 𝓡.returns in
    let inst = bounded (a_type ∷ a_type ∷ a_type ∷ []) (T, (J, (W, tt))) (dcons d (dcons d' (dcons d'' dnil))) in
    let fn = inst_fn inst code.function in
    let takes = take_met.met 𝓤 𝓛 𝓜 𝓡 (code.calls-sgb_groups::groups_mut::SliceGroupsMut::take_last 𝓡.env wired) T J W LT LJ LW
    g d h d' d'' met met' glue in
    let parts = part_met.met 𝓤 𝓛 𝓜 𝓡 (code.calls-sgb_loans::loans::Last::into_part 𝓡.env wired) T LT in
    let G = triple_of 𝓛 (take.signature T J W) (take.spec T J W g d h d' d'' 𝓛 𝓜.mem 𝓡.returns) in
    let G' = triple_of 𝓛 (part.signature T) (part.spec T 𝓛 𝓜.mem 𝓡.returns) in
    let self = plain (λ κs. groups.the_row (named_lft 4 0 tt κs) R (param 1 J) (param 2 W)) in
    let hs : Stays En.signature.params En.kept = (stay_dropped self no, tt) in
    proved_at 𝓛 En hs c 𝓜 𝓡 (Goes-dropped 𝓛 4 self no (λ κs x f. refl), tt) (#self inst) fn
    (code.unfolded 𝓤 H 𝓜 𝓡 wired (T, (J, (W, tt))) d d' d'') (λ z are.
    let κs = z.0.0 in let qs = z.0.1 in let κ = κs.0 in let κT = κs.1.0 in let ℓ = named_lft 4 0 tt κs in
    let Post : Val → SProp 𝓤 = (walk_of 𝓛 En hs c).post z in let Run : List Val → SProp 𝓤 = λ ws. WpFn 𝓤 H 𝓣.C 𝓣.Λ fn ws Post in
    let s = z.0.3.0 in let S : RattleType = groups.the_row ℓ R (param 1 J) (param 2 W) in
    let LS = groups_laws.the_row_laws ℓ R (param 1 J) (param 2 W) LR (param_laws 1 J LJ) (param_laws 2 W LW) in
    let u = one (layout S) z.0.4.0 ((LS.lawful 𝓛).typed s z.0.4.0 are.0) in let us : List Val = u.0 ∷ [] in
    let P : RattleType = Part ℓ R in let LP = part_laws ℓ R LR in
    let Out : RattleType = last.the_row ℓ R in let LO = last_laws.the_row_laws ℓ R LR in
    let InT : Type 0 = κT ⊑ T.lives in let May : Type 0 = IsCallableBy (h.allowed T.Denot) g (groups_of_mut s) in
    let Rest : SProp 𝓤 = sep 𝓤 (fact 𝓤 (κs.1.1.0 ⊑ J.lives)) (sep 𝓤 (fact 𝓤 (κs.1.1.1.0 ⊑ W.lives)) (fact 𝓤 May)) in
    let Tokens : Fml = fsep (flft κT qs.1.0) (fsep (flft κs.1.1.0 qs.1.1.0) (fsep (flft κs.1.1.1.0 qs.1.1.1.0) ftrue)) in
    let z₁ : G.Ghost = ((κs, qs, z.0.2, (s, tt), (us, tt)), tt) in
    qed 𝓛 (raw (on_entry 𝓛 En.signature κs qs z.0.3 z.0.4) ∷ (raw (fact 𝓤 InT) ⊛ raw Rest) ∷ []) ∵
    rewrite ! 0 (λ (vs : List Val). raw (on_entry 𝓛 En.signature κs qs z.0.3 (vs, tt))) u.1 refl $
    move ! (1 ∷ []) $ split ! $ heard ! InT (λ inT. let told_T = fact_i 𝓤 InT (emp 𝓤) inT in
    use0 𝓛 (raw (fact 𝓤 InT)) told_T $ join ! $ move ! (1 ∷ 0 ∷ []) $
    suffices ! (Run us) (subst (λ (vs : List Val). ent 𝓤 (Run us) (Run vs)) (sym (λ i. u.1 i ++ [])) (id⊢ 𝓤 (Run us))) $
    enter ! 𝓣.C 𝓣.Λ fn us Post $ alloc_all ! (λ k. pass_all ! refl (u.2, tt) $ sets ! (of_opd ! (get ! refl)) refl u.2 $
    use2 𝓛 (raw (G.pre z₁)) (id⊢ 𝓤 _) $ calls_at ! (framed 𝓤 H 𝓜 𝓣) G takes z₁ (and_then ! (get ! refl) (no_more !)) (λ v.
    let Asks = h.asks T.Denot J.Denot g in let Of : LastPart T.Denot → Type 0 = IsLastOf s.remainder s.loans in
    let Gives : LastPart T.Denot → Type 0 = λ y. (t : GroupsMut T.Denot J.Denot) × GivesMut Asks Back s y.part t in
    use1 𝓛 (later (some (λ (y : Out.Denot). ((‵ (flft κ qs.0) ⊛ ‵ Tokens) ⊛ ‵ (Out.own_val y (v ∷ [])))
    ⊛ some (λ (ws : Lasts (take.ended T J W g d h d' d'') κs (s, tt)). ‵ (lasts (take.ended T J W g d h d' d'') κs (s, tt) ws)
    ⊛ (raw (fact 𝓤 (Gives y)) ⊛ raw (fact 𝓤 (Of y))))))) (id⊢ 𝓤 _) $
    await ! tt $ pick ! (λ y. split ! $ move ! (1 ∷ []) $ pick ! (λ ws. split ! $ drop ! $ split ! $ move ! (1 ∷ []) $
    heard ! (Of y) (λ is. move ! (1 ∷ []) $ split ! $ move ! (1 ∷ []) $
    peeks ! Out (Is Out) (shows 𝓛 Out) y (v ∷ []) (λ told. lands_as ! refl refl ((LO.lawful 𝓛).typed y (v ∷ []) told).0 $
    -- [the end of the walk; the tokens]
    nothing ! $ move ! (1 ∷ 0 ∷ []) $ fjoin ! $ move ! (1 ∷ []) $ split ! $ move ! (1 ∷ []) $ fsplit ! $ nothing ! $
    move ! (1 ∷ 0 ∷ []) $ fjoin ! $ move ! (2 ∷ 0 ∷ []) $ join ! $ move ! (0 ∷ 2 ∷ []) $ join ! $ nothing ! $
    use0 𝓛 (raw (fact 𝓤 InT)) told_T $ join ! $ move ! (1 ∷ 0 ∷ []) $
    let z₂ : G'.Ghost = (((κ, (κT, tt)), (qs.0, (qs.1.0, tt)), (z.0.2.0, tt), (y, tt), (v ∷ [], tt)), tt) in
    use2 𝓛 (raw (G'.pre z₂)) (id⊢ 𝓤 _) $ calls_at ! (framed 𝓤 H 𝓜 𝓣) G' parts z₂ (and_then ! (get ! refl) (no_more !)) (λ v'.
    use1 𝓛 (later (some (λ (x : P.Denot). ((‵ (flft κ qs.0) ⊛ ‵ (fsep (flft κT qs.1.0) ftrue)) ⊛ ‵ (P.own_val x (v' ∷ [])))
    ⊛ some (λ (ws : Lasts (part.ended T) z₂.0.0 z₂.0.3). ‵ (lasts (part.ended T) z₂.0.0 z₂.0.3 ws)
    ⊛ (‵ (rest_ends R y.loans y.left) ⊛ raw (fact 𝓤 (x ≡ y.part))))))) (id⊢ 𝓤 _) $
    await ! tt $ pick ! (λ x. split ! $ move ! (1 ∷ []) $ pick ! (λ ws'. split ! $ drop ! $ split ! $ move ! (1 ∷ []) $
    heard ! (x ≡ y.part) (λ same.
    use1 𝓛 (‵ (input_ends_after R s.loans s.remainder y.part)) (ends_after 𝓛 R s.remainder s.loans y is) $
    move ! (1 ∷ []) $ split ! $ move ! (1 ∷ []) $ rewrite ! 0 (λ (o : P.Denot). ‵ (P.own_val o (v' ∷ []))) same refl $
    peeks ! P (Is P) (shows 𝓛 P) y.part (v' ∷ []) (λ told'. lands_as ! refl refl ((LP.lawful 𝓛).typed y.part (v' ∷ []) told').0 $
    returns ! (look_at ! 0 refl) $ free_all ! refl $
    -- [the part; two tokens; what the input ends as; the other two]
    move ! (1 ∷ []) $ split ! $ move ! (1 ∷ []) $ fsplit ! $ move ! (0 ∷ 5 ∷ []) $ fjoin ! $ move ! (2 ∷ 0 ∷ []) $ join ! $
    move ! (3 ∷ 4 ∷ []) $ join ! $ nothing ! $ nothing ! $ fjoin ! $
    keep ! (2 ∷ 0 ∷ 4 ∷ 1 ∷ []) $ by ! (leaves 𝓛 En hs c z v' y.part (tt, tt) (tt, tt)))))))))))))))
