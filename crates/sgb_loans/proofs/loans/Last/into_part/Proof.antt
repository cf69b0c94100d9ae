-- The end of a walk is given up, and the parts that are out are not.
use Rattle.std.proofs.Common.{◌≡◌, List, [], ◌∷◌, ◌++◌, refl, sym, subst, ◌∙◌}
use mir.Syntax.{a_type}
use mir.Val.{Val, vstruct, vcons, of_list}
use mir.MapTy.{inst_fn}
use base.Logic.{SProp, ent, emp, id⊢}
use base.Fml.{GName, ftrue, fsep, flft}
use prog.Wp.{WpFn}
use types.Kit.{‵, raw, ◌⊛◌, ◌$◌, ◌∵◌, !, qed, by, move, keep, split, join, fsplit, fsplit3, fjoin, fpick, feq_l}
use types.Kit.{suffices, use0, use2, rewrite}
use types.Part.{whole, sub}
use types.Run.{fld, stop, of_opd, returns, enter}
use types.ByLocal.{alloc_all, pass_all, free_all, look_at, get, get_in, sets}
use contract.Monad.{fact, fact_i}
use contract.Running.{tables}
use denote.Exit.{no}
use denote.Laws.{Is, Typed, shows}
use denote.RattleType.{RattleType, owns}
use denote.Signature.{types_at, plain, named_lft}
use denote.Steps.{nothing, peeks}
use denote.Param.{param, layout, layouts}
use denote.Param.Laws.{param_laws}
use denote.Triple.Walked.{Stays, walk_of, stay_dropped, Goes-dropped}
use Rattle.std.proofs.cell.Inside.{one}
use Rattle.std.proofs.raw_atomic.Walks.{proved_at, leaves}
use Rattle.sgb_loans.proofs.Parts.{Part, part_laws}
use Rattle.sgb_loans.proofs.Tokens.{rests}
use Rattle.sgb_loans.proofs.loans.Last.TheLaws as last_laws
use Rattle.sgb_loans.specs.Loans.{LastPart, ended_as, rest_ends}
use Rattle.sgb_loans.specs.contracts.loans.Last as last
use Rattle.sgb_loans.specs.contracts.loans.Last.into_part.{ended, clauses}
use Rattle.sgb_loans.specs.contracts.loans.Last.into_part.Key.{name as #self}
use Rattle.sgb_loans.proofs.loans.Last.into_part.Statement.{statement}
use Rattle.sgb_loans.proofs.loans.Last.into_part.Code as code

pub into_part_spec : {M : Type 1} → statement M
into_part_spec 𝓤 𝓛 𝓜 𝓡 wired T L =
    let H = 𝓛.H in let 𝓣 = tables 𝓤 H 𝓜 𝓡 𝓡.env in let R : RattleType = param 0 T in let LR = param_laws 0 T L in
    let En = ended T in let c = clauses T 𝓛 𝓜.mem 𝓡.returns in
    let inst = layouts (a_type ∷ []) (T, tt) in let fn = inst_fn inst code.function in
    let self = plain (λ κs. last.the_row (named_lft 2 0 tt κs) R) in
    let hs : Stays En.signature.params En.kept = (stay_dropped self no, tt) in
    proved_at 𝓛 En hs c 𝓜 𝓡 (Goes-dropped 𝓛 2 self no (λ κs x f. refl), tt) (#self inst) fn
    (code.unfolded 𝓤 H 𝓜 𝓡 wired (T, tt)) (λ z are.
    let κs = z.0.0 in let qs = z.0.1 in let Post : Val → SProp 𝓤 = (walk_of 𝓛 En hs c).post z in
    let Run : List Val → SProp 𝓤 = λ ws. WpFn 𝓤 H 𝓣.C 𝓣.Λ fn ws Post in
    let s = z.0.3.0 in let ℓ = named_lft 2 0 tt κs in let S : RattleType = last.the_row ℓ R in
    let LS = last_laws.the_row_laws ℓ R LR in let P : RattleType = Part ℓ R in let LP = part_laws ℓ R LR in
    qed 𝓛
    (((‵ (flft κs.0 qs.0) ⊛ ‵ (fsep (flft κs.1.0 qs.1.0) ftrue)) ⊛ ‵ (owns (types_at En.signature.params κs) z.0.3 z.0.4))
    ∷ raw ((c κs z.0.3).requires z.1) ∷ []) ∵
    split ! $ move ! (1 ∷ []) $ fsplit ! $ fpick ! (λ w. fsplit ! $ fpick ! (λ us. fsplit ! $ feq_l ! (λ is. fsplit3 ! $
    peeks ! P (Is P) (shows 𝓛 P) w.0.part us.0 (λ told.
    let p = one (layout P) us.0 ((LP.lawful 𝓛).typed w.0.part us.0 told) in
    let v : Val = vstruct (vcons p.0 (of_list (us.1.0 ++ (us.1.1.0 ++ [])))) in
    let e : z.0.4.0 ≡ v ∷ [] = is ∙ (λ i. vstruct (of_list (p.1 i ++ (us.1.0 ++ (us.1.1.0 ++ [])))) ∷ []) in
    let good = (subst (Typed (layout S ∷ [])) e ((LS.lawful 𝓛).typed s z.0.4.0 are.0)).0 in
    -- [the part; what remained; the loans; nothing, twice; the tokens]
    move ! (1 ∷ []) $ fsplit ! $ move ! (3 ∷ []) $ fsplit ! $ fsplit ! $ keep ! (1 ∷ 4 ∷ 5 ∷ 8 ∷ []) $
    rewrite ! 1 (λ (k : GName). ‵ (ended_as R k w.0.rest.value)) w.1.1 refl $
    use2 𝓛 (‵ (rest_ends R w.0.loans w.0.rest.value))
    (rests 𝓛 R w.0.loans.root w.0.loans.rest w.0.loans.before w.0.loans.after w.0.loans.cuts w.0.rest.value) $
    rewrite ! 0 (λ (x : LastPart T.Denot). ‵ (rest_ends R x.loans x.left)) w.1.0 refl $
    rewrite ! 1 (λ (x : LastPart T.Denot). ‵ (P.own_val x.part us.0)) w.1.0 refl $
    rewrite ! 1 (λ (xs : List Val). ‵ (P.own_val s.part xs)) p.1 refl $
    suffices ! (Run (v ∷ [])) (subst (λ (vs : List Val). ent 𝓤 (Run (v ∷ [])) (Run vs)) (sym (λ i. e i ++ [])) (id⊢ 𝓤 _)) $
    enter ! 𝓣.C 𝓣.Λ fn (v ∷ []) Post $ alloc_all ! (λ k. pass_all ! refl (good, tt) $
    sets ! (of_opd ! (get_in ! (fld ! refl (stop !)) (sub ! 0 refl (whole !)))) refl p.2 $
    sets ! (of_opd ! (get ! refl)) refl p.2 $ returns ! (look_at ! 0 refl) $ free_all ! refl $
    use0 𝓛 (raw (fact 𝓤 (s.part ≡ s.part))) (fact_i 𝓤 (s.part ≡ s.part) (emp 𝓤) refl) $ move ! (1 ∷ 0 ∷ []) $ join ! $
    nothing ! $ nothing ! $ fjoin ! $ keep ! (3 ∷ 0 ∷ 2 ∷ 1 ∷ []) $ by ! (leaves 𝓛 En hs c z p.0 s.part (tt, tt) (tt, tt))))))))
