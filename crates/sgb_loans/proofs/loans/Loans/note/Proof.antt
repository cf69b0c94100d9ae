-- The one part that is out ended as the token says.
use Rattle.sgb_split.specs.declared.end.End.{End}
use Rattle.sgb_split.specs.contracts.end.End as ends
use Rattle.std.proofs.Common.{◌≡◌, ℕ, List, [], ◌∷◌, ◌++◌, refl, sym, subst, drop}
use mir.Syntax.{a_type}
use mir.Val.{Val, vptr, vunit}
use mir.MapTy.{inst_fn}
use base.Logic.{SProp, ent, emp, id⊢}
use base.Fml.{GName, ftrue, fsep, flft}
use prog.Wp.{WpFn}
use types.Kit.{‵, raw, ◌⊛◌, ◌$◌, ◌∵◌, !, qed, by, move, keep, split, join, fsplit, fsplit3, fjoin, feq_i, suffices, use0, use2, rewrite}
use types.Run.{of_opd, unit_lit, returns, enter}
use types.ByLocal.{alloc_all, pass_all, free_all, look_at, sets}
use contract.BorrowLft.{◌⊑◌}
use contract.Monad.{fact, fact_i}
use contract.Running.{tables}
use denote.Exit.{yes, no}
use denote.RattleType.{RattleType, owns}
use denote.Signature.{types_at, plain, shr_ref_to, named_lft}
use denote.Steps.{nothing, heard, opens, closes}
use denote.Param.{param, layout, layouts}
use denote.Param.Laws.{param_laws}
use denote.Triple.Walked.{Stays, walk_of, stay_dropped, Goes-dropped, stay_ref, Goes-ref}
use Rattle.std.proofs.cell.Inside.{one}
use Rattle.std.proofs.raw_atomic.Walks.{proved_at, leaves}
use Rattle.sgb_loans.proofs.Tokens.{notes}
use Rattle.sgb_loans.proofs.loans.Ended.TheLaws as ended_laws
use Rattle.sgb_loans.specs.Loans.{loan_owns, noted}
use Rattle.sgb_loans.specs.contracts.loans.Ended as end
use Rattle.sgb_loans.specs.contracts.loans.Loans as loans
use Rattle.sgb_loans.specs.contracts.loans.Loans.note.{ended, clauses}
use Rattle.sgb_loans.specs.contracts.loans.Loans.note.Key.{name as #self}
use Rattle.sgb_loans.proofs.loans.Loans.note.Statement.{statement}
use Rattle.sgb_loans.proofs.loans.Loans.note.Code as code

pub note_spec : {M : Type 1} → statement M
note_spec 𝓤 𝓛 𝓜 𝓡 wired T L =
    let H = 𝓛.H in let 𝓣 = tables 𝓤 H 𝓜 𝓡 𝓡.env in let R : RattleType = param 0 T in let LR = param_laws 0 T L in
    let En = ended T in let c = clauses T 𝓛 𝓜.mem 𝓡.returns in let S : RattleType = loans.the_row R in
    let inst = layouts (a_type ∷ []) (T, tt) in let fn = inst_fn inst code.function in
    let at_end = shr_ref_to (1 ∷ []) tt (plain (λ _. ends.the_row)) in let token = plain (λ κs. end.the_row (named_lft 4 2 tt κs) R) in
    let hs : Stays En.signature.params En.kept =
    (stay_ref (0 ∷ []) tt (plain (λ _. S)), (stay_dropped at_end yes, (stay_dropped token no, tt))) in
    proved_at 𝓛 En hs c 𝓜 𝓡
    (Goes-ref 𝓛 4 0 tt (plain (λ _. S)), (Goes-dropped 𝓛 4 at_end yes (λ κs x f. refl), (Goes-dropped 𝓛 4 token no (λ κs x f. refl), tt)))
    (#self inst) fn (code.unfolded 𝓤 H 𝓜 𝓡 wired (T, tt)) (λ z are.
    let κs = z.0.0 in let qs = z.0.1 in let Post : Val → SProp 𝓤 = (walk_of 𝓛 En hs c).post z in
    let Run : List Val → SProp 𝓤 = λ ws. WpFn 𝓤 H 𝓣.C 𝓣.Λ fn ws Post in
    let r = z.0.3.0 in let b : ℕ = r.ref_ptr.0 in let o : ℕ = r.ref_ptr.1 in let l = r.now in let q = z.0.3.1.0 in let e = q.now in
    let p = z.0.3.1.1.0 in let a = named_lft 4 2 tt κs in let vp = z.0.4.1.1.0 in
    let v = one (layout (end.the_row a R)) vp (((ended_laws.the_row_laws a R LR).lawful 𝓛).typed p vp are.1.1.0) in
    let Vs : List Val = vptr b o ∷ vptr q.ref_ptr.0 q.ref_ptr.1 ∷ v.0 ∷ [] in let l' = noted e p.value l in
    let Oldest : Type 0 = l.cuts ≡ (e, p.name) ∷ drop 1 l.cuts in
    qed 𝓛 (((‵ (flft κs.0 qs.0) ⊛ ‵ (fsep (flft κs.1.0 qs.1.0) (fsep (flft κs.1.1.0 qs.1.1.0) (fsep (flft κs.1.1.1.0 qs.1.1.1.0) ftrue))))
    ⊛ ‵ (owns (types_at En.signature.params κs) z.0.3 z.0.4)) ∷ raw (fact 𝓤 (κs.1.1.1.0 ⊑ T.lives)) ∷ raw (fact 𝓤 Oldest) ∷ []) ∵
    move ! (2 ∷ []) $ heard ! Oldest (λ oldest.
    split ! $ split ! $ move ! (2 ∷ []) $ fsplit3 ! $ fsplit ! $ move ! (3 ∷ []) $ fsplit ! $ fsplit ! $
    -- [the token's data; what it says; nothing; what the pointer is; the borrow; the end; two parts of the tokens; lives]
    keep ! (4 ∷ 6 ∷ 1 ∷ 7 ∷ []) $
    suffices ! (Run Vs)
    (subst (λ (us : List Val). ent 𝓤 (Run Vs) (Run us)) (sym (λ i. are.0.0 i ++ (are.1.0.0 i ++ (v.1 i ++ [])))) (id⊢ 𝓤 (Run Vs))) $
    enter ! 𝓣.C 𝓣.Λ fn Vs Post $ alloc_all ! (λ k. pass_all ! refl ((tt, tt), ((tt, tt), (v.2, tt))) $
    fsplit ! $ opens ! tt S b o (λ us. move ! (1 ∷ []) $ fsplit ! $
    move ! (1 ∷ 6 ∷ []) $ rewrite ! 0 (λ (cs : List (End × GName)). ‵ (loan_owns R l.root l.before l.after cs l.rest)) oldest refl $
    use2 𝓛 (‵ (loan_owns R l'.root l'.before l'.after l'.cuts l'.rest))
    (notes 𝓛 R e p.name p.value l.root l.before l.after (drop 1 l.cuts) l.rest) $
    move ! (1 ∷ 0 ∷ []) $ fjoin ! $ move ! (1 ∷ 0 ∷ []) $ closes ! tt S l' us b o $ fjoin ! $
    feq_i ! (List Val) z.0.4.0 (vptr b o ∷ []) are.0.0 $ fjoin ! $ nothing ! $ nothing ! $ fjoin ! $ nothing ! $ fjoin ! $
    move ! (1 ∷ 0 ∷ []) $ fjoin ! $ move ! (1 ∷ 2 ∷ []) $ join ! $
    sets ! (of_opd ! (unit_lit !)) refl (tt, tt) $ feq_i ! (List Val) (vunit ∷ []) (vunit ∷ []) refl $
    use0 𝓛 (raw (fact 𝓤 (l' ≡ l'))) (fact_i 𝓤 (l' ≡ l') (emp 𝓤) refl) $
    returns ! (look_at ! 0 refl) $ free_all ! refl $ keep ! (2 ∷ 3 ∷ 1 ∷ 0 ∷ []) $
    by ! (leaves 𝓛 En hs c z vunit tt (l', (tt, (tt, tt))) (tt, (tt, (tt, tt))))))))
