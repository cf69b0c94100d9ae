-- The remainder is given up too, so all that the slice ends as is known.
use Rattle.sgb_split.specs.declared.end.End.{End}
use Rattle.std.proofs.Common.{◌≡◌, List, [], ◌∷◌, ◌++◌, refl, sym, subst}
use mir.Syntax.{a_type}
use mir.Val.{Val}
use mir.MapTy.{inst_fn}
use base.Logic.{SProp, ent, emp, id⊢}
use base.Fml.{GName, ftrue, fsep, flft}
use prog.Wp.{WpFn}
use types.Kit.{‵, raw, ◌⊛◌, ◌$◌, ◌∵◌, !, qed, by, move, keep, split, join, fsplit, fsplit3, fjoin, suffices, use0, use2, rewrite}
use types.Run.{no_more, and_then, returns, enter}
use types.ByLocal.{alloc_all, pass_all, free_all, look_at, get, sets}
use types.Part.{agg}
use contract.BorrowLft.{◌⊑◌}
use contract.Monad.{fact, fact_i}
use contract.Running.{tables}
use denote.Exit.{no}
use denote.RattleType.{RattleType, owns}
use denote.Signature.{types_at, plain, named_lft}
use denote.Steps.{nothing, heard}
use denote.Param.{param, layout, layouts}
use denote.Param.Laws.{param_laws}
use denote.Triple.Walked.{Stays, walk_of, stay_dropped, Goes-dropped}
use Rattle.std.proofs.cell.Inside.{one}
use Rattle.std.proofs.raw_atomic.Walks.{proved_at, leaves}
use Rattle.sgb_loans.proofs.Tokens.{token, EndedData, ended_made, closes}
use Rattle.sgb_loans.proofs.loans.Ended.TheLaws as ended_laws
use Rattle.sgb_loans.proofs.loans.Loans.TheLaws as loans_laws
use Rattle.sgb_loans.specs.Loans.{ended_as, loan_owns}
use Rattle.sgb_loans.specs.contracts.loans.Ended as end
use Rattle.sgb_loans.specs.contracts.loans.Loans as loans
use Rattle.sgb_loans.specs.contracts.loans.Loans.close.{ended, clauses}
use Rattle.sgb_loans.specs.contracts.loans.Loans.close.Key.{name as #self}
use Rattle.sgb_loans.proofs.loans.Loans.close.Statement.{statement}
use Rattle.sgb_loans.proofs.loans.Loans.close.Code as code

pub close_spec : {M : Type 1} → statement M
close_spec 𝓤 𝓛 𝓜 𝓡 wired T L =
    let H = 𝓛.H in let 𝓣 = tables 𝓤 H 𝓜 𝓡 𝓡.env in let R : RattleType = param 0 T in let LR = param_laws 0 T L in let En = ended T in
    let c = clauses T 𝓛 𝓜.mem 𝓡.returns in
    let inst = layouts (a_type ∷ []) (T, tt) in let fn = inst_fn inst code.function in
    let hs : Stays En.signature.params En.kept =
    (stay_dropped (plain (λ _. loans.the_row R)) no, (stay_dropped (plain (λ κs. end.the_row (named_lft 2 0 tt κs) R)) no, tt)) in
    proved_at 𝓛 En hs c 𝓜 𝓡 (
      Goes-dropped 𝓛 2 (plain (λ _. loans.the_row R)) no (λ κs x f. refl),
      (Goes-dropped 𝓛 2 (plain (λ κs. end.the_row (named_lft 2 0 tt κs) R)) no (λ κs x f. refl), tt),
    ) (#self inst) fn
    (code.unfolded 𝓤 H 𝓜 𝓡 wired (T, tt)) (λ z are.
    let κs = z.0.0 in let qs = z.0.1 in let Post : Val → SProp 𝓤 = (walk_of 𝓛 En hs c).post z in
    let Run : List Val → SProp 𝓤 = λ ws. WpFn 𝓤 H 𝓣.C 𝓣.Λ fn ws Post in
    let l = z.0.3.0 in let p = z.0.3.1.0 in let a = named_lft 2 0 tt κs in
    let u = one (layout (loans.the_row R)) z.0.4.0 (((loans_laws.the_row_laws R LR).lawful 𝓛).typed l z.0.4.0 are.0) in
    let v = one (layout (end.the_row a R)) z.0.4.1.0 (((ended_laws.the_row_laws a R LR).lawful 𝓛).typed p z.0.4.1.0 are.1.0) in
    let Vs : List Val = u.0 ∷ v.0 ∷ [] in
    let all = l.before ++ (p.value ++ l.after) in
    qed 𝓛
    (((‵ (flft κs.0 qs.0) ⊛ ‵ (fsep (flft κs.1.0 qs.1.0) ftrue)) ⊛ ‵ (owns (types_at En.signature.params κs) z.0.3 z.0.4))
    ∷ raw (fact 𝓤 (κs.1.0 ⊑ T.lives)) ∷ raw (fact 𝓤 (l.cuts ≡ [])) ∷ raw (fact 𝓤 (p.name ≡ l.rest)) ∷ []) ∵
    move ! (2 ∷ []) $ heard ! (l.cuts ≡ []) (λ none. move ! (2 ∷ []) $ heard ! (p.name ≡ l.rest) (λ same.
    split ! $ split ! $ move ! (2 ∷ []) $ fsplit3 ! $ fsplit ! $ move ! (2 ∷ []) $ fsplit ! $ keep ! (3 ∷ 1 ∷ 5 ∷ 6 ∷ []) $
    rewrite ! 0 (λ (cs : List (End × GName)). ‵ (loan_owns R l.root l.before l.after cs l.rest)) none refl $
    rewrite ! 1 (λ (k : GName). ‵ (ended_as R k p.value)) same refl $
    use2 𝓛 (‵ (ended_as R l.root all)) (closes 𝓛 R l.root l.rest l.before l.after p.value) $
    suffices ! (Run Vs) (subst (λ (us : List Val). ent 𝓤 (Run Vs) (Run us)) (sym (λ i. u.1 i ++ (v.1 i ++ []))) (id⊢ 𝓤 (Run Vs))) $
    enter ! 𝓣.C 𝓣.Λ fn Vs Post $ alloc_all ! (λ k. pass_all ! refl (u.2, (v.2, tt)) $
    sets ! (agg ! (no_more !)) refl (tt, tt) $ sets ! (agg ! (and_then ! (get ! refl) (no_more !))) refl (tt, (tt, tt)) $
    returns ! (look_at ! 0 refl) $ free_all ! refl $
    use0 𝓛 (‵ (EndedData 𝓛 R a)) (ended_made 𝓛 R a) $ fjoin ! $
    move ! (1 ∷ 2 ∷ []) $ join ! $ nothing ! $ nothing ! $ fjoin ! $ nothing ! $ fjoin ! $
    use0 𝓛 (raw (fact 𝓤 (all ≡ all))) (fact_i 𝓤 (all ≡ all) (emp 𝓤) refl) $
    use0 𝓛 (raw (fact 𝓤 (l.root ≡ l.root))) (fact_i 𝓤 (l.root ≡ l.root) (emp 𝓤) refl) $ join ! $
    keep ! (2 ∷ 1 ∷ 3 ∷ 0 ∷ []) $
    by ! (leaves 𝓛 En hs c z token (record { marker = record {}; name = l.root; value = all }) (tt, (tt, tt)) (tt, (tt, tt)))))))
