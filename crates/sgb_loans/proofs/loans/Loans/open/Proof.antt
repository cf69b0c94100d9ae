-- The slice follows itself.
use Rattle.std.proofs.Common.{◌≡◌, ℕ, List, [], ◌∷◌, ◌++◌, length, refl, sym, subst}
use mir.Syntax.{a_type, named}
use mir.Val.{Val, vstruct, vcons, vnil}
use mir.MapTy.{inst_fn}
use base.Logic.{SProp, ent, emp, id⊢}
use base.Fml.{ftrue, fsep, flft}
use prog.Wp.{WpFn}
use types.Kit.{‵, raw, ◌⊛◌, ◌$◌, ◌∵◌, !, qed, by, move, keep, split, join, fsplit, fjoin, fpack, feq_i, suffices, use0, rewrite}
use types.Part.{whole, sub, agg}
use types.Run.{addr, from, fld, hop, stop, and_then, no_more, returns, enter}
use types.ByLocal.{alloc_all, pass_all, free_all, look_at, look_in_at, get, get_in, sets}
use contract.Monad.{fact, fact_i}
use contract.Running.{tables}
use denote.Exit.{no}
use denote.RattleType.{RattleType, owns, Valss}
use denote.Slice.{MutSlice, mut_slice_vals, slice_val}
use denote.Signature.{types_at, plain, mut_slice_of}
use denote.Steps.{nothing}
use denote.Struct.Declared.{shape}
use denote.Struct.Struct.{within}
use denote.Struct.Tuple.{tuple_type}
use denote.Param.{param, layouts}
use denote.Triple.Walked.{Stays, walk_of, stay_dropped, Goes-spent_slice}
use Rattle.std.proofs.raw_atomic.Walks.{proved_at, leaves}
use Rattle.sgb_loans.proofs.Tokens.{token, LoansData, loans_made, begins}
use Rattle.sgb_loans.specs.Loans.{loan_owns}
use Rattle.sgb_loans.specs.declared.loans.Loans.{Loans}
use Rattle.sgb_loans.specs.contracts.loans.Loans as loans
use Rattle.sgb_loans.specs.contracts.loans.Loans.open.{ended, clauses}
use Rattle.sgb_loans.specs.contracts.loans.Loans.open.Key.{name as #self}
use Rattle.sgb_loans.proofs.loans.Loans.open.Statement.{statement}
use Rattle.sgb_loans.proofs.loans.Loans.open.Code as code

pub open_spec : {M : Type 1} → statement M
open_spec 𝓤 𝓛 𝓜 𝓡 wired T L =
    let H = 𝓛.H in let 𝓣 = tables 𝓤 H 𝓜 𝓡 𝓡.env in let R : RattleType = param 0 T in let En = ended T in
    let c = clauses T 𝓛 𝓜.mem 𝓡.returns in
    let inst = layouts (a_type ∷ []) (T, tt) in let fn = inst_fn inst code.function in
    let hs : Stays En.signature.params En.kept = (stay_dropped (mut_slice_of (0 ∷ []) tt (plain (λ _. R))) no, tt) in
    proved_at 𝓛 En hs c 𝓜 𝓡 (Goes-spent_slice 𝓛 2 (0 ∷ []) tt (plain (λ _. R)), tt) (#self inst) fn (code.unfolded 𝓤 H 𝓜 𝓡 wired (T, tt))
    (λ z are.
    let κs = z.0.0 in let qs = z.0.1 in let Post : Val → SProp 𝓤 = (walk_of 𝓛 En hs c).post z in
    let Run : List Val → SProp 𝓤 = λ ws. WpFn 𝓤 H 𝓣.C 𝓣.Λ fn ws Post in
    let r = z.0.3.0 in let γ : ℕ = r.ghost_name in let fn' = are.0.0.1.0 in let w : Val = slice_val r.ref_ptr (length r.now) in
    let v : Val = vstruct (vcons w (vcons token vnil)) in
    let Halves : List RattleType = MutSlice (named 0) κs.0 R ∷ loans.the_row R ∷ [] in
    let l : Loans T.Denot = record { marker = record {}; root = γ; before = []; after = []; cuts = []; rest = γ } in
    qed 𝓛
    (((‵ (flft κs.0 qs.0) ⊛ ‵ (fsep (flft κs.1.0 qs.1.0) ftrue)) ⊛ ‵ (owns (types_at En.signature.params κs) z.0.3 z.0.4))
    ∷ raw ((c κs z.0.3).requires z.1) ∷ []) ∵
    split ! $ split ! $ move ! (2 ∷ []) $ fsplit ! $ keep ! (0 ∷ 2 ∷ 3 ∷ []) $
    suffices ! (Run (mut_slice_vals r))
    (subst (λ (us : List Val). ent 𝓤 (Run (mut_slice_vals r)) (Run us)) (sym (λ i. are.0.0.0 i ++ [])) (id⊢ 𝓤 (Run (mut_slice_vals r)))) $
    enter ! 𝓣.C 𝓣.Λ fn (mut_slice_vals r) Post $ alloc_all ! (λ k. pass_all ! refl ((tt, (tt, (record { fits = fn' }, tt))), tt) $
    sets ! (agg ! (no_more !)) refl (tt, tt) $ sets ! (agg ! (and_then ! (get ! refl) (no_more !))) refl (tt, (tt, tt)) $
    sets ! (addr ! (from ! (fld ! refl (hop ! (look_in_at ! 1 (sub ! 0 refl (whole !))) (stop !))))) refl (tt, tt) $
    sets ! (agg ! (and_then ! (get ! refl) (and_then ! (get_in ! (fld ! refl (stop !)) (sub ! 1 refl (whole !))) (no_more !)))) refl
    (tt, (tt, (record { fits = fn' }, tt))) $
    sets ! (agg ! (and_then ! (get ! refl) (and_then ! (get ! refl) (no_more !)))) refl
    (tt, ((tt, (record { fits = fn' }, tt)), ((tt, tt), tt))) $
    returns ! (look_at ! 0 refl) $ free_all ! refl $
    rewrite ! 0 (λ (us : List Val). ‵ ((MutSlice (named 0) κs.0 R).own_val r us)) are.0.0.0 refl $
    use0 𝓛 (‵ (loan_owns R γ [] [] [] γ)) (begins 𝓛 R γ) $ use0 𝓛 (‵ (LoansData 𝓛 R)) (loans_made 𝓛 R) $ fjoin ! $
    nothing ! $ move ! (1 ∷ 0 ∷ []) $ fjoin ! $ move ! (1 ∷ 0 ∷ []) $ fjoin ! $ feq_i ! (List Val) (v ∷ []) (v ∷ []) refl $ fjoin ! $
    fpack ! (Valss Halves) (within (shape (tuple_type Halves)) (r, (l, tt)) (v ∷ [])) (w ∷ [], (token ∷ [], tt)) $
    move ! (1 ∷ 2 ∷ []) $ join ! $ nothing ! $ nothing ! $ fjoin ! $
    use0 𝓛 (raw (fact 𝓤 (l.rest ≡ γ))) (fact_i 𝓤 (l.rest ≡ γ) (emp 𝓤) refl) $
    use0 𝓛 (raw (fact 𝓤 (l.cuts ≡ []))) (fact_i 𝓤 (l.cuts ≡ []) (emp 𝓤) refl) $ join ! $
    use0 𝓛 (raw (fact 𝓤 (l.after ≡ []))) (fact_i 𝓤 (l.after ≡ []) (emp 𝓤) refl) $ join ! $
    use0 𝓛 (raw (fact 𝓤 (l.before ≡ []))) (fact_i 𝓤 (l.before ≡ []) (emp 𝓤) refl) $ join ! $
    use0 𝓛 (raw (fact 𝓤 (l.root ≡ γ))) (fact_i 𝓤 (l.root ≡ γ) (emp 𝓤) refl) $ join ! $
    use0 𝓛 (raw (fact 𝓤 (r ≡ r))) (fact_i 𝓤 (r ≡ r) (emp 𝓤) refl) $ join ! $
    keep ! (2 ∷ 1 ∷ 3 ∷ 0 ∷ []) $ by ! (leaves 𝓛 En hs c z v (r, l) (tt, tt) (tt, tt))))
