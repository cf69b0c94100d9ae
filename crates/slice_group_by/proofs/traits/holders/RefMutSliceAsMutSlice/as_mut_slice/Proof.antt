-- The elements are lent out of the variable, which is whole again once that loan has ended.
use Rattle.std.proofs.Common.{◌≡◌, ℕ, List, [], ◌∷◌, ◌++◌, refl, sym, subst}
use mir.Syntax.{Ty, a_type, named, erased, mut, ty_ref, ty_param}
use mir.Val.{Val, vptr}
use mir.MapTy.{inst_fn}
use base.Fraction.{full_share}
use base.Logic.{SProp, ent, emp, id⊢}
use base.Fml.{GName, Lft, ftrue, fsep, flft, fat}
use prog.Wp.{WpFn}
use types.Kit.{‵, raw, ◌⊛◌, some, later, ◌$◌, ◌∵◌, !, qed, by, move, keep, drop, split, split3, join, fsplit, fjoin, fsplit3, suffices, use0, use1, use3, rewrite, await, pick}
use types.Part.{whole, sub, agg, look_in}
use types.Run.{addr, of_opd, load, fld, hop, stop, and_then, no_more, returns, enter}
use types.ByLocal.{alloc_all, pass_all, free_all, look_at, get, through, sets}
use contract.Monad.{fact, fact_i}
use contract.Running.{tables}
use denote.Array.{Array}
use denote.Exit.{no}
use denote.Follow.{follows}
use denote.Laws.{Is, shows}
use denote.Memory.{cell_at}
use denote.RattleType.{RattleType, owns}
use denote.Ref.{MutBor, at_last}
use denote.Slice.{MutSlice, mut_slice_vals, slice_ty}
use denote.Signature.{types_at, plain, mut_ref_to, mut_slice_of}
use denote.Steps.{nothing, opens, closes, peeks, only}
use denote.Param.{param, layouts}
use denote.Triple.Walked.{Stays, walk_of, stay_dropped, Goes-spent_ref}
use Rattle.std.proofs.raw_atomic.Walks.{proved_at, leaves}
use denote.Through.{renamed, lends_inner_slice}
use Rattle.slice_group_by.specs.contracts.traits.holders.RefMutSliceAsMutSlice.as_mut_slice.{ended, clauses}
use Rattle.slice_group_by.specs.contracts.traits.holders.RefMutSliceAsMutSlice.as_mut_slice.Key.{name as #self}
use Rattle.slice_group_by.proofs.traits.holders.RefMutSliceAsMutSlice.as_mut_slice.Statement.{statement}
use Rattle.slice_group_by.proofs.traits.holders.RefMutSliceAsMutSlice.as_mut_slice.Code as code

pub as_mut_slice_spec : {M : Type 1} → statement M
as_mut_slice_spec 𝓤 𝓛 𝓜 𝓡 wired T L =
    let H = 𝓛.H in let 𝓣 = tables 𝓤 H 𝓜 𝓡 𝓡.env in let R : RattleType = param 0 T in let En = ended T in
    let c = clauses T 𝓛 𝓜.mem 𝓡.returns in
    let inst = layouts (a_type ∷ []) (T, tt) in let fn = inst_fn inst code.function in
    let slice = mut_slice_of (1 ∷ []) tt (plain (λ _. R)) in
    let hs : Stays En.signature.params En.kept = (stay_dropped (mut_ref_to (0 ∷ []) tt slice) no, tt) in
    proved_at 𝓛 En hs c 𝓜 𝓡 (Goes-spent_ref 𝓛 3 (0 ∷ []) tt slice, tt) (#self inst) fn (code.unfolded 𝓤 H 𝓜 𝓡 wired (T, tt))
    (λ z are.
    let κs = z.0.0 in let qs = z.0.1 in let κ' : Lft = κs.0 in let κ : Lft = κs.1.0 in
    let Post : Val → SProp 𝓤 = (walk_of 𝓛 En hs c).post z in let Run : List Val → SProp 𝓤 = λ ws. WpFn 𝓤 H 𝓣.C 𝓣.Λ fn ws Post in
    let r = z.0.3.0 in let b : ℕ = r.ref_ptr.0 in let o : ℕ = r.ref_ptr.1 in let γ : GName = r.ghost_name in
    let x : MutBor (List R.Denot) = r.now in let S : RattleType = MutSlice (named 1) κ R in
    let τ : Ty = slice_ty (ty_ref erased mut (ty_param 0)) in
    let Others = fsep (flft κ qs.1.0) (fsep (flft κs.1.1.0 qs.1.1.0) ftrue) in
    qed 𝓛 (((‵ (flft κ' qs.0) ⊛ ‵ Others) ⊛ ‵ (owns (types_at En.signature.params κs) z.0.3 z.0.4))
    ∷ raw ((c κs z.0.3).requires z.1) ∷ []) ∵
    split ! $ split ! $ move ! (2 ∷ []) $ fsplit ! $ keep ! (0 ∷ 2 ∷ 3 ∷ []) $ fsplit3 ! $ drop ! $
    -- [the variable's name; its borrow; the token; the other tokens]
    suffices ! (Run (vptr b o ∷ []))
    (subst (λ (us : List Val). ent 𝓤 (Run (vptr b o ∷ [])) (Run us)) (sym (λ j. are.0.0 j ++ [])) (id⊢ 𝓤 (Run (vptr b o ∷ [])))) $
    enter ! 𝓣.C 𝓣.Λ fn (vptr b o ∷ []) Post $ alloc_all ! (λ l. pass_all ! refl ((tt, tt), tt) $
    opens ! tt S b o (λ us. move ! (1 ∷ []) $ peeks ! S (Is S) (shows 𝓛 S) x us (λ told.
    rewrite ! 0 (λ (ws : List Val). ‵ (S.own_val x ws)) told.0.0 refl $ move ! (1 ∷ []) $
    rewrite ! 0 (λ (ws : List Val). ‵ (cell_at full_share S.mir ws b o)) told.0.0 refl $
    use1 𝓛 (‵ (fat full_share τ b o (only (mut_slice_vals x)))) (𝓛.laws.raw_at full_share τ b o (only (mut_slice_vals x))) $
    -- [the variable; its slice; the open borrow; the variable's name, twice; the other tokens]
    sets ! (of_opd ! (load ! (through ! refl (fld ! refl (stop !))) (look_in ! 0 (sub ! 1 refl (whole !))))) refl (tt, record { fits = told.0.1.0 }) $
    sets ! (addr ! (through ! refl (fld ! refl (hop ! (look_in ! 0 (sub ! 0 refl (whole !))) (stop !))))) refl (tt, tt) $
    sets ! (agg ! (and_then ! (get ! refl) (and_then ! (get ! refl) (no_more !)))) refl (tt, (tt, (record { fits = told.0.1.0 }, tt))) $
    use1 𝓛 (‵ (cell_at full_share S.mir (mut_slice_vals x) b o)) (𝓛.laws.at_raw full_share τ b o (only (mut_slice_vals x))) $
    closes ! tt S x (mut_slice_vals x) b o $
    use3 𝓛 (later (some (λ (δ : GName). ‵ ((MutSlice (named 0) κ' R).own_val (renamed x δ) (mut_slice_vals x)) ⊛ ‵ (flft κ' qs.0)
    ⊛ ‵ (follows S (Array R 0) γ δ (at_last x)))))
    (lends_inner_slice 𝓛 R (named 0) (named 1) κ' κ r z.0.2.0 told.0.1 qs.0) $ await ! tt $ pick ! (λ δ.
    let y : MutBor (List R.Denot) = renamed x δ in
    split3 ! $ returns ! (look_at ! 0 refl) $ free_all ! refl $
    -- [the elements; the token; what follows; the other tokens]
    move ! (1 ∷ 3 ∷ []) $ join ! $
    use0 𝓛 (raw (fact 𝓤 (x.now ≡ x.now))) (fact_i 𝓤 (x.now ≡ x.now) (emp 𝓤) refl) $ move ! (3 ∷ 0 ∷ []) $ join ! $
    nothing ! $ nothing ! $ fjoin ! $ keep ! (2 ∷ 0 ∷ 3 ∷ 1 ∷ []) $
    by ! (leaves 𝓛 En hs c z (only (mut_slice_vals x)) y (tt, tt) (tt, tt)))))))
