-- The slice is split, and the link between its name and the parts' is kept.
use Rattle.sgb_split.specs.contracts.end.End as ends
use Rattle.std.proofs.Common.{◌≡◌, ℕ, ◌≤◌, List, [], ◌∷◌, ◌++◌, length, refl, sym, subst}
use mir.Syntax.{a_type, named, w64}
use mir.Val.{Val, vptr, vint}
use mir.MapTy.{inst_fn}
use base.Logic.{SProp, ent, emp, id⊢}
use base.Fml.{GName, ftrue, fsep, flft}
use prog.Wp.{WpFn}
use types.Kit.{‵, raw, ◌⊛◌, some, later, ◌$◌, ◌∵◌, !, qed, by, move, keep, drop, split, join, fsplit, fsplit3, fjoin, feq_i, suffices, use0, use1, use2, rewrite, await, pick}
use types.Part.{whole, sub, agg}
use types.Run.{addr, from, fld, hop, stop, and_then, no_more, returns, enter}
use types.ByLocal.{alloc_all, pass_all, free_all, look_at, look_in_at, get, get_in, sets, lands_as}
use contract.BorrowLft.{◌⊑◌}
use contract.Monad.{fact, fact_i}
use contract.Running.{tables}
use denote.Array.{Array}
use denote.Builtin.{usize}
use denote.Exit.{yes, no}
use denote.Follow.{follows_both}
use denote.Laws.{Is, shows}
use denote.Plain.{uint_Makes}
use denote.RattleType.{RattleType, owns}
use denote.Slice.{MutSlice, mut_slice_vals, slice_val}
use denote.Signature.{types_at, type_at, plain, mut_slice_of, shr_ref_to, named_lft}
use denote.Steps.{nothing, heard, opens, closes, owned, peeks}
use denote.Param.{param, layouts}
use denote.Param.Laws.{param_laws, of_field, row_shared}
use denote.Param.Shared.{mut_slice_shared}
use denote.Struct.Field.{mut_slice_field}
use denote.Struct.Laws.{mut_slice_laws}
use denote.Struct.Tuple.{tuple_laws}
use denote.Triple.Call.{calls_at}
use denote.Triple.Clauses.{lasts, Lasts}
use denote.Triple.Spec.{triple_of}
use denote.Triple.Table.{framed}
use denote.Triple.Walked.{Stays, walk_of, stay_dropped, Goes-dropped, Goes-spent_slice, stay_ref, Goes-ref}
use Rattle.std.proofs.raw_atomic.Walks.{proved_at, leaves}
use Rattle.sgb_loans.proofs.Tokens.{cut_at, cuts}
use Rattle.sgb_loans.specs.Loans.{loan_owns, cut_link, HandsOut, part_at, rest_at}
use Rattle.sgb_loans.specs.contracts.loans.Loans as loans
use Rattle.sgb_loans.specs.contracts.loans.split_at_mut as g
use Rattle.sgb_loans.proofs.loans.split_at_mut.Met as callee
use Rattle.sgb_loans.specs.contracts.loans.Loans.cut_at.{ended, clauses}
use Rattle.sgb_loans.specs.contracts.loans.Loans.cut_at.Key.{name as #self}
use Rattle.sgb_loans.proofs.loans.Loans.cut_at.Statement.{statement}
use Rattle.sgb_loans.proofs.loans.Loans.cut_at.Code as code

pub cut_at_spec : {M : Type 1} → statement M
cut_at_spec 𝓤 𝓛 𝓜 𝓡 wired T L =
    let H = 𝓛.H in let 𝓣 = tables 𝓤 H 𝓜 𝓡 𝓡.env in let R : RattleType = param 0 T in let LR = param_laws 0 T L in
    let En = ended T in let c = clauses T 𝓛 𝓜.mem 𝓡.returns in let S : RattleType = loans.the_row R in
    let inst = layouts (a_type ∷ []) (T, tt) in let fn = inst_fn inst code.function in
    let met = callee.met 𝓤 𝓛 𝓜 𝓡 (code.calls-sgb_loans::loans::split_at_mut 𝓡.env wired) T L in
    let G = triple_of 𝓛 (g.signature T) (g.spec T 𝓛 𝓜.mem 𝓡.returns) in
    let at_end = shr_ref_to (1 ∷ []) tt (plain (λ _. ends.the_row)) in let slice = mut_slice_of (2 ∷ []) tt (plain (λ _. R)) in
    let hs : Stays En.signature.params En.kept = (
      stay_ref (0 ∷ []) tt (plain (λ _. S)),
      (stay_dropped at_end yes, (stay_dropped slice no, (stay_dropped (plain (λ _. usize)) yes, tt))),
    ) in
    proved_at 𝓛 En hs c 𝓜 𝓡 (
      Goes-ref 𝓛 4 0 tt (plain (λ _. S)),
      (
        Goes-dropped 𝓛 4 at_end yes (λ κs x f. refl),
        (Goes-spent_slice 𝓛 4 (2 ∷ []) tt (plain (λ _. R)), (Goes-dropped 𝓛 4 (plain (λ _. usize)) yes (λ κs x f. refl), tt)),
      ),
    )
    (#self inst) fn (code.unfolded 𝓤 H 𝓜 𝓡 wired (T, tt)) (λ z are.
    let κs = z.0.0 in let qs = z.0.1 in let κ = κs.1.1.0 in let κT = κs.1.1.1.0 in
    let Post : Val → SProp 𝓤 = (walk_of 𝓛 En hs c).post z in let Run : List Val → SProp 𝓤 = λ ws. WpFn 𝓤 H 𝓣.C 𝓣.Λ fn ws Post in
    let r = z.0.3.0 in let b : ℕ = r.ref_ptr.0 in let o : ℕ = r.ref_ptr.1 in let l = r.now in let p = z.0.3.1.0 in let e = p.now in
    let all = z.0.3.1.1.0 in let mid : ℕ = z.0.3.1.1.1.0 in let are' = are.1.1 in let fm = are'.1.0.1 in let fn' = are'.0.0.1.0 in
    let Vs : List Val = vptr b o ∷ vptr p.ref_ptr.0 p.ref_ptr.1 ∷ slice_val all.ref_ptr (length all.now) ∷ vint w64 mid ∷ [] in
    let Within : Type 0 = mid ≤ length all.now in let Lives : Type 0 = κT ⊑ T.lives in
    let ℓ = named_lft 4 2 tt κs in
    let one_law = of_field (mut_slice_field ℓ R tt) (mut_slice_laws ℓ R tt) refl (mut_slice_shared ℓ R tt (row_shared R LR)) in
    let two_laws = tuple_laws ((mut_slice_field ℓ R tt).row ∷ (mut_slice_field ℓ R tt).row ∷ []) (one_law, (one_law, tt)) in
    let Out : RattleType = type_at (g.signature T).result (κ, (κT, tt)) in
    let z' : G.Ghost =
    (((κ, (κT, tt)), (qs.1.1.0, (qs.1.1.1.0, tt)), (z.0.2.1.0, tt), (all, (mid, tt)), (mut_slice_vals all, (vint w64 mid ∷ [], tt))), tt) in
    qed 𝓛 (((‵ (flft κs.0 qs.0) ⊛ ‵ (fsep (flft κs.1.0 qs.1.0) (fsep (flft κ qs.1.1.0) (fsep (flft κT qs.1.1.1.0) ftrue))))
    ⊛ ‵ (owns (types_at En.signature.params κs) z.0.3 z.0.4)) ∷ raw (fact 𝓤 Lives) ∷ raw (fact 𝓤 Within)
    ∷ raw (fact 𝓤 (all.ghost_name ≡ l.rest)) ∷ []) ∵
    move ! (1 ∷ []) $
    heard ! Lives (λ lives. move ! (1 ∷ []) $ heard ! Within (λ within. move ! (1 ∷ []) $ heard ! (all.ghost_name ≡ l.rest) (λ same.
    split ! $ split ! $ move ! (2 ∷ []) $ fsplit3 ! $ fsplit ! $ keep ! (3 ∷ 1 ∷ 4 ∷ 5 ∷ []) $ fsplit ! $ keep ! (4 ∷ 2 ∷ 0 ∷ 3 ∷ []) $
    fsplit3 ! $ keep ! (1 ∷ 2 ∷ 3 ∷ 4 ∷ 5 ∷ 0 ∷ []) $
    -- [the token of all; the other; the loans' borrow; all; the loans' token; the token of the end]
    suffices ! (Run Vs) (subst (λ (us : List Val). ent 𝓤 (Run Vs) (Run us))
    (sym (λ i. are.0.0 i ++ (are.1.0.0 i ++ (are'.0.0.0 i ++ (are'.1.0.0 i ++ []))))) (id⊢ 𝓤 (Run Vs))) $
    enter ! 𝓣.C 𝓣.Λ fn Vs Post $
    alloc_all ! (λ k. pass_all ! refl ((tt, tt), ((tt, tt), ((tt, (tt, (record { fits = fn' }, tt))), ((tt, record { fits = fm }), tt)))) $
    sets ! (addr ! (from ! (fld ! refl (hop ! (look_in_at ! 3 (sub ! 0 refl (whole !))) (stop !))))) refl (tt, tt) $
    sets ! (agg ! (and_then ! (get ! refl) (and_then ! (get_in ! (fld ! refl (stop !)) (sub ! 1 refl (whole !))) (no_more !))))
    refl (tt, (tt, (record { fits = fn' }, tt))) $
    rewrite ! 3 (λ (us : List Val). ‵ ((MutSlice (named 2) κ R).own_val all us)) are'.0.0.0 refl $
    join ! $ nothing ! $ owned ! usize _ (uint_Makes 𝓛 w64) mid (vint w64 mid ∷ []) (refl, fm) $ fjoin ! $ move ! (3 ∷ 0 ∷ []) $ fjoin ! $
    move ! (1 ∷ 0 ∷ []) $ join ! $
    use0 𝓛 (raw (fact 𝓤 Within)) (fact_i 𝓤 Within (emp 𝓤) within) $ use0 𝓛 (raw (fact 𝓤 Lives)) (fact_i 𝓤 Lives (emp 𝓤) lives) $ join ! $
    move ! (1 ∷ 0 ∷ []) $
    use2 𝓛 (raw (G.pre z')) (id⊢ 𝓤 _) $
    calls_at ! (framed 𝓤 H 𝓜 𝓣) G met z' (and_then ! (get ! refl) (and_then ! (get ! refl) (no_more !))) (λ v.
    use1 𝓛 (later (some (λ (y : Out.Denot). ((‵ (flft κ qs.1.1.0) ⊛ ‵ (fsep (flft κT qs.1.1.1.0) ftrue)) ⊛ ‵ (Out.own_val y (v ∷ [])))
    ⊛ some (λ (ws : Lasts (g.ended T) (κ, (κT, tt)) (all, (mid, tt))). ‵ (lasts (g.ended T) (κ, (κT, tt)) (all, (mid, tt)) ws)
    ⊛ (‵ (follows_both (Array R 0) (Array R 0) (Array R 0) all.ghost_name y.0.ghost_name y.1.ghost_name ◌++◌)
    ⊛ raw (fact 𝓤 ((all.now ≡ y.0.now ++ y.1.now) × (length y.0.now ≡ mid)))))))) (id⊢ 𝓤 _) $
    await ! tt $ pick ! (λ y. split ! $ move ! (1 ∷ []) $ pick ! (λ ws. split ! $ drop ! $ split ! $ move ! (1 ∷ []) $
    let Parts : Type 0 = (all.now ≡ y.0.now ++ y.1.now) × (length y.0.now ≡ mid) in let part = (part_at e y).ghost_name in
    let rest = (rest_at e y).ghost_name in
    heard ! Parts (λ parts.
    move ! (1 ∷ []) $ split ! $ move ! (1 ∷ []) $
    peeks ! Out (Is Out) (shows 𝓛 Out) y (v ∷ []) (λ told. let good = ((two_laws.lawful 𝓛).typed y (v ∷ []) told).0 in
    -- [the parts; the tokens of all; the link; the loans' borrow and its token; the token of the end]
    lands_as ! refl refl good $
    move ! (3 ∷ 4 ∷ []) $ fsplit ! $ opens ! tt S b o (λ us. move ! (1 ∷ []) $ fsplit ! $
    move ! (8 ∷ []) $ use1 𝓛 (‵ (cut_link R all.ghost_name e part rest)) (cut_at 𝓛 R all.ghost_name e y) $
    move ! (2 ∷ 0 ∷ []) $ rewrite ! 1 (λ (j : GName). ‵ (cut_link R j e part rest)) same refl $
    use2 𝓛 (‵ (loan_owns R l.root l.before l.after (l.cuts ++ (e, part) ∷ []) rest))
    (cuts 𝓛 R l.root part l.rest rest e l.before l.after l.cuts) $
    let l' = record l { cuts = l.cuts ++ (e, part) ∷ []; rest = rest } in
    move ! (1 ∷ 0 ∷ []) $ fjoin ! $ move ! (1 ∷ 0 ∷ []) $ closes ! tt S l' us b o $ fjoin ! $
    feq_i ! (List Val) z.0.4.0 (vptr b o ∷ []) are.0.0 $ fjoin ! $ nothing ! $ nothing ! $ fjoin ! $ nothing ! $ fjoin ! $ nothing ! $
    fjoin ! $ move ! (1 ∷ 0 ∷ []) $ fjoin ! $
    -- [what is left of the parameters; the loans' token; the parts; the tokens of all; the token of the end]
    move ! (3 ∷ []) $ split ! $ fjoin ! $ move ! (4 ∷ 0 ∷ []) $ fjoin ! $ move ! (2 ∷ 0 ∷ []) $ join ! $
    let out : HandsOut e l part l' = record { root = refl; before = refl; after = refl; cuts = refl } in
    use0 𝓛 (raw (fact 𝓤 (HandsOut e l part l'))) (fact_i 𝓤 (HandsOut e l part l') (emp 𝓤) out) $
    use0 𝓛 (raw (fact 𝓤 (l'.rest ≡ rest))) (fact_i 𝓤 (l'.rest ≡ rest) (emp 𝓤) refl) $ join ! $
    use0 𝓛 (raw (fact 𝓤 Parts)) (fact_i 𝓤 Parts (emp 𝓤) parts) $ join ! $
    returns ! (look_at ! 0 refl) $ free_all ! refl $ keep ! (1 ∷ 2 ∷ 3 ∷ 0 ∷ []) $
    by ! (leaves 𝓛 En hs c z v y (l', (tt, (tt, (tt, tt)))) (tt, (tt, (tt, (tt, tt))))))))))))))))
