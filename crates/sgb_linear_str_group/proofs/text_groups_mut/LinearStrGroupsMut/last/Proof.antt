-- The end of the walk is given up after the call at the back, and what that says is kept.
use Rattle.std.proofs.Common.{◌≡◌, ℕ, List, [], ◌∷◌, ◌++◌, refl, sym, subst}
use mir.Syntax.{a_type, dcons, dnil}
use mir.Val.{Val}
use mir.MapTy.{inst_fn}
use base.Logic.{SProp, ent, emp, id⊢}
use base.Fml.{Fml, ftrue, fsep, flft}
use prog.Wp.{WpFn}
use types.Kit.{‵, raw, ◌⊛◌, some, later, ◌$◌, ◌∵◌, !, qed, by, move, keep, drop, split, join, fjoin}
use types.Kit.{suffices, use0, use1, use2, rewrite, await, pick}
use types.Run.{of_opd, and_then, no_more, returns, enter}
use types.ByLocal.{alloc_all, pass_all, free_all, look_at, get, sets, lands_as}
use base.Fraction.{full_share}
use contract.BorrowLft.{◌⊑◌, ⊑_static}
use contract.Monad.{fact, fact_i}
use contract.Running.{tables}
use denote.Exit.{no}
use denote.Laws.{Is, shows}
use denote.Param.{param, layout, bounded}
use denote.Param.Laws.{param_laws, of_field}
use denote.Param.Shared.{copy_shared}
use denote.RattleType.{RattleType}
use denote.Signature.{plain, named_lft}
use denote.Steps.{nothing, heard, peeks}
use denote.Builtin.{u8}
use denote.Struct.Field.{u8-field}
use denote.Struct.Laws.{u8-laws, u8-copy}
use denote.Triple.Call.{calls_at}
use denote.Triple.Clauses.{lasts, Lasts}
use denote.Triple.Entry.{on_entry}
use denote.Triple.Spec.{triple_of}
use denote.Triple.Table.{framed}
use denote.Triple.Walked.{Stays, walk_of, stay_dropped, Goes-dropped}
use Rattle.std.proofs.cell.Inside.{one}
use Rattle.std.proofs.raw_atomic.Walks.{proved_at, leaves}
use Rattle.sgb_split.specs.declared.end.End.TheVariants.{Back}
use Rattle.sgb_loans.proofs.Parts.{Part, part_laws}
use Rattle.sgb_loans.proofs.Tokens.{ends_after}
use Rattle.sgb_loans.proofs.loans.Last.TheLaws as last_laws
use Rattle.sgb_loans.specs.Loans.{LastPart, IsLastOf, rest_ends, input_ends_after}
use Rattle.sgb_loans.specs.contracts.loans.Last as last
use Rattle.sgb_loans.specs.contracts.loans.Last.into_part as part
use Rattle.sgb_loans.proofs.loans.Last.into_part.Met as part_met
use Rattle.sgb_linear_str_group.specs.TextsMut.{TextGroupsMut, GivesTextMut}
use Rattle.sgb_linear_str_group.proofs.text_groups_mut.LinearStrGroupsMut.TheLaws as groups_laws
use Rattle.sgb_linear_str_group.specs.contracts.text_groups_mut.LinearStrGroupsMut as groups
use Rattle.sgb_linear_str_group.specs.contracts.text_groups_mut.LinearStrGroupsMut.take_last as take
use Rattle.sgb_linear_str_group.proofs.text_groups_mut.LinearStrGroupsMut.take_last.Met as take_met
use Rattle.sgb_linear_str_group.specs.contracts.text_groups_mut.LinearStrGroupsMut.last.{ended, clauses}
use Rattle.sgb_linear_str_group.specs.contracts.text_groups_mut.LinearStrGroupsMut.last.Key.{name as #self}
use Rattle.sgb_linear_str_group.proofs.text_groups_mut.LinearStrGroupsMut.last.Statement.{statement}
use Rattle.sgb_linear_str_group.proofs.text_groups_mut.LinearStrGroupsMut.last.Code as code

pub last_spec : {M : Type 1} → statement M
last_spec 𝓤 𝓛 𝓜 𝓡 wired J LJ t t' g d d' met met' glue =
    let H = 𝓛.H in let 𝓣 = tables 𝓤 H 𝓜 𝓡 𝓡.env in let R : RattleType = u8 in
    let LR = of_field u8-field u8-laws refl (copy_shared u8-field u8-copy) in
    let En = ended J t t' g d d' in let c = clauses J t t' g d d' 𝓛 𝓜.mem 𝓡.returns in
    let inst = bounded (a_type ∷ []) (J, tt) (dcons t' (dcons d (dcons d' dnil))) in let fn = inst_fn inst code.function in
    let takes = take_met.met 𝓤 𝓛 𝓜 𝓡 (code.calls-sgb_linear_str_group::text_groups_mut::LinearStrGroupsMut::take_last 𝓡.env wired) J LJ
    t t' g d d' met met' glue in
    let parts = part_met.met 𝓤 𝓛 𝓜 𝓡 (code.calls-sgb_loans::loans::Last::into_part 𝓡.env wired) R LR in
    let G = triple_of 𝓛 (take.signature J) (take.spec J t t' g d d' 𝓛 𝓜.mem 𝓡.returns) in
    let G' = triple_of 𝓛 (part.signature R) (part.spec R 𝓛 𝓜.mem 𝓡.returns) in
    let self = plain (λ κs. groups.the_row (named_lft 2 0 tt κs) (param 0 J)) in
    let hs : Stays En.signature.params En.kept = (stay_dropped self no, tt) in
    proved_at 𝓛 En hs c 𝓜 𝓡 (Goes-dropped 𝓛 2 self no (λ κs x f. refl), tt) (#self inst) fn
    (code.unfolded 𝓤 H 𝓜 𝓡 wired (J, tt) t' d d') (λ z are.
    let κs = z.0.0 in let qs = z.0.1 in let κ = κs.0 in let ℓ = named_lft 2 0 tt κs in
    let Post : Val → SProp 𝓤 = (walk_of 𝓛 En hs c).post z in let Run : List Val → SProp 𝓤 = λ ws. WpFn 𝓤 H 𝓣.C 𝓣.Λ fn ws Post in
    let s = z.0.3.0 in let S : RattleType = groups.the_row ℓ (param 0 J) in
    let LS = groups_laws.the_row_laws ℓ (param 0 J) (param_laws 0 J LJ) in
    let u = one (layout S) z.0.4.0 ((LS.lawful 𝓛).typed s z.0.4.0 are.0) in let us : List Val = u.0 ∷ [] in
    let P : RattleType = Part ℓ R in let LP = part_laws ℓ R LR in
    let Out : RattleType = last.the_row ℓ R in let LO = last_laws.the_row_laws ℓ R LR in
    let Tokens : Fml = fsep (flft κs.1.0 qs.1.0) ftrue in
    let z₁ : G.Ghost = ((κs, qs, z.0.2, (s, tt), (us, tt)), tt) in
    qed 𝓛 (raw (on_entry 𝓛 En.signature κs qs z.0.3 z.0.4) ∷ raw ((c κs z.0.3).requires z.1) ∷ []) ∵
    rewrite ! 0 (λ (vs : List Val). raw (on_entry 𝓛 En.signature κs qs z.0.3 (vs, tt))) u.1 refl $
    suffices ! (Run us) (subst (λ (vs : List Val). ent 𝓤 (Run us) (Run vs)) (sym (λ i. u.1 i ++ [])) (id⊢ 𝓤 (Run us))) $
    enter ! 𝓣.C 𝓣.Λ fn us Post $ alloc_all ! (λ k. pass_all ! refl (u.2, tt) $ sets ! (of_opd ! (get ! refl)) refl u.2 $
    use2 𝓛 (raw (G.pre z₁)) (id⊢ 𝓤 _) $ calls_at ! (framed 𝓤 H 𝓜 𝓣) G takes z₁ (and_then ! (get ! refl) (no_more !)) (λ v.
    let Gives : LastPart ℕ → Type 0 = λ y. (t : TextGroupsMut J.Denot) × GivesTextMut g Back s y.part t in
    let Of : LastPart ℕ → Type 0 = IsLastOf s.text s.loans in
    use1 𝓛 (later (some (λ (y : Out.Denot). ((‵ (flft κ qs.0) ⊛ ‵ Tokens) ⊛ ‵ (Out.own_val y (v ∷ [])))
    ⊛ some (λ (ws : Lasts (take.ended J t t' g d d') κs (s, tt)). ‵ (lasts (take.ended J t t' g d d') κs (s, tt) ws)
    ⊛ (raw (fact 𝓤 (Gives y)) ⊛ raw (fact 𝓤 (Of y))))))) (id⊢ 𝓤 _) $
    await ! tt $ pick ! (λ y. split ! $ move ! (1 ∷ []) $ pick ! (λ ws. split ! $ drop ! $ split ! $ move ! (1 ∷ []) $
    heard ! (Of y) (λ is. move ! (1 ∷ []) $ split ! $ move ! (1 ∷ []) $
    peeks ! Out (Is Out) (shows 𝓛 Out) y (v ∷ []) (λ told. lands_as ! refl refl ((LO.lawful 𝓛).typed y (v ∷ []) told).0 $
    -- [the end of the walk; the tokens]
    nothing ! $ move ! (1 ∷ 0 ∷ []) $ fjoin ! $ move ! (1 ∷ []) $ split ! $ nothing ! $
    use0 𝓛 (‵ (flft [] full_share)) (𝓛.lfts.lft-nil full_share) $ fjoin ! $ move ! (1 ∷ 0 ∷ []) $ join ! $
    move ! (0 ∷ 2 ∷ []) $ join ! $ nothing ! $
    use0 𝓛 (raw (fact 𝓤 ([] ⊑ []))) (fact_i 𝓤 ([] ⊑ []) (emp 𝓤) (⊑_static [])) $ join ! $ move ! (1 ∷ 0 ∷ []) $
    let z₂ : G'.Ghost = (((κ, ([], tt)), (qs.0, (full_share, tt)), (⊑_static κ, tt), (y, tt), (v ∷ [], tt)), tt) in
    use2 𝓛 (raw (G'.pre z₂)) (id⊢ 𝓤 _) $ calls_at ! (framed 𝓤 H 𝓜 𝓣) G' parts z₂ (and_then ! (get ! refl) (no_more !)) (λ v'.
    use1 𝓛 (later (some (λ (x : P.Denot). ((‵ (flft κ qs.0) ⊛ ‵ (fsep (flft [] full_share) ftrue)) ⊛ ‵ (P.own_val x (v' ∷ [])))
    ⊛ some (λ (ws : Lasts (part.ended R) z₂.0.0 z₂.0.3). ‵ (lasts (part.ended R) z₂.0.0 z₂.0.3 ws)
    ⊛ (‵ (rest_ends R y.loans y.left) ⊛ raw (fact 𝓤 (x ≡ y.part))))))) (id⊢ 𝓤 _) $
    await ! tt $ pick ! (λ x. split ! $ move ! (1 ∷ []) $ pick ! (λ ws'. split ! $ drop ! $ split ! $ move ! (1 ∷ []) $
    heard ! (x ≡ y.part) (λ same. use1 𝓛 (‵ (input_ends_after R s.loans s.text y.part)) (ends_after 𝓛 R s.text s.loans y is) $
    move ! (1 ∷ []) $ split ! $ move ! (1 ∷ []) $ rewrite ! 0 (λ (o : P.Denot). ‵ (P.own_val o (v' ∷ []))) same refl $
    peeks ! P (Is P) (shows 𝓛 P) y.part (v' ∷ []) (λ told'. lands_as ! refl refl ((LP.lawful 𝓛).typed y.part (v' ∷ []) told').0 $
    returns ! (look_at ! 0 refl) $ free_all ! refl $
    -- [the part; two tokens; what the input ends as; the token of J]
    move ! (1 ∷ []) $ split ! $ move ! (0 ∷ 4 ∷ []) $ join ! $
    move ! (3 ∷ 4 ∷ []) $ join ! $ nothing ! $ nothing ! $ fjoin ! $
    keep ! (2 ∷ 0 ∷ 4 ∷ 1 ∷ []) $ by ! (leaves 𝓛 En hs c z v' y.part (tt, tt) (tt, tt))))))))))))))
