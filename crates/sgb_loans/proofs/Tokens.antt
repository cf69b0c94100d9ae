-- The machine value of the tokens, and what giving up a slice reference leaves. Assumes `Logic`.
use Rattle.sgb_split.specs.declared.end.End.{End}
use Rattle.sgb_split.specs.declared.end.End.TheVariants.{Front, Back}
use Rattle.std.proofs.Common.{◌≡◌, List, [], ◌∷◌, ◌++◌, refl}
use seplogic.Ra.Ura.{Ura}
use mir.Syntax.{Lifetime}
use mir.Val.{Val, vstruct, vcons, vnil}
use base.Logic.{SProp, ent, emp}
use base.Fml.{Lft, Fml, fobs}
use base.Stored.{coded_list}
use types.Logic.{Logic, sem}
use types.Kit.{‵, ◌$◌, ◌∵◌, !, qed, by, drop, keep, rewrite, fsplit, fsplit3, feq_l, updating, now, done}
use types.Tokens.{name_done}
use denote.RattleType.{RattleType}
use denote.Ref.{MutBor, NamedLft}
use denote.Slice.{MutSlice}
use denote.FollowSlice.{heres_id}
use denote.Shadow.{makes_shadow}
use denote.Struct.Struct.{Struct}
use denote.Struct.Owning.{shape}
use Rattle.std.proofs.Common.{sym, subst, rules, append_assoc, append-nil}
use base.Logic.{wand, all_e, apply∗, sep, id⊢}
use base.Fml.{GName, fall, fwand}
use types.Kit.{◌⊛◌, raw, move, split, join, use1, use2, assume, each}
use denote.Array.{Array}
use denote.Follow.{follows_both, both_by}
use Rattle.sgb_split.specs.Split.{put_at}
use Rattle.sgb_loans.specs.Loans.{ended_as, before_with, after_with, cut_link, loan_owns, part_at, rest_at}
use Rattle.sgb_loans.specs.Loans.{LastPart, IsLastOf, input_ends, rest_ends, input_ends_after}
use Rattle.sgb_loans.specs.declared.loans.Loans.{Loans}
use Rattle.sgb_loans.specs.contracts.loans.Ended as end
use Rattle.sgb_loans.specs.contracts.loans.Loans as loans

abbrev pub token : Val
token = vstruct (vcons (vstruct vnil) vnil)

module _ {M : Type 1} {𝓤 : Ura M} (𝓛 : Logic 𝓤) (R : RattleType) where
  open 𝓛 use {H, A}

  abbrev pub EndedData : NamedLft → Fml
  EndedData a = (Struct (shape (end.the_type a R))).own_val (tt, tt) (token ∷ [])

  pub ended_made : (a : NamedLft) → ent 𝓤 (emp 𝓤) (sem 𝓛 (EndedData a))
  ended_made a = makes_shadow 𝓛 (EndedData a) (λ vss. (tt, ((λ uss. (tt, tt)), tt)))
      ((vstruct vnil ∷ [], tt), (refl, ((tt, (refl, tt)), tt)))

  abbrev pub LoansData : Fml
  LoansData = (Struct (shape (loans.the_type R))).own_val (tt, tt) (token ∷ [])

  pub loans_made : ent 𝓤 (emp 𝓤) (sem 𝓛 LoansData)
  loans_made = makes_shadow 𝓛 LoansData (λ vss. (tt, ((λ uss. (tt, tt)), tt))) ((vstruct vnil ∷ [], tt), (refl, ((tt, (refl, tt)), tt)))

  pub gives_up : (ℓ : Lifetime) (κ : Lft) (r : MutBor (List R.Denot)) (vs : List Val)
      → ent 𝓤 (sem 𝓛 ((MutSlice ℓ κ R).own_val r vs)) (H.⇛ (sem 𝓛 (ended_as R r.ghost_name r.now)))
  gives_up ℓ κ r vs = qed 𝓛 (‵ ((MutSlice ℓ κ R).own_val r vs) ∷ []) ∵ updating ! $ fsplit3 ! $ fsplit ! $ feq_l ! (λ e. drop ! $
      rewrite ! 0 (λ (l : List R.Denot). ‵ (fobs r.ghost_name ((coded_list R.coded).code l))) (heres_id R r.now) refl $ name_done ! tt $
      now ! $ keep ! (0 ∷ []) $ done !)

  -- what is said of all values of a slice is said of the value that it ended as
  ends : (g : GName) (xs : List R.Denot) (P : List R.Denot → Fml)
      → ent 𝓤 (sep 𝓤 (sem 𝓛 (fall (List R.Denot) (λ w. fwand (ended_as R g w) (P w)))) (sem 𝓛 (ended_as R g xs))) (sem 𝓛 (P xs))
  ends g xs P =
      let Q : List R.Denot → SProp 𝓤 = λ w. wand 𝓤 (sem 𝓛 (ended_as R g w)) (sem 𝓛 (P w)) in
      qed 𝓛 (‵ (fall (List R.Denot) (λ w. fwand (ended_as R g w) (P w))) ∷ ‵ (ended_as R g xs) ∷ []) ∵
      use1 𝓛 (raw (Q xs)) (all_e 𝓤 Q xs) $ move ! (1 ∷ []) $ by ! (apply∗ 𝓤 (sem 𝓛 (ended_as R g xs)) (sem 𝓛 (P xs)))

  pub closes : (γ δ : GName) (before after xs : List R.Denot)
      → ent 𝓤 (sep 𝓤 (sem 𝓛 (loan_owns R γ before after [] δ)) (sem 𝓛 (ended_as R δ xs))) (sem 𝓛 (ended_as R γ (before ++ (xs ++ after))))
  closes γ δ before after xs = ends δ xs (λ w. ended_as R γ (before ++ (w ++ after)))

  pub notes : (e : End) (g : GName) (xs : List R.Denot) (γ : GName) (before after : List R.Denot) (cs : List (End × GName)) (δ : GName)
      → ent 𝓤 (sep 𝓤 (sem 𝓛 (loan_owns R γ before after ((e, g) ∷ cs) δ)) (sem 𝓛 (ended_as R g xs)))
      (sem 𝓛 (loan_owns R γ (before_with e before xs) (after_with e xs after) cs δ))
  notes e g xs γ before after cs δ = ends g xs (λ w. loan_owns R γ (before_with e before w) (after_with e w after) cs δ)

  -- the rest is given up while parts are out
  pub rests : (γ δ : GName) (before after : List R.Denot) (cs : List (End × GName)) (ws : List R.Denot)
      → ent 𝓤 (sep 𝓤 (sem 𝓛 (loan_owns R γ before after cs δ)) (sem 𝓛 (ended_as R δ ws))) (sem 𝓛 (input_ends R γ before after cs ws))
  rests γ δ before after [] ws = closes γ δ before after ws
  rests γ δ before after (c ∷ cs) ws =
      let More : List R.Denot → Fml = λ xs. input_ends R γ (before_with c.0 before xs) (after_with c.0 xs after) cs ws in
      qed 𝓛 (‵ (loan_owns R γ before after (c ∷ cs) δ) ∷ ‵ (ended_as R δ ws) ∷ []) ∵
      each ! (λ xs. wand 𝓤 (sem 𝓛 (ended_as R c.1 xs)) (sem 𝓛 (More xs))) (λ xs. assume ! (‵ (ended_as R c.1 xs)) $
      let More' : Fml = loan_owns R γ (before_with c.0 before xs) (after_with c.0 xs after) cs δ in
      move ! (1 ∷ 0 ∷ []) $ use2 𝓛 (‵ More') (notes c.0 c.1 xs γ before after cs δ) $
      by ! (rests γ δ (before_with c.0 before xs) (after_with c.0 xs after) cs ws))

  -- the loans and the rest are those after a last part
  pub ends_after : (xs : List R.Denot) (l : Loans R.Denot) (e : LastPart R.Denot) → IsLastOf xs l e
      → ent 𝓤 (sem 𝓛 (rest_ends R e.loans e.left)) (sem 𝓛 (input_ends_after R l xs e.part))
  ends_after xs l e is = let Ends : Fml = rest_ends R e.loans e.left in subst (λ (f : Fml). ent 𝓤 (sem 𝓛 Ends) (sem 𝓛 f))
      (λ i. input_ends R (is.root i) (is.before i) (is.after i) (is.cuts i) (is.left i)) (id⊢ 𝓤 (sem 𝓛 Ends))

  abbrev Both : GName → GName → GName → (List R.Denot → List R.Denot → List R.Denot) → Fml
  Both = follows_both (Array R 0) (Array R 0) (Array R 0)

  both : (γ γ₁ γ₂ : GName) (F : List R.Denot → List R.Denot → List R.Denot) (ys zs : List R.Denot)
      → ent 𝓤 (sep 𝓤 (sep 𝓤 (sem 𝓛 (ended_as R γ₁ ys)) (sem 𝓛 (ended_as R γ₂ zs))) (sem 𝓛 (Both γ γ₁ γ₂ F)))
      (sem 𝓛 (ended_as R γ (F ys zs)))
  unfolding both_by
  both γ γ₁ γ₂ F ys zs =
      let P : List R.Denot × List R.Denot → SProp 𝓤 = λ w.
      wand 𝓤 (sep 𝓤 (sem 𝓛 (ended_as R γ₁ w.0)) (sem 𝓛 (ended_as R γ₂ w.1))) (sem 𝓛 (ended_as R γ (F w.0 w.1))) in
      qed 𝓛 ((‵ (ended_as R γ₁ ys) ⊛ ‵ (ended_as R γ₂ zs)) ∷ ‵ (Both γ γ₁ γ₂ F) ∷ []) ∵ move ! (1 ∷ []) $
      use1 𝓛 (raw (P (ys, zs))) (all_e 𝓤 P (ys, zs)) $ move ! (1 ∷ []) $
      by ! (apply∗ 𝓤 (sep 𝓤 (sem 𝓛 (ended_as R γ₁ ys)) (sem 𝓛 (ended_as R γ₂ zs))) (sem 𝓛 (ended_as R γ (F ys zs))))

  -- a cut in two is a cut at either end
  pub cut_at : (γ : GName) (e : End) (parts : MutBor (List R.Denot) × MutBor (List R.Denot))
      → ent 𝓤 (sem 𝓛 (Both γ parts.0.ghost_name parts.1.ghost_name ◌++◌))
      (sem 𝓛 (cut_link R γ e (part_at e parts).ghost_name (rest_at e parts).ghost_name))
  unfolding both_by
  cut_at γ Front parts = id⊢ 𝓤 _
  cut_at γ Back parts =
      let a = parts.0.ghost_name in let b = parts.1.ghost_name in
      let P : List R.Denot × List R.Denot → SProp 𝓤 = λ w.
      wand 𝓤 (sep 𝓤 (sem 𝓛 (ended_as R b w.0)) (sem 𝓛 (ended_as R a w.1))) (sem 𝓛 (ended_as R γ (w.1 ++ w.0))) in
      qed 𝓛 (‵ (Both γ a b ◌++◌) ∷ []) ∵ each ! P (λ w. assume ! (‵ (ended_as R b w.0) ⊛ ‵ (ended_as R a w.1)) $ split ! $
      move ! (1 ∷ 0 ∷ []) $ join ! $ use2 𝓛 (‵ (ended_as R γ (w.1 ++ w.0))) (both γ a b ◌++◌ w.1 w.0) $ done !)

  -- the part comes off the rest, so it stands next to what is out at its end
  beside : (e : End) (before xs w after : List R.Denot)
      → before ++ (put_at e xs w ++ after) ≡ before_with e before xs ++ (w ++ after_with e xs after)
  beside Front before xs w after = search (rules, append_assoc)
  beside Back before xs w after = search (rules, append_assoc)

  pub cuts : (γ g δ ε : GName) (e : End) (before after : List R.Denot) (cs : List (End × GName))
      → ent 𝓤 (sep 𝓤 (sem 𝓛 (loan_owns R γ before after cs δ)) (sem 𝓛 (cut_link R δ e g ε)))
      (sem 𝓛 (loan_owns R γ before after (cs ++ (e, g) ∷ []) ε))
  cuts γ g δ ε e before after [] =
      let Owns : List R.Denot → SProp 𝓤 = λ xs.
      wand 𝓤 (sem 𝓛 (ended_as R g xs)) (sem 𝓛 (loan_owns R γ (before_with e before xs) (after_with e xs after) [] ε)) in
      let Ends : List R.Denot → List R.Denot → SProp 𝓤 = λ xs w.
      wand 𝓤 (sem 𝓛 (ended_as R ε w)) (sem 𝓛 (ended_as R γ (before_with e before xs ++ (w ++ after_with e xs after)))) in
      qed 𝓛 (‵ (loan_owns R γ before after [] δ) ∷ ‵ (cut_link R δ e g ε) ∷ []) ∵
      each ! Owns (λ xs. assume ! (‵ (ended_as R g xs)) $ each ! (Ends xs) (λ w. assume ! (‵ (ended_as R ε w)) $
      -- [ε ended; g ended; the loans; the cut]
      move ! (1 ∷ 0 ∷ []) $ join ! $ move ! (0 ∷ 2 ∷ []) $ use2 𝓛 (‵ (ended_as R δ (put_at e xs w))) (both δ g ε (put_at e) xs w) $
      move ! (1 ∷ 0 ∷ []) $
      use2 𝓛 (‵ (ended_as R γ (before ++ (put_at e xs w ++ after)))) (closes γ δ before after (put_at e xs w)) $
      rewrite ! 0 (λ (l : List R.Denot). ‵ (ended_as R γ l)) (beside e before xs w after) refl $ done !))
  cuts γ g δ ε e before after (c ∷ cs) =
      let More : List R.Denot → Fml = λ xs. loan_owns R γ (before_with c.0 before xs) (after_with c.0 xs after) (cs ++ (e, g) ∷ []) ε in
      qed 𝓛 (‵ (loan_owns R γ before after (c ∷ cs) δ) ∷ ‵ (cut_link R δ e g ε) ∷ []) ∵
      each ! (λ xs. wand 𝓤 (sem 𝓛 (ended_as R c.1 xs)) (sem 𝓛 (More xs))) (λ xs. assume ! (‵ (ended_as R c.1 xs)) $ move ! (1 ∷ 0 ∷ []) $
      use2 𝓛 (‵ (loan_owns R γ (before_with c.0 before xs) (after_with c.0 xs after) cs δ)) (notes c.0 c.1 xs γ before after cs δ) $
      by ! (cuts γ g δ ε e (before_with c.0 before xs) (after_with c.0 xs after) cs))

  pub begins : (γ : GName) → ent 𝓤 (emp 𝓤) (sem 𝓛 (loan_owns R γ [] [] [] γ))
  begins γ = qed 𝓛 [] ∵ each ! (λ w. wand 𝓤 (sem 𝓛 (ended_as R γ w)) (sem 𝓛 (ended_as R γ (w ++ [])))) (λ w. assume ! (‵ (ended_as R γ w)) $
      rewrite ! 0 (λ (l : List R.Denot). ‵ (ended_as R γ l)) (sym (append-nil w)) refl $ done !)
