-- What stays the same list while a loop notes each group as it comes.
use Rattle.std.proofs.Common.{◌≡◌, List, [], ◌∷◌, ◌++◌, map, refl, sym, ap, ◌∙◌, append_assoc, rules}
use Rattle.std.proofs.lemmas.List.{map-append}
use Rattle.sgb_split.specs.declared.end.End.{End}
use Rattle.sgb_split.specs.declared.end.End.TheVariants.{Front, Back}
use Rattle.sgb_split.specs.Split.{put_at, concat}
use Rattle.sgb_loans.specs.Loans.{before_with, after_with}
use Rattle.slice_group_by.proofs.Queues.Chains.{joined_push}

module _ {A T : Type 0} (f : List A → List T) where
  -- what f makes of a group more stands at its end of the rest
  joined_at : (e : End) (group : List A) (gs : List (List A))
      → concat (map f (put_at e (group ∷ []) gs)) ≡ put_at e (f group) (concat (map f gs))
  joined_at Front group gs = refl
  joined_at Back group gs = ap concat (map-append f gs (group ∷ [])) ∙ joined_push (map f gs) (f group)

  -- and next to what is noted at that end
  beside : (e : End) (before xs rest after : List T)
      → before_with e before xs ++ (rest ++ after_with e xs after) ≡ before ++ (put_at e xs rest ++ after)
  beside Front before xs rest after = search (rules, append_assoc)
  beside Back before xs rest after = search (rules, append_assoc)

  pub noted_pieces : (e : End) (group : List A) (ps gs : List (List A)) (before after value whole : List T) → ps ≡ put_at e (group ∷ []) gs
      → value ≡ f group → before ++ (concat (map f ps) ++ after) ≡ whole
      → before_with e before value ++ (concat (map f gs) ++ after_with e value after) ≡ whole
  noted_pieces e group ps gs before after value whole cut is done =
      beside e before value (concat (map f gs)) after
      ∙ ap (λ l. before ++ (l ++ after))
      (ap (λ v. put_at e v (concat (map f gs))) is ∙ sym (joined_at e group gs) ∙ ap (λ ps. concat (map f ps)) (sym cut))
      ∙ done
