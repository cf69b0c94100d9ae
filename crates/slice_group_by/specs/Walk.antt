-- What one call of a queue of groups does, and what a list of calls does.
use Rattle.std.specs.Prelude.{◌≡◌, Bool, List, [], ◌∷◌, ◌++◌, Option, Some, reverse}
use Rattle.sgb_split.specs.Split.{concat, IsSplit}
use Rattle.slice_group_by.specs.Queue.{pops, after_pops}
use Rattle.sgb_split.specs.declared.end.End.{End}
use Rattle.sgb_split.specs.declared.end.End.TheVariants.{Front, Back}

-- calls at the ends lead from q to r and give these answers: there is a queue between every two calls
abbrev pub IsChain : {Q I : Type 0} → (End → Q → Option I → Q → Type 0) → Q → List End → List (Option I) → Q → Type 0
IsChain gives q [] [] r = r ≡ q
IsChain {Q} gives q (e ∷ es) (o ∷ os) r = (m : Q) × gives e q o m × IsChain gives m es os r
IsChain gives q [] (o ∷ os) r = ⊥
IsChain gives q (e ∷ es) [] r = ⊥

-- x in front, if the call was at the end e and gave x
abbrev pub put_given : {X : Type 0} → End → End → Option X → List X → List X
put_given Front Front (Some x) xs = x ∷ xs
put_given Back Back (Some x) xs = x ∷ xs
put_given e d o xs = xs

-- what the calls at the end e gave, in the order of the calls
abbrev pub given_at : {X : Type 0} → End → List End → List (Option X) → List X
given_at e (d ∷ ds) (o ∷ os) = put_given e d o (given_at e ds os)
given_at e [] os = []
given_at e ds [] = []

-- the front groups in order, what remains, and the back groups in reverse, one after another, are the whole
abbrev pub Partition : {A : Type 0} → List End → List (Option (List A)) → List A → List A → Type 0
Partition ends groups rest whole = concat (given_at Front ends groups) ++ rest ++ concat (reverse (given_at Back ends groups)) ≡ whole

-- exactly one list of pieces ps is the split of xs, the groups are the answers of a two-ended queue of ps, and ys is split into what is
-- left of ps
pub record AnswersAsQueue {A : Type 0} (p : A → A → Bool) (xs : List A) (ends : List End) (groups : List (Option (List A))) (ys : List A)
    (ps : List (List A)) : Type 0 where
  pub is_split : IsSplit p xs ps
  pub only : (qs : List (List A)) → IsSplit p xs qs → qs ≡ ps
  pub gave : groups ≡ pops ps ends
  pub rest : IsSplit p ys (after_pops ps ends)
