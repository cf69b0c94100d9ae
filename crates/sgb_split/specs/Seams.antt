-- What joins the pieces of two lists to those of the two, one after the other.
use Rattle.std.specs.Prelude.{ℕ, ◌+◌, Bool, true, false, cond, List, [], ◌∷◌, ◌++◌, Option, Some}
use Rattle.sgb_split.specs.Split.{first, last}

module _ {A : Type 0} (p : A → A → Bool) where
  -- there are two, and the test accepts them
  abbrev pub are_accepted : Option A → Option A → Bool
  are_accepted (Some a) (Some b) = p a b
  are_accepted a b = false

  -- whether the last element of the one list and the first of the other are accepted
  abbrev pub is_accepted_across : List A → List A → Bool
  is_accepted_across g h = are_accepted (last g) (first h)

  -- a piece before others: one with the first of them where the pair across is accepted
  abbrev pub join_first : List A → List (List A) → List (List A)
  join_first g [] = g ∷ []
  join_first g (h ∷ hs) = cond (is_accepted_across g h) ((g ++ h) ∷ hs) (g ∷ h ∷ hs)

  -- the pieces of one list and of another: the last of the one and the first of the other are one where the pair across is accepted
  abbrev pub seam : List (List A) → List (List A) → List (List A)
  seam [] qs = qs
  seam (g ∷ []) qs = join_first g qs
  seam (g ∷ h ∷ gs) qs = g ∷ seam (h ∷ gs) qs

-- the lengths of the pieces of one list and of another: the last of the one and the first of the other add up where the pair across is
-- accepted
abbrev pub lens_joined : Bool → List ℕ → List ℕ → List ℕ
lens_joined b [] ns = ns
lens_joined b (m ∷ []) [] = m ∷ []
lens_joined true (m ∷ []) (n ∷ ns) = (m + n) ∷ ns
lens_joined false (m ∷ []) (n ∷ ns) = m ∷ n ∷ ns
lens_joined b (m ∷ k ∷ ms) ns = m ∷ lens_joined b (k ∷ ms) ns
