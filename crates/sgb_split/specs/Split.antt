-- Lists, read from either end, and the one split of a list at its refused neighbouring pairs, as Rust's `slice::chunk_by` describes its
-- pieces.
--     IsSplit p xs ps       ps are the pieces of xs for the test p
--     split p xs            those pieces, computed
--     refused_pairs p xs    how many neighbouring pairs of xs the test refuses
--     IsGrouped p xs        so a binary or exponential call finds the pieces of xs for the test p
use Rattle.std.specs.Prelude.{◌≡◌, ◌≢◌, ℕ, ◌+◌, ◌<◌, Bool, true, false, not, List, [], ◌∷◌, ◌++◌, reverse, Option, None, Some, ◌⊎◌, ◌↔◌, flat_map, count_by, slice_get, slice_range}
use Rattle.std.specs.List.{AllByRecursion}
use Rattle.sgb_split.specs.declared.end.End.{End}
use Rattle.sgb_split.specs.declared.end.End.TheVariants.{Front, Back}

module _ {X : Type 0} where
  -- the list as it reads from the end
  abbrev pub from : End → List X → List X
  from Front xs = xs
  from Back xs = reverse xs

  -- the list of a part at the end, and the rest beyond it
  abbrev pub put_at : End → List X → List X → List X
  put_at Front part rest = part ++ rest
  put_at Back part rest = rest ++ part

  -- part is a nonempty part at the end of xs, and ys is the rest; there is none exactly where xs is empty, and then ys is empty too
  abbrev pub TakesPart : End → List X → Option (List X) → List X → Type 0
  TakesPart e xs None ys = (xs ≡ []) × (ys ≡ [])
  TakesPart e xs (Some part) ys = (part ≢ []) × (xs ≡ put_at e part ys)

  -- the first item and the last, and the list without it
  abbrev pub first : List X → Option X
  first [] = None
  first (x ∷ xs) = Some x

  abbrev pub without_first : List X → List X
  without_first [] = []
  without_first (x ∷ xs) = xs

  abbrev pub last : List X → Option X
  last [] = None
  last (x ∷ []) = Some x
  last (x ∷ y ∷ ys) = last (y ∷ ys)

  abbrev pub without_last : List X → List X
  without_last [] = []
  without_last (x ∷ []) = []
  without_last (x ∷ y ∷ ys) = x ∷ without_last (y ∷ ys)

  -- the item at the end, if there is one
  abbrev pub item_at : End → List X → Option X
  item_at Front xs = first xs
  item_at Back xs = last xs

  -- the items without it
  abbrev pub without : End → List X → List X
  without Front xs = without_first xs
  without Back xs = without_last xs

module _ {A : Type 0} where
  -- the pairs of elements that stand side by side in the list, in order, the left one first
  abbrev pub neighbours : List A → List (A × A)
  neighbours [] = []
  neighbours (x ∷ []) = []
  neighbours (x ∷ y ∷ ys) = (x, y) ∷ neighbours (y ∷ ys)

  -- the pair is one of the list
  abbrev pub IsOneOf : List (A × A) → A × A → Type 0
  IsOneOf [] q = ⊥
  IsOneOf (r ∷ rs) q = ((q.0 ≡ r.0) × (q.1 ≡ r.1)) ⊎ IsOneOf rs q

  -- the two stand side by side in the list, in that order
  abbrev pub AreNeighbours : List A → A × A → Type 0
  AreNeighbours xs q = IsOneOf (neighbours xs) q

module _ {A : Type 0} where
  -- x stands in the list
  abbrev pub IsAmong : List A → A → Type 0
  IsAmong [] x = ⊥
  IsAmong (y ∷ ys) x = (x ≡ y) ⊎ IsAmong ys x

  -- the two stand at different places of the list, in either order
  abbrev pub AreApart : List A → A × A → Type 0
  AreApart [] q = ⊥
  AreApart (x ∷ xs) q = ((q.0 ≡ x) × IsAmong xs q.1) ⊎ (((q.1 ≡ x) × IsAmong xs q.0) ⊎ AreApart xs q)

-- a test of two, on pairs
abbrev pub on_pairs : {A : Type 0} → (A → A → Bool) → A × A → Bool
on_pairs p q = p q.0 q.1

module _ {A : Type 0} where
  -- the lists, one after another
  abbrev pub concat : List (List A) → List A
  concat gs = flat_map (λ g. g) gs

  module _ (p : A → A → Bool) where
    -- each neighbouring pair of the list is accepted
    abbrev pub IsAccepted : List A → Type 0
    IsAccepted xs = AllByRecursion (λ q. on_pairs p q ≡ true) (neighbours xs)

    -- the pair of the last element of the one list and the first of the other is refused
    abbrev pub IsRefusedAcross : List A × List A → Type 0
    IsRefusedAcross q = (a b : A) → last q.0 ≡ Some a → first q.1 ≡ Some b → p a b ≡ false

    -- ps is the split of xs: no piece is empty, neighbours inside a piece are accepted, and neighbours across two pieces are refused
    pub record IsSplit (xs : List A) (ps : List (List A)) : Type 0 where
      pub covers : concat ps ≡ xs
      pub nonempty : AllByRecursion (λ g. g ≢ []) ps
      pub accepted : AllByRecursion IsAccepted ps
      pub refused : AllByRecursion IsRefusedAcross (neighbours ps)

    -- true: x joins the first piece; false: x is a piece of its own
    abbrev pub put_before : Bool → A → List (List A) → List (List A)
    put_before true x [] = (x ∷ []) ∷ []
    put_before true x (g ∷ gs) = (x ∷ g) ∷ gs
    put_before false x gs = (x ∷ []) ∷ gs

    -- the split, computed: each element comes before the pieces of those after it
    abbrev pub split : List A → List (List A)
    split [] = []
    split (x ∷ []) = (x ∷ []) ∷ []
    split (x ∷ y ∷ ys) = put_before (p x y) x (split (y ∷ ys))

    -- how many neighbouring pairs are refused
    abbrev pub refused_pairs : List A → ℕ
    refused_pairs xs = count_by (λ q. not (on_pairs p q)) (neighbours xs)

    -- o is the piece at the end of the split of xs, or nothing where there is none, and ys is split into the others
    abbrev pub TakesPiece : End → List A → Option (List A) → List A → Type 0
    TakesPiece e xs o ys = (o ≡ item_at e (split xs)) × (split ys ≡ without e (split xs))

module _ {A : Type 0} where
  -- any two different places agree, in either order, exactly if each neighbouring pair between them is accepted
  pub record IsGrouped (p : A → A → Bool) (xs : List A) : Type 0 where
    pub at : (i j : ℕ) (x y : A) → i < j → slice_get xs i ≡ Some x → slice_get xs j ≡ Some y
        → ((p x y ≡ true) ↔ IsAccepted p (slice_range xs i (j + 1))) × ((p y x ≡ true) ↔ IsAccepted p (slice_range xs i (j + 1)))
