-- How many groups a chain of calls gives.
use Rattle.std.proofs.Common.{◌≡◌, ℕ, ◌+◌, ◌-◌, ◌<◌, ◌≤◌, cond, List, [], ◌∷◌, ◌++◌, length, Option, None, Some, sym, ap, ◌∙◌, arith}
use Rattle.std.specs.Prelude.{◌≢◌, option_map, count_by, is_some}
use Rattle.std.proofs.lemmas.List.Sums.{sum_by-cons}
use Rattle.sgb_split.specs.declared.end.End.{End}
use Rattle.sgb_split.specs.Split.{TakesPart}
use Rattle.sgb_split.proofs.Lists.Ends.{length-put_at}
use Rattle.slice_group_by.specs.Walk.{IsChain}

some_length : {A : Type 0} (xs : List A) → xs ≢ [] → 0 < length xs
some_length [] n = absurd (n (Rattle.std.proofs.Common.refl))
some_length (x ∷ xs) n = omega arith

-- a group is at least one element fewer
pub part_length : {A : Type 0} (e : End) (xs group ys : List A) → TakesPart e xs (Some group) ys → 1 + length ys ≤ length xs
part_length e xs group ys h = omega (arith, ap length h.1 ∙ length-put_at e group ys, some_length group h.0)

count-cons : {I : Type 0} (o : Option I) (os : List (Option I)) → count_by is_some (o ∷ os) ≡ cond (is_some o) 1 0 + count_by is_some os
count-cons o os = sum_by-cons (λ o. cond (is_some o) 1 0) o os

module _ {Q I A : Type 0} (gives : End → Q → Option I → Q → Type 0) (remainder : Q → List A) (shows : I → List A)
    (part : (e : End) (q : Q) (o : Option I) (t : Q) → gives e q o t → TakesPart e (remainder q) (option_map shows o) (remainder t)) where
  pub at_most_length : (q t : Q) (es : List End) (os : List (Option I)) → IsChain gives q es os t
      → count_by is_some os + length (remainder t) ≤ length (remainder q)
  at_most_length q t [] [] c = omega (arith, ap (λ x. length (remainder x)) c)
  at_most_length q t [] (o ∷ os) c = absurd c
  at_most_length q t (e ∷ es) [] c = absurd c
  at_most_length q t (e ∷ es) (None ∷ os) c =
      omega (arith, count-cons None os, ap length (part e q None c.0 c.1).1, at_most_length c.0 t es os c.2)
  at_most_length q t (e ∷ es) (Some x ∷ os) c =
      omega (
        arith,
        count-cons (Some x) os,
        part_length e (remainder q) (shows x) (remainder c.0) (part e q (Some x) c.0 c.1),
        at_most_length c.0 t es os c.2,
      )

  pub at_least_one : (q t : Q) (es : List End) (os : List (Option I)) → IsChain gives q es os t → remainder q ≢ [] → remainder t ≡ []
      → 0 < count_by is_some os
  at_least_one q t [] [] c n z = absurd (n (sym (ap remainder c) ∙ z))
  at_least_one q t [] (o ∷ os) c n z = absurd c
  at_least_one q t (e ∷ es) [] c n z = absurd c
  at_least_one q t (e ∷ es) (None ∷ os) c n z = absurd (n (part e q None c.0 c.1).0)
  at_least_one q t (e ∷ es) (Some x ∷ os) c n z = omega (arith, count-cons (Some x) os)

  pub at_most_calls : (q t : Q) (es : List End) (os : List (Option I)) → IsChain gives q es os t
      → length (remainder t) ≤ length (remainder q) - length es
  at_most_calls q t [] [] c = omega (arith, ap (λ x. length (remainder x)) c)
  at_most_calls q t [] (o ∷ os) c = absurd c
  at_most_calls q t (e ∷ es) [] c = absurd c
  at_most_calls q t (e ∷ es) (None ∷ os) c =
      omega (arith, at_most_calls c.0 t es os c.2, ap length (part e q None c.0 c.1).1)
  at_most_calls q t (e ∷ es) (Some x ∷ os) c =
      omega (arith, at_most_calls c.0 t es os c.2, part_length e (remainder q) (shows x) (remainder c.0) (part e q (Some x) c.0 c.1))
