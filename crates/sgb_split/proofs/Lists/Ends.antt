-- A list as it reads from an end, and a part at an end with the rest.
use Rattle.std.proofs.Common.{◌≡◌, ◌+◌, ◌<◌, List, length, length-append, refl, ap, arith}
use Rattle.std.specs.Prelude.{reverse, IsPermutation}
use Rattle.std.specs.List.{AllByRecursion}
use Rattle.std.proofs.lemmas.List.{length-reverse, reverse-reverse}
use Rattle.std.proofs.lemmas.List.Sorted.{IsPermutation-refl, IsPermutation-sym, IsPermutation-reverse}
use Rattle.sgb_split.specs.declared.end.End.{End}
use Rattle.sgb_split.specs.declared.end.End.TheVariants.{Front, Back}
use Rattle.sgb_split.specs.Split.{from, put_at}
use Rattle.sgb_split.proofs.Lists.AllByRecursion.{all_reverse, all_of_reverse}

module _ {X : Type 0} where
  pub length-from : (e : End) (xs : List X) → length (from e xs) ≡ length xs
  length-from Front xs = refl
  length-from Back xs = length-reverse xs

  pub length-put_at : (e : End) (part rest : List X) → length (put_at e part rest) ≡ length part + length rest
  length-put_at Front part rest = length-append part rest
  length-put_at Back part rest = omega (arith, length-append rest part)

  pub less_remains : (e : End) (part rest xs : List X) → 0 < length part → xs ≡ put_at e part rest → length rest < length xs
  less_remains e part rest xs some is = omega (arith, some, ap length is, length-put_at e part rest)

  pub all_from : (P : X → Type 0) (e : End) (xs : List X) → AllByRecursion P xs → AllByRecursion P (from e xs)
  all_from P Front xs h = h
  all_from P Back xs h = all_reverse P xs h

  pub all_of_from : (P : X → Type 0) (e : End) (xs : List X) → AllByRecursion P (from e xs) → AllByRecursion P xs
  all_of_from P Front xs h = h
  all_of_from P Back xs h = all_of_reverse P xs h

  pub from_permutes : (e : End) (xs : List X) → IsPermutation (from e xs) xs
  from_permutes Front xs = IsPermutation-refl xs
  from_permutes Back xs = IsPermutation-sym xs (reverse xs) (IsPermutation-reverse xs)

  pub from-from : (e : End) (xs : List X) → from e (from e xs) ≡ xs
  from-from Front xs = refl
  from-from Back xs = reverse-reverse xs
