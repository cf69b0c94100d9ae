-- A two-ended queue: what a list of calls answers, and what it leaves, as of Rust's double-ended and fused iterators.
use Rattle.std.specs.Prelude.{List, [], ◌∷◌, ◌++◌, Option}
use Rattle.sgb_split.specs.Split.{item_at, without}
use Rattle.sgb_split.specs.declared.end.End.{End}
use Rattle.sgb_split.specs.declared.end.End.TheVariants.{Front, Back}

module _ {X : Type 0} where
  -- what the calls at the ends answer, one after another
  abbrev pub pops : List X → List End → List (Option X)
  pops xs [] = []
  pops xs (e ∷ es) = item_at e xs ∷ pops (without e xs) es

  -- x behind the others, if the two ends are one
  abbrev pub pushed_at : End → End → List X → X → List X
  pushed_at Front Front xs x = xs ++ x ∷ []
  pushed_at Back Back xs x = xs ++ x ∷ []
  pushed_at d e xs x = xs

  -- the items that they leave
  abbrev pub after_pops : List X → List End → List X
  after_pops xs [] = xs
  after_pops xs (e ∷ es) = after_pops (without e xs) es
