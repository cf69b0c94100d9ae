use Rattle.std.proofs.Common.{[], ◌++◌, take, drop, sym, ap, subst, ◌∙◌, append-nil, take-append-drop}
use Rattle.sgb_split.specs.Split.{IsGrouped}
use Rattle.sgb_split.proofs.Splits.Grouped.{grouped_part}
use Rattle.sgb_split.proofs.Splits.Split.{split_is, split_only, split_few, length-split}
use Rattle.sgb_split.proofs.laws.one_split.Goals as goal

pub returns-clause-covers : goal.returns-clause-covers
returns-clause-covers g c p xs = (split_is p xs).covers

pub returns-clause-exists : goal.returns-clause-exists
returns-clause-exists g c = split_is

pub returns-clause-unique : goal.returns-clause-unique
returns-clause-unique g c = split_only

pub returns-clause-count : goal.returns-clause-count
returns-clause-count g c = length-split

pub returns-clause-few : goal.returns-clause-few
returns-clause-few g c = split_few

pub returns-clause-front : goal.returns-clause-front
returns-clause-front g c p n xs h = grouped_part p [] (take n xs) (drop n xs) (subst (IsGrouped p) (sym (take-append-drop n xs)) h)

pub returns-clause-rest : goal.returns-clause-rest
returns-clause-rest g c p n xs h =
    grouped_part p (take n xs) (drop n xs) []
    (subst (IsGrouped p) (sym (ap (λ l. take n xs ++ l) (append-nil (drop n xs)) ∙ take-append-drop n xs)) h)
