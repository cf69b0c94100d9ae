use Rattle.std.specs.Prelude.{◌↔◌, ◌⊎◌, ℕ}
use Rattle.std.proofs.Common.{inl, inr}
use Rattle.std.specs.List.{Contains}
use Rattle.std.proofs.lemmas.Result.{IfOk-weaker}
use Rattle.example_joins.proofs.sets.union_of_three.Goals as goal

-- what is in one of two, of which the first has what is in one of two others, is in one of three
module _ {P Q R S : Type 0} (two : S ↔ (P ⊎ Q)) where
  one_of_three : S ⊎ R → P ⊎ Q ⊎ R
  one_of_three (inl s) = by (two.0 s)
    where
      by : P ⊎ Q → P ⊎ Q ⊎ R
      by (inl p) = inl p
      by (inr q) = inr (inl q)
  one_of_three (inr r) = inr (inr r)

  of_three : P ⊎ Q ⊎ R → S ⊎ R
  of_three (inl p) = inl (two.1 (inl p))
  of_three (inr (inl q)) = inl (two.1 (inr q))
  of_three (inr (inr r)) = inr r

pub returns-clause-all : goal.returns-clause-all
returns-clause-all c =
    let two : (x : ℕ) → Contains c.deref.result.now x ↔ (Contains c.args.first.now x ⊎ Contains c.args.second.now x)
    = rw c.deref.ensures.value c.in_ok-two.ensures.all in
    IfOk-weaker c.union-2.result _ _
    (λ v all x. (λ at. one_of_three (two x) ((all x).0 at), λ at. (all x).1 (of_three (two x) at))) c.union-2.ensures.all
