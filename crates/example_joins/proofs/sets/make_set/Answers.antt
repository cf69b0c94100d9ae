use Rattle.std.proofs.Common.{arith, nat_eq, subst, sym}
use Rattle.std.specs.List.Sorted.{IsStrictlySortedBy}
use Rattle.std.specs.Ordering.{nat_cmp}
use Rattle.std.proofs.lemmas.Bool.Decides.{nat_tests}
use Rattle.std.proofs.lemmas.Cmp.{nat_cmp_total}
use Rattle.std.proofs.lemmas.List.Filters.{dedup_is}
use Rattle.std.proofs.lemmas.List.Kept.{IsStrictlySortedBy-dedup}
use Rattle.example_joins.proofs.sets.make_set.Goals as goal

pub returns : goal.returns
returns c =
    let once = dedup_is nat_eq _ _ c.dedup.ensures.filtered in record {
      ascends = c.sets_ascend.ensures.sorted _ (subst (IsStrictlySortedBy nat_cmp) (sym once)
          (IsStrictlySortedBy-dedup nat_cmp_total (λ x y. grind (arith, nat_tests)) _ c.sort_unstable.ensures.sorted));
      same = (_, c.sort_unstable.ensures.permutation, once);
    }
