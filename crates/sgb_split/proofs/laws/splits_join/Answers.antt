use Rattle.sgb_split.proofs.Splits.Joined.{split_joins, last_stays_open, joined_count}
use Rattle.sgb_split.proofs.Splits.Lens.{lens_of_both}
use Rattle.sgb_split.proofs.laws.splits_join.Goals as goal

pub returns-clause-seam : goal.returns-clause-seam
returns-clause-seam g c p xs ys = split_joins p xs ys

pub returns-clause-kept : goal.returns-clause-kept
returns-clause-kept g c p xs ys group e = last_stays_open p xs ys group e

pub returns-clause-count : goal.returns-clause-count
returns-clause-count g c p xs ys = joined_count p xs ys

pub returns-clause-lens : goal.returns-clause-lens
returns-clause-lens g c p xs ys = lens_of_both p xs ys
