use Rattle.std.proofs.Common.{nat_eq, refl}
use Rattle.example_counts.proofs.GroupLens.{lens_at}
use Rattle.example_counts.proofs.parts.+lens_by_halves.Goals as goal

pub returns : goal.returns
returns t c =
    let halves = c.split_at.ensures in
    let left = c.split_at.result.0.now in
    let right = c.split_at.result.1.now in
    let joined = lens_at c.args.slice.now left right _ c.are_equal.result halves.front halves.back
    (c.splits_join.ensures.lens nat_eq left right) (rw (c.are_equal.ensures, c.last.ensures.value, c.first.ensures.value) refl) in
    rw (c.in_ok-join_lens.ensures, c.in_ok-lens.ensures, c.deref.ensures.value, c.in_ok-others.ensures) joined
