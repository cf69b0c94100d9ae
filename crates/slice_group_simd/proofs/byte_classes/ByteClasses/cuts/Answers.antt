use Rattle.std.proofs.Common.{◌+◌, ◌-◌, ◌≡◌, get_or, not, sym, ap, ap₂, ◌∙◌, arith}
use Rattle.std.specs.Ordering.{on}
use Rattle.sgb_numbers.specs.Numbers.{boundaries, differs}
use Rattle.sgb_numbers.proofs.Pairs.{length-boundaries, differs_or}
use Rattle.slice_group_simd.proofs.Joined.{few}
use Rattle.slice_group_simd.proofs.OneByOne.{more}
use Rattle.slice_group_simd.proofs.byte_classes.ByteClasses.cuts.Goals as goal

pub pushed-mask-requires : goal.pushed-mask-requires
pushed-mask-requires g c = omega (arith, few)

pub loop-k-preserved : goal.loop-k-preserved
unfolding differs
loop-k-preserved g c =
    let same = on g.Self.ByteClasses.class_of g.Self.Class.PartialEq.eq in
    let xs = c.args.slice.now in
    let l = c.loop-k in
    let p = c.args.at + (l.k - 1) in
    let next : c.args.at + l.k ≡ p + 1 = omega (arith, c.loop-k-test.true) in
    let read : c.ne.result ≡ not (same (get_or xs p 0) (get_or xs (p + 1) 0)) =
    c.ne.ensures ∙ ap₂ (λ a b. not (g.Self.Class.PartialEq.eq a b)) c.class-class.ensures
    (l.invariant.next ∙ ap (λ i. g.Self.ByteClasses.class_of (get_or xs i 0)) next) in
    record {
      most = omega (arith, l.invariant.most);
      next = c.class-class.ensures;
      mask = c.pushed-mask.ensures ∙ more (boundaries same xs) c.args.at l.k l.mask c.loop-k-test.true l.invariant.most
          (omega (arith, length-boundaries same xs, c.requires)) l.invariant.mask c.ne.result
          (read ∙ sym (differs_or same xs p 0 (omega (arith, c.loop-k-test.true, l.invariant.most, c.requires))));
    }
