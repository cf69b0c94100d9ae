use Rattle.std.proofs.Common.{ℕ, ◌+◌, ◌-◌, ◌≡◌, get_or, map, false, not, sym, ap, ap₂, ◌∙◌, arith}
use Rattle.std.specs.Ordering.{on}
use Rattle.std.specs.Simd.Lanes.{mask_l, chunk}
use Rattle.std.proofs.lemmas.List.{length-map, get_or-map}
use Rattle.slice_group_simd.proofs.Joined.{few}
use Rattle.slice_group_simd.proofs.OneByOne.{more, map-chunk}
use Rattle.slice_group_simd.proofs.byte_classes.ByteClasses.unlike.Goals as goal

pub pushed-mask-requires : goal.pushed-mask-requires
pushed-mask-requires g c = omega (arith, few)

pub loop-k-preserved : goal.loop-k-preserved
loop-k-preserved g c =
    let xs = c.args.slice.now in
    let l = c.loop-k in
    let p = c.args.at + (l.k - 1) in
    let test = λ (y : ℕ). not (on g.Self.ByteClasses.class_of g.Self.Class.PartialEq.eq y c.args.byte) in
    let read : c.ne.result ≡ test (get_or xs p 0) =
    c.ne.ensures ∙ ap₂ (λ a b. not (g.Self.Class.PartialEq.eq a b)) c.class.ensures c.class-class.ensures in
    record {
      most = omega (arith, l.invariant.most);
      mask = c.pushed-mask.ensures ∙ more (map test xs) c.args.at l.k l.mask c.loop-k-test.true l.invariant.most
          (omega (arith, length-map xs test, c.requires)) l.invariant.mask c.ne.result
          (read ∙ sym (get_or-map test xs p 0 false (omega (arith, c.loop-k-test.true, l.invariant.most, c.requires))));
    }

pub returns : goal.returns
returns g c =
    let test = λ (y : ℕ). not (on g.Self.ByteClasses.class_of g.Self.Class.PartialEq.eq y c.args.byte) in
    let xs = c.args.slice.now in
    let l = c.loop-k in
    let none : l.k ≡ 0 = omega (arith, c.loop-k-test.false) in
    l.invariant.mask ∙ ap (λ (i : ℕ). mask_l (chunk (c.args.at + i) (16 - i) (map test xs))) none
    ∙ ap (λ (i : ℕ). mask_l (chunk i 16 (map test xs))) {x = c.args.at + 0} {y = c.args.at} (omega arith)
    ∙ ap mask_l (map-chunk test c.args.at 16 xs)
