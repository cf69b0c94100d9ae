use Rattle.std.proofs.Common.{◌≡◌, ◌≤◌, ◌+◌, ◌-◌, ℕ, take, length, get_or, sym, ap, ap₂, ◌∙◌, arith, rules, Some}
use Rattle.std.proofs.Math.Seq.{take-length}
use Rattle.std.proofs.lemmas.List.{length-take-le}
use Rattle.slice_group_simd.specs.AsciiBytes.{ascii_class}
use Rattle.slice_group_simd.specs.declared.ascii_classes.AsciiClass.{AsciiClass}
use Rattle.slice_group_simd.specs.Counted.{count_of}
use Rattle.slice_group_simd.specs.Starts.{begins, starts}
use Rattle.slice_group_simd.proofs.Beginnings.{starts_few, starts_more, starts_one_more, count_is_starts}
use Rattle.slice_group_simd.proofs.class_counts.count_classes.Goals as goal

pub with_block-counts-requires-clause-few : goal.with_block-counts-requires-clause-few
with_block-counts-requires-clause-few c k =
    let l = c.loop-at in
    let xs = c.args.bytes.now in
    omega (arith, l.invariant.counts k, starts_few k c.args.before (take l.at xs), length-take-le l.at xs l.invariant.within)

pub loop-at-preserved : goal.loop-at-preserved
loop-at-preserved c =
    let l = c.loop-at in
    let xs = c.args.bytes.now in
    record {
      some = omega arith;
      within = omega (arith, l.invariant.within, c.loop-at-test.true);
      counts =
          λ k.
          omega (
            arith,
            c.with_block-counts.ensures k,
            l.invariant.counts k,
            starts_more k c.args.before xs l.at 64 l.invariant.some l.invariant.within,
          );
    }

pub with_byte-counts-requires-in-loop-at-2 : goal.with_byte-counts-requires-in-loop-at-2
with_byte-counts-requires-in-loop-at-2 c k =
    let l = c.loop-at-2 in
    let xs = c.args.bytes.now in
    let few : count_of k l.counts ≤ l.at =
    omega (arith, l.invariant.counts k, starts_few k c.args.before (take l.at xs), length-take-le l.at xs l.invariant.within) in
    search rules

pub loop-at-2-preserved : goal.loop-at-2-preserved
loop-at-2-preserved c =
    let l = c.loop-at-2 in
    let xs = c.args.bytes.now in
    let added = λ (k : AsciiClass). c.with_byte-counts-in-loop-at-2.ensures k
    ∙ ap₂ (λ p b. count_of k l.counts + begins k (Some p) b) c.class-last.ensures c.class-in-loop-at-2.ensures in
    record {
      some = omega arith;
      within = omega (arith, c.loop-at-2-test.true);
      counts =
          λ k.
          added k
          ∙ ap (λ (n : ℕ). n + begins k (Some (ascii_class (get_or xs (l.at - 1) 0))) (ascii_class (get_or xs l.at 0)))
          (l.invariant.counts k)
          ∙ sym (starts_one_more k c.args.before xs l.at l.invariant.some c.loop-at-2-test.true);
    }

pub returns : goal.returns
returns c class =
    let l = c.loop-at-2 in
    let xs = c.args.bytes.now in
    let all : l.at ≡ length xs = omega (arith, l.invariant.within, c.loop-at-2-test.false) in
    let whole = ap (λ (i : ℕ). starts class c.args.before (take i xs)) all ∙ ap (starts class c.args.before) (take-length xs) in
    omega (arith, l.invariant.counts class, whole, count_is_starts class c.args.before xs)
