use Rattle.std.proofs.Common.{◌≡◌, ◌+◌, ◌-◌, ◌^◌, ℕ, None, min, arith, sym, ap, ◌∙◌}
use Rattle.slice_group_simd.specs.Counted.{class_after, class_count}
use Rattle.slice_group_simd.proofs.class_counter.ClassCounter.push.Goals as goal

-- what is cut off may be cut off once more
min_again : (x y m : ℕ) → min (min x m + y) m ≡ min (x + y) m
min_again x y m = omega arith

pub returns : goal.returns
returns c bytes h =
    let block = c.args.block.now in
    record {
      counts = λ k.
          c.saturating_add-self.ensures k
          ∙ (λ i. min (h.counts k i + (c.count_classes.ensures k ∙ ap (λ l. class_count k l block) h.last) i) (2 ^ 64 - 1))
          ∙ min_again (class_count k None bytes) (class_count k (class_after None bytes) block) (2 ^ 64 - 1)
          ∙ ap (λ n. min n (2 ^ 64 - 1)) (sym (c.class_counts_add_up.ensures.parts k None bytes block));
      last = c.class_after-self.ensures ∙ ap (λ l. class_after l block) h.last ∙ sym (c.class_counts_add_up.ensures.after None bytes block);
    }
