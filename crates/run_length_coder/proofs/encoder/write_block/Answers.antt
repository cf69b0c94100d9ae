use Rattle.std.proofs.Common.{◌≡◌, ◌≢◌, ℕ, suc, false, List, [], ◌∷◌, ◌++◌, Some, length, map, nat_eq, refl, sym, ap, ◌∙◌, arith}
use Rattle.std.specs.Prelude.{slice_index}
use Rattle.std.proofs.lemmas.Bool.Decides.{nat_tests}
use Rattle.std.proofs.lemmas.List.{length-append}
use Rattle.std.proofs.lemmas.List.Sums.{fold-append}
use Rattle.slice_group_stream.specs.Split.{split}
use Rattle.run_length_coder.specs.Coding.{longer_run, run_if, run_of}
use Rattle.run_length_coder.proofs.CodedRuns.{Written-all, Written-begins, Written-goes_on, Written-same}
use Rattle.run_length_coder.proofs.encoder.write_block.Goals as goal

adds : (g part : List ℕ) → g ≢ [] → part ≢ [] → longer_run (run_of g) part ≡ run_of (g ++ part)
adds [] part some more = absurd (some refl)
adds (x ∷ xs) part some more = ap (λ (n : ℕ). (x, n)) (omega (arith, length-append (x ∷ xs) part))

not_zero : (n : ℕ) → nat_eq (suc n) 0 ≡ false
not_zero n = grind (arith, nat_tests)

begun : (part : List ℕ) → part ≢ [] → run_if (slice_index part 0) (length part) ≡ Some (run_of part)
begun [] some = absurd (some refl)
begun (x ∷ xs) some = rw (not_zero (length xs)) refl

pub loop-begins-preserved-then-begins : goal.loop-begins-preserved-then-begins
loop-begins-preserved-then-begins g c start runs w =
    let so_far = c.loop-begins.invariant start runs w in
    let some = c.parts_join.ensures.nonempty _ _ (c.in-Some.begins, c.in-Some.part) c.in-Some.ensures.steps in
    Written-same _ _ _ _ _ _ (sym (fold-append _ runs c.loop-begins.yielded _))
    (rw c.if-begins.true
    (Written-begins _ _ _ c.in-Some.part.now _ _ (Written-all _ _ _ _ _ _ so_far c.in_ok-write_run.ensures)
    (begun c.in-Some.part.now some)))

pub loop-begins-preserved : goal.loop-begins-preserved
loop-begins-preserved g c start runs w =
    Written-same _ _ _ _ _ _ (sym (fold-append _ runs c.loop-begins.yielded _))
    (rw c.if-begins.false
    (Written-goes_on _ _ _ _ _ _ (λ run. longer_run run c.in-Some.part.now) (c.loop-begins.invariant start runs w)
    (c.in_ok-count.ensures c.loop-begins.byte)))

pub returns : goal.returns
returns g c start came kept w =
    let parts = c.number_parts-parts in
    let runs = map run_of (split nat_eq came) in
    let yielded = rw c.into_iter-begins-iterator.ensures.into_iter_gives at c.loop-begins.yielded_by in
    let folded =
    c.parts_fold.ensures.map run_of longer_run adds nat_eq came c.args.block.now runs parts.result _ refl parts.ensures.computes
    parts.ensures.remainder (rw kept at parts.ensures.begins) (_, (_, yielded, c.in-None.ensures.steps)) in (
      rw kept at parts.ensures.kept ∙ sym (c.parts_join.ensures.kept came c.args.block.now),
      Written-same _ _ _ _ _ _ folded (c.loop-begins.invariant start runs w),
    )
