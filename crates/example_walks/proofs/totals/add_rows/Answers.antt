use Rattle.std.proofs.Common.{◌≡◌, ◌≢◌, ℕ, List, [], ◌∷◌, ◌++◌, nat_eq, refl, ap, ◌∙◌, arith, rules}
use Rattle.std.proofs.lemmas.List.Sums.{sum_by-append}
use Rattle.std.proofs.lemmas.Fn.{always_returns_same}
use Rattle.example_walks.specs.Totals.{amount, key, larger_total, same_key, total_of}
use Rattle.example_walks.proofs.totals.add_rows.Goals as goal

adds : (g part : List (ℕ × ℕ)) → g ≢ [] → part ≢ [] → larger_total (total_of g) part ≡ total_of (g ++ part)
adds [] part some more = absurd (some refl)
adds (x ∷ xs) part some more = ap (λ (n : ℕ). (key x, n)) (omega (arith, sum_by-append amount (x ∷ xs) part))

pub returns : goal.returns
returns c came kept e =
    let parts = c.parts_by_key-parts in
    let yielded = rw c.into_iter-begins-iterator.ensures.into_iter_gives at c.loop-begins.yielded_by in
    let computes = always_returns_same _ _ _ (λ a r f' k. search rules) in
    let begins = rw kept at (parts.ensures.begins key computes) ∙ c.parts_begin_by_keys.ensures.begins key nat_eq came c.args.block.now in (
      rw kept at (parts.ensures.kept key computes) ∙ c.parts_begin_by_keys.ensures.kept key came c.args.block.now,
      c.loop-begins.invariant
          ∙ c.parts_fold.ensures.map total_of larger_total adds same_key came c.args.block.now _ parts.result _ e
          (parts.ensures.computes key computes) parts.ensures.remainder begins (_, (_, yielded, c.in-None.ensures.steps)),
    )
