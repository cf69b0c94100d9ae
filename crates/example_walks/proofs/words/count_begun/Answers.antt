use Rattle.std.proofs.Common.{◌≡◌, ◌≢◌, ℕ, List, [], ◌∷◌, ◌++◌, refl, sym, ◌∙◌, arith, rules}
use Rattle.std.proofs.lemmas.Fn.{always_returns_same}
use Rattle.example_walks.specs.Words.{are_letters, is_word}
use Rattle.example_walks.proofs.words.count_begun.Goals as goal

stays : (group part : List ℕ) → group ≢ [] → is_word (group ++ part) ≡ is_word group
stays [] part some = absurd (some refl)
stays (x ∷ xs) part some = refl

pub returns : goal.returns
returns c came kept =
    let parts = c.parts_by-parts in
    let yielded = rw c.into_iter-begins-iterator.ensures.into_iter_gives at c.loop-begins.yielded_by in
    let computes = always_returns_same _ _ _ (λ a r f' k. search rules) in
    let counted =
    c.parts_join.ensures.count is_word stays are_letters came c.args.block.now parts.result _ (parts.ensures.computes are_letters computes)
    parts.ensures.remainder (rw kept at (parts.ensures.begins are_letters computes)) (_, (_, yielded, c.in-None.ensures.steps)) in (
      rw kept at parts.ensures.kept ∙ sym (c.parts_join.ensures.kept came c.args.block.now),
      omega (arith, counted, c.loop-begins.invariant),
    )
