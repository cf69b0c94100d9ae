use Rattle.std.proofs.Common.{ℕ, ap}
use Rattle.std.proofs.lemmas.Result.{IfOk-weaker}
use Rattle.slice_group_by.specs.Calls.{Place}
use Rattle.slice_group_by.specs.End.TheVariants.{Front}
use Rattle.example_walks.proofs.tokens.words.Goals as goal

pub returns : goal.returns
returns c =
    let words = c.with_offsets-words in
    let input = ap (λ (p : Place ℕ). p.input) c.new.ensures.place in
    IfOk-weaker c.collect.result _ _ (λ vec h.
    rw (← h.2.0, words.ensures, input) at (c.texts_stand.ensures Front words.result h.1.0 h.0
    (rw (words.ensures, input) c.utf8.text) h.1.1)) c.collect.ensures.ran
