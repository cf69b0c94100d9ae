use Rattle.std.proofs.Common.{ap, map, ◌++◌, ◌∙◌}
use Rattle.sgb_split.specs.Split.{concat, split}
use Rattle.sgb_loans.specs.Loans.{before_with, after_with}
use Rattle.slice_group_by.proofs.Pieces.WrittenPieces.{noted_pieces}
use Rattle.slice_group_by.proofs.Queues.Chains.{piece_and_others}
use Rattle.slice_group_by.proofs.laws.writing.notes_keep_pieces.Goals as goal

pub returns : goal.returns
returns g c p f e s t u group value whole given settled same before after is done =
    let out = g.met.S.Lends.hands_out e s group t given in
    (λ i. (before ∙ ap (λ l. before_with e l value) out.before) i
    ++ (concat (map f (split p (same i))) ++ (after ∙ ap (after_with e value) out.after) i))
    ∙ noted_pieces f e _ _ _ _ _ value whole (piece_and_others e p _ _ _ (g.met.S.GroupQueue.piece e s _ t p given settled).0) is done
