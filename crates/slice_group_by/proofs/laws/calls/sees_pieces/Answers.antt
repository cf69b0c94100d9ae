use Rattle.std.proofs.Common.{◌≡◌, List, [], ◌∷◌, ◌++◌, reverse, sym, ap, ◌∙◌, append_assoc, length}
use Rattle.std.proofs.lemmas.List.{length-map, reverse-append, reverse-reverse}
use Rattle.std.specs.Iterator.Adapters.{rev_source}
use Rattle.sgb_split.specs.Split.{put_at}
use Rattle.sgb_split.specs.declared.end.End.{End}
use Rattle.sgb_split.specs.declared.end.End.TheVariants.{Front, Back}
use Rattle.slice_group_by.specs.Queue.{pushed_at}
use Rattle.slice_group_by.proofs.Queues.Chains.{piece_and_others}
use Rattle.sgb_split.proofs.Lists.Ends.{from-from, length-from}
use Rattle.slice_group_by.proofs.Queues.Yields.{yields_pieces, yields_settled, turn_piece, drains_settled, yields_more, rev_always}
use Rattle.slice_group_by.proofs.laws.calls.sees_pieces.Goals as goal

pub returns-clause-pieces : goal.returns-clause-pieces
returns-clause-pieces g c p e q h = record { runs = yields_pieces _ _ _ _ p g.met.Q.GroupQueue.piece e q _ h (sym (from-from e _)) }

pub returns-clause-rev : goal.returns-clause-rev
returns-clause-rev g c p q h = record {
  runs = rev_always (g.Q.GroupQueue.gives Back) g.Q.GroupQueue.shows q _
      (yields_pieces _ _ _ _ p g.met.Q.GroupQueue.piece Back (rev_source q) _ h (sym (reverse-reverse _)));
}

pub returns-clause-part : goal.returns-clause-part
returns-clause-part g c p e q t groups h y = (yields_settled _ _ _ _ p g.met.Q.GroupQueue.piece e q t groups h y).1

pub returns-clause-whole : goal.returns-clause-whole
returns-clause-whole g c p e q groups h d = drains_settled _ _ _ _ p g.met.Q.GroupQueue.piece e q groups h d

pub returns-clause-count : goal.returns-clause-count
returns-clause-count g c p e q groups h d =
    sym (length-map groups _) ∙ ap length (drains_settled _ _ _ _ p g.met.Q.GroupQueue.piece e q groups h d) ∙ length-from e _

pub returns-clause-more : goal.returns-clause-more
returns-clause-more g c e = yields_more (g.Q.GroupQueue.gives e)

pub returns-clause-settled : goal.returns-clause-settled
returns-clause-settled g c p e q t groups h y = (yields_settled _ _ _ _ p g.met.Q.GroupQueue.piece e q t groups h y).0

pub returns-clause-turn : goal.returns-clause-turn
returns-clause-turn g c p e q s t groups group = turn_piece _ _ _ _ p g.met.Q.GroupQueue.piece e q s t groups group

ends_stay : {X : Type 0} (e : End) (fronts backs xs ys : List X) (x : X) → xs ≡ put_at e (x ∷ []) ys
    → pushed_at Front e fronts x ++ (ys ++ reverse (pushed_at Back e backs x)) ≡ fronts ++ (xs ++ reverse backs)
ends_stay Front fronts backs xs ys x h =
    append_assoc fronts (x ∷ []) (ys ++ reverse backs) ∙ ap (λ l. fronts ++ (l ++ reverse backs)) (sym h)
ends_stay Back fronts backs xs ys x h =
    ap (λ l. fronts ++ l) (ap (λ r. ys ++ r) (reverse-append backs (x ∷ [])) ∙ sym (append_assoc ys (x ∷ []) (reverse backs))
    ∙ ap (λ l. l ++ reverse backs) (sym h))

pub returns-clause-ends : goal.returns-clause-ends
returns-clause-ends g c p e q t group fronts backs h settled =
    ends_stay e fronts backs _ _ _ (piece_and_others e p _ _ _ (g.met.Q.GroupQueue.piece e q _ t p h settled).0)
