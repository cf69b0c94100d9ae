use Rattle.std.specs.Prelude.{◌≡◌, ◌+◌, ◌<◌, ◌⊎◌}
use Rattle.sgb_search.proofs.Searches.Halving.{Narrows}
use Rattle.sgb_search.proofs.gallop.bisect.Given as goal

abbrev pub invariant-loop-size : goal.invariant-loop-size
invariant-loop-size g l =
    ((l.initial.from ≡ l.last) ⊎ ((l.initial.from ≡ l.last + 1) × (l.low < l.last)))
    × Narrows (λ s i. g.P.Places.may_compare s l.places i) (λ s i a t. g.P.Places.compares s l.places i a t)
    (λ a. g.P.Places.reads l.places a)
    l.initial.from l.upto l.initial.asker l.from (l.from + l.size) l.size l.asker

abbrev pub decreases-loop-size : goal.decreases-loop-size
decreases-loop-size g l = l.size
