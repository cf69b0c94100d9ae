use Rattle.std.proofs.Common.{◌-◌, ◌<◌}
use Rattle.sgb_search.proofs.Searches.Galloping.{Doubles}
use Rattle.sgb_search.proofs.gallop.bracket.Given as goal

abbrev pub invariant-loop-from : goal.invariant-loop-from
invariant-loop-from g l = record {
  after : l.low < l.next;
  below : l.next < l.high;
  doubles : Doubles (λ s i. g.P.Places.may_compare s l.places i) (λ s i a t. g.P.Places.compares s l.places i a t)
      (λ a. g.P.Places.reads l.places a)
      l.low l.high l.fn.asker l.from l.next l.asker;
}

abbrev pub decreases-loop-from : goal.decreases-loop-from
decreases-loop-from g l = l.high - l.next
