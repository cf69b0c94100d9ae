use Rattle.slice_group_by.proofs.Queues.Dedup.{yields_counted}
use Rattle.slice_group_by.proofs.adapters.dedup.sees_counts.Goals as goal

pub returns : goal.returns
returns g c p e s h = record {
  runs = yields_counted g.Q.GroupQueue.gives g.Q.GroupQueue.remainder g.Q.GroupQueue.shows
      (g.met.Q.SliceQueue c.lifetimes (search c)).shows_now
      g.Q.GroupQueue.is_settled p (g.met.Q.GroupQueue c.lifetimes (search c)).piece e s h;
}
