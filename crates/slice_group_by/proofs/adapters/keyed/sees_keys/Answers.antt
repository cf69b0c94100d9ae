use Rattle.slice_group_by.proofs.Queues.Keyed.{yields_keys}
use Rattle.slice_group_by.proofs.adapters.keyed.sees_keys.Goals as goal

pub returns : goal.returns
returns g c key e s h = record {
  runs = yields_keys g.Q.GroupQueue.gives _ _ g.Q.Keyed.calls_key g.Q.Keyed.is_keyed g.Q.Keyed.same_key g.met.Q.Keyed.pop_keyed
      g.met.Q.Keyed.call_keyed (λ q group k t h. (g.met.Q.Keyed.call_leaves q group k t h).1) key e s h;
}
