use Rattle.slice_group_stream.proofs.Ends.{first_at, last_at}
use Rattle.slice_group_stream.proofs.asking.ends.Goals as goal

pub returns : goal.returns
returns g c = (
  first_at _ _ c.in_ok-first.ensures.item.3.0 c.in_ok-first.ensures.item.1,
  last_at _ _ c.in_ok-first.ensures.item.3.0 c.in_ok-last.ensures.item.1,
)
