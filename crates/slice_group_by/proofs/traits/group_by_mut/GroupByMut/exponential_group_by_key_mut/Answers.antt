use Rattle.std.proofs.Common.{rules}
use Rattle.slice_group_by.proofs.traits.group_by_mut.GroupByMut.exponential_group_by_key_mut.Goals as goal

pub new-requires : goal.new-requires
new-requires g c = rw c.as_mut_slice.ensures.elements c.requires

pub returns-clause-remainder : goal.returns-clause-remainder
returns-clause-remainder g c = search rules
