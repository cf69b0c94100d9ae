use Rattle.std.proofs.Common.{rules}
use Rattle.slice_group_by.proofs.traits.str_group_by.StrGroupByMut.linear_group_by_key_mut.Goals as goal

pub new-requires-clause-callable : goal.new-requires-clause-callable
new-requires-clause-callable g c = rw c.as_mut_slice.ensures.elements c.requires.callable

pub returns-clause-text : goal.returns-clause-text
returns-clause-text g c = search rules
