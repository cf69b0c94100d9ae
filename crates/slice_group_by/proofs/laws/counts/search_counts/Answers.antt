use Rattle.slice_group_by.proofs.Questions.Counting.{search_raises}
use Rattle.slice_group_by.proofs.laws.counts.search_counts.Goals as goal

pub returns : goal.returns
returns g c count name each step reads xs f t found = search_raises g.F.FnMut count name each step reads xs f t found
