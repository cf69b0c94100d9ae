use Rattle.sgb_split.proofs.Questions.Counting.{counts_most, counts_most_due}
use Rattle.slice_group_by.proofs.laws.counts.questions_count.Goals as goal

pub returns-clause-most : goal.returns-clause-most
returns-clause-most g c = counts_most g.J.Judge.may_ask g.J.Judge.answers

pub returns-clause-most_due : goal.returns-clause-most_due
returns-clause-most_due g c count name each step =
    counts_most_due g.J.Judge.may_ask g.J.Judge.answers count name each step (λ s. (g.S.Judged.groups s).judge)
