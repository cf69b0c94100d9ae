use Rattle.sgb_split.proofs.Questions.Counting.{counts_pairs, counts_more, counts_walk}
use Rattle.slice_group_by.proofs.laws.counts.linear_counts.Goals as goal

pub returns-clause-calls : goal.returns-clause-calls
returns-clause-calls g c counter each limit step s t asked =
    let k = counts_pairs g.J.Judge.may_ask g.J.Judge.answers (λ j. (counter j).now) (λ j. (counter j).ghost_name) each limit step
    (λ s. (g.S.Judged.groups s).judge) (λ s. (g.S.Judged.groups s).remainder) s t asked in
    record { place = k.0; count = k.1 }

pub returns-clause-more : goal.returns-clause-more
returns-clause-more g c counter each limit step r s t before asked =
    let k = counts_more g.J.Judge.may_ask g.J.Judge.answers (λ j. (counter j).now) (λ j. (counter j).ghost_name) each limit step
    (λ s. (g.S.Judged.groups s).judge) (λ s. (g.S.Judged.groups s).remainder) s t asked r before.place before.count in
    record { place = k.0; count = k.1 }

pub returns-clause-walk : goal.returns-clause-walk
returns-clause-walk g c counter each limit step =
    counts_walk g.J.Judge.may_ask g.J.Judge.answers (λ j. (counter j).now) (λ j. (counter j).ghost_name) each limit step
    (λ s. (g.S.Judged.groups s).judge) (λ s. (g.S.Judged.groups s).remainder)
