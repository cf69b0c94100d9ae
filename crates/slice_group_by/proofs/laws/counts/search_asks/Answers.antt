use Rattle.std.proofs.Common.{None, Some, length, ap, arith}
use Rattle.std.proofs.Math.Nat.{mul-le-mul_left}
use Rattle.sgb_search.proofs.Searches.SearchQueue.{asked_apart, asked_within, room_of}
use Rattle.sgb_split.proofs.Questions.Counting.{counts_most}
use Rattle.slice_group_by.proofs.laws.counts.search_asks.Goals as goal

pub returns-clause-questions : goal.returns-clause-questions
returns-clause-questions g c e s t group h =
    let call = (g.met.G.Judged.call e s (Some group) t h).asked in
    (call, asked_apart g.J.Judge g.S.GroupSearch.cost e _ _ _ _ call)

pub returns-clause-counts : goal.returns-clause-counts
returns-clause-counts g c count name each step e s t None h most few =
    let same = (g.met.G.Judged.call e s None t h).1 in
    (ap (λ q. name q.judge) same, ap (λ q. count q.judge) same)
returns-clause-counts g c count name each step e s t (Some group) h most few =
    let at = g.met.G.Judged.call e s (Some group) t h in
    let run = asked_apart g.J.Judge g.S.GroupSearch.cost e _ _ _ _ at.asked in
    let room = room_of g.J.Judge g.S.GroupSearch.cost e _ _ _ at in
    let within = (asked_within g.J.Judge g.S.GroupSearch.cost e _ _ _ _ at.asked at.nonempty room).call in
    let k = counts_most g.J.Judge.may_ask g.J.Judge.answers count name each step (length at.asked.questions)
    (g.G.Judged.groups s).judge (g.G.Judged.groups t).judge (run.questions, run.run, run.long) in
    (k.0, omega (arith, k.1, mul-le-mul_left each within, few (length (g.G.GroupQueue.shows group))))
