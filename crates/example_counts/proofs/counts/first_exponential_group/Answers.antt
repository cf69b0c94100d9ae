use Rattle.std.proofs.Common.{◌≡◌, ◌+◌, ◌*◌, rules, arith}
use Rattle.slice_group_by.specs.Searching.{digits}
use Rattle.slice_group_by.specs.End.TheVariants.{Front}
use Rattle.example_counts.proofs.counts.first_exponential_group.Goals as goal

pub returns : goal.returns
returns c =
    let none : c.new-groups.result.judge.predicate.0.now ≡ 0 = search rules in
    let k = c.search_asks.ensures.counts (λ j. j.predicate.0.now) (λ j. j.predicate.0.ghost_name) 1 (λ j k pair b h. search rules)
    Front c.new-groups.result c.next-first.new.self c.next-first.result c.next-first.ensures.steps (λ g. 2 * digits g + 1)
    (λ g. omega (arith, none)) in
    search (rules, k.0, rw none at k.1)
