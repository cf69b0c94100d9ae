use Rattle.std.proofs.Common.{◌≡◌, ◌∙◌, ap, rules, length, map, nat_eq, replicate, get_or}
use Rattle.std.proofs.lemmas.Bool.{eqb-true}
use Rattle.slice_group_by.specs.Split.{concat, split}
use Rattle.example_walks.proofs.writers.filled.Goals as goal

pub returns-clause-value : goal.returns-clause-value
returns-clause-value c =
    let copies : c.finish.result.value ≡ concat (map (λ g. replicate (length g) (get_or g 0 0)) (split nat_eq c.args.slice.now))
    = search rules in
    copies ∙ ap concat (c.equal_pieces_are_copies.ensures.copies nat_eq eqb-true 0 c.args.slice.now)
    ∙ c.one_split.ensures.covers nat_eq c.args.slice.now
