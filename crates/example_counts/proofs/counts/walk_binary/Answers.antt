use Rattle.std.proofs.Common.{rules, nat_eq}
use Rattle.std.specs.Prelude.{⊤}
use Rattle.std.proofs.lemmas.Fn.{answers_by}
use Rattle.example_counts.proofs.counts.walk_binary.Goals as goal

pub returns-clause-most : goal.returns-clause-most
returns-clause-most c =
    let k = c.questions_count.ensures.most_due (λ j. j.predicate.0.now) (λ j. j.predicate.0.ghost_name) 1
    (λ j k pair b h. search rules) _ _ _ _ c.walk.ensures.questions in
    search (rules, k.0, k.1)

pub returns-clause-answers : goal.returns-clause-answers
returns-clause-answers c grouped =
    let answers = answers_by _ _ (λ _. ⊤) (λ f a r f' k i. (search rules, tt)) _ tt in
    rw c.new-groups.ensures.remainder at (c.walk.ensures.pieces nat_eq (c.new-groups.ensures.settled nat_eq answers grouped))
