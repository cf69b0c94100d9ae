use Rattle.std.proofs.Common.{◌≡◌, rules, arith}
use Rattle.std.specs.Ordering.{nat_cmp}
use Rattle.std.proofs.lemmas.Fn.{answers_by}
use Rattle.example_counts.proofs.searches.questions_of_search.Goals as goal

pub returns-clause-found : goal.returns-clause-found
returns-clause-found c regions =
    let computes = c.always_computes.ensures c.args.xs.now (λ x. nat_cmp x c.args.elem) _
    (answers_by _ _ (λ f. f.1.now ≡ c.args.elem) (λ f a r f' k i. search (rules, i)) _ (search rules)) in
    c.exponential_search_by_ref-found.ensures.found (λ x. nat_cmp x c.args.elem) computes regions

pub returns-clause-questions : goal.returns-clause-questions
returns-clause-questions c =
    let k = c.search_counts.ensures (λ f. f.0.now) (λ f. f.0.ghost_name) 1 (λ f h x a called. search rules) _ _ _ _ _
    c.exponential_search_by_ref-found.ensures.questions in
    search (rules, arith, k.0, k.1)
