use Rattle.std.proofs.Common.{rules, arith}
use Rattle.std.proofs.lemmas.Fn.{answers_by}
use Rattle.example_counts.specs.Keys.{key}
use Rattle.example_counts.proofs.searches.keys_of_search.Goals as goal

pub returns-clause-found : goal.returns-clause-found
returns-clause-found c ascends =
    let computes = c.always_computes.ensures c.args.rows.now key _
    (answers_by _ _ (λ f. Unit {0}) (λ f a r f' k i. search (rules, i)) _ tt) in
    c.exponential_search_by_key_ref-found.ensures.sorted key computes ascends

pub returns-clause-keys : goal.returns-clause-keys
returns-clause-keys c =
    let k = c.search_counts.ensures (λ f. f.0.now) (λ f. f.0.ghost_name) 1 (λ f h x a called. search rules) _ _ _ _ _
    c.exponential_search_by_key_ref-found.ensures.questions in
    search (rules, arith, k.0, k.1)
