use Rattle.sgb_search.proofs.search.exponential_search_by_key.Goals as goal

pub returns-clause-questions : goal.returns-clause-questions
returns-clause-questions g c = (c.exponential_search_by_key_ref.new.f, c.exponential_search_by_key_ref.ensures.questions)
