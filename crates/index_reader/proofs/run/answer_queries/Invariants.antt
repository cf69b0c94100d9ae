use Rattle.index_reader.proofs.Answered.{AreAnswered}
use Rattle.index_reader.proofs.run.answer_queries.Given as goal

abbrev pub invariant-loop : goal.invariant-loop
invariant-loop g l =
    AreAnswered g.R.Read.remaining g.W.Write.contents l.fn.source.format (g.R.Read.remaining l.fn.source.input) l.rows l.initial.out
    l.queries l.out
