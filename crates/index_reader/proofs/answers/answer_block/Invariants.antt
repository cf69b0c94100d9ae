use Rattle.std.proofs.Common.{flat_map, map, take}
use Rattle.program_parts.specs.Written.{Writes}
use Rattle.index_reader.specs.Answers.{of_key}
use Rattle.index_reader.proofs.answers.answer_block.Given as goal

abbrev pub invariant-loop-query : goal.invariant-loop-query
invariant-loop-query g l =
    Writes g.W.Write.contents l.initial.out l.out
    (flat_map (λ query. map (λ row. row.rest) (of_key query.key l.rows)) (take l.query-index l.queries))
