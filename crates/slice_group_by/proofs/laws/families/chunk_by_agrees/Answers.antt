use Rattle.std.proofs.Common.{sym}
use Rattle.std.specs.Slice.Iter.{chunk_by_rest, chunk_by_callee}
use Rattle.std.specs.Fn.{ComputesOnPairs}
use Rattle.sgb_split.proofs.Lists.Ends.{from-from}
use Rattle.slice_group_by.specs.Chunks.{chunk_calls}
use Rattle.slice_group_by.proofs.Queues.Chunks.{chunk_piece}
use Rattle.slice_group_by.proofs.Queues.Yields.{yields_pieces}
use Rattle.slice_group_by.proofs.laws.families.chunk_by_agrees.Goals as goal

pub returns : goal.returns
returns g c p e s by = record {
  runs = yields_pieces (chunk_calls g.F.FnMut) chunk_by_rest (λ chunk. chunk.now) (λ s p. ComputesOnPairs g.F.FnMut p (chunk_by_callee s)) p
      (chunk_piece g.F.FnMut) e s _ by (sym (from-from e _));
}
