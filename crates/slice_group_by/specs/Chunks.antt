-- The calls of the standard library's `chunk_by`, at either end.
use Rattle.std.specs.Prelude.{Bool, List, Option}
use Rattle.std.specs.Borrow.{Bor}
use Rattle.std.specs.Fn.{Mut}
use Rattle.std.specs.Slice.Iter.{chunk_by_steps}
use Rattle.std.specs.Slice.Back.{chunk_by_steps_back}
use Rattle.std.specs.declared.slice.ChunkBy.{ChunkBy}
use Rattle.sgb_split.specs.declared.end.End.{End}
use Rattle.sgb_split.specs.declared.end.End.TheVariants.{Front, Back}

-- what `next` and `next_back` of it give, as its own contracts say
abbrev pub chunk_calls : {A F : Type 0} → Mut F (Bor A × (Bor A × Unit {0})) Bool → End → ChunkBy A F → Option (Bor (List A)) → ChunkBy A F
    → Type 0
chunk_calls g Front = chunk_by_steps g
chunk_calls g Back = chunk_by_steps_back g
