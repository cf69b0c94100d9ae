-- The type of the part that a walk gave last, and its laws. Assumes nothing.
use denote.Param.Laws.{Laws, of_field, row_shared, is_one}
use denote.Param.Shared.{mut_slice_shared}
use denote.RattleType.{RattleType}
use denote.Ref.{NamedLft}
use denote.Slice.{MutSlice}
use denote.Struct.Field.{mut_slice_field}
use denote.Struct.Laws.{mut_slice_laws}
use Rattle.std.proofs.Common.{refl}
use Rattle.std.proofs.option.Option.TheLaws.{the_row_laws}
use Rattle.std.specs.contracts.option.Option.{the_row}

abbrev pub Part : NamedLft → RattleType → RattleType
Part ℓ R = the_row (MutSlice ℓ.mir ℓ.lft R)

pub part_laws : (ℓ : NamedLft) (R : RattleType) → Laws R → Laws (Part ℓ R)
part_laws ℓ R L = let o = is_one R L in let laws = mut_slice_laws ℓ R o in
    the_row_laws (MutSlice ℓ.mir ℓ.lft R) (of_field (mut_slice_field ℓ R o) laws refl (mut_slice_shared ℓ R o (row_shared R L)))
