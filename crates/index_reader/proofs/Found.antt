-- Where the rows of a key stand in sorted rows.
use Rattle.std.proofs.Common.{◌≡◌, not, ◌&&◌, List, []}
use Rattle.std.proofs.Common.{refl, sym, ap, ◌∙◌}
use Rattle.std.proofs.lemmas.List.Elements.{filter_agree}
use Rattle.std.proofs.lemmas.List.Sorted.{searchable_from_sorted}
use Rattle.std.specs.List.Sorted.{IsSorted, ties}
use Rattle.std.specs.Ordering.{is_eq, is_lt, ordering_reverse}
use Rattle.std.specs.declared.cmp.Ordering.{Ordering}
use Rattle.std.specs.declared.cmp.Ordering.TheVariants.{Less, Equal, Greater}
use Rattle.slice_group_by.specs.Search.{IsLessEqualGreater}
use Rattle.program_parts.proofs.TablesRead.{keys_total}
use Rattle.program_parts.specs.Records.{Record}
use Rattle.program_parts.specs.Rows.{AreSorted, Row, by_key, key_cmp}
use Rattle.index_reader.specs.Answers.{of_key}

turned : (o : Ordering) → is_eq o ≡ (not (is_lt (ordering_reverse o)) && not (is_lt o))
turned Less = refl
turned Equal = refl
turned Greater = refl

module _ (key : Record) where
  -- how a row stands to the key
  abbrev pub stands : Row → Ordering
  stands row = key_cmp row.key key

  pub rises : (rows : List Row) → IsSorted by_key rows → IsLessEqualGreater stands rows
  rises rows up = searchable_from_sorted keys_total (λ row. row.key) rows key up

  ties_with : (row : Row) → is_eq (stands row) ≡ ties (λ x y. is_lt (by_key x y)) (record { key = key; rest = [] }) row
  ties_with row = turned (stands row) ∙ ap (λ o. not (is_lt o) && not (is_lt (stands row))) (sym (keys_total.antisymm key row.key))

  -- sorting leaves the rows of a key in their order
  pub sorted_alike : (rows sorted : List Row) → AreSorted rows sorted → of_key key sorted ≡ of_key key rows
  sorted_alike rows sorted s =
      filter_agree _ _ ties_with sorted ∙ s.stable (record { key = key; rest = [] }) ∙ sym (filter_agree _ _ ties_with rows)
