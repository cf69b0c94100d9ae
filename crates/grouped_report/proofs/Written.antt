-- The rows of the groups that are written.
use Rattle.std.proofs.Common.{◌≡◌, ℕ, Bool, List, [], ◌∷◌, ◌++◌, map, flat_map, Option, refl, sym, ap, ◌∙◌, subst, append_assoc}
use Rattle.std.specs.Option.{option_to_list}
use Rattle.std.proofs.lemmas.List.{map-append}
use Rattle.csv.specs.declared.writer.Writer.{Writer}
use Rattle.slice_group_stream.specs.Split.{IsSplit, split}
use Rattle.program_parts.proofs.Writing.{writes_both}
use Rattle.program_parts.specs.Written.{Writes}
use Rattle.grouped_report.specs.Groups.{Row, Summary, same_group, summary, summary_if}
use Rattle.grouped_report.specs.Output.{summary_row}
use Rattle.grouped_report.proofs.Closing.{made_of}

pub rows_of_made : (counts : Bool) (gs : List (List Row))
    → map (summary_row counts) (map summary gs) ≡ map (λ g. summary_row counts (summary g)) gs
rows_of_made counts [] = refl
rows_of_made counts (g ∷ gs) = ap (λ l. summary_row counts (summary g) ∷ l) (rows_of_made counts gs)

module _ {W : Type 0} (contents : W → Option (List ℕ)) (counts : Bool) (before after end : Writer W) where
  -- rows of summaries, and of more
  pub more_written : (written more : List Summary) → Writes contents before after (map (summary_row counts) written)
      → Writes contents after end (map (summary_row counts) more) → Writes contents before end (map (summary_row counts) (written ++ more))
  more_written written more first then =
      subst (Writes contents before end) (sym (map-append (summary_row counts) written more))
      (writes_both contents before after end _ _ first then)

  -- where the open group is closed too, the rows of all groups are written
  pub all_written : (current : Option Summary) (closed written : List Summary) (came : List Row)
      → IsSplit same_group came (split same_group came)
      → (written ++ closed) ++ option_to_list current ≡ flat_map (λ g. option_to_list (summary_if g)) (split same_group came)
      → Writes contents before after (map (summary_row counts) written)
      → Writes contents after end (map (summary_row counts) (closed ++ option_to_list current))
      → Writes contents before end (map (λ g. summary_row counts (summary g)) (split same_group came))
  all_written current closed written came s all first then =
      let rows = ap (map (summary_row counts)) (sym (append_assoc written closed (option_to_list current)) ∙ all ∙ made_of _ s.nonempty)
      ∙ rows_of_made counts (split same_group came) in
      subst (Writes contents before end) rows (more_written written (closed ++ option_to_list current) first then)
