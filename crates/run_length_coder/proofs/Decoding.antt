-- What bytes are coded as is decoded to these bytes.
use Rattle.std.proofs.Common.{◌≡◌, ℕ, suc, ◌<◌, ◌^◌, Bool, List, [], ◌∷◌, ◌++◌, length, map, flat_map, replicate, nat_eq}
use Rattle.std.proofs.Common.{Option, refl, ap, subst, ◌∙◌, arith}
use Rattle.std.specs.Io.KnownBytes.{Appends}
use Rattle.std.specs.List.{All, AllByRecursion, filter, filter_map}
use Rattle.std.proofs.lemmas.Bool.{ne_eqb}
use Rattle.std.proofs.lemmas.List.{length-replicate}
use Rattle.csv.specs.Records.{field_at}
use Rattle.program_parts.specs.Records.{has_width}
use Rattle.slice_group_stream.specs.Split.{concat, split}
use Rattle.run_length_coder.specs.Coding.{Decodes, coded, copies, record_of, run_in}
use Rattle.run_length_coder.proofs.Groups.{IsRun, groups_are_runs}
use Rattle.run_length_coder.proofs.Numbers.{number_read}
use Rattle.run_length_coder.proofs.Records.{rows_of_coded}

-- the runs that the records of groups say have their bytes
all_copied : (groups : List (List ℕ)) → AllByRecursion IsRun groups
    → flat_map copies (filter_map run_in (filter (has_width 2) (map record_of groups))) ≡ concat groups
unfolding field_at
all_copied [] runs = refl
all_copied (group ∷ groups) (one, others) =
    rw (
      one.is,
      length-replicate (suc one.more) one.byte,
      number_read 64 (suc one.more) one.fits one.fits,
      number_read 8 one.byte one.small (omega (arith, one.small)),
      ne_eqb (suc one.more) 0 (λ none. omega (arith, none)),
    ) (ap (λ l. replicate (suc one.more) one.byte ++ l) (all_copied groups others))

-- so these bytes are written again
pub decodes_coded : (bytes : List ℕ) (are_runs : Bool) (before after : Option (List ℕ)) → All (λ b. b < 2 ^ 8) bytes
    → length bytes < 2 ^ 64 → Decodes (coded bytes) are_runs before after → Appends before after bytes
decodes_coded bytes are_runs before after small few d =
    let (are, whole) = groups_are_runs bytes few small in
    let runs = rw (rows_of_coded bytes few small) at d.reads.kept_are in
    subst (Appends before after) (ap (flat_map copies) runs ∙ all_copied (split nat_eq bytes) are ∙ whole) d.writes
