-- What bytes are coded as is read as the records of their groups.
use Rattle.std.proofs.Common.{◌≡◌, ℕ, zero, suc, ◌+◌, ◌<◌, ◌^◌, List, [], ◌∷◌, ◌++◌, length, length-append, append_assoc}
use Rattle.std.proofs.Common.{map, flat_map, decimal}
use Rattle.std.proofs.Common.{nat_eq, refl, ap, sym, ◌∙◌, arith}
use Rattle.std.specs.List.{All, AllByRecursion}
use Rattle.std.proofs.lemmas.List.{length-replicate}
use Rattle.csv.specs.Machine.{next_record}
use Rattle.csv.specs.Reading.{default_config, records_from, strip_bom}
use Rattle.csv.specs.Writing.{default_writer, fields_text, is_blank, row_body, row_text}
use Rattle.csv.specs.declared.parser.State.TheVariants as st
use Rattle.csv.proofs.RoundTrip.{read-write}
use Rattle.program_parts.specs.Records.{rows_of}
use Rattle.slice_group_stream.specs.Split.{split}
use Rattle.run_length_coder.specs.Coding.{coded, record_of, runs_format}
use Rattle.run_length_coder.proofs.Groups.{IsRun, groups_are_runs}
use Rattle.run_length_coder.proofs.Numbers.{number_start, number_text}

-- the text of a record of two numbers
pub pair_text : (first second : ℕ) → first < 2 ^ 64 → second < 2 ^ 64
    → row_text default_writer (decimal first ∷ decimal second ∷ []) ≡ decimal first ++ 44 ∷ (decimal second ++ 10 ∷ [])
unfolding is_blank fields_text
pair_text first second fits small =
    rw (number_text first fits, number_text second small) (append_assoc (decimal first) (44 ∷ (decimal second ++ [])) (10 ∷ [])
    ∙ ap (λ l. decimal first ++ 44 ∷ l) (append_assoc (decimal second) [] (10 ∷ [])))

abbrev text : List (List ℕ) → List ℕ
text groups = flat_map (λ group. row_text default_writer (record_of group)) groups

some_text : (group : List ℕ) → 0 < length (row_text default_writer (record_of group))
unfolding is_blank fields_text
some_text group = omega (arith, length-append (row_body default_writer (record_of group)) (10 ∷ []))

reads : (groups : List (List ℕ)) (n : ℕ) → length (text groups) < n
    → records_from default_config n st.StartRecord (text groups) ≡ map record_of groups
unfolding records_from next_record
reads groups zero few = absurd (omega (arith, few))
reads [] (suc n) few = refl
reads (group ∷ groups) (suc n) few =
    let shorter : length (text groups) < n =
    omega (arith, few, some_text group, length-append (row_text default_writer (record_of group)) (text groups)) in
    rw (read-write (record_of group) (text groups)) (ap (λ rows. record_of group ∷ rows) (reads groups n shorter))

no_mark : (groups : List (List ℕ)) → AllByRecursion IsRun groups → strip_bom (text groups) ≡ text groups
unfolding strip_bom
no_mark [] runs = refl
no_mark (group ∷ groups) runs =
    let run = runs.0 in
    let one : record_of group ≡ decimal (suc run.more) ∷ decimal run.byte ∷ [] =
    rw (run.is, length-replicate (suc run.more) run.byte) refl in
    let first = ap (row_text default_writer) one ∙ pair_text (suc run.more) run.byte run.fits (omega (arith, run.small)) in
    let whole = ap (λ l. l ++ text groups) first
    ∙ append_assoc (decimal (suc run.more)) (44 ∷ (decimal run.byte ++ 10 ∷ [])) (text groups) in
    ap strip_bom whole ∙ number_start (suc run.more) _ run.fits ∙ sym whole

pub rows_of_coded : (bytes : List ℕ) → length bytes < 2 ^ 64 → All (λ b. b < 2 ^ 8) bytes
    → rows_of runs_format (coded bytes) ≡ map record_of (split nat_eq bytes)
rows_of_coded bytes few small =
    let groups = split nat_eq bytes in
    let plain = no_mark groups (groups_are_runs bytes few small).0 in
    ap (λ l. records_from default_config (length l + 1) st.StartRecord l) plain
    ∙ reads groups (length (text groups) + 1) (omega arith)
