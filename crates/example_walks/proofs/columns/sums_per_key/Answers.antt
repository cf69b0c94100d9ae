use Rattle.std.proofs.Common.{◌≡◌, ◌%◌, ◌^◌, ℕ, List, [], ◌∷◌, length, map, nat_eq, sum, take, drop, get_or}
use Rattle.std.proofs.Common.{rules, refl, sym, ap, ◌∙◌}
use Rattle.std.specs.List.{zip}
use Rattle.std.proofs.lemmas.Iterator.{YieldsList-from_map, items_from_collect}
use Rattle.std.proofs.lemmas.Iterator.Consumers.{YieldsList-at}
use Rattle.std.proofs.lemmas.Simd.{map-map}
use Rattle.std.proofs.lemmas.Slice.Zip.{firsts-zip}
use Rattle.slice_group_by.specs.Calls.{Place}
use Rattle.slice_group_by.specs.End.TheVariants.{Front}
use Rattle.slice_group_by.specs.Split.{split}
use Rattle.example_walks.proofs.columns.sums_per_key.Goals as goal

-- what the program makes of a piece of the keys and the values beside it
abbrev made : List ℕ × List ℕ → ℕ × ℕ
made piece = (get_or piece.0 0 0, sum piece.1 % 2 ^ 64)

-- and of a key and its rows
abbrev summed : ℕ × List (ℕ × ℕ) → ℕ × ℕ
summed entry = (entry.0, sum (map (λ row. row.1) entry.1) % 2 ^ 64)

first_key : (rows : List (ℕ × ℕ)) → get_or (map (λ row. row.0) rows) 0 0 ≡ (get_or rows 0 (0, 0)).0
first_key [] = refl
first_key (row ∷ rows) = refl

pub returns : goal.returns
returns c =
    let keys = c.args.keys.now in
    let values = c.args.values.now in
    let groups = c.with_offsets-groups in
    let pieces = c.sees_pieces.ensures.pieces nat_eq Front groups.result (rw groups.ensures (c.new.ensures.settled tt)) in
    let seen = YieldsList-at c.map.ensures.source (c.groups_stand.ensures.yields groups.result _ pieces) in
    let sums = rw (firsts-zip keys values c.requires.same) at
    (c.pieces_by_key.ensures.by_first (λ row. row.0) (0, 0) (zip keys values) (rw (firsts-zip keys values c.requires.same) c.requires.sorted)) in
    let all = sym (map-map made _ _) ∙ ap (map made) (c.columns_split.ensures nat_eq keys values c.requires.same) ∙ map-map made _ _
    ∙ (λ i. map (λ rows. (first_key rows i, sum (map (λ row. row.1) rows) % 2 ^ 64)) (split (λ r s. nat_eq r.0 s.0) (zip keys values)))
    ∙ sym (map-map summed _ _) ∙ ap (map summed) sums ∙ map-map summed _ _ in
    rw all at
    (rw (groups.ensures, ap (λ (p : Place ℕ). p.offset) c.new.ensures.place, c.new.ensures.remainder)
    at (items_from_collect c.collect.result c.collect.ensures.ran
    (YieldsList-from_map _ (λ x. made (x.1, take (length x.1) (drop x.0 values))) seen c.map.ensures.closure (λ x r q k. search rules))))
