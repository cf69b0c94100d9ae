-- The part of a list between two places that pass a test.
use Rattle.std.proofs.Common.{◌≡◌, ℕ, ◌+◌, ◌-◌, ◌≤◌, ◌<◌, Bool, true, false, cond, List, [], length, take, drop, refl, sym, ap, ◌∙◌, arith}
use Rattle.std.proofs.lemmas.Bool.Decides.{nat_tests}
use Rattle.std.proofs.lemmas.List.{take-take, drop-take, drop-drop}
use Rattle.std.proofs.Math.Seq.{take-length}
use Rattle.std.specs.Prelude.{◌&&◌, slice_range, nat_le}
use Rattle.sgb_split.specs.Calls.{part_between}
use Rattle.sgb_split.proofs.Lists.Ranges.{length-range}

-- both places pass the test, in order
pub record ArePlaces (is_place : ℕ → Bool) (low high : ℕ) : Type 0 where
  pub order : low ≤ high
  pub low_is : is_place low ≡ true
  pub high_is : is_place high ≡ true

module _ {T : Type 0} (is_place : ℕ → Bool) (xs : List T) (low high : ℕ) where
  abbrev test : Bool
  test = nat_le low high && (is_place low && is_place high)

  places_pass : ArePlaces is_place low high → test ≡ true
  places_pass places = grind (arith, nat_tests, places.order, places.low_is, places.high_is)

  pass_places : test ≡ true → ArePlaces is_place low high
  pass_places e = record { order = grind (arith, nat_tests); low_is = grind (arith, nat_tests); high_is = grind (arith, nat_tests) }

  pub between_places : ArePlaces is_place low high → part_between is_place xs low high ≡ slice_range xs low high
  unfolding part_between
  between_places places = ap (λ b. cond b (slice_range xs low high) []) (places_pass places)

  either : (b : Bool) → test ≡ b → 0 < length (cond b (slice_range xs low high) []) → ArePlaces is_place low high
  either true e l = pass_places e
  either false e l = absurd (omega arith)

  -- an element lies between them only where both pass
  pub places_between : 0 < length (part_between is_place xs low high) → ArePlaces is_place low high
  unfolding part_between
  places_between l = either _ refl l

  empty_unless : (b : Bool) → test ≡ b → (ArePlaces is_place low high → high ≤ low) → cond b (slice_range xs low high) [] ≡ []
  empty_unless true e h =
      let o : high ≤ low = h (pass_places e) in
      ap (λ (n : ℕ). take n (drop low xs)) {x = high - low} {y = 0} (omega arith)
  empty_unless false e h = refl

  -- nothing lies between them where they do not pass, or are one place
  pub between_empty : (ArePlaces is_place low high → high ≤ low) → part_between is_place xs low high ≡ []
  unfolding part_between
  between_empty h = empty_unless _ refl h

-- a list is the part between its ends
pub between_ends : {T : Type 0} (is_place : ℕ → Bool) (xs : List T) → is_place 0 ≡ true → is_place (length xs) ≡ true
    → part_between is_place xs 0 (length xs) ≡ xs
between_ends is_place xs start_is end_is =
    between_places is_place xs 0 (length xs) (record { order = omega arith; low_is = start_is; high_is = end_is })
    ∙ ap (λ (n : ℕ). take n xs) {x = length xs - 0} {y = length xs} (omega arith) ∙ take-length xs

-- the part r between two places of the list, which is not empty
module _ {T : Type 0} (is_place : ℕ → Bool) (xs : List T) (lie_within : (n : ℕ) → is_place n ≡ true → n ≤ length xs)
    (low high : ℕ) (r : List T) (is : r ≡ part_between is_place xs low high) (more : 0 < length r) where
  pub are_places : ArePlaces is_place low high
  are_places = places_between is_place xs low high (omega (arith, ap length is, more))

  pub is_range : r ≡ slice_range xs low high
  is_range = is ∙ between_places is_place xs low high are_places

  pub ends_at : low + length r ≡ high
  ends_at = omega (
    arith,
    are_places.order,
    ap length is_range,
    length-range xs low high are_places.order (lie_within high are_places.high_is),
  )

  -- it is cut after its first n elements
  module _ (n : ℕ) (inside : n ≤ length r) (middle : is_place (low + n) ≡ true) where
    pub part_before : part_between is_place xs low (low + n) ≡ take n r
    part_before =
        between_places is_place xs low (low + n) (record { order = omega arith; low_is = are_places.low_is; high_is = middle })
        ∙ ap (λ (k : ℕ). take k (drop low xs)) {x = (low + n) - low} {y = n} (omega arith)
        ∙ sym (ap (take n) is_range ∙ take-take n (high - low) (drop low xs) (omega (arith, ends_at, inside)))

    pub part_after : part_between is_place xs (low + n) high ≡ drop n r
    part_after =
        between_places is_place xs (low + n) high
        (record { order = omega (arith, ends_at, inside); low_is = middle; high_is = are_places.high_is })
        ∙ ap (take (high - (low + n))) (sym (drop-drop n low xs))
        ∙ sym (ap (drop n) is_range
        ∙ ap (λ (k : ℕ). drop n (take k (drop low xs))) {x = high - low} {y = n + (high - (low + n))}
        (omega (arith, ends_at, inside))
        ∙ drop-take n (high - (low + n)) (drop low xs))
