-- Where the part of a list between two places stands in it, and where two parts stand that stood together.
use Rattle.std.proofs.Common.{◌≡◌, ℕ, ◌+◌, ◌-◌, ◌≤◌, Bool, true, List, [], ◌∷◌, ◌++◌}
use Rattle.std.proofs.Common.{length, take, drop, length-append, sym, ap, ◌∙◌, arith}
use Rattle.std.proofs.Math.Seq.{take-append_seam, drop-append_seam}
use Rattle.std.proofs.lemmas.List.{take-take, drop-take, drop-drop}
use Rattle.std.specs.Prelude.{slice_range}
use Rattle.sgb_split.specs.Calls.{Place, StandsAt, part_between}
use Rattle.sgb_split.proofs.Lists.Between.{is_range, ends_at, are_places}

-- an empty part stands everywhere
empty_stands : {T : Type 0} (xs : List T) (k : ℕ) → k ≤ length xs → StandsAt (record { input = xs; offset = k }) []
empty_stands xs k l =
    record {
      within = omega (arith, l);
      is = ap (λ (n : ℕ). take n (drop k xs)) {x = (k + 0) - k} {y = 0} (omega arith);
    }

-- the part between two places stands at an offset that is the lower place where that passes the test
module _ {T : Type 0} (is_place : ℕ → Bool) (xs : List T) (lie_within : (n : ℕ) → is_place n ≡ true → n ≤ length xs) (low high k : ℕ)
    (inside : k ≤ length xs) (here : is_place low ≡ true → k ≡ low) where
  pub stands : (part : List T) → part ≡ part_between is_place xs low high → StandsAt (record { input = xs; offset = k }) part
  stands [] e = empty_stands xs k inside
  stands (x ∷ part) e =
      let places = are_places is_place xs lie_within low high (x ∷ part) e (omega arith) in
      let end : low + length (x ∷ part) ≡ high = ends_at is_place xs lie_within low high (x ∷ part) e (omega arith) in
      record {
        within = omega (arith, here places.low_is, end, lie_within high places.high_is);
        is =
            ap (λ (k : ℕ). slice_range xs k (k + length (x ∷ part))) (here places.low_is) ∙ ap (slice_range xs low) end
            ∙ sym (is_range is_place xs lie_within low high (x ∷ part) e (omega arith));
      }

-- where two parts stand, one after the other, each of them stands
module _ {T : Type 0} (p : Place T) (front back : List T) (h : StandsAt p (front ++ back)) where
  abbrev rest : List T
  rest = drop p.offset p.input

  ends : p.offset + (length front + length back) ≤ length p.input
  ends = omega (arith, h.within, length-append front back)

  both : take (length front + length back) rest ≡ front ++ back
  both = ap (λ (n : ℕ). take n rest) {x = length front + length back} {y = (p.offset + length (front ++ back)) - p.offset}
      (omega (arith, length-append front back)) ∙ h.is

  pub first_stands : StandsAt p front
  first_stands = record {
    within = omega (arith, ends);
    is =
        ap (λ (n : ℕ). take n rest) {x = (p.offset + length front) - p.offset} {y = length front} (omega arith)
        ∙ sym (take-take (length front) (length front + length back) rest (omega arith))
        ∙ ap (take (length front)) both ∙ take-append_seam front back;
  }

  pub second_stands : StandsAt (record { input = p.input; offset = p.offset + length front }) back
  second_stands = record {
    within = omega (arith, ends);
    is =
        ap (λ (n : ℕ). take n (drop (p.offset + length front) p.input))
        {x = ((p.offset + length front) + length back) - (p.offset + length front)} {y = length back} (omega arith)
        ∙ ap (take (length back)) (sym (drop-drop (length front) p.offset p.input))
        ∙ sym (drop-take (length front) (length back) rest) ∙ ap (drop (length front)) both ∙ drop-append_seam front back;
  }
