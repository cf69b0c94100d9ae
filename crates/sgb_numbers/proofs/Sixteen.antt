-- From the mask of sixteen elements to the elements.
use Rattle.std.proofs.Common.{◌≡◌, ℕ, suc, ◌+◌, ◌-◌, ◌*◌, ◌/◌, ◌%◌, ◌^◌, ◌<◌, ◌≤◌, pow_mono, Bool, false, not, w64, List, length}
use Rattle.std.proofs.Common.{map, get_or, ap, ◌∙◌, subst, sym, arith, ⊎_elim}
use Rattle.std.proofs.lemmas.Bool.{not-false, not-true, cases_lt}
use Rattle.std.proofs.lemmas.Simd.{length-chunk, get_or-chunk, mask_l-lt, trailing_mask_l, run_in_chunk_le, run_in_chunk_fails}
use Rattle.std.proofs.lemmas.Simd.{none_from_empty_mask}
use Rattle.std.proofs.lemmas.List.{get_or-map, length-map}
use Rattle.std.proofs.Math.Nat.{div-eq_of_lt, div-eq_of_lt-le, two-pow-succ}
use Rattle.std.proofs.lemmas.Nat.Bits.{bit_at-trailing_zeros}
use Rattle.std.specs.List.{prefix_len}
use Rattle.std.specs.Simd.Lanes.{mask_l, chunk}
use lib.Count.{count_trailing_zeros}
use Rattle.sgb_numbers.proofs.Bits.{passed, failed, inside}
use Rattle.sgb_numbers.specs.Numbers.{AreLike}

-- after a stretch of like elements another
pub like_then : {T : Type 0} (eq : T → T → Bool) (e : T) (xs : List T) (i j k : ℕ) → AreLike eq e xs i j → AreLike eq e xs j k
    → AreLike eq e xs i k
like_then eq e xs i j k front back =
    record { at = λ n low high. ⊎_elim (λ below. front.at n low below) (λ from. back.at n from high) (cases_lt n j) }

module _ {T : Type 0} (eq : T → T → Bool) (e : T) (xs : List T) (at : ℕ) (room : at + 16 ≤ length xs) (m : ℕ)
    (mask : m ≡ mask_l (map (λ y. not (eq y e)) (chunk at 16 xs))) where
  abbrev differs : T → Bool
  differs y = not (eq y e)

  abbrev lanes : List T
  lanes = chunk at 16 xs

  long : length (map differs lanes) ≡ 16
  long = length-map lanes differs ∙ length-chunk at 16 xs room

  lane_read : (k : ℕ) → k < 16 → get_or (map differs lanes) k false ≡ differs (get_or lanes k e)
  lane_read k few = get_or-map differs lanes k e false (omega (arith, length-chunk at 16 xs room))

  counted : 0 < m → count_trailing_zeros 64 m ≡ prefix_len (λ y. not (differs y)) (chunk at 16 xs)
  counted some =
      ap (count_trailing_zeros 64) mask
      ∙ trailing_mask_l differs 64 (chunk at 16 xs) (omega (arith, length-chunk at 16 xs room)) (omega arith)

  pub lanes_before : 0 < m → count_trailing_zeros 64 m ≤ 16
  lanes_before some = run_in_chunk_le differs xs at 16 _ e room (counted some)

  pub like_before : 0 < m → AreLike eq e xs at (at + count_trailing_zeros 64 m)
  like_before some =
      record { at = λ k low high. not-false _ (run_in_chunk_fails differs xs at 16 _ e room (counted some) k low high) }

  pub like_all : (i j : ℕ) → at ≤ i → j ≤ at + 16 → m ≡ 0 → AreLike eq e xs i j
  like_all i j l u none =
      record {
        at =
            λ k low high.
            not-false _ (none_from_empty_mask differs xs at 16 e room (sym mask ∙ none) k (omega (arith, l, low)) (omega (arith, u, high)));
      }

  -- a bit that is set
  module _ (i : ℕ) (set : m / 2 ^ i % 2 ≡ 1) where
    lane_below : i < 16
    lane_below = omega (arith, inside (map differs lanes) m mask i set, long)

    unlike_lane : eq (get_or xs (at + i) e) e ≡ false
    unlike_lane =
        not-true _ (ap differs (sym (get_or-chunk at 16 xs i e lane_below)) ∙ sym (lane_read i lane_below)
        ∙ passed (map differs lanes) m mask i set)

  -- the lowest bit that is set
  pub unlike_lowest : 0 < m → eq (get_or xs (at + count_trailing_zeros 64 m) e) e ≡ false
  unlike_lowest some =
      let small : m < 2 ^ 16 = subst (λ n. m < 2 ^ n) long (omega (arith, mask, mask_l-lt (map differs lanes))) in
      unlike_lane (count_trailing_zeros 64 m) (bit_at-trailing_zeros w64 m some (omega arith)).1

  -- r: the highest bit that is set
  module _ (r : ℕ) (least : 2 ^ r ≤ m) (most : m < 2 * 2 ^ r) where
    highest_set : m / 2 ^ r % 2 ≡ 1
    highest_set = ap (λ x. x % 2) (div-eq_of_lt-le {k = 1} (2 ^ r) {m = m} (omega arith) (omega arith))

    pub highest_below : r < 16
    highest_below = lane_below r highest_set

    pub unlike_highest : (i : ℕ) → at + r ≡ i → eq (get_or xs i e) e ≡ false
    unlike_highest i here = subst (λ (k : ℕ). eq (get_or xs k e) e ≡ false) here (unlike_lane r highest_set)

    clear_above : (k : ℕ) → r < k → m / 2 ^ k % 2 ≡ 0
    clear_above k l =
        let a : m < 2 ^ k = omega (arith, two-pow-succ r, pow_mono {i = suc r} {j = k} (omega arith)) in
        ap (λ x. x % 2) (div-eq_of_lt a)

    lane_above : (k : ℕ) → r < k → k < 16 → differs (get_or xs (at + k) e) ≡ false
    lane_above k l few =
        ap differs (sym (get_or-chunk at 16 xs k e few)) ∙ sym (lane_read k few)
        ∙ failed (map differs lanes) m mask k (clear_above k l)

    pub like_after : (i j : ℕ) → at + r < i → j ≤ at + 16 → AreLike eq e xs i j
    like_after i j l u =
        record {
          at =
              λ k low high.
              let back : at + (k - at) ≡ k = omega arith in
              not-false _ (subst (λ n. differs (get_or xs n e) ≡ false) back (lane_above (k - at) (omega arith) (omega arith)));
        }
