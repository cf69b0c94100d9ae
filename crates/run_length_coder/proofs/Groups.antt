-- The groups of equal bytes, each a run.
use Rattle.std.proofs.Common.{◌≡◌, ℕ, suc, ◌<◌, ◌≤◌, ◌^◌, Bool, true, false, List, [], ◌∷◌, ◌++◌, length, replicate, nat_eq}
use Rattle.std.proofs.Common.{refl, ap, sym, ◌∙◌, arith}
use Rattle.std.specs.List.{All, AllByRecursion}
use Rattle.std.proofs.lemmas.Bool.{eqb-true}
use Rattle.slice_group_stream.specs.Split.{concat, split}

-- the group is a run that can be counted, of a byte
pub record IsRun (group : List ℕ) : Type 0 where
  pub more : ℕ
  pub byte : ℕ
  pub is : group ≡ replicate (suc more) byte
  pub fits : suc more < 2 ^ 64
  pub small : byte < 2 ^ 8

-- the first run of bytes, and the groups after it
record Groups (x : ℕ) (xs : List ℕ) : Type 0 where
  more : ℕ
  others : List (List ℕ)
  within : more ≤ length xs
  cut : split nat_eq (x ∷ xs) ≡ replicate (suc more) x ∷ others
  covers : replicate (suc more) x ++ concat others ≡ x ∷ xs
  are_runs : AllByRecursion IsRun others

module _ (x y : ℕ) (ys : List ℕ) (few : length (x ∷ y ∷ ys) < 2 ^ 64) (small : y < 2 ^ 8) where
  one_more : (b : Bool) → nat_eq x y ≡ b → Groups y ys → Groups x (y ∷ ys)
  one_more true e r =
      let same = eqb-true x y e in
      record {
        more = suc r.more;
        others = r.others;
        within = omega (arith, r.within);
        cut = rw (e, r.cut) (ap (λ z. (x ∷ replicate (suc r.more) z) ∷ r.others) (sym same));
        covers = ap (λ l. x ∷ l) (ap (λ z. replicate (suc r.more) z ++ concat r.others) same ∙ r.covers);
        are_runs = r.are_runs;
      }
  one_more false e r =
      let run : IsRun (replicate (suc r.more) y) = record {
        more = r.more;
        byte = y;
        is = refl;
        fits = omega
            (arith, r.within, few);
        small = small;
      } in
      record {
        more = 0;
        others = replicate (suc r.more) y ∷ r.others;
        within = omega arith;
        cut = rw (e, r.cut) refl;
        covers = ap (λ l. x ∷ l) r.covers;
        are_runs = (run, r.are_runs);
      }

groups : (x : ℕ) (xs : List ℕ) → length (x ∷ xs) < 2 ^ 64 → All (λ b. b < 2 ^ 8) (x ∷ xs) → Groups x xs
groups x [] few small = record { more = 0; others = []; within = omega arith; cut = refl; covers = refl; are_runs = tt }
groups x (y ∷ ys) few small =
    one_more x y ys few (small 1 0 (omega arith)) (nat_eq x y) refl (groups y ys (omega (arith, few)) (λ k d l. small (suc k) d
    (omega arith)))

-- each group of bytes is a run, and together they are the bytes
pub groups_are_runs : (bytes : List ℕ) → length bytes < 2 ^ 64 → All (λ b. b < 2 ^ 8) bytes
    → AllByRecursion IsRun (split nat_eq bytes) × (concat (split nat_eq bytes) ≡ bytes)
groups_are_runs [] few small = (tt, refl)
groups_are_runs (x ∷ xs) few small =
    let r = groups x xs few small in
    let run : IsRun (replicate (suc r.more) x) =
    record { more = r.more; byte = x; is = refl; fits = omega (arith, r.within, few); small = small 0 0 (omega arith) } in
    rw r.cut ((run, r.are_runs), r.covers)
