-- Shards: a cut by one call, and what all of them are.
use Rattle.std.proofs.Common.{◌≡◌, ℕ, zero, suc, ◌+◌, ◌-◌, ◌/◌, ◌<◌, ◌≤◌, Bool, true, false, List, []}
use Rattle.std.proofs.Common.{◌∷◌, ◌++◌, length, take, drop, max, flat_map, sum_by}
use Rattle.std.specs.List.{fold}
use Rattle.std.proofs.lemmas.List.Sums.{fold-append, sum_by-cons}
use Rattle.std.proofs.Common.{append_assoc, refl, sym, ap, subst, ◌∙◌, arith}
use lib.Dec.{T, leb, leb→le}
use Rattle.std.specs.Iterator.{AlwaysYields}
use Rattle.std.proofs.lemmas.Bool.{leb-false}
use Rattle.std.proofs.lemmas.List.{take-append-drop, length-append, length-take-le, length-drop, take_at, drop_at}
use Rattle.std.proofs.Math.Nat.{div-le_self, div-one}
use Rattle.sgb_split.specs.Calls.{Groups, IsGroupAt}
use Rattle.sgb_split.specs.Split.{concat, split}
use Rattle.sgb_split.specs.declared.end.End.{End}
use Rattle.sgb_split.specs.declared.judge.Judge
use Rattle.sgb_split.specs.declared.end.End.TheVariants.{Front}
use Rattle.sgb_groups.specs.declared.way.Way
use Rattle.sgb_groups.proofs.Boundaries.{ends_at, ends_group, group_end}
use Rattle.sgb_groups.specs.Shards.{AreShards, CutsShard, GivesShard, groups_to_cut, share_end, shards_left}
use Rattle.sgb_groups.specs.declared.shards.Shards.{Shards}

module _ {T J : Type 0} (asks : End → List T → ℕ → J → J → Type 0) where
  -- a call on the elements from a place on cuts a shard of all
  pub cut_behind : (place : ℕ) (s : Groups T J) (group shard : List T) (t : Groups T J) → place < length s.remainder
      → IsGroupAt asks Front (record { remainder = drop place s.remainder; judge = s.judge }) group t
      → shard ≡ take (place + length group) s.remainder → CutsShard asks place s shard t
  cut_behind place s group shard t inside call is =
      let xs = s.remainder in
      let long : length (take place xs) ≡ place = length-take-le place xs (omega (arith, inside)) in
      let whole : xs ≡ (take place xs ++ group) ++ t.remainder =
      sym (take-append-drop place xs) ∙ ap (λ l. take place xs ++ l) call.cut ∙ sym (append_assoc (take place xs) group t.remainder) in
      let shard_is : shard ≡ take place xs ++ group =
      is ∙ ap (take (place + length group)) whole
      ∙ take_at (take place xs ++ group) t.remainder (place + length group) (omega (arith, length-append (take place xs) group, long)) in
      let end : drop place shard ≡ group = ap (drop place) shard_is ∙ drop_at (take place xs) group place long in
      record {
        cut = whole ∙ ap (λ l. l ++ t.remainder) (sym shard_is);
        call = rw end call;
      }

module _ {A : Type 0} (p : A → A → Bool) where
  share_within : (count : ℕ) (x : A) (xs : List A) → share_end count (x ∷ xs) < length (x ∷ xs)
  share_within count x xs = omega (arith, div-le_self (length (x ∷ xs) - 1) (max count 1))

  -- the shards, computed; at most as many as elements
  abbrev pub shards_in : List A → ℕ → ℕ → List (List A)
  shards_in [] most count = []
  shards_in (x ∷ xs) zero count = []
  shards_in (x ∷ xs) (suc most) count =
      let n = group_end p (x ∷ xs) (share_end count (x ∷ xs)) in
      take n (x ∷ xs) ∷ shards_in (drop n (x ∷ xs)) most (count - 1)

  none_in : (xs : List A) (most count : ℕ) → length xs ≤ 0 → shards_in xs most count ≡ []
  none_in [] most count l = refl
  none_in (x ∷ xs) most count l = absurd (omega (arith, l))

  -- the last one takes what is left
  all_taken : (count n : ℕ) (x : A) (xs : List A) → count ≤ 1 → share_end count (x ∷ xs) < n → length (drop n (x ∷ xs)) ≤ 0
  all_taken count n x xs l behind =
      let one : max count 1 ≡ 1 = omega arith in
      let whole : share_end count (x ∷ xs) ≡ length (x ∷ xs) - 1 = ap (λ (k : ℕ). (length (x ∷ xs) - 1) / k) one ∙ div-one _ in
      omega (arith, whole, length-drop n (x ∷ xs))

  few_in : (is_last : Bool) (count others : ℕ) → leb count 1 ≡ is_last → (count ≤ 1 → others ≡ 0) → others ≤ max (count - 1) 1
      → suc others ≤ max count 1
  few_in true count others e none few = omega (arith, none (leb→le count 1 (subst T (sym e) tt)))
  few_in false count others e none few = omega (arith, few, leb-false count 1 e)

  pub are_shards : (xs : List A) (most count : ℕ) → length xs ≤ most → AreShards p count xs (shards_in xs most count)
  are_shards [] most count l = record { covers = refl; groups = refl; nonempty = tt; few = omega arith }
  are_shards (x ∷ xs) zero count l = absurd (omega (arith, l))
  are_shards (x ∷ xs) (suc most) count l =
      let place = share_end count (x ∷ xs) in
      let n = group_end p (x ∷ xs) place in
      let at = ends_group p (x ∷ xs) place (share_within count x xs) in
      let rest = drop n (x ∷ xs) in
      let next = are_shards rest most (count - 1) (omega (arith, l, at.behind, length-drop n (x ∷ xs))) in
      record {
        covers = ap (λ l. take n (x ∷ xs) ++ l) next.covers ∙ take-append-drop n (x ∷ xs);
        groups = ap (λ l. split p (take n (x ∷ xs)) ++ l) next.groups ∙ sym at.parts;
        nonempty = (λ e. omega (arith, at.behind, at.within, ap length e, length-take-le n (x ∷ xs) at.within), next.nonempty);
        few =
            few_in _ count _ refl (λ last. ap length (none_in rest most (count - 1) (all_taken count n x xs last at.behind))) next.few;
      }

-- what adds up over lists adds up over the parts of one
pub sum_over : {A : Type 0} (f : List A → ℕ) (adds : (xs ys : List A) → f (xs ++ ys) ≡ f xs + f ys) (parts : List (List A))
    → sum_by f parts ≡ f (concat parts)
sum_over f adds [] = omega (arith, adds [] [])
sum_over f adds (part ∷ parts) =
    omega (arith, sum_by-cons f part parts, sum_over f adds parts, adds part (concat parts))

-- a fold over the groups of each part is one over the groups of all
pub fold_over : {A V : Type 0} (p : A → A → Bool) (op : V → List A → V) (v : V) (parts : List (List A))
    → fold (λ v part. fold op v (split p part)) v parts ≡ fold op v (flat_map (split p) parts)
fold_over p op v [] = refl
fold_over p op v (part ∷ parts) =
    fold_over p op (fold op v (split p part)) parts ∙ sym (fold-append op v (split p part) (flat_map (split p) parts))

-- of groups that are settled
module _ {T J W : Type 0} (w : Way.Ghosts W) (j : Judge.Ghosts J T) (p : T → T → Bool) where
  record Cuts (s : Groups T J) (n : ℕ) (shard : List T) (t : Groups T J) : Type 0 where
    shard_is : shard ≡ take n s.remainder
    rest_is : t.remainder ≡ drop n s.remainder
    settles : w.settled T J j t p

  cuts : (place : ℕ) (s : Groups T J) (shard : List T) (t : Groups T J) → CutsShard (w.asks T J j) place s shard t → w.settled T J j s p
      → Cuts s (group_end p s.remainder place) shard t
  cuts place s shard t h settled =
      let k = ends_at w j p place s (drop place shard) t h.call settled in
      let n : group_end p s.remainder place ≡ length shard = omega (arith, k.0, h.call.nonempty, length-drop place shard) in
      record {
        shard_is = sym (ap (take _) h.cut ∙ take_at shard t.remainder _ (sym n));
        rest_is = sym (ap (drop _) h.cut ∙ drop_at shard t.remainder _ (sym n));
        settles = k.1;
      }

  pub yields_shards : (xs : List T) (most count : ℕ) (s : Shards T J W) → length xs ≤ most → (groups_to_cut s).remainder ≡ xs
      → shards_left s ≡ count → w.settled T J j (groups_to_cut s) p
      → AlwaysYields (GivesShard (w.asks T J j)) (λ x. x.now) s (shards_in p xs most count)
  yields_shards [] most count s l is left m = λ x t h.
      omega (
        arith,
        h.0.call.nonempty,
        ap length (sym h.0.cut ∙ is),
        length-append x.now (groups_to_cut t).remainder,
        length-drop (share_end (shards_left s) (groups_to_cut s).remainder) x.now,
      )
  yields_shards (x ∷ xs) zero count s l is left m = absurd (omega (arith, l))
  yields_shards (x ∷ xs) (suc most) count s l is left m =
      let n = group_end p (x ∷ xs) (share_end count (x ∷ xs)) in
      let at = ends_group p (x ∷ xs) (share_end count (x ∷ xs)) (share_within p count x xs) in (
        λ t h. omega (arith, ap length (sym is ∙ h.0)),
        λ y t h.
            let k = cuts _ (groups_to_cut s) y.now (groups_to_cut t) h.0 m in (
              rw (left, is) at k.shard_is,
              yields_shards (drop n (x ∷ xs)) most (count - 1) t (omega (arith, l, at.behind, length-drop n (x ∷ xs)))
                  (rw (left, is) at k.rest_is) (h.1 ∙ ap (λ (m : ℕ). m - 1) left) k.settles,
            ),
      )
