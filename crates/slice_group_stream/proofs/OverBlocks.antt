-- A counter that each question about the blocks of a stream raises.
use Rattle.std.specs.Borrow.{Bor}
use Rattle.std.specs.Fn.{CalledAt, Mut}
use Rattle.std.proofs.Common.{min, Option, ◌≡◌, ℕ, ◌+◌, ◌-◌, ◌*◌, ◌<◌, Bool, List, [], ◌∷◌, ◌++◌, length, map, refl, ap, ◌∙◌, arith}
use Rattle.std.proofs.lemmas.List.{length-append, length-map}
use Rattle.sgb_split.proofs.Lists.Pairs.{length-neighbours}
use Rattle.sgb_split.specs.Judges.{IsRun, by_key}
use Rattle.sgb_split.specs.declared.judge.KeyJudge.{KeyJudge}
use Rattle.sgb_split.specs.Split.{last, neighbours}
use Rattle.slice_group_stream.specs.Streams.{AsksEnds, across, pair_list}
use Rattle.slice_group_stream.proofs.JoinedParts.{last_some}
use Rattle.sgb_split.proofs.Questions.Counting.{counts_just, times_due}

-- the pair across and the neighbours of the block are what a walk asks more
pairs_more : {T : Type 0} (before block : List T)
    → (length (pair_list (across (last before) block)) + (length block - 1)) + (length before - 1) ≡ length (before ++ block) - 1
pairs_more [] block = omega arith
pairs_more (x ∷ xs) [] =
    let z = last_some x xs in
    rw z.1 (omega (arith, length-append (x ∷ xs) []))
pairs_more (x ∷ xs) (y ∷ ys) =
    let z = last_some x xs in
    rw z.1 (omega (arith, length-append (x ∷ xs) (y ∷ ys)))

module _ {T J : Type 0} (may : J → T × T → Type 0) (gives : J → T × T → Bool → J → Type 0) (count name : J → ℕ) (each limit : ℕ)
    (step : (j k : J) (q : T × T) (a : Bool) → gives j q a k → (name k ≡ name j) × (count j + each < limit → count k ≡ count j + each)) where
  pub counts_block : (before block : List T) (answer : Bool) (j k l : J)
      → IsRun may gives j (map (λ q. (q, answer)) (pair_list (across (last before) block))) k
      → (rs : List ((T × T) × Bool)) → IsRun may gives k rs l → map (λ r. r.0) rs ≡ neighbours block
      → (each * (length before - 1) < limit → count j ≡ each * (length before - 1))
      → (name l ≡ name j) × (each * (length (before ++ block) - 1) < limit → count l ≡ each * (length (before ++ block) - 1))
  counts_block before block answer j k l first rs others are so_far =
      let pairs = pair_list (across (last before) block) in
      let len : length rs ≡ length block - 1 =
      omega (arith, length-map rs (λ (r : (T × T) × Bool). r.0), ap length are, length-neighbours block) in
      let a = counts_just may gives count name each limit step (length pairs) j k (map (λ q. (q, answer)) pairs, first, length-map pairs _) in
      let b = counts_just may gives count name each limit step (length block - 1) k l (rs, others, len) in
      let of_block = times_due each (length pairs) (length block - 1) (length pairs + (length block - 1)) refl in
      let of_all =
      times_due each (length pairs + (length block - 1)) (length before - 1) (length (before ++ block) - 1) (pairs_more before block) in (
        b.0 ∙ a.0,
        λ fits.
            let c = so_far (omega (arith, fits, of_all)) in
            let d = a.1 (omega (arith, fits, of_all, of_block, c)) in
            omega (arith, b.1 (omega (arith, fits, of_all, of_block, c, d)), of_all, of_block, c, d),
      )

-- by a key: two calls at the ends of the block, and two for each pair
module _ {F T K : Type 0} (g : Mut F (Bor T × Unit {0}) K) (eq : K → K → Bool) (count name : F → ℕ) (each limit : ℕ)
    (step : (f h : F) (x : T) (k : K) → CalledAt g f x k h → (name h ≡ name f) × (count f + each < limit → count h ≡ count f + each)) where
  two_calls : (f m h : F) (x y : T) (k l : K) → CalledAt g f x k m → CalledAt g m y l h
      → (name h ≡ name f) × (count f + 2 * each < limit → count h ≡ count f + 2 * each)
  two_calls f m h x y k l a b =
      let p = step f m x k a in
      let q = step m h y l b in
      (q.0 ∙ p.0, λ fits. let e = p.1 (omega (arith, fits)) in omega (arith, q.1 (omega (arith, e, fits)), e))

  at_ends : (block : List T) (f h : F) (before after : Option K) (begins : Bool) → AsksEnds g eq block f before begins after h
      → (name h ≡ name f) × (count f + 2 * each * min 1 (length block) < limit → count h ≡ count f + 2 * each * min 1 (length block))
  at_ends [] f h before after begins same = rw same.0 (refl, λ fits. omega arith)
  at_ends (x ∷ xs) f h before after begins asks =
      let z = last_some x xs in
      let calls = (rw z.1 at asks).0 in
      let k = two_calls f calls.between h x z.0 calls.first_key calls.last_key calls.first_call calls.last_call in
      let one : min 1 (length (x ∷ xs)) ≡ 1 = omega arith in
      rw one (k.0, λ fits. omega (arith, k.1 (omega (arith, fits))))

  pub counts_keys : (elements : ℕ) (block : List T) (f : F) (before after : Option K) (begins : Bool) (j l : KeyJudge F K)
      → AsksEnds g eq block f before begins after j.func
      → (rs : List ((T × T) × Bool)) → IsRun (by_key g eq).may_ask (by_key g eq).answers j rs l → map (λ r. r.0) rs ≡ neighbours block
      → (each * (2 * elements) < limit → count f ≡ each * (2 * elements))
      → (name l.func ≡ name f)
      × (each * (2 * (elements + length block)) < limit → count l.func ≡ each * (2 * (elements + length block)))
  counts_keys elements block f before after begins j l ends rs run are so_far =
      let len : length rs ≡ length block - 1 =
      omega (arith, length-map rs (λ (r : (T × T) × Bool). r.0), ap length are, length-neighbours block) in
      let a = at_ends block f j.func before after begins ends in
      let b =
      counts_just (by_key g eq).may_ask (by_key g eq).answers (λ j. count j.func) (λ j. name j.func) (2 * each) limit
      (λ s u q answer h. two_calls s.func h.state_between u.func q.0 q.1 h.first_key h.second_key h.first_call h.second_call)
      (length block - 1) j l (rs, run, len) in
      let of_block = times_due (2 * each) (min 1 (length block)) (length block - 1) (length block) (omega arith) in
      let of_all = times_due (2 * each) elements (length block) (elements + length block) refl in (
        b.0 ∙ a.0,
        λ fits.
            let c = so_far (omega (arith, fits, of_all)) in
            let d = a.1 (omega (arith, fits, of_all, of_block, c)) in
            omega (arith, b.1 (omega (arith, fits, of_all, of_block, c, d)), of_all, of_block, c, d),
      )
