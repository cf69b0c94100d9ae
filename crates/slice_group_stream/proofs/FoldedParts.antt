-- A fold over parts is a fold over the groups that they make.
use Rattle.std.proofs.Common.{◌≡◌, ◌≢◌, ℕ, zero, suc, ◌+◌, length, get_or, Bool, true, false, cond, ◌&&◌, List, [], ◌∷◌, ◌++◌, flat_map, map, refl, sym, ap, ◌∙◌, arith}
use Rattle.std.specs.List.{AllByRecursion, count_by, fold}
use Rattle.std.proofs.Math.ListN.{set}
use Rattle.std.proofs.lemmas.Grind.{flat_map-append}
use Rattle.std.proofs.lemmas.List.{append-nil}
use Rattle.std.proofs.lemmas.List.Concat.{flat_map_single}
use Rattle.std.proofs.lemmas.List.Sums.{sum_by-append}
use Rattle.slice_group_stream.specs.Streams.{add_part, add_values, change_last, of_nonempty, with_part, with_parts}

module _ {A : Type 0} where
  abbrev pub AllSome : List (List A) → Type 0
  AllSome gs = AllByRecursion (λ g. g ≢ []) gs

  longer_some : (g part : List A) → g ≢ [] → g ++ part ≢ []
  longer_some [] part n = absurd (n refl)
  longer_some (x ∷ xs) part n = λ e. cc e

  still_some : (gs : List (List A)) (b : Bool) (part : List A) → AllSome gs → part ≢ [] → AllSome (with_part gs (b, part))
  still_some [] true part h n = (n, tt)
  still_some (g ∷ gs) true part h n = (h.0, still_some gs true part h.1 n)
  still_some [] false part h n = tt
  still_some (g ∷ []) false part h n = (longer_some g part h.0, tt)
  still_some (g ∷ k ∷ ks) false part h n = (h.0, still_some (k ∷ ks) false part h.1 n)

-- each group has one value
module _ {A V : Type 0} (f : List A → List V) (more : V → List A → V) (one : (g : List A) → g ≢ [] → (v : V) × (f g ≡ v ∷ []))
    (adds : (g part : List A) → g ≢ [] → part ≢ [] → change_last (λ v. more v part) (f g) ≡ f (g ++ part)) where
  last_changed : (gs : List (List A)) (part : List A) → AllSome gs → part ≢ []
      → change_last (λ v. more v part) (flat_map f gs) ≡ flat_map f (with_part gs (false, part))
  last_changed [] part h n = refl
  last_changed (g ∷ []) part h n = rw (append-nil (f g), append-nil (f (g ++ part))) (adds g part h.0 n)
  last_changed (g ∷ k ∷ ks) part h n =
      let first = one g h.0 in
      let next = one k h.1.0 in
      rw (first.1, next.1) (ap (λ l. first.0 ∷ l) (rw next.1 at (last_changed (k ∷ ks) part h.1 n)))

  one_added : (gs : List (List A)) (b : Bool) (part : List A) → AllSome gs → part ≢ []
      → add_values f more (flat_map f gs) (b, part) ≡ flat_map f (with_part gs (b, part))
  one_added gs true part h n = sym (flat_map-append f gs (part ∷ []) ∙ ap (λ l. flat_map f gs ++ l) (append-nil (f part)))
  one_added gs false part h n = last_changed gs part h n

  pub all_added : (gs : List (List A)) (parts : List (Bool × List A)) → AllSome gs → AllSome (map (λ x. x.1) parts)
      → fold (add_values f more) (flat_map f gs) parts ≡ flat_map f (with_parts gs parts)
  all_added gs [] h n = refl
  all_added gs (x ∷ xs) h n =
      ap (λ vs. fold (add_values f more) vs xs) (one_added gs x.0 x.1 h n.0)
      ∙ all_added (with_part gs x) xs (still_some gs x.0 x.1 h n.0) n.1

pub folded : {A V : Type 0} (f : List A → V) (more : V → List A → V)
    → ((g part : List A) → g ≢ [] → part ≢ [] → more (f g) part ≡ f (g ++ part)) → (gs : List (List A)) (parts : List (Bool × List A))
    → AllSome gs → AllSome (map (λ x. x.1) parts) → fold (add_part f more) (map f gs) parts ≡ map f (with_parts gs parts)
folded f more adds gs parts h n =
    ap (λ vs. fold (add_part f more) vs parts) (sym (flat_map_single f gs))
    ∙ all_added (λ g. f g ∷ []) more (λ g k. (f g, refl)) (λ g part h n. ap (λ v. v ∷ []) (adds g part h n)) gs parts h n
    ∙ flat_map_single f (with_parts gs parts)

pub folded_nonempty : {A V : Type 0} (first : A → List A → V) (more : V → List A → V)
    → ((x : A) (others part : List A) → part ≢ [] → more (first x others) part ≡ first x (others ++ part))
    → (gs : List (List A)) (parts : List (Bool × List A)) → AllSome gs → AllSome (map (λ x. x.1) parts)
    → fold (add_values (of_nonempty first) more) (flat_map (of_nonempty first) gs) parts
    ≡ flat_map (of_nonempty first) (with_parts gs parts)
folded_nonempty {A} {V} first more adds = all_added (of_nonempty first) more one grown
  where
    one : (g : List A) → g ≢ [] → (v : V) × (of_nonempty first g ≡ v ∷ [])
    one [] n = absurd (n refl)
    one (x ∷ xs) n = (first x xs, refl)

    grown : (g part : List A) → g ≢ [] → part ≢ [] → change_last (λ v. more v part) (of_nonempty first g) ≡ of_nonempty first (g ++ part)
    grown [] part n k = absurd (n refl)
    grown (x ∷ xs) part n k = ap (λ v. v ∷ []) (adds x xs part k)

module _ {A : Type 0} (q : List A → Bool) (stays : (g part : List A) → g ≢ [] → q (g ++ part) ≡ q g) where
  count_first : (g : List A) (gs : List (List A)) → count_by q (g ∷ gs) ≡ cond (q g) 1 0 + count_by q gs
  count_first g gs = omega (arith, sum_by-append (λ (h : List A). cond (q h) 1 0) (g ∷ []) gs)

  one_counted : (gs : List (List A)) (b : Bool) (part : List A) → AllSome gs
      → count_by q (with_part gs (b, part)) ≡ count_by q gs + cond (b && q part) 1 0
  one_counted gs true part h = omega (arith, sum_by-append (λ (g : List A). cond (q g) 1 0) gs (part ∷ []))
  one_counted [] false part h = refl
  one_counted (g ∷ []) false part h = rw (stays g part h.0) (omega arith)
  one_counted (g ∷ k ∷ ks) false part h =
      let others = one_counted (k ∷ ks) false part h.1 in
      omega (arith, count_first g (with_part (k ∷ ks) (false, part)), count_first g (k ∷ ks), others)

  pub counted : (gs : List (List A)) (parts : List (Bool × List A)) → AllSome gs → AllSome (map (λ x. x.1) parts)
      → count_by q (with_parts gs parts) ≡ count_by q gs + count_by (λ x. x.0 && q x.1) parts
  counted gs [] h n = omega arith
  counted gs (x ∷ xs) h n =
      counted (with_part gs x) xs (still_some gs x.0 x.1 h n.0) n.1
      ∙ omega (arith, one_counted gs x.0 x.1 h, sum_by-append (λ (y : Bool × List A). cond (y.0 && q y.1) 1 0) (x ∷ []) xs)

-- the last value, changed where it stands
pub last_set : {V : Type 0} (h : V → V) (vs : List V) (i : ℕ) (v : V) → i + 1 ≡ length vs → v ≡ get_or vs i v → set vs i (h v) ≡ change_last h vs
last_set h [] i v e is = absurd (omega arith)
last_set h (w ∷ []) zero v e is = ap (λ x. h x ∷ []) is
last_set h (w ∷ []) (suc i) v e is = absurd (omega arith)
last_set h (w ∷ x ∷ xs) zero v e is = absurd (omega arith)
last_set h (w ∷ x ∷ xs) (suc i) v e is = ap (λ l. w ∷ l) (last_set h (x ∷ xs) i v (omega arith) is)
