-- What the pieces of a list share with the list, and with each other.
use Rattle.std.specs.Prelude.{◌≡◌, ◌≢◌, ℕ, ◌+◌, ◌⊎◌, Bool, true, false, cond, List, [], ◌∷◌, ◌++◌, length, get_or, map, flat_map, replicate, sum_by, Some}
use Rattle.std.proofs.Common.{zero, suc, refl, sym, ap, ◌∙◌, subst, length-append, arith, inl, inr}
use Rattle.std.proofs.lemmas.List.{append-nil}
use Rattle.std.proofs.lemmas.List.Elements.{filter-append}
use Rattle.std.proofs.lemmas.List.{length-map, map-id}
use Rattle.std.proofs.lemmas.Simd.{map-map}
use Rattle.std.proofs.lemmas.List.Sums.{sum_by-cons, sum_by-append}
use Rattle.std.specs.List.{AllByRecursion, Contains, dedup, dedup_from, filter}
use Rattle.std.specs.Cmp.{IsTotalOrder, IsPartialEquivalence, per_alike, tied_itself}
use Rattle.std.specs.Ordering.{is_eq}
use Rattle.std.specs.declared.cmp.Ordering.{Ordering}
use Rattle.std.specs.declared.cmp.Ordering.TheVariants.{Less, Equal}
use Rattle.sgb_search.specs.Search.{AlwaysAscends, NeverDescends}
use Rattle.sgb_split.specs.Split.{IsAccepted, concat, first, without_first, put_before, split}
use Rattle.sgb_split.proofs.Lists.AllByRecursion.{all_contains, all_each}
use Rattle.sgb_split.proofs.Lists.Contained.{contains_cases, contains_head, contains_tail}
use Rattle.sgb_split.proofs.Lists.Filters.{keeps_all, keeps_none}
use Rattle.sgb_split.proofs.Lists.Order.{equal_if_tied, turned_around}
use Rattle.sgb_split.proofs.Splits.Split.{split_is}
use Rattle.slice_group_by.specs.Dedup.{counted}
use Rattle.slice_group_by.specs.Keyed.{keyed}
use Rattle.slice_group_by.proofs.Joins.FirstGroups.{IsAbove, Ascends, split_ascends}
use Rattle.slice_group_by.proofs.Joins.JoinPairs.{EachLater, IsUniform, compared_alike, split_uniform}

module _ {T : Type 0} where
  lengths_of : (gs : List (List T)) → sum_by length gs ≡ length (concat gs)
  lengths_of [] = refl
  lengths_of (g ∷ gs) = sum_by-cons length g gs ∙ ap (λ n. length g + n) (lengths_of gs) ∙ sym (length-append g (concat gs))

  pub lengths : (p : T → T → Bool) (xs : List T) → sum_by length (split p xs) ≡ length xs
  lengths p xs = lengths_of (split p xs) ∙ ap length (split_is p xs).covers

  sums_of : (f : T → ℕ) (gs : List (List T)) → sum_by (λ g. sum_by f g) gs ≡ sum_by f (concat gs)
  sums_of f [] = refl
  sums_of f (g ∷ gs) =
      sum_by-cons (λ g. sum_by f g) g gs ∙ ap (λ n. sum_by f g + n) (sums_of f gs) ∙ sym (sum_by-append f g (concat gs))

  pub sums : (p : T → T → Bool) (f : T → ℕ) (xs : List T) → sum_by (λ g. sum_by f g) (split p xs) ≡ sum_by f xs
  sums p f xs = sums_of f (split p xs) ∙ ap (sum_by f) (split_is p xs).covers

  module _ {K : Type 0} (eq : K → K → Bool) (key : T → K) (equal : (a b : K) → eq a b ≡ true → a ≡ b) where
    first_key : (d : T) (g : List T) → IsAccepted (λ x y. eq (key x) (key y)) g → map key g ≡ replicate (length g) (key (get_or g 0 d))
    first_key d [] a = refl
    first_key d (x ∷ []) a = refl
    first_key d (x ∷ y ∷ ys) a =
        ap (λ ks. key x ∷ ks)
        (first_key d (y ∷ ys) a.1 ∙ ap (replicate (length (y ∷ ys))) (sym (equal (key x) (key y) a.0)))

    pub keys_copied : (d : T) (xs g : List T) → Contains (split (λ x y. eq (key x) (key y)) xs) g
        → map key g ≡ replicate (length g) (key (get_or g 0 d))
    keys_copied d xs g c = first_key d g (all_contains (IsAccepted _) (split _ xs) g (split_is _ xs).accepted c)

  module _ (p : T → T → Bool) (equal : (x y : T) → p x y ≡ true → x ≡ y) where
    copied : (x : T) (xs : List T) → IsAccepted p (x ∷ xs) → x ∷ xs ≡ replicate (length (x ∷ xs)) x
    copied x xs a = sym (map-id (x ∷ xs)) ∙ first_key p (λ y. y) equal x (x ∷ xs) a

    copies : (g : List T) (x : T) → IsAccepted p g → first g ≡ Some x → g ≡ replicate (length g) x
    copies [] x a f = refl
    copies (y ∷ ys) x a f = let same : y ≡ x = cc f in subst (λ z. y ∷ ys ≡ replicate (length (y ∷ ys)) z) same (copied y ys a)

    pub piece_copied : (xs g : List T) (x : T) → Contains (split p xs) g → first g ≡ Some x → g ≡ replicate (length g) x
    piece_copied xs g x c = copies g x (all_contains (IsAccepted p) (split p xs) g (split_is p xs).accepted c)

    each_back : (d : T) (gs : List (List T)) → AllByRecursion (IsAccepted p) gs → map (λ g. replicate (length g) (get_or g 0 d)) gs ≡ gs
    each_back d [] a = refl
    each_back d ([] ∷ gs) a = ap (λ hs. [] ∷ hs) (each_back d gs a.1)
    each_back d ((x ∷ xs) ∷ gs) a =
        ap (λ g. g ∷ map (λ g. replicate (length g) (get_or g 0 d)) gs) (sym (copied x xs a.0))
        ∙ ap (λ hs. (x ∷ xs) ∷ hs) (each_back d gs a.1)

    decoded : (gs : List (List T)) → AllByRecursion (IsAccepted p) gs → flat_map (λ r. replicate r.0 r.1) (counted gs) ≡ concat gs
    decoded [] a = refl
    decoded ([] ∷ gs) a = decoded gs a.1
    decoded ((x ∷ xs) ∷ gs) a = λ i. sym (copied x xs a.0) i ++ decoded gs a.1 i

    pub decodes : (xs : List T) → flat_map (λ r. replicate r.0 r.1) (counted (split p xs)) ≡ xs
    decodes xs = decoded (split p xs) (split_is p xs).accepted ∙ (split_is p xs).covers

    pub copied_back : (d : T) (xs : List T) → map (λ g. replicate (length g) (get_or g 0 d)) (split p xs) ≡ split p xs
    copied_back d xs = each_back d (split p xs) (split_is p xs).accepted

-- a test of keys is one of the elements
pub by_keys : {T K : Type 0} (eq : K → K → Bool) → IsPartialEquivalence eq → (key : T → K)
    → IsPartialEquivalence (λ x y. eq (key x) (key y))
by_keys eq per key = record {
  symm = λ x y. per.symm (key x) (key y);
  trans = λ x y z. per.trans (key x) (key y) (key z);
}

-- what is accepted side by side is accepted at any two places, if each element is accepted beside itself
module _ {T : Type 0} (p : T → T → Bool) (per : IsPartialEquivalence p) (same : (x : T) → p x x ≡ true) where
  alike_first : (x : T) (xs : List T) → IsAccepted p (x ∷ xs) → (y : T) → Contains (x ∷ xs) y → p x y ≡ true
  alike_first x xs a y (zero, l, e) = subst (λ z. p x z ≡ true) (cc e) (same x)
  alike_first x [] a y (suc k, l, e) = absurd (omega (arith, l))
  alike_first x (z ∷ zs) a y (suc k, l, e) = per.trans x z y a.0 (alike_first z zs a.1 y (k, omega (arith, l), e))

  all_alike : (g : List T) → IsAccepted p g → (x y : T) → Contains g x → Contains g y → p x y ≡ true
  all_alike [] a x y c d = absurd (omega (arith, c.1))
  all_alike (z ∷ zs) a x y c d = per.trans x z y (per.symm x z ∙ alike_first z zs a x c) (alike_first z zs a y d)

  pub piece_alike : (xs g : List T) (x y : T) → Contains (split p xs) g → Contains g x → Contains g y → p x y ≡ true
  piece_alike xs g x y c = all_alike g (all_contains (IsAccepted p) (split p xs) g (split_is p xs).accepted c) x y

-- the first elements of the pieces, for a test that is symmetric and transitive
module _ {T : Type 0} (p : T → T → Bool) (per : IsPartialEquivalence p) where
  firsts_put : (b : Bool) (x : T) (gs : List (List T))
      → map first (put_before p b x gs) ≡ Some x ∷ without_first (map first (put_before p b x gs))
  firsts_put true x [] = refl
  firsts_put true x (g ∷ gs) = refl
  firsts_put false x gs = refl

  firsts_split : (x : T) (xs : List T) → map first (split p (x ∷ xs)) ≡ Some x ∷ without_first (map first (split p (x ∷ xs)))
  firsts_split x [] = refl
  firsts_split x (y ∷ ys) = firsts_put (p x y) x (split p (y ∷ ys))

  -- those after the first do not depend on the element that is put before the pieces
  later_put : (b : Bool) (x y : T) (gs : List (List T))
      → without_first (map first (put_before p b x gs)) ≡ without_first (map first (put_before p b y gs))
  later_put true x y [] = refl
  later_put true x y (g ∷ gs) = refl
  later_put false x y gs = refl

  later_alike : (x y : T) (zs : List T) → p x y ≡ true
      → without_first (map first (split p (x ∷ zs))) ≡ without_first (map first (split p (y ∷ zs)))
  later_alike x y [] e = refl
  later_alike x y (z ∷ zs) e =
      later_put (p x z) x y (split p (z ∷ zs))
      ∙ ap (λ b. without_first (map first (put_before p b y (split p (z ∷ zs))))) (per_alike per x y z e)

  later_joined : (x : T) (gs : List (List T)) → without_first (map first (put_before p true x gs)) ≡ without_first (map first gs)
  later_joined x [] = refl
  later_joined x (g ∷ gs) = refl

  firsts_from : (x : T) (xs : List T) → map first (split p (x ∷ xs)) ≡ map Some (dedup_from p x xs)
  firsts_from x [] = refl
  firsts_from x (y ∷ ys) =
      by (p x y) refl (firsts_from x ys) (firsts_from y ys)
      ∙ ap (λ b. map Some (cond b (dedup_from p x ys) (x ∷ dedup_from p y ys))) (per.symm x y)
    where
      by : (b : Bool) → p x y ≡ b → map first (split p (x ∷ ys)) ≡ map Some (dedup_from p x ys)
          → map first (split p (y ∷ ys)) ≡ map Some (dedup_from p y ys)
          → map first (put_before p b x (split p (y ∷ ys))) ≡ map Some (cond b (dedup_from p x ys) (x ∷ dedup_from p y ys))
      by true e same other =
          firsts_put true x (split p (y ∷ ys))
          ∙ ap (λ os. Some x ∷ os) (later_joined x (split p (y ∷ ys)) ∙ sym (later_alike x y ys e))
          ∙ sym (firsts_split x ys) ∙ same
      by false e same other = ap (λ os. Some x ∷ os) other

  pub firsts : (xs : List T) → map first (split p xs) ≡ map Some (dedup p xs)
  firsts [] = refl
  firsts (x ∷ xs) = firsts_from x xs

  begun : (g : List T) (x d : T) → first g ≡ Some x → get_or g 0 d ≡ x
  begun [] x d h = cc h
  begun (y ∷ ys) x d h = cc h

  begins : (d : T) (gs : List (List T)) (ys : List T) → map first gs ≡ map Some ys → map (λ g. get_or g 0 d) gs ≡ ys
  begins d [] [] h = refl
  begins d [] (y ∷ ys) h = cc h
  begins d (g ∷ gs) [] h = cc h
  begins d (g ∷ gs) (y ∷ ys) h =
      let head : first g ≡ Some y = cc h in
      let tail : map first gs ≡ map Some ys = cc h in
      ap (λ x. x ∷ map (λ g. get_or g 0 d) gs) (begun g y d head) ∙ ap (λ zs. y ∷ zs) (begins d gs ys tail)

  pub begin_as : (d : T) (xs : List T) → map (λ g. get_or g 0 d) (split p xs) ≡ dedup p xs
  begin_as d xs = begins d (split p xs) (dedup p xs) (firsts xs)

  pub as_many : (xs : List T) → length (split p xs) ≡ length (dedup p xs)
  as_many xs = sym (length-map (split p xs) first) ∙ ap length (firsts xs) ∙ length-map (dedup p xs) Some

module _ {T K : Type 0} (eq : K → K → Bool) (key : T → K) where
  abbrev by_key : T → T → Bool
  by_key x y = eq (key x) (key y)

  keys_from : (x : T) (xs : List T) → map key (dedup_from by_key x xs) ≡ dedup_from eq (key x) (map key xs)
  keys_from x [] = refl
  keys_from x (y ∷ ys) = by (by_key y x) (keys_from x ys) (keys_from y ys)
    where
      by : (b : Bool) → map key (dedup_from by_key x ys) ≡ dedup_from eq (key x) (map key ys)
          → map key (dedup_from by_key y ys) ≡ dedup_from eq (key y) (map key ys)
          → map key (cond b (dedup_from by_key x ys) (x ∷ dedup_from by_key y ys))
          ≡ cond b (dedup_from eq (key x) (map key ys)) (key x ∷ dedup_from eq (key y) (map key ys))
      by true one other = one
      by false one other = ap (λ ks. key x ∷ ks) other

  pub keys_once : (xs : List T) → map key (dedup by_key xs) ≡ dedup eq (map key xs)
  keys_once [] = refl
  keys_once (x ∷ xs) = keys_from x xs

module _ {K : Type 0} (cmp : K → K → Ordering) (o : IsTotalOrder cmp) (eq : K → K → Bool)
    (ties : (x y : K) → eq x y ≡ is_eq (cmp x y)) {T : Type 0} (key : T → K) where
  abbrev same : T → T → Bool
  same x y = eq (key x) (key y)

  alike : (g : List T) → IsUniform cmp o eq ties key g → (x y : T) → Contains g x → Contains g y → same x y ≡ true
  alike [] u x y c d = absurd u
  alike (z ∷ zs) u x y c d =
      equal_if_tied cmp eq ties (key x) (key y)
      (compared_alike cmp o eq ties (key z) (key z) (key x) (key y) Equal (u x c) (u y d) (tied_itself o (key z)))

  -- each element of the one piece has a lesser key than each of the other
  abbrev pub KeysBelow : List T → List T → Type 0
  KeysBelow g h = (x y : T) → Contains g x → Contains h y → cmp (key x) (key y) ≡ Less

  below : (x : T) (xs : List T) (gs : List (List T)) → IsUniform cmp o eq ties key (x ∷ xs) → AllByRecursion (IsAbove cmp key (key x)) gs
      → AllByRecursion (IsUniform cmp o eq ties key) gs → AllByRecursion (KeysBelow (x ∷ xs)) gs
  below x xs [] u a v = tt
  below x xs ([] ∷ gs) u a v = absurd a.0
  below x xs ((y ∷ ys) ∷ gs) u a v = (
    λ z w c d. compared_alike cmp o eq ties (key x) (key y) (key z) (key w) Less (u z c) (v.0 w d) a.0,
    below x xs gs u a.1 v.1,
  )

  climb : (gs : List (List T)) → AllByRecursion (IsUniform cmp o eq ties key) gs → Ascends cmp key gs → EachLater KeysBelow gs
  climb [] u a = tt
  climb ([] ∷ gs) u a = absurd a
  climb ((x ∷ xs) ∷ gs) u a = (below x xs gs u.0 a.0 u.1, climb gs u.1 a.1)

  pub pieces_climb : (xs : List T) → NeverDescends cmp (map key xs) → EachLater KeysBelow (split same xs)
  pieces_climb xs h = climb (split same xs) (split_uniform cmp o eq ties key xs) (split_ascends cmp key o eq ties xs h)

  -- a filter by the key of an element of one piece keeps that piece: those before it have lesser keys, and those after it greater ones
  kept : (gs : List (List T)) → AllByRecursion (IsUniform cmp o eq ties key) gs → EachLater KeysBelow gs → (g : List T) (x : T)
      → Contains gs g → Contains g x → filter (λ y. same y x) (concat gs) ≡ g
  kept [] u l g x c d = absurd (omega (arith, c.1))
  kept (h ∷ hs) u l g x c d =
      filter-append (λ y. same y x) h (concat hs) ∙ by (contains_cases h hs g c) (λ later. kept hs u.1 l.1 g x later d)
    where
      none : (ks : List (List T)) → AllByRecursion (λ k. (y : T) → Contains k y → same y x ≡ false) ks
          → filter (λ y. same y x) (concat ks) ≡ []
      none [] a = refl
      none (k ∷ ks) a = filter-append (λ y. same y x) k (concat ks) ∙ (λ i. keeps_none _ k a.0 i ++ none ks a.1 i)

      by : (h ≡ g) ⊎ Contains hs g → (Contains hs g → filter (λ y. same y x) (concat hs) ≡ g)
          → filter (λ y. same y x) h ++ filter (λ y. same y x) (concat hs) ≡ g
      by (inl e) rest =
          let at : Contains h x = subst (λ k. Contains k x) (sym e) d in
          let greater : AllByRecursion (λ k. (y : T) → Contains k y → same y x ≡ false) hs =
          all_each _ _ (λ k b y c. ties (key y) (key x) ∙ ap is_eq (turned_around cmp o (key x) (key y) Less (b x y at c))) hs l.0 in
          (λ i. keeps_all _ h (λ y c. alike h u.0 y x c at) i ++ none hs greater i) ∙ append-nil h ∙ e
      by (inr later) rest =
          let lesser : (y : T) → Contains h y → same y x ≡ false =
          λ y c. ties (key y) (key x) ∙ ap is_eq (all_contains (KeysBelow h) hs g l.0 later y x c d) in
          λ i. keeps_none _ h lesser i ++ rest later i

  pub piece_filter : (xs g : List T) (x : T) → NeverDescends cmp (map key xs) → Contains (split same xs) g → Contains g x
      → g ≡ filter (λ y. same y x) xs
  piece_filter xs g x h c d =
      sym (kept (split same xs) (split_uniform cmp o eq ties key xs) (pieces_climb xs h) g x c d)
      ∙ ap (filter (λ y. same y x)) (split_is same xs).covers

  -- lists that are filters by the keys of their elements, each with its key
  with_keys : (xs : List T) (gs : List (List T)) (ys : List T) → map first gs ≡ map Some ys
      → ((g : List T) (x : T) → Contains gs g → Contains g x → g ≡ filter (λ y. same y x) xs)
      → keyed key gs ≡ map (λ y. (key y, filter (λ z. same z y) xs)) ys
  with_keys xs [] [] h each = refl
  with_keys xs [] (y ∷ ys) h each = absurd (cc h)
  with_keys xs ([] ∷ gs) [] h each = absurd (cc h)
  with_keys xs ([] ∷ gs) (y ∷ ys) h each = absurd (cc h)
  with_keys xs ((x ∷ g) ∷ gs) [] h each = absurd (cc h)
  with_keys xs ((x ∷ g) ∷ gs) (y ∷ ys) h each =
      let head : x ≡ y = cc h in
      let tail : map first gs ≡ map Some ys = cc h in
      let here = each (x ∷ g) x (contains_head (x ∷ g) gs) (contains_head x g) in
      (λ i. (key x, here i) ∷ with_keys xs gs ys tail (λ k z c. each k z (contains_tail (x ∷ g) gs k c)) i)
      ∙ ap (λ z. (key z, filter (λ w. same w z) xs) ∷ map (λ y. (key y, filter (λ z. same z y) xs)) ys) head

  pub keyed_filters : IsPartialEquivalence eq → (xs : List T) → NeverDescends cmp (map key xs)
      → keyed key (split same xs) ≡ map (λ k. (k, filter (λ y. eq (key y) k) xs)) (dedup eq (map key xs))
  keyed_filters per xs h =
      with_keys xs (split same xs) (dedup same xs) (firsts same (by_keys eq per key) xs) (λ g x. piece_filter xs g x h)
      ∙ sym (map-map (λ k. (k, filter (λ y. eq (key y) k) xs)) key (dedup same xs))
      ∙ ap (map (λ k. (k, filter (λ y. eq (key y) k) xs))) (keys_once eq key xs)

  -- the keys of the first elements ascend as the pieces do
  heads_climb : (gs : List (List T)) (ys : List T) → map first gs ≡ map Some ys → Ascends cmp key gs → AlwaysAscends cmp (map key ys)
  heads_climb gs [] h a = tt
  heads_climb gs (y ∷ []) h a = tt
  heads_climb [] (y ∷ z ∷ ys) h a = absurd (cc h)
  heads_climb (g ∷ []) (y ∷ z ∷ ys) h a = absurd (cc h)
  heads_climb ([] ∷ (g ∷ gs)) (y ∷ z ∷ ys) h a = absurd (cc h)
  heads_climb ((x ∷ xs) ∷ ([] ∷ gs)) (y ∷ z ∷ ys) h a = absurd (cc h)
  heads_climb ((x ∷ xs) ∷ ((w ∷ ws) ∷ gs)) (y ∷ z ∷ ys) h a =
      let head : x ≡ y = cc h in
      let next : w ≡ z = cc h in
      let tail : map first ((w ∷ ws) ∷ gs) ≡ map Some (z ∷ ys) = cc h in (
        subst (λ v. cmp (key v) (key z) ≡ Less) head (subst (λ v. cmp (key x) (key v) ≡ Less) next a.0.0),
        heads_climb ((w ∷ ws) ∷ gs) (z ∷ ys) tail a.1,
      )

  pub firsts_climb : IsPartialEquivalence eq → (xs : List T) → NeverDescends cmp (map key xs)
      → AlwaysAscends cmp (map key (dedup same xs))
  firsts_climb per xs h =
      heads_climb (split same xs) (dedup same xs) (firsts same (by_keys eq per key) xs) (split_ascends cmp key o eq ties xs h)

-- groups that are not empty, with the keys of their first elements
pub keyed_by_first : {T K : Type 0} (key : T → K) (d : T) (gs : List (List T)) → AllByRecursion (λ g. g ≢ []) gs
    → map {B = K × List T} (λ g. (key (get_or g 0 d), g)) gs ≡ keyed key gs
keyed_by_first key d [] some = refl
keyed_by_first key d ([] ∷ gs) some = absurd (some.0 refl)
keyed_by_first key d ((x ∷ xs) ∷ gs) some = ap (λ l. (key x, x ∷ xs) ∷ l) (keyed_by_first key d gs some.1)
