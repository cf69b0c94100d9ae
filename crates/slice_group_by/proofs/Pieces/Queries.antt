-- Filters over pieces, and the places of pieces, as filters and counts of the whole list.
use Rattle.std.specs.Prelude.{◌≡◌, ◌≢◌, ℕ, ◌+◌, Bool, true, false, cond, List, [], ◌∷◌, ◌++◌, length, get_or, map, count_by}
use Rattle.std.proofs.Common.{refl, sym, ap, ◌∙◌, append_assoc, length-append, arith}
use Rattle.std.proofs.Math.Logic.{⊎_elim}
use Rattle.std.proofs.lemmas.List.{append-nil}
use Rattle.std.proofs.lemmas.List.Elements.{Contains-append_cases, filter-append}
use Rattle.std.proofs.lemmas.List.Sums.{length-filter}
use Rattle.std.proofs.lemmas.Simd.{map-map}
use Rattle.std.specs.List.{AllByRecursion, Contains, dedup, filter}
use Rattle.std.specs.Cmp.{IsTotalOrder, IsPartialEquivalence}
use Rattle.std.specs.Ordering.{is_eq, is_lt}
use Rattle.std.specs.declared.cmp.Ordering.{Ordering}
use Rattle.std.specs.declared.cmp.Ordering.TheVariants.{Less, Equal}
use Rattle.sgb_search.specs.Search.{NeverDescends}
use Rattle.sgb_split.specs.Split.{IsAccepted, concat, split}
use Rattle.sgb_split.proofs.Lists.AllByRecursion.{all_contains, all_when}
use Rattle.sgb_split.proofs.Lists.Contained.{contains_head}
use Rattle.sgb_split.proofs.Lists.Filters.{keeps_all, keeps_none}
use Rattle.sgb_split.proofs.Lists.Order.{turned_around}
use Rattle.sgb_split.proofs.Splits.Split.{split_is}
use Rattle.slice_group_by.specs.Offsets.{with_offsets}
use Rattle.slice_group_by.proofs.Joins.JoinPairs.{EachLater, IsUniform, split_uniform}
use Rattle.slice_group_by.proofs.Pieces.PiecesOfLists.{KeysBelow, begin_as, by_keys, keyed_by_first, keyed_filters, keys_once, pieces_climb}

-- a test that answers alike on two that the split accepts keeps all of a piece, or none
module _ {T : Type 0} (p : T → T → Bool) (keep : T → Bool) (alike : (x y : T) → p x y ≡ true → keep x ≡ keep y) where
  all_or_none : (b : Bool) (x : T) (xs : List T) → IsAccepted p (x ∷ xs) → keep x ≡ b → filter keep (x ∷ xs) ≡ cond b (x ∷ xs) []
  all_or_none true x [] a e = rw e refl
  all_or_none false x [] a e = rw e refl
  all_or_none true x (y ∷ ys) a e = rw e (ap (λ l. x ∷ l) (all_or_none true y ys a.1 (sym (alike x y a.0) ∙ e)))
  all_or_none false x (y ∷ ys) a e = rw e (all_or_none false y ys a.1 (sym (alike x y a.0) ∙ e))

  joined : (b : Bool) (g : List T) (gs : List (List T)) → concat (cond b (g ∷ gs) gs) ≡ cond b g [] ++ concat gs
  joined true g gs = refl
  joined false g gs = refl

  passed : (d : T) (gs : List (List T)) → AllByRecursion (λ g. g ≢ []) gs → AllByRecursion (IsAccepted p) gs
      → concat (filter (λ g. keep (get_or g 0 d)) gs) ≡ filter keep (concat gs)
  passed d [] n a = refl
  passed d ([] ∷ gs) n a = absurd (n.0 refl)
  passed d ((x ∷ xs) ∷ gs) n a =
      joined (keep x) (x ∷ xs) (filter (λ g. keep (get_or g 0 d)) gs)
      ∙ (λ i. sym (all_or_none (keep x) x xs a.0 refl) i ++ passed d gs n.1 a.1 i) ∙ sym (filter-append keep (x ∷ xs) (concat gs))

  pub passed_pieces : (d : T) (xs : List T) → concat (filter (λ g. keep (get_or g 0 d)) (split p xs)) ≡ filter keep xs
  passed_pieces d xs =
      let is = split_is p xs in
      passed d (split p xs) is.nonempty is.accepted ∙ ap (filter keep) is.covers

filter_mapped : {X Y : Type 0} (p : Y → Bool) (f : X → Y) (xs : List X) → filter p (map f xs) ≡ map f (filter (λ x. p (f x)) xs)
filter_mapped p f [] = refl
filter_mapped p f (x ∷ xs) =
    let kept = filter (λ x. p (f x)) xs in
    let so = filter_mapped p f xs in
    elim (p (f x)) as (λ b. cond b (f x ∷ filter p (map f xs)) (filter p (map f xs)) ≡ map f (cond b (x ∷ kept) kept)) [
      | true ↦ ap (λ l. f x ∷ l) so
      | false ↦ so
    ]

of_joined : {T : Type 0} (P : T → Type 0) (gs : List (List T)) → AllByRecursion (λ g. (y : T) → Contains g y → P y) gs → (y : T)
    → Contains (concat gs) y → P y
of_joined P [] a y c = absurd (omega (arith, c.1))
of_joined P (g ∷ gs) a y c = ⊎_elim (a.0 y) (of_joined P gs a.1 y) (Contains-append_cases g (concat gs) y c)

module _ {K : Type 0} (cmp : K → K → Ordering) (o : IsTotalOrder cmp) (eq : K → K → Bool)
    (ties : (x y : K) → eq x y ≡ is_eq (cmp x y)) {T : Type 0} (key : T → K) where
  abbrev same : T → T → Bool
  same x y = eq (key x) (key y)

  -- the elements of the key
  abbrev all_of : List T → K → List T
  all_of xs k = filter (λ y. eq (key y) k) xs

  -- how many elements have a lesser key
  abbrev below : K → List T → ℕ
  below k xs = count_by (λ y. is_lt (cmp (key y) k)) xs

  abbrev IsBelowAll : List T → List T → Type 0
  IsBelowAll = KeysBelow cmp o eq ties key

  module _ {R : Type 0} (per : IsPartialEquivalence eq) (d : T) (xs : List T) (up : NeverDescends cmp (map key xs)) where
    pub having : (f : K → List T → R) (test : List T → Bool) → map (λ g. f (key (get_or g 0 d)) g) (filter test (split same xs))
        ≡ map (λ k. f k (all_of xs k)) (filter (λ k. test (all_of xs k)) (dedup eq (map key xs)))
    having f test =
        let made : K × List T → R = λ e. f e.0 e.1 in
        let first : List T → K × List T = λ g. (key (get_or g 0 d), g) in
        let whole : K → K × List T = λ k. (k, all_of xs k) in
        let keyed = keyed_by_first key d (split same xs) (split_is same xs).nonempty ∙ keyed_filters cmp o eq ties key per xs up in
        sym (map-map made first (filter test (split same xs))) ∙ ap (map made) (sym (filter_mapped (λ e. test e.1) first (split same xs)))
        ∙ ap (λ es. map made (filter (λ e. test e.1) es)) keyed
        ∙ ap (map made) (filter_mapped (λ e. test e.1) whole (dedup eq (map key xs))) ∙ map-map made whole _

  -- where all in front have a lesser key, and no other has, those in front are as many
  in_front : (k : K) (before rest : List T) → ((y : T) → Contains before y → cmp (key y) k ≡ Less)
      → ((y : T) → Contains rest y → is_lt (cmp (key y) k) ≡ false) → length before ≡ below k (before ++ rest)
  in_front k before rest less none =
      let test : T → Bool = λ y. is_lt (cmp (key y) k) in
      let kept : filter test (before ++ rest) ≡ before =
      filter-append test before rest
      ∙ (λ i. keeps_all test before (λ y c. ap is_lt (less y c)) i ++ keeps_none test rest none i) ∙ append-nil before in
      ap length (sym kept) ∙ length-filter test (before ++ rest)

  none_below : (x : T) (xs : List T) (gs : List (List T)) → IsUniform cmp o eq ties key (x ∷ xs)
      → AllByRecursion (IsBelowAll (x ∷ xs)) gs → (y : T) → Contains (concat ((x ∷ xs) ∷ gs)) y → is_lt (cmp (key y) (key x)) ≡ false
  none_below x xs gs u l =
      of_joined _ ((x ∷ xs) ∷ gs) (
        λ y c. ap is_lt (turned_around cmp o (key x) (key y) Equal (u y c)),
        all_when _ gs (λ h at y c. ap is_lt (turned_around cmp o (key x) (key y) Less
            (all_contains _ gs h l at x y (contains_head x xs) c))),
      )

  module _ {R : Type 0} (f : K → ℕ → R) (d : T) where
    placed : (before : List T) (gs : List (List T)) → AllByRecursion (IsUniform cmp o eq ties key) gs → EachLater IsBelowAll gs
        → AllByRecursion (IsBelowAll before) gs → map (λ e. f (key (get_or e.1 0 d)) e.0) (with_offsets (length before) gs)
        ≡ map (λ g. f (key (get_or g 0 d)) (below (key (get_or g 0 d)) (before ++ concat gs))) gs
    placed before [] u l b = refl
    placed before ([] ∷ gs) u l b = absurd u.0
    placed before ((x ∷ xs) ∷ gs) u l b =
        let g = x ∷ xs in
        let here = in_front (key x) before (concat (g ∷ gs)) (λ y c. b.0 y x c (contains_head x xs)) (none_below x xs gs u.0 l.0) in
        let later = placed (before ++ g) gs u.1 l.1 (all_when _ gs (λ h at y z c e.
        ⊎_elim (λ k. all_contains _ gs h b.1 at y z k e) (λ k. all_contains _ gs h l.0 at y z k e) (Contains-append_cases before g y c))) in
        ap (λ n. f (key x) n ∷ map (λ e. f (key (get_or e.1 0 d)) e.0) (with_offsets (length before + length g) gs)) here
        ∙ ap (λ es. f (key x) (below (key x) (before ++ concat (g ∷ gs))) ∷ es)
        (rw (length-append before g, append_assoc before g (concat gs)) at later)

    pub ranks : IsPartialEquivalence eq → (xs : List T) → NeverDescends cmp (map key xs)
        → map (λ e. f (key (get_or e.1 0 d)) e.0) (with_offsets 0 (split same xs)) ≡ map (λ k. f k (below k xs)) (dedup eq (map key xs))
    ranks per xs up =
        let pieces = split same xs in
        placed [] pieces (split_uniform cmp o eq ties key xs) (pieces_climb cmp o eq ties key xs up)
        (all_when _ pieces (λ h at y z c e. absurd (omega (arith, c.1))))
        ∙ ap (λ l. map (λ g. f (key (get_or g 0 d)) (below (key (get_or g 0 d)) l)) pieces) (split_is same xs).covers
        ∙ sym (map-map (λ k. f k (below k xs)) (λ g. key (get_or g 0 d)) pieces)
        ∙ ap (map (λ k. f k (below k xs))) (sym (map-map key (λ g. get_or g 0 d) pieces)
        ∙ ap (map key) (begin_as same (by_keys eq per key) d xs) ∙ keys_once eq key xs)
