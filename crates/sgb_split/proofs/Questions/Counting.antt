-- What a run of questions does to a counter.
use Rattle.std.proofs.Common.{◌≡◌, ℕ, ◌+◌, ◌-◌, ◌*◌, ◌<◌, ◌≤◌, Bool, true, List, [], ◌∷◌, length, subst, ap, refl, arith, ◌∙◌}
use Rattle.std.proofs.Math.Nat.{mul-le-mul_left}
use Rattle.sgb_split.specs.Split.{neighbours}
use Rattle.sgb_split.specs.Judges.{IsRun, IsRunOf, AsksWithin}
use Rattle.sgb_split.proofs.Lists.Pairs.{length-neighbours}

-- a property P n of the state, which each question takes from n to n + 1
module _ {S Q A : Type 0} (may : S → Q → Type 0) (gives : S → Q → A → S → Type 0) (P : ℕ → S → Type 0)
    (step : (n : ℕ) (s u : S) (q : Q) (a : A) → P n s → gives s q a u → P (n + 1) u) where
  run_keeps : (rs : List (Q × A)) (n : ℕ) (s t : S) → P n s → IsRun may gives s rs t → P (n + length rs) t
  run_keeps [] n s t p r = let e : n + 0 ≡ n = omega arith in rw (e, r) p
  run_keeps (x ∷ rs) n s t p r =
      let e : (n + 1) + length rs ≡ n + length (x ∷ rs) = omega arith in
      subst (λ (m : ℕ). P m t) e (run_keeps rs (n + 1) r.1.0 t (step n s r.1.0 x.0 x.1 p r.1.1) r.1.2)

  -- m questions take it from n to n + m
  pub run_of_keeps : (n m : ℕ) (s t : S) → P n s → IsRunOf may gives m s t → P (n + m) t
  run_of_keeps n m s t p r = subst (λ (k : ℕ). P (n + k) t) r.2 (run_keeps r.0 n s t p r.1)

pub times_due : (each n d e : ℕ) → n + d ≡ e → each * n + each * d ≡ each * e
times_due each n d e h = omega (arith, ap (λ m. each * m) h)

times_most : (each n d e : ℕ) → n + d ≤ e → each * n + each * d ≤ each * e
times_most each n d e h = omega (arith, mul-le-mul_left each h)

-- a number that each question raises by at most so much
module _ {S Q A : Type 0} (may : S → Q → Type 0) (gives : S → Q → A → S → Type 0) (count name : S → ℕ) (each : ℕ)
    (step : (s u : S) (q : Q) (a : A) → gives s q a u → (name u ≡ name s) × (count u ≤ count s + each)) where
  pub counts_most : (n : ℕ) (s t : S) → IsRunOf may gives n s t → (name t ≡ name s) × (count t ≤ count s + each * n)
  counts_most n s t r =
      let e : 0 + n ≡ n = omega arith in
      rw e at (run_of_keeps may gives (λ m u. (name u ≡ name s) × (count u ≤ count s + each * m))
      (λ m u v q a p h. let k = step u v q a h in (k.0 ∙ p.0, omega (arith, k.1, p.1))) 0 n s t (refl, omega arith) r)

  pub counts_most_due : {G : Type 0} (judge : G → S) (due : G → ℕ) (exact : Bool) (s t : G)
      → AsksWithin (λ q r n. IsRunOf may gives n (judge q) (judge r)) due exact s t
      → (name (judge t) ≡ name (judge s)) × (count (judge t) + each * due t ≤ count (judge s) + each * due s)
  counts_most_due judge due exact s t a =
      let k = counts_most a.number (judge s) (judge t) a.asks in
      (k.0, omega (arith, k.1, times_most each a.number (due t) (due s) a.most))

-- a number that each question raises by just so much, below the limit
module _ {S Q A : Type 0} (may : S → Q → Type 0) (gives : S → Q → A → S → Type 0) (count name : S → ℕ) (each limit : ℕ)
    (step : (s u : S) (q : Q) (a : A) → gives s q a u → (name u ≡ name s) × (count s + each < limit → count u ≡ count s + each)) where
  pub counts_just : (n : ℕ) (s t : S) → IsRunOf may gives n s t
      → (name t ≡ name s) × (count s + each * n < limit → count t ≡ count s + each * n)
  counts_just n s t r =
      let e : 0 + n ≡ n = omega arith in
      rw e at (run_of_keeps may gives (λ m u. (name u ≡ name s) × (count s + each * m < limit → count u ≡ count s + each * m))
      (λ m u v q a p h. let k = step u v q a h in
      (k.0 ∙ p.0, λ l. let i = p.1 (omega (arith, l)) in omega (arith, k.1 (omega (arith, l, i)), i)))
      0 n s t (refl, λ l. omega arith) r)

  pub counts_just_due : {G : Type 0} (judge : G → S) (due : G → ℕ) (exact : Bool) (s t : G)
      → AsksWithin (λ q r n. IsRunOf may gives n (judge q) (judge r)) due exact s t → exact ≡ true
      → (name (judge t) ≡ name (judge s))
      × (count (judge s) + each * due s < limit → count (judge t) + each * due t ≡ count (judge s) + each * due s)
  counts_just_due judge due exact s t a x =
      let k = counts_just a.number (judge s) (judge t) a.asks in
      let whole = times_due each a.number (due t) (due s) (a.all x) in
      (k.0, λ l. omega (arith, k.1 (omega (arith, l, whole)), whole))

  -- of groups that ask about each pair of neighbours that goes
  module _ {G T : Type 0} (judge : G → S) (left : G → List T) (s t : G)
      (asked : AsksWithin (λ q r n. IsRunOf may gives n (judge q) (judge r)) (λ q. length (neighbours (left q))) true s t) where
    pub counts_pairs : (name (judge t) ≡ name (judge s))
        × (count (judge s) + each * (length (left s) - 1) < limit
        → count (judge t) + each * (length (left t) - 1) ≡ count (judge s) + each * (length (left s) - 1))
    counts_pairs =
        rw (length-neighbours (left s), length-neighbours (left t)) at
        (counts_just_due judge (λ q. length (neighbours (left q))) true s t asked refl)

    -- after what was counted from r to s
    pub counts_more : (r : G) → name (judge s) ≡ name (judge r)
        → (count (judge r) + each * (length (left r) - 1) < limit
        → count (judge s) + each * (length (left s) - 1) ≡ count (judge r) + each * (length (left r) - 1))
        → (name (judge t) ≡ name (judge r))
        × (count (judge r) + each * (length (left r) - 1) < limit
        → count (judge t) + each * (length (left t) - 1) ≡ count (judge r) + each * (length (left r) - 1))
    counts_more r here before =
        (counts_pairs.0 ∙ here, λ l. let b = before l in counts_pairs.1 (omega (arith, b, l)) ∙ b)

    pub counts_walk : count (judge s) ≡ 0 → left t ≡ []
        → (name (judge t) ≡ name (judge s))
        × (each * (length (left s) - 1) < limit → count (judge t) ≡ each * (length (left s) - 1))
    counts_walk none end =
        let gone : each * (length (left t) - 1) ≡ each * 0 = ap (λ xs. each * (length xs - 1)) end in
        (counts_pairs.0, λ fits. omega (arith, counts_pairs.1 (omega (arith, none, fits)), none, gone))
