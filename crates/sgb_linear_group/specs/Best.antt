-- The best element of each group.
use Rattle.std.specs.Prelude.{◌≡◌, Bool, List, [], ◌∷◌, cond}
use Rattle.std.specs.List.{fold}
use Rattle.std.specs.Iterator.{Drains}
use Rattle.sgb_split.specs.declared.end.End.TheVariants.{Front}
use Rattle.sgb_split.specs.declared.judge.Judge.{Ghosts}
use Rattle.sgb_split.specs.Calls.{Groups, CallAt}
use Rattle.sgb_split.specs.Linear.{LinearQuestions}

-- is_worse kept x: the later element x takes the place of the one that was kept
module _ {T : Type 0} (is_worse : T → T → Bool) where
  -- of a list that begins with x: x, until another takes its place, and so on
  abbrev pub best_from : T → List T → T
  best_from x xs = fold (λ kept y. cond (is_worse kept y) y kept) x xs

  -- of each list that is not empty
  abbrev pub best_of_each : List (List T) → List T
  best_of_each [] = []
  best_of_each ([] ∷ groups) = best_of_each groups
  best_of_each ((x ∷ xs) ∷ groups) = best_from x xs ∷ best_of_each groups

-- compares f kept x b t: in the state f the answer may be b, which leaves t
module _ {T F : Type 0} (compares : F → T → T → Bool → F → Type 0) where
  -- each later element was compared once, in order, with the one kept until then: first x, and at the end k
  abbrev pub KeepsFrom : F → T → List T → T → F → Type 0
  KeepsFrom f x [] k t = (k ≡ x) × (t ≡ f)
  KeepsFrom f x (y ∷ ys) k t = (b : Bool) × ((u : F) × compares f x y b u × KeepsFrom u (cond b y x) ys k t)

  -- of a list that is not empty
  abbrev pub Keeps : F → List T → T → F → Type 0
  Keeps f [] k t = ⊥
  Keeps f (x ∷ xs) k t = KeepsFrom f x xs k t

  -- of each list one, in order, and nothing else was compared
  abbrev pub KeepsOfEach : F → List (List T) → List T → F → Type 0
  KeepsOfEach f [] [] t = t ≡ f
  KeepsOfEach f [] (k ∷ ks) t = ⊥
  KeepsOfEach f (group ∷ groups) [] t = ⊥
  KeepsOfEach f (group ∷ groups) (k ∷ ks) t = (u : F) × Keeps f group k u × KeepsOfEach u groups ks t

  -- from s and f on: linear calls at the front gave groups until nothing was left, and of each group one was kept
  pub record AreKept {J : Type 0} (g : Ghosts J T) (s : Groups T J) (f : F) (kept : List T) : Type 0 where
    pub groups : List (List T)
    pub walked : Drains (CallAt (LinearQuestions g) Front) s groups
    pub last : F
    pub compared : KeepsOfEach f groups kept last
