-- What each question does to a number of the judge's state. `count` gives the number, and `name` what stays as it is.
use Rattle.std.specs.Prelude.{◌≡◌, ℕ, ◌+◌, ◌*◌, ◌<◌, ◌≤◌}
use Rattle.std.specs.Borrow.{MutBor}

-- answers j q a k: in the state j the question q may be answered by a, and then the state is k
module _ {J Q A : Type 0} (answers : J → Q → A → J → Type 0) (count name : J → ℕ) (each : ℕ) where
  -- each question raises the number by at most `each`
  abbrev pub RaisesAtMost : Type 0
  RaisesAtMost = (j k : J) (q : Q) (a : A) → answers j q a k → (name k ≡ name j) × (count k ≤ count j + each)

  -- each question raises the number by just `each`, as long as it stays below the limit
  abbrev pub RaisesJust : ℕ → Type 0
  RaisesJust limit = (j k : J) (q : Q) (a : A) → answers j q a k
      → (name k ≡ name j) × (count j + each < limit → count k ≡ count j + each)

-- from s to t, two states of groups, the counter stands where it stood, and it was raised by just `each` for each question that is due no
-- more, if that stays below the limit
pub record HasCounted {S : Type 0} (counter : S → MutBor ℕ) (due : S → ℕ) (each limit : ℕ) (s t : S) : Type 0 where
  pub place : (counter t).ghost_name ≡ (counter s).ghost_name
  pub count : (counter s).now + each * due s < limit → (counter t).now + each * due t ≡ (counter s).now + each * due s
