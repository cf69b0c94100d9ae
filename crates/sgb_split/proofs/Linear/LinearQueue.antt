-- The laws of calls of linear groups: a call on a settled iterator gives the outermost piece, and leaves it settled.
use Rattle.std.proofs.Common.{Bool, List, [], ◌∷◌, ◌++◌, length, Option, None, Some, arith, true, ℕ, refl}
use Rattle.sgb_split.specs.declared.end.End.{End}
use Rattle.sgb_split.specs.declared.judge.Judge.{Ghosts}
use Rattle.sgb_split.specs.Linear.{questions, IsSettled, LinearQuestions}
use Rattle.sgb_split.specs.Split.{TakesPiece, neighbours, AreNeighbours}
use Rattle.sgb_split.specs.Calls.{Groups, IsGroupAt, CallAt, IsCallableBy}
use Rattle.sgb_split.proofs.Lists.Pairs.{about, says, neighbours_of_rest}
use Rattle.sgb_split.proofs.Splits.Split.{takes_piece, takes_nothing}
use Rattle.sgb_split.specs.Judges.{IsRunOf, AsksWithin}
use Rattle.sgb_split.proofs.Questions.Calls as calls
use Rattle.sgb_split.proofs.Questions.Calls.{AsksAllowed}
use Rattle.sgb_split.proofs.Linear.LinearPairs.{asks_once, count_asked}

module _ {T J : Type 0} (g : Ghosts J T) (p : T → T → Bool) where
  taken : (e : End) (s : Groups T J) (group : List T) (t : Groups T J) → IsSettled g s p → IsGroupAt (LinearQuestions g) e s group t
      → TakesPiece p e s.remainder (Some group) t.remainder
  taken e s [] t m h = absurd (omega (arith, h.nonempty))
  taken e s (x ∷ xs) t m h =
      let len = length (x ∷ xs) in
      let answered = m.at (questions e s.remainder len) t.judge h.asked (about e s.remainder len) in
      let said = says p e (x ∷ xs) t.remainder (omega arith) (rw h.cut at answered) in
      rw h.cut (takes_piece p e x xs t.remainder said.0 said.1)

  gives_piece : (e : End) (s t : Groups T J) (r : Option (List T)) → IsSettled g s p → CallAt (LinearQuestions g) e s r t
      → TakesPiece p e s.remainder r t.remainder
  gives_piece e s t None m h = rw (h.1, h.0) (takes_nothing p e)
  gives_piece e s t (Some x) m h = taken e s x t m h

module _ {T J : Type 0} (g : Ghosts J T) where
  asks_neighbours : (e : End) (xs : List T) (n : ℕ) (j k : J) → LinearQuestions g e xs n j k → AsksAllowed g (AreNeighbours xs) j k
  asks_neighbours e xs n j k run = record { questions = questions e xs n; run = run; about = about e xs n }

  pub keeps : (e : End) (s : Groups T J) (r : Option (List T)) (t : Groups T J) → CallAt (LinearQuestions g) e s r t
      → IsCallableBy AreNeighbours g s → IsCallableBy AreNeighbours g t
  keeps = calls.keeps g AreNeighbours neighbours_of_rest (LinearQuestions g) asks_neighbours

  pub callable_behind : (before rest : List T) (j : J) → IsCallableBy AreNeighbours g (record { remainder = before ++ rest; judge = j })
      → IsCallableBy AreNeighbours g (record { remainder = rest; judge = j })
  callable_behind = calls.callable_behind g AreNeighbours neighbours_of_rest

  pub settled_behind : (before rest : List T) (j : J) (p : T → T → Bool) → IsSettled g (record { remainder = before ++ rest; judge = j }) p
      → IsSettled g (record { remainder = rest; judge = j }) p
  settled_behind = calls.computes_behind g AreNeighbours neighbours_of_rest

  pub piece : (e : End) (s : Groups T J) (r : Option (List T)) (t : Groups T J) (p : T → T → Bool) → CallAt (LinearQuestions g) e s r t
      → IsSettled g s p → TakesPiece p e s.remainder r t.remainder × IsSettled g t p
  piece e s r t p h m =
      (gives_piece g p e s t r m h, calls.computes_on g AreNeighbours neighbours_of_rest (LinearQuestions g) asks_neighbours p e s r t h m)

  pub asks : (e : End) (s : Groups T J) (r : Option (List T)) (t : Groups T J) → CallAt (LinearQuestions g) e s r t
      → AsksWithin (λ q r n. IsRunOf g.may_ask g.answers n q.judge r.judge) (λ q. length (neighbours q.remainder)) true s t
  asks e s r t h =
      let a = asks_once g e s r t h in
      let n = count_asked g s t a in
      record { number = length a.questions; asks = (a.questions, a.run, refl); most = omega (arith, n); all = λ _. n }
