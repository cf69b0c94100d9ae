-- A chain of calls asks about each neighbouring pair that goes once.
use Rattle.std.proofs.Common.{◌≡◌, ◌-◌, List, [], ◌∷◌, length, Option, ap, arith}
use Rattle.std.specs.Prelude.{option_map}
use Rattle.sgb_split.specs.declared.judge.Judge.{Ghosts}
use Rattle.sgb_split.specs.Judges.{IsRunOf}
use Rattle.sgb_split.specs.Split.{neighbours}
use Rattle.sgb_split.specs.Calls.{Groups, CallAt}
use Rattle.sgb_split.specs.Linear.{AsksEachOnce, LinearQuestions}
use Rattle.sgb_split.proofs.Lists.Pairs.{length-neighbours}
use Rattle.sgb_split.proofs.Linear.LinearPairs.{asks_none, asks_more, count_asked, asks_once}
use Rattle.sgb_split.specs.declared.end.End.{End}
use Rattle.slice_group_by.specs.Walk.{IsChain}

module _ {T J : Type 0} (g : Ghosts J T) where
  -- the calls of any groups that are linear calls of what these show
  module _ {Q I : Type 0} (gives : End → Q → Option I → Q → Type 0) (groups : Q → Groups T J) (shows : I → List T)
      (call : (e : End) (q : Q) (o : Option I) (t : Q) → gives e q o t
      → CallAt (LinearQuestions g) e (groups q) (option_map shows o) (groups t)) where
    pub chain_asks_once : (q t : Q) (es : List End) (os : List (Option I)) → IsChain gives q es os t → AsksEachOnce g (groups q) (groups t)
    chain_asks_once q t [] [] c = asks_none g (groups q) (groups t) (ap groups c)
    chain_asks_once q t [] (o ∷ os) c = absurd c
    chain_asks_once q t (e ∷ es) [] c = absurd c
    chain_asks_once q t (e ∷ es) (o ∷ os) c =
        asks_more g (groups q) (groups c.0) (groups t) (asks_once g e (groups q) (option_map shows o) (groups c.0) (call e q o c.0 c.1))
        (chain_asks_once c.0 t es os c.2)

  pub whole_asks : (s t : Groups T J) → AsksEachOnce g s t → t.remainder ≡ []
      → IsRunOf g.may_ask g.answers (length s.remainder - 1) s.judge t.judge
  whole_asks s t a z =
      (a.questions, a.run, omega (arith, count_asked g s t a, length-neighbours s.remainder, ap (λ xs. length (neighbours xs)) z))
