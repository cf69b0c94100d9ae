-- Queues that are settled for one test, of equal remainders, answer alike.
use Rattle.std.specs.Prelude.{◌≡◌, Bool, List, Option, map, option_map}
use Rattle.std.proofs.Common.{sym, ap, ◌∙◌}
use Rattle.sgb_split.specs.Split.{split, TakesPiece}
use Rattle.sgb_split.specs.declared.end.End.{End}
use Rattle.slice_group_by.specs.Queue.{pops}
use Rattle.slice_group_by.specs.Walk.{IsChain}
use Rattle.slice_group_by.proofs.Queues.Chains.{chain_answers}

module _ {T : Type 0} where
  -- each call takes the piece there, and leaves the queue settled
  abbrev pub TakesPieces : {Q I : Type 0} → (End → Q → Option I → Q → Type 0) → (Q → List T) → (I → List T) → (Q → (T → T → Bool) → Type 0)
      → Type 0
  TakesPieces {Q} {I} gives remainder shows settled =
      (e : End) (q : Q) (o : Option I) (t : Q) (p : T → T → Bool) → gives e q o t → settled q p → TakesPiece p e (remainder q)
      (option_map shows o) (remainder t) × settled t p

  pub queues_agree : {Q I R K : Type 0} (p : T → T → Bool)
      (gives : End → Q → Option I → Q → Type 0) (remainder : Q → List T) (shows : I → List T) (settled : Q → (T → T → Bool) → Type 0)
      → TakesPieces gives remainder shows settled
      → (gives' : End → R → Option K → R → Type 0) (remainder' : R → List T) (shows' : K → List T) (settled' : R → (T → T → Bool) → Type 0)
      → TakesPieces gives' remainder' shows' settled'
      → (q q' : Q) (r r' : R) (ends : List End) (out : List (Option I)) (other : List (Option K)) → settled q p → settled' r p
      → remainder q ≡ remainder' r
      → IsChain gives q ends out q' → IsChain gives' r ends other r' → map (option_map shows) out ≡ map (option_map shows') other
  queues_agree p gives remainder shows settled takes gives' remainder' shows' settled' takes' q q' r r' ends out other h h' same a b =
      (chain_answers gives remainder shows settled p takes q ends out q' a h).answers
      ∙ ap (λ l. pops (split p l) ends) same
      ∙ sym (chain_answers gives' remainder' shows' settled' p takes' r ends other r' b h').answers
