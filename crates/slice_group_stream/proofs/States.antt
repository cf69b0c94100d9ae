-- What a call of a closure says of a function that it computes.
use Rattle.std.proofs.Common.{◌≡◌, Bool, [], ◌∷◌, refl, ap, ◌∙◌}
use Rattle.std.proofs.Common.{not, Some}
use Rattle.std.specs.Borrow.{Bor}
use Rattle.std.specs.Prelude.{⊤}
use Rattle.std.specs.Fn.{CalledAt, CalledAtTwo, ComputesKey, Mut}
use denote.Param.Always.{always_mut}
use Rattle.sgb_split.specs.Judges.{by_predicate, predicate_judge}
use Rattle.sgb_split.proofs.Questions.Closures.{predicate_callable}
use Rattle.sgb_split.proofs.Questions.Runs.{may_now}
use Rattle.slice_group_stream.specs.Streams.{AsksAcross}
use Rattle.slice_group_stream.proofs.Ends.{not_not}

-- of a key function
module _ {F T K : Type 0} (g : Mut F (Bor T × Unit {0}) K) (k : T → K) where
  pub key_after : (f : F) (x : T) (r : K) (f' : F) → ComputesKey g k f → CalledAt g f x r f' → (r ≡ k x) × ComputesKey g k f'
  key_after f x r f' h c =
      ((h.at ((c.shown, tt) ∷ []) r f' c.called).0 ∙ ap k c.shows, record { at = λ xs. (h.at ((c.shown, tt) ∷ xs) r f' c.called).1 })

module _ {P T : Type 0} (g : Mut P (Bor T × (Bor T × Unit {0})) Bool) where
  -- one call about the pair across
  pub asks_two : (f : P) (q : T × T) (b : Bool) (f' : P) → always_mut g f → CalledAtTwo g f q.0 q.1 b f' → AsksAcross g (Some q) f (not b) f'
  asks_two f q b f' may called = record {
    run = (
      may_now (by_predicate g).may_ask (by_predicate g).answers (λ q. ⊤) (predicate_judge f) q (predicate_callable g (λ q. ⊤) f may) tt,
      (predicate_judge f', rw (not_not b) called, refl),
    );
    alone = λ none. cc none;
  }
