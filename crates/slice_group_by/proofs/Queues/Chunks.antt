-- What the standard library's `chunk_by` gives, from its own contract: the pieces of the split.
use Rattle.std.specs.Prelude.{◌≡◌, ◌+◌, ◌-◌, ◌<◌, Bool, true, List, [], ◌∷◌, ◌++◌, length, Option, None, Some, option_map}
use Rattle.std.proofs.Common.{suc, refl, sym, ap, ◌∙◌, subst, arith, length-append, get_or}
use Rattle.std.proofs.Math.ListN.{get_or-append}
use Rattle.std.proofs.lemmas.List.{get_or-append-add}
use Rattle.std.specs.Borrow.{Bor}
use Rattle.std.specs.Fn.{Mut, ComputesOnPairs}
use Rattle.std.specs.List.{IsChunkByPrefix}
use Rattle.std.specs.Slice.Iter.{chunk_by_rest, chunk_by_callee}
use Rattle.std.specs.Slice.Back.{IsChunkBySuffix}
use Rattle.std.specs.declared.slice.ChunkBy.{ChunkBy}
use Rattle.sgb_split.specs.declared.end.End.{End}
use Rattle.sgb_split.specs.declared.end.End.TheVariants.{Front, Back}
use Rattle.sgb_split.specs.Split.{put_at, first, last, IsAccepted, IsRefusedAcross, TakesPiece}
use Rattle.sgb_split.proofs.Lists.Pairs.{in_order}
use Rattle.sgb_split.proofs.Splits.Split.{takes_piece, takes_nothing}
use Rattle.slice_group_by.specs.Chunks.{chunk_calls}
use Rattle.sgb_split.proofs.Lists.Pairs.{neighbours_by_place}

module _ {A : Type 0} where
  last_at : (xs : List A) (a d : A) → last xs ≡ Some a → get_or xs (length xs - 1) d ≡ a
  last_at [] a d e = cc e
  last_at (x ∷ []) a d e = cc e
  last_at (x ∷ y ∷ ys) a d e =
      ap (λ k. get_or (x ∷ y ∷ ys) k d) {x = length (x ∷ y ∷ ys) - 1} {y = suc (length (y ∷ ys) - 1)} (omega arith)
      ∙ last_at (y ∷ ys) a d e

  last_some : (xs : List A) (a : A) → last xs ≡ Some a → 0 < length xs
  last_some [] a e = cc e
  last_some (x ∷ xs) a e = omega arith

  first_at : (xs : List A) (b d : A) → first xs ≡ Some b → (0 < length xs) × (get_or xs 0 d ≡ b)
  first_at [] b d e = cc e
  first_at (x ∷ xs) b d e = (omega arith, cc e)

  module _ (p : A → A → Bool) (group rest : List A) (some : 0 < length group) where
    -- the longest front in which neighbours agree
    module _ (h : IsChunkByPrefix p (group ++ rest) (length group)) where
      prefix_accepted : IsAccepted p group
      prefix_accepted = neighbours_by_place (λ x y. p x y ≡ true) group (λ k j d e l.
          ap (λ m. p (get_or group k d) (get_or group m d)) {x = j} {y = k + 1} (omega (arith, e))
          ∙ ap (λ x. p x (get_or group (k + 1) d)) (sym (get_or-append group rest d k (omega (arith, e, l))))
          ∙ ap (p (get_or (group ++ rest) k d)) (sym (get_or-append group rest d (k + 1) (omega (arith, e, l))))
          ∙ h.0 k d (omega (arith, e, l)))

      prefix_refused : IsRefusedAcross p (group, rest)
      prefix_refused a b ea eb =
          let beyond = first_at rest b a eb in
          let long = length-append group rest in
          sym (ap (p a) beyond.1)
          ∙ sym (ap (λ x. p x (get_or rest 0 a)) (last_at group a a ea))
          ∙ sym (ap (λ x. p x (get_or rest 0 a)) (get_or-append group rest a (length group - 1) (omega (arith, some))))
          ∙ sym (ap (p (get_or (group ++ rest) (length group - 1) a)) (get_or-append-add group rest 0 a))
          ∙ ap (λ k. p (get_or (group ++ rest) (length group - 1) a) (get_or (group ++ rest) k a)) {x = length group + 0} {y = length group}
          (omega arith)
          ∙ h.1 (omega (arith, beyond.0, long)) a

    -- the longest end in which they do
    module _ (h : IsChunkBySuffix p (rest ++ group) (length rest)) where
      suffix_accepted : IsAccepted p group
      suffix_accepted = neighbours_by_place (λ x y. p x y ≡ true) group (λ k j d e l.
          ap (λ m. p (get_or group k d) (get_or group m d)) {x = j} {y = k + 1} (omega (arith, e))
          ∙ ap (λ x. p x (get_or group (k + 1) d)) (sym (get_or-append-add rest group k d))
          ∙ ap (p (get_or (rest ++ group) (length rest + k) d)) (sym (get_or-append-add rest group (k + 1) d))
          ∙ ap (λ m. p (get_or (rest ++ group) (length rest + k) d) (get_or (rest ++ group) m d)) {x = length rest + (k + 1)}
          {y = length rest + k + 1} (omega arith)
          ∙ h.0 (length rest + k) d (omega arith) (omega (arith, e, l, length-append rest group)))

      suffix_refused : IsRefusedAcross p (rest, group)
      suffix_refused a b ea eb =
          let begin = first_at group b a eb in
          let before = last_some rest a ea in
          sym (ap (p a) begin.1)
          ∙ sym (ap (λ x. p x (get_or group 0 a)) (last_at rest a a ea))
          ∙ sym (ap (λ x. p x (get_or group 0 a)) (get_or-append rest group a (length rest - 1) (omega (arith, before))))
          ∙ sym (ap (p (get_or (rest ++ group) (length rest - 1) a)) (get_or-append-add rest group 0 a))
          ∙ ap (λ k. p (get_or (rest ++ group) (length rest - 1) a) (get_or (rest ++ group) k a)) {x = length rest + 0} {y = length rest}
          (omega arith)
          ∙ h.1 before a

  takes_group : (p : A → A → Bool) (e : End) (xs group rest : List A) → 0 < length group → xs ≡ put_at e group rest → IsAccepted p group
      → IsRefusedAcross p (in_order e group rest) → TakesPiece p e xs (Some group) rest
  takes_group p e xs [] rest some cut h k = absurd (omega (arith, some))
  takes_group p e xs (x ∷ more) rest some cut h k = rw cut (takes_piece p e x more rest h k)

  none_of : (xs : List A) → length xs ≡ 0 → xs ≡ []
  none_of [] e = refl
  none_of (x ∷ xs) e = absurd (omega (arith, e))

-- a call of `chunk_by` whose predicate computes a test takes the piece at its end
pub chunk_piece : {A F : Type 0} (g : Mut F (Bor A × (Bor A × Unit {0})) Bool) (e : End) (s : ChunkBy A F) (o : Option (Bor (List A)))
    (t : ChunkBy A F) (p : A → A → Bool) → chunk_calls g e s o t → ComputesOnPairs g p (chunk_by_callee s)
    → TakesPiece p e (chunk_by_rest s) (option_map (λ chunk. chunk.now) o) (chunk_by_rest t) × ComputesOnPairs g p (chunk_by_callee t)
chunk_piece g Front s None t p h by =
    (rw (h.1, none_of (chunk_by_rest s) h.0) (takes_nothing p Front), subst (λ u. ComputesOnPairs g p (chunk_by_callee u)) (sym h.1) by)
chunk_piece g Back s None t p h by =
    (rw (h.1, none_of (chunk_by_rest s) h.0) (takes_nothing p Back), subst (λ u. ComputesOnPairs g p (chunk_by_callee u)) (sym h.1) by)
chunk_piece g Front s (Some x) t p h by =
    let k = h.2 p by in
    let prefix = subst (λ xs. IsChunkByPrefix p xs (length x.now)) h.0 k.1 in (
      takes_group p Front (chunk_by_rest s) x.now (chunk_by_rest t) h.1 h.0 (prefix_accepted p x.now (chunk_by_rest t) h.1 prefix)
          (prefix_refused p x.now (chunk_by_rest t) h.1 prefix),
      k.0,
    )
chunk_piece g Back s (Some x) t p h by =
    let k = h.2 p by in
    let suffix = subst (λ xs. IsChunkBySuffix p xs (length (chunk_by_rest t))) h.0 k.1 in (
      takes_group p Back (chunk_by_rest s) x.now (chunk_by_rest t) h.1 h.0 (suffix_accepted p x.now (chunk_by_rest t) h.1 suffix)
          (suffix_refused p x.now (chunk_by_rest t) h.1 suffix),
      k.0,
    )
