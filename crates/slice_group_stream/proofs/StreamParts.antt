-- The parts that calls give of a block, and the groups that they make.
use Rattle.std.proofs.Common.{◌≡◌, Bool, List, [], ◌∷◌, ◌++◌, map, Option, Some, sym, ap, ◌∙◌}
use Rattle.std.specs.Prelude.{option_map}
use Rattle.std.specs.Iterator.{Drains, Yields}
use Rattle.sgb_split.specs.Split.{TakesPart, TakesPiece, last, split}
use Rattle.sgb_split.specs.declared.end.End.{End}
use Rattle.sgb_split.specs.declared.end.End.TheVariants.{Front}
use Rattle.sgb_split.proofs.Splits.Split.{split_is}
use Rattle.slice_group_stream.specs.declared.parts.Parts.{Parts}
use Rattle.slice_group_stream.specs.Streams.{GivesBlockPart, across, as_parts, begins_at, with_parts}
use Rattle.slice_group_stream.proofs.FoldedParts.{AllSome}
use Rattle.slice_group_stream.proofs.JoinedParts as joined
use Rattle.slice_group_by.proofs.Queues.Yields.{drains_settled}

pub pieces_some : {A : Type 0} (p : A → A → Bool) (xs : List A) → AllSome (split p xs)
pieces_some p xs = (split_is p xs).nonempty

module _ {Q I A : Type 0} (gives : End → Q → Option I → Q → Type 0) (remainder : Q → List A) (shows : I → List A) where
  module _ (part : (e : End) (q : Q) (o : Option I) (t : Q) → gives e q o t → TakesPart e (remainder q) (option_map shows o) (remainder t)) where
    pub parts_some : (s t : Parts Q) (parts : List (Bool × I)) → Yields (GivesBlockPart (gives Front)) s parts t
        → AllSome (map (λ x. x.1) (map {B = Bool × List A} (λ x. (x.0, shows x.1)) parts))
    parts_some s t [] y = tt
    parts_some s t (x ∷ xs) y = ((part Front s.groups (Some x.1) y.0.groups y.1.0).0, parts_some y.0 t xs y.2)

  module _ (settled : Q → (A → A → Bool) → Type 0)
      (piece : (e : End) (q : Q) (o : Option I) (t : Q) (p : A → A → Bool) → gives e q o t → settled q p → TakesPiece p e (remainder q)
      (option_map shows o) (remainder t) × settled t p) where
    pub parts_of_block : (p : A → A → Bool) (before block : List A) (s : Parts Q) (parts : List (Bool × I)) → settled s.groups p
        → remainder s.groups ≡ block → s.begins ≡ begins_at p (across (last before) block) → Drains (GivesBlockPart (gives Front)) s parts
        → with_parts (split p before) (map (λ x. (x.0, shows x.1)) parts) ≡ split p (before ++ block)
    parts_of_block p before block s parts h is begins (t, (j, yields, none)) =
        let pieces =
        drains_settled gives remainder shows settled p piece Front s.groups (map (λ x. x.1) parts) h
        (t.groups, (j.groups, joined.yields_under (gives Front) shows s j parts yields, none.0)) in
        ap (with_parts (split p before))
        (joined.flags (gives Front) shows s j parts yields ∙ ap (as_parts s.begins) (pieces ∙ ap (split p) is))
        ∙ joined.parts_join p before block s.begins (sym begins)
