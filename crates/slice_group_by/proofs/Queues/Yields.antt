-- What calls at one end give of a settled queue, one without another.
use Rattle.std.proofs.Common.{map, append_assoc, ◌++◌, ◌≡◌, Bool, List, [], ◌∷◌, Option, None, Some, refl, sym, ap, ◌∙◌, reverse, subst}
use Rattle.std.specs.Prelude.{option_map}
use Rattle.std.specs.Iterator.{Yields, Drains, AlwaysYields}
use Rattle.std.specs.Iterator.Adapters.{rev_source, rev_steps}
use Rattle.std.specs.declared.iter.Rev.{Rev}
use Rattle.std.proofs.lemmas.List.{append-nil, reverse-append}
use Rattle.sgb_split.specs.Split.{from, put_at, TakesPart, item_at, without, last, without_last, concat, split, TakesPiece}
use Rattle.std.specs.List.{Contains}
use Rattle.std.proofs.lemmas.List.Elements.{Contains-append_right}
use Rattle.sgb_split.proofs.Lists.AllByRecursion.{all_contains, all_reverse, all_when}
use Rattle.sgb_split.proofs.Lists.Contained.{contains_head}
use Rattle.sgb_split.proofs.Splits.Split.{last_push, without_last_push}
use Rattle.sgb_split.specs.declared.end.End.{End}
use Rattle.sgb_split.specs.declared.end.End.TheVariants.{Front, Back}
use Rattle.slice_group_by.proofs.Queues.Chains.{joined_push}

item_first : {X : Type 0} (e : End) (x : X) (xs : List X) → item_at e (from e (x ∷ xs)) ≡ Some x
item_first Front x xs = refl
item_first Back x xs = ap last (reverse-append (x ∷ []) xs) ∙ last_push (reverse xs) x

without_item : {X : Type 0} (e : End) (x : X) (xs : List X) → without e (from e (x ∷ xs)) ≡ from e xs
without_item Front x xs = refl
without_item Back x xs = ap without_last (reverse-append (x ∷ []) xs) ∙ without_last_push (reverse xs) x

item_none : {X : Type 0} (e : End) → item_at {X = X} e (from e []) ≡ None
item_none Front = refl
item_none Back = refl

-- the item at the end comes first
from_taken : {X : Type 0} (e : End) (x : X) (xs : List X) → item_at e xs ≡ Some x → from e xs ≡ x ∷ from e (without e xs)
from_taken Front x [] h = cc h
from_taken Front x (y ∷ ys) h = cc h
from_taken Back x [] h = cc h
from_taken Back x (y ∷ []) h = cc h
from_taken Back x (y ∷ z ∷ zs) h =
    reverse-append (y ∷ []) (z ∷ zs) ∙ ap (λ l. l ++ y ∷ []) (from_taken Back x (z ∷ zs) h)
    ∙ ap (λ l. x ∷ l) (sym (reverse-append (y ∷ []) (without_last (z ∷ zs))))

contains_from : {X : Type 0} (e : End) (xs : List X) (x : X) → Contains (from e xs) x → Contains xs x
contains_from Front xs x c = c
contains_from Back xs x c =
    all_contains (Contains xs) (reverse xs) x (all_reverse (Contains xs) xs (all_when (Contains xs) xs (λ y d. d))) c

pub none_some : {X : Type 0} {x : X} → Some x ≡ None → ⊥
none_some e = cc e

pub same_some : {X : Type 0} {x y : X} → Some x ≡ Some y → x ≡ y
same_some e = cc e

module _ {Q I A : Type 0} (gives : End → Q → Option I → Q → Type 0) (remainder : Q → List A) (shows : I → List A)
    (settled : Q → (A → A → Bool) → Type 0) (p : A → A → Bool)
    (piece : (e : End) (q : Q) (o : Option I) (t : Q) (p : A → A → Bool) → gives e q o t → settled q p → TakesPiece p e (remainder q)
    (option_map shows o) (remainder t) × settled t p) where
  taken : (e : End) (q : Q) (o : Option I) (t : Q) → gives e q o t → settled q p
      → (option_map shows o ≡ item_at e (split p (remainder q))) × (split p (remainder t) ≡ without e (split p (remainder q)))
  taken e q o t g h = (piece e q o t p g h).0

  pub yields_pieces : (e : End) (q : Q) (ps : List (List A)) → settled q p → split p (remainder q) ≡ from e ps
      → AlwaysYields (gives e) shows q ps
  yields_pieces e q [] h s = λ x t g. none_some ((taken e q (Some x) t g h).0 ∙ ap (item_at e) s ∙ item_none e)
  yields_pieces e q (y ∷ ps) h s = (
    λ t g. none_some (sym (item_first e y ps) ∙ ap (item_at e) (sym s) ∙ sym (taken e q None t g h).0),
    λ x t g.
        let k = taken e q (Some x) t g h in (
          same_some (k.0 ∙ ap (item_at e) s ∙ item_first e y ps),
          yields_pieces e t ps (piece e q (Some x) t p g h).1 (k.1 ∙ ap (without e) s ∙ without_item e y ps),
        ),
  )

  -- the groups so far, and what is left
  pub yields_settled : (e : End) (q t : Q) (xs : List I) → settled q p → Yields (gives e) q xs t
      → settled t p × (from e (split p (remainder q)) ≡ map shows xs ++ from e (split p (remainder t)))
  yields_settled e q t [] h y = rw (sym y) (h, refl)
  yields_settled e q t (x ∷ xs) h y =
      let k = taken e q (Some x) y.0 y.1 h in
      let later = yields_settled e y.0 t xs (piece e q (Some x) y.0 p y.1 h).1 y.2 in
      (later.0, from_taken e (shows x) (split p (remainder q)) (sym k.0) ∙ ap (λ l. shows x ∷ l) (ap (from e) (sym k.1) ∙ later.1))

  -- the group that comes after them is a piece
  pub turn_piece : (e : End) (q s t : Q) (xs : List I) (x : I) → settled q p → Yields (gives e) q xs s → gives e s (Some x) t
      → Contains (split p (remainder q)) (shows x)
  turn_piece e q s t xs x h y g =
      let so_far = yields_settled e q s xs h y in
      let next = from_taken e (shows x) (split p (remainder s)) (sym (taken e s (Some x) t g so_far.0).0) in
      contains_from e (split p (remainder q)) (shows x)
      (rw (so_far.1, next) (Contains-append_right (map shows xs) (shows x ∷ _) (shows x) (contains_head (shows x) _)))

  none_left : (e : End) (ps : List (List A)) → None ≡ item_at e ps → ps ≡ []
  none_left Front [] h = refl
  none_left Front (x ∷ xs) h = cc h
  none_left Back [] h = refl
  none_left Back (x ∷ []) h = cc h
  none_left Back (x ∷ y ∷ ys) h = absurd (cc (none_left Back (y ∷ ys) h))

  from_nothing : (e : End) → from {X = List A} e [] ≡ []
  from_nothing Front = refl
  from_nothing Back = refl

  -- all groups, where `None` comes after them
  pub drains_settled : (e : End) (q : Q) (xs : List I) → settled q p → Drains (gives e) q xs → map shows xs ≡ from e (split p (remainder q))
  drains_settled e q xs h (u, (t, y, n)) =
      let seen = yields_settled e q t xs h y in
      let end = none_left e (split p (remainder t)) (taken e t None u n seen.0).0 in
      sym (seen.1 ∙ ap (λ l. map shows xs ++ l) (ap (from e) end ∙ from_nothing e) ∙ append-nil (map shows xs))

-- one call more
pub yields_more : {Q I : Type 0} (steps : Q → Option I → Q → Type 0) (q s t : Q) (xs : List I) (x : I) → Yields steps q xs s
    → steps s (Some x) t → Yields steps q (xs ++ x ∷ []) t
yields_more steps q s t [] x y g = (t, subst (λ r. steps r (Some x) t) (sym y) g, refl)
yields_more steps q s t (z ∷ zs) x y g = (y.0, y.1, yields_more steps y.0 s t zs x y.2 g)

module _ {Q I A : Type 0} (gives : End → Q → Option I → Q → Type 0) (remainder : Q → List A) (shows : I → List A)
    (part : (e : End) (q : Q) (o : Option I) (t : Q) → gives e q o t → TakesPart e (remainder q) (option_map shows o) (remainder t)) where
  pub yields_parts : (e : End) (q t : Q) (xs : List I) → Yields (gives e) q xs t
      → put_at e (concat (from e (map shows xs))) (remainder t) ≡ remainder q
  yields_parts Front q t [] y = ap remainder (sym y)
  yields_parts Front q t (x ∷ xs) y =
      append_assoc (shows x) (concat (map shows xs)) (remainder t)
      ∙ ap (λ l. shows x ++ l) (yields_parts Front y.0 t xs y.2) ∙ sym (part Front q (Some x) y.0 y.1).1
  yields_parts Back q t [] y = append-nil (remainder t) ∙ ap remainder (sym y)
  yields_parts Back q t (x ∷ xs) y =
      ap (λ l. remainder t ++ l) (ap concat (reverse-append (shows x ∷ []) (map shows xs)) ∙ joined_push (reverse (map shows xs)) (shows x))
      ∙ sym (append_assoc (remainder t) (concat (reverse (map shows xs))) (shows x))
      ∙ ap (λ l. l ++ shows x) (yields_parts Back y.0 t xs y.2) ∙ sym (part Back q (Some x) y.0 y.1).1

  pub drains_parts : (e : End) (q : Q) (xs : List I) → Drains (gives e) q xs → concat (from e (map shows xs)) ≡ remainder q
  drains_parts e q xs (u, (t, y, n)) =
      sym (put_nothing e (concat (from e (map shows xs)))) ∙ ap (put_at e (concat (from e (map shows xs)))) (sym (part e t None u n).0)
      ∙ yields_parts e q t xs y
    where
      put_nothing : (e : End) (ys : List A) → put_at e ys [] ≡ ys
      put_nothing Front ys = append-nil ys
      put_nothing Back ys = refl

-- what a reversed iterator gives, its own gives from the back
pub rev_always : {S A B : Type 0} (steps : S → Option A → S → Type 0) (v : A → B) (s : Rev S) (ys : List B)
    → AlwaysYields steps v (rev_source s) ys → AlwaysYields (rev_steps steps) v s ys
rev_always steps v s [] h = λ x j. h x (rev_source j)
rev_always steps v s (y ∷ ys) h = (λ j. h.0 (rev_source j), λ x j g. let k = h.1 x (rev_source j) g in (k.0, rev_always steps v j ys k.1))
