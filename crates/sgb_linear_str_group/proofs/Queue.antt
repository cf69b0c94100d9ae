-- The laws of calls on a text: those of the list of its characters.
use Rattle.std.proofs.Common.{◌≡◌, ℕ, Bool, true, List, length, Option, None, Some, refl, ap, ◌∙◌, subst, arith}
use Rattle.std.specs.Prelude.{option_map, option_copied, IfSome}
use Rattle.std.specs.Borrow.{Bor}
use Rattle.std.specs.Str.{chars, IsUtf8}
use Rattle.std.proofs.lemmas.Str.{chars-nil}
use Rattle.sgb_split.specs.declared.end.End.{End}
use Rattle.sgb_split.specs.declared.judge.Judge.{Ghosts}
use Rattle.sgb_split.specs.Judges.{IsRunOf, AsksWithin}
use Rattle.sgb_split.specs.Split.{neighbours, TakesPart, TakesPiece, AreNeighbours}
use Rattle.sgb_split.specs.Calls.{CallAt, IsCallableBy}
use Rattle.sgb_split.specs.Linear.{LinearQuestions}
use Rattle.sgb_split.proofs.Questions.Calls as calls
use Rattle.sgb_split.proofs.Linear.LinearQueue as list
use Rattle.sgb_linear_str_group.specs.declared.text_groups.LinearStrGroups.{LinearStrGroups}
use Rattle.sgb_linear_str_group.specs.Texts.{TextGroups, text_groups_of, in_characters, IsSettledText, TextCallAt, GivesText}

module _ {J : Type 0} (g : Ghosts J ℕ) (e : End) where
  -- a call on a text is one on the list of its characters
  on_characters : (s t : TextGroups J) (r : Option (List ℕ)) → TextCallAt g e s r t
      → CallAt (LinearQuestions g) e (in_characters s) (option_map chars r) (in_characters t)
  on_characters s t None h = (ap chars h.0 ∙ chars-nil, ap in_characters h.1)
  on_characters s t (Some x) h = h.characters

  -- and a call for reading is one on what the iterator shows
  pub call : (s : LinearStrGroups J) (r : Option (Bor (List ℕ))) (t : LinearStrGroups J) → GivesText g e s r t
      → TextCallAt g e (text_groups_of s) (option_copied r) (text_groups_of t)
  call s None t h = (h.0, ap text_groups_of h.1)
  call s (Some x) t h = h.call

  -- a queue whose states show such texts, and whose items show such bytes
  module _ {Q I : Type 0} (seen : Q → TextGroups J) (bytes : I → List ℕ) (s : Q) (r : Option I) (t : Q)
      (h : TextCallAt g e (seen s) (option_map bytes r) (seen t)) where
    mapped : (r : Option I) → option_map chars (option_map bytes r) ≡ option_map (λ x. chars (bytes x)) r
    mapped None = refl
    mapped (Some x) = refl

    pub by_characters : CallAt (LinearQuestions g) e (in_characters (seen s)) (option_map (λ x. chars (bytes x)) r) (in_characters (seen t))
    by_characters = subst (λ o. CallAt (LinearQuestions g) e (in_characters (seen s)) o (in_characters (seen t))) (mapped r)
        (on_characters (seen s) (seen t) (option_map bytes r) h)

    pub part : TakesPart e (chars (seen s).text) (option_map (λ x. chars (bytes x)) r) (chars (seen t).text)
    part = calls.part (LinearQuestions g) e (in_characters (seen s)) _ (in_characters (seen t)) by_characters

    pub piece : (p : ℕ → ℕ → Bool) → IsSettledText g (seen s) p
        → TakesPiece p e (chars (seen s).text) (option_map (λ x. chars (bytes x)) r) (chars (seen t).text) × IsSettledText g (seen t) p
    piece p m = list.piece g e (in_characters (seen s)) _ (in_characters (seen t)) p by_characters m

    -- what may be asked before a call may be asked after it
    pub keeps : IsCallableBy AreNeighbours g (in_characters (seen s)) → IsCallableBy AreNeighbours g (in_characters (seen t))
    keeps = list.keeps g e (in_characters (seen s)) _ (in_characters (seen t)) by_characters

    -- n questions were asked, and the pairs of characters that remain are due
    pub asks : AsksWithin (λ s t n. IsRunOf g.may_ask g.answers n (seen s).judge (seen t).judge)
        (λ s. length (neighbours (chars (seen s).text))) true s t
    asks = calls.asks_seen _ _ _ (λ q. in_characters (seen q)) s t
        (list.asks g e (in_characters (seen s)) (option_map (λ x. chars (bytes x)) r) (in_characters (seen t)) by_characters)

  -- and by bytes
  pub bytes_part : {Q I : Type 0} (seen : Q → TextGroups J) (bytes : I → List ℕ) (s : Q) (r : Option I) (t : Q)
      → TextCallAt g e (seen s) (option_map bytes r) (seen t) → TakesPart e (seen s).text (option_map bytes r) (seen t).text
  bytes_part seen bytes s None t h = (h.0, ap (λ u. u.text) h.1 ∙ h.0)
  bytes_part seen bytes s (Some x) t h = (λ e. omega (arith, h.nonempty, ap length e), h.cut)

  pub group_utf8 : {Q I : Type 0} (seen : Q → TextGroups J) (bytes : I → List ℕ) (s : Q) (r : Option I) (t : Q)
      → TextCallAt g e (seen s) (option_map bytes r) (seen t) → IfSome r (λ x. IsUtf8 (bytes x))
  group_utf8 seen bytes s None t h = tt
  group_utf8 seen bytes s (Some x) t h = h.group_utf8
