-- What an iterator over groups of a text shows, and what its calls give. A text is its bytes, and questions are about its characters.
use Rattle.std.specs.Prelude.{◌≡◌, ℕ, ◌<◌, Bool, ◌&&◌, ◌||◌, List, [], length, nat_lt, nat_le, slice_index}
use Rattle.std.specs.Prelude.{Option, MatchOption, if◌then◌else◌}
use Rattle.std.specs.Borrow.{Bor}
use Rattle.std.specs.Iterator.{Count, at_most}
use Rattle.std.specs.Str.{chars, IsUtf8}
use Rattle.sgb_split.specs.declared.judge.Judge.{Ghosts}
use Rattle.sgb_split.specs.declared.end.End.{End}
use Rattle.sgb_split.specs.Split.{put_at}
use Rattle.sgb_split.specs.Calls.{IsGroupAt, Groups, Place, place_after, part_between}
use Rattle.sgb_split.specs.Linear.{IsSettled, LinearQuestions}
use Rattle.sgb_linear_str_group.specs.declared.text_groups.LinearStrGroups.{LinearStrGroups}

-- the bytes that it has not handed out yet, and its judge
pub record TextGroups (J : Type 0) : Type 0 where
  pub text : List ℕ
  pub judge : J

-- the same by characters
abbrev pub in_characters : {J : Type 0} → TextGroups J → Groups ℕ J
in_characters s = record { remainder = chars s.text; judge = s.judge }

-- whether the place lies between characters, as `IsCharBoundary` says: a character begins with a byte below 128 or from 192 on,
-- and 0 stands for the byte at the end of the text
abbrev pub lies_between_characters : List ℕ → ℕ → Bool
lies_between_characters text place =
    nat_le place (length text) && (nat_lt (slice_index text place) 128 || nat_le 192 (slice_index text place))

-- the part of a text from `low` up to `high`, where both lie between characters and in this order, and else the empty text
abbrev pub text_between : List ℕ → ℕ → ℕ → List ℕ
text_between text = part_between (lies_between_characters text) text

-- what contracts see of an iterator for reading: the bytes that it has not handed out yet, and its judge
abbrev pub text_groups_of : {J : Type 0} → LinearStrGroups J → TextGroups J
text_groups_of s = record { text = text_between s.string.now s.low s.high; judge = s.judge }

-- the place, or the end of the text where that does not lie between characters
abbrev pub place_or_end : List ℕ → ℕ → ℕ
place_or_end text place = if lies_between_characters text place then place else length text

-- the text that it was made of, and the byte at which the remainder begins in it: behind all that calls at the front have taken off
abbrev pub text_place_of : {J : Type 0} → LinearStrGroups J → Place ℕ
text_place_of s = record { input = s.string.now; offset = place_or_end s.string.now s.low }

-- no more groups come than bytes remain
abbrev pub text_groups_to_come : {J : Type 0} → TextGroups J → Count
text_groups_to_come s = at_most (length s.text)

module _ {J : Type 0} (g : Ghosts J ℕ) where
  -- each answer to questions about the neighbouring characters that remain is what p says
  abbrev pub IsSettledText : TextGroups J → (ℕ → ℕ → Bool) → Type 0
  IsSettledText s p = IsSettled g (in_characters s) p

  -- by characters, a group and a rest as a linear call at the end of a list gives them; by bytes, the text is cut in two between characters
  pub record IsTextAt (e : End) (s : TextGroups J) (group : List ℕ) (t : TextGroups J) : Type 0 where
    pub characters : IsGroupAt (LinearQuestions g) e (in_characters s) (chars group) (in_characters t)
    pub cut : s.text ≡ put_at e group t.text
    pub nonempty : 0 < length group
    pub group_utf8 : IsUtf8 group
    pub rest_utf8 : IsUtf8 t.text

  -- a call: it gives the group there, or `None` exactly where nothing remains, and then nothing is asked and nothing changes
  abbrev pub TextCallAt : End → TextGroups J → Option (List ℕ) → TextGroups J → Type 0
  TextCallAt e s group t = MatchOption group ((s.text ≡ []) × (t ≡ s)) (λ x. IsTextAt e s x t)

  -- a call at the end takes this group off what remains, which then begins behind a group from the front, and else where it began
  pub record TakesText (e : End) (s : LinearStrGroups J) (group : List ℕ) (t : LinearStrGroups J) : Type 0 where
    pub call : IsTextAt e (text_groups_of s) group (text_groups_of t)
    pub place : text_place_of t ≡ place_after e (length group) (text_place_of s)

  -- what a call at the end gives for reading: the same as `TextCallAt` of what it shows, and where it gives `None` nothing at all changes
  abbrev pub GivesText : End → LinearStrGroups J → Option (Bor (List ℕ)) → LinearStrGroups J → Type 0
  GivesText e s group t = MatchOption group (((text_groups_of s).text ≡ []) × (t ≡ s)) (λ x. TakesText e s x.now t)
