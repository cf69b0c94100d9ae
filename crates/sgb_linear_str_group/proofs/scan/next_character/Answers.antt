use Rattle.std.proofs.Common.{◌≡◌, ℕ, [], ◌++◌, Option, None, Some, arith}
use Rattle.std.specs.Prelude.{MatchOption}
use Rattle.std.specs.Str.{IsUtf8}
use Rattle.std.specs.Str.Iter.{chars_rest, chars_steps}
use Rattle.std.specs.declared.str.Chars.{Chars}
use Rattle.std.specs.Char.{encode_utf8}
use Rattle.sgb_split.specs.Split.{put_at}
use Rattle.sgb_split.specs.declared.end.End.TheVariants.{Front}
use Rattle.std.proofs.lemmas.Grind.{common_steps}
use Rattle.std.proofs.lemmas.List.{nil_from_length}
use Rattle.std.proofs.lemmas.Str.{IsUtf8-past_char}
use Rattle.sgb_linear_str_group.proofs.scan.next_character.Goals as goal

-- what `next` of `Chars` leaves of UTF-8 is UTF-8
left_utf8 : (s t : Chars) (r : Option ℕ) → IsUtf8 (chars_rest s) → chars_steps s r t
    → MatchOption r (chars_rest s ≡ []) (λ c. (chars_rest s ≡ put_at Front (encode_utf8 c) (chars_rest t)) × IsUtf8 (chars_rest t))
left_utf8 s t None u h = nil_from_length (chars_rest s) h.0.0
left_utf8 s t (Some c) u h = (h.0, IsUtf8-past_char (chars_rest s) (chars_rest t) c u h.0)

pub returns-in-Front : goal.returns-in-Front
returns-in-Front c = rw c.in-Front.is (left_utf8 _ _ _ c.requires c.next.ensures.steps)

pub returns-else-is_empty : goal.returns-else-is_empty
returns-else-is_empty c =
    let whole : chars_rest c.args.characters.now ≡ chars_rest c.chars.result ++ encode_utf8 c.unwrap.result =
    grind (arith, common_steps, c.chars.ensures.rest, c.range.ensures.value, c.from_u32.ensures.value) in
    rw c.in-Back.is (whole, rw c.chars.ensures.rest c.range.utf8)
