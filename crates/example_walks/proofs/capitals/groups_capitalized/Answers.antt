use Rattle.std.proofs.Common.{ℕ, ◌≡◌, ◌+◌, ◌/◌, ◌<◌, ◌≤◌, Bool, true, false, cond, refl, sym, ap, ◌∙◌, arith}
use Rattle.std.proofs.Common.{List, [], ◌∷◌, ◌++◌, map, get_or, append_assoc}
use mathlib.Core.Bool.{beq}
use lib.Dec.{ltb}
use lib.Utf8.{next}
use Rattle.std.specs.List.{AllByRecursion}
use Rattle.std.specs.Str.{chars, IsUtf8, encode_utf8_all}
use Rattle.std.specs.Char.{encode_utf8, is_ascii_alphabetic, to_ascii_uppercase}
use Rattle.std.proofs.lemmas.Bool.Decides.{nat_tests}
use Rattle.std.proofs.lemmas.List.{map-append}
use Rattle.std.proofs.lemmas.Str.{encodes-chars, byte_from_char}
use Rattle.slice_group_by.specs.Split.{IsAccepted}
use Rattle.slice_group_by.specs.End.{End}
use Rattle.slice_group_by.specs.End.TheVariants.{Front}
use Rattle.example_walks.proofs.capitals.groups_capitalized.Goals.{then-is_ascii_alphabetic, else-is_ascii_alphabetic}
use Rattle.example_walks.proofs.capitals.groups_capitalized.Goals as goal

abbrev same_kind : ℕ → ℕ → Bool
same_kind a b = beq (is_ascii_alphabetic a) (is_ascii_alphabetic b)

abbrev upper : List ℕ → List ℕ
upper bs = map to_ascii_uppercase bs

-- what is no letter has no other case, in bytes too
other_byte : (b : ℕ) → is_ascii_alphabetic b ≡ false → to_ascii_uppercase b ≡ b
other_byte b e = grind (arith, nat_tests)

high_bytes : (bs : List ℕ) → AllByRecursion (λ b. 128 ≤ b) bs → upper bs ≡ bs
high_bytes [] h = refl
high_bytes (b ∷ bs) h = let e : to_ascii_uppercase b ≡ b = grind (arith, nat_tests) in rw (e, high_bytes bs h.1) refl

other_char : (c : ℕ) → is_ascii_alphabetic c ≡ false → upper (encode_utf8 c) ≡ encode_utf8 c
unfolding encode_utf8
other_char c e = by (ltb c 128) (ltb c 2048) (ltb c 65536)
  where
    by : (x y z : Bool)
        → upper (cond x (c ∷ []) (cond y ((192 + c / 64) ∷ next c ∷ []) (cond z ((224 + c / 4096) ∷ next (c / 64) ∷ next c ∷ [])
        ((240 + c / 262144) ∷ next (c / 4096) ∷ next (c / 64) ∷ next c ∷ []))))
        ≡ cond x (c ∷ []) (cond y ((192 + c / 64) ∷ next c ∷ []) (cond z ((224 + c / 4096) ∷ next (c / 64) ∷ next c ∷ [])
        ((240 + c / 262144) ∷ next (c / 4096) ∷ next (c / 64) ∷ next c ∷ [])))
    by true y z = ap (λ b. b ∷ []) (other_byte c e)
    by false true z = high_bytes _ (omega arith, (omega arith, tt))
    by false false true = high_bytes _ (omega arith, (omega arith, (omega arith, tt)))
    by false false false = high_bytes _ (omega arith, (omega arith, (omega arith, (omega arith, tt))))

others : (cs : List ℕ) → AllByRecursion (λ c. is_ascii_alphabetic c ≡ false) cs → upper (encode_utf8_all cs) ≡ encode_utf8_all cs
others [] h = refl
others (c ∷ cs) h = map-append to_ascii_uppercase (encode_utf8 c) (encode_utf8_all cs) ∙ rw (other_char c h.0, others cs h.1) refl

-- a group whose first byte is no letter has none
beq_same : (a b : Bool) → beq a b ≡ true → a ≡ b
beq_same true true e = refl
beq_same true false e = sym e
beq_same false true e = e
beq_same false false e = refl

all_other : (c : ℕ) (cs : List ℕ) → is_ascii_alphabetic c ≡ false → IsAccepted same_kind (c ∷ cs)
    → AllByRecursion (λ d. is_ascii_alphabetic d ≡ false) (c ∷ cs)
all_other c [] e a = (e, tt)
all_other c (d ∷ ds) e a = (e, all_other d ds (sym (beq_same _ _ a.0) ∙ e) a.1)

first_other : (c : ℕ) (group rest : List ℕ) → group ≡ encode_utf8 c ++ rest → is_ascii_alphabetic (get_or group 0 0) ≡ false
    → is_ascii_alphabetic c ≡ false
first_other c group rest e f = by (is_ascii_alphabetic c) refl
  where
    by : (b : Bool) → is_ascii_alphabetic c ≡ b → is_ascii_alphabetic c ≡ false
    by true g =
        let low : c < 128 = grind (arith, nat_tests) in
        ap is_ascii_alphabetic (sym (byte_from_char group rest c e low)) ∙ f
    by false g = g

other_group : (group : List ℕ) → IsUtf8 group → is_ascii_alphabetic (get_or group 0 0) ≡ false → IsAccepted same_kind (chars group)
    → upper group ≡ group
other_group group u f a = by (chars group) (encodes-chars group u) a
  where
    by : (cs : List ℕ) → encode_utf8_all cs ≡ group → IsAccepted same_kind cs → upper group ≡ group
    by [] e a = rw (← e) refl
    by (c ∷ cs) e a =
        ap upper (sym e) ∙ others (c ∷ cs) (all_other c cs (first_other c group (encode_utf8_all cs) (sym e) f) a) ∙ e

-- one group more is done
one_more : (done group rest text whole before value : List ℕ) → done ++ upper text ≡ whole → text ≡ group ++ rest
    → before ≡ done ++ value → value ≡ upper group → before ++ upper rest ≡ whole
one_more done group rest text whole before value i cut b v =
    ap (λ l. l ++ upper rest) (b ∙ ap (λ l. done ++ l) v) ∙ append_assoc done (upper group) (upper rest)
    ∙ ap (λ l. done ++ l) (sym (map-append to_ascii_uppercase group rest) ∙ ap upper (sym cut)) ∙ i

pub loop-group-preserved-derived : goal.loop-group-preserved-derived
loop-group-preserved-derived g c = (rw (c.note_front.ensures.text, c.note_front.ensures.judge) c.in-Some.ensures.goes.keeps, tt)

pub loop-group-preserved : goal.loop-group-preserved
loop-group-preserved g c =
    let i = c.loop-group.invariant in
    let step = c.in-Some.ensures.steps in
    let note = c.note_front.ensures in
    let laws = c.calls_take_pieces.ensures in
    let settled = laws.settled same_kind Front c.loop-group.groups c.next.new.self c.next.result c.next.ensures.steps i.letters in
    let accepted = laws.accepted same_kind Front c.loop-group.groups c.next.new.self c.in-Some.group step i.letters in
    let written : c.if-is_ascii_alphabetic.group ≡ upper c.in-Some.group.now = elim c.if-is_ascii_alphabetic.branch [
      | then-is_ascii_alphabetic w ↦ w.group-is ∙ w.make_ascii_uppercase.ensures.after
      | else-is_ascii_alphabetic w ↦ w.group-is
          ∙ sym (other_group c.in-Some.group.now step.0.group_utf8 (sym w.if-is_ascii_alphabetic.ensures.value) accepted)
    ] in
    record {
      letters = rw (note.text, note.judge) settled;
      root = rw (note.root, step.1.root) i.root;
      after = rw (note.after, step.1.after) i.after;
      cuts = rw (note.cuts, step.1.cuts, i.cuts) (refl {A = List (End × ℕ)});
      done = rw note.text (one_more c.loop-group.groups.loans.before c.in-Some.group.now c.next.new.self.text c.loop-group.groups.text
          _ _ c.of.result.value i.done step.0.cut (rw note.before (ap (λ l. l ++ c.of.result.value) step.1.before))
          (c.of.ensures.value ∙ written));
    }
