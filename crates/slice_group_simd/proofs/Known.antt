-- What masks of boundaries tell, and how they grow and shrink. Those from the back are masks of the reversed list.
use Rattle.std.proofs.Common.{refl, subst, ◌≡◌, ℕ, ◌+◌, ◌-◌, ◌^◌, ◌<◌, ◌≤◌, max, Bool, List, length, sym, ap, ◌∙◌, arith, ⊎_elim}
use Rattle.std.proofs.lemmas.Bool.{cases_lt, cond-true, false_from_ne_true, false≢true}
use Rattle.std.proofs.lemmas.Nat.Bits.{bit_at-zero}
use Rattle.std.specs.Int.{bit_at}
use Rattle.std.specs.Simd.Lanes.{mask_l, chunk}
use Rattle.sgb_numbers.specs.Numbers.{boundaries, differs, AreSame}
use Rattle.sgb_numbers.proofs.Scanned.{is_cut}
use Rattle.slice_group_simd.specs.Masks.{FrontMask}
use Rattle.slice_group_simd.proofs.Lowest.{lowest, lowest_below, lowest_set, below_clear, rest, rest_above, rest_set}
use Rattle.slice_group_simd.proofs.Pushed.{pushed, pushed_is, pushed_low, pushed_high}
use Rattle.slice_group_simd.proofs.Marks.{Marks, marks_of, mask_one}

moved : {T : Type 0} (eq : T → T → Bool) (xs : List T) (i j : ℕ) → i ≡ j → is_cut eq xs i → is_cut eq xs j
moved eq xs i j e cut = ap (differs eq xs) (sym e) ∙ cut

moved_bit : (m i j : ℕ) → i ≡ j → bit_at m i ≡ 1 → bit_at m j ≡ 1
moved_bit m i j e set = ap (bit_at m) (sym e) ∙ set

module _ {T : Type 0} {eq : T → T → Bool} {xs : List T} where
  never : {i j : ℕ} (p : ℕ) → AreSame eq xs i j → i ≤ p → p < j → is_cut eq xs p → ⊥
  never p s a b cut = false≢true (sym (s.at p a b) ∙ cut)

  same_unless : {i j : ℕ} → ((p : ℕ) → i ≤ p → p < j → is_cut eq xs p → ⊥) → AreSame eq xs i j
  same_unless h = record { at = λ p a b. false_from_ne_true (differs eq xs p) (h p a b) }

  pub front_bare : {low known i j : ℕ} → AreSame eq xs i j → i ≤ low → known ≤ j → FrontMask eq xs low 0 known
  front_bare same a b = record {
    sound = λ k set. absurd (omega (arith, set, bit_at-zero k));
    complete = λ p l u cut. absurd (never p same (omega (arith, a, l)) (omega (arith, u, b)) cut);
  }

  front_none : {low known : ℕ} → known ≤ low → FrontMask eq xs low 0 known
  front_none {low} l = front_bare {i = low} {j = low} (same_unless (λ p a b cut. absurd (omega arith))) (omega arith) l

  pub front_same : {low m known : ℕ} → m ≡ 0 → FrontMask eq xs low m known → AreSame eq xs low known
  front_same {low} {m} {known} none mask =
      same_unless (λ p a b cut.
      let clear = ap (λ (n : ℕ). bit_at n (p + 64 - known)) none in
      absurd (omega (arith, (mask.complete p a b cut).1, clear, bit_at-zero (p + 64 - known))))

  -- after pairs that do not differ
  pub front_wider : {low mid from m known : ℕ} → FrontMask eq xs low 0 mid → FrontMask eq xs from m known → low ≤ from → from ≤ max low mid
      → FrontMask eq xs low m known
  front_wider {from = from} none mask l u = record {
    sound = λ k set. let s = mask.sound k set in (omega (arith, s.0, l), s.1);
    complete =
        λ p a b cut. ⊎_elim
        (λ before. absurd (never p (front_same refl none) a (omega (arith, before, u)) cut))
        (λ after. mask.complete p after b cut) (cases_lt p from);
  }

  -- w pairs more
  module _ {low m known c next : ℕ} (w v : ℕ) (all : w + v ≡ 64) (small : m < 2 ^ 64) (after : low ≤ known) (more : next ≡ known + w)
      (fits : next ≤ low + 64) (room : next < length xs) (mask : FrontMask eq xs low m known)
      (is : c ≡ mask_l (chunk known w (boundaries eq xs))) where
    abbrev marks : Marks eq xs known w c
    marks = marks_of eq xs known w c (omega (arith, more, room)) is

    abbrev grown : ℕ
    grown = pushed w v m c all small marks.few

    pub front_grown : FrontMask eq xs low grown next
    front_grown = record {
      sound =
          λ k set. ⊎_elim
          (λ l.
          let s = mask.sound (w + k) (sym (pushed_low w v m c all small marks.few k l) ∙ set) in
          (omega (arith, s.0, more), moved eq xs (known + (w + k) - 64) (next + k - 64) (omega (arith, more)) s.1))
          (λ l.
          let s = marks.sound (k - v) (sym (pushed_high w v m c all small marks.few k l) ∙ set) in
          (omega (arith, after, l, all, more), moved eq xs (known + (k - v)) (next + k - 64) (omega (arith, l, all, more)) s.1))
          (cases_lt k v);
      complete =
          λ p a b cut.
          let here : next ≤ p + 64 = omega (arith, a, fits) in (
            here,
            ⊎_elim
                (λ before.
                let s = mask.complete p a before cut in
                pushed_low w v m c all small marks.few (p + 64 - next) (omega (arith, before, all, here, more))
                ∙ moved_bit m (p + 64 - known) (w + (p + 64 - next)) (omega (arith, here, more)) s.1)
                (λ from.
                pushed_high w v m c all small marks.few (p + 64 - next) (omega (arith, from, all, here, more))
                ∙ moved_bit c (p - known) (p + 64 - next - v) (omega (arith, from, all, here, more))
                (marks.complete (p - known) (omega (arith, from, b, more)) (moved eq xs p (known + (p - known)) (omega (arith, from)) cut)))
                (cases_lt p known),
          );
    }

  pub front_block : {at m known : ℕ} → known ≡ at + 64 → known < length xs → m ≡ mask_l (chunk at 64 (boundaries eq xs))
      → FrontMask eq xs at m known
  front_block {at} {m} {known} e room is =
      let few = (marks_of eq xs at 64 m (omega (arith, e, room)) is).few in
      let all : pushed 64 0 0 m refl (omega arith) few ≡ m = omega (arith, pushed_is 64 0 0 m refl (omega arith) few) in
      subst (λ (n : ℕ). FrontMask eq xs at n known) all
      (front_grown 64 0 refl (omega arith) (omega arith) e (omega (arith, e)) room (front_none (omega arith)) is)

  -- the pair j is the first that differs
  pub front_top : {low known i j : ℕ} → AreSame eq xs i j → is_cut eq xs j → i ≤ low → known ≡ j + 1 → low < known → known < length xs
      → FrontMask eq xs low (2 ^ 63) known
  front_top {low} {known} {i} {j} same cut a b some room =
      let one = mask_one eq xs j 1 (omega (arith, b, room)) (sym (cond-true {A = ℕ} (differs eq xs j) 1 0 cut)) in
      let none : FrontMask eq xs j 0 j = front_none (omega arith) in
      let bare : FrontMask eq xs low 0 j = front_bare same a (omega arith) in
      front_wider bare (front_grown 1 63 refl (omega arith) (omega arith) b (omega (arith, b)) room none one)
      (omega (arith, some, b)) (omega arith)

  -- its lowest bit, which tells where the first group ends
  module _ {low m known : ℕ} (some : 0 < m) (small : m < 2 ^ 64) (mask : FrontMask eq xs low m known) where
    abbrev first_bit : ℕ
    first_bit = lowest m some small

    first_sound : (low + 64 ≤ known + first_bit) × is_cut eq xs (known + first_bit - 64)
    first_sound = mask.sound first_bit (lowest_set m some small)

    pub first_few : first_bit ≤ 63
    first_few = omega (arith, lowest_below m some small)

    pub end_after : low + 64 ≤ known + first_bit
    end_after = first_sound.0

    module _ (end : ℕ) (is : end + 63 ≡ known + first_bit) where
      pub end_same : AreSame eq xs low (end - 1)
      end_same =
          same_unless (λ p a b cut.
          let s = mask.complete p a (omega (arith, b, is, first_few)) cut in
          absurd (omega (arith, s.1, below_clear m some small (p + 64 - known) (omega (arith, b, s.0, is, first_few)))))

      pub end_differs : is_cut eq xs (end - 1)
      end_differs = moved eq xs (known + first_bit - 64) (end - 1) (omega (arith, end_after, is)) first_sound.1

      pub end_mask : FrontMask eq xs end (rest m some small) known
      end_mask = record {
        sound =
            λ k set.
            let r = rest_set m some small k set in
            let s = mask.sound k r.1 in
            (omega (arith, r.0, is), s.1);
        complete =
            λ p a b cut.
            let s = mask.complete p (omega (arith, a, end_after, is)) b cut in
            (s.0, rest_above m some small (p + 64 - known) (omega (arith, a, s.0, is)) ∙ s.1);
      }
