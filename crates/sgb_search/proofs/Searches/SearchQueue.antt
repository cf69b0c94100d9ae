-- The laws of binary and exponential calls: a call ends at a local boundary; on a settled iterator it gives the outermost piece, and
-- leaves it settled.
use Rattle.std.specs.Prelude.{◌≡◌, ℕ, ◌+◌, ◌-◌, ◌<◌, ◌≤◌, Bool, true, false, List, [], ◌∷◌, ◌++◌, length, reverse, refl, Option, None, Some, slice_get}
use Rattle.std.proofs.Common.{suc, sym, ap, subst, arith, ◌∙◌, inl, inr, get_or, length-append, append_assoc}
use Rattle.std.proofs.lemmas.List.{append-nil}
use Rattle.std.proofs.lemmas.Option.{slice_get-get_or, slice_get_within}
use Rattle.sgb_split.specs.declared.judge.Judge.{Ghosts}
use Rattle.sgb_split.specs.Split.{on_pairs, from, put_at, last, without_last, IsAccepted, IsRefusedAcross, TakesPiece, IsGrouped, AreApart}
use Rattle.sgb_split.specs.declared.end.End.{End}
use Rattle.sgb_split.specs.declared.end.End.TheVariants.{Front, Back}
use Rattle.sgb_split.specs.Calls.{IsGroupAt, CallAt, Groups, ComputesBy, IsCallableBy}
use Rattle.sgb_search.specs.Searching.{SearchCost, IsWithin, IsBetween, IsLowEnd, IsHighEnd, as_ordering, outward, QuestionsAt, IsLocalEnd, IsSettledApart, SearchQuestions}
use Rattle.sgb_search.specs.Search.{AnswersAt}
use Rattle.sgb_split.proofs.Lists.Ends.{length-from, length-put_at}
use Rattle.sgb_split.proofs.Lists.Apart.{get_reverse, apart_of_rest}
use Rattle.sgb_search.proofs.Searches.Outward.{outward_len, outward_of, outward_apart}
use Rattle.sgb_split.proofs.Lists.Pairs.{in_order}
use Rattle.sgb_split.proofs.Splits.Grouped.{parts_of_grouped, grouped_part, get_after, get_before, last_is}
use Rattle.sgb_split.proofs.Splits.Split.{takes_piece, takes_nothing}
use Rattle.std.specs.declared.cmp.Ordering.{Ordering}
use Rattle.std.specs.declared.cmp.Ordering.TheVariants.{Less, Greater}
use Rattle.sgb_split.specs.Judges.{IsRunOf, Computes, AsksWithin}
use Rattle.sgb_search.proofs.Searches.AtPlaces.{asked_at, answered_by}
use Rattle.sgb_search.proofs.Searches.Boundaries.{tells_more, one_answer, answers_once, side_before, side_after}
use Rattle.sgb_split.proofs.Questions.Calls as calls
use Rattle.sgb_split.proofs.Questions.Calls.{AsksAllowed, nothing_asked}

module _ {T J : Type 0} (g : Ghosts J T) (cost : SearchCost) (e : End) (xs : List T) (n : ℕ) (j k : J)
    (h : SearchQuestions g cost e xs n j k) where
  -- the questions of a call are about two different places
  pub asked_apart : QuestionsAt g.may_ask g.answers (outward (from e xs)) (AreApart xs) j h.questions k
  asked_apart =
      asked_at g.may_ask g.answers (outward (from e xs)) (IsBetween 0 (length (outward (from e xs)))) (AreApart xs)
      (λ i q b. outward_apart e xs i q) j h.questions k h.run h.places

  -- and no more than it costs
  pub asked_within : 0 < n → n ≤ length xs → IsWithin cost (length xs) n (length h.questions)
  asked_within some room =
      let long = outward_len (from e xs) in
      subst (λ (m : ℕ). IsWithin cost m n (length h.questions)) {x = length (outward (from e xs)) - 0 + 1} {y = length xs}
      (omega (arith, long, length-from e xs, some, room))
      (subst (λ (m : ℕ). IsWithin cost (length (outward (from e xs)) - 0 + 1) m (length h.questions)) {x = n - 1 - 0 + 1} {y = n}
      (omega (arith, some)) h.most)

  -- where the judge answers what p says, it ends at a local boundary
  module _ (p : T → T → Bool) (by : Computes g.may_ask g.answers (AreApart xs) (on_pairs p) j) where
    abbrev ys : List T
    ys = from e xs

    abbrev says : ℕ → Ordering → Type 0
    says = AnswersAt (λ q. as_ordering (on_pairs p q)) (outward ys)

    ends : IsLowEnd says 0 (n - 1) × IsHighEnd says (length (outward ys)) (n - 1)
    ends =
        one_answer says (answers_once (λ q. as_ordering (on_pairs p q)) (outward ys)) _ 0 (length (outward ys)) (n - 1)
        (tells_more _ says (answered_by _ _ (outward ys) (IsBetween 0 (length (outward ys))) (AreApart xs)
        (λ i q b. outward_apart e xs i q) j h.questions k h.run h.places (on_pairs p) by as_ordering) _ 0 (length (outward ys)) (n - 1)
        h.tells.2)

    at_pair : (i : ℕ) (o : Ordering) (x y : T) → says i o → slice_get ys 0 ≡ Some x → slice_get ys (suc i) ≡ Some y
        → as_ordering (p x y) ≡ o
    at_pair i o x y a ex ey =
        let same : a.0 ≡ (x, y) = cc (a.1, outward_of ys i x y ex ey) in ap (λ (q : T × T). as_ordering (p q.0 q.1)) (sym same) ∙ a.2

    pub call_ends : 0 < n → n ≤ length xs → IsLocalEnd ys p n
    call_ends some room = record {
      nonempty = some;
      within = omega (arith, room, length-from e xs);
      inner = inner ends.0;
      beyond = beyond ends.1;
    }
      where
        inner : IsLowEnd says 0 (n - 1) → (x y : T) → 1 < n → slice_get ys 0 ≡ Some x → slice_get ys (n - 1) ≡ Some y → p x y ≡ true
        inner (inl e) x y l ex ey = absurd (omega arith)
        inner (inr a) x y l ex ey =
            side_before (p x y) (at_pair (n - 1 - 1) Less x y a.1 ex (ap (slice_get ys) {x = suc (n - 1 - 1)} {y = n - 1} (omega arith) ∙ ey))

        beyond : IsHighEnd says (length (outward ys)) (n - 1) → (x y : T) → slice_get ys 0 ≡ Some x → slice_get ys n ≡ Some y → p x y ≡ false
        beyond (inl f) x y ex ey = absurd (omega (arith, slice_get_within ys n y ey, outward_len ys, some))
        beyond (inr a) x y ex ey =
            side_after (p x y) (at_pair (n - 1) Greater x y a.1 ex (ap (slice_get ys) {x = suc (n - 1)} {y = n} (omega (arith, some)) ∙ ey))

-- the local boundary of a grouped list is where the first piece ends
module _ {T : Type 0} (p : T → T → Bool) where
  accepted_push : (xs : List T) (a y : T) → last xs ≡ Some a → IsAccepted p xs → p a y ≡ true → IsAccepted p (xs ++ y ∷ [])
  accepted_push [] a y e h t = tt
  accepted_push (x ∷ []) a y e h t = let same : x ≡ a = cc e in (ap (λ (z : T). p z y) same ∙ t, tt)
  accepted_push (x ∷ z ∷ zs) a y e h t = (h.0, accepted_push (z ∷ zs) a y e h.1 t)

  refused_else : (b : Bool) → (b ≡ true → ⊥) → b ≡ false
  refused_else true h = absurd (h refl)
  refused_else false h = refl

  -- at the front
  module _ (x : T) (more rest : List T) (h : IsGrouped p ((x ∷ more) ++ rest))
      (l : IsLocalEnd ((x ∷ more) ++ rest) p (length (x ∷ more))) where
    front_accepted : IsAccepted p (x ∷ more)
    front_accepted = by more refl
      where
        by : (ms : List T) → more ≡ ms → IsAccepted p (x ∷ more)
        by [] e = rw e tt
        by (m ∷ ms) e =
            let n : length more ≡ length (m ∷ ms) = ap length e in
            let y = get_or (x ∷ more) (length (x ∷ more) - 1) x in
            let ey : slice_get (x ∷ more) (length (x ∷ more) - 1) ≡ Some y = slice_get-get_or (x ∷ more) (length (x ∷ more) - 1) x
            (omega arith) in
            let yes = l.inner x y (omega arith) refl (get_before (x ∷ more) rest (length (x ∷ more) - 1) y ey) in
            (parts_of_grouped p ((x ∷ more) ++ rest) h [] (x ∷ more) rest refl x y (omega arith) refl ey).0.0 yes

    front_refused : IsRefusedAcross p (x ∷ more, rest)
    front_refused a b ea eb = by rest refl
      where
        by : (rs : List T) → rest ≡ rs → p a b ≡ false
        by [] e = cc (e, eb)
        by (r ∷ rs) e =
            let same : r ≡ b = cc (e, eb) in
            let whole : (x ∷ more) ++ rest ≡ [] ++ (((x ∷ more) ++ b ∷ []) ++ rs) = ap (λ (z : List T). (x ∷ more) ++ z)
            (e ∙ ap (λ (z : T). z ∷ rs) same) ∙ sym (append_assoc (x ∷ more) (b ∷ []) rs) in
            let n = length-append (x ∷ more) (b ∷ []) in
            let at_end : slice_get ((x ∷ more) ++ b ∷ []) (length ((x ∷ more) ++ b ∷ []) - 1) ≡ Some b = get_after (x ∷ more) (b ∷ [])
            (length ((x ∷ more) ++ b ∷ []) - 1) 0 (omega arith) in
            let beyond : slice_get ((x ∷ more) ++ rest) (length (x ∷ more)) ≡ Some b = get_after (x ∷ more) rest (length (x ∷ more)) 0
            (omega arith) ∙ rw (e, same) refl in
            let no = l.beyond x b refl beyond in
            refused_else (p a b) (λ yes.
            let all = accepted_push (x ∷ more) a b ea front_accepted yes in
            let wrong : p x b ≡ true =
            (parts_of_grouped p ((x ∷ more) ++ rest) h [] ((x ∷ more) ++ b ∷ []) rs whole x b (omega arith) refl at_end).0.1 all in
            cc (wrong, no))

  -- at the back
  module _ (rest : List T) (y : T) (ys : List T) (h : IsGrouped p (rest ++ y ∷ ys))
      (l : IsLocalEnd (reverse (rest ++ y ∷ ys)) p (length (y ∷ ys))) where
    abbrev outermost : T
    outermost = get_or (y ∷ ys) (length (y ∷ ys) - 1) y

    at_end : slice_get (y ∷ ys) (length (y ∷ ys) - 1) ≡ Some outermost
    at_end = slice_get-get_or (y ∷ ys) (length (y ∷ ys) - 1) y (omega arith)

    long : length (rest ++ y ∷ ys) ≡ length rest + length (y ∷ ys)
    long = length-append rest (y ∷ ys)

    first_read : slice_get (reverse (rest ++ y ∷ ys)) 0 ≡ Some outermost
    first_read =
        get_reverse (rest ++ y ∷ ys) 0 outermost (omega (arith, long))
        (get_after rest (y ∷ ys) (length (rest ++ y ∷ ys) - 1 - 0) (length (y ∷ ys) - 1) (omega (arith, long)) ∙ at_end)

    back_accepted : IsAccepted p (y ∷ ys)
    back_accepted = by ys refl
      where
        by : (ms : List T) → ys ≡ ms → IsAccepted p (y ∷ ys)
        by [] e = rw e tt
        by (m ∷ ms) e =
            let n : length ys ≡ length (m ∷ ms) = ap length e in
            let inner_read = get_reverse (rest ++ y ∷ ys) (length (y ∷ ys) - 1) y (omega (arith, long))
            (get_after rest (y ∷ ys) (length (rest ++ y ∷ ys) - 1 - (length (y ∷ ys) - 1)) 0 (omega (arith, long))) in
            let yes = l.inner outermost y (omega arith) first_read inner_read in
            (parts_of_grouped p (rest ++ y ∷ ys) h rest (y ∷ ys) [] (ap (λ (z : List T). rest ++ z) (sym (append-nil (y ∷ ys)))) y outermost
            (omega arith) refl at_end).1.0 yes

    back_refused : IsRefusedAcross p (rest, y ∷ ys)
    back_refused a b ea eb =
        let same : y ≡ b = cc eb in
        let cut : rest ≡ without_last rest ++ a ∷ [] = last_is rest a ea in
        let whole : rest ++ y ∷ ys ≡ without_last rest ++ ((a ∷ y ∷ ys) ++ []) = ap (λ (z : List T). z ++ y ∷ ys) cut ∙ append_assoc
        (without_last rest) (a ∷ []) (y ∷ ys) ∙ ap (λ (z : List T). without_last rest ++ z) (sym (append-nil (a ∷ y ∷ ys))) in
        let n : length rest ≡ length (without_last rest) + 1 = ap length cut ∙ length-append (without_last rest) (a ∷ []) in
        let before : slice_get (rest ++ y ∷ ys) (length (without_last rest)) ≡ Some a = ap
        (λ (z : List T). slice_get z (length (without_last rest))) whole ∙ get_after (without_last rest) ((a ∷ y ∷ ys) ++ [])
        (length (without_last rest)) 0 (omega arith) in
        let beyond_read = get_reverse (rest ++ y ∷ ys) (length (y ∷ ys)) a (omega (arith, long))
        (ap (slice_get (rest ++ y ∷ ys)) {x = length (rest ++ y ∷ ys) - 1 - length (y ∷ ys)} {y = length (without_last rest)}
        (omega (arith, long, n)) ∙ before) in
        let no = l.beyond outermost a first_read beyond_read in
        let at_last : slice_get (a ∷ y ∷ ys) (length (a ∷ y ∷ ys) - 1) ≡ Some outermost = get_after (a ∷ []) (y ∷ ys)
        (length (a ∷ y ∷ ys) - 1) (length (y ∷ ys) - 1) (omega arith) ∙ at_end in
        refused_else (p a b) (λ yes.
        let all : IsAccepted p (a ∷ y ∷ ys) = (ap (p a) same ∙ yes, back_accepted) in
        let wrong : p outermost a ≡ true =
        (parts_of_grouped p (rest ++ y ∷ ys) h (without_last rest) (a ∷ y ∷ ys) [] whole a outermost
        (omega arith) refl at_last).1.1 all in
        cc (wrong, no))

-- at either end
module _ {T : Type 0} (p : T → T → Bool) where
  outermost_piece : (e : End) (x : T) (xs rest : List T) → IsGrouped p (put_at e (x ∷ xs) rest)
      → IsLocalEnd (from e (put_at e (x ∷ xs) rest)) p (length (x ∷ xs)) → IsAccepted p (x ∷ xs) × IsRefusedAcross p
      (in_order e (x ∷ xs) rest)
  outermost_piece Front x xs rest h l = (front_accepted p x xs rest h l, front_refused p x xs rest h l)
  outermost_piece Back x xs rest h l = (back_accepted p rest x xs h l, back_refused p rest x xs h l)

  grouped_rest : (e : End) (part rest : List T) → IsGrouped p (put_at e part rest) → IsGrouped p rest
  grouped_rest Front part rest h =
      grouped_part p part rest [] (subst (IsGrouped p) (ap (λ (l : List T). part ++ l) (sym (append-nil rest))) h)
  grouped_rest Back part rest h = grouped_part p [] rest part h

-- a group is no longer than what remained
pub room_of : {T J : Type 0} (g : Ghosts J T) (cost : SearchCost) (e : End) (s : Groups T J) (group : List T) (t : Groups T J)
    → IsGroupAt (SearchQuestions g cost) e s group t → length group ≤ length s.remainder
room_of g cost e s group t h = omega (arith, ap length h.cut, length-put_at e group t.remainder)

module _ {T J : Type 0} (g : Ghosts J T) (cost : SearchCost) (p : T → T → Bool) where
  -- a call on a judge that answers by its arguments alone
  pub ends_locally : (e : End) (s : Groups T J) (group : List T) (t : Groups T J) → ComputesBy AreApart g s p
      → IsGroupAt (SearchQuestions g cost) e s group t → IsLocalEnd (from e s.remainder) p (length group)
  ends_locally e s group t m h =
      call_ends g cost e s.remainder (length group) s.judge t.judge h.asked p m h.nonempty (room_of g cost e s group t h)

  taken : (e : End) (s : Groups T J) (group : List T) (t : Groups T J) → IsSettledApart g s p → IsGroupAt
      (SearchQuestions g cost) e s group t
      → TakesPiece p e s.remainder (Some group) t.remainder
  taken e s [] t m h = absurd (omega (arith, h.nonempty))
  taken e s (x ∷ xs) t m h =
      let here = ends_locally e s (x ∷ xs) t m.computes h in
      let here' = rw h.cut at here in
      let grouped = rw h.cut at m.grouped in
      let piece = outermost_piece p e x xs t.remainder grouped here' in
      rw h.cut (takes_piece p e x xs t.remainder piece.0 piece.1)

  gives_piece : (e : End) (s t : Groups T J) (r : Option (List T)) → IsSettledApart g s p → CallAt (SearchQuestions g cost) e s r t
      → TakesPiece p e s.remainder r t.remainder × IsGrouped p t.remainder
  gives_piece e s t None m h = (rw (h.1, h.0) (takes_nothing p e), subst (λ (u : Groups T J). IsGrouped p u.remainder) (sym h.1) m.grouped)
  gives_piece e s t (Some x) m h = (taken e s x t m h, grouped_rest p e x t.remainder (subst (IsGrouped p) h.cut m.grouped))

module _ {T J : Type 0} (g : Ghosts J T) (cost : SearchCost) where
  asks_apart : (e : End) (xs : List T) (n : ℕ) (j k : J) → SearchQuestions g cost e xs n j k → AsksAllowed g (AreApart xs) j k
  asks_apart e xs n j k h =
      let a = asked_apart g cost e xs n j k h in record { questions = a.questions; run = a.run; about = a.about }

  pub keeps : (e : End) (s : Groups T J) (r : Option (List T)) (t : Groups T J) → CallAt (SearchQuestions g cost) e s r t
      → IsCallableBy AreApart g s → IsCallableBy AreApart g t
  keeps = calls.keeps g AreApart apart_of_rest (SearchQuestions g cost) asks_apart

  pub callable_behind : (before rest : List T) (j : J) → IsCallableBy AreApart g (record { remainder = before ++ rest; judge = j })
      → IsCallableBy AreApart g (record { remainder = rest; judge = j })
  callable_behind = calls.callable_behind g AreApart apart_of_rest

  pub settled_behind : (before rest : List T) (j : J) (p : T → T → Bool)
      → IsSettledApart g (record { remainder = before ++ rest; judge = j }) p
      → IsSettledApart g (record { remainder = rest; judge = j }) p
  settled_behind before rest j p m = record {
    computes = calls.computes_behind g AreApart apart_of_rest before rest j p m.computes;
    grouped = grouped_rest p Front before rest m.grouped;
  }

  pub computes_on : (p : T → T → Bool) (e : End) (s : Groups T J) (r : Option (List T)) (t : Groups T J) → CallAt
      (SearchQuestions g cost) e s r t
      → ComputesBy AreApart g s p → ComputesBy AreApart g t p
  computes_on = calls.computes_on g AreApart apart_of_rest (SearchQuestions g cost) asks_apart

  pub piece : (e : End) (s : Groups T J) (r : Option (List T)) (t : Groups T J) (p : T → T → Bool) → CallAt (SearchQuestions g cost) e s r t
      → IsSettledApart g s p → TakesPiece p e s.remainder r t.remainder × IsSettledApart g t p
  piece e s r t p h m =
      let k = gives_piece g cost p e s t r m h in
      (k.0, record { computes = computes_on p e s r t h m.computes; grouped = k.1 })

  pub asks : (e : End) (s : Groups T J) (r : Option (List T)) (t : Groups T J) → CallAt (SearchQuestions g cost) e s r t
      → AsksWithin (λ q r n. IsRunOf g.may_ask g.answers n q.judge r.judge) (λ q. cost.walk (length q.remainder)) false s t
  asks e s None t h = nothing_asked g (λ q. cost.walk (length q.remainder)) false s t h.1
  asks e s (Some x) t h =
      let a = asked_apart g cost e s.remainder (length x) s.judge t.judge h.asked in
      let most = asked_within g cost e s.remainder (length x) s.judge t.judge h.asked h.nonempty (room_of g cost e s x t h) in
      let cut : length s.remainder - length x ≡ length t.remainder = omega (arith, ap length h.cut, length-put_at e x t.remainder) in
      record {
        number = length h.asked.questions;
        asks = (a.questions, a.run, a.long);
        most = omega (arith, most.walk, ap cost.walk cut);
        all = λ never. cc never;
      }
