-- What is written piece after piece.
use Rattle.std.proofs.Common.{◌≡◌, ℕ, List, [], ◌++◌, Option, None}
use Rattle.std.proofs.Common.{Some, sym, ap, ◌∙◌, append_assoc}
use Rattle.std.proofs.lemmas.List.{append-nil}
use Rattle.std.specs.Io.KnownBytes.{Appends, Keeps}

-- no text, and nothing is written
pub appends_nothing : (o : Option (List ℕ)) (text : List ℕ) → text ≡ [] → Appends o o text
appends_nothing None text none = tt
appends_nothing (Some xs) text none = sym (ap (λ t. xs ++ t) none ∙ append-nil xs)

-- one text, and then another
pub appends_both : (a b c : Option (List ℕ)) (x y : List ℕ) → Appends a b x → Appends b c y → Appends a c (x ++ y)
appends_both None b c x y h k = tt
appends_both (Some xs) None c x y h k = absurd h
appends_both (Some xs) (Some ys) None x y h k = absurd k
appends_both (Some xs) (Some ys) (Some zs) x y h k = k ∙ ap (λ t. t ++ y) h ∙ append_assoc xs x y

-- what is written stays written
pub appends_kept : (a b c : Option (List ℕ)) (text : List ℕ) → Appends a b text → Keeps b c → Appends a c text
appends_kept None b c text p q = tt
appends_kept (Some xs) None c text p q = absurd p
appends_kept (Some xs) (Some ys) None text p q = absurd q
appends_kept (Some xs) (Some ys) (Some zs) text p q = q ∙ p
