use Rattle.std.proofs.Common.{◌≡◌, ℕ, ◌+◌, ◌-◌, ◌≤◌, List, [], ◌++◌, replicate, take, Option, ap, subst, ◌∙◌, arith}
use Rattle.std.specs.Io.KnownBytes.{Appends}
use Rattle.std.proofs.KnownBytes.{Appends-trans}
use Rattle.std.proofs.lemmas.List.{replicate-append-replicate, take-replicate, take_all}
use Rattle.run_length_coder.proofs.runs.Run.write_bytes.Goals as goal

-- an empty room, filled with a byte
filled : (old new : List ℕ) (len n byte : ℕ) → old ≡ [] → len ≡ 0 → new ≡ take n old ++ replicate (n - len) byte → new ≡ replicate n byte
filled old new len n byte none is_empty is =
    let all : n - len ≡ n = omega (arith, is_empty) in
    is ∙ ap (λ l. take n l ++ replicate (n - len) byte) none ∙ ap (λ l. l ++ replicate (n - len) byte) (take_all n [] (omega arith))
    ∙ ap (λ m. replicate m byte) all

-- of n copies some are left, and so many more are written, of those in the room
copies_more : (a b c : Option (List ℕ)) (n left k len byte : ℕ) → left ≤ n → len ≤ left → len ≤ k → Appends a b (replicate (n - left) byte)
    → Appends b c (take len (replicate k byte)) → Appends a c (replicate (n - (left - len)) byte)
copies_more a b c n left k len byte within few enough p q =
    let sum : n - left + len ≡ n - (left - len) = omega arith in
    subst (Appends a c) (ap (λ l. replicate (n - left) byte ++ l) (take-replicate len k byte enough)
    ∙ replicate-append-replicate (n - left) len byte ∙ ap (λ m. replicate m byte) sum) (Appends-trans a b c _ _ p q)

pub loop-left-preserved : goal.loop-left-preserved
loop-left-preserved g c =
    let run = c.args.self in
    let room = filled _ _ _ _ run.byte c.clear.ensures.items c.clear.ensures.len c.in_ok-resize.ensures.items in
    let enough : c.min-len.result ≤ c.min.result = omega (arith, c.in_ok-resize.ensures.len) in
    record {
      within = omega arith;
      written = copies_more _ _ _ run.count c.loop-left.left c.min.result c.min-len.result run.byte c.loop-left.invariant.within
          (omega arith) enough c.loop-left.invariant.written (rw (c.deref.ensures.value, room) at c.in_ok-write_all.ensures.bytes);
    }
