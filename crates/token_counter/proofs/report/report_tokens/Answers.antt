use Rattle.std.proofs.Common.{◌≡◌, ℕ, List, Option, Some, None, IfSome, sym, subst, ◌∙◌, refl}
use Rattle.std.specs.Str.{chars}
use Rattle.std.specs.Io.KnownBytes.{Appends, Keeps}
use Rattle.std.proofs.KnownBytes.{Appends-kept}
use Rattle.slice_group_simd.specs.declared.AsciiClass.{AsciiClass}
use Rattle.slice_group_simd.specs.declared.AsciiClass.TheVariants.{Letter, Digit, Space, Other}
use Rattle.slice_group_simd.specs.Counted.{count_of}
use Rattle.token_counter.specs.Tokens.{report, token_count}
use Rattle.token_counter.proofs.report.report_tokens.Goals as goal

report_same : (f g : AsciiClass → ℕ) → ((c : AsciiClass) → f c ≡ g c) → report f ≡ report g
report_same f g h = rw (h Letter, h Digit, h Space, h Other) refl

-- what is known of the input, where it is
where_known : (known : Option (List ℕ)) (P Q : List ℕ → Type 0) → ((bytes : List ℕ) → P bytes → Q bytes) → IfSome known P → IfSome known Q
where_known None P Q f p = tt
where_known (Some bytes) P Q f p = f bytes p

-- the report is written, and stays
printed : (counts : AsciiClass → ℕ) (before after flushed : Option (List ℕ)) (text : List ℕ) → Appends before after (report counts)
    → Keeps after flushed → ((k : AsciiClass) → counts k ≡ token_count k text)
    → Appends before flushed (report (λ k. token_count k text))
printed counts before after flushed text wrote kept same =
    subst (Appends before flushed) (report_same _ _ same) (Appends-kept _ _ _ _ wrote kept)

pub returns-clause-bytes : goal.returns-clause-bytes
returns-clause-bytes g c =
    let counts : AsciiClass → ℕ = λ k. count_of k c.in_ok-counts.counts in
    where_known _ (λ text. (k : AsciiClass) → counts k ≡ token_count k text) _
    (λ text t. printed counts _ _ _ text c.in_ok-write_report.ensures c.flush.ensures.bytes t) c.in_ok-counts.ensures

pub returns-clause-characters : goal.returns-clause-characters
returns-clause-characters g c =
    let counts : AsciiClass → ℕ = λ k. count_of k c.in_ok-counts.counts in
    where_known _ (λ text. (k : AsciiClass) → counts k ≡ token_count k text) _
    (λ text t is_utf8. printed counts _ _ _ (chars text) c.in_ok-write_report.ensures c.flush.ensures.bytes
    (λ k. t k ∙ sym (c.characters_agree.ensures k text is_utf8))) c.in_ok-counts.ensures
