use Rattle.std.proofs.Common.{◌≡◌, true, sym, ◌∙◌, append-nil}
use Rattle.std.proofs.lemmas.Bool.{false≢true}
use Rattle.program_parts.proofs.Writing.{writes_both}
use Rattle.index_reader.proofs.Answered.{all_done}
use Rattle.index_reader.proofs.run.answer_all.Goals as goal
use Rattle.index_reader.proofs.run.answer_all.Goals.{then-is_index_whole, else-is_index_whole}

pub returns-clause-answers : goal.returns-clause-answers
returns-clause-answers g c =
    let contents = g.W.Write.contents in
    let index = c.in_ok-index.index in
    let i = c.in_ok-is_index_whole.is_index_whole in
    let q = c.in_ok-are_queries_whole.are_queries_whole in
    let w = c.if-is_index_whole.result in
    let named = writes_both contents c.args.out.now c.write_names.new.out c.pass_on.new.out _ _ c.in_ok-write_names.ensures
    c.in_ok-pass_on.ensures.writes in
    let both : w ≡ true → (i ≡ true) × (q ≡ true) = elim c.if-is_index_whole.branch [
      | then-is_index_whole v ↦ λ e. (v.if-is_index_whole.true, sym v.result-is ∙ e)
      | else-is_index_whole v ↦ λ e. absurd (false≢true (sym v.if-is_index_whole.false ∙ sym v.result-is ∙ e))
    ] in
    all_done contents c.args.index.format c.args.queries.format _ (g.I.Read.remaining c.args.index.input)
    (g.Q.Read.remaining c.args.queries.input) index c.args.out.now c.pass_on.new.out c.answer_queries.new.out i q w
    c.in_ok-index.ensures.index (rw (c.names.ensures, append-nil) at named)
    (rw c.deref.ensures.value at c.in_ok-are_queries_whole.ensures.answers) c.in_ok-is_index_whole.ensures both
