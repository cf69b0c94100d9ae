use Rattle.sgb_linear_str_group.proofs.AsciiCopies.{cut_front, boundary_front, cut_back, boundary_back}
use Rattle.sgb_linear_str_group.proofs.copies.split_copies.Goals as goal

pub split_at-requires : goal.split_at-requires
split_at-requires c =
    boundary_front c.args.text.now c.first_like.result (rw c.as_bytes-bytes.ensures.value at c.first_like.ensures) c.utf8.text
    (rw c.in-Front.is at c.requires.ascii)

pub split_at-requires-in-Back : goal.split_at-requires-in-Back
split_at-requires-in-Back c =
    rw c.as_bytes-bytes.ensures.value
    (boundary_back c.args.text.now c.last_like.result (rw c.as_bytes-bytes.ensures.value at c.last_like.ensures)
    (rw c.in-Back.is at c.requires.ascii))

pub returns-in-Front : goal.returns-in-Front
returns-in-Front c =
    rw (c.in-Front.is, c.split_at.ensures.front, c.split_at.ensures.back)
    (cut_front c.args.text.now c.first_like.result (rw c.as_bytes-bytes.ensures.value at c.first_like.ensures))

pub returns-in-Back : goal.returns-in-Back
returns-in-Back c =
    rw (c.in-Back.is, c.split_at-in-Back.ensures.front, c.split_at-in-Back.ensures.back, c.as_bytes-bytes.ensures.value)
    (cut_back c.args.text.now c.last_like.result (rw c.as_bytes-bytes.ensures.value at c.last_like.ensures))
