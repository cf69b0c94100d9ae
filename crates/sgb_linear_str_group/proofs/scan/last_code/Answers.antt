use Rattle.std.proofs.Common.{◌≤◌, ◌<◌}
use Rattle.sgb_linear_str_group.proofs.LastCharacter.{last_bytes, byte}
use Rattle.sgb_linear_str_group.proofs.scan.last_code.Goals as goal

pub returns-then-last-lt128 : goal.returns-then-last-lt128
returns-then-last-lt128 c =
    let text = c.args.text.now in
    let lone : byte text 1 < 128 = rw (c.from-last.ensures, c.as_bytes-bytes.ensures.value) at c.if-last-lt128.true in
    rw (c.from-last.ensures, c.as_bytes-bytes.ensures.value) ((last_bytes text c.utf8.text c.requires).one lone)

pub overflow_sub-len-2 : goal.overflow_sub-len-2
overflow_sub-len-2 c =
    let text = c.args.text.now in
    let first : 128 ≤ byte text 1 = rw (c.from-last.ensures, c.as_bytes-bytes.ensures.value) at c.if-last-lt128.false in
    rw c.as_bytes-bytes.ensures.value ((last_bytes text c.utf8.text c.requires).more first)

pub overflow_sub-result-then-second-ge192 : goal.overflow_sub-result-then-second-ge192
overflow_sub-result-then-second-ge192 c =
    let text = c.args.text.now in
    let first : 128 ≤ byte text 1 = rw (c.from-last.ensures, c.as_bytes-bytes.ensures.value) at c.if-last-lt128.false in
    rw c.as_bytes-bytes.ensures.value ((last_bytes text c.utf8.text c.requires).more first)

pub returns-then-second-ge192 : goal.returns-then-second-ge192
returns-then-second-ge192 c =
    let text = c.args.text.now in
    let first : 128 ≤ byte text 1 = rw (c.from-last.ensures, c.as_bytes-bytes.ensures.value) at c.if-last-lt128.false in
    let lead : 192 ≤ byte text 2 = rw (c.from-second.ensures, c.as_bytes-bytes.ensures.value) at c.if-second-ge192.true in
    rw (c.from-last.ensures, c.from-second.ensures, c.as_bytes-bytes.ensures.value)
    ((last_bytes text c.utf8.text c.requires).two first lead)

pub overflow_sub-len-3 : goal.overflow_sub-len-3
overflow_sub-len-3 c =
    let text = c.args.text.now in
    let first : 128 ≤ byte text 1 = rw (c.from-last.ensures, c.as_bytes-bytes.ensures.value) at c.if-last-lt128.false in
    let second : byte text 2 < 192 = rw (c.from-second.ensures, c.as_bytes-bytes.ensures.value) at c.if-second-ge192.false in
    rw c.as_bytes-bytes.ensures.value ((last_bytes text c.utf8.text c.requires).more_than_two first second)

pub overflow_sub-result-then-third-ge192 : goal.overflow_sub-result-then-third-ge192
overflow_sub-result-then-third-ge192 c =
    let text = c.args.text.now in
    let first : 128 ≤ byte text 1 = rw (c.from-last.ensures, c.as_bytes-bytes.ensures.value) at c.if-last-lt128.false in
    let second : byte text 2 < 192 = rw (c.from-second.ensures, c.as_bytes-bytes.ensures.value) at c.if-second-ge192.false in
    rw c.as_bytes-bytes.ensures.value ((last_bytes text c.utf8.text c.requires).more_than_two first second)

pub returns-then-third-ge192 : goal.returns-then-third-ge192
returns-then-third-ge192 c =
    let text = c.args.text.now in
    let first : 128 ≤ byte text 1 = rw (c.from-last.ensures, c.as_bytes-bytes.ensures.value) at c.if-last-lt128.false in
    let second : byte text 2 < 192 = rw (c.from-second.ensures, c.as_bytes-bytes.ensures.value) at c.if-second-ge192.false in
    let lead : 192 ≤ byte text 3 = rw (c.from-third.ensures, c.as_bytes-bytes.ensures.value) at c.if-third-ge192.true in
    rw (c.from-last.ensures, c.from-second.ensures, c.from-third.ensures, c.as_bytes-bytes.ensures.value)
    ((last_bytes text c.utf8.text c.requires).three first second lead)

pub overflow_sub-len-4 : goal.overflow_sub-len-4
overflow_sub-len-4 c =
    let text = c.args.text.now in
    let first : 128 ≤ byte text 1 = rw (c.from-last.ensures, c.as_bytes-bytes.ensures.value) at c.if-last-lt128.false in
    let second : byte text 2 < 192 = rw (c.from-second.ensures, c.as_bytes-bytes.ensures.value) at c.if-second-ge192.false in
    let third : byte text 3 < 192 = rw (c.from-third.ensures, c.as_bytes-bytes.ensures.value) at c.if-third-ge192.false in
    rw c.as_bytes-bytes.ensures.value ((last_bytes text c.utf8.text c.requires).more_than_three first second third)

pub overflow_sub-result-2 : goal.overflow_sub-result-2
overflow_sub-result-2 c =
    let text = c.args.text.now in
    let first : 128 ≤ byte text 1 = rw (c.from-last.ensures, c.as_bytes-bytes.ensures.value) at c.if-last-lt128.false in
    let second : byte text 2 < 192 = rw (c.from-second.ensures, c.as_bytes-bytes.ensures.value) at c.if-second-ge192.false in
    let third : byte text 3 < 192 = rw (c.from-third.ensures, c.as_bytes-bytes.ensures.value) at c.if-third-ge192.false in
    rw c.as_bytes-bytes.ensures.value ((last_bytes text c.utf8.text c.requires).more_than_three first second third)

pub returns : goal.returns
returns c =
    let text = c.args.text.now in
    let first : 128 ≤ byte text 1 = rw (c.from-last.ensures, c.as_bytes-bytes.ensures.value) at c.if-last-lt128.false in
    let second : byte text 2 < 192 = rw (c.from-second.ensures, c.as_bytes-bytes.ensures.value) at c.if-second-ge192.false in
    let third : byte text 3 < 192 = rw (c.from-third.ensures, c.as_bytes-bytes.ensures.value) at c.if-third-ge192.false in
    rw (c.from-last.ensures, c.from-second.ensures, c.from-third.ensures, c.from-fourth.ensures, c.as_bytes-bytes.ensures.value)
    ((last_bytes text c.utf8.text c.requires).four first second third)
