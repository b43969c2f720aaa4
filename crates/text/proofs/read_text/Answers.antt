-- `read_text` ends as its text reads. Assumes nothing.
use lib.Dec.{lit<, lit≤}
use Rattle.answer.proofs.Checking.{came}
use Rattle.text.proofs.Reading.{too_long, reads_refused, reads_so}
use Rattle.text.proofs.read_text.Goals as goal

pub returns-then-text-gt-MAX_BYTES : goal.returns-then-text-gt-MAX_BYTES
returns-then-text-gt-MAX_BYTES c = search too_long

pub returns-in_err-count : goal.returns-in_err-count
returns-in_err-count c =
    rw (came c.from_residual.result c.in_err-count.field-0.0 c.from_residual.ensures.1)
    (reads_refused 65536 1024 64 (lit< tt) (lit≤ tt) _ _ _ _ _ c.if-text-gt-MAX_BYTES.false c.in_err-count.ensures)

pub returns : goal.returns
returns c =
    reads_so 65536 1024 64 (lit< tt) (lit≤ tt) _ _ _ _ _ c.in_ok-count.count _ c.if-text-gt-MAX_BYTES.false c.in_ok-count.ensures
    c.write_left.ensures
