-- `number` meets its contract: it takes a second digit where there is a variable of that number, and no third. Assumes nothing.
use lib.Dec.{lit≤}
use lib.ListN.{get_or}
use Prim.Native.Nat.{◌+◌}
use Rattle.scan.proofs.Numerals.{digit_some, digit_none, no_number, one_digit, two_digits, zero_stands_alone, no_digit_follows, too_large}
use Rattle.scan.proofs.number.Goals as goal

pub returns-then-alone : goal.returns-then-alone
returns-then-alone c =
    let a = c.args in
    let first = c.in-Some.first in
    one_digit 64 a.text.now a.at c.requires first (digit_some (get_or a.text.now a.at 0) first c.in-Some.ensures) (lit≤ tt)
    (zero_stands_alone 64 first (get_or a.text.now (a.at + 1) 0) c.if-alone.true)

pub returns : goal.returns
returns c =
    let a = c.args in
    let first = c.in-Some.first in
    let next = c.in-Some-digit_at.next in
    two_digits 64 a.text.now a.at c.requires first next (digit_some (get_or a.text.now a.at 0) first c.in-Some.ensures) c.if-alone.false
    (digit_some (get_or a.text.now (a.at + 1) 0) next c.in-Some-digit_at.ensures) c.if-value.false (lit≤ tt)

pub returns-in_default : goal.returns-in_default
returns-in_default c =
    let a = c.args in
    no_number 64 a.text.now a.at c.requires c.sign.result c.sign.ensures (digit_none (get_or a.text.now a.at 0) c.in_default.ensures)

pub returns-in_default-digit_at : goal.returns-in_default-digit_at
returns-in_default-digit_at c =
    let a = c.args in
    let first = c.in-Some.first in
    let behind = get_or a.text.now (a.at + 1) 0 in
    one_digit 64 a.text.now a.at c.requires first (digit_some (get_or a.text.now a.at 0) first c.in-Some.ensures) (lit≤ tt)
    (no_digit_follows 64 first behind (digit_none behind c.in_default-digit_at.ensures))

pub returns-then-value : goal.returns-then-value
returns-then-value c =
    let a = c.args in
    let first = c.in-Some.first in
    let next = c.in-Some-digit_at.next in
    too_large 64 a.text.now a.at c.requires first next c.sign-then-value.result c.sign-then-value.ensures
    (digit_some (get_or a.text.now a.at 0) first c.in-Some.ensures) (lit≤ tt)
    (digit_some (get_or a.text.now (a.at + 1) 0) next c.in-Some-digit_at.ensures) c.if-value.true
