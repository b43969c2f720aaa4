-- `audit::check_long`: what is answered from the present length on is the answer. Assumes nothing.
use native.Mathlib.Omega.{arith}
use Rattle.audit.proofs.Listed.{approved_long, long_from_first, given_long, long_goes_on, none_long}
use Rattle.audit.proofs.check_long.Goals as goal

pub returns-then-t-gt-MAX_TERMS : goal.returns-then-t-gt-MAX_TERMS
returns-then-t-gt-MAX_TERMS c = search approved_long

pub loop-i-init : goal.loop-i-init
loop-i-init c = search long_from_first

pub returns-then-length : goal.returns-then-length
returns-then-length c =
    given_long 1024 c.args.t c.args.given_lengths.now c.loop-i.i (omega arith) (omega arith) c.loop-i.invariant

pub loop-i-preserved : goal.loop-i-preserved
loop-i-preserved c =
    long_goes_on 1024 c.args.t c.args.given_lengths.now c.loop-i.i (omega arith) (omega arith) c.loop-i.invariant

pub returns : goal.returns
returns c = none_long 1024 c.args.t c.args.given_lengths.now c.loop-i.i (omega arith) c.loop-i.invariant
