-- `audit::check_long`: what is answered from the present length on is the answer. Assumes nothing.
use Rattle.audit.proofs.Listed.{LongFrom}
use Rattle.audit.proofs.check_long.Given as goal

abbrev pub invariant-loop-i : goal.invariant-loop-i
invariant-loop-i l = LongFrom 1024 l.t l.given_lengths l.i
