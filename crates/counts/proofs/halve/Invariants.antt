-- `counts::halve` writes a number and its halves. The invariant: those passed stand there, and m is the next (Products). Assumes nothing.
use Prim.Native.Nat.{◌-◌}
use mathlib.Core.Path.{◌≡◌}
use lib.ListN.{length, drop}
use lib.Seq.{paste}
use Rattle.counts.specs.Planes.{halves}
use Rattle.counts.proofs.halve.Given as goal

abbrev pub invariant-loop-i : goal.invariant-loop-i
invariant-loop-i g l = record {
  size : length (g.T.Term.numbers l.out) ≡ length (g.T.Term.numbers l.initial.out);
  passed : g.T.Term.numbers l.out
      ≡ paste (g.T.Term.numbers l.initial.out) 0 (halves (length (g.T.Term.numbers l.initial.out)) l.n) l.i;
  next : drop l.i (halves (length (g.T.Term.numbers l.initial.out)) l.n) ≡ halves (length (g.T.Term.numbers l.initial.out) - l.i) l.m;
}
