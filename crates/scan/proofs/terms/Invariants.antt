-- `terms` meets its contract: term by term to the line feed. Assumes nothing.
use Rattle.scan.proofs.Sums.{Reading}
use Rattle.scan.proofs.terms.Given as goal

abbrev pub invariant-loop-count : goal.invariant-loop-count
invariant-loop-count l = Reading 1024 64 l.text l.initial.words l.words l.count l.at
