-- The measures of the cycle: eleven times the number of variables left and a rank. The number falls from the four-list test to the
-- cross test and back; between them each function stands below the one that calls it.
use Prim.Native.Nat.{◌+◌, ◌*◌}
use Rattle.cross.proofs.+tests.Given as goal

abbrev pub decreases-against : goal.decreases-against
decreases-against g l = 11 * l.k + 5

abbrev pub decreases-agree : goal.decreases-agree
decreases-agree g l = 11 * l.k + 6

abbrev pub decreases-both : goal.decreases-both
decreases-both g l = 11 * l.k + 4

abbrev pub decreases-compared : goal.decreases-compared
decreases-compared g l = 11 * l.k + 4

abbrev pub decreases-cross : goal.decreases-cross
decreases-cross g l = 11 * l.k + 10

abbrev pub decreases-halves : goal.decreases-halves
decreases-halves g l = 11 * l.k + 9

abbrev pub decreases-opposed : goal.decreases-opposed
decreases-opposed g l = 11 * l.k + 8

abbrev pub decreases-ratios : goal.decreases-ratios
decreases-ratios g l = 11 * l.k + 6

abbrev pub decreases-same : goal.decreases-same
decreases-same g l = 11 * l.k + 3

abbrev pub decreases-settle : goal.decreases-settle
decreases-settle g l = 11 * l.k + 2

abbrev pub decreases-skip : goal.decreases-skip
decreases-skip g l = 11 * l.k + 1

abbrev pub decreases-stand : goal.decreases-stand
decreases-stand g l = 11 * l.k + 5

abbrev pub decreases-unlike : goal.decreases-unlike
decreases-unlike g l = 11 * l.k

abbrev pub decreases-whole : goal.decreases-whole
decreases-whole g l = 11 * l.k + 7
