-- `print_term` prints what was written at the start of its room, as far as that reaches. Assumes nothing.
use Rattle.std.proofs.Common.{◌≤◌, length, arith, rules}
use lib.ListN.{length-take}
use Rattle.spell.proofs.Longest.{spelled_longest}
use Rattle.split.proofs.print_term.Goals as goal

pub slice_bounds-put-end : goal.slice_bounds-put-end
slice_bounds-put-end c =
    let fits : c.put_term-n.result ≤ length c.put_term-n.new.out = omega (arith, spelled_longest c.args.term c.args.behind (search rules)) in
    simp length-take (omega arith)
