-- `wide::put` meets its contract: a term lies in two words. Assumes nothing.
use native.Mathlib.Omega.{arith}
use borrow.Author.Rules.{rules}
use Prim.Native.Nat.{◌*◌}
use lib.ListN.{length-set}
use Rattle.wide.proofs.Blocks.{written}
use Rattle.wide.specs.Laws.{room_fits}
use Rattle.wide.specs.Numbers.{value}
use Rattle.wide.proofs.WideTerm.put.Goals as goal

pub overflow_mul-words : goal.overflow_mul-words
overflow_mul-words c = search (rules, room_fits c.args.words.now)

pub offset_bounds-words-i : goal.offset_bounds-words-i
offset_bounds-words-i c = search (rules, room_fits c.args.words.now)

pub bounds-words-i : goal.bounds-words-i
bounds-words-i c = search (rules, room_fits c.args.words.now)

pub overflow_mul-words-2 : goal.overflow_mul-words-2
overflow_mul-words-2 c = search (rules, room_fits c.args.words.now)

pub overflow_add-words : goal.overflow_add-words
overflow_add-words c = search (rules, room_fits c.args.words.now)

pub offset_bounds-words-i-2 : goal.offset_bounds-words-i-2
offset_bounds-words-i-2 c = search (rules, room_fits c.args.words.now)

pub bounds-words-i-2 : goal.bounds-words-i-2
bounds-words-i-2 c =
    let a = c.args in
    omega (arith, room_fits a.words.now, length-set a.words.now (2 * a.i) a.t.low)

pub returns : goal.returns
unfolding value
returns c = written c.args.words.now c.args.i c.args.t.low c.args.t.high c.requires
