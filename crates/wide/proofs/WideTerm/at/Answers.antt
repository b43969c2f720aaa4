-- `wide::at` meets its contract: a term lies in two words. Assumes nothing.
use borrow.Author.Rules.{rules}
use Rattle.wide.proofs.Blocks.{element}
use Rattle.wide.specs.Laws.{room_fits}
use Rattle.wide.specs.Numbers.{value}
use Rattle.wide.proofs.WideTerm.at.Goals as goal

pub overflow_mul-result : goal.overflow_mul-result
overflow_mul-result c = search (rules, room_fits c.args.words.now)

pub offset_bounds-words-i : goal.offset_bounds-words-i
offset_bounds-words-i c = search (rules, room_fits c.args.words.now)

pub bounds-words-i : goal.bounds-words-i
bounds-words-i c = search (rules, room_fits c.args.words.now)

pub overflow_mul-result-2 : goal.overflow_mul-result-2
overflow_mul-result-2 c = search (rules, room_fits c.args.words.now)

pub overflow_add-result : goal.overflow_add-result
overflow_add-result c = search (rules, room_fits c.args.words.now)

pub offset_bounds-words-i-2 : goal.offset_bounds-words-i-2
offset_bounds-words-i-2 c = search (rules, room_fits c.args.words.now)

pub bounds-words-i-2 : goal.bounds-words-i-2
bounds-words-i-2 c = search (rules, room_fits c.args.words.now)

pub returns : goal.returns
unfolding value
returns c = element c.args.words.now c.args.i c.requires
