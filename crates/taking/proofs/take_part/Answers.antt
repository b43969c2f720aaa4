-- `taking::take_part`: what its calls leave is one part taken out (Taking). Assumes nothing.
use mathlib.Core.Path.{sym, ◌∙◌}
use Rattle.taking.proofs.Taking.{rooms_lent, part_lent, rest_lent, list_lent, space_there, space_lent, taken}
use Rattle.taking.proofs.take_part.Goals as goal

pub returns : goal.returns
returns g c =
    let a = c.args in
    let first = c.split_at_mut-list in
    let second = c.split_at_mut-inner in
    taken g.T.Term.laws a.work.now a.n _ _ (g.T.Term.value a.all) c.requires.0 c.requires.1 c.words-start.ensures c.words-next.ensures
    _ _ _ _ first.ensures.front first.ensures.back second.ensures.front second.ensures.back
    _ _ _ _ _ c.part_of_lowest-found.ensures _ _ c.words-part.ensures c.words-rest.ensures a.room.now c.requires.2
    _ _ c.copy.ensures c.copy-2.ensures

pub part_of_lowest-found-requires : goal.part_of_lowest-found-requires
part_of_lowest-found-requires g c =
    let a = c.args in
    let first = c.split_at_mut-list in
    let second = c.split_at_mut-inner in
    rooms_lent g.T.Term.laws a.work.now a.n _ _ (g.T.Term.value a.all) c.requires.0 c.requires.1 c.words-start.ensures c.words-next.ensures
    _ _ _ _ first.ensures.front first.ensures.back second.ensures.front second.ensures.back

pub copy-requires : goal.copy-requires
copy-requires g c =
    let a = c.args in
    let first = c.split_at_mut-list in
    let second = c.split_at_mut-inner in
    space_lent g.T.Term.laws a.work.now a.n _ _ (g.T.Term.value a.all) c.requires.0 c.requires.1 c.words-start.ensures c.words-next.ensures
    _ _ _ _ first.ensures.front first.ensures.back second.ensures.front second.ensures.back
    _ _ _ _ _ c.part_of_lowest-found.ensures _ _ c.words-part.ensures c.words-rest.ensures a.room.now c.requires.2
    ∙ sym (part_lent g.T.Term.laws a.work.now a.n _ _ (g.T.Term.value a.all) c.requires.0 c.requires.1 c.words-start.ensures c.words-next.ensures
    _ _ _ _ first.ensures.front first.ensures.back second.ensures.front second.ensures.back
    _ _ _ _ _ c.part_of_lowest-found.ensures _ _ c.words-part.ensures c.words-rest.ensures)

pub copy-requires-2 : goal.copy-requires-2
copy-requires-2 g c =
    let a = c.args in
    let first = c.split_at_mut-list in
    let second = c.split_at_mut-inner in
    list_lent g.T.Term.laws a.work.now a.n _ _ (g.T.Term.value a.all) c.requires.0 c.requires.1 c.words-start.ensures c.words-next.ensures
    _ _ _ _ first.ensures.front first.ensures.back second.ensures.front second.ensures.back
    _ _ _ _ _ c.part_of_lowest-found.ensures _ _ c.words-part.ensures c.words-rest.ensures
    ∙ sym (rest_lent g.T.Term.laws a.work.now a.n _ _ (g.T.Term.value a.all) c.requires.0 c.requires.1 c.words-start.ensures c.words-next.ensures
    _ _ _ _ first.ensures.front first.ensures.back second.ensures.front second.ensures.back
    _ _ _ _ _ c.part_of_lowest-found.ensures _ _ c.words-part.ensures c.words-rest.ensures)

pub slice_bounds-copy-end-3 : goal.slice_bounds-copy-end-3
slice_bounds-copy-end-3 g c =
    let a = c.args in
    let first = c.split_at_mut-list in
    let second = c.split_at_mut-inner in
    space_there g.T.Term.laws a.work.now a.n _ _ (g.T.Term.value a.all) c.requires.0 c.requires.1 c.words-start.ensures c.words-next.ensures
    _ _ _ _ first.ensures.front first.ensures.back second.ensures.front second.ensures.back
    _ _ _ _ _ c.part_of_lowest-found.ensures _ _ c.words-part.ensures c.words-rest.ensures a.room.now c.requires.2

pub slice_bounds-copy-end-4 : goal.slice_bounds-copy-end-4
slice_bounds-copy-end-4 g c =
    let a = c.args in
    let first = c.split_at_mut-list in
    let second = c.split_at_mut-inner in
    sym (space_lent g.T.Term.laws a.work.now a.n _ _ (g.T.Term.value a.all) c.requires.0 c.requires.1 c.words-start.ensures c.words-next.ensures
    _ _ _ _ first.ensures.front first.ensures.back second.ensures.front second.ensures.back
    _ _ _ _ _ c.part_of_lowest-found.ensures _ _ c.words-part.ensures c.words-rest.ensures a.room.now c.requires.2)
