-- `keep_left` meets its contract: the first words hold what is left, and the others stand behind it. Assumes nothing.
use Rattle.text.proofs.Reading.{kept}
use Rattle.text.proofs.keep_left.Goals as goal

pub returns : goal.returns
returns c =
    let a = c.args in
    kept a.words.now c.cancel.new.terms _ a.count c.cancel.result c.cancel.ensures.0 c.cancel.ensures.1
