-- `put_name` meets its contract: the bytes are stored one behind the other. Assumes nothing.
use native.Mathlib.Omega.{arith}
use mathlib.Core.Path.{sym, ap, ◌∙◌}
use lib.ListN.{length}
use Rattle.spell.proofs.Spelling.{short_name, long_name, copied}
use Rattle.spell.proofs.put_name.Goals as goal

pub returns-then-variable-lt10 : goal.returns-then-variable-lt10
returns-then-variable-lt10 c =
    let a = c.args in
    let e = short_name a.variable a.behind c.if-variable-lt10.true in
    copied a.out.now c.copy_from_slice.new.self _ a.at 3 (c.copy_from_slice.ensures.after ∙ sym e) (ap length e)
    (omega (arith, c.requires.1, ap length e))

pub returns : goal.returns
returns c =
    let a = c.args in
    let e = long_name a.variable a.behind c.if-variable-lt10.false in
    copied a.out.now c.copy_from_slice-2.new.self _ a.at 4 (c.copy_from_slice-2.ensures.after ∙ sym e) (ap length e)
    (omega (arith, c.requires.1, ap length e))
