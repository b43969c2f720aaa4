-- `counts::add` is the full adder in each place (Digits). Assumes nothing.
use Rattle.counts.proofs.Digits.{full_adder}
use Rattle.counts.proofs.add.Goals as goal

pub returns : goal.returns
returns g c =
    λ v.
    let a = c.args in
    let value = g.T.Term.value in
    cc (full_adder (value a.a) (value a.b) (value a.c) v)
