-- `runs::pairing` compares shapes straight, then crosswise. Assumes nothing.
use Rattle.runs.proofs.Facts.{neither_pairing}
use Rattle.runs.proofs.pairing.Goals as goal
use Rattle.runs.proofs.pairing.Goals.{then-s-u+else-t-v, else-s-u}

pub returns-else-t-u : goal.returns-else-t-u
returns-else-t-u g c =
    neither_pairing c.args.s c.args.t c.args.u c.args.v
    (λ p. elim c.if-s-u.branch [ then-s-u+else-t-v w ↦ w.if-t-v.false p.1 | else-s-u w ↦ w.if-s-u.false p.0 ]) (λ p. c.if-t-u.false p.1)

pub returns-else-s-v : goal.returns-else-s-v
returns-else-s-v g c =
    neither_pairing c.args.s c.args.t c.args.u c.args.v
    (λ p. elim c.if-s-u.branch [ then-s-u+else-t-v w ↦ w.if-t-v.false p.1 | else-s-u w ↦ w.if-s-u.false p.0 ]) (λ p. c.if-s-v.false p.0)
