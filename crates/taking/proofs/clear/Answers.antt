-- `taking::clear`: words that are all 0 (Clearing). Assumes nothing.
use borrow.Author.Rules.{rules}
use Rattle.taking.proofs.Clearing.{cleared}
use Rattle.taking.proofs.clear.Goals as goal

pub returns : goal.returns
returns g c = cleared g.T.Term.laws c.args.work.now c.fill.new.self (c.fill.ensures.after (λ y h. search rules))
