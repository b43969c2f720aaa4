-- `counts::Asked::sixteen`: the places that it asks for fit, since there are no more terms than words (Words). Assumes nothing.
use borrow.Author.Rules.{rules}
use Rattle.counts.proofs.Words.{no_more_than_words}
use Rattle.counts.proofs.Asked.sixteen.Goals as goal

pub overflow_add-i : goal.overflow_add-i
overflow_add-i g c = search (rules, no_more_than_words g.T.Term.laws c.args.self.now.f.now)
