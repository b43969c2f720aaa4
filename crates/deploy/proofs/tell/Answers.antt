-- `deploy::tell`: four words are written. Assumes nothing.
use borrow.Author.Rules.{rules}
use Rattle.deploy.specs.Deploy.{answer_words}
use Rattle.deploy.proofs.tell.Goals as goal

pub returns : goal.returns
unfolding answer_words
returns c = search rules
