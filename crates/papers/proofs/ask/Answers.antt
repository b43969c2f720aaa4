-- `papers::ask` asks whether AD = BC of what was laid out; either answer is the rule's. Assumes nothing.
use Rattle.papers.proofs.Answer.{four_room, told}
use Rattle.papers.proofs.ask.Goals as goal

pub lay_out-a-requires : goal.lay_out-a-requires
lay_out-a-requires c = four_room 1024 64 c.requires

pub returns : goal.returns
returns c = rw c.from.ensures (told 1024 64 c.requires _ c.lay_out-a.ensures c.same_products-said.ensures)
