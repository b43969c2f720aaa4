-- `along` walks the product of a list that varies by more with another beside the list f, run by run. The measure is the number of terms
-- of both lists. Each answer is a law of Turns at the facts of its run. Assumes nothing.
use native.Mathlib.Omega.{arith}
use Rattle.walk.proofs.Turns.{Went, all_gone, behind_less, run_some, run_narrower, row_went, along_went}
use Rattle.walk.proofs.+along.Goals as goal
use Rattle.walk.proofs.+along.Goals.{then-count-eq1, else-count-eq1}

pub words-requires : goal.words-requires
words-requires g t c = omega (arith, g.T.Term.laws.room_within c.loop-rest.rest.now c.run-count.result c.run-count.ensures.within)

pub span-requires : goal.span-requires
span-requires g t c = run_some g.T.Term.laws c.words.ensures c.requires.wider c.loop-rest.invariant.1 c.run-count.ensures c.split_at.ensures.front

pub along-went-requires : goal.along-went-requires
along-went-requires g t c κs lives =
    let narrower = run_narrower g.T.Term.laws c.words.ensures c.requires.wider c.loop-rest.invariant.1 c.run-count.ensures c.split_at.ensures.front c.if-count-eq1.false c.span.ensures in
    (omega (arith, narrower.0), (lives, (narrower.1, c.loop-rest.invariant.1.inside)))

pub loop-rest-preserved : goal.loop-rest-preserved
loop-rest-preserved g t c =
    let went : Went g.T.Term.value (g.T.Term.numbers c.args.a.now) (g.T.Term.numbers c.args.b.now) (g.T.Term.numbers c.args.f.now) c.args.start (g.T.Term.numbers c.split_at.result.1.now) c.if-count-eq1.went = elim c.if-count-eq1.branch [
      | then-count-eq1 q ↦ row_went g.T.Term.laws c.words.ensures c.requires.wider c.loop-rest.invariant.1 c.run-count.ensures c.split_at.ensures.front g.T.Term.value c.split_at.ensures.back q.went-is q.if-count-eq1.true q.at.ensures q.row-went.ensures
      | else-count-eq1 q ↦ along_went g.T.Term.laws c.words.ensures c.requires.wider c.loop-rest.invariant.1 c.run-count.ensures c.split_at.ensures.front g.T.Term.value c.split_at.ensures.back q.went-is q.along-went.ensures
    ] in
    (omega arith, went.goes_on c.in_ok-place.was)

pub loop-rest-smaller : goal.loop-rest-smaller
loop-rest-smaller g t c = omega (arith, behind_less g.T.Term.laws c.words.ensures c.run-count.ensures c.split_at.ensures.back)

pub returns-in_err-place : goal.returns-in_err-place
returns-in_err-place g t c =
    let went : Went g.T.Term.value (g.T.Term.numbers c.args.a.now) (g.T.Term.numbers c.args.b.now) (g.T.Term.numbers c.args.f.now) c.args.start (g.T.Term.numbers c.split_at.result.1.now) c.if-count-eq1.went = elim c.if-count-eq1.branch [
      | then-count-eq1 q ↦ row_went g.T.Term.laws c.words.ensures c.requires.wider c.loop-rest.invariant.1 c.run-count.ensures c.split_at.ensures.front g.T.Term.value c.split_at.ensures.back q.went-is q.if-count-eq1.true q.at.ensures q.row-went.ensures
      | else-count-eq1 q ↦ along_went g.T.Term.laws c.words.ensures c.requires.wider c.loop-rest.invariant.1 c.run-count.ensures c.split_at.ensures.front g.T.Term.value c.split_at.ensures.back q.went-is q.along-went.ensures
    ] in
    went.ends c.in_err-place.was c.from_residual.result c.from_residual.ensures.1

pub returns : goal.returns
returns g t c = all_gone c.count.ensures c.loop-rest-test.false c.loop-rest.invariant.1
