-- `put_terms` meets its contract: the terms are stored one behind the other, each with the byte behind it. Assumes nothing.
use Prim.Native.Nat.{◌≤◌}
use native.Mathlib.Omega.{arith}
use borrow.Author.Rules.{rules}
use lib.ListN.{length}
use Rattle.text.proofs.Writing.{storing_first, term_fits, storing_on, last_fits, storing_last, one_of_others, the_last, zero_size, zero_stored, has_room}
use Rattle.text.proofs.put_terms.Goals as goal

pub put_term-at-requires : goal.put_term-at-requires
put_term-at-requires c =
    let room = has_room 65536 1024 c.args.terms.now (length c.args.out.now) c.requires in
    let split = c.in-Some.ensures.cases in
    let l = c.loop-term in
    term_fits _ _ l.out l.at l.term-index l.invariant (omega (arith, split.1, c.loop-term-test.true)) _
    (one_of_others _ _ _ _ split.0 c.loop-term-test.true) room

pub loop-term-preserved : goal.loop-term-preserved
loop-term-preserved c =
    let split = c.in-Some.ensures.cases in
    let l = c.loop-term in
    storing_on _ _ l.out l.at l.term-index l.invariant (omega (arith, split.1, c.loop-term-test.true)) _
    (one_of_others _ _ _ _ split.0 c.loop-term-test.true) _ _ c.put_term-at.auto.out c.put_term-at.ensures.0 c.put_term-at.ensures.1

pub put_term-requires : goal.put_term-requires
put_term-requires c =
    let room = has_room 65536 1024 c.args.terms.now (length c.args.out.now) c.requires in
    let split = c.in-Some.ensures.cases in
    let l = c.loop-term in
    last_fits _ _ l.out l.at l.term-index l.invariant (omega (arith, split.1, c.loop-term-test.false, l.invariant.inside)) _
    (the_last _ _ _ _ split.0 (omega (arith, split.1, c.loop-term-test.false, l.invariant.inside))) room

pub returns : goal.returns
returns c =
    let room = has_room 65536 1024 c.args.terms.now (length c.args.out.now) c.requires in
    let split = c.in-Some.ensures.cases in
    let l = c.loop-term in
    storing_last _ _ l.out l.at l.term-index l.invariant (omega (arith, split.1, c.loop-term-test.false, l.invariant.inside)) _
    (the_last _ _ _ _ split.0 (omega (arith, split.1, c.loop-term-test.false, l.invariant.inside))) _ _ room
    c.put_term.ensures.0 c.put_term.ensures.1

pub returns-in_default : goal.returns-in_default
returns-in_default c =
    zero_stored _ _ c.in_default.ensures.cases (has_room 65536 1024 c.args.terms.now (length c.args.out.now) c.requires)

pub loop-term-init : goal.loop-term-init
loop-term-init c = storing_first _ _ (λ e. omega (arith, c.in-Some.ensures.cases.1))

pub bounds-out-0 : goal.bounds-out-0
bounds-out-0 c =
    let room = has_room 65536 1024 c.args.terms.now (length c.args.out.now) c.requires in
    omega (arith, room, zero_size c.args.terms.now c.in_default.ensures.cases)

pub bounds-out-1 : goal.bounds-out-1
bounds-out-1 c =
    let room = has_room 65536 1024 c.args.terms.now (length c.args.out.now) c.requires in
    let two : 2 ≤ length c.args.out.now = omega (arith, room, zero_size c.args.terms.now c.in_default.ensures.cases) in
    search rules
