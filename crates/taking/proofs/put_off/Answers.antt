-- `taking::put_off`: the terms written so far are a front of the changed list. Assumes nothing.
use native.Mathlib.Omega.{arith}
use Prim.Native.Nat.{ℕ}
use mathlib.Core.Path.{◌≡◌, ap, ap₂, ◌∙◌}
use mathlib.Core.List.{List, map}
use lib.ListN.{length, set, length-map}
use Rattle.masks.specs.Bit.{without}
use Rattle.masks.proofs.Reflect.{identity, ∅, ◌∖◌, ◌≐◌, ∴◌}
use Rattle.taking.proofs.Copying.{copied, changed_one_more, copied_all}
use Rattle.taking.proofs.put_off.Goals as goal

nothing : (held : ℕ) → without held 0 ≡ 0
nothing = identity 1 (λ held. ∴ ∅ ∖ held ≐ ∅) tt

pub loop-i-preserved : goal.loop-i-preserved
loop-i-preserved g c =
    let here = c.loop-i in
    let without_held = without (g.T.Term.value c.args.held) in (
      c.put.ensures
          ∙ ap₂ (λ (l : List ℕ) (t : ℕ). set l here.i t) here.invariant.0 (c.off.ensures ∙ ap without_held c.at.ensures)
          ∙ changed_one_more without_held (nothing (g.T.Term.value c.args.held)) (g.T.Term.numbers c.args.list.now) (g.T.Term.numbers c.args.room.now)
          here.i (omega arith) c.requires,
      c.put.auto.words ∙ here.invariant.1,
    )

pub returns : goal.returns
returns g c =
    let here = c.loop-i in
    let list = g.T.Term.numbers c.args.list.now in
    let changed = map (without (g.T.Term.value c.args.held)) list in
    let room = g.T.Term.numbers c.args.room.now in
    let all : here.i ≡ length changed = omega (arith, length-map list (without (g.T.Term.value c.args.held))) in
    here.invariant.0 ∙ ap (copied changed room) all ∙ copied_all changed room
