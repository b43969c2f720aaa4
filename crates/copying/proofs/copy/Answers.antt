-- `copying::copy`: the words written so far are a front of the list. Assumes nothing.
use native.Mathlib.Omega.{arith}
use Prim.Native.Nat.{ℕ, ◌+◌, ◌<◌}
use native.Mathlib.Nat.{zero-add}
use native.Mathlib.Numerals.{add-one}
use mathlib.Core.Path.{◌≡◌, refl, sym, ap, ap₂, ◌∙◌}
use mathlib.Core.List.{List, ◌++◌, append-nil}
use lib.ListN.{length, get_or, set, drop, drop_of_length-le}
use lib.Seq.{paste, paste-suc, length-paste, take_all}
use Rattle.copying.proofs.copy.Goals as goal

pub loop-i-init : goal.loop-i-init
loop-i-init c = refl

pub bounds-room-i : goal.bounds-room-i
bounds-room-i c =
    let here = c.loop-i in
    omega (arith, ap length here.invariant, length-paste c.args.room.now 0 c.args.list.now here.i (omega arith) (omega arith))

pub loop-i-preserved : goal.loop-i-preserved
loop-i-preserved c =
    let i = c.loop-i.i in
    let list = c.args.list.now in
    let room = c.args.room.now in
    let more : i < length list = omega arith in
    let fits : 0 + i < length room = omega (arith, c.requires) in
    ap₂ (λ (l : List ℕ) (k : ℕ). set l k (get_or list i 0)) c.loop-i.invariant (sym (zero-add i)) ∙ paste-suc room 0 list i 0 fits more
    ∙ ap (paste room 0 list) (sym (add-one i))

pub shape_of-room : goal.shape_of-room
shape_of-room c =
    let here = c.loop-i in
    ap length here.invariant ∙ length-paste c.args.room.now 0 c.args.list.now here.i (omega (arith, c.requires)) (omega arith)

pub returns : goal.returns
returns c =
    let here = c.loop-i in
    let list = c.args.list.now in
    let all : 0 + here.i ≡ length list = omega arith in
    here.invariant
    ∙ ap₂ (λ (l : List ℕ) (k : ℕ). l ++ drop k c.args.room.now) (take_all here.i list (omega arith)) all
    ∙ ap (λ (l : List ℕ). list ++ l) (drop_of_length-le c.args.room.now (omega (arith, c.requires)))
    ∙ append-nil list
