-- `wide::put_field` meets its contract: a term wider than a word is put as its high bits and then its low ones. Assumes nothing.
use mathlib.Core.Path.{◌≡◌, sym, ap, subst, ◌∙◌}
use native.Mathlib.Nat.{zero-mul, zero-add}
use Prim.Native.Nat.{ℕ, ◌+◌, ◌*◌, ◌^◌, ◌≤◌, ◌<◌}
use native.Mathlib.Omega.{arith}
use borrow.Author.Rules.{rules}
use Rattle.digits.specs.Carry.{Put}
use Rattle.wide.specs.Numbers.{value}
use Rattle.wide.proofs.Fields.{no_high, high_fits, put_joined}
use Rattle.wide.proofs.WideTerm.put_field.Goals as goal

-- a term that fits a word is its low word
low_alone : (k high low n : ℕ) → low < 2 ^ k → high * 2 ^ k + low < 2 ^ n → n ≤ k → high * 2 ^ k + low ≡ low
low_alone k high low n fits h le = ap (λ (m : ℕ). m * 2 ^ k + low) (no_high k high low n fits h le) ∙ ap (λ (m : ℕ). m + low) (zero-mul (2 ^ k)) ∙ zero-add low

pub put-requires : goal.put-requires
unfolding value
put-requires c =
    let t = c.args.self in
    let alone = low_alone 64 t.high t.low c.args.n (search rules) c.requires.1 c.if-n-le64.true in
    (c.requires.0, subst (λ (m : ℕ). m < 2 ^ c.args.n) alone c.requires.1, c.if-n-le64.true, c.requires.3, c.requires.4)

pub returns-then-n-le64 : goal.returns-then-n-le64
unfolding value
returns-then-n-le64 c =
    let t = c.args.self in
    let alone = low_alone 64 t.high t.low c.args.n (search rules) c.requires.1 c.if-n-le64.true in
    subst (λ (x : ℕ). Put c.args.out.now c.args.at c.args.carry x c.args.n c.put.new.out c.put.result) (sym alone) c.put.ensures

pub put-left-requires : goal.put-left-requires
unfolding value
put-left-requires c =
    let t = c.args.self in
    (c.requires.0, high_fits 64 t.high t.low c.args.n (search rules) c.requires.1 c.if-n-le64.false, search rules, search rules, search rules)

pub put-requires-2 : goal.put-requires-2
unfolding value
put-requires-2 c =
    let p = c.put-left.ensures in
    (p.fits, search rules, search rules, search rules, omega (arith, c.requires.4, p.same))

pub returns : goal.returns
unfolding value
returns c =
    let t = c.args.self in
    put_joined 64 _ _ _ c.args.at c.args.carry t.high t.low c.args.n _ _ c.if-n-le64.false
    c.put-left.ensures c.put-2.ensures
