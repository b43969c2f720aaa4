-- What those who build on multiply may count on: for every input one ending; and where it accepts it commutes, associates, has {0} as its one,
-- and joins the variables. Leans on Passing. Assumes nothing.
use Prim.Native.Nat.{ℕ, ◌*◌, ◌<◌, ◌≤◌}
use native.Mathlib.Nat.{mul_comm}
use native.Mathlib.Omega.{arith}
use mathlib.Core.Path.{◌≡◌, refl, sym, ap, ◌∙◌, subst}
use mathlib.Core.List.{List, [], ◌∷◌}
use borrow.Author.Tests.{le-ltb}
use lib.Bits.{bit_or}
use lib.ListN.{length, get_or, take, drop}
use lib.Seq.{take_at}
use Rattle.answer.specs.declared.Answer.{Answer}
use Rattle.answer.specs.Table.{accepted}
use Rattle.answer.specs.Ends.{over, Writes}
use Rattle.answer.specs.Checked.{Passed, coded}
use Rattle.answer.proofs.Ends.{ends_coincide, passed_accepts, accepted_passed, writes_once}
use Rattle.answer.proofs.Checking.{passed_if_equal}
use Rattle.polys.specs.List.{Asc}
use Rattle.polys.specs.Poly.{vars, times, Apart}
use Rattle.polys.proofs.Lists.{mem_at}
use Rattle.polys.proofs.Polys.{apart_sym, times_comm, times_assoc, times_one_left, vars_times}
use Rattle.terms.proofs.Order.{passed_if_ascends}
use Rattle.product.specs.Multiply.{multiply_checks, MultiplyEnds}
use Rattle.product.proofs.Passing.{first_few, second_few, first_ascends, second_ascends, apart, small, fits}

-- two endings that the promise allows coincide
pub multiply_is_determined : (most : ℕ) (a b out : List ℕ) (x y : Answer) (new new' : List ℕ)
    → MultiplyEnds most a b out x new → MultiplyEnds most a b out y new' → (x ≡ y) × (new ≡ new')
multiply_is_determined most a b out = ends_coincide out (Writes (times a b) out) (writes_once (times a b) out) (multiply_checks most a b (length out))

-- ascending lists within the limits that share no variable pass the checks
pub passes : (most : ℕ) (a b : List ℕ) (room : ℕ) → length a ≤ most → length b ≤ most → Asc a → Asc b → Apart a b
    → length a * length b ≤ most → length a * length b ≤ room → Passed (multiply_checks most a b room)
unfolding Passed
passes most a b room p q u w s m r = search (le-ltb, passed_if_ascends, passed_if_equal, tt)

-- this list was written
abbrev Gave : List ℕ → List ℕ → Answer → List ℕ → Type 0
Gave p out x new = (x ≡ accepted (length p)) × (new ≡ over p out)

-- what is known of an accepted product
module _ (most : ℕ) (a b out : List ℕ) (x : Answer) (new : List ℕ) (e : MultiplyEnds most a b out x new) where
  pub passed : x.code ≡ 0 → Passed (multiply_checks most a b (length out))
  unfolding coded
  passed z = accepted_passed out (Writes (times a b) out) (multiply_checks most a b (length out)) x new refl e z

  pub gave : Passed (multiply_checks most a b (length out)) → Gave (times a b) out x new
  gave p = let w = passed_accepts out (Writes (times a b) out) (multiply_checks most a b (length out)) x new p e in (w.1 ∙ ap accepted w.2.0, w.2.1)

-- ---- the algebra

pub multiply_commutes : (most : ℕ) (a b out : List ℕ) (x y : Answer) (new new' : List ℕ)
    → MultiplyEnds most a b out x new → x.code ≡ 0 → MultiplyEnds most b a out y new' → (x ≡ y) × (new ≡ new')
multiply_commutes most a b out x y new new' e z f =
    let p = passed most a b out x new e z in
    let g = gave most a b out x new e p in
    let h = gave most b a out y new' f (swapped p) in
    (g.0 ∙ ap (λ (l : List ℕ). accepted (length l)) (times_comm a b) ∙ sym h.0, g.1 ∙ ap (λ (l : List ℕ). over l out) (times_comm a b) ∙ sym h.1)
  where
    swapped : Passed (multiply_checks most a b (length out)) → Passed (multiply_checks most b a (length out))
    swapped p =
        passes most b a (length out) (second_few most a b out p) (first_few most a b out p) (second_ascends most a b out p) (first_ascends most a b out p)
        (apart_sym a b (apart most a b out p)) (omega (arith, small most a b out p, mul_comm (length a) (length b)))
        (omega (arith, fits most a b out p, mul_comm (length a) (length b)))

-- both ways of multiplying three, where both are accepted
pub multiply_associates : (most : ℕ) (a b c out : List ℕ) (x y : Answer) (new new' : List ℕ) → MultiplyEnds most (times a b) c out x new
    → MultiplyEnds most a (times b c) out y new' → x.code ≡ 0 → y.code ≡ 0 → (x ≡ y) × (new ≡ new')
multiply_associates most a b c out x y new new' e f z w =
    let g = gave most (times a b) c out x new e (passed most (times a b) c out x new e z) in
    let h = gave most a (times b c) out y new' f (passed most a (times b c) out y new' f w) in
    (g.0 ∙ ap (λ (l : List ℕ). accepted (length l)) (times_assoc a b c) ∙ sym h.0, g.1 ∙ ap (λ (l : List ℕ). over l out) (times_assoc a b c) ∙ sym h.1)

-- multiplying by the constant one changes nothing
pub multiply_by_one : (most : ℕ) (b out : List ℕ) (x : Answer) (new : List ℕ) → MultiplyEnds most (0 ∷ []) b out x new → x.code ≡ 0 → Gave b out x new
multiply_by_one most b out x new e z =
    let p = passed most (0 ∷ []) b out x new e z in
    subst (λ (l : List ℕ). Gave l out x new) (times_one_left b (second_ascends most (0 ∷ []) b out p)) (gave most (0 ∷ []) b out x new e p)

-- the variables of what is written are those of both
pub multiply_joins_variables : (most : ℕ) (a b out : List ℕ) (x : Answer) (new : List ℕ) → MultiplyEnds most a b out x new → x.code ≡ 0
    → 0 < length a → 0 < length b → vars (take x.count new) ≡ bit_or (vars a) (vars b)
multiply_joins_variables most a b out x new e z p q =
    let g = gave most a b out x new e (passed most a b out x new e z) in
    ap vars (ap (take x.count) g.1 ∙ take_at (times a b) (drop (length (times a b)) out) x.count (sym (ap (λ (y : Answer). y.count) g.0)))
    ∙ vars_times a b (get_or a 0 0) (get_or b 0 0) (mem_at a 0 p) (mem_at b 0 q)
