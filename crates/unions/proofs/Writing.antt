-- What `by_runs` has written after each turn: the products of the runs so far, so that with the product of what is left of a it is the
-- whole product. Leans on Steps. Assumes nothing.
use Prim.Native.Nat.{ℕ, ◌+◌, ◌-◌, ◌*◌, ◌≤◌}
use native.Mathlib.Nat.{mul_comm, zero-mul, one-mul, mul-le-mul_right, add-mul}
use native.Mathlib.Omega.{arith}
use mathlib.Core.Path.{◌≡◌, sym, ap, ap₂, ◌∙◌}
use mathlib.Core.List.{List, ◌++◌, append-nil, append_assoc}
use lib.ListN.{length, take, drop, length-append, length-drop, drop_of_length-le}
use lib.Seq.{length-take-le, length_front, take_all, take_at}
use Rattle.polys.specs.Poly.{times}
use Rattle.polys.proofs.Polys.{times_zero_left}
use Rattle.polys.proofs.Counts.{length_times}
use Rattle.unions.proofs.Steps.{Turn}

-- the first terms of the room, n for each of a, and the product of what is left of a are the whole product
abbrev pub SoFar : List ℕ → List ℕ → ℕ → List ℕ → ℕ → Type 0
SoFar a b n out at = take (at * n) out ++ times (drop at a) b ≡ times a b

pub none_so_far : (a b : List ℕ) (n : ℕ) (out : List ℕ) → SoFar a b n out 0
none_so_far a b n out = ap (λ (k : ℕ). take k out ++ times a b) (zero-mul n)

pub all_so_far : (a b : List ℕ) (n : ℕ) (out : List ℕ) (at : ℕ) → length out ≡ length a * n → at ≡ length a → SoFar a b n out at → out ≡ times a b
all_so_far a b n out at room e s =
    sym (take_all (at * n) out (omega (arith, ap (λ (k : ℕ). k * n) e)))
    ∙ sym (append-nil (take (at * n) out))
    ∙ ap (λ (l : List ℕ). take (at * n) out ++ l)
    (sym (times_zero_left b) ∙ ap (λ (l : List ℕ). times l b) (sym (drop_of_length-le a {i = at} (omega arith))))
    ∙ s

-- a list is as long as it was after a part of it was lent and came back
pub length_back : (x y : ℕ) (ws ys : List ℕ) → x ≤ length ws → length ys ≡ length (take (y - x) (drop x ws))
    → length (take x ws ++ (ys ++ drop (y - x) (drop x ws))) ≡ length ws
length_back x y ws ys fits e =
    length-append (take x ws) (ys ++ drop (y - x) (drop x ws))
    ∙ omega (arith, length-take-le x ws fits, length_front (drop x ws) ys (y - x) e, length-drop x ws)

-- the run's product has a place in the room, of the right length, and written there it leaves the room as the next turn finds it
pub record Lent (a b : List ℕ) (n at r : ℕ) (part out : List ℕ) : Type 0 where
  pub start : at * n ≤ (at + r) * n
  pub end : (at + r) * n ≤ length out
  pub lone_room : r ≡ 1 → length (take ((at + r) * n - at * n) (drop (at * n) out)) ≡ length b
  pub room : length (take ((at + r) * n - at * n) (drop (at * n) out)) ≡ length b * length part
  pub next : (new : List ℕ) → new ≡ times part b → SoFar a b n out at
      → SoFar a b n (take (at * n) out ++ (new ++ drop ((at + r) * n - at * n) (drop (at * n) out))) (at + r)

-- one turn
module _ (a b : List ℕ) (n at r : ℕ) (part out : List ℕ) (t : Turn a b at r part) (count : n ≡ length b) (whole : length out ≡ length a * n) where
  end_fits : (at + r) * n ≤ length out
  end_fits = let m : (at + r) * n ≤ length a * n = mul-le-mul_right n t.within in omega arith

  width : (at + r) * n ≡ at * n + r * n
  width = add-mul at r n

  length_lent : length (take ((at + r) * n - at * n) (drop (at * n) out)) ≡ r * length b
  length_lent =
      let e : (at + r) * n - at * n ≡ r * n = omega (arith, width) in
      ap (λ (k : ℕ). length (take k (drop (at * n) out))) e
      ∙ length-take-le (r * n) (drop (at * n) out) (omega (arith, length-drop (at * n) out, end_fits, width))
      ∙ ap (λ (k : ℕ). r * k) count

  -- the run's product comes back
  more_so_far : (new : List ℕ) → new ≡ times part b → SoFar a b n out at
      → SoFar a b n (take (at * n) out ++ (new ++ drop ((at + r) * n - at * n) (drop (at * n) out))) (at + r)
  more_so_far new wrote s =
      ap (λ (l : List ℕ). l ++ times (drop (at + r) a) b) front
      ∙ append_assoc (take (at * n) out) new (times (drop (at + r) a) b)
      ∙ ap (λ (l : List ℕ). take (at * n) out ++ l) (ap (λ (l : List ℕ). l ++ times (drop (at + r) a) b) wrote ∙ sym t.tail)
      ∙ s
    where
      length_new : length new ≡ r * n
      length_new =
          ap length wrote ∙ length_times part b t.factors.first t.factors.second t.factors.apart ∙ ap₂ (λ (k m : ℕ). k * m) t.count (sym count)

      length_before : length (take (at * n) out) ≡ at * n
      length_before = length-take-le (at * n) out (omega (arith, end_fits, width))

      front : take ((at + r) * n) (take (at * n) out ++ (new ++ drop ((at + r) * n - at * n) (drop (at * n) out))) ≡ take (at * n) out ++ new
      front =
          ap (take ((at + r) * n)) (sym (append_assoc (take (at * n) out) new (drop ((at + r) * n - at * n) (drop (at * n) out))))
          ∙ take_at (take (at * n) out ++ new) (drop ((at + r) * n - at * n) (drop (at * n) out)) ((at + r) * n)
          (length-append (take (at * n) out) new ∙ omega (arith, length_before, length_new, width))

  pub lent : Lent a b n at r part out
  lent =
      record {
        start = omega (arith, width);
        end = end_fits;
        lone_room = λ e. length_lent ∙ ap (λ (k : ℕ). k * length b) e ∙ one-mul (length b);
        room = length_lent ∙ mul_comm r (length b) ∙ ap (λ (k : ℕ). length b * k) (sym t.count);
        next = more_so_far;
      }
