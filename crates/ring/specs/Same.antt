-- AD = BC with ordinary products, x times x being x squared (RULES 3.1 and 3.2): whatever exponents are fixed for the variables, the pairs
-- of terms that have just these are an even number on both sides or an odd number on both. The number n of variables is a parameter; only
-- the bits below n are read.
use Rattle.std.specs.Prelude.{ℕ, zero, suc, ◌+◌, ◌%◌, ◌≡◌, Bool, true, false, ◌&&◌, List, [], ◌∷◌, ◌++◌, map, eqb}
use Rattle.masks.specs.Bit.{bit}

-- 1 for yes, 0 for no
abbrev pub one_if : Bool → ℕ
one_if true = 1
one_if false = 0

-- a monomial gives each variable its exponent; a polynomial over GF(2) is a sum of monomials, as a list
abbrev pub Monomial : Type 0
Monomial = ℕ → ℕ

-- the polynomial of a list of terms: the variables of a term have exponent 1 in it, the others 0
abbrev pub ordinary : List ℕ → List Monomial
ordinary f = map (λ t i. one_if (bit t i)) f

-- the product, pair by pair: for each monomial of g and each of h the one in which their exponents add
unfoldable pub multiplied : List Monomial → List Monomial → List Monomial
multiplied [] h = []
multiplied (s ∷ g) h = map (λ t i. s i + t i) h ++ multiplied g h

-- whether m has the exponents e at all variables below n
unfoldable pub is : ℕ → Monomial → Monomial → Bool
is zero e m = true
is (suc n) e m = eqb (m n) (e n) && is n e m

-- how many monomials of g have the exponents e
unfoldable pub count : ℕ → Monomial → List Monomial → ℕ
count n e [] = 0
count n e (m ∷ g) = one_if (is n e m) + count n e g

-- g and h are the same polynomial in n variables: for each assignment e of exponents the two counts have equal parity
pub record Same (n : ℕ) (g h : List Monomial) : Type 0 where
  pub parity : (e : Monomial) → count n e g % 2 ≡ count n e h % 2

-- AD = BC in n variables: the two products are the same polynomial. (No pair of terms gives an exponent above 2.)
pub record SameProducts (n : ℕ) (a d b c : List ℕ) : Type 0 where
  pub same : Same n (multiplied (ordinary a) (ordinary d)) (multiplied (ordinary b) (ordinary c))
