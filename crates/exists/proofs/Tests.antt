-- What the tests of specs/PartsOf decide: membership, a test of every term, closure under mixing. Assumes nothing.
use mathlib.Core.Path.{◌≡◌, refl, sym, subst}
use mathlib.Core.Bool.{Bool, true, false, ◌&&◌, ◌||◌}
use mathlib.Core.Logic.{◌⊎◌, inl, inr, ⊎_elim}
use mathlib.Core.List.{List, [], ◌∷◌}
use Prim.Native.Nat.{ℕ}
use lib.Dec.{T, eqb, eqb→eq, eqb_refl}
use Rattle.polys.specs.List.{Mem}
use Rattle.splitting.specs.Mix.{mix, Closed}
use Rattle.exists.specs.PartsOf.{is_term, every, is_closed}

pub T_and : (a b : Bool) → T a → T b → T (a && b)
T_and true b p q = q
T_and false b p q = p

pub and_T : (a b : Bool) → T (a && b) → T a × T b
and_T true b p = (tt, p)
and_T false b p = absurd p

T_or : (a b : Bool) → T a ⊎ T b → T (a || b)
T_or true b p = tt
T_or false b (inl p) = absurd p
T_or false b (inr p) = p

or_T : (a b : Bool) → T (a || b) → T a ⊎ T b
or_T true b p = inl tt
or_T false b p = inr p

pub eq_eqb : (x y : ℕ) → x ≡ y → T (eqb x y)
eq_eqb x y e = subst (λ z. T (eqb x z)) e (eqb_refl x)

is_term_mem : (f : List ℕ) (x : ℕ) → T (is_term f x) → Mem f x
unfolding is_term
is_term_mem [] x p = p
is_term_mem (t ∷ f) x p = ⊎_elim (λ q. inl (eqb→eq x t q)) (λ q. inr (is_term_mem f x q)) (or_T (eqb x t) (is_term f x) p)

mem_is_term : (f : List ℕ) (x : ℕ) → Mem f x → T (is_term f x)
unfolding is_term
mem_is_term [] x m = m
mem_is_term (t ∷ f) x (inl e) = T_or (eqb x t) (is_term f x) (inl (eq_eqb x t e))
mem_is_term (t ∷ f) x (inr m) = T_or (eqb x t) (is_term f x) (inr (mem_is_term f x m))

pub every_mem : (test : ℕ → Bool) (f : List ℕ) → T (every test f) → (t : ℕ) → Mem f t → T (test t)
unfolding every
every_mem test [] p t m = absurd m
every_mem test (s ∷ f) p t (inl e) = subst (λ x. T (test x)) (sym e) (and_T (test s) (every test f) p).0
every_mem test (s ∷ f) p t (inr m) = every_mem test f (and_T (test s) (every test f) p).1 t m

pub mem_every : (test : ℕ → Bool) (f : List ℕ) → ((t : ℕ) → Mem f t → T (test t)) → T (every test f)
unfolding every
mem_every test [] h = tt
mem_every test (s ∷ f) h = T_and (test s) (every test f) (h s (inl refl)) (mem_every test f (λ t m. h t (inr m)))

pub closed_of_test : (y : ℕ) (f : List ℕ) → T (is_closed y f) → Closed y f
unfolding is_closed
closed_of_test y f p s t ms mt =
    is_term_mem f (mix y s t)
    (every_mem (λ u. is_term f (mix y s u)) f (every_mem (λ r. every (λ u. is_term f (mix y r u)) f) f p s ms) t mt)

pub test_of_closed : (y : ℕ) (f : List ℕ) → Closed y f → T (is_closed y f)
unfolding is_closed
test_of_closed y f h =
    mem_every (λ r. every (λ u. is_term f (mix y r u)) f) f
    (λ s ms. mem_every (λ u. is_term f (mix y s u)) f (λ t mt. mem_is_term f (mix y s t) (h s t ms mt)))
