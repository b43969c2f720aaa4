-- How many terms a product has (RULES 2.1): the two numbers of terms multiplied. The unions are all different, and collecting
-- different numbers loses none. Assumes nothing.
use Prim.Native.Nat.{ℕ, suc, ◌+◌, ◌*◌, ◌<◌}
use native.Mathlib.Nat.{zero-mul, suc-mul, add_comm}
use native.Mathlib.Omega.{arith}
use mathlib.Core.Path.{◌≡◌, refl, sym, ap, ap₂, ◌∙◌}
use mathlib.Core.List.{List, [], ◌∷◌, ◌++◌, map}
use mathlib.Core.Logic.{inl, inr, ⊎_elim}
use lib.Bits.{bit_or}
use lib.ListN.{length, length-append, length-map}
use Rattle.polys.specs.List.{Mem, Asc, insert, collect}
use Rattle.polys.specs.Poly.{unions, times, Apart}
use Rattle.polys.proofs.Lists.{mem_append, mem_map_from, mem_subst, above_mem, insert_cases, collect_mem}
use Rattle.polys.proofs.Polys.{apart_sub, union_tells_left, union_tells_right, unions_mem}

-- no number stands twice in the list
abbrev pub Different : List ℕ → Type 0
Different [] = Unit {0}
Different (x ∷ l) = (Mem l x → ⊥) × Different l

pub different_of_asc : (l : List ℕ) → Asc l → Different l
different_of_asc [] p = tt
different_of_asc (x ∷ l) p =
    ((λ m. let h : x < x = above_mem x l x p.0 m in omega arith), different_of_asc l p.1)

different_append : (a b : List ℕ) → Different a → Different b → ((x : ℕ) → Mem a x → Mem b x → ⊥) → Different (a ++ b)
different_append [] b p q h = q
different_append (x ∷ a) b p q h = (
  (λ m. ⊎_elim p.0 (h x (inl refl)) (mem_append a b x m)),
  different_append a b p.1 q (λ y m n. h y (inr m) n),
)

different_map : (f : ℕ → ℕ) (l : List ℕ) → ((x y : ℕ) → Mem l x → Mem l y → f x ≡ f y → x ≡ y) → Different l → Different (map f l)
different_map f [] h p = tt
different_map f (x ∷ l) h p = (
  (λ m. let u = mem_map_from f l (f x) m in p.0 (mem_subst l u.0 x (sym (h x u.0 (inl refl) (inr u.1) u.2)) u.1)),
  different_map f l (λ y z m n e. h y z (inr m) (inr n) e) p.1,
)

-- ---- collecting different numbers loses none

length_insert : (x : ℕ) (l : List ℕ) → (Mem l x → ⊥) → length (insert x l) ≡ suc (length l)
unfolding insert
length_insert x [] h = refl
length_insert x (y ∷ l) h =
    ⊎_elim (λ c. ap length c.1)
    (⊎_elim (λ c. absurd (h (inl c.0)))
    (λ c. ap length c.1 ∙ ap suc (length_insert x l (λ m. h (inr m)))))
    (insert_cases x y l)

pub length_collect : (l : List ℕ) → Different l → length (collect l) ≡ length l
unfolding collect
length_collect [] p = refl
length_collect (x ∷ l) p = length_insert x (collect l) (λ m. p.0 (collect_mem l x m)) ∙ ap suc (length_collect l p.1)

-- ---- the unions are different

module _ (h : List ℕ) (q : Different h) where
  pub different_unions : (g : List ℕ) → Different g → Apart g h → Different (unions g h)
  unfolding unions
  different_unions [] p a = tt
  different_unions (t ∷ g) p a =
      different_append (map (bit_or t) h) (unions g h)
      (different_map (bit_or t) h (λ x y m n e. union_tells_right (t ∷ g) h t x t y a (inl refl) m (inl refl) n e) q)
      (different_unions g p.1 (apart_sub (t ∷ g) h g h (λ x m. inr m) (λ x m. m) a))
      apart_rows
    where
      apart_rows : (x : ℕ) → Mem (map (bit_or t) h) x → Mem (unions g h) x → ⊥
      apart_rows x m n =
          let u = mem_map_from (bit_or t) h x m in
          let w = unions_mem g h x n in
          p.0 (mem_subst g w.0 t
          (sym (union_tells_left (t ∷ g) h t u.0 w.0 w.1 a (inl refl) u.1 (inr w.2) w.3 (sym u.2 ∙ w.4))) w.2)

pub length_unions : (g h : List ℕ) → length (unions g h) ≡ length g * length h
unfolding unions
length_unions [] h = sym (zero-mul (length h))
length_unions (t ∷ g) h =
    length-append (map (bit_or t) h) (unions g h)
    ∙ ap₂ (λ (m n : ℕ). m + n) (length-map h (bit_or t)) (length_unions g h)
    ∙ add_comm (length h) (length g * length h) ∙ sym (suc-mul (length g) (length h))

pub length_times : (g h : List ℕ) → Asc g → Asc h → Apart g h → length (times g h) ≡ length g * length h
unfolding times
length_times g h p q a =
    length_collect (unions g h) (different_unions h (different_of_asc h q) g (different_of_asc g p) a) ∙ length_unions g h
