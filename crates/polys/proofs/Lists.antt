-- Laws of members, strict order, `insert` and `collect` on lists of numbers (specs/List.antt). Every later fact on polynomials
-- goes from lists to their members and back by `asc_ext`: two ascending lists with the same members are equal. Assumes nothing.
use Prim.Native.Nat.{ℕ, zero, suc, ◌<◌, ◌≤◌}
use native.Mathlib.Omega.{arith}
use native.Mathlib.Decide.{ℕ_discrete, dec_le}
use mathlib.Core.Path.{◌≡◌, refl, sym, ap, ap₂, subst}
use mathlib.Core.Bool.{Bool, true, false}
use mathlib.Core.List.{List, [], ◌∷◌, ◌++◌, map}
use mathlib.Core.Logic.{◌⊎◌, inl, inr, ⊎_elim}
use lib.Dec.{ltb, eqb}
use lib.ListN.{length, get_or, take, drop, take-append-drop}
use borrow.Author.Tests.{ltb-true, ltb-false, eqb-true, eqb-false}
use Rattle.polys.specs.List.{Mem, Above, Asc, insert, collect}

-- ---- members

-- a member is a member under another name
pub mem_subst : (l : List ℕ) (x y : ℕ) → x ≡ y → Mem l x → Mem l y
mem_subst l x y e h = subst (λ (z : ℕ). Mem l z) e h

pub mem_left : (a b : List ℕ) (x : ℕ) → Mem a x → Mem (a ++ b) x
mem_left [] b x h = absurd h
mem_left (y ∷ a) b x (inl e) = inl e
mem_left (y ∷ a) b x (inr h) = inr (mem_left a b x h)

pub mem_right : (a b : List ℕ) (x : ℕ) → Mem b x → Mem (a ++ b) x
mem_right [] b x h = h
mem_right (y ∷ a) b x h = inr (mem_right a b x h)

pub mem_append : (a b : List ℕ) (x : ℕ) → Mem (a ++ b) x → Mem a x ⊎ Mem b x
mem_append [] b x h = inr h
mem_append (y ∷ a) b x (inl e) = inl (inl e)
mem_append (y ∷ a) b x (inr h) = ⊎_elim (λ m. inl (inr m)) (λ m. inr m) (mem_append a b x h)

pub mem_map : (f : ℕ → ℕ) (l : List ℕ) (x : ℕ) → Mem l x → Mem (map f l) (f x)
mem_map f [] x h = absurd h
mem_map f (y ∷ l) x (inl e) = inl (ap f e)
mem_map f (y ∷ l) x (inr h) = inr (mem_map f l x h)

pub mem_map_from : (f : ℕ → ℕ) (l : List ℕ) (y : ℕ) → Mem (map f l) y → (x : ℕ) × Mem l x × (y ≡ f x)
mem_map_from f [] y h = absurd h
mem_map_from f (z ∷ l) y (inl e) = (z, inl refl, e)
mem_map_from f (z ∷ l) y (inr h) = let r = mem_map_from f l y h in (r.0, inr r.1, r.2)

pub mem_dec : (l : List ℕ) (x : ℕ) → Dec (Mem l x)
mem_dec [] x = no (λ h. h)
mem_dec (y ∷ l) x = go (ℕ_discrete x y) (mem_dec l x)
  where
    go : Dec (x ≡ y) → Dec (Mem l x) → Dec ((x ≡ y) ⊎ Mem l x)
    go (yes e) d = yes (inl e)
    go (no n) (yes h) = yes (inr h)
    go (no n) (no m) = no (⊎_elim n m)

-- ---- above and ascending

pub above_mem : (x : ℕ) (l : List ℕ) (y : ℕ) → Above x l → Mem l y → x < y
above_mem x [] y a h = absurd h
above_mem x (z ∷ l) y a (inl e) = let p : x < z = a.0 in omega arith
above_mem x (z ∷ l) y a (inr h) = above_mem x l y a.1 h

pub above_by_mem : (x : ℕ) (l : List ℕ) → ((y : ℕ) → Mem l y → x < y) → Above x l
above_by_mem x [] h = tt
above_by_mem x (y ∷ l) h = (h y (inl refl), above_by_mem x l (λ z m. h z (inr m)))

pub above_less : (x y : ℕ) (l : List ℕ) → x ≤ y → Above y l → Above x l
above_less x y l h a = above_by_mem x l (λ z m. let p : y < z = above_mem y l z a m in omega arith)

-- the first number of an ascending list is its least
pub head_least : (x : ℕ) (l : List ℕ) (y : ℕ) → Asc (x ∷ l) → Mem (x ∷ l) y → x ≤ y
head_least x l y a (inl e) = omega arith
head_least x l y a (inr h) = let p : x < y = above_mem x l y a.0 h in omega arith

-- two ascending lists with the same members are equal
pub asc_ext : (a b : List ℕ) → Asc a → Asc b → ((x : ℕ) → Mem a x → Mem b x) → ((x : ℕ) → Mem b x → Mem a x) → a ≡ b
asc_ext [] [] p q f g = refl
asc_ext [] (y ∷ b) p q f g = absurd (g y (inl refl))
asc_ext (x ∷ a) [] p q f g = absurd (f x (inl refl))
asc_ext (x ∷ a) (y ∷ b) p q f g =
    ap₂ (λ (z : ℕ) (l : List ℕ). z ∷ l) heads (asc_ext a b p.1 q.1 (λ z m. on z m (f z (inr m))) (λ z m. back z m (g z (inr m))))
  where
    heads : x ≡ y
    heads =
        let h : y ≤ x = head_least y b x q (f x (inl refl)) in
        let k : x ≤ y = head_least x a y p (g y (inl refl)) in
        omega arith

    on : (z : ℕ) → Mem a z → Mem (y ∷ b) z → Mem b z
    on z m (inl e) = absurd (let h : x < z = above_mem x a z p.0 m in let k : x ≡ y = heads in let c : ⊥ = omega arith in c)
    on z m (inr h) = h

    back : (z : ℕ) → Mem b z → Mem (x ∷ a) z → Mem a z
    back z m (inl e) = absurd (let h : y < z = above_mem y b z q.0 m in let k : x ≡ y = heads in let c : ⊥ = omega arith in c)
    back z m (inr h) = h

pub asc_append : (a b : List ℕ) → Asc a → Asc b → ((x y : ℕ) → Mem a x → Mem b y → x < y) → Asc (a ++ b)
asc_append [] b p q h = q
asc_append (x ∷ a) b p q h = (
  above_by_mem x (a ++ b) (λ z m. ⊎_elim (above_mem x a z p.0) (h x z (inl refl)) (mem_append a b z m)),
  asc_append a b p.1 q (λ y z m n. h y z (inr m) n),
)

pub asc_append_left : (a b : List ℕ) → Asc (a ++ b) → Asc a
asc_append_left [] b p = tt
asc_append_left (x ∷ a) b p =
    (above_by_mem x a (λ z m. above_mem x (a ++ b) z p.0 (mem_left a b z m)), asc_append_left a b p.1)

pub asc_append_right : (a b : List ℕ) → Asc (a ++ b) → Asc b
asc_append_right [] b p = p
asc_append_right (x ∷ a) b p = asc_append_right a b p.1

pub asc_append_below : (a b : List ℕ) (x y : ℕ) → Asc (a ++ b) → Mem a x → Mem b y → x < y
asc_append_below [] b x y p m n = absurd m
asc_append_below (z ∷ a) b x y p (inl e) n = let h : z < y = above_mem z (a ++ b) y p.0 (mem_right a b y n) in omega arith
asc_append_below (z ∷ a) b x y p (inr m) n = asc_append_below a b x y p.1 m n

-- what keeps the order of an ascending list's numbers keeps the list ascending
pub asc_map : (f : ℕ → ℕ) (l : List ℕ) → ((x y : ℕ) → Mem l x → Mem l y → x < y → f x < f y) → Asc l → Asc (map f l)
asc_map f [] h p = tt
asc_map f (x ∷ l) h p =
    (above_by_mem (f x) (map f l) first, asc_map f l (λ y z m n. h y z (inr m) (inr n)) p.1)
  where
    first : (y : ℕ) → Mem (map f l) y → f x < y
    first y m =
        let r = mem_map_from f l y m in
        subst (λ (z : ℕ). f x < z) (sym r.2) (h x r.0 (inl refl) (inr r.1) (above_mem x l r.0 p.0 r.1))

-- ---- insert and collect

-- where `insert` puts x into a list that begins with y
pub insert_cases : (x y : ℕ) (l : List ℕ) →
    ((x < y) × (insert x (y ∷ l) ≡ x ∷ y ∷ l)) ⊎ (((x ≡ y) × (insert x (y ∷ l) ≡ y ∷ l)) ⊎ ((y < x) × (insert x (y ∷ l) ≡ y ∷ insert x l)))
unfolding insert
insert_cases x y l = go (ltb x y) refl (eqb x y) refl
  where
    go : (p : Bool) → ltb x y ≡ p → (q : Bool) → eqb x y ≡ q →
        ((x < y) × (insert x (y ∷ l) ≡ x ∷ y ∷ l)) ⊎ (((x ≡ y) × (insert x (y ∷ l) ≡ y ∷ l)) ⊎ ((y < x) × (insert x (y ∷ l) ≡ y ∷ insert x l)))
    go true e q e' = inl (ltb-true x y e, rw e refl)
    go false e true e' = inr (inl (eqb-true x y e', rw (e, e') refl))
    go false e false e' =
        let h : y ≤ x = ltb-false x y e in
        let n : (x ≡ y) → ⊥ = eqb-false x y e' in
        inr (inr (omega arith, rw (e, e') refl))

pub mem_insert : (x : ℕ) (l : List ℕ) (y : ℕ) → Mem (insert x l) y → (y ≡ x) ⊎ Mem l y
unfolding insert
mem_insert x [] y h = h
mem_insert x (z ∷ l) y h =
    ⊎_elim (λ c. here (x ∷ z ∷ l) c.1)
    (⊎_elim (λ c. inr (here (z ∷ l) c.1))
    (λ c. ⊎_elim (λ e. inr (inl e)) (λ m. ⊎_elim (λ e. inl e) (λ n. inr (inr n)) (mem_insert x l y m)) (here (z ∷ insert x l) c.1)))
    (insert_cases x z l)
  where
    here : (k : List ℕ) → insert x (z ∷ l) ≡ k → Mem k y
    here k e = subst (λ (k : List ℕ). Mem k y) e h

pub mem_insert_self : (x : ℕ) (l : List ℕ) → Mem (insert x l) x
unfolding insert
mem_insert_self x [] = inl refl
mem_insert_self x (z ∷ l) =
    ⊎_elim (λ c. subst (λ (k : List ℕ). Mem k x) (sym c.1) (inl refl))
    (⊎_elim (λ c. subst (λ (k : List ℕ). Mem k x) (sym c.1) (inl c.0))
    (λ c. subst (λ (k : List ℕ). Mem k x) (sym c.1) (inr (mem_insert_self x l))))
    (insert_cases x z l)

pub mem_insert_old : (x : ℕ) (l : List ℕ) (y : ℕ) → Mem l y → Mem (insert x l) y
unfolding insert
mem_insert_old x [] y h = absurd h
mem_insert_old x (z ∷ l) y h =
    ⊎_elim (λ c. subst (λ (k : List ℕ). Mem k y) (sym c.1) (inr h))
    (⊎_elim (λ c. subst (λ (k : List ℕ). Mem k y) (sym c.1) h)
    (λ c. subst (λ (k : List ℕ). Mem k y) (sym c.1) (⊎_elim (λ e. inl e) (λ m. inr (mem_insert_old x l y m)) h)))
    (insert_cases x z l)

pub asc_insert : (x : ℕ) (l : List ℕ) → Asc l → Asc (insert x l)
unfolding insert
asc_insert x [] p = (tt, tt)
asc_insert x (z ∷ l) p =
    ⊎_elim (λ c. subst Asc (sym c.1) ((c.0, above_less x z l (before c.0) p.0), p))
    (⊎_elim (λ c. subst Asc (sym c.1) p)
    (λ c. subst Asc (sym c.1) (above_by_mem z (insert x l) (behind c.0), asc_insert x l p.1)))
    (insert_cases x z l)
  where
    before : x < z → x ≤ z
    before h = omega arith

    behind : z < x → (y : ℕ) → Mem (insert x l) y → z < y
    behind h y m = ⊎_elim (λ e. let k : y ≡ x = e in omega arith) (above_mem z l y p.0) (mem_insert x l y m)

pub collect_mem : (l : List ℕ) (x : ℕ) → Mem (collect l) x → Mem l x
unfolding collect
collect_mem [] x h = h
collect_mem (y ∷ l) x h = ⊎_elim (λ e. inl e) (λ m. inr (collect_mem l x m)) (mem_insert y (collect l) x h)

pub mem_collect : (l : List ℕ) (x : ℕ) → Mem l x → Mem (collect l) x
unfolding collect
mem_collect [] x h = h
mem_collect (y ∷ l) x (inl e) = mem_subst (insert y (collect l)) y x (sym e) (mem_insert_self y (collect l))
mem_collect (y ∷ l) x (inr h) = mem_insert_old y (collect l) x (mem_collect l x h)

pub collect_asc : (l : List ℕ) → Asc (collect l)
unfolding collect
collect_asc [] = tt
collect_asc (x ∷ l) = asc_insert x (collect l) (collect_asc l)

-- two lists with the same members collect to one list
pub collect_ext : (a b : List ℕ) → ((x : ℕ) → Mem a x → Mem b x) → ((x : ℕ) → Mem b x → Mem a x) → collect a ≡ collect b
collect_ext a b f g =
    asc_ext (collect a) (collect b) (collect_asc a) (collect_asc b)
    (λ x m. mem_collect b x (f x (collect_mem a x m)))
    (λ x m. mem_collect a x (g x (collect_mem b x m)))

-- an ascending list is what it collects
pub collect_of_asc : (l : List ℕ) → Asc l → collect l ≡ l
collect_of_asc l p = asc_ext (collect l) l (collect_asc l) p (collect_mem l) (mem_collect l)

-- ---- by index: what a loop checks, and what a part of a list keeps

pub mem_at : (l : List ℕ) (i : ℕ) → i < length l → Mem l (get_or l i 0)
mem_at [] i h = absurd (let c : ⊥ = omega arith in c)
mem_at (x ∷ l) zero h = inl refl
mem_at (x ∷ l) (suc i) h = inr (mem_at l i (omega arith))

pub at_mem : (l : List ℕ) (x : ℕ) → Mem l x → (i : ℕ) × (i < length l) × (x ≡ get_or l i 0)
at_mem [] x h = absurd h
at_mem (y ∷ l) x (inl e) = (zero, omega arith, e)
at_mem (y ∷ l) x (inr h) = let r = at_mem l x h in let k : r.0 < length l = r.1 in (suc r.0, omega arith, r.2)

-- a list in which each number is above the one before it is ascending
pub asc_by_steps : (l : List ℕ) → ((k : ℕ) → suc k < length l → get_or l k 0 < get_or l (suc k) 0) → Asc l
asc_by_steps [] h = tt
asc_by_steps (x ∷ []) h = (tt, tt)
asc_by_steps (x ∷ y ∷ l) h = go (asc_by_steps (y ∷ l) (λ k b. h (suc k) (omega arith)))
  where
    first : x < y
    first = h zero (omega arith)

    go : Asc (y ∷ l) → Asc (x ∷ y ∷ l)
    go p = ((first, above_less x y l (let f : x < y = first in omega arith) p.0), p)

-- in an ascending list a later place holds a larger number
pub asc_at : (l : List ℕ) (i j : ℕ) → Asc l → i < j → j < length l → get_or l i 0 < get_or l j 0
asc_at [] i j p h b = absurd (let c : ⊥ = omega arith in c)
asc_at (x ∷ l) zero zero p h b = absurd (let c : ⊥ = omega arith in c)
asc_at (x ∷ l) zero (suc j) p h b = above_mem x l (get_or l j 0) p.0 (mem_at l j (omega arith))
asc_at (x ∷ l) (suc i) zero p h b = absurd (let c : ⊥ = omega arith in c)
asc_at (x ∷ l) (suc i) (suc j) p h b = asc_at l i j p.1 (omega arith) (omega arith)

-- and none a smaller one
pub asc_at_le : (l : List ℕ) (i j : ℕ) → Asc l → i ≤ j → j < length l → get_or l i 0 ≤ get_or l j 0
asc_at_le l i j p h b = go (dec_le j i)
  where
    go : Dec (j ≤ i) → get_or l i 0 ≤ get_or l j 0
    go (yes k) = let e : i ≡ j = omega arith in subst (λ (n : ℕ). get_or l i 0 ≤ get_or l n 0) e (omega arith)
    go (no n) = let q : get_or l i 0 < get_or l j 0 = asc_at l i j p (omega arith) b in omega arith

pub mem_take : (n : ℕ) (l : List ℕ) (x : ℕ) → Mem (take n l) x → Mem l x
mem_take n l x h = subst (λ (k : List ℕ). Mem k x) (take-append-drop n l) (mem_left (take n l) (drop n l) x h)

pub mem_drop : (n : ℕ) (l : List ℕ) (x : ℕ) → Mem (drop n l) x → Mem l x
mem_drop n l x h = subst (λ (k : List ℕ). Mem k x) (take-append-drop n l) (mem_right (take n l) (drop n l) x h)

pub asc_take : (n : ℕ) (l : List ℕ) → Asc l → Asc (take n l)
asc_take n l p = asc_append_left (take n l) (drop n l) (subst Asc (sym (take-append-drop n l)) p)

pub asc_drop : (n : ℕ) (l : List ℕ) → Asc l → Asc (drop n l)
asc_drop n l p = asc_append_right (take n l) (drop n l) (subst Asc (sym (take-append-drop n l)) p)
