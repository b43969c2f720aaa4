-- Laws of the operations on polynomials (specs/Poly.antt): which terms stand in a projection and in a product, the
-- variables of a polynomial, and the product's algebra. Lists are compared by their members (Lists), masks by truth table
-- (masks). Assumes nothing.
use Prim.Native.Nat.{ℕ, ◌+◌}
use mathlib.Core.Path.{◌≡◌, refl, sym, ap, ap₂, ◌∙◌, subst}
use mathlib.Core.Bool.{Bool, true, false, ◌||◌, true≢false}
use mathlib.Core.List.{List, [], ◌∷◌, map}
use mathlib.Core.Logic.{inl, inr, ⊎_elim}
use lib.Bits.{bit_and, bit_or, or_zero_l, or_comm, or_disjoint, and_zero_l}
use Rattle.masks.specs.Bit.{bit, without}
use Rattle.masks.proofs.Bits.{bit_or_lem, bit_zero}
use Rattle.masks.proofs.Reflect.{◌∩◌, ◌∪◌, ◌∖◌, ◌≐◌, ◌⊆◌, ◌⇒◌, ∴◌, apart, identity}
use Rattle.polys.specs.List.{Mem, Asc, collect}
use Rattle.polys.specs.Poly.{vars, onto, off, unions, times, Apart}
use Rattle.polys.proofs.Lists.{mem_subst, mem_left, mem_right, mem_append, mem_map, mem_map_from, asc_ext, collect_mem, mem_collect, collect_asc}

-- ---- which terms stand in a projection

pub mem_onto : (y : ℕ) (f : List ℕ) (t : ℕ) → Mem f t → Mem (onto y f) (bit_and t y)
unfolding onto
mem_onto y f t h = mem_collect (map (λ t. bit_and t y) f) (bit_and t y) (mem_map (λ t. bit_and t y) f t h)

pub onto_mem : (y : ℕ) (f : List ℕ) (x : ℕ) → Mem (onto y f) x → (t : ℕ) × Mem f t × (x ≡ bit_and t y)
unfolding onto
onto_mem y f x h = mem_map_from (λ t. bit_and t y) f x (collect_mem (map (λ t. bit_and t y) f) x h)

pub onto_asc : (y : ℕ) (f : List ℕ) → Asc (onto y f)
unfolding onto
onto_asc y f = collect_asc (map (λ t. bit_and t y) f)

pub mem_off : (y : ℕ) (f : List ℕ) (t : ℕ) → Mem f t → Mem (off y f) (without y t)
unfolding off
mem_off y f t h = mem_collect (map (without y) f) (without y t) (mem_map (without y) f t h)

pub off_mem : (y : ℕ) (f : List ℕ) (x : ℕ) → Mem (off y f) x → (t : ℕ) × Mem f t × (x ≡ without y t)
unfolding off
off_mem y f x h = mem_map_from (without y) f x (collect_mem (map (without y) f) x h)

pub off_asc : (y : ℕ) (f : List ℕ) → Asc (off y f)
unfolding off
off_asc y f = collect_asc (map (without y) f)

-- ---- which terms stand in a product

pub mem_unions : (g h : List ℕ) (s t : ℕ) → Mem g s → Mem h t → Mem (unions g h) (bit_or s t)
unfolding unions
mem_unions [] h s t m n = absurd m
mem_unions (r ∷ g) h s t (inl e) n =
    mem_left (map (bit_or r) h) (unions g h) (bit_or s t)
    (mem_subst (map (bit_or r) h) (bit_or r t) (bit_or s t) (ap (λ (x : ℕ). bit_or x t) (sym e)) (mem_map (bit_or r) h t n))
mem_unions (r ∷ g) h s t (inr m) n =
    mem_right (map (bit_or r) h) (unions g h) (bit_or s t) (mem_unions g h s t m n)

-- x is the union of a term of g with a term of h
abbrev pub Union : List ℕ → List ℕ → ℕ → Type 0
Union g h x = (s : ℕ) × (t : ℕ) × Mem g s × Mem h t × (x ≡ bit_or s t)

pub unions_mem : (g h : List ℕ) (x : ℕ) → Mem (unions g h) x → Union g h x
unfolding unions
unions_mem [] h x m = absurd m
unions_mem (r ∷ g) h x m =
    ⊎_elim (λ n. let u = mem_map_from (bit_or r) h x n in (r, u.0, inl refl, u.1, u.2))
    (λ n. let u = unions_mem g h x n in (u.0, u.1, inr u.2, u.3, u.4))
    (mem_append (map (bit_or r) h) (unions g h) x m)

pub mem_times : (g h : List ℕ) (s t : ℕ) → Mem g s → Mem h t → Mem (times g h) (bit_or s t)
unfolding times
mem_times g h s t m n = mem_collect (unions g h) (bit_or s t) (mem_unions g h s t m n)

-- the same for a term that is such a union
pub union_times : (g h : List ℕ) (x : ℕ) → Union g h x → Mem (times g h) x
union_times g h x u =
    mem_subst (times g h) (bit_or u.0 u.1) x (sym u.4) (mem_times g h u.0 u.1 u.2 u.3)

pub times_mem : (g h : List ℕ) (x : ℕ) → Mem (times g h) x → Union g h x
unfolding times
times_mem g h x m = unions_mem g h x (collect_mem (unions g h) x m)

pub times_asc : (g h : List ℕ) → Asc (times g h)
unfolding times
times_asc g h = collect_asc (unions g h)

-- an ascending list whose terms are the unions is the product
pub times_by_mem : (g h f : List ℕ) → Asc f → ((x : ℕ) → Mem f x → Union g h x) → ((x : ℕ) → Union g h x → Mem f x) → f ≡ times g h
times_by_mem g h f a on back =
    asc_ext f (times g h) a (times_asc g h) (λ x m. union_times g h x (on x m)) (λ x m. back x (times_mem g h x m))

-- ---- variables

pub vars_nil : vars [] ≡ 0
unfolding vars
vars_nil = refl

pub vars_cons : (t : ℕ) (f : List ℕ) → vars (t ∷ f) ≡ bit_or t (vars f)
unfolding vars
vars_cons t f = refl

pub vars_one : vars (0 ∷ []) ≡ 0
unfolding vars
vars_one = refl

-- every term lies in the variables
pub vars_hold : (f : List ℕ) (t : ℕ) → Mem f t → bit_and t (vars f) ≡ t
unfolding vars
vars_hold [] t m = absurd m
vars_hold (s ∷ f) t (inl e) =
    ap₂ bit_and e refl ∙ identity 2 (λ s v. ∴ s ⊆ s ∪ v) tt s (vars f) ∙ sym e
vars_hold (s ∷ f) t (inr m) =
    identity 3 (λ t s v. t ⊆ v ⇒ ∴ t ⊆ s ∪ v) tt t s (vars f) (vars_hold f t m)

-- the variables are the least set in which every term lies
pub vars_least : (f : List ℕ) (y : ℕ) → ((t : ℕ) → Mem f t → bit_and t y ≡ t) → bit_and (vars f) y ≡ vars f
unfolding vars
vars_least [] y h = and_zero_l y
vars_least (s ∷ f) y h =
    identity 3 (λ s v y. s ⊆ y ⇒ v ⊆ y ⇒ ∴ s ∪ v ⊆ y) tt s (vars f) y
    (h s (inl refl)) (vars_least f y (λ t m. h t (inr m)))

-- a variable stands in some term
pub vars_bit : (f : List ℕ) (i : ℕ) → bit (vars f) i ≡ true → (t : ℕ) × Mem f t × (bit t i ≡ true)
unfolding vars
vars_bit [] i e = absurd (true≢false (sym e ∙ bit_zero i))
vars_bit (s ∷ f) i e = go (bit s i) refl (λ b. vars_bit f i b)
  where
    go : (p : Bool) → bit s i ≡ p → (bit (vars f) i ≡ true → (t : ℕ) × Mem f t × (bit t i ≡ true)) → (t : ℕ) × Mem (s ∷ f) t × (bit t i ≡ true)
    go true p rest = (s, inl refl, p)
    go false p rest =
        let r = rest (sym (ap (λ b. b || bit (vars f) i) p) ∙ sym (bit_or_lem s (vars f) i) ∙ e) in
        (r.0, inr r.1, r.2)

-- lists with the same members have the same variables
pub vars_ext : (f g : List ℕ) → ((x : ℕ) → Mem f x → Mem g x) → ((x : ℕ) → Mem g x → Mem f x) → vars f ≡ vars g
vars_ext f g on back =
    identity 2 (λ v w. v ⊆ w ⇒ w ⊆ v ⇒ ∴ v ≐ w) tt (vars f) (vars g)
    (vars_least f (vars g) (λ t m. vars_hold g t (on t m)))
    (vars_least g (vars f) (λ t m. vars_hold f t (back t m)))

-- the variables are y if every term lies in y and y lies in every set in which every term lies
pub vars_by_least : (f : List ℕ) (y : ℕ) → ((t : ℕ) → Mem f t → bit_and t y ≡ t) → bit_and y (vars f) ≡ y → vars f ≡ y
vars_by_least f y h k = identity 2 (λ v y. v ⊆ y ⇒ y ⊆ v ⇒ ∴ v ≐ y) tt (vars f) y (vars_least f y h) k

pub vars_onto : (y : ℕ) (f : List ℕ) → vars (onto y f) ≡ bit_and (vars f) y
vars_onto y f = vars_by_least (onto y f) (bit_and (vars f) y) (λ x m. inside x (onto_mem y f x m)) covered
  where
    inside : (x : ℕ) → (t : ℕ) × Mem f t × (x ≡ bit_and t y) → bit_and x (bit_and (vars f) y) ≡ x
    inside x u =
        identity 4 (λ x t v y. x ≐ t ∩ y ⇒ t ⊆ v ⇒ ∴ x ⊆ v ∩ y) tt x u.0 (vars f) y u.2 (vars_hold f u.0 u.1)

    term : (t : ℕ) → Mem f t → bit_and t (bit_or (vars (onto y f)) (without y t)) ≡ t
    term t m =
        identity 3 (λ t w y. t ∩ y ⊆ w ⇒ ∴ t ⊆ w ∪ t ∖ y) tt t (vars (onto y f)) y (vars_hold (onto y f) (bit_and t y) (mem_onto y f t m))

    outside : (t : ℕ) → Mem f t → bit_and t (bit_or (vars (onto y f)) (without y (vars f))) ≡ t
    outside t m =
        identity 4 (λ t v w y. t ⊆ v ⇒ t ⊆ w ∪ t ∖ y ⇒ ∴ t ⊆ w ∪ v ∖ y) tt t (vars f) (vars (onto y f)) y (vars_hold f t m) (term t m)

    covered : bit_and (bit_and (vars f) y) (vars (onto y f)) ≡ bit_and (vars f) y
    covered =
        identity 3 (λ v w y. v ⊆ w ∪ v ∖ y ⇒ ∴ v ∩ y ⊆ w) tt (vars f) (vars (onto y f)) y
        (vars_least f (bit_or (vars (onto y f)) (without y (vars f))) outside)

pub vars_off : (y : ℕ) (f : List ℕ) → vars (off y f) ≡ without y (vars f)
vars_off y f = vars_by_least (off y f) (without y (vars f)) (λ x m. inside x (off_mem y f x m)) covered
  where
    inside : (x : ℕ) → (t : ℕ) × Mem f t × (x ≡ without y t) → bit_and x (without y (vars f)) ≡ x
    inside x u =
        identity 4 (λ x t v y. x ≐ t ∖ y ⇒ t ⊆ v ⇒ ∴ x ⊆ v ∖ y) tt x u.0 (vars f) y u.2 (vars_hold f u.0 u.1)

    outside : (t : ℕ) → Mem f t → bit_and t (bit_or (vars (off y f)) y) ≡ t
    outside t m =
        identity 3 (λ t w y. t ∖ y ⊆ w ⇒ ∴ t ⊆ w ∪ y) tt t (vars (off y f)) y (vars_hold (off y f) (without y t) (mem_off y f t m))

    covered : bit_and (without y (vars f)) (vars (off y f)) ≡ without y (vars f)
    covered =
        identity 3 (λ v w y. v ⊆ w ∪ y ⇒ ∴ v ∖ y ⊆ w) tt (vars f) (vars (off y f)) y (vars_least f (bit_or (vars (off y f)) y) outside)

-- the variables of a product that is not zero are those of both
pub vars_times : (g h : List ℕ) (p q : ℕ) → Mem g p → Mem h q → vars (times g h) ≡ bit_or (vars g) (vars h)
vars_times g h p q mp mq =
    vars_by_least (times g h) (bit_or (vars g) (vars h)) (λ x m. inside x (times_mem g h x m))
    (identity 3 (λ v w u. v ⊆ u ⇒ w ⊆ u ⇒ ∴ v ∪ w ⊆ u) tt (vars g) (vars h) (vars (times g h))
    (vars_least g (vars (times g h)) left) (vars_least h (vars (times g h)) right))
  where
    inside : (x : ℕ) → Union g h x → bit_and x (bit_or (vars g) (vars h)) ≡ x
    inside x u =
        identity 5 (λ x s t v w. x ≐ s ∪ t ⇒ s ⊆ v ⇒ t ⊆ w ⇒ ∴ x ⊆ v ∪ w) tt x u.0 u.1 (vars g) (vars h)
        u.4 (vars_hold g u.0 u.2) (vars_hold h u.1 u.3)

    left : (s : ℕ) → Mem g s → bit_and s (vars (times g h)) ≡ s
    left s m =
        identity 3 (λ s q u. s ∪ q ⊆ u ⇒ ∴ s ⊆ u) tt s q (vars (times g h)) (vars_hold (times g h) (bit_or s q) (mem_times g h s q m mq))

    right : (t : ℕ) → Mem h t → bit_and t (vars (times g h)) ≡ t
    right t m =
        identity 3 (λ p t u. p ∪ t ⊆ u ⇒ ∴ t ⊆ u) tt p t (vars (times g h)) (vars_hold (times g h) (bit_or p t) (mem_times g h p t mp m))

-- ---- no common variable

pub apart_sym : (g h : List ℕ) → Apart g h → Apart h g
apart_sym g h = identity 2 (λ v w. apart v w ⇒ ∴ apart w v) tt (vars g) (vars h)

pub apart_terms : (g h : List ℕ) (s t : ℕ) → Apart g h → Mem g s → Mem h t → bit_and s t ≡ 0
apart_terms g h s t a m n =
    identity 4 (λ s t v w. apart v w ⇒ s ⊆ v ⇒ t ⊆ w ⇒ ∴ apart s t) tt s t (vars g) (vars h) a (vars_hold g s m) (vars_hold h t n)

-- lists whose members stand in g and h are apart where g and h are
pub apart_sub : (g h a b : List ℕ) → ((x : ℕ) → Mem a x → Mem g x) → ((x : ℕ) → Mem b x → Mem h x) → Apart g h → Apart a b
apart_sub g h a b f k p =
    identity 4 (λ v w x y. apart v w ⇒ x ⊆ v ⇒ y ⊆ w ⇒ ∴ apart x y) tt (vars g) (vars h) (vars a) (vars b) p
    (vars_least a (vars g) (λ t m. vars_hold g t (f t m))) (vars_least b (vars h) (λ t m. vars_hold h t (k t m)))

-- where nothing is shared the union is the sum
pub union_is_sum : (g h : List ℕ) (s t : ℕ) → Apart g h → Mem g s → Mem h t → bit_or s t ≡ s + t
union_is_sum g h s t a m n = or_disjoint s t (apart_terms g h s t a m n)

-- and tells its two terms
pub union_tells_left : (g h : List ℕ) (s t s' t' : ℕ) → Apart g h → Mem g s → Mem h t → Mem g s' → Mem h t' → bit_or s t ≡ bit_or s' t' → s ≡ s'
union_tells_left g h s t s' t' a m n m' n' e =
    identity 6 (λ s t p q v w. apart v w ⇒ s ⊆ v ⇒ t ⊆ w ⇒ p ⊆ v ⇒ q ⊆ w ⇒ s ∪ t ≐ p ∪ q ⇒ ∴ s ≐ p) tt s t s' t' (vars g) (vars h)
    a (vars_hold g s m) (vars_hold h t n) (vars_hold g s' m') (vars_hold h t' n') e

pub union_tells_right : (g h : List ℕ) (s t s' t' : ℕ) → Apart g h → Mem g s → Mem h t → Mem g s' → Mem h t' → bit_or s t ≡ bit_or s' t' → t ≡ t'
union_tells_right g h s t s' t' a m n m' n' e =
    union_tells_left h g t s t' s' (apart_sym g h a) n m n' m' (or_comm t s ∙ e ∙ or_comm s' t')

-- ---- the algebra of the product

pub times_comm : (g h : List ℕ) → times g h ≡ times h g
times_comm g h = times_by_mem h g (times g h) (times_asc g h) (λ x m. swap g h x (times_mem g h x m)) (λ x u. union_times g h x (swap h g x u))
  where
    swap : (a b : List ℕ) (x : ℕ) → Union a b x → Union b a x
    swap a b x u = (u.1, u.0, u.3, u.2, u.4 ∙ or_comm u.0 u.1)

pub times_assoc : (f g h : List ℕ) → times (times f g) h ≡ times f (times g h)
times_assoc f g h =
    times_by_mem f (times g h) (times (times f g) h) (times_asc (times f g) h) (λ x m. on x (times_mem (times f g) h x m))
    (λ x u. union_times (times f g) h x (back x u))
  where
    on : (x : ℕ) → Union (times f g) h x → Union f (times g h) x
    on x u =
        let w = times_mem f g u.0 u.2 in (
          w.0,
          bit_or w.1 u.1,
          w.2,
          mem_times g h w.1 u.1 w.3 u.3,
          u.4 ∙ ap (λ (z : ℕ). bit_or z u.1) w.4 ∙ identity 3 (λ a b c. ∴ a ∪ b ∪ c ≐ a ∪ (b ∪ c)) tt w.0 w.1 u.1,
        )

    back : (x : ℕ) → Union f (times g h) x → Union (times f g) h x
    back x u =
        let w = times_mem g h u.1 u.3 in (
          bit_or u.0 w.0,
          w.1,
          mem_times f g u.0 w.0 u.2 w.2,
          w.3,
          u.4 ∙ ap (λ (z : ℕ). bit_or u.0 z) w.4 ∙ identity 3 (λ a b c. ∴ a ∪ (b ∪ c) ≐ a ∪ b ∪ c) tt u.0 w.0 w.1,
        )

pub times_zero_left : (h : List ℕ) → times [] h ≡ []
unfolding times unions collect
times_zero_left h = refl

pub times_zero_right : (g : List ℕ) → times g [] ≡ []
times_zero_right g = times_comm g [] ∙ times_zero_left g

-- one term times an ascending list
pub times_term : (t : ℕ) (h : List ℕ) → Asc (map (bit_or t) h) → times (t ∷ []) h ≡ map (bit_or t) h
times_term t h a =
    sym (times_by_mem (t ∷ []) h (map (bit_or t) h) a
    (λ x m. let u = mem_map_from (bit_or t) h x m in (t, u.0, inl refl, u.1, u.2))
    (λ x u. ⊎_elim
    (λ e. mem_subst (map (bit_or t) h) (bit_or t u.1) x (ap (λ (z : ℕ). bit_or z u.1) (sym e) ∙ sym u.4) (mem_map (bit_or t) h u.1 u.3))
    (λ c. absurd c) u.2))

-- the constant one changes nothing
pub times_one_left : (h : List ℕ) → Asc h → times (0 ∷ []) h ≡ h
times_one_left h a = times_term 0 h (subst Asc (sym (same h)) a) ∙ same h
  where
    same : (l : List ℕ) → map (bit_or 0) l ≡ l
    same [] = refl
    same (x ∷ l) = ap₂ (λ (z : ℕ) (k : List ℕ). z ∷ k) (or_zero_l x) (same l)

pub times_one_right : (g : List ℕ) → Asc g → times g (0 ∷ []) ≡ g
times_one_right g a = times_comm g (0 ∷ []) ∙ times_one_left g a
