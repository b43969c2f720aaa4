-- What stays of an equation as written where its terms, or the variables of its terms, are put in another order: its variables are those that
-- there are, none stands in its term twice, and it has as many terms and bytes. Assumes nothing.
use Prim.Native.Nat.{ℕ, suc, ◌+◌, ◌≤◌}
use mathlib.Core.Path.{◌≡◌, refl, sym, ap, ap₂, ◌∙◌}
use mathlib.Core.List.{List, [], ◌∷◌, ◌++◌, map}
use mathlib.Core.Logic.{inl, inr}
use native.Mathlib.Nat.{add-zero}
use native.Mathlib.Omega.{arith}
use lib.ListN.{length, length-append}
use Rattle.polys.specs.List.{Mem}
use Rattle.typed.specs.Form.{star, plus, feed, name, joined, term_text, text_of, Named, AllNamed}
use Rattle.typed.specs.Distinct.{Distinct, AllDistinct}
use Rattle.typed.specs.Order.{Rearranged, same, exchanged, EachRearranged}

-- what outlasts the exchange of two neighbours outlasts any other order
carried : {A : Type 0} (P : List A → Type 0) → ((a : List A) (x y : A) (b : List A) → P (a ++ x ∷ y ∷ b) → P (a ++ y ∷ x ∷ b))
    → {l m : List A} → Rearranged l m → P l → P m
carried P step same p = p
carried P step (exchanged a x y b r) p = step a x y b (carried P step r p)

-- ---- the variables

named_exchanged : (vars : ℕ) (a : List ℕ) (x y : ℕ) (b : List ℕ) → Named vars (a ++ x ∷ y ∷ b) → Named vars (a ++ y ∷ x ∷ b)
named_exchanged vars [] x y b (p, (q, r)) = (q, (p, r))
named_exchanged vars (v ∷ a) x y b (p, r) = (p, named_exchanged vars a x y b r)

all_named_exchanged : (vars : ℕ) (a : List (List ℕ)) (x y : List ℕ) (b : List (List ℕ)) → AllNamed vars (a ++ x ∷ y ∷ b) → AllNamed vars (a ++ y ∷ x ∷ b)
all_named_exchanged vars [] x y b (p, (q, r)) = (q, (p, r))
all_named_exchanged vars (t ∷ a) x y b (p, r) = (p, all_named_exchanged vars a x y b r)

mem_exchanged : (a : List ℕ) (x y : ℕ) (b : List ℕ) (v : ℕ) → Mem (a ++ x ∷ y ∷ b) v → Mem (a ++ y ∷ x ∷ b) v
mem_exchanged [] x y b v (inl e) = inr (inl e)
mem_exchanged [] x y b v (inr (inl e)) = inl e
mem_exchanged [] x y b v (inr (inr m)) = inr (inr m)
mem_exchanged (w ∷ a) x y b v (inl e) = inl e
mem_exchanged (w ∷ a) x y b v (inr m) = inr (mem_exchanged a x y b v m)

distinct_exchanged : (a : List ℕ) (x y : ℕ) (b : List ℕ) → Distinct (a ++ x ∷ y ∷ b) → Distinct (a ++ y ∷ x ∷ b)
distinct_exchanged [] x y b (p, (q, r)) = (no_more, ((λ m. p (inr m)), r))
  where
    no_more : ¬ Mem (x ∷ b) y
    no_more (inl e) = p (inl (sym e))
    no_more (inr m) = q m
distinct_exchanged (v ∷ a) x y b (p, r) = ((λ m. p (mem_exchanged a y x b v m)), distinct_exchanged a x y b r)

all_distinct_exchanged : (a : List (List ℕ)) (x y : List ℕ) (b : List (List ℕ)) → AllDistinct (a ++ x ∷ y ∷ b) → AllDistinct (a ++ y ∷ x ∷ b)
all_distinct_exchanged [] x y b (p, (q, r)) = (q, (p, r))
all_distinct_exchanged (t ∷ a) x y b (p, r) = (p, all_distinct_exchanged a x y b r)

-- ---- how many bytes

-- the bytes of pieces, each with one behind it
abbrev total : List (List ℕ) → ℕ
total [] = 0
total (p ∷ ps) = suc (length p) + total ps

-- with a sign between them they have one less
joined_total : (sign : ℕ) (p : List ℕ) (ps : List (List ℕ)) → suc (length (joined sign (p ∷ ps))) ≡ total (p ∷ ps)
unfolding joined
joined_total sign p [] = sym (add-zero (suc (length p)))
joined_total sign p (q ∷ ps) = omega (arith, length-append p (sign ∷ joined sign (q ∷ ps)), joined_total sign q ps)

total_exchanged : (f : List ℕ → List ℕ) (n : ℕ) (a : List (List ℕ)) (x y : List ℕ) (b : List (List ℕ)) → total (map f (a ++ x ∷ y ∷ b)) ≡ n
    → total (map f (a ++ y ∷ x ∷ b)) ≡ n
total_exchanged f n a x y b e = sym (turn a) ∙ e
  where
    turn : (a : List (List ℕ)) → total (map f (a ++ x ∷ y ∷ b)) ≡ total (map f (a ++ y ∷ x ∷ b))
    turn [] = omega arith
    turn (t ∷ a) = ap (λ (k : ℕ). suc (length (f t)) + k) (turn a)

-- a term has as many bytes in another order of its variables,
term_total : (v : ℕ) (vs : List ℕ) → suc (length (term_text (v ∷ vs))) ≡ total (map name (v ∷ vs))
unfolding term_text
term_total v vs = joined_total star (name v) (map name vs)

names_exchanged : (n : ℕ) (a : List ℕ) (x y : ℕ) (b : List ℕ) → total (map name (a ++ x ∷ y ∷ b)) ≡ n → total (map name (a ++ y ∷ x ∷ b)) ≡ n
names_exchanged n a x y b e = sym (turn a) ∙ e
  where
    turn : (a : List ℕ) → total (map name (a ++ x ∷ y ∷ b)) ≡ total (map name (a ++ y ∷ x ∷ b))
    turn [] = omega arith
    turn (v ∷ a) = ap (λ (k : ℕ). suc (length (name v)) + k) (turn a)

length_exchanged : {A : Type 0} (n : ℕ) (a : List A) (x y : A) (b : List A) → length (a ++ x ∷ y ∷ b) ≡ n → length (a ++ y ∷ x ∷ b) ≡ n
length_exchanged n a x y b e = length-append a (y ∷ x ∷ b) ∙ sym (length-append a (x ∷ y ∷ b)) ∙ e

pub length_rearranged : {A : Type 0} {l m : List A} → Rearranged l m → length m ≡ length l
length_rearranged {A} {l} {m} r = carried (λ k. length k ≡ length l) (length_exchanged (length l)) r refl

pub term_rearranged : (t u : List ℕ) → Rearranged t u → length (term_text u) ≡ length (term_text t)
term_rearranged [] [] r = refl
term_rearranged [] (v ∷ u) r = absurd (let x : ⊥ = omega (arith, length_rearranged r) in x)
term_rearranged (v ∷ t) [] r = absurd (let x : ⊥ = omega (arith, length_rearranged r) in x)
term_rearranged (v ∷ t) (w ∷ u) r =
    let e = carried (λ l. total (map name l) ≡ total (map name (v ∷ t))) (names_exchanged (total (map name (v ∷ t)))) r refl in
    omega (arith, e, term_total v t, term_total w u)

-- and an equation in another order of its terms
text_total : (t : List ℕ) (ts : List (List ℕ)) → length (text_of (t ∷ ts)) ≡ total (map term_text (t ∷ ts))
unfolding text_of
text_total t ts = omega (arith, length-append (joined plus (map term_text (t ∷ ts))) (feed ∷ []), joined_total plus (term_text t) (map term_text ts))

text_rearranged : (ts us : List (List ℕ)) → Rearranged ts us → length (text_of us) ≡ length (text_of ts)
text_rearranged [] [] r = refl
text_rearranged [] (u ∷ us) r = absurd (let x : ⊥ = omega (arith, length_rearranged r) in x)
text_rearranged (t ∷ ts) [] r = absurd (let x : ⊥ = omega (arith, length_rearranged r) in x)
text_rearranged (t ∷ ts) (u ∷ us) r =
    text_total u us
    ∙ carried (λ l. total (map term_text l) ≡ total (map term_text (t ∷ ts))) (total_exchanged term_text (total (map term_text (t ∷ ts)))) r refl
    ∙ sym (text_total t ts)

-- ---- an equation in which both are put in another order

-- of an equation as written: what the reader asks of it
pub record Fit (vars most longest : ℕ) (ts : List (List ℕ)) : Type 0 where
  pub named : AllNamed vars ts
  pub distinct : AllDistinct ts
  pub few : length ts ≤ most
  pub short : length (text_of ts) ≤ longest

module _ (vars most longest : ℕ) where
  fit_each : (ts us : List (List ℕ)) → EachRearranged ts us → Fit vars most longest ts → Fit vars most longest us
  fit_each ts us r f =
      record {
        named = names ts us r f.named;
        distinct = apart ts us r f.distinct;
        few = omega (arith, f.few, counts ts us r);
        short = omega (arith, f.short, sizes ts us r);
      }
    where
      names : (ts us : List (List ℕ)) → EachRearranged ts us → AllNamed vars ts → AllNamed vars us
      names [] [] r n = tt
      names [] (u ∷ us) r n = elim r [ ]
      names (t ∷ ts) [] r n = elim r [ ]
      names (t ∷ ts) (u ∷ us) r n = (carried (Named vars) (named_exchanged vars) r.0 n.0, names ts us r.1 n.1)

      apart : (ts us : List (List ℕ)) → EachRearranged ts us → AllDistinct ts → AllDistinct us
      apart [] [] r n = tt
      apart [] (u ∷ us) r n = elim r [ ]
      apart (t ∷ ts) [] r n = elim r [ ]
      apart (t ∷ ts) (u ∷ us) r n = (carried Distinct distinct_exchanged r.0 n.0, apart ts us r.1 n.1)

      counts : (ts us : List (List ℕ)) → EachRearranged ts us → length us ≡ length ts
      counts [] [] r = refl
      counts [] (u ∷ us) r = elim r [ ]
      counts (t ∷ ts) [] r = elim r [ ]
      counts (t ∷ ts) (u ∷ us) r = ap suc (counts ts us r.1)

      totals : (ts us : List (List ℕ)) → EachRearranged ts us → total (map term_text us) ≡ total (map term_text ts)
      totals [] [] r = refl
      totals [] (u ∷ us) r = elim r [ ]
      totals (t ∷ ts) [] r = elim r [ ]
      totals (t ∷ ts) (u ∷ us) r = ap₂ (λ (m n : ℕ). suc m + n) (term_rearranged t u r.0) (totals ts us r.1)

      sizes : (ts us : List (List ℕ)) → EachRearranged ts us → length (text_of us) ≡ length (text_of ts)
      sizes [] [] r = refl
      sizes [] (u ∷ us) r = elim r [ ]
      sizes (t ∷ ts) [] r = elim r [ ]
      sizes (t ∷ ts) (u ∷ us) r = text_total u us ∙ totals (t ∷ ts) (u ∷ us) r ∙ sym (text_total t ts)

  -- it fits in any order
  pub fit_rearranged : (ts vs us : List (List ℕ)) → EachRearranged ts vs → Rearranged vs us → Fit vars most longest ts → Fit vars most longest us
  fit_rearranged ts vs us each order f =
      let g = fit_each ts vs each f in
      record {
        named = carried (AllNamed vars) (all_named_exchanged vars) order g.named;
        distinct = carried AllDistinct all_distinct_exchanged order g.distinct;
        few = omega (arith, g.few, length_rearranged order);
        short = omega (arith, g.short, text_rearranged vs us order);
      }
