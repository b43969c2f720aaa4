-- A text from its pieces (RULES 12.1): pieces with a sign between them are those before the last, each with the sign behind it, and the
-- last. So a text can be told by what its last term and its last variable are, which is how a reader meets it. Assumes nothing.
use Prim.Native.Nat.{ℕ, ◌+◌, ◌*◌, ◌/◌, ◌%◌, ◌≤◌, ◌<◌}
use native.Mathlib.Omega.{arith}
use mathlib.Core.Path.{◌≡◌, refl, sym, ap, ap₂, ◌∙◌}
use mathlib.Core.List.{List, [], ◌∷◌, ◌++◌, map, map-append, append_assoc, eq-nil-or-concat, concat-eq-append}
use mathlib.Core.Logic.{◌⊎◌, inl, inr, ⊎_elim}
use borrow.Author.Tests.{lt-ltb, le-ltb}
use Rattle.typed.specs.Form.{letter, star, plus, feed, digit, name, joined, term_text, text_of, Named, AllNamed}
use Rattle.typed.specs.Shown.{opened}

-- ---- pieces

-- pieces, each with the sign behind it
unfoldable pub closed : ℕ → List (List ℕ) → List ℕ
closed sign [] = []
closed sign (p ∷ ps) = p ++ sign ∷ closed sign ps

-- the variables of a term, each with the `*` behind it
abbrev pub starred : List ℕ → List ℕ
starred vs = closed star (map name vs)

-- one piece more, with its sign
closed_last : (sign : ℕ) (ps : List (List ℕ)) (p : List ℕ) → closed sign (ps ++ p ∷ []) ≡ closed sign ps ++ p ++ sign ∷ []
unfolding closed
closed_last sign [] p = refl
closed_last sign (q ∷ ps) p = rw (closed_last sign ps p) (simp append_assoc)

-- pieces with a sign between them: all but the last, each with its sign, and the last
joined_last : (sign : ℕ) (ps : List (List ℕ)) (p : List ℕ) → joined sign (ps ++ p ∷ []) ≡ closed sign ps ++ p
unfolding closed joined
joined_last sign [] p = refl
joined_last sign (q ∷ []) p = simp append_assoc
joined_last sign (q ∷ r ∷ ps) p = rw (joined_last sign (r ∷ ps) p) (simp append_assoc)

-- terms with their `+` are such pieces
opened_closed : (ts : List (List ℕ)) → opened ts ≡ closed plus (map term_text ts)
unfolding opened closed
opened_closed [] = refl
opened_closed (t ∷ ts) = ap (λ l. term_text t ++ plus ∷ l) (opened_closed ts)

-- ---- by the last term and the last variable

-- a list is empty or has a last element
pub last_of : {A : Type 0} (l : List A) → (l ≡ []) ⊎ ((k : List A) × (a : A) × (l ≡ k ++ a ∷ []))
last_of l = ⊎_elim inl (λ w. inr (w.0, w.1, w.2 ∙ concat-eq-append w.0 w.1)) (eq-nil-or-concat l)

-- one variable more, with its `*`
pub starred_last : (vs : List ℕ) (v : ℕ) → starred (vs ++ v ∷ []) ≡ starred vs ++ name v ++ star ∷ []
starred_last vs v = ap (closed star) (map-append name vs (v ∷ [])) ∙ closed_last star (map name vs) (name v)

-- one term more, with its `+`
pub opened_last : (ts : List (List ℕ)) (t : List ℕ) → opened (ts ++ t ∷ []) ≡ opened ts ++ term_text t ++ plus ∷ []
opened_last ts t =
    opened_closed (ts ++ t ∷ []) ∙ ap (closed plus) (map-append term_text ts (t ∷ [])) ∙ closed_last plus (map term_text ts) (term_text t)
    ∙ ap (λ l. l ++ term_text t ++ plus ∷ []) (sym (opened_closed ts))

-- a term: its variables before the last, each with its `*`, and the last
pub term_last : (vs : List ℕ) (v : ℕ) → term_text (vs ++ v ∷ []) ≡ starred vs ++ name v
term_last vs v = whole vs ∙ ap (joined star) (map-append name vs (v ∷ [])) ∙ joined_last star (map name vs) (name v)
  where
    whole : (us : List ℕ) → term_text (us ++ v ∷ []) ≡ joined star (map name (us ++ v ∷ []))
    whole [] = unfold term_text in refl
    whole (u ∷ us) = unfold term_text in refl

-- an equation: its terms before the last, each with its `+`, the last, and a line feed
pub text_last : (ts : List (List ℕ)) (t : List ℕ) → text_of (ts ++ t ∷ []) ≡ opened ts ++ term_text t ++ feed ∷ []
text_last ts t =
    whole ts
    ∙ ap (λ l. l ++ feed ∷ [])
    (ap (joined plus) (map-append term_text ts (t ∷ [])) ∙ joined_last plus (map term_text ts) (term_text t)
    ∙ ap (λ l. l ++ term_text t) (sym (opened_closed ts)))
  where
    whole : (us : List (List ℕ)) → text_of (us ++ t ∷ []) ≡ joined plus (map term_text (us ++ t ∷ [])) ++ feed ∷ []
    whole [] = unfold text_of in refl
    whole (u ∷ us) = unfold text_of in refl

-- ---- numbers

-- a number of one digit
pub name_one : (d : ℕ) → d < 10 → name d ≡ letter ∷ digit d ∷ []
name_one d h = rw (lt-ltb d 10 h)

-- a number of two
pub name_two : (v : ℕ) → 10 ≤ v → name v ≡ letter ∷ digit (v / 10) ∷ digit (v % 10) ∷ []
name_two v h = rw (le-ltb v 10 h)

-- a digit behind a digit that is not 0
pub name_more : (n d : ℕ) → 0 < n → n < 10 → d < 10 → name (10 * n + d) ≡ name n ++ digit d ∷ []
name_more n d h k l =
    name_two (10 * n + d) (omega arith) ∙ ap₂ (λ a b. letter ∷ digit a ∷ digit b ∷ []) tens ones
    ∙ ap (λ s. s ++ digit d ∷ []) (sym (name_one n k))
  where
    tens : (10 * n + d) / 10 ≡ n
    tens = omega arith

    ones : (10 * n + d) % 10 ≡ d
    ones = omega arith

-- ---- names

-- the variables of two lists are named if those of both are
pub named_append : (vars : ℕ) (a b : List ℕ) → Named vars a → Named vars b → Named vars (a ++ b)
named_append vars [] b h k = k
named_append vars (v ∷ a) b h k = (h.0, named_append vars a b h.1 k)

-- and those of two lists of terms
pub all_named_append : (vars : ℕ) (a b : List (List ℕ)) → AllNamed vars a → AllNamed vars b → AllNamed vars (a ++ b)
all_named_append vars [] b h k = k
all_named_append vars (t ∷ a) b h k = (h.0, all_named_append vars a b h.1 k)

-- the variables before the last are named, and so is the last
pub named_last : (vars : ℕ) (vs : List ℕ) (v : ℕ) → Named vars (vs ++ v ∷ []) → Named vars vs × (v < vars)
named_last vars [] v h = (tt, h.0)
named_last vars (u ∷ vs) v h = let r = named_last vars vs v h.1 in ((h.0, r.0), r.1)

-- and the terms before the last, and the last
pub all_named_last : (vars : ℕ) (ts : List (List ℕ)) (t : List ℕ) → AllNamed vars (ts ++ t ∷ []) → AllNamed vars ts × Named vars t
all_named_last vars [] t h = (tt, h.0)
all_named_last vars (u ∷ ts) t h = let r = all_named_last vars ts t h.1 in ((h.0, r.0), r.1)
