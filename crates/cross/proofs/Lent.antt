-- Where a list is cut: its parts are its halves, and what is asked of the halves is asked of the list.
use mathlib.Core.Path.{◌≡◌, sym, ap, ap₂, ◌∙◌, subst}
use mathlib.Core.Bool.{Bool}
use mathlib.Core.List.{List, ◌++◌}
use Prim.Native.Nat.{ℕ, suc, ◌<◌}
use lib.ListN.{length, take, drop, length-append}
use Rattle.ring.specs.Same.{SameProducts}
use Rattle.ring.specs.Run.{Run, Cut, Decides, lacking, holding}
use Rattle.ring.specs.Ends.{Four}
use Rattle.ring.proofs.Runs.{take_cut, drop_cut}
use Rattle.cross.specs.Asked.{Halved, Halves, Joined}

-- l₀ and l₁ are what l has without and with variable k
pub record Parts (k : ℕ) (l l₀ l₁ : List ℕ) : Type 0 where
  pub low : l₀ ≡ lacking k l
  pub high : l₁ ≡ holding k l

-- the parts of a list before and from the cut on
pub parts_at : {k : ℕ} {l l₀ l₁ : List ℕ} (i : ℕ) → Cut k l → i ≡ length (lacking k l) → l₀ ≡ take i l → l₁ ≡ drop i l → Parts k l l₀ l₁
parts_at {k} {l} i c e p q =
    record { low = p ∙ ap (λ (n : ℕ). take n l) e ∙ take_cut k l c; high = q ∙ ap (λ (n : ℕ). drop n l) e ∙ drop_cut k l c }

whole : {k : ℕ} {l l₀ l₁ : List ℕ} → Cut k l → Parts k l l₀ l₁ → l₀ ++ l₁ ≡ l
whole c p = ap₂ ◌++◌ p.low p.high ∙ sym c

halved_of : {k : ℕ} {l l₀ l₁ : List ℕ} → Run (suc k) l → 0 < length l → Parts k l l₀ l₁ → Halved k l₀ l₁
halved_of {k} {l} {l₀} {l₁} r some p =
    let all = whole r.0 p in record {
      low = ap (lacking k) all ∙ sym p.low;
      high = ap (holding k) all ∙ sym p.high;
      run_low = subst (Run k) (sym p.low) r.1;
      run_high = subst (Run k) (sym p.high) r.2;
      some = subst (λ (n : ℕ). 0 < n) (ap length (sym all) ∙ length-append l₀ l₁) some;
    }

-- four lists and the parts of each
pub record Cuts (k : ℕ) (a d b c a₀ a₁ d₀ d₁ b₀ b₁ c₀ c₁ : List ℕ) : Type 0 where
  pub four : Four (suc k) a d b c
  pub of_a : Parts k a a₀ a₁
  pub of_d : Parts k d d₀ d₁
  pub of_b : Parts k b b₀ b₁
  pub of_c : Parts k c c₀ c₁

module _ {k : ℕ} {a d b c a₀ a₁ d₀ d₁ b₀ b₁ c₀ c₁ : List ℕ} (x : Cuts k a d b c a₀ a₁ d₀ d₁ b₀ b₁ c₀ c₁) where
  pub halves_lent : Halves k a₀ a₁ d₀ d₁ b₀ b₁ c₀ c₁
  halves_lent = record {
    of_a = halved_of x.four.run_a x.four.some_a x.of_a;
    of_d = halved_of x.four.run_d x.four.some_d x.of_d;
    of_b = halved_of x.four.run_b x.four.some_b x.of_b;
    of_c = halved_of x.four.run_c x.four.some_c x.of_c;
  }

  pub same_of_lent : (r : Bool) → Decides r (Joined k a₀ a₁ d₀ d₁ b₀ b₁ c₀ c₁) → Decides r (SameProducts (suc k) a d b c)
  same_of_lent r h =
      rw (
        whole x.four.run_a.0 x.of_a,
        whole x.four.run_d.0 x.of_d,
        whole x.four.run_b.0 x.of_b,
        whole x.four.run_c.0 x.of_c,
      )
      at h
