-- What the four-list test and the cross test may ask of the lists that they hand on: runs, and halves of runs.
use Rattle.std.specs.Prelude.{ℕ, suc, ◌+◌, ◌<◌, ◌≡◌, List, ◌++◌, length}
use Rattle.ring.specs.Same.{SameProducts}
use Rattle.ring.specs.Run.{lacking, holding, Run}

-- four runs at k variables
pub record Runs (k : ℕ) (a d b c : List ℕ) : Type 0 where
  pub run_a : Run k a
  pub run_d : Run k d
  pub run_b : Run k b
  pub run_c : Run k c

-- l and h are what a list that is not empty has without and with variable k, and both are runs on the variables below
pub record Halved (k : ℕ) (l h : List ℕ) : Type 0 where
  pub low : lacking k (l ++ h) ≡ l
  pub high : holding k (l ++ h) ≡ h
  pub run_low : Run k l
  pub run_high : Run k h
  pub some : 0 < length l + length h

-- the halves of four lists
pub record Halves (k : ℕ) (a₀ a₁ d₀ d₁ b₀ b₁ c₀ c₁ : List ℕ) : Type 0 where
  pub of_a : Halved k a₀ a₁
  pub of_d : Halved k d₀ d₁
  pub of_b : Halved k b₀ b₁
  pub of_c : Halved k c₀ c₁

-- AD = BC of the lists that the halves make up
abbrev pub Joined : ℕ → List ℕ → List ℕ → List ℕ → List ℕ → List ℕ → List ℕ → List ℕ → List ℕ → Type 0
Joined k a₀ a₁ d₀ d₁ b₀ b₁ c₀ c₁ = SameProducts (suc k) (a₀ ++ a₁) (d₀ ++ d₁) (b₀ ++ b₁) (c₀ ++ c₁)

-- six runs, as three ratios p / q, the first denominator not zero
pub record Ratios (k : ℕ) (p₁ q₁ p₂ q₂ p₃ q₃ : List ℕ) : Type 0 where
  pub run_p₁ : Run k p₁
  pub run_q₁ : Run k q₁
  pub run_p₂ : Run k p₂
  pub run_q₂ : Run k q₂
  pub run_p₃ : Run k p₃
  pub run_q₃ : Run k q₃
  pub some_q₁ : 0 < length q₁

-- p₁ / q₁ = p₂ / q₂ and p₁ / q₁ = p₃ / q₃
abbrev pub OneRatio : ℕ → List ℕ → List ℕ → List ℕ → List ℕ → List ℕ → List ℕ → Type 0
OneRatio k p₁ q₁ p₂ q₂ p₃ q₃ = SameProducts k p₁ q₂ q₁ p₂ × SameProducts k p₁ q₃ q₁ p₃

-- both halves of the four lists are runs that are not empty
pub record Whole (k : ℕ) (a₀ a₁ d₀ d₁ b₀ b₁ c₀ c₁ : List ℕ) : Type 0 where
  pub halves : Halves k a₀ a₁ d₀ d₁ b₀ b₁ c₀ c₁
  pub some_a₀ : 0 < length a₀
  pub some_a₁ : 0 < length a₁
  pub some_d₀ : 0 < length d₀
  pub some_d₁ : 0 < length d₁
  pub some_b₀ : 0 < length b₀
  pub some_b₁ : 0 < length b₁
  pub some_c₀ : 0 < length c₀
  pub some_c₁ : 0 < length c₁

-- the same with no word on the variable: eight runs that are not empty, so that the two of a list may change places
pub record Eight (k : ℕ) (a₀ a₁ d₀ d₁ b₀ b₁ c₀ c₁ : List ℕ) : Type 0 where
  pub runs_low : Runs k a₀ d₀ b₀ c₀
  pub runs_high : Runs k a₁ d₁ b₁ c₁
  pub some_a₀ : 0 < length a₀
  pub some_a₁ : 0 < length a₁
  pub some_d₀ : 0 < length d₀
  pub some_d₁ : 0 < length d₁
  pub some_b₀ : 0 < length b₀
  pub some_b₁ : 0 < length b₁
  pub some_c₀ : 0 < length c₀
  pub some_c₁ : 0 < length c₁

-- a₁ / b₁ = c₁ / d₁, which also says a₁ / c₁ = b₁ / d₁, and either a₀ / b₀ and c₀ / d₀ are that ratio too, or a₀ / c₀ and b₀ / d₀ are this one
pub record Agree (k : ℕ) (a₀ a₁ d₀ d₁ b₀ b₁ c₀ c₁ : List ℕ) : Type 0 where
  pub first : SameProducts k a₁ d₁ b₁ c₁
  pub ways : ¬ OneRatio k a₁ b₁ a₀ b₀ c₀ d₀ → OneRatio k a₁ c₁ a₀ c₀ b₀ d₀

-- r says how p₁ / q₁ stands to two ratios: 2 if the three are one, and 1 only if those two differ
pub record Stands (r k : ℕ) (p₁ q₁ p₂ q₂ p₃ q₃ : List ℕ) : Type 0 where
  pub one : r ≡ 2 → OneRatio k p₁ q₁ p₂ q₂ p₃ q₃
  pub not_one : ¬ (r ≡ 2) → ¬ OneRatio k p₁ q₁ p₂ q₂ p₃ q₃
  pub differ : r ≡ 1 → ¬ SameProducts k p₂ q₃ q₂ p₃

-- two equations
abbrev pub Both : ℕ → List ℕ → List ℕ → List ℕ → List ℕ → List ℕ → List ℕ → List ℕ → List ℕ → Type 0
Both k a₀ a₁ d₀ d₁ b₀ b₁ c₀ c₁ = SameProducts k a₁ d₁ b₁ c₁ × SameProducts k a₀ d₀ b₀ c₀
