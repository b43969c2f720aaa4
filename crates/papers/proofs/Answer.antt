-- What *same products* says of the four lists is what together answers of the parts: the lists lie in the room one behind another, they pass
-- its checks, and by the papers' rule AD = BC exactly if no part holds both variables.
use Prim.Native.Nat.{ℕ, ◌-◌, ◌*◌, ◌%◌, ◌^◌, ◌≤◌, ◌<◌}
use mathlib.Core.Path.{◌≡◌, refl, sym, ap, ap₂, ◌∙◌, subst}
use mathlib.Core.Bool.{Bool, true, false, not, true≢false}
use mathlib.Core.List.{List, ◌++◌}
use mathlib.Core.Logic.{◌↔◌, inl, inr}
use native.Mathlib.Nat.{le_trans, lt_of_not-le, one-mul}
use native.Mathlib.Omega.{arith}
use borrow.Author.Tests.{eq-eqb, ne_eqb}
use lib.Bits.{bit_or}
use lib.Dec.{eqb}
use lib.ListN.{length, take, drop}
use lib.Pow.{shl_exact}
use Rattle.std.specs.Int.{from_bool}
use Rattle.answer.specs.declared.Answer.{Answer}
use Rattle.answer.specs.Ends.{over}
use Rattle.answer.proofs.Ends.{passed_accepts}
use Rattle.masks.specs.Bit.{bit}
use Rattle.masks.proofs.Bits.{bit_zero, bits_above_vanish}
use Rattle.polys.specs.List.{Asc}
use Rattle.polys.specs.Poly.{vars}
use Rattle.polys.specs.Parts.{IsParts}
use Rattle.polys.proofs.Polys.{vars_nil}
use Rattle.exists.specs.PartsOf.{parts_of}
use Rattle.exists.proofs.Exist.{parts_of_is_parts}
use Rattle.ring.specs.Run.{lacking}
use Rattle.ring.specs.Same.{one_if}
use Rattle.rule.specs.Rule.{derivative, Below, PapersSay, together}
use Rattle.rule.proofs.Derivative.{lacking_asc, derivative_asc}
use Rattle.rule.proofs.Rule.{papers_rule}
use Rattle.same.specs.Same.{same_checks, Judged, SameEnds}
use Rattle.same.proofs.Passing.{passed_if_ascending}
use Rattle.papers.specs.Together.{four_lists, Tells}
use Rattle.papers.specs.Steps.{selected, four_selected, Laid, Askable}
use Rattle.papers.proofs.FourLists.{derivative_selected, at_zero_selected, mixed_selected, other_selected, derivative_shorter, lacking_shorter, four_fit}
use Rattle.papers.proofs.Laid.{four_length, part_a, part_b, part_c, part_d}

-- ---- lists that pass the checks are judged

-- what is said of four lists is said of equal ones
of_equal_lists : (max n : ℕ) (o : Answer) (a d b c : List ℕ) {a' d' b' c' : List ℕ} → a ≡ a' → d ≡ d' → b ≡ b' → c ≡ c'
    → SameEnds max n a d b c o → SameEnds max n a' d' b' c' o
of_equal_lists max n o a d b c {a'} {d'} {b'} {c'} ea ed eb ec h =
    subst (λ k. SameEnds max n a' d' b' k o) ec
    (subst (λ k. SameEnds max n a' d' k c o) eb (subst (λ k. SameEnds max n a' k b c o) ed (subst (λ k. SameEnds max n k d b c o) ea h)))

judged_if_in_order : (max n : ℕ) (a d b c : List ℕ) (o : Answer) → length a ≤ max → length d ≤ max → length b ≤ max → length c ≤ max
    → Asc a → Asc d → Asc b → Asc c → SameEnds max n a d b c o → Judged n a d b c o.count (tt {0})
judged_if_in_order max n a d b c o la ld lb lc pa pd pb pc h =
    let p = passed_if_ascending max a d b c la ld lb lc pa pd pb pc in
    let w = passed_accepts (tt {0}) (Judged n a d b c) (same_checks max a d b c) o (tt {0}) p h in
    subst (λ k. Judged n a d b c k (tt {0})) (sym (ap (λ (x : Answer). x.count) w.1)) w.2

-- ---- the answer

module _ (max n : ℕ) {f : List ℕ} {x y room : ℕ} (ask : Askable max n f x y room) where
  parts_of_list : IsParts f (parts_of f)
  parts_of_list =
      parts_of_is_parts f ask.ascends (λ e. true≢false (sym ask.has_x ∙ ap (λ l. bit (vars l) x) e ∙ ap (λ m. bit m x) vars_nil ∙ bit_zero x))

  all_below : Below n f
  all_below i h = lt_of_not-le (λ l. true≢false (sym h ∙ bits_above_vanish n (vars f) i ask.below l))

  rule : (together x y (parts_of f) ≡ false) ↔ PapersSay n f x y
  rule = papers_rule n f (parts_of f) x y parts_of_list all_below ask.has_x ask.has_y ask.other

  -- the variables as masks
  mask_of : (i : ℕ) → i < n → (1 * 2 ^ i) % 2 ^ n ≡ 2 ^ i
  mask_of i h = shl_exact 1 i n (omega arith) (omega arith) ∙ one-mul (2 ^ i)

  abbrev px : ℕ
  px = (1 * 2 ^ x) % 2 ^ n

  abbrev py : ℕ
  py = (1 * 2 ^ y) % 2 ^ n

  ex : px ≡ 2 ^ x
  ex = mask_of x ask.low_x

  ey : py ≡ 2 ^ y
  ey = mask_of y ask.low_y

  -- what is selected by them are the papers' four lists,
  is_a : selected px px f ≡ derivative x f
  is_a = ap (λ p. selected p p f) ex ∙ derivative_selected x f

  is_b : selected px 0 f ≡ lacking x f
  is_b = ap (λ p. selected p 0 f) ex ∙ at_zero_selected x f

  is_c : selected (bit_or px py) (bit_or px py) f ≡ derivative y (derivative x f)
  is_c = ap₂ (λ p q. selected (bit_or p q) (bit_or p q) f) ex ey ∙ mixed_selected x y ask.other f

  is_d : selected (bit_or px py) py f ≡ derivative y (lacking x f)
  is_d = ap₂ (λ p q. selected (bit_or p q) q f) ex ey ∙ other_selected x y ask.other f

  -- laid out they are the papers' four lists one after another,
  are_four : four_selected px py f ≡ four_lists f x y
  unfolding four_selected four_lists
  are_four = ap₂ ◌++◌ is_a (ap₂ ◌++◌ is_b (ap₂ ◌++◌ is_c is_d))

  -- and there is room for them
  pub four_room : length (four_selected px py f) ≤ room
  four_room =
      omega (arith, four_length px py f, four_fit f x y, ask.fits, ap length is_a, ap length is_b, ap length is_c, ap length is_d)

  -- four lists laid out in the room, and what was said of them
  pub told : (said : Answer) {old new : List ℕ} {a b c d : ℕ} → Laid px py f old new a b c d
      → SameEnds max n (take a new) (take (d - c) (drop c new)) (take (b - a) (drop a new)) (take (c - b) (drop b new)) said
      → Tells f x y old (from_bool (not (eqb said.count 1))) new
  told said {old} {new} {a} {b} {c} {d} laid ends = (
    parts_of f,
    parts_of_list,
    as_number (not (eqb said.count 1)) ∙ ap one_if (answer said.count judged),
    laid.stands ∙ ap (λ l. over l old) are_four,
  )
    where
      as_number : (t : Bool) → from_bool t ≡ one_if t
      as_number true = refl
      as_number false = refl

      judged : Judged n (derivative x f) (derivative y (lacking x f)) (lacking x f) (derivative y (derivative x f)) said.count (tt {0})
      judged =
          let a₁ = derivative_asc x f ask.ascends in
          let a₀ = lacking_asc x f ask.ascends in
          judged_if_in_order max n (derivative x f) (derivative y (lacking x f)) (lacking x f) (derivative y (derivative x f)) said
          (le_trans (derivative_shorter x f) ask.few)
          (le_trans (derivative_shorter y (lacking x f)) (le_trans (lacking_shorter x f) ask.few))
          (le_trans (lacking_shorter x f) ask.few)
          (le_trans (derivative_shorter y (derivative x f)) (le_trans (derivative_shorter x f) ask.few))
          a₁ (derivative_asc y (lacking x f) a₀) a₀ (derivative_asc y (derivative x f) a₁)
          (of_equal_lists max n said _ _ _ _ (part_a laid ∙ is_a) (part_d laid ∙ is_d) (part_b laid ∙ is_b) (part_c laid ∙ is_c) ends)

      -- no part holds both if the products are the same, and only then
      answer : (k : ℕ) → Judged n (derivative x f) (derivative y (lacking x f)) (lacking x f) (derivative y (derivative x f)) k (tt {0})
          → not (eqb k 1) ≡ together x y (parts_of f)
      answer k (inl (e, same)) = ap not (eq-eqb k 1 e) ∙ sym (rule.1 same)
      answer k (inr (z, differ)) = ap not (ne_eqb k 1 (λ e. let x : ⊥ = omega arith in x)) ∙ sym (go (together x y (parts_of f)) refl)
        where
          go : (t : Bool) → together x y (parts_of f) ≡ t → together x y (parts_of f) ≡ true
          go true t = t
          go false t = absurd (differ (rule.0 t))
