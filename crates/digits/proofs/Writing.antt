-- Bits put behind bits: what a written byte does to the number of the bytes so far. Leans on the laws of digits. Assumes nothing.
use mathlib.Core.Path.{◌≡◌, refl, sym, ap, ap₂, ◌∙◌, subst, subst₂}
use mathlib.Core.List.{List, ◌++◌}
use Rattle.std.proofs.lemmas.List.{set-append_left, set-append_right, take-append-drop}
use Prim.Native.Nat.{ℕ, ◌+◌, ◌-◌, ◌*◌, ◌/◌, ◌%◌, ◌^◌, ◌≤◌, ◌<◌}
use native.Mathlib.Nat.{add-zero, add-sub_cancel_left, add-mul, mul_assoc, lt_of_lt_of_le, le_of_eq, mod-lt}
use native.Mathlib.Numerals.{add-one}
use native.Mathlib.Omega.{arith}
use lib.Arith.{digits_lt}
use lib.ListN.{length, take, drop, set, length-set, length-append}
use lib.Seq.{length-take-le, take-suc-set, drop-set-lt, drop-drop}
use lib.Pow.{pow_pos, pow-add, split, mod-pow-add, shr_lt, shl_exact}
use Rattle.digits.specs.Number.{num}
use Rattle.digits.specs.Carry.{Put}
use Rattle.digits.proofs.Number.{num_last}

-- a byte written behind i bytes
pub num_written : (out : List ℕ) (i b : ℕ) → i < length out → num 8 (take (i + 1) (set out i b)) ≡ num 8 (take i out) * 2 ^ 8 + b
num_written out i b h =
    ap (λ (k : ℕ). num 8 (take k (set out i b))) (add-one i) ∙ ap (num 8) (take-suc-set out i b h) ∙ num_last 8 (take i out) b

-- and what lies behind it
pub behind_written : (out old : List ℕ) (i b : ℕ) → drop i out ≡ drop i old → drop (i + 1) (set out i b) ≡ drop (i + 1) old
behind_written out old i b e =
    drop-set-lt (i + 1) out i b (omega arith) ∙ sym (drop-drop 1 i out) ∙ ap (drop 1) e ∙ drop-drop 1 i old

-- two lists that agree from a on agree from any later place on
pub drop_later : (a b : ℕ) (x y : List ℕ) → a ≤ b → drop a x ≡ drop a y → drop b x ≡ drop b y
drop_later a b x y h e =
    ap (λ (k : ℕ). drop k x) {x = b} {y = a + (b - a)} (omega arith)
    ∙ sym (drop-drop (b - a) a x)
    ∙ ap (drop (b - a)) e
    ∙ drop-drop (b - a) a y
    ∙ ap (λ (k : ℕ). drop k y) {x = a + (b - a)} {y = b} (omega arith)

-- the digits c and h of a byte of p * q, and s behind it
regroup : (A c h l p q s : ℕ) → (A * (p * q) + (c * q + h)) * l + s ≡ (A * p + c) * (q * l) + (h * l + s)
regroup A c h l p q s = simp (add-mul, mul_assoc) (omega arith)

-- powers of exponents that add up
pub pow_sum : (a b c : ℕ) → c ≡ a + b → 2 ^ c ≡ 2 ^ a * 2 ^ b
pow_sum a b c e = ap (λ (n : ℕ). 2 ^ n) e ∙ pow-add 2 a b

-- the first byte: it takes the carry and as many of x's bits as it has room for
pub first_byte : (A carry x used width left : ℕ) → used ≤ 8 → 8 + left ≡ used + width
    → (A * 2 ^ 8 + (carry * 2 ^ (8 - used) + x / 2 ^ left)) * 2 ^ left + x % 2 ^ left ≡ (A * 2 ^ used + carry) * 2 ^ width + x
first_byte A carry x used width left u e =
    ap (λ (n : ℕ). (A * n + (carry * 2 ^ (8 - used) + x / 2 ^ left)) * 2 ^ left + x % 2 ^ left) (pow_sum used (8 - used) 8 (omega arith))
    ∙ regroup A carry (x / 2 ^ left) (2 ^ left) (2 ^ used) (2 ^ (8 - used)) (x % 2 ^ left)
    ∙ ap₂ (λ (p n : ℕ). (A * 2 ^ used + carry) * p + n) (sym (pow_sum (8 - used) left width (omega arith))) (split x left)

-- a further byte: x's next eight bits
pub next_byte : (A x left : ℕ) → 8 ≤ left
    → (A * 2 ^ 8 + x / 2 ^ (left - 8) % 2 ^ 8) * 2 ^ (left - 8) + x % 2 ^ (left - 8) ≡ A * 2 ^ left + x % 2 ^ left
next_byte A x left h =
    simp (add-mul, mul_assoc) (omega (
      arith,
      ap (λ (n : ℕ). A * n) (pow_sum 8 (left - 8) left (omega arith)),
      mod-pow-add x 8 (left - 8),
      ap (λ (e : ℕ). x % 2 ^ e) {x = 8 + (left - 8)} {y = left} (omega arith),
    ))

-- no byte is filled: x's bits join the carry
pub no_byte : (A carry x used width : ℕ) → A * 2 ^ (used + width) + (carry * 2 ^ width + x) ≡ (A * 2 ^ used + carry) * 2 ^ width + x
no_byte A carry x used width =
    ap (λ (n : ℕ). A * n + (carry * 2 ^ width + x)) (pow-add 2 used width) ∙ simp (add-mul, mul_assoc) (omega arith)

-- a carry of `used` bits with x's bits behind it fits
pub joined_below : (carry x used width w : ℕ) → carry < 2 ^ used → x < 2 ^ width → used + width ≡ w → carry * 2 ^ width + x < 2 ^ w
joined_below carry x used width w c h e =
    lt_of_lt_of_le (digits_lt c h) (le_of_eq (sym (pow_sum used width w (sym e))))

-- bytes of x were written from byte i₀ on, where left₀ of its bits were to come, up to byte i, where left are
pub record Written (x : ℕ) (old : List ℕ) (left₀ i₀ : ℕ) (new : List ℕ) (left i : ℕ) : Type 0 where
  pub number : num 8 (take i new) * 2 ^ left + x % 2 ^ left ≡ num 8 (take i₀ old) * 2 ^ left₀ + x % 2 ^ left₀
  pub behind : drop i new ≡ drop i old
  pub same : length new ≡ length old
  pub place : 8 * i + left ≡ 8 * i₀ + left₀
  pub fewer : left ≤ left₀

-- the shifted carry of a word of v bits
shifted_carry : (v carry used k : ℕ) → carry < 2 ^ used → used + k ≤ v → (carry * 2 ^ k) % 2 ^ v ≡ carry * 2 ^ k
shifted_carry v carry used k c h = shl_exact used k v c h

-- no byte is filled: nothing is written
pub put_none : (v : ℕ) (out : List ℕ) (at carry x width : ℕ) → carry < 2 ^ (at % 8) → x < 2 ^ width → at % 8 + width < 8 → 8 ≤ v
    → Put out at carry x width out ((carry * 2 ^ width) % 2 ^ v + x)
put_none v out at carry x width c h room wide =
    subst (λ (n : ℕ). Put out at carry x width out (n + x)) (sym (shifted_carry v carry (at % 8) width c (omega arith)))
    record {
      number = ap₂ (λ (i k : ℕ). num 8 (take i out) * 2 ^ k + (carry * 2 ^ width + x)) {x = (at + width) / 8} {y = at / 8} (omega arith) rest ∙ no_byte (num 8 (take (at / 8) out)) carry x (at % 8) width;
      fits = joined_below carry x (at % 8) width ((at + width) % 8) c h (sym rest);
      behind = refl;
      same = refl;
    }
  where
    rest : (at + width) % 8 ≡ at % 8 + width
    rest = omega arith

-- the first byte is one
pub first_byte_fits : (v carry x used width : ℕ) → carry < 2 ^ used → x < 2 ^ width → used ≤ 8 → 8 ≤ used + width → 8 ≤ v
    → (carry * 2 ^ (8 - used)) % 2 ^ v + x / 2 ^ (width - (8 - used)) < 2 ^ 8
first_byte_fits v carry x used width c h u room wide =
    subst (λ (n : ℕ). n + x / 2 ^ (width - (8 - used)) < 2 ^ 8) (sym (shifted_carry v carry used (8 - used) c (omega arith)))
    (joined_below carry (x / 2 ^ (width - (8 - used))) used (8 - used) 8 c
    (shr_lt (8 - used) (width - (8 - used)) (subst (λ (e : ℕ). x < 2 ^ e) {x = width} {y = 8 - used + (width - (8 - used))} (omega arith) h))
    (omega arith))

-- where the loop over the bytes begins
pub written_none : (x : ℕ) (old : List ℕ) (left i : ℕ) → Written x old left i old left i
written_none x old left i = record { number = refl; behind = refl; same = refl; place = refl; fewer = omega arith }

-- one byte more
pub written_more : (x : ℕ) (old : List ℕ) (left₀ i₀ : ℕ) (new : List ℕ) (left i b : ℕ) → 8 ≤ left → i < length new
    → b ≡ x / 2 ^ (left - 8) % 2 ^ 8 → Written x old left₀ i₀ new left i → Written x old left₀ i₀ (set new i b) (left - 8) (i + 1)
written_more x old left₀ i₀ new left i b h l e w =
    record {
      number =
          ap (λ (n : ℕ). n * 2 ^ (left - 8) + x % 2 ^ (left - 8)) (num_written new i b l ∙ ap (λ (n : ℕ). num 8 (take i new) * 2 ^ 8 + n) e)
          ∙ next_byte (num 8 (take i new)) x left h
          ∙ w.number;
      behind = behind_written new old i b w.behind;
      same = length-set new i b ∙ w.same;
      place = omega arith;
      fewer = omega arith;
    }

-- bytes in the place of the n from i on, which were lent
abbrev pub with_part : ℕ → ℕ → List ℕ → List ℕ → List ℕ
with_part i n old bytes = take i old ++ (bytes ++ drop n (drop i old))

-- those that were there
part_as_it_was : (i n : ℕ) (old : List ℕ) → with_part i n old (take n (drop i old)) ≡ old
part_as_it_was i n old = ap (λ (l : List ℕ). take i old ++ l) (take-append-drop n (drop i old)) ∙ take-append-drop i old

-- one of them written
part_set : (i n k b : ℕ) (old bytes : List ℕ) → i ≤ length old → k < length bytes
    → set (with_part i n old bytes) (i + k) b ≡ with_part i n old (set bytes k b)
part_set i n k b old bytes h l =
    set-append_right (take i old) (bytes ++ drop n (drop i old)) i (i + k) b (length-take-le i old h) (omega arith)
    ∙ ap (λ (j : ℕ). take i old ++ set (bytes ++ drop n (drop i old)) j b) (add-sub_cancel_left i k)
    ∙ ap (λ (m : List ℕ). take i old ++ m) (set-append_left bytes (drop n (drop i old)) k b l)

-- where the loop over a part begins
pub part_none : (x : ℕ) (old : List ℕ) (left i n : ℕ) → Written x old left i (with_part i n old (take n (drop i old))) left (i + 0)
part_none x old left i n = subst₂ (λ (l : List ℕ) (k : ℕ). Written x old left i l left k) (sym (part_as_it_was i n old)) (sym (add-zero i)) (written_none x old left i)

-- one byte more of the part
pub part_more : (x : ℕ) (old bytes : List ℕ) (left₀ i n left k b : ℕ) → i ≤ length old → k < length bytes → 8 ≤ left
    → b ≡ x / 2 ^ (left - 8) % 2 ^ 8 → Written x old left₀ i (with_part i n old bytes) left (i + k)
    → Written x old left₀ i (with_part i n old (set bytes k b)) (left - 8) (i + (k + 1))
part_more x old bytes left₀ i n left k b h l m e w =
    let w' = written_more x old left₀ i (with_part i n old bytes) left (i + k) b m (omega (arith, length-append (take i old) (bytes ++ drop n (drop i old)), length-append bytes (drop n (drop i old)), length-take-le i old h)) e w in
    subst₂ (λ (l : List ℕ) (j : ℕ). Written x old left₀ i l (left - 8) j) (part_set i n k b old bytes h l) (omega arith) w'

-- the loop over the bytes is done
pub put_done : (v : ℕ) (out : List ℕ) (at carry x width : ℕ) (new : List ℕ) (left i b : ℕ)
    → carry < 2 ^ (at % 8) → 8 ≤ at % 8 + width → at / 8 < length out → 8 ≤ v → left < 8
    → b ≡ (carry * 2 ^ (8 - at % 8)) % 2 ^ v + x / 2 ^ (width - (8 - at % 8))
    → Written x (set out (at / 8) b) (width - (8 - at % 8)) (at / 8 + 1) new left i
    → Put out at carry x width new (x % 2 ^ left)
put_done v out at carry x width new left i b c room l wide short e w =
    record {
      number =
          ap₂ (λ (j k : ℕ). num 8 (take j new) * 2 ^ k + x % 2 ^ left) last rest
          ∙ w.number
          ∙ ap (λ (n : ℕ). n * 2 ^ left₀ + x % 2 ^ left₀) (
          num_written out (at / 8) b l
          ∙ ap (λ (n : ℕ). A * 2 ^ 8 + n) (e ∙ ap (λ (n : ℕ). n + x / 2 ^ left₀) (shifted_carry v carry (at % 8) (8 - at % 8) c (omega arith)))
          )
          ∙ first_byte A carry x (at % 8) width left₀ (omega arith) (omega arith);
      fits = subst (λ (k : ℕ). x % 2 ^ left < 2 ^ k) (sym rest) (mod-lt x (pow_pos left));
      behind =
          ap (λ (j : ℕ). drop j new) last
          ∙ w.behind
          ∙ drop-set-lt i out (at / 8) b (omega arith)
          ∙ ap (λ (j : ℕ). drop j out) (sym last);
      same = w.same ∙ length-set out (at / 8) b;
    }
  where
    A : ℕ
    A = num 8 (take (at / 8) out)

    left₀ : ℕ
    left₀ = width - (8 - at % 8)

    last : (at + width) / 8 ≡ i
    last = omega arith

    rest : (at + width) % 8 ≡ left
    rest = omega arith
