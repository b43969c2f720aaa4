-- A field byte by byte: the rest of its first byte, then whole bytes, then the head of the last one.
-- Leans on the laws of fields in Bits.antt. Assumes nothing.
use mathlib.Core.Path.{◌≡◌, sym, ap, ap₂, ◌∙◌, subst}
use mathlib.Core.List.{List}
use Prim.Native.Nat.{ℕ, ◌+◌, ◌-◌, ◌*◌, ◌/◌, ◌%◌, ◌^◌, ◌≤◌, ◌<◌}
use native.Mathlib.Nat.{div-one, mod-eq_of_lt, lt_of_lt_of_le}
use native.Mathlib.Omega.{arith}
use lib.ListN.{length, get_or, take, drop, length-take}
use lib.Seq.{get_or-take, get_or-drop}
use lib.Pow.{pow_mono, shl_exact}
use Rattle.digits.specs.Number.{bits, Below}
use Rattle.digits.proofs.Bits.{bits_add, bits_below, bits_in_byte}

-- the k bits at bit o that lie inside one byte
pub bits_inside : (bytes : List ℕ) (o k : ℕ) → Below 8 bytes → o / 8 < length bytes → o % 8 + k ≤ 8
    → (get_or bytes (o / 8) 0 / 2 ^ (8 - (o % 8 + k))) % 2 ^ k ≡ bits bytes o k
bits_inside bytes o k h l f =
    sym (bits_in_byte bytes (o / 8) (o % 8) k h l f) ∙ ap (λ (e : ℕ). bits bytes e k) {y = o} (omega arith)

-- a field up to byte i, and the first k bits of that byte
pub bits_head_more : (bytes : List ℕ) (at i k : ℕ) → Below 8 bytes → at ≤ 8 * i → i < length bytes → k ≤ 8
    → bits bytes at (8 * i - at + k) ≡ bits bytes at (8 * i - at) * 2 ^ k + (get_or bytes i 0 / 2 ^ (8 - (0 + k))) % 2 ^ k
bits_head_more bytes at i k h a l f =
    bits_add bytes at (8 * i - at) k (omega arith)
    ∙ ap (λ (n : ℕ). bits bytes at (8 * i - at) * 2 ^ k + n)
    (ap (λ (e : ℕ). bits bytes e k) {y = 8 * i + 0} (omega arith) ∙ bits_in_byte bytes i 0 k h l (omega arith))

-- a field up to byte i, and that byte
pub bits_byte_more : (bytes : List ℕ) (at i : ℕ) → Below 8 bytes → at ≤ 8 * i → i < length bytes
    → bits bytes at (8 * i - at) * 256 + get_or bytes i 0 ≡ bits bytes at (8 * (i + 1) - at)
bits_byte_more bytes at i h a l =
    ap (λ (n : ℕ). bits bytes at (8 * i - at) * 256 + n) (sym (ap (λ (n : ℕ). n % 2 ^ 8) (div-one (get_or bytes i 0)) ∙ mod-eq_of_lt (h i)))
    ∙ sym (bits_head_more bytes at i 8 h a l (omega arith))
    ∙ ap (λ (e : ℕ). bits bytes at e) {y = 8 * (i + 1) - at} (omega arith)

-- the same of the bytes that are gone through from the one behind the field's first
pub bits_part_more : (bytes : List ℕ) (at first to k v b : ℕ) → Below 8 bytes → at / 8 < first → to ≤ length bytes
    → k < length (take (to - first) (drop first bytes))
    → v ≡ bits bytes at (8 * (first + k) - at) → b ≡ get_or (take (to - first) (drop first bytes)) k 0
    → v * 256 + b ≡ bits bytes at (8 * (first + (k + 1)) - at)
bits_part_more bytes at first to k v b h l t m e f =
    let in_part : k < to - first = omega (arith, length-take (to - first) (drop first bytes)) in
    ap₂ (λ (x y : ℕ). x * 256 + y) e (f ∙ get_or-take (to - first) (drop first bytes) k 0 in_part ∙ get_or-drop first bytes k 0)
    ∙ bits_byte_more bytes at (first + k) h (omega arith) (omega arith)
    ∙ ap (λ (i : ℕ). bits bytes at (8 * i - at)) {x = first + k + 1} {y = first + (k + 1)} (omega arith)

-- a field of w bits at most is below 2 ^ w
pub bits_fit : (bytes : List ℕ) (o k w : ℕ) → k ≤ w → bits bytes o k < 2 ^ w
bits_fit bytes o k w h = lt_of_lt_of_le (bits_below bytes o k) (pow_mono h)

-- a field in words of v bits: what stands before its last byte, shifted, and the head of that byte
pub bits_shifted_head : (v : ℕ) (bytes : List ℕ) (at width : ℕ) {u p : ℕ} → Below 8 bytes → width ≤ v
    → at ≤ 8 * ((at + width) / 8) → (at + width) / 8 < length bytes
    → u ≡ bits bytes at (8 * ((at + width) / 8) - at)
    → p ≡ (get_or bytes ((at + width) / 8) 0 / 2 ^ (8 - (0 + (at + width) % 8))) % 2 ^ ((at + width) % 8)
    → (u * 2 ^ ((at + width) % 8)) % 2 ^ v + p ≡ bits bytes at width
bits_shifted_head v bytes at width {u} {p} h w a l eu ep =
    ap₂ ◌+◌ (shl_exact (8 * whole - at) tail v (subst (λ (n : ℕ). n < 2 ^ (8 * whole - at)) (sym eu) (bits_below bytes at (8 * whole - at))) (omega arith)) ep
    ∙ ap (λ (n : ℕ). n * 2 ^ tail + (get_or bytes whole 0 / 2 ^ (8 - (0 + tail))) % 2 ^ tail) eu
    ∙ sym (bits_head_more bytes at whole tail h a l (omega arith))
    ∙ ap (bits bytes at) {y = width} (omega arith)
  where
    whole : ℕ
    whole = (at + width) / 8

    tail : ℕ
    tail = (at + width) % 8
