-- What is left of the terms as written, and how the reader ends with it. Assumes nothing.
use mathlib.Core.Path.{◌≡◌, refl, sym, ap, ap₂, ◌∙◌, subst}
use mathlib.Core.List.{List, [], ◌++◌, map}
use Prim.Native.Nat.{ℕ, ◌<◌, ◌≤◌}
use native.Mathlib.Omega.{arith}
use borrow.Author.Tests.{lt-ltb, le-ltb, ltb-true}
use lib.ListN.{length, take, drop, length-append, length-map}
use lib.Seq.{take-append-le}
use Rattle.answer.specs.declared.Answer.{Answer}
use Rattle.answer.specs.declared.Refusal.{Refusal}
use Rattle.answer.specs.Table.{accepted, refused, refusal_of}
use Rattle.answer.proofs.Checking.{refuses_if_err}
use Rattle.std.specs.Prelude.{Err}
use Rattle.answer.specs.Ends.{Ends, Writes}
use Rattle.typed.specs.Shown.{sign, twice, many, Verdict, long, shown, equation}
use Rattle.typed.specs.Says.{mask, left}
use Rattle.typed.specs.Machine.{start, reads}
use Rattle.typed.proofs.Decides.{reads_decides}
use Rattle.cancel.proofs.Writing.{few_of}
use Rattle.scan.specs.Told.{answer_of, Holds, Scanned}
use Rattle.text.specs.Calls.{read_text_checks, read_terms, ReadTextEnds}
use Rattle.text.specs.Found.{LeftEnds}

-- ---- what is left, at the start of the words

pub kept : (words new behind : List ℕ) (count r : ℕ) → take r new ≡ left (take count words) → r ≡ length (left (take count words))
    → (take r (new ++ behind) ≡ left (take count words)) × (r ≡ length (left (take count words))) × (r ≤ length (new ++ behind))
kept words new behind count r e f =
    let l = few_of r new (left (take count words)) e f in
    (take-append-le r new behind l ∙ e, f, omega (arith, l, length-append new behind))

-- ---- how it ends

pub no_room : (terms out : List ℕ) (r : ℕ) → r ≡ length (left terms) → length out < r → LeftEnds terms out (refused 6 1 0) out
unfolding Ends
no_room terms out r e h = rw (lt-ltb (length out) (length (left terms)) (subst (λ (k : ℕ). length out < k) e h)) (refl, refl)

pub written_out : (terms words out new : List ℕ) (r : ℕ) → take r words ≡ left terms → r ≡ length (left terms) → r ≤ length out
    → new ≡ take r words → LeftEnds terms out (accepted r) (new ++ drop r out)
unfolding Ends
written_out terms words out new r e f h g =
    rw (le-ltb (length out) (length (left terms)) (subst (λ (k : ℕ). k ≤ length out) f h))
    (r, refl, (f, ap₂ (λ (l : List ℕ) (k : ℕ). l ++ drop k out) (g ∙ e) f))

-- ---- the reader

-- a text that is too long
pub too_long : (longest most vars : ℕ) (text out : List ℕ) → longest < length text → ReadTextEnds longest most vars text out (refused 2 1 0) out
unfolding Ends
too_long longest most vars text out h = (long, h, (refl, refl))

-- a verdict that shows something refuses,
refused_so : (v : Verdict) (out : List ℕ) (answer : Answer) → answer ≡ answer_of v → 0 < answer.code
    → Ends (read_text_checks v (length out)) out (Writes (read_terms v) out) answer out
unfolding Ends
refused_so long out answer e h = (e, refl)
refused_so (shown sign i) out answer e h = (e, refl)
refused_so (shown twice i) out answer e h = (e, refl)
refused_so (shown many i) out answer e h = (e, refl)
refused_so (equation ts) out answer e h = absurd (let z : ⊥ = omega (arith, ap (λ (a : Answer). a.code) e) in z)

-- and an equation ends with what is left of its terms
left_so : (v : Verdict) (out words : List ℕ) (answer numbers : Answer) (after : List ℕ) → answer ≡ answer_of v → Holds v words → answer.code ≡ 0
    → LeftEnds (take answer.count words) out numbers after → Ends (read_text_checks v (length out)) out (Writes (read_terms v) out) numbers after
left_so long out words answer numbers after e h z f = absurd (let c : ⊥ = omega (arith, ap (λ (a : Answer). a.code) e) in c)
left_so (shown sign i) out words answer numbers after e h z f = absurd (let c : ⊥ = omega (arith, ap (λ (a : Answer). a.code) e) in c)
left_so (shown twice i) out words answer numbers after e h z f = absurd (let c : ⊥ = omega (arith, ap (λ (a : Answer). a.code) e) in c)
left_so (shown many i) out words answer numbers after e h z f = absurd (let c : ⊥ = omega (arith, ap (λ (a : Answer). a.code) e) in c)
left_so (equation ts) out words answer numbers after e h z f =
    subst (λ (l : List ℕ). LeftEnds l out numbers after) (ap (λ (a : Answer). take a.count words) e ∙ h) f

-- so a text that is not too long ends as it reads: with the refusal that it shows,
pub reads_refused : (longest most vars : ℕ) → 0 < vars → vars ≤ 100 → (text out words new : List ℕ) (refusal : Refusal) → length text ≤ longest
    → Scanned most vars text words (refusal_of refusal) new → ReadTextEnds longest most vars text out (refusal_of refusal) out
reads_refused longest most vars some few text out words new refusal short scanned = (
  reads vars most (start [] []) 0 text,
  reads_decides vars some few longest most text short,
  refused_so (reads vars most (start [] []) 0 text) out (refusal_of refusal) scanned.numbers (ltb-true 0 (refusal_of refusal).code (sym (refuses_if_err (Err refusal)))),
)

-- or with what is left of the terms that were found
pub reads_so : (longest most vars : ℕ) → 0 < vars → vars ≤ 100 → (text out words new after : List ℕ) (count : ℕ) (answer : Answer)
    → length text ≤ longest → Scanned most vars text words (accepted count) new → LeftEnds (take count new) out answer after
    → ReadTextEnds longest most vars text out answer after
reads_so longest most vars some few text out words new after count answer short scanned ends = (
  reads vars most (start [] []) 0 text,
  reads_decides vars some few longest most text short,
  left_so (reads vars most (start [] []) 0 text) out new (accepted count) answer after scanned.numbers scanned.holds refl ends,
)

-- no more terms were found than there are words
pub few_found : (most vars : ℕ) (text words new : List ℕ) (found : Answer) → Scanned most vars text words found new → found.count ≤ length words
few_found most vars text words new found s =
    omega (arith, s.same, by_verdict (reads vars most (start [] []) 0 text) s.numbers s.holds)
  where
    by_verdict : (v : Verdict) → found ≡ answer_of v → Holds v new → found.count ≤ length new
    by_verdict long e h = omega (arith, ap (λ (a : Answer). a.count) e)
    by_verdict (shown sign i) e h = omega (arith, ap (λ (a : Answer). a.count) e)
    by_verdict (shown twice i) e h = omega (arith, ap (λ (a : Answer). a.count) e)
    by_verdict (shown many i) e h = omega (arith, ap (λ (a : Answer). a.count) e)
    by_verdict (equation ts) e h =
        omega (arith, ap (λ (a : Answer). a.count) e, few_of (length ts) new (map mask ts) h (sym (length-map ts mask)))

-- a call that hands on the numbers of the reader promises what it does
pub reader_handed_on : (longest most vars : ℕ) (text out new : List ℕ) (mine its : Answer) → mine ≡ its → ReadTextEnds longest most vars text out its new
    → ReadTextEnds longest most vars text out mine new
reader_handed_on longest most vars text out new mine its e h = subst (λ (a : Answer). ReadTextEnds longest most vars text out a new) (sym e) h
