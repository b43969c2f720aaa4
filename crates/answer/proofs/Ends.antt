-- What holds of every promise of the shape Ends, proved once: a refusal leaves every lent buffer, two allowed endings coincide where
-- acceptance is determined, and accepted is the same as every check passed. Assumes nothing.
use Prim.Native.Nat.{ℕ, ◌<◌}
use mathlib.Core.Path.{◌≡◌, refl, sym, ap, ap₂, ◌∙◌}
use mathlib.Core.Bool.{Bool, true, false}
use mathlib.Core.List.{List, [], ◌∷◌}
use mathlib.Core.Logic.{◌⊎◌, inl, inr}
use native.Mathlib.Omega.{arith}
use borrow.Author.Tests.{ltb-true, ltb-false}
use lib.Dec.{ltb}
use lib.ListN.{length, take, drop}
use lib.Seq.{take_at}
use Rattle.answer.specs.declared.Answer.{Answer}
use Rattle.answer.specs.Table.{accepted, refused}
use Rattle.answer.specs.Ends.{Check, if, over, Ends, Writes}
use Rattle.answer.specs.Checked.{Passed, Checked, both, coded}

-- accepted, with a count and buffers of which the claim holds
abbrev pub Accepts : {B : Type 0} → (ℕ → B → Type 0) → Answer → B → Type 0
Accepts A answer new = (count : ℕ) × (answer ≡ accepted count) × A count new

-- refused, with a code above 0: nothing is counted, and every lent buffer is as it was
abbrev pub Refuses : {B : Type 0} → B → Answer → B → Type 0
Refuses old answer new = (0 < answer.code) × (answer.count ≡ 0) × (new ≡ old)

-- a claim that leaves one count and one content of the buffers
abbrev pub Determined : {B : Type 0} → (ℕ → B → Type 0) → Type 0
Determined {B} A = (m n : ℕ) (x y : B) → A m x → A n y → (m ≡ n) × (x ≡ y)

-- what follows from either claim follows from `if`, of one and of two; and claims that follow make an `if` that follows
either : (t : Bool) {X Y Z : Type 0} → (t ≡ true → X → Z) → (t ≡ false → Y → Z) → if t X Y → Z
either true f g x = f refl x
either false f g y = g refl y

alike : (t : Bool) {X Y X' Y' Z : Type 0} → (X → X' → Z) → (Y → Y' → Z) → if t X Y → if t X' Y' → Z
alike true f g x x' = f x x'
alike false f g y y' = g y y'

pub each : (t : Bool) {X Y X' Y' : Type 0} → (X → X') → (Y → Y') → if t X Y → if t X' Y'
each true f g x = f x
each false f g y = g y

-- where the first check of several has a code above 0 and so have the others, each has
coded_both : (s t : Bool) → both s t ≡ true → (s ≡ true) × (t ≡ true)
coded_both true t e = (refl, e)
coded_both false t e = absurd (let z : ◌≡◌ {A = ℕ} 0 1 = cc in let x : ⊥ = omega arith in x)

-- the code of an acceptance is 0, that of a refusal is the check's
code_0 : {answer : Answer} {count : ℕ} → answer ≡ accepted count → answer.code ≡ 0
code_0 e = ap (λ (a : Answer). a.code) e

code_of : {answer : Answer} (c : Check) → answer ≡ refused c.code c.operand c.place → answer.code ≡ c.code
code_of c e = ap (λ (a : Answer). a.code) e

module _ {B : Type 0} (old : B) (A : ℕ → B → Type 0) where
  -- after a refusal every lent buffer holds what it held
  pub refusal_keeps : (cs : List Check) (answer : Answer) (new : B) → Ends cs old A answer new → 0 < answer.code → new ≡ old
  unfolding Ends
  refusal_keeps [] answer new (count, e, a) h = absurd (let z : ⊥ = omega (arith, code_0 e) in z)
  refusal_keeps (c ∷ cs) answer new e h = either c.fails (λ _ r. r.1) (λ _ r. refusal_keeps cs answer new r h) e

  -- two allowed endings coincide, in all four numbers and in every buffer
  pub ends_coincide : Determined A → (cs : List Check) (answer answer' : Answer) (new new' : B)
      → Ends cs old A answer new → Ends cs old A answer' new' → (answer ≡ answer') × (new ≡ new')
  unfolding Ends
  ends_coincide once [] answer answer' new new' (m, e, a) (n, f, b) = (e ∙ ap accepted (once m n new new' a b).0 ∙ sym f, (once m n new new' a b).1)
  ends_coincide once (c ∷ cs) answer answer' new new' p q =
      alike c.fails (λ r s. (r.0 ∙ sym s.0, r.1 ∙ sym s.1)) (λ r s. ends_coincide once cs answer answer' new new' r s) p q

  -- where every check passes the call is accepted,
  pub passed_accepts : (cs : List Check) (answer : Answer) (new : B) → Passed cs → Ends cs old A answer new → Accepts A answer new
  unfolding Ends Passed
  passed_accepts [] answer new p e = e
  passed_accepts (c ∷ cs) answer new p e = passed_accepts cs answer new p.1 (rw p.0 at e)

  -- and only there
  pub accepted_passed : (cs : List Check) (answer : Answer) (new : B) → coded cs ≡ true → Ends cs old A answer new → answer.code ≡ 0 → Passed cs
  unfolding Ends Passed coded
  accepted_passed [] answer new k e z = tt
  accepted_passed (c ∷ cs) answer new k e z =
      let h = coded_both (ltb 0 c.code) (coded cs) k in
      either c.fails (λ _ r. absurd (let x : ⊥ = omega (arith, ltb-true 0 c.code h.0, code_of c r.0) in x))
      (λ f r. (f, accepted_passed cs answer new h.1 r z)) e

  -- a call is accepted or refused
  pub accepted_or_refused : (cs : List Check) (answer : Answer) (new : B) → coded cs ≡ true → Ends cs old A answer new → Accepts A answer new ⊎ Refuses old answer new
  unfolding Ends coded
  accepted_or_refused [] answer new k e = inl e
  accepted_or_refused (c ∷ cs) answer new k e =
      let h = coded_both (ltb 0 c.code) (coded cs) k in
      either c.fails (λ _ r. inr (omega (arith, ltb-true 0 c.code h.0, code_of c r.0), ap (λ (a : Answer). a.count) r.0, r.1))
      (λ _ r. accepted_or_refused cs answer new h.1 r) e

  -- the ending of a call whose checks pass,
  pub ends_if_passed : (cs : List Check) (count : ℕ) (new : B) → Passed cs → A count new → Ends cs old A (accepted count) new
  unfolding Ends Passed
  ends_if_passed [] count new p a = (count, refl, a)
  ends_if_passed (c ∷ cs) count new p a = rw p.0 (ends_if_passed cs count new p.1 a)

  -- and of one whose checks refuse
  pub ends_if_refused : (cs : List Check) (answer : Answer) → Checked cs answer → ltb 0 answer.code ≡ true → Ends cs old A answer old
  unfolding Ends Checked
  ends_if_refused [] answer e h = absurd (let z : ⊥ = omega (arith, ltb-true 0 answer.code h, code_0 e) in z)
  ends_if_refused (c ∷ cs) answer e h = each c.fails (λ r. (r.1, refl)) (λ r. ends_if_refused cs answer r h) e

-- checks that do not refuse have passed
pub passed_if_not_refused : (cs : List Check) (answer : Answer) → Checked cs answer → ltb 0 answer.code ≡ false → Passed cs
unfolding Checked Passed
passed_if_not_refused [] answer e h = tt
passed_if_not_refused (c ∷ cs) answer e h =
    either c.fails (λ _ r. absurd (let z : ⊥ = omega (arith, ltb-false 0 answer.code h, code_of c r.1, r.0) in z))
    (λ f r. (f, passed_if_not_refused cs answer r h)) e

-- acceptance by one list that is written is determined
pub writes_once : (p old : List ℕ) → Determined (Writes p old)
writes_once p old m n x y a b = (a.0 ∙ sym b.0, a.1 ∙ sym b.1)

-- a call that writes one list, and whose checks pass, counts it and writes it,
pub passed_writes : (cs : List Check) (p old : List ℕ) (answer : Answer) (new : List ℕ) → Passed cs → Ends cs old (Writes p old) answer new
    → (answer ≡ accepted (length p)) × (new ≡ over p old)
passed_writes cs p old answer new passed e =
    let a = passed_accepts old (Writes p old) cs answer new passed e in (a.1 ∙ ap accepted a.2.0, a.2.1)

-- so as much of the buffer as the answer counts is that list
pub counted : (cs : List Check) (p old : List ℕ) (answer : Answer) (new : List ℕ) → Passed cs → Ends cs old (Writes p old) answer new
    → take answer.count new ≡ p
counted cs p old answer new passed e =
    let w = passed_writes cs p old answer new passed e in
    ap₂ take (ap (λ (a : Answer). a.count) w.0) w.1 ∙ take_at p (drop (length p) old) (length p) refl
