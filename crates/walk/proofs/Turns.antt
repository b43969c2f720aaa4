-- What `along` knows before each run: the walk of what is left of the product, from the place where it stands, is the walk of the whole.
-- Leans on unions' Steps and on Walking. Assumes nothing.
use Prim.Native.Nat.{ℕ, ◌+◌, ◌-◌, ◌≤◌, ◌<◌}
use native.Mathlib.Nat.{sub-zero}
use native.Mathlib.Omega.{arith}
use mathlib.Core.Path.{◌≡◌, refl, sym, ap, ap₂, ◌∙◌, subst}
use mathlib.Core.List.{List, ◌++◌, map}
use lib.Bits.{bit_or}
use lib.ListN.{length, get_or, take, drop, drop_of_length-le, length-drop}
use lib.Seq.{take_all, drop-drop}
use Rattle.std.specs.Prelude.{Result, Ok, Err, IsErrAnd}
use Rattle.std.proofs.lemmas.Result.{err_from_is_err_and}
use Rattle.term.specs.Laws.{Laws}
use Rattle.term.proofs.Places.{front_at, rest_at}
use Rattle.polys.specs.Poly.{times}
use Rattle.polys.proofs.Polys.{times_zero_left, times_comm}
use Rattle.unions.specs.Unions.{Run, Wider, span}
use Rattle.unions.proofs.Steps.{Turn, turn, times_of_one}
use Rattle.walk.specs.Walk.{Way, on, walked, onward}
use Rattle.walk.specs.Told.{way}
use Rattle.walk.specs.declared.Difference.{Difference}
use Rattle.walk.specs.declared.Difference.TheVariants.{Missing, Extra}
use Rattle.walk.proofs.Walking.{Within, walked_none, walked_append, walked_within}

-- what is left of a, and the walk of its product
pub record Goes (a b f : List ℕ) (start : ℕ) (rest : List ℕ) (place : ℕ) : Type 0 where
  pub at : ℕ
  pub left : rest ≡ drop at a
  pub inside : place ≤ length f
  pub same : walked (times rest b) f place ≡ walked (times a b) f start

pub all_gone : {a b f rest : List ℕ} {start place m : ℕ} → m ≡ length rest → m ≤ 0 → Goes a b f start rest place → on place ≡ walked (times a b) f start
all_gone {a} {b} {f} {rest} {start} {place} count none goes =
    sym (walked_none f place)
    ∙ ap (λ (p : List ℕ). walked p f place) (sym (times_zero_left b) ∙ ap (λ (l : List ℕ). times l b) (sym (drop_of_length-le rest {i = 0} (omega arith))))
    ∙ goes.same

-- what comes of a run: the walk goes on behind it, or ends at a difference
pub record Went {T : Type 0} (value : T → ℕ) (a b f : List ℕ) (start : ℕ) (behind : List ℕ) (went : Result ℕ (Difference T)) : Type 0 where
  pub goes_on : {next : ℕ} → went ≡ Ok next → Goes a b f start behind next
  pub ends : {d : Difference T} → went ≡ Err d → (out : Result ℕ (Difference T)) → IsErrAnd out (λ e. e ≡ d) → way value out ≡ walked (times a b) f start

-- a difference ends the walk
ends_there : {T : Type 0} (value : T → ℕ) (d : Difference T) (further : ℕ → Way) → onward (way value (Err d)) further ≡ way value (Err d)
ends_there value (Missing u) further = refl
ends_there value (Extra u) further = refl

-- ---- one run

module _ {a b f rest run : List ℕ} {d start place r : ℕ} (wider : Wider a b d) (goes : Goes a b f start rest place) (cut : Run rest d r)
    (front : run ≡ take r rest) where
  this_turn : Turn a b goes.at r run
  this_turn =
      turn a b d goes.at r wider (omega (arith, cut.some, cut.within, ap length goes.left, length-drop goes.at a))
      (subst (λ (l : List ℕ). Run l d r) goes.left cut) run (front ∙ ap₂ take (let e : r ≡ goes.at + r - goes.at = omega arith in e) goes.left)

  module _ {T : Type 0} (value : T → ℕ) {behind : List ℕ} (back : behind ≡ drop r rest) (went : Result ℕ (Difference T))
      (told : way value went ≡ walked (times run b) f place) where
    behind_is : behind ≡ drop (goes.at + r) a
    behind_is = back ∙ ap (drop r) goes.left ∙ drop-drop r goes.at a

    comes : (v : Way) → way value went ≡ v → onward v (walked (times behind b) f) ≡ walked (times a b) f start
    comes v e =
        ap (λ (x : Way). onward x (walked (times behind b) f)) (sym e ∙ told)
        ∙ sym (walked_append (times run b) (times behind b) f place)
        ∙ ap (λ (p : List ℕ). walked p f place)
        (ap (λ (l : List ℕ). times run b ++ times l b) behind_is ∙ sym this_turn.tail ∙ ap (λ (l : List ℕ). times l b) (sym goes.left))
        ∙ goes.same

    run_went : Went value a b f start behind went
    run_went =
        record {
          goes_on =
              λ {next} e. record {
                at = goes.at + r;
                left = behind_is;
                inside = subst (Within f) (sym told ∙ ap (way value) e) (walked_within (times run b) f place goes.inside);
                same = comes (on next) (ap (way value) e);
              };
          ends =
              λ {d} e out is. let given = err_from_is_err_and out is in
              ap (way value) (given.1 ∙ ap Err given.2)
              ∙ sym (ends_there value d (walked (times behind b) f)) ∙ comes (way value (Err d)) (ap (way value) e);
        }

-- ---- one run as the code sees it: lists stand in words, and what is left of them is split behind the run

module _ {numbers : List ℕ → List ℕ} {room : ℕ → ℕ} {lines : ℕ} (laws : Laws numbers room lines) {r x : ℕ} (ex : x ≡ room r) where
  numbers_take : (ws front : List ℕ) → front ≡ take x ws → numbers front ≡ take r (numbers ws)
  numbers_take ws front e = ap numbers (e ∙ ap (λ (k : ℕ). take k ws) (sym (sub-zero x))) ∙ front_at laws r x ws ex

  numbers_drop : (ws back : List ℕ) → back ≡ drop x ws → numbers back ≡ drop r (numbers ws)
  numbers_drop ws back e =
      ap numbers (e ∙ sym (take_all (length ws - x) (drop x ws) (omega (arith, length-drop x ws)))) ∙ rest_at laws r x ws ex

  -- what is left is less
  pub behind_less : {rest behind : List ℕ} {d : ℕ} → Run (numbers rest) d r → behind ≡ drop x rest → length (numbers behind) < length (numbers rest)
  behind_less {rest} {behind} cut back = omega (arith, cut.some, cut.within, ap length (numbers_drop rest behind back), length-drop r (numbers rest))

  module _ {a b f rest run : List ℕ} {d start place : ℕ} (wider : Wider (numbers a) (numbers b) d) (goes : Goes (numbers a) (numbers b) f start (numbers rest) place)
      (cut : Run (numbers rest) d r) (front : run ≡ take x rest) where
    turn_here : Turn (numbers a) (numbers b) goes.at r (numbers run)
    turn_here = this_turn wider goes cut (numbers_take rest run front)

    pub run_some : 0 < length (numbers run)
    run_some = omega (arith, turn_here.count, cut.some)

    -- a run is shorter than the list, and one of more terms varies by less than b
    pub run_narrower : (r ≡ 1 → ⊥) → {s : ℕ} → s ≡ span (numbers run)
        → (length (numbers b) + length (numbers run) < length (numbers a) + length (numbers b)) × Wider (numbers b) (numbers run) s
    run_narrower more e =
        let w = turn_here.wider more in (turn_here.shorter, subst (Wider (numbers b) (numbers run)) (sym w.narrow ∙ sym e) w)

    module _ {T : Type 0} (value : T → ℕ) {behind : List ℕ} (back : behind ≡ drop x rest) {went told : Result ℕ (Difference T)} (is : went ≡ told) where
      -- a run of one term is walked as a row
      pub row_went : {t : ℕ} → r ≡ 1 → t ≡ get_or (numbers run) 0 0 → way value told ≡ walked (map (bit_or t) (numbers b)) f place
          → Went value (numbers a) (numbers b) f start (numbers behind) went
      row_went one this e =
          run_went wider goes cut (numbers_take rest run front) value (numbers_drop rest behind back) went (
          ap (way value) is ∙ e ∙ ap (λ (p : List ℕ). walked p f place) (
          ap (λ (t : ℕ). map (bit_or t) (numbers b)) this ∙ sym (times_of_one (numbers run) (numbers b) turn_here.factors (turn_here.count ∙ one))
          )
          )

      -- for a run of more terms the lists change their parts
      pub along_went : way value told ≡ walked (times (numbers b) (numbers run)) f place → Went value (numbers a) (numbers b) f start (numbers behind) went
      along_went e =
          run_went wider goes cut (numbers_take rest run front) value (numbers_drop rest behind back) went (
          ap (way value) is ∙ e ∙ ap (λ (p : List ℕ). walked p f place) (times_comm (numbers b) (numbers run))
          )
