-- The contract of deploy leaves nothing open: any two endings that it allows coincide. Leans on the theorem that a polynomial has one list
-- of parts.
use Prim.Native.Nat.{ℕ}
use mathlib.Core.Path.{◌≡◌, sym, ap, ap₂, ◌∙◌, subst}
use mathlib.Core.List.{List, [], ◌∷◌}
use lib.ListN.{length}
use Rattle.answer.specs.declared.Answer.{Answer}
use Rattle.answer.specs.Ends.{over}
use Rattle.answer.proofs.Ends.{Determined, ends_coincide}
use Rattle.parts.specs.Split.{Buffers}
use Rattle.parts.proofs.Determined.{split_is_determined}
use Rattle.lists.specs.Lists.{cut}
use Rattle.deploy.specs.Deploy.{left, kept, InTurn, answer_words, Lent, deploy_checks, Deployed, DeployEnds}

-- splits made in turn coincide, in every answer and in every buffer
pub in_turn_is_determined : (max_terms max_vars : ℕ) (fs : List (List ℕ)) (old : Buffers) (answers answers' : List Answer) (new new' : Buffers)
    → InTurn max_terms max_vars fs old answers new → InTurn max_terms max_vars fs old answers' new' → (answers ≡ answers') × (new ≡ new')
unfolding InTurn
in_turn_is_determined max_terms max_vars [] old answers answers' new new' (a, b) (a', b') = (a ∙ sym a', b ∙ sym b')
in_turn_is_determined max_terms max_vars (f ∷ fs) old answers answers' new new' (x, y, l, r, split, turn, a, b) (x', y', l', r', split', turn', a', b') =
    let s = split_is_determined max_terms max_vars f old x x' y y' split split' in
    let e : left x.count y ≡ left x'.count y' = ap₂ (λ (c : Answer) (d : Buffers). left c.count d) s.0 s.1 in
    let t = in_turn_is_determined max_terms max_vars fs (left x'.count y') l l' r r' (subst (λ (d : Buffers). InTurn max_terms max_vars fs d l r) e turn) turn' in (
      a ∙ ap₂ (λ (c : Answer) (cs : List Answer). c ∷ cs) s.0 t.0 ∙ sym a',
      b ∙ ap₂ (λ (c : Answer) (d : Buffers). kept c.count d r) s.0 s.1 ∙ ap (kept x'.count y') t.1 ∙ sym b',
    )

-- acceptance leaves one count and one content of the buffers
pub deployed_once : (max_terms max_vars : ℕ) (fs : List (List ℕ)) (old : Lent) → Determined (Deployed max_terms max_vars fs old)
deployed_once max_terms max_vars fs old m n b c (counted, (answers, stand, turn)) (counted', (answers', stand', turn')) =
    let t = in_turn_is_determined max_terms max_vars fs old.outputs answers answers' b.outputs c.outputs turn turn' in (
      counted ∙ sym counted',
      ap₂ lent (stand ∙ ap (λ (l : List Answer). over (answer_words l) old.answers) t.0 ∙ sym stand') t.1,
    )
  where
    lent : List ℕ → Buffers → Lent
    lent l d = record { answers = l; outputs = d }

-- two endings of a deployment coincide, in all four numbers and in every buffer
pub deploy_is_determined : (max_lists max_terms max_vars : ℕ) (words ls : List ℕ) (old : Lent) (answer answer' : Answer) (new new' : Lent)
    → DeployEnds max_lists max_terms max_vars words ls old answer new → DeployEnds max_lists max_terms max_vars words ls old answer' new'
    → (answer ≡ answer') × (new ≡ new')
deploy_is_determined max_lists max_terms max_vars words ls old =
    ends_coincide old (Deployed max_terms max_vars (cut ls words) old) (deployed_once max_terms max_vars (cut ls words) old)
    (deploy_checks max_lists (length words) ls (length old.answers))
