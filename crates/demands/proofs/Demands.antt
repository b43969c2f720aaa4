-- The user's three demands, each as theorems about what the exported calls promise: an answer of four numbers and the buffers that it leaves.
-- That every call ends, with an answer for every input, is what the check proves of each function. Assumes nothing.
use Prim.Native.Nat.{ℕ, ◌+◌, ◌*◌, ◌^◌, ◌≤◌, ◌<◌}
use native.Mathlib.Omega.{arith}
use mathlib.Core.Path.{◌≡◌, refl, sym, ap, ap₂, ◌∙◌, subst}
use mathlib.Core.Bool.{Bool}
use mathlib.Core.List.{List, [], ◌∷◌, map, foldr, append-nil}
use mathlib.Core.Logic.{◌⊎◌, inl, inr}
use lib.ListN.{length, get_or, take, drop}
use lib.Seq.{take_at}
use Rattle.answer.specs.declared.Answer.{Answer}
use Rattle.answer.specs.Table.{accepted}
use Rattle.answer.specs.Ends.{Check, over, Writes}
use Rattle.answer.specs.Checked.{coded}
use Rattle.answer.proofs.Ends.{refusal_keeps, accepted_passed, passed_accepts}
use Rattle.polys.specs.List.{Asc}
use Rattle.polys.specs.Poly.{times, Apart, Irreducible}
use Rattle.polys.proofs.Lists.{at_mem}
use Rattle.polys.specs.Parts.{Each, IsParts, product}
use Rattle.unique.specs.Merged.{merged}
use Rattle.unique.specs.Choice.{chosen, others}
use Rattle.unique.proofs.Same.{parts_are_unique}
use Rattle.unique.proofs.Merge.{parts_of_product}
use Rattle.unique.proofs.Factors.{choice_gives_factors, factors_give_choice}
use Rattle.unique.proofs.Counts.{lengths_multiply}
use Rattle.ring.specs.Same.{ordinary, multiplied, Same}
use Rattle.factors.specs.Ordinary.{IrreducibleGF2}
use Rattle.factors.proofs.Parts.{parts_are_irreducible_over_gf2, parts_multiply_over_gf2}
use Rattle.block.specs.Calls.{read_checks, write_checks, ReadEnds, WriteEnds}
use Rattle.packing.specs.Format.{n_in, t_in, terms_in, block_of}
use Rattle.block.proofs.RoundTrip.{read_determined, write_determined}
use Rattle.product.specs.Multiply.{multiply_checks, MultiplyEnds}
use Rattle.product.proofs.Algebra.{multiply_is_determined, passed, gave}
use Rattle.product.proofs.Passing.{apart}
use Rattle.same.specs.Same.{SameEnds}
use Rattle.same.proofs.Promise.{same_products_is_determined}
use Rattle.taking.specs.Joined.{joined, lengths}
use Rattle.parts.specs.Split.{Buffers, split_checks, Splits, SplitEnds}
use Rattle.parts.proofs.Determined.{splits_once, split_is_determined}
use Rattle.typed.specs.Says.{written}
use Rattle.text.specs.Calls.{read_text_checks, read_terms, ReadTextEnds, write_text_checks, WriteTextEnds}
use Rattle.text.proofs.RoundTrip.{AllBelow, reader_is_determined, writer_is_determined, read_of_written, one_text_one_list}
use Rattle.lists.specs.Lists.{cut}
use Rattle.lists.proofs.Cutting.{cut_joined, counted_lengths}
use Rattle.audit.specs.Audit.{audit_checks, Audited, AuditEnds}
use Rattle.audit.proofs.Determined.{audit_is_determined}
use Rattle.audit.proofs.Passing.{accepted_audit}
use Rattle.deploy.specs.Deploy.{answer_words, Lent, DeployEnds}
use Rattle.deploy.specs.Work.{WorkAfter}
use Rattle.deploy.proofs.Determined.{deploy_is_determined}
use Rattle.deploy.proofs.Boards.{work_cleared_or_kept, refused_deploy_keeps_every_buffer, deployment_of_one_is_a_split, split_is_a_deployment_of_one}
use Rattle.demands.specs.Told.{told, Holds, Words}
use Rattle.demands.specs.Room.{Room, EnoughLent}
use Rattle.demands.specs.Boards.{AllParts}
use Rattle.demands.proofs.Buffers.{words_below, multiplied_words, added_words, added_at_most}
use Rattle.demands.proofs.Deployments.{accepted_deployment, each_board_as_alone, board_in_two_deployments}
use Rattle.demands.proofs.Written.{in_turn_writes_all_parts}

-- ---- demand 1: for every input one answer, and after a refusal every lent buffer holds what it held

pub split_has_one_ending : (max_terms max_vars : ℕ) (f : List ℕ) (old : Buffers) (x y : Answer) (new new' : Buffers)
    → SplitEnds max_terms max_vars f old x new → SplitEnds max_terms max_vars f old y new' → (x ≡ y) × (new ≡ new')
split_has_one_ending = split_is_determined

pub multiply_has_one_ending : (max_terms : ℕ) (a b old : List ℕ) (x y : Answer) (new new' : List ℕ)
    → MultiplyEnds max_terms a b old x new → MultiplyEnds max_terms a b old y new' → (x ≡ y) × (new ≡ new')
multiply_has_one_ending = multiply_is_determined

pub same_products_has_one_ending : (max_terms max_vars : ℕ) (a d b c : List ℕ) (x y : Answer)
    → SameEnds max_terms max_vars a d b c x → SameEnds max_terms max_vars a d b c y → x ≡ y
same_products_has_one_ending = same_products_is_determined

pub read_has_one_ending : (max_terms max_vars : ℕ) (block old : List ℕ) (x y : Answer) (new new' : List ℕ)
    → ReadEnds max_terms max_vars block old x new → ReadEnds max_terms max_vars block old y new' → (x ≡ y) × (new ≡ new')
read_has_one_ending = read_determined

pub write_has_one_ending : (max_terms : ℕ) (terms old : List ℕ) (x y : Answer) (new new' : List ℕ)
    → WriteEnds max_terms terms old x new → WriteEnds max_terms terms old y new' → (x ≡ y) × (new ≡ new')
write_has_one_ending = write_determined

-- for at least one variable and at most a hundred
pub read_text_has_one_ending : (max_bytes max_terms max_vars : ℕ) → 0 < max_vars → max_vars ≤ 100 → (text old : List ℕ) (x y : Answer) (new new' : List ℕ)
    → ReadTextEnds max_bytes max_terms max_vars text old x new → ReadTextEnds max_bytes max_terms max_vars text old y new' → (x ≡ y) × (new ≡ new')
read_text_has_one_ending max_bytes max_terms max_vars some few = reader_is_determined max_vars some few max_bytes max_terms

pub write_text_has_one_ending : (max_bytes max_terms : ℕ) (terms old : List ℕ) (x y : Answer) (new new' : List ℕ)
    → WriteTextEnds max_bytes max_terms terms old x new → WriteTextEnds max_bytes max_terms terms old y new' → (x ≡ y) × (new ≡ new')
write_text_has_one_ending = writer_is_determined

pub audit_has_one_ending : (max_terms max_vars : ℕ) (f words ls : List ℕ) (old : Buffers) (x y : Answer) (new new' : Buffers)
    → AuditEnds max_terms max_vars f words ls old x new → AuditEnds max_terms max_vars f words ls old y new' → (x ≡ y) × (new ≡ new')
audit_has_one_ending = audit_is_determined

pub deploy_has_one_ending : (max_lists max_terms max_vars : ℕ) (words ls : List ℕ) (old : Lent) (x y : Answer) (new new' : Lent)
    → DeployEnds max_lists max_terms max_vars words ls old x new → DeployEnds max_lists max_terms max_vars words ls old y new' → (x ≡ y) × (new ≡ new')
deploy_has_one_ending = deploy_is_determined

-- the checks of split with these buffers
abbrev checks : ℕ → ℕ → List ℕ → Buffers → List Check
checks max_terms max_vars f old = split_checks max_terms max_vars f (length old.terms) (length old.lengths) (length old.work)

pub refused_split_keeps : (max_terms max_vars : ℕ) (f : List ℕ) (old : Buffers) (answer : Answer) (new : Buffers)
    → SplitEnds max_terms max_vars f old answer new → 0 < answer.code → new ≡ old
refused_split_keeps max_terms max_vars f old = refusal_keeps old (Splits f old) (checks max_terms max_vars f old)

pub refused_multiply_keeps : (max_terms : ℕ) (a b old : List ℕ) (answer : Answer) (new : List ℕ)
    → MultiplyEnds max_terms a b old answer new → 0 < answer.code → new ≡ old
refused_multiply_keeps max_terms a b old = refusal_keeps old (Writes (times a b) old) (multiply_checks max_terms a b (length old))

pub refused_read_keeps : (max_terms max_vars : ℕ) (block old : List ℕ) (answer : Answer) (new : List ℕ)
    → ReadEnds max_terms max_vars block old answer new → 0 < answer.code → new ≡ old
refused_read_keeps max_terms max_vars block old =
    refusal_keeps old (Writes (terms_in block (n_in block) (t_in block)) old) (read_checks max_terms max_vars block (length old))

pub refused_write_keeps : (max_terms : ℕ) (terms old : List ℕ) (answer : Answer) (new : List ℕ)
    → WriteEnds max_terms terms old answer new → 0 < answer.code → new ≡ old
refused_write_keeps max_terms terms old = refusal_keeps old (Writes (block_of terms) old) (write_checks max_terms terms (length old))

pub refused_read_text_keeps : (max_bytes max_terms max_vars : ℕ) (text old : List ℕ) (answer : Answer) (new : List ℕ)
    → ReadTextEnds max_bytes max_terms max_vars text old answer new → 0 < answer.code → new ≡ old
refused_read_text_keeps max_bytes max_terms max_vars text old answer new (v, _, ends) =
    refusal_keeps old (Writes (read_terms v) old) (read_text_checks v (length old)) answer new ends

pub refused_write_text_keeps : (max_bytes max_terms : ℕ) (terms old : List ℕ) (answer : Answer) (new : List ℕ)
    → WriteTextEnds max_bytes max_terms terms old answer new → 0 < answer.code → new ≡ old
refused_write_text_keeps max_bytes max_terms terms old = refusal_keeps old (Writes (written terms) old) (write_text_checks max_bytes max_terms terms (length old))

pub refused_audit_keeps : (max_terms max_vars : ℕ) (f words ls : List ℕ) (old : Buffers) (answer : Answer) (new : Buffers)
    → AuditEnds max_terms max_vars f words ls old answer new → 0 < answer.code → new ≡ old
refused_audit_keeps max_terms max_vars f words ls old =
    refusal_keeps old (Audited f (cut ls words) old) (audit_checks max_terms max_vars f words ls (length old.terms) (length old.lengths) (length old.work))

pub refused_deploy_keeps : (max_lists max_terms max_vars : ℕ) (words ls : List ℕ) (old : Lent) (answer : Answer) (new : Lent)
    → DeployEnds max_lists max_terms max_vars words ls old answer new → 0 < answer.code → new ≡ old
refused_deploy_keeps = refused_deploy_keeps_every_buffer

-- ---- texts: of lists of words, at the limits of the calls

-- each word is below 2 to the 64
words_are_below : (n : ℕ) (f : List ℕ) → Words n f → AllBelow n f
words_are_below n f words t m = let w = at_mem f t m in subst (λ (x : ℕ). x < 2 ^ n) (sym w.2) (words w.0)

-- reading the text that was written gives the list back,
pub written_text_comes_back : (terms old out : List ℕ) (wrote : Answer) (new : List ℕ) (got : Answer) (new' : List ℕ) → Words 64 terms → length terms ≤ length out
    → WriteTextEnds 65536 1024 terms old wrote new → wrote.code ≡ 0 → ReadTextEnds 65536 1024 64 (take wrote.count new) out got new'
    → (got ≡ accepted (length terms)) × (new' ≡ over terms out)
written_text_comes_back terms old out wrote new got new' words =
    read_of_written 64 (omega arith) (omega arith) 65536 1024 terms old out wrote new got new' (words_are_below 64 terms words)

-- and lists with the same text are the same
pub same_text_same_list : (f g : List ℕ) → Words 64 f → Words 64 g → written f ≡ written g → f ≡ g
same_text_same_list f g p q = one_text_one_list 64 (omega arith) f g (words_are_below 64 f p) (words_are_below 64 g q)

-- ---- demand 2: an accepted split's buffers hold the parts, and multiplying them gives the equation

module _ (max_terms max_vars : ℕ) (f : List ℕ) (old : Buffers) (answer : Answer) (new : Buffers) (ends : SplitEnds max_terms max_vars f old answer new)
    (taken : answer.code ≡ 0) where
  accepts : (count : ℕ) × (answer ≡ accepted count) × Splits f old count new
  unfolding coded
  accepts =
      let cs = checks max_terms max_vars f old in
      passed_accepts old (Splits f old) cs answer new (accepted_passed old (Splits f old) cs answer new refl ends taken) ends

  ps : List (List ℕ)
  ps = accepts.2.0

  count_is : answer.count ≡ length ps
  unfolding ps
  count_is = ap (λ (a : Answer). a.count) accepts.1 ∙ accepts.2.2

  lengths_are : new.lengths ≡ over (lengths ps) old.lengths
  unfolding ps
  lengths_are = ap (λ (b : Buffers). b.lengths) accepts.2.3

  terms_are : new.terms ≡ over (joined ps) old.terms
  unfolding ps
  terms_are = ap (λ (b : Buffers). b.terms) accepts.2.3

  words_are : take answer.count new.lengths ≡ lengths ps
  words_are = ap (take answer.count) lengths_are ∙ counted_lengths ps old.lengths answer.count count_is

  told_is : told answer new ≡ ps
  told_is = ap₂ cut words_are terms_are ∙ cut_joined ps (drop (length (joined ps)) old.terms)

  pub accepted_split_holds_the_parts : Holds f old answer new
  unfolding ps
  accepted_split_holds_the_parts =
      record {
        parts = subst (IsParts f) (sym told_is) accepts.2.1;
        counted = accepts.1 ∙ ap accepted (accepts.2.2 ∙ ap length (sym told_is));
        terms = terms_are ∙ ap (λ (qs : List (List ℕ)). over (joined qs) old.terms) (sym told_is);
        lengths_stand = lengths_are ∙ ap (λ (qs : List (List ℕ)). over (lengths qs) old.lengths) (sym told_is);
        work = ap (λ (b : Buffers). b.work) accepts.2.3;
      }

  -- the words of the lengths multiply to the number of terms: none is gained or lost
  pub lengths_multiply_to_t : foldr ◌*◌ 1 (take answer.count new.lengths) ≡ length f
  unfolding ps
  lengths_multiply_to_t = ap (foldr ◌*◌ 1) words_are ∙ multiplied_words ps ∙ lengths_multiply f ps accepts.2.1

  -- the parts' terms together never exceed t and the number of variables
  pub part_terms_at_most : Words max_vars f → foldr ◌+◌ 0 (take answer.count new.lengths) ≤ length f + max_vars
  unfolding ps
  part_terms_at_most w =
      subst (λ (n : ℕ). n ≤ length f + max_vars) (sym (ap (foldr ◌+◌ 0) words_are ∙ added_words ps)) (added_at_most max_vars f ps w accepts.2.1)

  -- the parts are the irreducible factors over GF(2) in the ordinary sense: each is irreducible, and their ordinary product is the equation
  pub parts_are_the_factors_over_gf2 : Words max_vars f
      → Each (λ (p : List ℕ). IrreducibleGF2 max_vars (ordinary p)) (told answer new)
      × Same max_vars (ordinary f) (foldr multiplied ((λ i. 0) ∷ []) (map ordinary (told answer new)))
  parts_are_the_factors_over_gf2 w =
      let h = accepted_split_holds_the_parts.parts in
      (parts_are_irreducible_over_gf2 max_vars f (told answer new) h (words_below max_vars f w), parts_multiply_over_gf2 max_vars f (told answer new) h)

-- ---- the auditor's two questions, of parts that are given

module _ (max_terms max_vars : ℕ) (f words ls : List ℕ) (old : Buffers) (answer : Answer) (new : Buffers)
    (ends : AuditEnds max_terms max_vars f words ls old answer new) (taken : answer.code ≡ 0) where
  judged : (count : ℕ) × (answer ≡ accepted count) × Audited f (cut ls words) old count new
  judged = accepted_audit max_terms max_vars f words ls old answer new ends taken

  -- yes exactly if the given parts are the parts,
  pub audit_says_yes_exactly_for_the_parts : (answer.count ≡ 1 → IsParts f (cut ls words)) × (IsParts f (cut ls words) → answer.count ≡ 1)
  unfolding judged
  audit_says_yes_exactly_for_the_parts = verdict judged.2.0 (ap (λ (a : Answer). a.count) judged.1)
    where
      verdict : {claim : Type 0} {n : ℕ} → ((n ≡ 1) × claim) ⊎ ((n ≡ 0) × ¬ claim) → answer.count ≡ n → (answer.count ≡ 1 → claim) × (claim → answer.count ≡ 1)
      verdict (inl a) e = ((λ _. a.1), (λ _. e ∙ a.0))
      verdict (inr a) e = ((λ h. absurd (let z : ⊥ = omega (arith, h, e, a.0) in z)), (λ c. absurd (a.1 c)))

  -- so what is given multiplies back to the approved equation,
  pub audited_parts_multiply_back : answer.count ≡ 1 → product (cut ls words) ≡ f
  audited_parts_multiply_back said = (audit_says_yes_exactly_for_the_parts.0 said).multiply

  -- none of it could be split again,
  pub audited_parts_cannot_be_split : answer.count ≡ 1 → Each Irreducible (cut ls words)
  audited_parts_cannot_be_split said = (audit_says_yes_exactly_for_the_parts.0 said).irreducible

  -- and in the ordinary sense too these are the irreducible factors over GF(2), with the approved equation as their product
  pub audited_parts_are_the_factors_over_gf2 : answer.count ≡ 1 → Words max_vars f
      → Each (λ (p : List ℕ). IrreducibleGF2 max_vars (ordinary p)) (cut ls words)
      × Same max_vars (ordinary f) (foldr multiplied ((λ i. 0) ∷ []) (map ordinary (cut ls words)))
  audited_parts_are_the_factors_over_gf2 said w =
      let h = audit_says_yes_exactly_for_the_parts.0 said in
      (parts_are_irreducible_over_gf2 max_vars f (cut ls words) h (words_below max_vars f w), parts_multiply_over_gf2 max_vars f (cut ls words) h)

  -- yes or no, the buffers hold the parts, as after a split
  pub audit_leaves_what_split_leaves : (other : Answer) (new' : Buffers) → SplitEnds max_terms max_vars f old other new' → other.code ≡ 0 → new ≡ new'
  unfolding judged
  audit_leaves_what_split_leaves other new' split taken' =
      let s = accepts max_terms max_vars f old other new' split taken' in
      (splits_once f old judged.2.1.0 s.0 new new' judged.2.1.1 s.2).1

-- what an accepted split tells is audited with yes
pub split_is_audited_yes : (max_terms max_vars : ℕ) (f : List ℕ) (old old' : Buffers) (x y : Answer) (new new' : Buffers)
    → SplitEnds max_terms max_vars f old x new → x.code ≡ 0 → AuditEnds max_terms max_vars f (joined (told x new)) (lengths (told x new)) old' y new' → y.code ≡ 0
    → y.count ≡ 1
split_is_audited_yes max_terms max_vars f old old' x y new new' split taken audit taken' =
    let ps = told x new in
    (audit_says_yes_exactly_for_the_parts max_terms max_vars f (joined ps) (lengths ps) old' y new' audit taken').1
    (subst (IsParts f) (sym (ap (cut (lengths ps)) (sym (append-nil (joined ps))) ∙ cut_joined ps []))
    (accepted_split_holds_the_parts max_terms max_vars f old x new split taken).parts)

-- ---- a deployment: the boards of a ship in one call

-- an accepted deployment counts its boards; their answers, and the parts of those that are accepted, stand at the start of their buffers, what is
-- behind them is as it was, and every word of the work area is 0 or, where no board is accepted, as it was
pub accepted_deployment_holds_the_parts : (max_lists max_terms max_vars : ℕ) (words ls : List ℕ) (old : Lent) (answer : Answer) (new : Lent)
    → DeployEnds max_lists max_terms max_vars words ls old answer new → answer.code ≡ 0
    → (answers : List Answer) × (all : List (List ℕ)) × (answer ≡ accepted (length ls)) × AllParts (cut ls words) answers all
    × (new.answers ≡ over (answer_words answers) old.answers)
    × (new.outputs.terms ≡ over (joined all) old.outputs.terms)
    × (new.outputs.lengths ≡ over (lengths all) old.outputs.lengths)
    × WorkAfter answers old.outputs.work new.outputs.work
accepted_deployment_holds_the_parts max_lists max_terms max_vars words ls old answer new ends taken =
    let d = accepted_deployment max_lists max_terms max_vars words ls old answer new ends taken in
    let w = in_turn_writes_all_parts max_terms max_vars (cut ls words) old.outputs d.1.0 new.outputs d.1.3 in
    (d.1.0, w.0, d.0, w.1, d.1.2, w.2.0, w.2.1, work_cleared_or_kept max_terms max_vars (cut ls words) old.outputs d.1.0 new.outputs d.1.3)

-- of one board, with room for its answer: it is accepted with count 1, the answer is the split's, and the buffers are as the split leaves them,
pub deployment_of_one_board_is_a_split : (max_terms max_vars : ℕ) (f : List ℕ) (max_lists : ℕ) (old : Lent) → 1 ≤ max_lists → 4 ≤ length old.answers
    → (answer : Answer) (new : Lent) → DeployEnds max_lists max_terms max_vars f (length f ∷ []) old answer new
    → (answer ≡ accepted 1) × ((own : Answer) × (new.answers ≡ over (answer_words (own ∷ [])) old.answers) × SplitEnds max_terms max_vars f old.outputs own new.outputs)
deployment_of_one_board_is_a_split = deployment_of_one_is_a_split

-- and whatever a split ends with, the deployment of that board ends so
pub split_is_a_deployment_of_one_board : (max_terms max_vars : ℕ) (f : List ℕ) (max_lists : ℕ) (old : Lent) → 1 ≤ max_lists → 4 ≤ length old.answers
    → (own : Answer) (new : Buffers) → SplitEnds max_terms max_vars f old.outputs own new
    → DeployEnds max_lists max_terms max_vars f (length f ∷ []) old (accepted 1) (record { answers = over (answer_words (own ∷ [])) old.answers; outputs = new })
split_is_a_deployment_of_one_board = split_is_a_deployment_of_one

-- where enough is lent for all, the four words of each board's answer are those of any split of its list alone that has room,
pub answers_do_not_depend_on_other_boards : (max_lists max_terms max_vars : ℕ) (words ls : List ℕ) (old : Lent) (answer : Answer) (new : Lent)
    → DeployEnds max_lists max_terms max_vars words ls old answer new → answer.code ≡ 0 → Words max_vars words → EnoughLent max_terms max_vars words ls old
    → (i : ℕ) → i < length ls → (own : Buffers) (alone : Answer) (after : Buffers) → Room max_terms max_vars (get_or (cut ls words) i []) own
    → SplitEnds max_terms max_vars (get_or (cut ls words) i []) own alone after → take 4 (drop (4 * i) new.answers) ≡ answer_words (alone ∷ [])
answers_do_not_depend_on_other_boards = each_board_as_alone

-- so a board that stands in two deployments, at whatever places, has the same four words in both
pub same_board_same_answer : (max_lists max_terms max_vars : ℕ) (words ls words' ls' : List ℕ) (old old' : Lent) (x y : Answer) (new new' : Lent)
    → DeployEnds max_lists max_terms max_vars words ls old x new → x.code ≡ 0 → DeployEnds max_lists max_terms max_vars words' ls' old' y new' → y.code ≡ 0
    → Words max_vars words → EnoughLent max_terms max_vars words ls old → Words max_vars words' → EnoughLent max_terms max_vars words' ls' old'
    → (i j : ℕ) → i < length ls → j < length ls' → get_or (cut ls words) i [] ≡ get_or (cut ls' words') j []
    → take 4 (drop (4 * i) new.answers) ≡ take 4 (drop (4 * j) new'.answers)
same_board_same_answer = board_in_two_deployments

-- ---- demand 3: the parts of a product, and the pairs of factors

-- multiply accepts two equations, and split accepts them and what multiply wrote: the part buffers of the product hold the parts of the two, put in order
module _ (max_terms max_vars : ℕ) (g h out : List ℕ) (x : Answer) (out' : List ℕ) (multiplies : MultiplyEnds max_terms g h out x out') (taken : x.code ≡ 0)
    (old₁ old₂ old₃ new₁ new₂ new₃ : Buffers) (a₁ a₂ a₃ : Answer)
    (first : SplitEnds max_terms max_vars g old₁ a₁ new₁) (taken₁ : a₁.code ≡ 0)
    (second : SplitEnds max_terms max_vars h old₂ a₂ new₂) (taken₂ : a₂.code ≡ 0)
    (third : SplitEnds max_terms max_vars (take x.count out') old₃ a₃ new₃) (taken₃ : a₃.code ≡ 0) where
  written_is : take x.count out' ≡ times g h
  written_is =
      let w = gave max_terms g h out x out' multiplies (passed max_terms g h out x out' multiplies taken) in
      ap (take x.count) w.1 ∙ take_at (times g h) (drop (length (times g h)) out) x.count (sym (ap (λ (a : Answer). a.count) w.0))

  pub parts_of_a_product_are_told : told a₃ new₃ ≡ merged (told a₁ new₁) (told a₂ new₂)
  parts_of_a_product_are_told =
      parts_are_unique (times g h) (told a₃ new₃) (merged (told a₁ new₁) (told a₂ new₂))
      (subst (λ (l : List ℕ). IsParts l (told a₃ new₃)) written_is (accepted_split_holds_the_parts max_terms max_vars (take x.count out') old₃ a₃ new₃ third taken₃).parts)
      (parts_of_product g h (told a₁ new₁) (told a₂ new₂) (accepted_split_holds_the_parts max_terms max_vars g old₁ a₁ new₁ first taken₁).parts
      (accepted_split_holds_the_parts max_terms max_vars h old₂ a₂ new₂ second taken₂).parts (apart max_terms g h out (passed max_terms g h out x out' multiplies taken)))

  pub parts_of_a_product_in_the_buffers : (new₃.terms ≡ over (joined (merged (told a₁ new₁) (told a₂ new₂))) old₃.terms)
      × (new₃.lengths ≡ over (lengths (merged (told a₁ new₁) (told a₂ new₂))) old₃.lengths)
  parts_of_a_product_in_the_buffers =
      let s = accepted_split_holds_the_parts max_terms max_vars (take x.count out') old₃ a₃ new₃ third taken₃ in
      (s.terms ∙ ap (λ (qs : List (List ℕ)). over (joined qs) old₃.terms) parts_of_a_product_are_told, s.lengths_stand ∙ ap (λ (qs : List (List ℕ)). over (lengths qs) old₃.lengths) parts_of_a_product_are_told)

-- each choice among the parts gives an ordered pair of equations with no common input whose product is f,
pub each_choice_gives_a_pair : (f : List ℕ) (ps : List (List ℕ)) → IsParts f ps → (c : List Bool) → length c ≡ length ps
    → Asc (product (chosen c ps)) × Asc (product (others c ps)) × Apart (product (chosen c ps)) (product (others c ps))
    × (times (product (chosen c ps)) (product (others c ps)) ≡ f)
each_choice_gives_a_pair f ps parts c e = choice_gives_factors f ps parts c e

-- and each such pair comes from exactly one choice
pub each_pair_comes_from_one_choice : (f : List ℕ) (ps : List (List ℕ)) → IsParts f ps → (g h : List ℕ) → Asc g → Asc h → Apart g h → times g h ≡ f
    → (c : List Bool) × (length c ≡ length ps) × (g ≡ product (chosen c ps)) × (h ≡ product (others c ps))
    × ((d : List Bool) → length d ≡ length ps → g ≡ product (chosen d ps) → d ≡ c)
each_pair_comes_from_one_choice f ps parts g h ag ah apart e = factors_give_choice f ps parts g h ag ah apart e
