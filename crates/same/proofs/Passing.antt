-- Four ascending lists within the limit pass the checks of same products, and lists that pass are runs. Assumes nothing.
use Prim.Native.Nat.{ℕ, ◌^◌, ◌≤◌, ◌<◌}
use mathlib.Core.List.{List}
use borrow.Author.Tests.{le-ltb}
use lib.ListN.{length, get_or}
use Rattle.answer.specs.Checked.{Passed}
use Rattle.terms.proofs.Order.{ascends_if_passed, passed_if_ascends}
use Rattle.polys.specs.List.{Asc}
use Rattle.ring.proofs.Runs.{run_of_ascending}
use Rattle.cross.specs.Asked.{Runs}
use Rattle.same.specs.Same.{same_checks}

pub passed_if_ascending : (most : ℕ) (a d b c : List ℕ) → length a ≤ most → length d ≤ most → length b ≤ most → length c ≤ most
    → Asc a → Asc d → Asc b → Asc c → Passed (same_checks most a d b c)
unfolding Passed
passed_if_ascending most a d b c la ld lb lc pa pd pb pc = search (le-ltb, passed_if_ascends, tt) depth 12

pub runs_if_passed : (most n : ℕ) (a d b c : List ℕ) → Passed (same_checks most a d b c)
    → ((h : ℕ) → get_or a h 0 < 2 ^ n) → ((h : ℕ) → get_or d h 0 < 2 ^ n) → ((h : ℕ) → get_or b h 0 < 2 ^ n) → ((h : ℕ) → get_or c h 0 < 2 ^ n)
    → Runs n a d b c
unfolding Passed
runs_if_passed most n a d b c p sa sd sb sc = record {
  run_a = run_of_ascending n a sa (search ascends_if_passed);
  run_d = run_of_ascending n d sd (search ascends_if_passed);
  run_b = run_of_ascending n b sb (search ascends_if_passed);
  run_c = run_of_ascending n c sc (search ascends_if_passed);
}
