-- What holds of refusals on every input: 13 and 14 by lengths alone, that a refused call leaves zeros everywhere, and which numbers there are. Assumes nothing.
use Prim.Native.Nat.{ℕ, ◌<◌, ◌≤◌}
use mathlib.Core.Bool.{true, false, false≢true}
use mathlib.Core.Path.{◌≡◌, refl, subst}
use lib.ListN.{length}
use native.Mathlib.Nat.{sub-zero}
use borrow.Author.Tests.{le-leb, lt-leb}
use Rattle.rules.specs.Outcome.{Outcome, ok, refuse, is_refusal_number, ◌>>=◌, need}
use Rattle.rules.specs.FirstWalk.{tree_at}
use Rattle.rules.specs.State.{AnalysisStack}
use Rattle.rules.specs.Call.{Lent, limits_of, tables_fit, run, report_of, out_of, diagnostics_of, analyze_root, filled, zeroed, left_by, call}
use Rattle.rules.proofs.Numbered.{Numbered, answers, refuses, numbered_bind, numbered_need, numbered_tree, numbered_root}

-- "a table is shorter than 16 numbers per entry of its limit", whatever the tree is
pub short_tables_refused : (b : Lent) → tables_fit b ≡ false → run b ≡ refuse 13 0
unfolding run need ◌>>=◌
short_tables_refused b h = rw (h, run)

-- "the tree is over 16,777,216 bytes", whatever the bytes are
pub long_tree_refused : (b : Lent) → tables_fit b ≡ true → 16777216 < length b.tree → run b ≡ refuse 14 0
unfolding run need ◌>>=◌
long_tree_refused b h long = rw (h, lt-leb (length b.tree) 16777216 long, run)

-- and at that very length, and below it, the tree is read
pub other_trees_read : (b : Lent) → tables_fit b ≡ true → length b.tree ≤ 16777216 → run b ≡ (tree_at b.tree >>= analyze_root (limits_of b))
unfolding run need ◌>>=◌
other_trees_read b h short = rw (h, le-leb (length b.tree) 16777216 short, run)

-- "with every writable buffer zero on refusal", and every number of the report but the refusal's two
pub refused_leaves_zeros : (b : Lent) (number place : ℕ) → run b ≡ refuse number place
    → call b ≡ record {
      report = report_of (refuse number place);
      out = zeroed b.out;
      diagnostics = zeroed b.diagnostics;
      locals = zeroed b.locals;
      frames = zeroed b.frames;
      captures = zeroed b.captures;
      references = zeroed b.references;
    }
unfolding call left_by report_of out_of diagnostics_of filled zeroed
refused_leaves_zeros b number place h = rw h (simp sub-zero)

-- 13 and 14, and what the first walk and the analysis give
numbered_run : (b : Lent) → Numbered (run b)
unfolding run
numbered_run b = numbered_need _ _ _ _ refl (numbered_need _ _ _ _ refl (numbered_bind _ (numbered_tree b.tree) (numbered_root (limits_of b))))

-- "Limits and refusal numbers": a refusal's number is in that table
pub refusals_are_numbered : (b : Lent) (number place : ℕ) → run b ≡ refuse number place → is_refusal_number number ≡ true
refusals_are_numbered b number place e = of_refuse (subst Numbered e (numbered_run b))
  where
    of_refuse : Numbered {A = AnalysisStack} (refuse number place) → is_refusal_number number ≡ true
    of_refuse (refuses h) = h

-- "An accepted call returns number 0", and no other call does
pub zero_is_accepted : (b : Lent) → (report_of (run b)).number ≡ 0 → (st : AnalysisStack) × (run b ≡ ok st)
unfolding report_of
zero_is_accepted b = of_zero (numbered_run b)
  where
    of_zero : {o : Outcome AnalysisStack} → Numbered o → (report_of o).number ≡ 0 → (st : AnalysisStack) × (o ≡ ok st)
    of_zero answers e = (_, refl)
    of_zero (refuses h) e = absurd (false≢true (rw e at h))
