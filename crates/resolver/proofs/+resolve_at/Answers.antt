-- `resolve_at` is the definition's resolving in the top of the first n frames. The measure is n. Assumes nothing.
use Rattle.std.proofs.Common.{arith}
use Rattle.std.proofs.lemmas.Result.{err_from_is_err_and}
use Rattle.resolver.proofs.Resolving.{none_before, resolves_none, resolves_held, resolves_found, resolves_refused, resolves_captured}
use Rattle.resolver.proofs.+resolve_at.Goals as goal

pub returns-then-n-eq0 : goal.returns-then-n-eq0
returns-then-n-eq0 t c = resolves_none _ _ _ _ _ _ c.requires.0 c.if-n-eq0.true

pub returns-in-Some : goal.returns-in-Some
returns-in-Some t c = resolves_held _ _ _ _ _ _ c.requires.0 _ c.in-Some.ensures

pub capture_of-requires : goal.capture_of-requires
capture_of-requires t c =
    let kept = c.requires.0 in (
      kept.captures_fit,
      rw c.frame_at-from.ensures.from (kept.from_within _ (omega arith)),
      none_before _ _ _ _ _ _ kept (omega arith) c.frame_at-from.ensures.from,
      kept.few_captures _ (omega arith),
    )

pub returns-in-Ok : goal.returns-in-Ok
returns-in-Ok t c = resolves_found _ _ _ _ _ _ c.requires.0 (c.in_default.ensures _ _) (omega arith) _ c.in-Ok.ensures.same

pub returns-in_err-source-in-Err : goal.returns-in_err-source-in-Err
returns-in_err-source-in-Err t c =
    let same = err_from_is_err_and c.from_residual.result c.from_residual.ensures.1 in
    rw (same.1, same.2) (resolves_refused _ _ _ _ _ _ c.requires.0 (omega arith) (c.in_default.ensures _ _) _ c.in-Err.ensures.counts c.in-Err.ensures.same _ _ _ c.in_err-source-in-Err.ensures)

pub returns-in_ok-source-in-Err : goal.returns-in_ok-source-in-Err
returns-in_ok-source-in-Err t c =
    resolves_captured _ _ _ _ _ _ c.requires.0 (omega arith) (c.in_default.ensures _ _) _ c.in-Err.ensures.counts c.in-Err.ensures.same _ _ _ c.in_ok-source-in-Err.ensures
    (omega (arith, c.requires.1, c.resolve_at.auto.captures)) _ _ c.add_capture.ensures
