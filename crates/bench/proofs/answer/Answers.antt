-- The states behind the stem are at least those of the loop.
use Rattle.std.proofs.Common.{arith, sym, length-take-le}
use Rattle.bench.proofs.Says.{run_fits}
use Rattle.bench.proofs.answer.Goals as goal

pub slice_bounds-violated-end : goal.slice_bounds-violated-end
slice_bounds-violated-end c =
    sym (length-take-le _ _ (omega (arith, run_fits _ _ _ _ _ c.requires.workspace_room c.requires.track_room c.in-Ok-Some.field-0-is c.in-Ok-Some.ensures)))
