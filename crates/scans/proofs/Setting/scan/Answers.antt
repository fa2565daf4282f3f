-- `scans::Setting::scan` meets its contract. The loop's invariant: every cursor passed that fits has a colour of the limit or above, up to
-- the bits at hand at this edge. Assumes nothing.
use mathlib.Core.Path.{◌≡◌, sym, ◌∙◌}
use Rattle.workspace.proofs.Setting.{code_of}
use Rattle.workspace.proofs.Passing.{turn_inside, turn_stops}
use Rattle.scans.specs.Cases.{shade}
use Rattle.scans.proofs.Setting.scan.Goals as goal

pub scan_bits-requires : goal.scan_bits-requires
scan_bits-requires c =
    turn_inside _ _ (shade c.args.limit) _ c.args.cursor c.requires _ c.loop-edge.bits _ _ c.loop-edge-test.true c.loop-edge.invariant.bits_low
    c.edge_at-state.ensures.to c.fitting-fit.ensures

pub returns-in-Some : goal.returns-in-Some
returns-in-Some c =
    let found = c.in-Some in
    let code_is : code_of c.edge_at-state.result.to found.place.bits c.args.cursors.next ≡ c.code.result =
    sym (c.code.ensures ∙ rw (found.ensures.state, found.ensures.waiting)) in
    rw code_is at
    (turn_stops _ _ _ _ _ c.requires _ _ _ _ c.loop-edge-test.true c.loop-edge.invariant.bits_low c.edge_at-state.ensures.to
    c.fitting-fit.ensures c.loop-edge.invariant.passed _ found.ensures.lowest found.place.bits_fit c.loop-edge.invariant.from)
