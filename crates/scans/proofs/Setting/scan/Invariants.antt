-- `scans::Setting::scan` meets its contract. The loop's invariant: every cursor passed that fits has a colour of the limit or above, up to
-- the bits at hand at this edge. Assumes nothing.
use Prim.Native.Nat.{◌+◌, ◌*◌, ◌≤◌, ◌<◌}
use Rattle.workspace.proofs.Scanning.{Passed}
use Rattle.scans.specs.Cases.{shade, line}
use Rattle.scans.proofs.Setting.scan.Given as goal

abbrev pub invariant-loop-edge : goal.invariant-loop-edge
invariant-loop-edge l = record {
  bits_low : l.bits < 16;
  from : l.cursor ≤ l.edge * 16 + l.bits;
  passed : Passed (line l.self l.cursors) l.workspace (shade l.limit) l.cursor (l.edge * 16 + l.bits);
}
