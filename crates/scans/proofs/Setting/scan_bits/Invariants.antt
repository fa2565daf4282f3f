-- `scans::Setting::scan_bits` meets its contract. The loop's invariant: every set bit passed has a colour of the limit or above. The measure
-- is the bits left. Assumes nothing.
use Prim.Native.Nat.{◌-◌, ◌≤◌}
use Rattle.workspace.proofs.Scanning.{Spared}
use Rattle.scans.specs.Cases.{shade, colour_with}
use Rattle.scans.proofs.Setting.scan_bits.Given as goal

abbrev pub invariant-loop-bits : goal.invariant-loop-bits
invariant-loop-bits l = record {
  from : l.from.bits ≤ l.b;
  low : l.b ≤ 16;
  spared : Spared l.fit (colour_with l.self l.workspace l.from) (shade l.limit) l.from.bits l.b;
}

abbrev pub decreases-loop-bits : goal.decreases-loop-bits
decreases-loop-bits l = 16 - l.b
