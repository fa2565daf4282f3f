-- `scans::Setting::fitting` meets its contract: the ones, cut down by each temporal node passed. Assumes nothing.
use mathlib.Core.Path.{◌≡◌}
use Rattle.workspace.proofs.Scanning.{narrowed_by}
use Rattle.scans.proofs.Setting.fitting.Given as goal

abbrev pub invariant-loop-t : goal.invariant-loop-t
invariant-loop-t l = l.fit ≡ narrowed_by l.self.lanes.now l.ones l.place.state l.place.bits l.next l.t
