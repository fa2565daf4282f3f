-- `lanes::starts::skip` meets its contract. The loop's invariant: the edges passed leave lower states. Assumes nothing.
use Prim.Native.Nat.{ℕ, ◌≤◌, ◌<◌}
use Rattle.reading.specs.Parts.{from_of}
use Rattle.lanes.proofs.starts.skip.Given as goal

abbrev pub invariant-loop-at : goal.invariant-loop-at
invariant-loop-at l = (i : ℕ) → l.e ≤ i → i < l.at → from_of l.edges i < l.s
