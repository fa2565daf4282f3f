-- What was taken fits the room, which keeps its length, and is what the reader had first. The measure is the room that is left.
use Rattle.std.proofs.Common.{◌≡◌, ◌-◌, ◌≤◌, length, take}
use Rattle.std.specs.Io.KnownBytes.{Consumes}
use Rattle.bench.proofs.read_case.Given as goal

abbrev pub invariant-loop-taken : goal.invariant-loop-taken
invariant-loop-taken g l = record {
  fits : l.taken ≤ length l.room;
  same : length l.room ≡ length l.initial.room;
  consumed : Consumes (g.R.Read.remaining l.initial.from) (g.R.Read.remaining l.from) (take l.taken l.room);
}

abbrev pub decreases-loop-taken : goal.decreases-loop-taken
decreases-loop-taken g l = length l.room - l.taken
