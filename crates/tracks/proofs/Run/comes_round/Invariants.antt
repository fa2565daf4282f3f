-- `tracks::Run::comes_round` meets its contract. The loop's invariant: every entry of the loop passed is the one p further round. Assumes
-- nothing.
use Prim.Native.Nat.{ℕ, ◌+◌, ◌≤◌, ◌<◌}
use mathlib.Core.Path.{◌≡◌}
use Rattle.meaning.specs.Runs.{position}
use Rattle.tracks.specs.Entries.{entries}
use Rattle.tracks.proofs.Run.comes_round.Given as goal

abbrev pub invariant-loop-here : goal.invariant-loop-here
invariant-loop-here l =
    (j : ℕ) → j < l.here → l.self.stem ≤ j → entries l.self j ≡ entries l.self (position l.self.stem l.self.repeat (j + l.p))
