-- After the last entry of a run comes entry k. Assumes nothing.
use Prim.Native.Nat.{ℕ, ◌+◌, ◌≤◌}
use mathlib.Core.Path.{◌≡◌, ap, ◌∙◌}
use Rattle.meaning.specs.Runs.{position}
use Rattle.meaning.proofs.Positions.{position_closes}

pub position_ends : (k m i : ℕ) → 1 ≤ m → i ≡ k + m → position k m i ≡ k
position_ends k m i h e = ap (position k m) e ∙ position_closes k m h
