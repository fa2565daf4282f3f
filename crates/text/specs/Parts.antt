-- How the writer puts one part behind the other. No promise rests on it.
use Rattle.std.specs.Prelude.{ℕ, ◌+◌, List, ◌≡◌, length}
use Rattle.std.proofs.Math.Seq.{paste}
use Rattle.text.specs.declared.Text.{Text}

-- the part stands behind what was filled, in the same array, and the other bytes are as before
pub record Adds (part : List ℕ) (before after : Text) : Type 0 where
  pub stored : after.out.now ≡ paste before.out.now before.filled part (length part)
  pub filled : after.filled ≡ before.filled + length part
  pub same_array : after.out.ghost_name ≡ before.out.ghost_name
