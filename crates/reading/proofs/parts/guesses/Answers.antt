-- 2 to the power T is at most 16, so the shift drops nothing.
use Rattle.std.proofs.Common.{◌∙◌}
use native.Mathlib.Nat.{one-mul, le_trans, le_of_eq}
use native.Mathlib.Omega.{arith}
use lib.Pow.{shl_exact, pow_mono}
use Rattle.reading.proofs.parts.guesses.Goals as goal

pub returns-clause-few : goal.returns-clause-few
returns-clause-few c = le_trans (le_of_eq (shl_exact {a = 1} 1 _ 64 (omega arith) (omega arith) ∙ one-mul _)) (pow_mono c.requires)
