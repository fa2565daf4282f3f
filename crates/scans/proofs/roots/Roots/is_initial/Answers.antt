-- `scans::roots::Roots::is_initial` meets its contract: the rule's row has, as bit b, the rule's truth with bits b. Assumes nothing.
use native.Mathlib.Omega.{arith}
use mathlib.Core.Path.{sym, ◌∙◌}
use Rattle.workspace.proofs.Roots.{rooting_guesses, root_true}
use Rattle.scans.proofs.roots.Roots.is_initial.Goals as goal

pub is_set-requires : goal.is_set-requires
is_set-requires c = omega (arith, c.if-self-b.false, rooting_guesses c.requires.0)

pub returns-then-is_set : goal.returns-then-is_set
returns-then-is_set c of h = sym (root_true of _ _ h c.if-self-b.false (rw c.from.ensures at (sym c.is_set.ensures ∙ c.if-is_set.true)))
