-- Where the numbers of the operators lie: plain ones below 6, the atom at 1; temporal ones from 6 to 11, and from 7 on where they are not
-- X. Assumes nothing.
use Prim.Native.Nat.{◌≤◌, ◌<◌}
use mathlib.Core.Path.{◌≡◌, refl}
use native.Mathlib.Omega.{arith}
use Rattle.rule.specs.Operator.{plain_code, temporal_code}
use Rattle.rule.specs.declared.Plain as P
use Rattle.rule.specs.declared.Plain.TheVariants.{True, Atom, Not, And, Or, Implies}
use Rattle.rule.specs.declared.Temporal as T
use Rattle.rule.specs.declared.Temporal.TheVariants.{X, F, G, U, R, W}

pub plain_code_below : (operator : P.Plain) → plain_code operator < 6
plain_code_below True = omega arith
plain_code_below Atom = omega arith
plain_code_below Not = omega arith
plain_code_below And = omega arith
plain_code_below Or = omega arith
plain_code_below Implies = omega arith

pub temporal_code_within : (operator : T.Temporal) → (6 ≤ temporal_code operator) × (temporal_code operator < 12)
temporal_code_within X = (omega arith, omega arith)
temporal_code_within F = (omega arith, omega arith)
temporal_code_within G = (omega arith, omega arith)
temporal_code_within U = (omega arith, omega arith)
temporal_code_within R = (omega arith, omega arith)
temporal_code_within W = (omega arith, omega arith)

pub atom_code : (operator : P.Plain) → plain_code operator ≡ 1 → operator ≡ Atom
atom_code True e = absurd (omega arith)
atom_code Atom e = refl
atom_code Not e = absurd (omega arith)
atom_code And e = absurd (omega arith)
atom_code Or e = absurd (omega arith)
atom_code Implies e = absurd (omega arith)

pub promise_code : (operator : T.Temporal) → (operator ≡ X → ⊥) → 7 ≤ temporal_code operator
promise_code X not_next = absurd (not_next refl)
promise_code F not_next = omega arith
promise_code G not_next = omega arith
promise_code U not_next = omega arith
promise_code R not_next = omega arith
promise_code W not_next = omega arith
