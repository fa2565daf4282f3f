-- The numbers of the operators: "0 true, 1 atom, 2 not, 3 and, 4 or, 5 implies, 6 X, 7 F, 8 G, 9 U, 10 R, 11 W". No promise
-- of an entry rests on this; contracts cite it.
use Rattle.std.specs.Prelude.{◌≡◌, ℕ, ◌<◌, Result, MatchResult}
use Rattle.rule.specs.declared.Plain as P
use Rattle.rule.specs.declared.Plain.TheVariants.{True, Atom, Not, And, Or, Implies}
use Rattle.rule.specs.declared.Temporal as T
use Rattle.rule.specs.declared.Temporal.TheVariants.{X, F, G, U, R, W}
use Rattle.rule.specs.declared.Operator.{Operator}
use Rattle.rule.specs.declared.Operator.TheVariants.{Plain, Temporal}
use Rattle.rule.specs.declared.UnknownOperator.{UnknownOperator}

abbrev pub plain_code : P.Plain → ℕ
plain_code True = 0
plain_code Atom = 1
plain_code Not = 2
plain_code And = 3
plain_code Or = 4
plain_code Implies = 5

abbrev pub temporal_code : T.Temporal → ℕ
temporal_code X = 6
temporal_code F = 7
temporal_code G = 8
temporal_code U = 9
temporal_code R = 10
temporal_code W = 11

abbrev pub code : Operator → ℕ
code (Plain operator) = plain_code operator
code (Temporal operator) = temporal_code operator

-- the result is the operator with this number, or an error with a number that no operator has
abbrev pub Decodes : ℕ → Result Operator UnknownOperator → Type 0
Decodes number r = MatchResult r (λ operator. code operator ≡ number) (λ e. (e.0 ≡ number) × (11 < number))
