-- Laws of tests: what it is for an or, an and, a not to be true, and when two tests are equal. Assumes nothing.
use mathlib.Core.Path.{◌≡◌, refl, sym, subst}
use mathlib.Core.Bool.{Bool, true, false, ◌&&◌, ◌||◌}
use mathlib.Core.Logic.{◌⊎◌, inl, inr, ◌↔◌}
use lib.Dec.{T}

pub T-along : {a b : Bool} → a ≡ b → T a → T b
T-along p t = subst T p t

-- a truth value that is true is `true`
pub T_is_true : (b : Bool) → T b → b ≡ true
T_is_true true t = refl
T_is_true false t = absurd t

pub T-or : (a b : Bool) → T (a || b) → T a ⊎ T b
T-or true b t = inl tt
T-or false b t = inr t

pub T-or-l : (a b : Bool) → T a → T (a || b)
T-or-l true b t = tt
T-or-l false b t = absurd t

pub T-or-r : (a b : Bool) → T b → T (a || b)
T-or-r true b t = tt
T-or-r false b t = t

pub T_and : (a b : Bool) → T (a && b) → T a × T b
T_and true b t = (tt, t)
T_and false b t = absurd t

pub and_T : (a b : Bool) → T a → T b → T (a && b)
and_T true b s t = t
and_T false b s t = absurd s

-- true or false, with the fact
pub T-or-not : (a : Bool) → T a ⊎ (T a → ⊥)
T-or-not true = inl tt
T-or-not false = inr (λ t. t)

-- two tests that are true together are equal
pub T_ext : (a b : Bool) → (T a → T b) → (T b → T a) → a ≡ b
T_ext true true f g = refl
T_ext true false f g = absurd (f tt)
T_ext false true f g = absurd (g tt)
T_ext false false f g = refl

pub ↔_trans : {A B C : Type 0} → A ↔ B → B ↔ C → A ↔ C
↔_trans p q = (λ a. q.0 (p.0 a), λ c. p.1 (q.1 c))

pub ↔_along : {a b : Bool} → a ≡ b → T a ↔ T b
↔_along p = (T-along p, T-along (sym p))

pub ↔_sym : {A B : Type 0} → A ↔ B → B ↔ A
↔_sym p = (p.1, p.0)
