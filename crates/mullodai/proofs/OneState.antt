-- What the one-state reading promises. `StateOutcome` is, by name, the whole `ensures` of `mullodai_state`; each line below speaks of
-- any answer r that it allows. Assumes nothing.
use Rattle.std.specs.Prelude.{Ok, Err}
use Prim.Native.Nat.{ℕ, ◌≤◌, ◌<◌}
use mathlib.Core.Path.{◌≡◌, refl, sym, ◌∙◌}
use mathlib.Core.List.{List}
use native.Mathlib.Omega.{arith}
use borrow.Author.Tests.{lt-ltb, le-ltb}
use Rattle.reading.specs.Parts.{label_of, flags_of}
use Rattle.reading.specs.Refusals.{parts_of, refusal}
use Rattle.reading.specs.Answers.{number_of, place_of, record_of, state_of}
use Rattle.reading.specs.Night.{night}
use Rattle.reading.specs.declared.CaseRefusal.{CaseRefusal}
use Rattle.reading.proofs.Known.{admitted}
use Rattle.reading.proofs.Examples.{night_passes, night_states}
use Rattle.mullodai.specs.Outcomes.{StateOutcome, state_answer, no_record}
use Rattle.mullodai.specs.declared.StateAnswer.{StateAnswer}

-- ---- one state at a time

-- two outcomes for one input coincide
pub one_state_outcome : (bytes : List ℕ) (s : ℕ) (r r' : StateAnswer) → StateOutcome bytes s r → StateOutcome bytes s r' → r ≡ r'
one_state_outcome bytes s r r' e e' = e ∙ sym e'

module _ (bytes : List ℕ) (s : ℕ) (r : StateAnswer) (outcome : StateOutcome bytes s r) where
  -- of a refused case: the refusal's number and place, and a record of zeros
  pub case_refused : (q : CaseRefusal) → refusal bytes ≡ Err q
      → (r.number ≡ number_of q) × (r.place ≡ place_of q) × (r.state ≡ no_record)
  unfolding state_answer state_of
  case_refused q e = simp (outcome, e) (refl, refl, refl)

  -- of a case that is read, a state that it lacks: 42 and S, and a record of zeros
  pub state_lacking : refusal bytes ≡ Ok tt → (parts_of bytes).states ≤ s
      → (r.number ≡ 42) × (r.place ≡ (parts_of bytes).states) × (r.state ≡ no_record)
  unfolding state_answer state_of
  state_lacking e h = simp (outcome, e, le-ltb s (parts_of bytes).states h) (refl, refl, refl)

  -- a state that it has: 0, place 0, and field 02's label and flags, of which the flags are 0 or 1
  pub state_read : refusal bytes ≡ Ok tt → s < (parts_of bytes).states
      → (r.number ≡ 0) × (r.place ≡ 0)
      × (r.state.label ≡ label_of (parts_of bytes).state_list s)
      × (r.state.initial ≡ flags_of (parts_of bytes).state_list s)
      × (r.state.initial ≤ 1)
  unfolding state_answer state_of record_of
  state_read e h =
      simp (outcome, e, lt-ltb s (parts_of bytes).states h) (refl, refl, refl, refl, (admitted bytes e).flags_low s h)

-- "A bench that refuses everything": on the night update, no outcome allowed for one of its three states is a refusal
pub night_state_not_refused : (s : ℕ) → s < 3 → (r : StateAnswer) → StateOutcome night s r → r.number ≡ 0
night_state_not_refused s h r outcome = (state_read night s r outcome night_passes (omega (arith, night_states))).0
