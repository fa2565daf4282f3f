-- The answers of `admit` and `state`, from what their callees gave. Assumes nothing.
use Rattle.std.specs.Prelude.{Ok, Err}
use Prim.Native.Nat.{ℕ, ◌≤◌, ◌<◌}
use mathlib.Core.Path.{◌≡◌, refl}
use mathlib.Core.List.{List}
use native.Mathlib.Omega.{arith}
use borrow.Author.Tests.{lt-ltb, le-ltb}
use Rattle.reading.specs.Parts.{Parts}
use Rattle.reading.specs.Refusals.{parts_of, fields_refusal, parts_refusal, refusal, shape_of, read_as, case_of}
use Rattle.reading.specs.Answers.{record_of, state_of}
use Rattle.reading.specs.declared.CaseRefusal.{CaseRefusal}
use Rattle.reading.specs.Refusals.{Check}
use Rattle.reading.specs.declared.Shape.{Shape}
use Rattle.reading.specs.declared.StateRefusal.{StateRefusal}
use Rattle.reading.proofs.Known.{known}

-- once the fields are right, what the parts give is the answer
module _ (bytes : List ℕ) (passed : fields_refusal bytes ≡ Ok tt) (p : Parts) (same : p ≡ parts_of bytes) where
  pub read_refused : (r : CaseRefusal) → parts_refusal p ≡ Err r → case_of bytes ≡ Err r
  unfolding case_of refusal
  read_refused r e = simp (passed, ← same, e)

  pub read_passed : (shape : Shape) → shape ≡ shape_of p → parts_refusal p ≡ Ok tt → case_of bytes ≡ Ok shape
  unfolding case_of refusal
  read_passed shape is e = simp (passed, ← same, e, is)

-- a case that is refused is refused as the table says
pub case_refused : (bytes : List ℕ) (r : CaseRefusal) → case_of bytes ≡ Err r → refusal bytes ≡ Err r
unfolding case_of
case_refused bytes r e = go (refusal bytes) e
  where
    go : (c : Check) → read_as c (shape_of (parts_of bytes)) ≡ Err r → c ≡ Err r
    go (Err r') q = cc
    go (Ok _) q = absurd (let z : ◌≡◌ {A = ℕ} 0 1 = cc in omega arith)

pub state_refused : (bytes : List ℕ) (s : ℕ) (r : CaseRefusal) → case_of bytes ≡ Err r → Err (StateRefusal.Case r) ≡ state_of bytes s
unfolding state_of
state_refused bytes s r e = rw (case_refused bytes r e) refl

module _ (bytes : List ℕ) (s : ℕ) (shape : Shape) (e : case_of bytes ≡ Ok shape) where
  pub state_there : s < shape.states → Ok (record_of (parts_of bytes).state_list s) ≡ state_of bytes s
  unfolding state_of
  state_there h =
      let k = known bytes shape e in
      simp (k.passed, lt-ltb s (parts_of bytes).states (omega (arith, k.states_is)))

  pub state_none : shape.states ≤ s → Err (StateRefusal.NoState shape.states) ≡ state_of bytes s
  unfolding state_of
  state_none h =
      let k = known bytes shape e in
      simp (k.passed, le-ltb s (parts_of bytes).states (omega (arith, k.states_is)), k.states_is)
