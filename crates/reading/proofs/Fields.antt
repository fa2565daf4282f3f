-- What passing the rows of a field tells: its head, its tag, its length and its value are there and right; and what passing
-- all of 10 to 14 tells of the four fields, as one record. Assumes nothing.
use Rattle.std.specs.Prelude.{Ok, Err}
use Prim.Native.Nat.{ℕ, ◌+◌, ◌*◌, ◌%◌, ◌≤◌, ◌<◌}
use mathlib.Core.Path.{◌≡◌, refl}
use mathlib.Core.Bool.{Bool, true, false, not, ◌&&◌, ◌||◌, true≢false, false≢true}
use mathlib.Core.List.{List}
use native.Mathlib.Omega.{arith}
use lib.Dec.{ltb, leb, eqb}
use lib.ListN.{length, get_or}
use borrow.Author.Tests.{ltb-false, leb-true, eqb-true, not-false}
use Rattle.reading.specs.Refusals.{◌then◌, refuse_if, length_at, at02, at03, at04, in_steps, field_refusal, out_of_range, last_refusal, fields_refusal}
use Rattle.reading.specs.declared.CaseRefusal.{CaseRefusal}
use Rattle.reading.specs.declared.CaseRefusal.TheVariants.{Range}
use Rattle.reading.specs.Refusals.{Check}

-- ---- rows, one after the other

pub refused_not_passed : (r : CaseRefusal) → ◌≡◌ {A = Check} (Err r) (Ok tt) → ⊥
refused_not_passed r e = let z : ◌≡◌ {A = ℕ} 0 1 = cc in omega arith

pub then_first : (a b : Check) → (a then b) ≡ Ok tt → a ≡ Ok tt
then_first (Err r) b e = e
then_first (Ok _) b e = refl

pub then_later : (a b : Check) → (a then b) ≡ Ok tt → b ≡ Ok tt
then_later (Err r) b e = absurd (refused_not_passed r e)
then_later (Ok _) b e = e

pub not_refused : (t : Bool) (r : CaseRefusal) → refuse_if t r ≡ Ok tt → t ≡ false
not_refused true r e = absurd (refused_not_passed r e)
not_refused false r e = refl

-- ---- one field

pub and_first : (a b : Bool) → (a && b) ≡ true → a ≡ true
and_first true b e = refl
and_first false b e = e

pub and_second : (a b : Bool) → (a && b) ≡ true → b ≡ true
and_second true b e = e
and_second false b e = absurd (false≢true e)

pub or_first : (a b : Bool) → (a || b) ≡ false → a ≡ false
or_first true b e = e
or_first false b e = refl

pub or_second : (a b : Bool) → (a || b) ≡ false → b ≡ false
or_second true b e = absurd (true≢false e)
or_second false b e = e

pub record InSteps (step least most n : ℕ) : Type 0 where
  pub multiple : n % step ≡ 0
  pub above : least ≤ n
  pub below : n ≤ most

pub in_steps_lem : (step least most n : ℕ) → in_steps step least most n ≡ true → InSteps step least most n
unfolding in_steps
in_steps_lem step least most n e =
    record {
      multiple = eqb-true _ _ (and_first _ _ (and_first _ _ e));
      above = leb-true _ _ (and_second (eqb (n % step) 0) _ (and_first _ _ e));
      below = leb-true _ _ (and_second (eqb (n % step) 0 && leb least n) _ e);
    }

pub record InRange (states atoms : ℕ) : Type 0 where
  pub some_state : 1 ≤ states
  pub few_states : states ≤ 64
  pub few_atoms : atoms ≤ 16

pub in_range : (states atoms : ℕ) → out_of_range states atoms ≡ false → InRange states atoms
unfolding out_of_range
in_range states atoms e =
    record {
      some_state = ltb-false _ _ (or_first _ _ (or_first _ _ e));
      few_states = ltb-false _ _ (or_second (ltb states 1) _ (or_first _ _ e));
      few_atoms = ltb-false _ _ (or_second (ltb states 1 || ltb 64 states) _ e);
    }

pub record Field (bytes : List ℕ) (at step least most : ℕ) : Type 0 where
  pub head : at + 3 ≤ length bytes
  pub size : InSteps step least most (length_at bytes at)
  pub value : at + 3 + length_at bytes at ≤ length bytes

pub field_passed : (bytes : List ℕ) (at tag step least most : ℕ) → field_refusal bytes at tag (in_steps step least most) ≡ Ok tt
    → Field bytes at step least most
unfolding field_refusal
field_passed bytes at tag step least most e =
    let e₁ = then_later (refuse_if (ltb (length bytes) (at + 3)) _) _ e in
    let e₂ = then_later (refuse_if (not (eqb (get_or bytes at 0) tag)) _) _ e₁ in
    record {
      head = ltb-false _ _ (not_refused _ _ (then_first _ _ e));
      size = in_steps_lem _ _ _ _ (not-false _ (not_refused _ _ (then_first _ _ e₂)));
      value = ltb-false _ _ (not_refused _ _ (then_later (refuse_if (not (in_steps step least most (length_at bytes at))) _) _ e₂));
    }

-- field 01 is there: five bytes
pub first_there : (bytes : List ℕ) → field_refusal bytes 0 1 (in_steps 1 2 2) ≡ Ok tt → (i : ℕ) → i < 5 → i < length bytes
first_there bytes e i h = let f = field_passed bytes 0 1 1 2 2 e in omega (arith, f.value, f.size.above)

-- ---- all four

pub record Fields (bytes : List ℕ) : Type 0 where
  pub range : InRange (get_or bytes 3 0) (get_or bytes 4 0)
  pub second : Field bytes at02 1 (3 * get_or bytes 3 0) (3 * get_or bytes 3 0)
  pub third : Field bytes (at03 bytes) 2 2 1024
  pub fourth : Field bytes (at04 bytes) 3 3 96
  pub ends : length bytes ≤ at04 bytes + 3 + length_at bytes (at04 bytes)

pub fields_passed : (bytes : List ℕ) → fields_refusal bytes ≡ Ok tt → Fields bytes
unfolding fields_refusal last_refusal
fields_passed bytes e =
    let e₁ = then_later (field_refusal bytes 0 1 (in_steps 1 2 2)) _ e in
    let e₂ = then_later (refuse_if (out_of_range (get_or bytes 3 0) (get_or bytes 4 0)) (Range 0)) _ e₁ in
    let e₃ = then_later (field_refusal bytes at02 2 (in_steps 1 (3 * get_or bytes 3 0) (3 * get_or bytes 3 0))) _ e₂ in
    let e₄ = then_later (field_refusal bytes (at03 bytes) 3 (in_steps 2 2 1024)) _ e₃ in
    record {
      range = in_range _ _ (not_refused _ _ (then_first _ _ e₁));
      second = field_passed _ _ _ _ _ _ (then_first _ _ e₂);
      third = field_passed _ _ _ _ _ _ (then_first _ _ e₃);
      fourth = field_passed _ _ _ _ _ _ (then_first _ _ e₄);
      ends = ltb-false _ _ (not_refused _ _ (then_later (field_refusal bytes (at04 bytes) 4 (in_steps 3 3 96)) _ e₄));
    }
