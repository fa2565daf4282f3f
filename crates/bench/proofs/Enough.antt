-- "1,327 bytes are enough for any verdict": an input that is longer is refused by its first 1,327 bytes, in the same row at the same place, so
-- what is told of them is told of the whole input. The fields end at 1,326 bytes at most. Assumes nothing.
use Prim.Native.Nat.{ℕ, ◌+◌, ◌*◌, ◌≤◌, ◌<◌}
use mathlib.Core.Bool.{not}
use mathlib.Core.List.{List}
use mathlib.Core.Path.{◌≡◌, refl, ap, ap₂}
use native.Mathlib.Decide.{dec_le}
use native.Mathlib.Omega.{arith}
use lib.Dec.{eqb}
use lib.ListN.{length, get_or, take}
use lib.Seq.{take_all, get_or-take, length-take-le}
use borrow.Author.Tests.{lt-ltb, le-ltb, not-false}
use Rattle.std.specs.Prelude.{Ok, Err}
use Rattle.reading.specs.Refusals.{Check, ◌then◌, refuse_if, length_at, at02, at03, at04, in_steps, parts_of, field_refusal, out_of_range, last_refusal, fields_refusal, parts_refusal, refusal}
use Rattle.reading.specs.declared.CaseRefusal.TheVariants.{Tag, Length, Range}
use Rattle.reading.proofs.Fields.{not_refused, in_steps_lem, in_range, InRange, InSteps, Fields, field_passed, fields_passed}
use Rattle.reading.proofs.Known.{passed_fields}
use Rattle.bench.specs.Told.{Says, Told}

then_same : (first : Check) {y z : Check} → (first ≡ Ok tt → y ≡ z) → (first then y) ≡ (first then z)
then_same (Err r) later = refl
then_same (Ok _) later = later refl

module _ (b w : List ℕ) (b_long : 1327 ≤ length b) (w_long : 1327 ≤ length w) (same : (i : ℕ) → i < 1327 → get_or b i 0 ≡ get_or w i 0) where
  length-same : (at : ℕ) → at + 3 ≤ 1327 → length_at b at ≡ length_at w at
  unfolding length_at
  length-same at h = ap₂ (λ (low high : ℕ). low + 256 * high) (same (at + 1) (omega arith)) (same (at + 2) (omega arith))

  field_same :
      (at tag step least most : ℕ) → at + 3 + most ≤ 1327
      → field_refusal b at tag (in_steps step least most) ≡ field_refusal w at tag (in_steps step least most)
  unfolding field_refusal
  field_same at tag step least most h =
      rw (le-ltb (length b) (at + 3) (omega arith), le-ltb (length w) (at + 3) (omega arith), same at (omega arith), length-same at (omega arith))
      (then_same (refuse_if (not (eqb (get_or w at 0) tag)) (Tag at)) λ tagged.
      then_same (refuse_if (not (in_steps step least most (length_at w at))) (Length at)) λ fits.
      let size : InSteps step least most (length_at w at) = in_steps_lem _ _ _ _ (not-false _ (not_refused _ _ fits)) in
      rw (le-ltb (length b) (at + 3 + length_at w at) (omega arith), le-ltb (length w) (at + 3 + length_at w at) (omega arith)))

  at04_same : at03 w + 3 ≤ 1327 → at04 b ≡ at04 w
  unfolding at04
  at04_same h = rw (same 3 (omega arith)) (ap (λ (n : ℕ). at03 w + 3 + n) (length-same (at03 w) h))

  last_same : (at : ℕ) → at + 3 + 96 ≤ 1326 → last_refusal b at ≡ last_refusal w at
  unfolding last_refusal
  last_same at h =
      rw (field_same at 4 3 3 96 (omega arith), length-same at (omega arith))
      (then_same (field_refusal w at 4 (in_steps 3 3 96)) λ passed.
      let size : InSteps 3 3 96 (length_at w at) = (field_passed w at 4 3 3 96 passed).size in
      rw (lt-ltb (at + 3 + length_at w at) (length b) (omega arith), lt-ltb (at + 3 + length_at w at) (length w) (omega arith)))

  at04_low : InSteps 2 2 1024 (length_at w (at03 w)) → InRange (get_or w 3 0) (get_or w 4 0) → at04 w + 3 + 96 ≤ 1326
  unfolding at04
  at04_low size range = omega arith

  fields_same : fields_refusal b ≡ fields_refusal w
  unfolding fields_refusal
  fields_same =
      rw (field_same 0 1 1 2 2 (omega arith), same 3 (omega arith), same 4 (omega arith))
      (then_same (field_refusal w 0 1 (in_steps 1 2 2)) λ first.
      then_same (refuse_if (out_of_range (get_or w 3 0) (get_or w 4 0)) (Range 0)) λ ranged.
      let range : InRange (get_or w 3 0) (get_or w 4 0) = in_range _ _ (not_refused _ _ ranged) in
      rw (field_same 5 2 1 (3 * get_or w 3 0) (3 * get_or w 3 0) (omega arith), field_same (at03 w) 3 2 2 1024 (omega arith), at04_same (omega arith))
      (then_same (field_refusal w at02 2 (in_steps 1 (3 * get_or w 3 0) (3 * get_or w 3 0))) λ second.
      then_same (field_refusal w (at03 w) 3 (in_steps 2 2 1024)) λ third.
      let size : InSteps 2 2 1024 (length_at w (at03 w)) = (field_passed w (at03 w) 3 2 2 1024 third).size in
      last_same (at04 w) (at04_low size range)))

long_refused : (bytes : List ℕ) → 1327 ≤ length bytes → fields_refusal bytes ≡ Ok tt → ⊥
unfolding at04
long_refused bytes long e =
    let f : Fields bytes = fields_passed bytes e in
    omega (arith, f.ends, f.range.few_states, f.third.size.below, f.fourth.size.below)

whole_same : (input : List ℕ) → 1327 ≤ length input → fields_refusal (take 1327 input) ≡ fields_refusal input
whole_same input long =
    fields_same (take 1327 input) input (rw length-take-le (omega arith)) long (λ i h. get_or-take 1327 input i 0 h)

pub enough : (input : List ℕ) → refusal (take 1327 input) ≡ refusal input
unfolding refusal
enough input = go (dec_le 1327 (length input))
  where
    go : Dec (1327 ≤ length input) → (fields_refusal (take 1327 input) then parts_refusal (parts_of (take 1327 input))) ≡ (fields_refusal input then parts_refusal (parts_of input))
    go (yes long) = rw (whole_same input long) (then_same (fields_refusal input) λ e. absurd (long_refused input long e))
    go (no short) = rw (take_all 1327 input (omega arith))

-- what is told of the first 1,327 bytes is told of the whole input
pub told_of_all : {input out out' : List ℕ} {filled : ℕ} → Told (take 1327 input) out out' filled → Told input out out' filled
told_of_all {input} {out} {out'} {filled} told = go (dec_le 1327 (length input))
  where
    go : Dec (1327 ≤ length input) → Told input out out' filled
    go (no short) = rw (take_all 1327 input (omega arith)) at told
    go (yes long) =
        record {
          text = told.text;
          says = moved (refusal input) refl (rw (enough input) at told.says);
          printed = told.printed;
        }
      where
        moved : (check : Check) → refusal input ≡ check → Says check (parts_of (take 1327 input)) told.text → Says check (parts_of input) told.text
        moved (Err r) e says = says
        moved (Ok _) e says = absurd (long_refused input long (passed_fields input e))
