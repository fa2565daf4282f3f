-- Positions along the endless path of a stem of k and a loop of m, m at least 1: each is an entry, after the last comes entry k, the
-- entry after a position's is the next position's, and turns of the loop change nothing. Assumes nothing.
use Prim.Native.Nat.{ℕ, zero, suc, ◌+◌, ◌*◌, ◌-◌, ◌%◌, ◌≤◌, ◌<◌}
use mathlib.Core.Path.{◌≡◌, sym, ap, ◌∙◌}
use native.Mathlib.Nat.{mod_self, mod-lt, suc-mod, add_assoc, suc-mul}
use native.Mathlib.Decide.{dec_lt}
use native.Mathlib.Omega.{arith}
use Rattle.meaning.specs.Runs.{position}
use Rattle.meaning.proofs.Loops.{position_in, position_after, position_loop, position_repeats}

-- the first n turns of the loop
pub position_turns : (k m j : ℕ) → k ≤ j → (n : ℕ) → position k m (j + n * m) ≡ position k m j
position_turns k m j h zero = ap (position k m) (omega arith)
position_turns k m j h (suc n) =
    ap (position k m) (rw suc-mul (sym (add_assoc j (n * m) m)))
    ∙ (position_repeats k m (j + n * m) (omega arith) ∙ position_turns k m j h n)

-- from entry p to entry q of k+m entries
pub data Onward (k m p q : ℕ) : Type 0 where
  on : suc p < k + m → q ≡ suc p → Onward k m p q
  back : p ≡ k + m - 1 → q ≡ k → Onward k m p q

module _ (k m : ℕ) (loop : 1 ≤ m) where
  pub position_closes : position k m (k + m) ≡ k
  position_closes =
      let turn : k + m - k ≡ m = omega arith in
      position_after k m (k + m) (omega arith) ∙ rw (turn, mod_self) (omega arith)

  pub position_below : (i : ℕ) → position k m i < k + m
  position_below i = go (dec_lt i (k + m))
    where
      go : Dec (i < k + m) → position k m i < k + m
      go (yes l) = rw (position_in k m i l) l
      go (no l) = rw (position_after k m i (omega arith)) (omega (arith, mod-lt (i - k) loop))

  pub position_next : (i : ℕ) → position k m (suc (position k m i)) ≡ position k m (suc i)
  position_next i = go (dec_lt i (k + m))
    where
      go : Dec (i < k + m) → position k m (suc (position k m i)) ≡ position k m (suc i)
      go (yes l) = rw (position_in k m i l)
      go (no l) =
          let here : position k m i ≡ k + (i - k) % m = position_after k m i (omega arith) in
          let more : suc (k + (i - k) % m) - k ≡ suc ((i - k) % m) = omega arith in
          let less : suc i - k ≡ suc (i - k) = omega arith in
          ap (λ (p : ℕ). position k m (suc p)) here
          ∙ (position_loop k m (suc (k + (i - k) % m)) (omega arith)
          ∙ (ap (λ (x : ℕ). k + x % m) more
          ∙ (ap (λ (x : ℕ). k + x) (sym (suc-mod (i - k) m))
          ∙ (ap (λ (x : ℕ). k + x % m) (sym less) ∙ sym (position_loop k m (suc i) (omega arith))))))

  -- the next position is the next entry, or entry k after the last
  pub position_onward : (i : ℕ) → Onward k m (position k m i) (position k m (suc i))
  position_onward i = go (dec_lt (suc (position k m i)) (k + m))
    where
      go : Dec (suc (position k m i) < k + m) → Onward k m (position k m i) (position k m (suc i))
      go (yes l) = on l (sym (position_next i) ∙ position_in k m (suc (position k m i)) l)
      go (no l) =
          let last : suc (position k m i) ≡ k + m = omega (arith, position_below i) in
          back (omega arith) (sym (position_next i) ∙ (ap (position k m) last ∙ position_closes))
