-- The rows on runs as the judge meets them: a walk that ends at r gives its row's refusal at r, or none; and a row that was asked alone,
-- before the later ones. Assumes nothing.
use Rattle.std.specs.Prelude.{⊤, Ok, Err}
use Prim.Native.Nat.{ℕ, ◌+◌, ◌≤◌, ◌<◌}
use mathlib.Core.Path.{◌≡◌, refl}
use mathlib.Core.Bool.{Bool, true, false}
use mathlib.Core.List.{List}
use native.Mathlib.Omega.{arith}
use lib.ListN.{length}
use borrow.Author.Tests.{lt-ltb, le-ltb, eq-eqb, ne_eqb}
use Rattle.meaning.specs.Table.{Table}
use Rattle.reading.specs.Lowest.{lowest}
use Rattle.reading.proofs.Lowest.{lowest_is, any_found, any_none}
use Rattle.judge.specs.declared.RunRefusal.{RunRefusal}
use Rattle.judge.specs.declared.RunRefusal.TheVariants.{NoLoop, TooLong}
use Rattle.judge.specs.Refusals.{RunCheck, refused_if, refused_at, stored_refusal, run_refusal}

module _ (bad : ℕ → Bool) (n : ℕ) (row : ℕ → RunRefusal) where
  -- a walk that passed every entry below r and stops there, since it is bad
  pub refused_here : (r : ℕ) → r < n → ((j : ℕ) → j < r → bad j ≡ false) → bad r ≡ true → Err (row r) ≡ refused_at bad n row (Ok tt)
  refused_here r h passed found =
      let there : r ≡ lowest bad n = lowest_is bad n r (omega arith) passed (λ _. found) in
      simp (any_found bad n r h found, ← there)

  -- a walk that passed them all
  pub none_refused : ((j : ℕ) → j < n → bad j ≡ false) → Ok tt ≡ refused_at bad n row (Ok tt)
  none_refused passed = simp (any_none bad n passed)

-- a row that refused alone refuses before the later ones
pub refused_alone : (b : Bool) (r e : RunRefusal) (later : RunCheck) → refused_if b r (Ok tt) ≡ Err e → refused_if b r later ≡ Err e
refused_alone true r e later p = p
refused_alone false r e later p = cc

-- a row that did not refuse, and the later ones
pub not_refused : (b : Bool) (r : RunRefusal) (later : RunCheck) (u : ⊤) → refused_if b r later ≡ Ok u → (b ≡ false) × (later ≡ Ok u)
not_refused false r later u e = (refl, e)
not_refused true r later u e = cc

module _ (t : Table) (track : List ℕ) (k m room : ℕ) where
  pub refused_50 : m ≡ 0 → run_refusal t track k m room ≡ Err NoLoop
  unfolding run_refusal
  refused_50 e = rw (eq-eqb m 0 e)

  pub refused_51 : (m ≡ 0 → ⊥) → length track < k + m → run_refusal t track k m room ≡ Err (TooLong (length track))
  unfolding run_refusal
  refused_51 e h = rw (ne_eqb m 0 e, lt-ltb (length track) (k + m) h)

  pub stored_run : 1 ≤ m → k + m ≤ length track → run_refusal t track k m room ≡ stored_refusal t track k m room
  unfolding run_refusal
  stored_run e h = rw (ne_eqb m 0 (λ z. omega arith), le-ltb (length track) (k + m) h)
