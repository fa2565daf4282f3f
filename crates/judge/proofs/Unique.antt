-- Any two outcomes that the judge's promise allows for one input coincide: the answer and every entry of the scratch. Assumes nothing.
use Rattle.std.specs.Prelude.{Ok, Err}
use Prim.Native.Nat.{ℕ}
use mathlib.Core.Path.{◌≡◌, sym, ◌∙◌}
use mathlib.Core.List.{List}
use mathlib.Core.Logic.{◌⊎◌, inl, inr}
use lib.ListN.{length}
use Rattle.meaning.specs.Formula.{Formula}
use Rattle.meaning.specs.Table.{Table}
use Rattle.reading.specs.Parts.{table_of}
use Rattle.reading.specs.Refusals.{Check, parts_of, refusal}
use Rattle.judge.specs.declared.Verdict.TheVariants.{Satisfied, Violated}
use Rattle.judge.specs.Refusals.{RunCheck, run_refusal}
use Rattle.judge.specs.Judged.{Answer, Told, outcome, Judged}

module _ (before : List ℕ) (a b : Answer) (s t : List ℕ) where
  abbrev Same : Type 0
  Same = (a ≡ b) × (s ≡ t)

  -- a run violates or not
  same_verdict : {B : Type 0} → ((a ≡ Ok Violated) × B) ⊎ ((a ≡ Ok Satisfied) × (B → ⊥)) → ((b ≡ Ok Violated) × B) ⊎ ((b ≡ Ok Satisfied) × (B → ⊥))
      → a ≡ b
  same_verdict (inl (p, v)) (inl (q, w)) = p ∙ sym q
  same_verdict (inl (p, v)) (inr (q, w)) = absurd (w v)
  same_verdict (inr (p, v)) (inl (q, w)) = absurd (v w)
  same_verdict (inr (p, v)) (inr (q, w)) = p ∙ sym q

  same_told : {table : Table} {φ : Formula} {track : List ℕ} {k m : ℕ} → Told table φ track k m before a s
      → Told table φ track k m before b t → Same
  same_told x y = (same_verdict x.verdict y.verdict, x.cleared ∙ sym y.cleared)

  same_outcome : (case : Check) (run : RunCheck) (X Y : Type 0) → (X → Y → Same) → outcome case run before a s X
      → outcome case run before b t Y → Same
  same_outcome (Err r) run X Y same (p, q) (p', q') = (p ∙ sym p', q ∙ sym q')
  same_outcome (Ok _) (Err r) X Y same (p, q) (p', q') = (p ∙ sym p', q ∙ sym q')
  same_outcome (Ok _) (Ok _) X Y same x y = same x y

  pub judged_unique : (bytes track : List ℕ) (k m : ℕ) → Judged bytes track k m before a s → Judged bytes track k m before b t → Same
  unfolding Judged
  judged_unique bytes track k m =
      same_outcome (refusal bytes) (run_refusal (table_of (parts_of bytes)) track k m (length before)) _ _ same_told
