-- Two outcomes of the program for one input: what is printed is the same, to the byte, unless both show a run that breaks the rule.
-- Assumes nothing.
use Prim.Native.Nat.{ℕ}
use mathlib.Core.List.{List, ◌++◌}
use mathlib.Core.Logic.{◌⊎◌, inl, inr}
use mathlib.Core.Path.{◌≡◌, sym, ap, ap₂, ◌∙◌}
use lib.ListN.{length, drop}
use Rattle.std.specs.Prelude.{Ok, Err}
use Rattle.reading.specs.Parts.{Parts}
use Rattle.reading.specs.Refusals.{Check, parts_of, refusal}
use Rattle.text.specs.Text.{Printed}
use Rattle.bench.specs.Told.{ShowsRun, Says, Told}

same_print : {text text' out out₁ out₂ : List ℕ} {filled₁ filled₂ : ℕ} → Printed text out out₁ filled₁ → Printed text' out out₂ filled₂
    → text ≡ text' → (out₁ ≡ out₂) × (filled₁ ≡ filled₂)
same_print {out = out} a b e =
    let filled = a.counts ∙ (ap length e ∙ sym b.counts) in
    (a.stored ∙ (ap₂ (λ (t : List ℕ) (n : ℕ). t ++ drop n out) e filled ∙ sym b.stored), filled)

-- the same text, or two runs
says_alike : (c : Check) (p : Parts) (text text' : List ℕ) → Says c p text → Says c p text' → (text ≡ text') ⊎ (ShowsRun p text × ShowsRun p text')
says_alike (Err r) p text text' s s' = inl (s ∙ sym s')
says_alike (Ok _) p text text' (inl (s, holds)) (inl (s', holds')) = inl (s ∙ sym s')
says_alike (Ok _) p text text' (inl (s, holds)) (inr run) = absurd (holds run.track run.k run.m run.violates)
says_alike (Ok _) p text text' (inr run) (inl (s, holds)) = absurd (holds run.track run.k run.m run.violates)
says_alike (Ok _) p text text' (inr run) (inr run') = inr (run, run')

pub told_alike : (bytes out out₁ out₂ : List ℕ) (filled₁ filled₂ : ℕ) (a : Told bytes out out₁ filled₁) (b : Told bytes out out₂ filled₂)
    → ((out₁ ≡ out₂) × (filled₁ ≡ filled₂)) ⊎ (ShowsRun (parts_of bytes) a.text × ShowsRun (parts_of bytes) b.text)
told_alike bytes out out₁ out₂ filled₁ filled₂ a b =
    go (says_alike (refusal bytes) (parts_of bytes) a.text b.text a.says b.says)
  where
    go : (a.text ≡ b.text) ⊎ (ShowsRun (parts_of bytes) a.text × ShowsRun (parts_of bytes) b.text)
        → ((out₁ ≡ out₂) × (filled₁ ≡ filled₂)) ⊎ (ShowsRun (parts_of bytes) a.text × ShowsRun (parts_of bytes) b.text)
    go (inl e) = inl (same_print a.printed b.printed e)
    go (inr runs) = inr runs
