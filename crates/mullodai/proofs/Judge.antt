-- What the exported judge promises. `JudgeOutcome` is, by name, the whole `ensures` of
-- `mullodai_judge`; each line below speaks of any answer r, with the scratch then left, that it allows. Assumes nothing.
use Rattle.std.specs.Prelude.{Ok, Err}
use Prim.Native.Nat.{ℕ, ◌+◌, ◌≤◌}
use mathlib.Core.Path.{◌≡◌, refl, sym, ap, ◌∙◌}
use mathlib.Core.List.{List, ◌++◌}
use mathlib.Core.Logic.{⊎_elim, ◌↔◌}
use native.Mathlib.Omega.{arith}
use lib.ListN.{length, drop, replicate}
use Rattle.meaning.specs.Runs.{Violates}
use Rattle.reading.specs.Parts.{table_of, rule_of}
use Rattle.reading.specs.Refusals.{parts_of, refusal}
use Rattle.reading.specs.Answers.{number_of, place_of}
use Rattle.reading.specs.declared.CaseRefusal.{CaseRefusal}
use Rattle.judge.specs.Refusals.{RunCheck, run_refusal}
use Rattle.judge.specs.Judged.{Judged, Told, outcome, run_number, run_place}
use Rattle.judge.specs.declared.RunRefusal.{RunRefusal}
use Rattle.judge.specs.Judged as judge
use Rattle.judge.specs.declared.RunRefusal.TheVariants.{NoLoop, TooLong, NoState, NotInitial, NoEdge, NoRoom}
use Rattle.judge.proofs.Unique.{judged_unique}
use Rattle.judge.proofs.Passed.{free, free_room, run_passes}
use Rattle.mullodai.specs.Outcomes.{answer_at, judge_answer, JudgeOutcome}
use Rattle.mullodai.specs.declared.Answer.{Answer}

-- two outcomes for one input coincide: the answer, and every entry of the scratch
pub one_judge_outcome : (bytes track : List ℕ) (k m : ℕ) (scratch : List ℕ) (r r' : Answer) (after after' : List ℕ)
    → JudgeOutcome bytes track k m scratch r after → JudgeOutcome bytes track k m scratch r' after' → (r ≡ r') × (after ≡ after')
one_judge_outcome bytes track k m scratch r r' after after' (a, o, e) (a', o', e') =
    let same = judged_unique scratch a a' after after' bytes track k m o o' in
    (e ∙ ap (judge_answer) same.0 ∙ sym e', same.1)

module _ (bytes track : List ℕ) (k m : ℕ) (scratch : List ℕ) (r : Answer) (after : List ℕ)
    (allowed : JudgeOutcome bytes track k m scratch r after) where
  -- of a refused case: the refusal's number and place, and the scratch as it was lent
  pub case_refused : (q : CaseRefusal) → refusal bytes ≡ Err q → (r ≡ answer_at (number_of q) (place_of q)) × (after ≡ scratch)
  unfolding Judged
  case_refused q e =
      let (a, o, s) = allowed in
      let known = rw e at o in
      (s ∙ ap judge_answer known.0, known.1)

  module _ (read : refusal bytes ≡ Ok tt) where
    -- of a run that rows 50 to 54 or 40 refuse: the row's number and place, and the scratch as it was lent
    pub run_refused : (q : RunRefusal) → run_refusal (table_of (parts_of bytes)) track k m (length scratch) ≡ Err q
        → (r ≡ answer_at (run_number q) (run_place q)) × (after ≡ scratch)
    unfolding Judged
    run_refused q e =
        let (a, o, s) = allowed in
        let known = rw (read, e) at o in
        (s ∙ ap judge_answer known.0, known.1)

    module _ (passed : run_refusal (table_of (parts_of bytes)) track k m (length scratch) ≡ Ok tt) where
      told : (a : judge.Answer) × Told (table_of (parts_of bytes)) (rule_of (parts_of bytes)) track k m scratch a after
          × (r ≡ judge_answer a)
      unfolding Judged
      told =
          let (a, o, s) = allowed in
          (a, rw (read, passed) at o, s)

      -- demand 2: 1 exactly when the run violates, 0 exactly when it does not; no third answer
      pub violates_is_1 : Violates (table_of (parts_of bytes)) (rule_of (parts_of bytes)) track k m → r ≡ answer_at 1 0
      violates_is_1 v =
          let (a, t, s) = told in
          ⊎_elim
          (λ p. s ∙ ap (judge_answer) p.0)
          (λ p. absurd (p.1 v)) t.verdict

      pub satisfies_is_0 : (Violates (table_of (parts_of bytes)) (rule_of (parts_of bytes)) track k m → ⊥) → r ≡ answer_at 0 0
      satisfies_is_0 f =
          let (a, t, s) = told in
          ⊎_elim
          (λ p. absurd (f p.1))
          (λ p. s ∙ ap (judge_answer) p.0) t.verdict

      pub 1_is_violates : r.number ≡ 1 → Violates (table_of (parts_of bytes)) (rule_of (parts_of bytes)) track k m
      1_is_violates e =
          let (a, t, s) = told in
          ⊎_elim
          (λ p. p.1)
          (λ p.
          let zero_one : ◌≡◌ {A = ℕ} 0 1 =
          sym (ap (λ (x : Answer). x.number) (s ∙ ap (judge_answer) p.0)) ∙ e in
          absurd (omega arith))
          t.verdict

      pub verdict_1 : (r.number ≡ 1) ↔ Violates (table_of (parts_of bytes)) (rule_of (parts_of bytes)) track k m
      verdict_1 = (1_is_violates, λ v. ap (λ (x : Answer). x.number) (violates_is_1 v))

      pub verdict_0 : (r.number ≡ 0) ↔ (Violates (table_of (parts_of bytes)) (rule_of (parts_of bytes)) track k m → ⊥)
      verdict_0 = (
        λ z v. let e : r.number ≡ 1 = ap (λ (x : Answer). x.number) (violates_is_1 v) in omega arith,
        λ f. ap (λ (x : Answer). x.number) (satisfies_is_0 f),
      )

      -- the first k+m scratch entries are 0, the rest untouched
      pub scratch_cleared : after ≡ replicate (k + m) 0 ++ drop (k + m) scratch
      scratch_cleared = told.1.cleared

    -- demand 2, of any run: 1 exactly when it violates and the scratch has room for it
    pub says_violates : (r.number ≡ 1) ↔ ((k + m ≤ length scratch) × Violates (table_of (parts_of bytes)) (rule_of (parts_of bytes)) track k m)
    says_violates = (
      told_so (run_refusal (table_of (parts_of bytes)) track k m (length scratch)) refl,
      λ v.
          ap (λ (x : Answer). x.number)
          (violates_is_1 (run_passes (table_of (parts_of bytes)) track k m (length scratch) v.1.run v.0) v.1),
    )
      where
        no_row : (q : RunRefusal) → run_number q ≡ 1 → ⊥
        no_row NoLoop e = omega arith
        no_row (TooLong entries) e = omega arith
        no_row (NoState entry) e = omega arith
        no_row NotInitial e = omega arith
        no_row (NoEdge entry) e = omega arith
        no_row (NoRoom needed) e = omega arith

        told_so : (c : RunCheck) → run_refusal (table_of (parts_of bytes)) track k m (length scratch) ≡ c → r.number ≡ 1
            → (k + m ≤ length scratch) × Violates (table_of (parts_of bytes)) (rule_of (parts_of bytes)) track k m
        told_so (Err q) refused e =
            absurd (no_row q (sym (ap (λ (x : Answer). x.number) (run_refused q refused).0) ∙ e))
        told_so (Ok _) passed e =
            (free_room (free (table_of (parts_of bytes)) track k m (length scratch) passed), 1_is_violates passed e)
