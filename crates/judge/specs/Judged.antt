-- The judge's answers, with the paper's numbers and places, and its outcome.
use Rattle.std.specs.Prelude.{ℕ, ◌+◌, ◌≡◌, List, ◌++◌, ◌⊎◌, Result, Ok, Err, length, drop, replicate}
use Rattle.meaning.specs.Formula.{Formula}
use Rattle.meaning.specs.Table.{Table}
use Rattle.meaning.specs.Runs.{Violates}
use Rattle.reading.specs.Parts.{table_of, rule_of}
use Rattle.reading.specs.Refusals.{Check, parts_of, refusal}
use Rattle.reading.specs.Answers.{number_of, place_of}
use Rattle.judge.specs.Refusals.{RunCheck, run_refusal}
use Rattle.judge.specs.declared.RunRefusal.{RunRefusal}
use Rattle.judge.specs.declared.RunRefusal.TheVariants.{NoLoop, TooLong, NoState, NotInitial, NoEdge, NoRoom}
use Rattle.judge.specs.declared.Refusal.{Refusal}
use Rattle.judge.specs.declared.Refusal.TheVariants.{Case, Run}
use Rattle.judge.specs.declared.Verdict.{Verdict}
use Rattle.judge.specs.declared.Verdict.TheVariants.{Satisfied, Violated}

-- the row of a refused run, and the place that it gives
abbrev pub run_number : RunRefusal → ℕ
run_number NoLoop = 50
run_number (TooLong track) = 51
run_number (NoState entry) = 52
run_number NotInitial = 53
run_number (NoEdge entry) = 54
run_number (NoRoom needed) = 40

abbrev pub run_place : RunRefusal → ℕ
run_place NoLoop = 0
run_place (TooLong track) = track
run_place (NoState entry) = entry
run_place NotInitial = 0
run_place (NoEdge entry) = entry
run_place (NoRoom needed) = needed

-- of either refusal
abbrev pub refusal_number : Refusal → ℕ
refusal_number (Case r) = number_of r
refusal_number (Run r) = run_number r

abbrev pub refusal_place : Refusal → ℕ
refusal_place (Case r) = place_of r
refusal_place (Run r) = run_place r

-- "Answer 0 is … satisfies, 1 is violated", with place 0
abbrev pub verdict_number : Verdict → ℕ
verdict_number Satisfied = 0
verdict_number Violated = 1

-- the judge's answer
abbrev pub Answer : Type 0
Answer = Result Verdict Refusal

abbrev pub answer_number : Answer → ℕ
answer_number (Ok v) = verdict_number v
answer_number (Err r) = refusal_number r

abbrev pub answer_place : Answer → ℕ
answer_place (Ok v) = 0
answer_place (Err r) = refusal_place r

-- "After answer 0 or 1 the first k+m scratch entries are 0, the rest untouched."
pub record Told (t : Table) (φ : Formula) (track : List ℕ) (k m : ℕ) (before : List ℕ) (answer : Answer) (after : List ℕ) : Type 0 where
  pub verdict : ((answer ≡ Ok Violated) × Violates t φ track k m) ⊎ ((answer ≡ Ok Satisfied) × (Violates t φ track k m → ⊥))
  pub cleared : after ≡ replicate (k + m) 0 ++ drop (k + m) before

-- the case's refusal, else the run's, and both write nothing; else the verdict
abbrev pub outcome : Check → RunCheck → List ℕ → Answer → List ℕ → Type 0 → Type 0
outcome (Err r) run before answer after told = (answer ≡ Err (Case r)) × (after ≡ before)
outcome (Ok _) (Err r) before answer after told = (answer ≡ Err (Run r)) × (after ≡ before)
outcome (Ok _) (Ok _) before answer after told = told

-- what the judge answers to a case, a track, k, m and a scratch, and the scratch afterwards
unfoldable pub Judged : (bytes track : List ℕ) (k m : ℕ) (before : List ℕ) → Answer → List ℕ → Type 0
Judged bytes track k m before answer after =
    let table = table_of (parts_of bytes) in
    outcome (refusal bytes) (run_refusal table track k m (length before)) before answer after
    (Told table (rule_of (parts_of bytes)) track k m before answer after)
