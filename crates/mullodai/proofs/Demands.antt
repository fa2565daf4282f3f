-- The three demands, for a stranger. `StateOutcome`, `StatesOutcome`, `JudgeOutcome` and `SearchOutcome` (specs/Outcomes.antt) are, by
-- name, the whole `ensures` of the four functions of include/mullodai.h, which require nothing. So each line below speaks of anything
-- that a call can answer and leave behind, whatever bytes, lists and numbers it was handed. Assumes nothing.
use Rattle.std.specs.Prelude.{Ok, Err}
use Prim.Native.Nat.{ℕ, ◌+◌, ◌*◌, ◌≤◌, ◌<◌}
use mathlib.Core.Path.{◌≡◌}
use mathlib.Core.List.{List, ◌++◌}
use mathlib.Core.Logic.{◌↔◌}
use lib.ListN.{length, drop, replicate}
use Rattle.meaning.specs.Runs.{Violates, Holds}
use Rattle.reading.specs.Parts.{table_of, rule_of, places}
use Rattle.reading.specs.Refusals.{parts_of, refusal}
use Rattle.reading.specs.Answers.{number_of, place_of}
use Rattle.reading.specs.declared.StateRecord.{StateRecord}
use Rattle.reading.specs.declared.CaseRefusal.{CaseRefusal}
use Rattle.judge.specs.Refusals.{run_refusal}
use Rattle.judge.specs.Judged.{run_number, run_place}
use Rattle.judge.specs.declared.RunRefusal.{RunRefusal}
use Rattle.mullodai.specs.Outcomes.{no_record, answer_at, StateOutcome, StatesOutcome, JudgeOutcome, SearchOutcome}
use Rattle.mullodai.specs.declared.StateAnswer.{StateAnswer}
use Rattle.mullodai.specs.declared.Answer.{Answer}
use Rattle.mullodai.proofs.OneState as state
use Rattle.mullodai.proofs.StateList as states
use Rattle.mullodai.proofs.Judge as judge
use Rattle.mullodai.proofs.Search as search

-- ---- Demand 1: what is answered, its place, and every entry of lent memory follow from the input alone.

-- Two outcomes for one input coincide.
pub demand_1_state : (bytes : List ℕ) (s : ℕ) (r r' : StateAnswer) → StateOutcome bytes s r → StateOutcome bytes s r' → r ≡ r'
demand_1_state = state.one_state_outcome

pub demand_1_states : (bytes : List ℕ) (list : List StateRecord) (r r' : Answer) (after after' : List StateRecord)
    → StatesOutcome bytes list r after → StatesOutcome bytes list r' after' → (r ≡ r') × (after ≡ after')
demand_1_states = states.one_states_outcome

pub demand_1_judge : (bytes track : List ℕ) (k m : ℕ) (scratch : List ℕ) (r r' : Answer) (after after' : List ℕ)
    → JudgeOutcome bytes track k m scratch r after → JudgeOutcome bytes track k m scratch r' after' → (r ≡ r') × (after ≡ after')
demand_1_judge = judge.one_judge_outcome

-- The one exception: which violating run is shown, with its k and m. All else agrees.
pub demand_1_search : (bytes workspace track : List ℕ) (r r' : Answer) (ws₁ track₁ ws₂ track₂ : List ℕ)
    → SearchOutcome bytes workspace track r ws₁ track₁ → SearchOutcome bytes workspace track r' ws₂ track₂
    → (r.number ≡ r'.number) × (r.place ≡ r'.place) × (ws₁ ≡ ws₂) × (length track₁ ≡ length track₂)
    × ((r.number ≡ 1 → ⊥) → (r ≡ r') × (track₁ ≡ track₂))
demand_1_search = search.one_search_outcome

-- A case that a row refuses (`refusal`, the table in its order) is refused with that row's number and place by every entry, and then
-- every lent buffer is as it was lent.
module _ (bytes : List ℕ) (q : CaseRefusal) (refused : refusal bytes ≡ Err q) where
  pub refused_state : (s : ℕ) (r : StateAnswer) → StateOutcome bytes s r
      → (r.number ≡ number_of q) × (r.place ≡ place_of q) × (r.state ≡ no_record)
  refused_state s r o = state.case_refused bytes s r o q refused

  pub refused_states : (list : List StateRecord) (r : Answer) (after : List StateRecord) → StatesOutcome bytes list r after
      → (r ≡ answer_at (number_of q) (place_of q)) × (after ≡ list)
  refused_states list r after o = states.case_refused bytes list r after o q refused

  pub refused_judge : (track : List ℕ) (k m : ℕ) (scratch : List ℕ) (r : Answer) (after : List ℕ) → JudgeOutcome bytes track k m scratch r after
      → (r ≡ answer_at (number_of q) (place_of q)) × (after ≡ scratch)
  refused_judge track k m scratch r after o = judge.case_refused bytes track k m scratch r after o q refused

  pub refused_search : (workspace track : List ℕ) (r : Answer) (workspace' track' : List ℕ)
      → SearchOutcome bytes workspace track r workspace' track'
      → (r ≡ answer_at (number_of q) (place_of q)) × ((workspace' ≡ workspace) × (track' ≡ track))
  refused_search workspace track r workspace' track' o = search.case_refused bytes workspace track r workspace' track' o q refused

-- Of a case that no row refuses, each entry refuses its own rows, 42, 50 to 54, 40 and 41, each with its place and with every lent buffer as
-- it was lent; and nothing else.
module _ (bytes : List ℕ) (read : refusal bytes ≡ Ok tt) where
  pub own_state : (s : ℕ) (r : StateAnswer) → StateOutcome bytes s r
      → ((parts_of bytes).states ≤ s → (r.number ≡ 42) × (r.place ≡ (parts_of bytes).states) × (r.state ≡ no_record))
      × (s < (parts_of bytes).states → r.number ≡ 0)
  own_state s r o = (state.state_lacking bytes s r o read, λ h. (state.state_read bytes s r o read h).0)

  pub own_states : (list : List StateRecord) (r : Answer) (after : List StateRecord) → StatesOutcome bytes list r after
      → (length list < (parts_of bytes).states → (r ≡ answer_at 42 (parts_of bytes).states) × (after ≡ list))
      × ((parts_of bytes).states ≤ length list → r ≡ answer_at 0 (parts_of bytes).states)
  own_states list r after o = (states.list_short bytes list r after o read, λ h. (states.list_filled bytes list r after o read h).0)

  -- (what is not refused is answered 0 or 1: `demand_2`, `demand_2_satisfies`)
  pub own_judge : (track : List ℕ) (k m : ℕ) (scratch : List ℕ) (r : Answer) (after : List ℕ) → JudgeOutcome bytes track k m scratch r after
      → (q : RunRefusal) → run_refusal (table_of (parts_of bytes)) track k m (length scratch) ≡ Err q
      → (r ≡ answer_at (run_number q) (run_place q)) × (after ≡ scratch)
  own_judge track k m scratch r after o = judge.run_refused bytes track k m scratch r after o read

  -- (and 0 or 1 with room enough: `demand_3_holds`, `demand_3_violated`)
  pub own_search : (workspace track : List ℕ) (r : Answer) (workspace' track' : List ℕ) → SearchOutcome bytes workspace track r workspace' track'
      → (length workspace < 6 * places (parts_of bytes)
      → (r ≡ answer_at 40 (6 * places (parts_of bytes))) × ((workspace' ≡ workspace) × (track' ≡ track)))
      × (6 * places (parts_of bytes) ≤ length workspace → length track < 2 * places (parts_of bytes)
      → (r ≡ answer_at 41 (2 * places (parts_of bytes))) × ((workspace' ≡ workspace) × (track' ≡ track)))
  own_search workspace track r workspace' track' o =
      (search.workspace_short bytes workspace track r workspace' track' o read, search.track_short bytes workspace track r workspace' track' o read)

-- ---- Demand 2: the judge says "violates" exactly when the run is one of the table's and the rule is false on its endless path.

module _ (bytes track : List ℕ) (k m : ℕ) (scratch : List ℕ) (r : Answer) (after : List ℕ)
    (outcome : JudgeOutcome bytes track k m scratch r after)
    (read : refusal bytes ≡ Ok tt) where
  -- any run whatever, if the scratch has room for it
  pub demand_2 : (r.number ≡ 1) ↔ ((k + m ≤ length scratch) × Violates (table_of (parts_of bytes)) (rule_of (parts_of bytes)) track k m)
  demand_2 = judge.says_violates bytes track k m scratch r after outcome read

  -- and 0 to any other that rows 50 to 54 and 40 pass; after either the first k+m entries of the scratch are 0, the rest untouched
  pub demand_2_satisfies : run_refusal (table_of (parts_of bytes)) track k m (length scratch) ≡ Ok tt
      → ((r.number ≡ 0) ↔ (Violates (table_of (parts_of bytes)) (rule_of (parts_of bytes)) track k m → ⊥))
      × (after ≡ replicate (k + m) 0 ++ drop (k + m) scratch)
  demand_2_satisfies asked = (
    judge.verdict_0 bytes track k m scratch r after outcome read asked,
    judge.scratch_cleared bytes track k m scratch r after outcome read asked,
  )

-- ---- Demand 3: search and meaning agree on every admitted case.

module _ (bytes workspace track : List ℕ) (r : Answer) (workspace' track' : List ℕ)
    (outcome : SearchOutcome bytes workspace track r workspace' track')
    (read : refusal bytes ≡ Ok tt)
    (room : 6 * places (parts_of bytes) ≤ length workspace)
    (track_room : 2 * places (parts_of bytes) ≤ length track) where
  -- "holds" exactly when no looping run, of any length, breaks the rule
  pub demand_3_holds : (r.number ≡ 0) ↔ Holds (table_of (parts_of bytes)) (rule_of (parts_of bytes))
  demand_3_holds = search.0_is_holds bytes workspace track r workspace' track' outcome read room track_room

  -- otherwise one that breaks it is written out, and nothing after it
  pub demand_3_violated : (r.number ≡ 0 → ⊥)
      → (r.number ≡ 1) × Violates (table_of (parts_of bytes)) (rule_of (parts_of bytes)) track' r.stem r.repeat
      × (drop (r.stem + r.repeat) track' ≡ drop (r.stem + r.repeat) track)
  demand_3_violated = search.else_violated bytes workspace track r workspace' track' outcome read room track_room

  -- and the judge says so too
  pub demand_3_judge : (r.number ≡ 0 → ⊥) → (scratch : List ℕ) → r.stem + r.repeat ≤ length scratch → (j : Answer) (after : List ℕ)
      → JudgeOutcome bytes track' r.stem r.repeat scratch j after → j ≡ answer_at 1 0
  demand_3_judge = search.judge_agrees bytes workspace track r workspace' track' outcome read room track_room

  -- the workspace: its first 6·P entries are 0, later ones untouched; after holds the track is untouched
  pub demand_3_workspace : workspace' ≡ replicate (6 * places (parts_of bytes)) 0 ++ drop (6 * places (parts_of bytes)) workspace
  demand_3_workspace = search.workspace_cleared bytes workspace track r workspace' track' outcome read room track_room

  pub demand_3_track : r.number ≡ 0 → track' ≡ track
  demand_3_track = search.track_untouched bytes workspace track r workspace' track' outcome read room track_room
