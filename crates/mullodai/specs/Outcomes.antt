-- The outcome of each entry for C: what is in the struct that it returns, as a function of the input.
use Rattle.std.specs.Prelude.{ℕ, zero, suc, ◌≡◌, cond, List, [], ◌∷◌, ◌++◌, ltb, length, drop, Result, Ok, Err}
use Rattle.reading.specs.Parts.{Parts}
use Rattle.reading.specs.Refusals.{Check, parts_of, refusal}
use Rattle.reading.specs.Answers.{number_of, place_of, record_of, state_of, state_number, state_place}
use Rattle.reading.specs.declared.StateRecord.{StateRecord}
use Rattle.reading.specs.declared.StateRefusal.{StateRefusal}
use Rattle.judge.specs.Judged as judge
use Rattle.judge.specs.Judged.{Judged, answer_number, answer_place}
use Rattle.search.specs.Answers.{SearchAnswer, number, place, stem, loop}
use Rattle.search.specs.Outcome.{Searched}
use Rattle.mullodai.specs.declared.StateAnswer.{StateAnswer}
use Rattle.mullodai.specs.declared.Answer.{Answer}

-- a refusal comes with a record of zeros
abbrev pub no_record : StateRecord
no_record = record { label = 0; initial = 0 }

-- what reading one state gave: 0 and its record, or the refusal's number and place
abbrev pub state_told : Result StateRecord StateRefusal → StateAnswer
state_told (Ok r) = record { number = 0; place = 0; state = r }
state_told (Err q) = record { number = state_number q; place = state_place q; state = no_record }

-- One state: "answer 0 and the record, or a refusal and no record". Nothing is lent, so nothing is written.
unfoldable pub state_answer : List ℕ → ℕ → StateAnswer
state_answer bytes s = state_told (state_of bytes s)

abbrev pub StateOutcome : List ℕ → ℕ → StateAnswer → Type 0
StateOutcome bytes s r = r ≡ state_answer bytes s

-- An answer with no run: stem and loop are 0.
abbrev pub answer_at : ℕ → ℕ → Answer
answer_at number place = record { number = number; place = place; stem = 0; repeat = 0 }

-- The state list: the case's refusal; then 42, "state list shorter than S"; or 0, "and gives as place the records … filled"
abbrev pub list_answer : Check → ℕ → ℕ → Answer
list_answer (Err r) states room = answer_at (number_of r) (place_of r)
list_answer (Ok _) states room = cond (ltb room states) (answer_at 42 states) (answer_at 0 states)

unfoldable pub states_answer : List ℕ → ℕ → Answer
states_answer bytes room = list_answer (refusal bytes) (parts_of bytes).states room

-- what filling a list gave: 0 and how many records, or the refusal's number and place
abbrev pub filled_told : Result ℕ StateRefusal → Answer
filled_told (Ok records) = answer_at 0 records
filled_told (Err q) = answer_at (state_number q) (state_place q)

-- the first n records of field 02's value
unfoldable pub records_to : List ℕ → ℕ → List StateRecord
records_to states zero = []
records_to states (suc n) = records_to states n ++ (record_of states n ∷ [])

-- "On success (answer 0) the first S records are field 02's and later ones untouched"; a refusal "writes nothing"
abbrev pub list_after : ℕ → Parts → List StateRecord → List StateRecord
list_after zero p list = records_to p.state_list p.states ++ drop p.states list
list_after (suc _) p list = list

-- the answer, and the list afterwards, from the bytes and the list lent
abbrev pub StatesOutcome : List ℕ → List StateRecord → Answer → List StateRecord → Type 0
StatesOutcome bytes list answer list' =
    (answer ≡ states_answer bytes (length list)) × (list' ≡ list_after answer.number (parts_of bytes) list)

-- The judge: the number and the place of an answer that the judge may give, with the scratch that it then leaves
abbrev pub judge_answer : judge.Answer → Answer
judge_answer a = answer_at (answer_number a) (answer_place a)

abbrev pub JudgeOutcome : (bytes track : List ℕ) (k m : ℕ) (scratch : List ℕ) → Answer → List ℕ → Type 0
JudgeOutcome bytes track k m scratch answer scratch' =
    (a : judge.Answer) × Judged bytes track k m scratch a scratch' × (answer ≡ judge_answer a)

-- The search: the number, the place, k and m of an answer that the search may give, with the workspace and the track that it then leaves
abbrev pub search_answer : SearchAnswer → Answer
search_answer a = record { number = number a; place = place a; stem = stem a; repeat = loop a }

abbrev pub SearchOutcome : (bytes workspace track : List ℕ) → Answer → (workspace' track' : List ℕ) → Type 0
SearchOutcome bytes workspace track answer workspace' track' =
    (a : SearchAnswer) × Searched bytes workspace track a workspace' track' × (answer ≡ search_answer a)
