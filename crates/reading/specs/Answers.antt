-- The paper's number and place of each refusal, and the reading one state at a time.
use Rattle.std.specs.Prelude.{ℕ, cond, List, ltb, Result, Ok, Err}
use Rattle.reading.specs.Parts.{Parts, label_of, flags_of}
use Rattle.reading.specs.Refusals.{Check, parts_of, refusal}
use Rattle.reading.specs.declared.CaseRefusal.{CaseRefusal}
use Rattle.reading.specs.declared.CaseRefusal.TheVariants.{Short, Tag, Length, Range, Rest, Bits, End, Order, DeadEnd, Operator, Operand, Temporals}
use Rattle.reading.specs.declared.StateRecord.{StateRecord}
use Rattle.reading.specs.declared.StateRefusal.{StateRefusal}

-- the row of the table
abbrev pub number_of : CaseRefusal → ℕ
number_of (Short at) = 10
number_of (Tag at) = 11
number_of (Length at) = 12
number_of (Range at) = 13
number_of (Rest at) = 14
number_of (Bits s) = 20
number_of (End e) = 21
number_of (Order e) = 22
number_of (DeadEnd s) = 23
number_of (Operator n) = 30
number_of (Operand n) = 31
number_of (Temporals t) = 32

-- the place that it gives
abbrev pub place_of : CaseRefusal → ℕ
place_of (Short at) = at
place_of (Tag at) = at
place_of (Length at) = at
place_of (Range at) = at
place_of (Rest at) = at
place_of (Bits s) = s
place_of (End e) = e
place_of (Order e) = e
place_of (DeadEnd s) = s
place_of (Operator n) = n
place_of (Operand n) = n
place_of (Temporals t) = t

-- "state records, each a label and an initial mark": field 02's
unfoldable pub record_of : List ℕ → ℕ → StateRecord
record_of states s = record { label = label_of states s; initial = flags_of states s }

-- "one state at a time: answer 0 and the record, or a refusal and no record"; the state's number is tested last
abbrev pub answer_of : Check → Parts → ℕ → Result StateRecord StateRefusal
answer_of (Err r) p s = Err (StateRefusal.Case r)
answer_of (Ok _) p s = cond (ltb s p.states) (Ok (record_of p.state_list s)) (Err (StateRefusal.NoState p.states))

unfoldable pub state_of : List ℕ → ℕ → Result StateRecord StateRefusal
state_of bytes s = answer_of (refusal bytes) (parts_of bytes) s

-- the case's refusal, or 42 with S
abbrev pub state_number : StateRefusal → ℕ
state_number (StateRefusal.Case r) = number_of r
state_number (StateRefusal.NoState s) = 42

abbrev pub state_place : StateRefusal → ℕ
state_place (StateRefusal.Case r) = place_of r
state_place (StateRefusal.NoState s) = s
