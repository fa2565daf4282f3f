-- What the state list promises, once more and in one place. `StatesOutcome` is, by name, the whole `ensures` of
-- `mullodai_states`; each line below speaks of any answer r, and any list after, that it allows. Assumes nothing.
use Rattle.std.specs.Prelude.{Ok, Err}
use Prim.Native.Nat.{ℕ, zero, suc, ◌≤◌, ◌<◌}
use mathlib.Core.Path.{◌≡◌, refl, sym, ap, ◌∙◌}
use mathlib.Core.List.{List, [], ◌∷◌, ◌++◌}
use native.Mathlib.Decide.{dec_lt}
use native.Mathlib.Omega.{arith}
use lib.Dec.{lit<}
use lib.ListN.{length, get_or, drop, get_or-append}
use lib.Seq.{drop_at, get_or_at}
use borrow.Author.Tests.{lt-ltb, le-ltb}
use Rattle.reading.specs.Refusals.{parts_of, refusal}
use Rattle.reading.specs.Answers.{number_of, place_of, record_of}
use Rattle.reading.specs.Night.{night}
use Rattle.reading.specs.declared.CaseRefusal.{CaseRefusal}
use Rattle.reading.specs.declared.StateRecord.{StateRecord}
use Rattle.reading.proofs.Examples.{night_passes, night_states}
use Rattle.mullodai.specs.Outcomes.{StatesOutcome, states_answer, answer_at, records_to, list_after}
use Rattle.mullodai.specs.declared.Answer.{Answer}
use Rattle.mullodai.proofs.StateLists.{mid, length_records, length-mid, refused_positive, untouched}

-- two outcomes for one input coincide: the answer, and every record of the list
pub one_states_outcome : (bytes : List ℕ) (list : List StateRecord) (r r' : Answer) (after after' : List StateRecord)
    → StatesOutcome bytes list r after → StatesOutcome bytes list r' after' → (r ≡ r') × (after ≡ after')
one_states_outcome bytes list r r' after after' o o' =
    let e : r ≡ r' = o.0 ∙ sym o'.0 in
    (e, o.1 ∙ ap (λ (q : Answer). list_after q.number (parts_of bytes) list) e ∙ sym o'.1)

-- record s of the first n
getD_records : (states : List ℕ) (n s : ℕ) (d : StateRecord) → s < n → get_or (records_to states n) s d ≡ record_of states s
unfolding records_to
getD_records states zero s d h = absurd (omega arith)
getD_records states (suc n) s d h = go (dec_lt s n) (getD_records states n s d)
  where
    go : Dec (s < n) → (s < n → get_or (records_to states n) s d ≡ record_of states s)
        → get_or (records_to states n ++ (record_of states n ∷ [])) s d ≡ record_of states s
    go (yes before) earlier = get_or-append (records_to states n) _ d s (omega (arith, length_records states n)) ∙ earlier before
    go (no last) earlier =
        let same : n ≡ s = omega arith in
        get_or_at (records_to states n) (record_of states n) [] d s (length_records states n ∙ same) ∙ ap (record_of states) same

module _ (bytes : List ℕ) (list : List StateRecord) (r : Answer) (after : List StateRecord) (outcome : StatesOutcome bytes list r after) where
  -- of a refused case: the refusal's number and place, and the list as it was lent
  pub case_refused : (q : CaseRefusal) → refusal bytes ≡ Err q → (r ≡ answer_at (number_of q) (place_of q)) × (after ≡ list)
  unfolding states_answer
  case_refused q e =
      let answer : r ≡ answer_at (number_of q) (place_of q) = outcome.0 ∙ simp e refl in
      (answer, outcome.1 ∙ untouched r.number (parts_of bytes) list (rw answer (refused_positive q)))

  -- of a case that is read, a list shorter than S: 42 and S, and the list as it was lent
  pub list_short : refusal bytes ≡ Ok tt → length list < (parts_of bytes).states → (r ≡ answer_at 42 (parts_of bytes).states) × (after ≡ list)
  unfolding states_answer
  list_short e h =
      let answer : r ≡ answer_at 42 (parts_of bytes).states = outcome.0 ∙ simp (e, lt-ltb (length list) (parts_of bytes).states h) refl in
      (answer, outcome.1 ∙ untouched r.number (parts_of bytes) list (rw answer (lit< tt)))

  -- a list of S records or more: 0 and S; the first S records are field 02's, and the later ones are as they were lent
  pub list_filled : refusal bytes ≡ Ok tt → (parts_of bytes).states ≤ length list
      → (r ≡ answer_at 0 (parts_of bytes).states)
      × (length after ≡ length list)
      × ((s : ℕ) (d : StateRecord) → s < (parts_of bytes).states → get_or after s d ≡ record_of (parts_of bytes).state_list s)
      × (drop (parts_of bytes).states after ≡ drop (parts_of bytes).states list)
  unfolding states_answer
  list_filled e h =
      let answer : r ≡ answer_at 0 (parts_of bytes).states = outcome.0 ∙ simp (e, le-ltb (length list) (parts_of bytes).states h) refl in
      let states = (parts_of bytes).state_list in
      let n = (parts_of bytes).states in
      let filled : after ≡ mid states list n = outcome.1 ∙ rw answer refl in
      let size = length_records states n in (
        answer,
        ap length filled ∙ length-mid states list n h,
        λ s d l. ap (λ (ys : List StateRecord). get_or ys s d) filled ∙ get_or-append (records_to states n) _ d s (omega (arith, size)) ∙ getD_records states n s d l,
        ap (drop n) filled ∙ drop_at (records_to states n) (drop n list) n size,
      )

-- "A bench that refuses everything": on the night update, with a list of 3 or more records, no outcome is a refusal
pub night_list_not_refused : (list : List StateRecord) → 3 ≤ length list → (r : Answer) (after : List StateRecord)
    → StatesOutcome night list r after → r.number ≡ 0
night_list_not_refused list h r after outcome =
    ap (λ (q : Answer). q.number) (list_filled night list r after outcome night_passes (omega (arith, night_states))).0
