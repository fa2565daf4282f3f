-- The state list while it is filled, and what is answered of it. No code.
--     mid states xs s      the first s records of field 02's value, and then xs from s on
--     mid_next             with record s stored at s, it is the next one
--     mid_all              with as many records as xs has, it is those records
-- Assumes nothing.
use Rattle.std.specs.Prelude.{Ok, Err}
use Prim.Native.Nat.{ℕ, zero, suc, ◌+◌, ◌≤◌, ◌<◌}
use mathlib.Core.Path.{◌≡◌, refl, sym, ap, ◌∙◌}
use mathlib.Core.List.{List, [], ◌∷◌, ◌++◌, append_assoc, append-nil}
use native.Mathlib.Numerals.{add-one}
use native.Mathlib.Omega.{arith}
use lib.Dec.{lit<}
use lib.ListN.{length, set, drop, length-append, length-drop}
use lib.Seq.{drop-cons, set_at}
use borrow.Author.Tests.{lt-ltb, le-ltb}
use Rattle.std.proofs.lemmas.List.{drop_all}
use Rattle.reading.specs.Parts.{Parts}
use Rattle.reading.specs.Refusals.{parts_of, case_of}
use Rattle.reading.specs.Answers.{number_of, record_of}
use Rattle.reading.specs.declared.CaseRefusal.{CaseRefusal}
use Rattle.reading.specs.declared.CaseRefusal.TheVariants.{Short, Tag, Length, Range, Rest, Bits, End, Order, DeadEnd, Operator, Operand, Temporals}
use Rattle.reading.specs.declared.Shape.{Shape}
use Rattle.reading.specs.declared.StateRecord.{StateRecord}
use Rattle.reading.specs.declared.StateRefusal.{StateRefusal}
use Rattle.reading.proofs.Known.{known}
use Rattle.reading.proofs.Read.{case_refused}
use Rattle.mullodai.specs.Outcomes.{states_answer, filled_told, records_to, list_after, StatesOutcome}

-- ---- the list while it is filled

abbrev pub mid : List ℕ → List StateRecord → ℕ → List StateRecord
mid states xs s = records_to states s ++ drop s xs

module _ (states : List ℕ) where
  pub length_records : (s : ℕ) → length (records_to states s) ≡ s
  unfolding records_to
  length_records zero = refl
  length_records (suc s) =
      length-append (records_to states s) (record_of states s ∷ []) ∙ ap (λ (k : ℕ). k + 1) (length_records s) ∙ add-one s

  pub length-mid : (xs : List StateRecord) (s : ℕ) → s ≤ length xs → length (mid states xs s) ≡ length xs
  length-mid xs s h = omega (arith, length-append (records_to states s) (drop s xs), length_records s, length-drop s xs)

  pub mid_zero : (xs : List StateRecord) → mid states xs 0 ≡ xs
  unfolding records_to
  mid_zero xs = refl

  pub mid_next : (xs : List StateRecord) (s : ℕ) → s < length xs → set (mid states xs s) s (record_of states s) ≡ mid states xs (suc s)
  unfolding records_to
  mid_next xs s h =
      ap (λ (l : List StateRecord). set (records_to states s ++ l) s (record_of states s)) (drop-cons xs s (record_of states s) h)
      ∙ set_at (records_to states s) _ (drop (suc s) xs) (record_of states s) s (length_records s)
      ∙ sym (append_assoc (records_to states s) (record_of states s ∷ []) (drop (suc s) xs))

  pub mid_all : (xs : List StateRecord) (s : ℕ) → length xs ≡ s → mid states xs s ≡ records_to states s
  mid_all xs s h = rw (drop_all s xs (omega arith)) (append-nil (records_to states s))

-- no refusal has the number 0
pub refused_positive : (r : CaseRefusal) → 0 < number_of r
refused_positive (Short _) = lit< tt
refused_positive (Tag _) = lit< tt
refused_positive (Length _) = lit< tt
refused_positive (Range _) = lit< tt
refused_positive (Rest _) = lit< tt
refused_positive (Bits _) = lit< tt
refused_positive (End _) = lit< tt
refused_positive (Order _) = lit< tt
refused_positive (DeadEnd _) = lit< tt
refused_positive (Operator _) = lit< tt
refused_positive (Operand _) = lit< tt
refused_positive (Temporals _) = lit< tt

-- under a number that is not 0 the list is as it was
pub untouched : (number : ℕ) (p : Parts) (xs : List StateRecord) → 0 < number → list_after number p xs ≡ xs
untouched zero p xs h = absurd (omega arith)
untouched (suc k) p xs h = refl

-- ---- what was filled is the outcome

module _ (bytes : List ℕ) (list : List StateRecord) where
  pub refused_filled : (r : CaseRefusal) → case_of bytes ≡ Err r → StatesOutcome bytes list (filled_told (Err (StateRefusal.Case r))) list
  unfolding states_answer
  refused_filled r e = (simp (case_refused bytes r e), sym (untouched (number_of r) (parts_of bytes) list (refused_positive r)))

  module _ (shape : Shape) (e : case_of bytes ≡ Ok shape) where
    pub short_filled : length list < shape.states → StatesOutcome bytes list (filled_told (Err (StateRefusal.NoState shape.states))) list
    unfolding states_answer
    short_filled h =
        let k = known bytes shape e in
        (simp (k.passed, k.states_is, lt-ltb (length list) (parts_of bytes).states (omega (arith, k.states_is))), refl)

    pub all_filled : shape.states ≤ length list
        → StatesOutcome bytes list (filled_told (Ok shape.states)) (mid (parts_of bytes).state_list list shape.states)
    unfolding states_answer
    all_filled h =
        let k = known bytes shape e in
        (simp (k.passed, k.states_is, le-ltb (length list) (parts_of bytes).states (omega (arith, k.states_is))), ap (mid (parts_of bytes).state_list list) k.states_is)
