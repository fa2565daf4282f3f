-- "A judge with one constant answer breaks demand 2 on M1 and M3": as real cases, with one run each, the promise forces 0 and 1.
-- By computation: the cases are read, the runs are theirs, and `truth` decides the rule on their paths. Assumes nothing.
use Rattle.std.specs.Prelude.{Ok}
use Prim.Native.Nat.{ℕ}
use mathlib.Core.Path.{◌≡◌, refl}
use mathlib.Core.List.{List, [], ◌∷◌}
use lib.Dec.{T}
use Rattle.bits.specs.Bits.{bit}
use Rattle.meaning.specs.Table.{formula_of, formulas, formula, rule}
use Rattle.meaning.specs.Runs.{position, path_of}
use Rattle.meaning.proofs.Verdicts.{path_repeats}
use Rattle.meaning.proofs.Decided.{truth, truth_tells}
use Rattle.reading.specs.Lowest.{lowest, any, count}
use Rattle.reading.specs.Parts.{label_of, flags_of, initial_of, from_of, to_of, has_edge, node_of, operator_from, operators_from, table_of, rule_of}
use Rattle.reading.specs.Refusals.{length_at, at04, parts_of, in_steps, field_refusal, out_of_range, last_refusal, fields_refusal, bad_state, bad_end, above, not_above, starts_none, unknown, first_limit, second_limit, wrong_byte, states_refusal, edges_refusal, dead_end_refusal, nodes_refusal, temporals_refusal, parts_refusal, refusal}
use Rattle.judge.specs.Refusals.{stored_refusal, run_refusal}
use Rattle.judge.proofs.Passed.{free, free_run}
use Rattle.mullodai.specs.Outcomes.{answer_at, JudgeOutcome}
use Rattle.mullodai.specs.declared.Answer.{Answer}
use Rattle.mullodai.proofs.Judge.{violates_is_1, satisfies_is_0}

-- M1: one state p with an edge to itself; the rule G p; the run that stays there
unfoldable pub m1 : List ℕ
m1 =
    1 ∷ 2 ∷ 0 ∷ 1 ∷ 1 ∷ 2 ∷ 3 ∷ 0 ∷ 1 ∷ 0 ∷ 1 ∷ 3 ∷ 2 ∷ 0 ∷ 0 ∷ 0 ∷ 4 ∷ 6 ∷ 0 ∷ 1 ∷ 0 ∷ 0 ∷ 8 ∷ 0 ∷ 0 ∷ []

-- M3: a state p, and then one with nothing, for ever; the same rule
unfoldable pub m3 : List ℕ
m3 =
    1 ∷ 2 ∷ 0 ∷ 2 ∷ 1 ∷ 2 ∷ 6 ∷ 0 ∷ 1 ∷ 0 ∷ 1 ∷ 0 ∷ 0 ∷ 0 ∷ 3 ∷ 4 ∷ 0 ∷ 0 ∷ 1 ∷ 1 ∷ 1 ∷ 4 ∷ 6 ∷ 0 ∷ 1 ∷ 0 ∷ 0 ∷ 8 ∷ 0 ∷ 0 ∷ []

m1_read : refusal m1 ≡ Ok tt
unfolding m1 lowest any count label_of flags_of from_of to_of node_of operator_from operators_from length_at at04 parts_of in_steps field_refusal out_of_range last_refusal fields_refusal bad_state bad_end above not_above starts_none unknown first_limit second_limit wrong_byte states_refusal edges_refusal dead_end_refusal nodes_refusal temporals_refusal parts_refusal refusal
m1_read = refl

m3_read : refusal m3 ≡ Ok tt
unfolding m3 lowest any count label_of flags_of from_of to_of node_of operator_from operators_from length_at at04 parts_of in_steps field_refusal out_of_range last_refusal fields_refusal bad_state bad_end above not_above starts_none unknown first_limit second_limit wrong_byte states_refusal edges_refusal dead_end_refusal nodes_refusal temporals_refusal parts_refusal refusal
m3_read = refl

m1_run : run_refusal (table_of (parts_of m1)) (0 ∷ []) 0 1 1 ≡ Ok tt
unfolding m1 lowest any label_of flags_of initial_of from_of to_of has_edge length_at at04 parts_of position stored_refusal run_refusal
m1_run = refl

m3_run : run_refusal (table_of (parts_of m3)) (0 ∷ 1 ∷ []) 1 1 2 ≡ Ok tt
unfolding m3 lowest any label_of flags_of initial_of from_of to_of has_edge length_at at04 parts_of position stored_refusal run_refusal
m3_run = refl

m1_true : T (truth (path_of (table_of (parts_of m1)) (0 ∷ []) 0 1) 1 (rule_of (parts_of m1)) 0)
unfolding m1 bit formula_of formulas formula rule position truth label_of node_of length_at at04 parts_of
m1_true = tt

m3_false : T (truth (path_of (table_of (parts_of m3)) (0 ∷ 1 ∷ []) 1 1) 2 (rule_of (parts_of m3)) 0) → ⊥
unfolding m3 bit formula_of formulas formula rule position truth label_of node_of length_at at04 parts_of
m3_false t = t

-- on M1 every allowed outcome is 0
pub m1_satisfies : (x : ℕ) (r : Answer) (after : List ℕ) → JudgeOutcome m1 (0 ∷ []) 0 1 (x ∷ []) r after → r ≡ answer_at 0 0
m1_satisfies x r after o =
    satisfies_is_0 m1 (0 ∷ []) 0 1 (x ∷ []) r after o m1_read m1_run
    (λ v.
    v.breaks
    ((truth_tells (path_of (table_of (parts_of m1)) (0 ∷ []) 0 1) 0 1 v.run.loops (path_repeats (table_of (parts_of m1)) (0 ∷ []) 0 1)
    (rule_of (parts_of m1)) 0).0 m1_true))

-- on M3 every allowed outcome is 1
pub m3_violates : (x y : ℕ) (r : Answer) (after : List ℕ) → JudgeOutcome m3 (0 ∷ 1 ∷ []) 1 1 (x ∷ y ∷ []) r after → r ≡ answer_at 1 0
m3_violates x y r after o =
    let run = free_run (free (table_of (parts_of m3)) (0 ∷ 1 ∷ []) 1 1 2 m3_run) in
    violates_is_1 m3 (0 ∷ 1 ∷ []) 1 1 (x ∷ y ∷ []) r after o m3_read m3_run
    (record {
      run = run;
      breaks = λ a.
          m3_false
          ((truth_tells (path_of (table_of (parts_of m3)) (0 ∷ 1 ∷ []) 1 1) 1 1 run.loops
          (path_repeats (table_of (parts_of m3)) (0 ∷ 1 ∷ []) 1 1) (rule_of (parts_of m3)) 0).1 a);
    })
