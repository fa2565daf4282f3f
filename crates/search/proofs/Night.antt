-- The night update against the outcome: with 72 and 24 entries it is violated, so neither a refusal nor holds is allowed, nor a track left as it was
-- lent; with 71 entries it is 40 and 72; and without the edge 0 to 2 it holds. Assumes nothing.
use Rattle.std.specs.Prelude.{Some, None, Ok, Err}
use Prim.Native.Nat.{ℕ, zero, suc, ◌+◌, ◌-◌, ◌*◌, ◌<◌}
use native.Mathlib.Omega.{arith}
use mathlib.Core.Path.{◌≡◌, refl, sym, ap, ◌∙◌, subst, subst₂}
use mathlib.Core.Logic.{◌⊎◌, inl, inr, ⊎_elim}
use mathlib.Core.List.{List, [], ◌∷◌}
use lib.Dec.{T}
use lib.ListN.{length, get_or, replicate, length-replicate}
use Rattle.bits.specs.Bits.{bit}
use Rattle.meaning.specs.Table.{formula_of, formulas, formula, rule}
use Rattle.meaning.specs.Runs.{position, Run, Violates, Holds}
use Rattle.reading.specs.Lowest.{lowest, any, count}
use Rattle.reading.specs.Parts.{label_of, flags_of, initial_of, from_of, to_of, has_edge, node_of, operator_from, operators_from, table_of, rule_of, places}
use Rattle.reading.specs.Refusals.{Check, length_at, at04, parts_of, in_steps, field_refusal, out_of_range, last_refusal, fields_refusal, bad_state, bad_end, above, not_above, starts_none, unknown, first_limit, second_limit, wrong_byte, states_refusal, edges_refusal, dead_end_refusal, nodes_refusal, temporals_refusal, parts_refusal, refusal}
use Rattle.reading.specs.Night.{night}
use Rattle.reading.proofs.Examples.{night_passes, night_places}
use Rattle.meaning.proofs.Positions.{position_below}
use Rattle.graph.proofs.Lists.{blank}
use Rattle.search.specs.Answers.{SearchAnswer, number, place, stem, loop}
use Rattle.search.specs.Outcome.{workspace_needs, track_needs, Refuses, Decides, Searches, Reads, Searched}
use Rattle.search.specs.declared.SearchRefusal.{SearchRefusal}
use Rattle.search.proofs.Outcomes.{searched_decides, decides_exactly}

-- ---- violated

first_states : (i : ℕ) → i < 2 → get_or (0 ∷ 2 ∷ []) i 0 < 3
first_states zero h = omega arith
first_states (suc zero) h = omega arith
first_states (suc (suc i)) h = absurd (omega arith)

-- "stem 0, loop 2"
pub night_violates : Violates (table_of (parts_of night)) (rule_of (parts_of night)) (0 ∷ 2 ∷ []) 1 1
unfolding lowest any label_of flags_of initial_of from_of to_of has_edge node_of length_at at04 parts_of night formula_of formulas formula rule position bit
night_violates = record {
  run = record {
    loops = omega arith;
    stored = omega arith;
    states = first_states;
    begins = tt;
    steps = steps;
    closes = tt;
  };
  breaks = λ h. ⊎_elim (λ f. f tt) (λ t. t) (h 1 (omega arith));
}
  where
    steps : (i : ℕ) → suc i < 2 → T ((table_of (parts_of night)).edge (get_or (0 ∷ 2 ∷ []) i 0) (get_or (0 ∷ 2 ∷ []) (suc i) 0))
    steps zero h = tt
    steps (suc i) h = absurd (omega arith)

pub night_does_not_hold : Holds (table_of (parts_of night)) (rule_of (parts_of night)) → ⊥
night_does_not_hold h = h (0 ∷ 2 ∷ []) 1 1 night_violates

-- every allowed outcome is violated, with a run in the track that violates with the answer's own k and m
violated : (ws track : List ℕ) (answer : SearchAnswer) (ws' track' : List ℕ) → Decides (parts_of night) ws track answer ws' track'
    → (number answer ≡ 1) × Violates (table_of (parts_of night)) (rule_of (parts_of night)) track' (stem answer) (loop answer)
violated ws track (Ok None) ws' track' d = absurd (night_does_not_hold d.holds)
violated ws track (Ok (Some run)) ws' track' d = (refl, d.violates)
violated ws track (Err r) ws' track' d = absurd d

pub night_violated : (ws track : List ℕ) (answer : SearchAnswer) (ws' track' : List ℕ) → length ws ≡ 72 → length track ≡ 24
    → Searched night ws track answer ws' track'
    → (number answer ≡ 1) × Violates (table_of (parts_of night)) (rule_of (parts_of night)) track' (stem answer) (loop answer)
night_violated ws track answer ws' track' w t s =
    violated ws track answer ws' track'
    (searched_decides night ws track answer ws' track' night_passes (omega (arith, night_places)) (omega (arith, night_places)) s)

-- a track of zeros is no run of the night update: it was written
zeros_no_run : (k m : ℕ) → Violates (table_of (parts_of night)) (rule_of (parts_of night)) (replicate 24 0) k m → ⊥
unfolding lowest any from_of to_of has_edge length_at at04 parts_of night
zeros_no_run k m v =
    subst₂ (λ (x y : ℕ). T ((table_of (parts_of night)).edge x y)) (blank 24 (k + m - 1)) (blank 24 k) v.run.closes

pub night_written : (ws : List ℕ) (answer : SearchAnswer) (ws' track' : List ℕ) → length ws ≡ 72 → Searched night ws (replicate 24 0) answer ws' track'
    → track' ≡ replicate 24 0 → ⊥
night_written ws answer ws' track' w s same =
    zeros_no_run (stem answer) (loop answer)
    (subst (λ (l : List ℕ). Violates (table_of (parts_of night)) (rule_of (parts_of night)) l (stem answer) (loop answer)) same
    (night_violated ws (replicate 24 0) answer ws' track' w (length-replicate {A = ℕ} 24 0) s).1)

-- "with 71 entries the answer is 40 and 72"
pub night_short : (ws track : List ℕ) (answer : SearchAnswer) (ws' track' : List ℕ) → length ws ≡ 71 → Searched night ws track answer ws' track'
    → (number answer ≡ 40) × (place answer ≡ 72)
unfolding Searched
night_short ws track answer ws' track' w s =
    let r : Refuses ws track answer ws' track' (SearchRefusal.Workspace (workspace_needs (parts_of night))) =
    subst (λ (b : mathlib.Core.Bool.Bool). Searches b (lib.Dec.ltb (length track) (track_needs (parts_of night))) (parts_of night) ws track answer ws' track')
    (borrow.Author.Tests.lt-ltb (length ws) (workspace_needs (parts_of night)) (omega (arith, night_places)))
    (subst (λ (c : Check). Reads c (parts_of night) ws track answer ws' track') night_passes s) in
    (ap number r.answered, ap place r.answered ∙ ap (λ (n : ℕ). 6 * n) night_places)

-- ---- without the edge 0 to 2

pub night_without : List ℕ
night_without =
    0x01 ∷ 0x02 ∷ 0x00 ∷ 0x03 ∷ 0x03 ∷ 0x02 ∷ 0x09 ∷ 0x00 ∷ 0x00 ∷ 0x00 ∷ 0x01 ∷ 0x03 ∷ 0x00 ∷ 0x00 ∷ 0x02 ∷ 0x00 ∷ 0x00
    ∷ 0x03 ∷ 0x06 ∷ 0x00 ∷ 0x00 ∷ 0x01 ∷ 0x01 ∷ 0x01 ∷ 0x02 ∷ 0x02
    ∷ 0x04 ∷ 0x0C ∷ 0x00 ∷ 0x01 ∷ 0x01 ∷ 0x00 ∷ 0x01 ∷ 0x00 ∷ 0x00 ∷ 0x05 ∷ 0x00 ∷ 0x01 ∷ 0x08 ∷ 0x02 ∷ 0x00 ∷ []

without_passes : refusal night_without ≡ Ok tt
unfolding lowest any count label_of flags_of from_of to_of node_of operator_from operators_from length_at at04 parts_of in_steps field_refusal out_of_range last_refusal fields_refusal bad_state bad_end above not_above starts_none unknown first_limit second_limit wrong_byte states_refusal edges_refusal dead_end_refusal nodes_refusal temporals_refusal parts_refusal refusal night_without
without_passes = refl

without_places : places (parts_of night_without) ≡ 12
unfolding count node_of operator_from operators_from length_at at04 parts_of night_without
without_places = refl

-- a run stays in the states 0 and 1
abbrev Low : ℕ → Type 0
Low s = (s ≡ 0) ⊎ (s ≡ 1)

first_low : (s : ℕ) → s < 3 → T ((table_of (parts_of night_without)).initial s) → Low s
unfolding flags_of initial_of length_at at04 parts_of night_without
first_low zero h t = inl refl
first_low (suc zero) h t = inr refl
first_low (suc (suc zero)) h t = absurd t
first_low (suc (suc (suc s))) h t = absurd (omega arith)

from_0 : (y : ℕ) → y < 3 → T ((table_of (parts_of night_without)).edge 0 y) → Low y
unfolding lowest any from_of to_of has_edge length_at at04 parts_of night_without
from_0 zero h t = inl refl
from_0 (suc zero) h t = inr refl
from_0 (suc (suc zero)) h t = absurd t
from_0 (suc (suc (suc y))) h t = absurd (omega arith)

from_1 : (y : ℕ) → y < 3 → T ((table_of (parts_of night_without)).edge 1 y) → Low y
unfolding lowest any from_of to_of has_edge length_at at04 parts_of night_without
from_1 zero h t = inl refl
from_1 (suc zero) h t = inr refl
from_1 (suc (suc zero)) h t = absurd t
from_1 (suc (suc (suc y))) h t = absurd (omega arith)

next_low : (x y : ℕ) → Low x → y < 3 → T ((table_of (parts_of night_without)).edge x y) → Low y
next_low x y (inl e) h t = from_0 y h (subst (λ (x : ℕ). T ((table_of (parts_of night_without)).edge x y)) e t)
next_low x y (inr e) h t = from_1 y h (subst (λ (x : ℕ). T ((table_of (parts_of night_without)).edge x y)) e t)

three : (s : ℕ) → s < (table_of (parts_of night_without)).states → s < 3
unfolding parts_of night_without
three s h = h

entry_low : (track : List ℕ) (k m : ℕ) → Run (table_of (parts_of night_without)) track k m → (i : ℕ) → i < k + m → Low (get_or track i 0)
entry_low track k m r zero h = first_low (get_or track 0 0) (three _ (r.states 0 h)) r.begins
entry_low track k m r (suc i) h =
    next_low (get_or track i 0) (get_or track (suc i) 0) (entry_low track k m r i (omega arith)) (three _ (r.states (suc i) h)) (r.steps i h)

-- where the rule is true: nothing is reported in state 0, and it is loaded in state 1
low_right : (s : ℕ) → Low s → (T (bit ((table_of (parts_of night_without)).label s) 1) → ⊥) ⊎ T (bit ((table_of (parts_of night_without)).label s) 0)
unfolding label_of length_at at04 parts_of night_without bit
low_right s (inl e) = subst (λ (s : ℕ). (T (bit ((table_of (parts_of night_without)).label s) 1) → ⊥) ⊎ T (bit ((table_of (parts_of night_without)).label s) 0)) (sym e) (inl (λ t. t))
low_right s (inr e) = subst (λ (s : ℕ). (T (bit ((table_of (parts_of night_without)).label s) 1) → ⊥) ⊎ T (bit ((table_of (parts_of night_without)).label s) 0)) (sym e) (inr tt)

pub without_holds : Holds (table_of (parts_of night_without)) (rule_of (parts_of night_without))
unfolding node_of length_at at04 parts_of night_without formula_of formulas formula rule
without_holds track k m v =
    v.breaks (λ j h. low_right (get_or track (position k m j) 0) (entry_low track k m v.run (position k m j) (position_below k m v.run.loops j)))

-- every allowed outcome is holds
pub without_held : (ws track : List ℕ) (answer : SearchAnswer) (ws' track' : List ℕ) → length ws ≡ 72 → length track ≡ 24
    → Searched night_without ws track answer ws' track' → number answer ≡ 0
without_held ws track answer ws' track' w t s =
    (decides_exactly (parts_of night_without) ws track answer ws' track'
    (searched_decides night_without ws track answer ws' track' without_passes (omega (arith, without_places)) (omega (arith, without_places)) s)
    ).1 without_holds
