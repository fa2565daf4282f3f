-- What is known of a case and a run that nothing refuses: the run is one of the table's, the scratch has room, and the nodes' bytes are
-- bits of an entry, so that the truth of each node can be told. Assumes nothing.
use Rattle.std.specs.Prelude.{Ok}
use Prim.Native.Nat.{ℕ, suc, ◌+◌, ◌-◌, ◌≤◌, ◌<◌}
use native.Mathlib.Decide.{dec_lt, ℕ_discrete}
use mathlib.Core.Path.{◌≡◌, sym, ap, ◌∙◌, subst}
use mathlib.Core.Bool.{false, not}
use mathlib.Core.List.{List}
use native.Mathlib.Omega.{arith}
use lib.Dec.{T, ltb, eqb}
use lib.ListN.{length, get_or}
use borrow.Author.Tests.{leb-false, ltb-false, eqb-false, not-false, le-ltb, lt-leb, ne_eqb}
use Rattle.meaning.specs.Table.{Table}
use Rattle.meaning.specs.Laws.{operands}
use Rattle.meaning.specs.Runs.{position, Run}
use Rattle.meaning.proofs.Truths.{T-along, T_is_true}
use Rattle.meaning.proofs.Loops.{position_in}
use Rattle.meaning.proofs.Positions.{position_closes}
use Rattle.reading.specs.Parts.{Parts, node_of, node_count}
use Rattle.reading.specs.Lowest.{any}
use Rattle.reading.proofs.Lowest.{any_false, any_none}
use Rattle.reading.proofs.Admitted.{Admitted}
use Rattle.judge.specs.Refusals.{outside, gap, stored_refusal, run_refusal}
use Rattle.judge.proofs.Refused.{not_refused}
use Rattle.scratch.proofs.Scratch.{width}

-- what the six rows leave
pub record Free (t : Table) (track : List ℕ) (k m room : ℕ) : Type 0 where
  pub loops : eqb m 0 ≡ false
  pub held : ltb (length track) (k + m) ≡ false
  pub none_outside : any (outside t track) (k + m) ≡ false
  pub first_initial : not (t.initial (get_or track 0 0)) ≡ false
  pub no_gap : any (gap t track k m) (k + m) ≡ false
  pub room_enough : ltb room (k + m) ≡ false

pub free : (t : Table) (track : List ℕ) (k m room : ℕ) → run_refusal t track k m room ≡ Ok tt → Free t track k m room
unfolding run_refusal stored_refusal
free t track k m room passed =
    let by_50 = not_refused _ _ _ _ passed in
    let by_51 = not_refused _ _ _ _ by_50.1 in
    let by_52 = not_refused _ _ _ _ by_51.1 in
    let by_53 = not_refused _ _ _ _ by_52.1 in
    let by_54 = not_refused _ _ _ _ by_53.1 in
    let by_40 = not_refused _ _ _ _ by_54.1 in
    record {
      loops = by_50.0;
      held = by_51.0;
      none_outside = by_52.0;
      first_initial = by_53.0;
      no_gap = by_54.0;
      room_enough = by_40.0;
    }

module _ {t : Table} {track : List ℕ} {k m room : ℕ} (f : Free t track k m room) where
  loop : 1 ≤ m
  loop = pos m (eqb-false m 0 f.loops)
    where
      pos : (n : ℕ) → (n ≡ 0 → ⊥) → 1 ≤ n
      pos n h = omega arith

  step : (i : ℕ) → i < k + m → T (t.edge (get_or track i 0) (get_or track (position k m (suc i)) 0))
  step i h =
      T-along
      (sym
      (not-false (t.edge (get_or track i 0) (get_or track (position k m (suc i)) 0))
      (any_false (gap t track k m) (k + m) f.no_gap i h)))
      tt

  -- the run is one of the table's
  pub free_run : Run t track k m
  free_run =
      record {
        loops = loop;
        stored = ltb-false (length track) (k + m) f.held;
        states = λ i h. leb-false t.states (get_or track i 0) (any_false (outside t track) (k + m) f.none_outside i h);
        begins = T-along (sym (not-false (t.initial (get_or track 0 0)) f.first_initial)) tt;
        steps = λ i h.
            subst (λ (p : ℕ). T (t.edge (get_or track i 0) (get_or track p 0))) (position_in k m (suc i) h) (step i (omega arith));
        closes =
            subst (λ (p : ℕ). T (t.edge (get_or track (k + m - 1) 0) (get_or track p 0)))
            (ap (position k m) last ∙ position_closes k m loop) (step (k + m - 1) (omega (arith, loop)));
      }
    where
      last : suc (k + m - 1) ≡ k + m
      last = omega (arith, loop)

  pub free_room : k + m ≤ room
  free_room = ltb-false room (k + m) f.room_enough

-- rows 50 to 54 and 40 pass a run of the table that the scratch has room for
pub run_passes : (t : Table) (track : List ℕ) (k m room : ℕ) → Run t track k m → k + m ≤ room → run_refusal t track k m room ≡ Ok tt
unfolding run_refusal stored_refusal
run_passes t track k m room r h =
    rw (ne_eqb m 0 some, le-ltb (length track) (k + m) r.stored, inside, T_is_true (t.initial (get_or track 0 0)) r.begins, stepping, le-ltb room (k + m) h)
  where
    some : m ≡ 0 → ⊥
    some e = omega (arith, r.loops)

    inside : any (outside t track) (k + m) ≡ false
    inside = any_none (outside t track) (k + m) (λ j l. lt-leb t.states (get_or track j 0) (r.states j l))

    edge : (i : ℕ) → i < k + m → Dec (suc i < k + m) → T (t.edge (get_or track i 0) (get_or track (position k m (suc i)) 0))
    edge i l (yes c) = subst (λ (p : ℕ). T (t.edge (get_or track i 0) (get_or track p 0))) (sym (position_in k m (suc i) c)) (r.steps i c)
    edge i l (no c) =
        let last : suc i ≡ k + m = omega arith in
        let here : k + m - 1 ≡ i = omega arith in
        subst (λ (p : ℕ). T (t.edge (get_or track i 0) (get_or track p 0)))
        (sym (ap (position k m) last ∙ position_closes k m r.loops))
        (subst (λ (x : ℕ). T (t.edge (get_or track x 0) (get_or track k 0))) here r.closes)

    stepping : any (gap t track k m) (k + m) ≡ false
    stepping = any_none (gap t track k m) (k + m) (λ i l. ap not (T_is_true (t.edge (get_or track i 0) (get_or track (position k m (suc i)) 0)) (edge i l (dec_lt (suc i) (k + m)))))

-- ---- the nodes' bytes

module _ {p : Parts} (a : Admitted p) (n : ℕ) (h : n < node_count p.node_list) where
  abbrev operator : ℕ
  operator = (node_of p.node_list n).operator

  pub first_narrow : (node_of p.node_list n).first < width
  first_narrow = go (ℕ_discrete operator 1) (dec_lt 0 (operands operator))
    where
      go : Dec (operator ≡ 1) → Dec (0 < operands operator) → (node_of p.node_list n).first < width
      go (yes atom) d = omega (arith, a.atoms_below n h atom, a.few_atoms)
      go (no other) (yes some) = omega (arith, a.ordered.first_lower n h some, a.few_nodes)
      go (no other) (no none) = omega (arith, a.first_unused n h (omega arith) other)

  pub second_narrow : (node_of p.node_list n).second < width
  second_narrow = go (dec_lt 1 (operands operator))
    where
      go : Dec (1 < operands operator) → (node_of p.node_list n).second < width
      go (yes two) = omega (arith, a.ordered.second_lower n h two, a.few_nodes)
      go (no less) = omega (arith, a.second_unused n h (omega arith))
