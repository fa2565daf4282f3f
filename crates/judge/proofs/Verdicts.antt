-- From the rule's bit to the verdict. The bits of the entries along the run's path are a valuation, a valuation is truth, and so the
-- rule's bit at entry 0 says whether the run violates. Assumes nothing.
use Rattle.std.specs.Prelude.{Ok, Err}
use Prim.Native.Nat.{ℕ, ◌+◌, ◌-◌, ◌≤◌}
use mathlib.Core.Path.{◌≡◌, refl, sym, ap, subst}
use mathlib.Core.Bool.{Bool, true, false, not}
use mathlib.Core.List.{List, ◌++◌}
use mathlib.Core.Logic.{◌↔◌, inl, inr}
use native.Mathlib.Omega.{arith}
use lib.Dec.{T}
use lib.ListN.{length, drop, replicate}
use Rattle.bits.specs.Bits.{bit}
use Rattle.meaning.specs.Runs.{position, Run, Violates}
use Rattle.meaning.proofs.Truths.{T-along}
use Rattle.meaning.proofs.Loops.{position_in}
use Rattle.meaning.proofs.Verdicts.{violates_by_valuation}
use Rattle.rule.proofs.Entries.{entries, entries_valuation}
use Rattle.reading.specs.Parts.{Parts, table_of, rule_of, node_of, node_count}
use Rattle.reading.specs.Refusals.{parts_of, refusal}
use Rattle.reading.proofs.Admitted.{Admitted}
use Rattle.reading.specs.declared.CaseRefusal.{CaseRefusal}
use Rattle.reading.proofs.Known.{admitted}
use Rattle.judge.specs.declared.RunRefusal.{RunRefusal}
use Rattle.judge.specs.declared.Refusal.TheVariants.{Case, Run as Refused}
use Rattle.judge.specs.declared.Verdict.TheVariants.{Satisfied, Violated}
use Rattle.judge.specs.Refusals.{run_refusal}
use Rattle.judge.specs.Judged.{Judged}
use Rattle.scratch.proofs.Scratch.{labels_of, Tellable}
use Rattle.judge.proofs.Passed.{Free, free, free_run, free_room, first_narrow, second_narrow}

-- ---- a refused case writes nothing

pub judged_case : (bytes track : List ℕ) (k m : ℕ) (scratch : List ℕ) (r : CaseRefusal) → refusal bytes ≡ Err r
    → Judged bytes track k m scratch (Err (Case r)) scratch
unfolding Judged
judged_case bytes track k m scratch r e = rw e (refl, refl)

module _ (bytes : List ℕ) (passed : refusal bytes ≡ Ok tt) (track : List ℕ) (k m : ℕ) (scratch : List ℕ) where
  abbrev p : Parts
  p = parts_of bytes

  facts : Admitted p
  facts = admitted bytes passed

  pub judged_run : (r : RunRefusal) → run_refusal (table_of p) track k m (length scratch) ≡ Err r
      → Judged bytes track k m scratch (Err (Refused r)) scratch
  unfolding Judged
  judged_run r h = rw (passed, h) (refl, refl)

  module _ (unrefused : run_refusal (table_of p) track k m (length scratch) ≡ Ok tt) where
    allowed : Free (table_of p) track k m (length scratch)
    allowed = free (table_of p) track k m (length scratch) unrefused

    run : Run (table_of p) track k m
    run = free_run allowed

    pub room : k + m ≤ length scratch
    room = free_room allowed

    pub tellable : Tellable p.state_list p.node_list track k m
    tellable =
        record {
          labelled = λ i h. omega (arith, run.states i h, facts.state_bytes);
          some_node = facts.some_node;
          few_nodes = facts.few_nodes;
          ordered = facts.ordered;
          first_narrow = first_narrow facts;
          second_narrow = second_narrow facts;
        }

    -- the rule's bit at entry 0
    abbrev told : Bool
    told = bit (entries (node_of p.node_list) (labels_of p.state_list track) k m (node_count p.node_list) 0) (node_count p.node_list - 1)

    decided : Violates (table_of p) (rule_of p) track k m ↔ T (not told)
    decided =
        let node = node_of p.node_list in
        let n = node_count p.node_list in
        let value = entries node (labels_of p.state_list track) k m n in
        let first : position k m 0 ≡ 0 = position_in k m 0 (omega (arith, run.loops)) in
        let is =
        violates_by_valuation (table_of p) track k m node n facts.some_node facts.ordered run (λ x i. bit (value (position k m i)) x)
        (entries_valuation node (labels_of p.state_list track) k m n run.loops facts.ordered) in
        subst (λ (i : ℕ). Violates (table_of p) (rule_of p) track k m ↔ T (not (bit (value i) (n - 1)))) first is

    module _ (after : List ℕ) (cleared : after ≡ replicate (k + m) 0 ++ drop (k + m) scratch) where
      pub judged_true : told ≡ true → Judged bytes track k m scratch (Ok Satisfied) after
      unfolding Judged
      judged_true b =
          rw (passed, unrefused)
          (record { verdict = inr (refl, λ v. T-along (ap not b) (decided.0 v)); cleared = cleared })

      pub judged_false : told ≡ false → Judged bytes track k m scratch (Ok Violated) after
      unfolding Judged
      judged_false b =
          rw (passed, unrefused)
          (record { verdict = inl (refl, decided.1 (T-along (sym (ap not b)) tt)); cleared = cleared })
