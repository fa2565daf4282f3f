-- What the entries hold on the way to the verdict. No promise rests on this; contracts cite it.
use Rattle.std.specs.Prelude.{ℕ, ◌+◌, ◌<◌, ◌≡◌, List, length, get_or}
use Rattle.rule.proofs.Entries.{entries}
use Rattle.reading.specs.Parts.{node_of}
use Rattle.scratch.proofs.Scratch.{labels_of}
use Rattle.judge.specs.declared.truths.Judging.{Judging}

-- the value of the first n nodes at an entry of the run
abbrev pub value : Judging → ℕ → ℕ → ℕ
value j n = entries (node_of j.nodes.now) (labels_of j.states.now j.run.track.now) j.run.k j.run.m n

-- each entry of the run has the value of the first n nodes
pub record Valued (j : Judging) (n : ℕ) (l : List ℕ) : Type 0 where
  pub whole : length l ≡ j.run.k + j.run.m
  pub values : (i : ℕ) → i < length l → get_or l i 0 ≡ value j n i
