-- What the code prepares for a case that was read is the setting of a search over it; and what a search in that setting shows is the
-- verdict that the outcome asks. Assumes nothing.
use Rattle.std.specs.Prelude.{None, Ok, Err}
use Prim.Native.Nat.{ℕ, ◌+◌, ◌-◌, ◌*◌, ◌^◌, ◌≤◌, ◌<◌}
use native.Mathlib.Nat.{mul-le-mul, add-le-add, le_refl}
use native.Mathlib.Omega.{arith}
use mathlib.Core.Path.{◌≡◌, refl, sym, ap, ◌∙◌, subst₂}
use mathlib.Core.List.{List, ◌++◌}
use lib.Dec.{ltb}
use lib.Pow.{pow_mono}
use lib.ListN.{length, take, drop, replicate, length-replicate, get_or-replicate, get_or-append, get_or-eq_default}
use lib.Seq.{get_or-take, drop_at, length-take-le}
use borrow.Author.Tests.{lt-ltb, le-ltb}
use Rattle.reading.specs.Parts.{Parts, table_of, node_of, node_count, edge_count, from_of, temporals, eventualities, places}
use Rattle.reading.specs.Refusals.{parts_of, case_of}
use Rattle.reading.specs.declared.Shape.{Shape}
use Rattle.reading.proofs.Admitted.{Admitted}
use Rattle.reading.proofs.Known.{Known, known}
use Rattle.product.proofs.Lanes.{Rows, Lanes, Starts}
use Rattle.filled.proofs.Filling.{Filling, Leaving}
use Rattle.filled.proofs.Edges.{leaving}
use Rattle.graph.proofs.Graph.{◌!◌}
use Rattle.workspace.proofs.Setting.{Setting}
use Rattle.workspace.proofs.Roots.{Rooting}
use Rattle.workspace.proofs.Views.{Kept}
use Rattle.workspace.proofs.ViewsIn.{OuterIn, MetIn}
use Rattle.workspace.proofs.RootTurns.{start_at}
use Rattle.meaning.proofs.Folds.{Folds}
use Rattle.workspace.proofs.Tracks.{holds_in, Lowest, run_in, Wrote, met_violates}
use Rattle.search.specs.Outcome.{workspace_needs, track_needs, cleared, HasBroken, Decides, Searches}
use Rattle.search.specs.Answers.{SearchAnswer}
use Rattle.search.specs.declared.SearchRefusal.{SearchRefusal}

-- ---- the sizes and the arrays

module _ (bytes : List ℕ) (shape : Shape) (case : case_of bytes ≡ Ok shape) where
  abbrev pub read : Known bytes shape
  read = known bytes shape case

  pub sizes_low : (shape.states ≤ 64) × (shape.temporals ≤ 4) × (shape.eventualities ≤ 4)
  sizes_low = (
    omega (arith, read.states_is, read.facts.few_states),
    omega (arith, read.temporals_is, read.facts.few_temporals),
    omega (arith, read.eventualities_is, read.facts.few_temporals, read.facts.fewer_eventualities),
  )

  pub places_are : shape.states * 2 ^ shape.temporals * (shape.eventualities + 1) ≡ places (parts_of bytes)
  places_are = rw (read.states_is, read.temporals_is, read.eventualities_is)

  abbrev pub filling : {states nodes : List ℕ} → states ≡ (parts_of bytes).state_list → nodes ≡ (parts_of bytes).node_list
      → Filling states nodes shape.nodes
  filling {states} {nodes} s n = record {
    parts = parts_of bytes;
    admitted = read.facts;
    states_are = s;
    nodes_are = n;
    within = omega (arith, read.nodes_is, ap (λ (l : List ℕ). node_count l) n);
  }

  pub edges_leaving : {edges : List ℕ} → edges ≡ (parts_of bytes).edge_list → Leaving edges shape.states
  edges_leaving e = subst₂ Leaving (sym e) (sym read.states_is) (leaving read.facts)

  abbrev pub setting : {edges lanes starts : List ℕ} {guesses ones top size : ℕ} → edges ≡ (parts_of bytes).edge_list
      → Lanes (table_of (parts_of bytes)) (node_of (parts_of bytes).node_list) shape.nodes lanes
      → Starts (from_of edges) (edge_count edges) shape.states starts
      → guesses ≡ 2 ^ temporals (parts_of bytes) → ones ≡ 2 ^ guesses - 1 → top ≡ eventualities (parts_of bytes) → size ≡ places (parts_of bytes)
      → Setting edges lanes starts guesses ones top size
  setting {edges} {lanes} {starts} e l s g o t p = record {
    parts = parts_of bytes;
    admitted = read.facts;
    edges_are = e;
    lanes_are = rw read.nodes_is at l;
    starts_are = rw read.states_is at s;
    guesses_are = g;
    ones_are = o;
    top_is = t;
    size_is = p;
  }

  abbrev pub rooting : {states rows : List ℕ} {guesses : ℕ} → states ≡ (parts_of bytes).state_list
      → Rows (table_of (parts_of bytes)) (node_of (parts_of bytes).node_list) shape.nodes rows
      → guesses ≡ 2 ^ temporals (parts_of bytes) → Rooting states rows ((shape.nodes - 1) * 64) guesses
  rooting s r g = record {
    parts = parts_of bytes;
    admitted = read.facts;
    states_are = s;
    rows_are = rw read.nodes_is at r;
    last_is = ap (λ (n : ℕ). (n - 1) * 64) read.nodes_is;
    guesses_are = g;
  }

  pub some_node : (1 ≤ shape.nodes) × (shape.nodes ≤ 32)
  some_node = (omega (arith, read.nodes_is, read.facts.some_node), omega (arith, read.nodes_is, read.facts.few_nodes))

-- ---- the search in that setting

-- a case has few places
pub places_within : {p : Parts} → Admitted p → places p ≤ 5120
places_within {p} a =
    mul-le-mul (mul-le-mul a.few_states (pow_mono a.few_temporals)) (add-le-add few (le_refl 1))
  where
    few : eventualities p ≤ 4
    few = omega (arith, a.few_temporals, a.fewer_eventualities)

module _ {edges lanes starts : List ℕ} {guesses ones top size : ℕ} (x : Setting edges lanes starts guesses ones top size) where
  -- a cleared workspace is where it starts
  pub started : (ws : List ℕ) → 6 * size ≤ length ws → ((i : ℕ) → i < size → ws ! i ≡ 0) → OuterIn x 0 ws 0
  started ws lent zeros = start_at lent sized blank
    where
      sized : length (take size ws) ≡ size
      sized = length-take-le size ws (omega arith)

      blank : (i : ℕ) → take size ws ! i ≡ 0
      blank i = go (native.Mathlib.Decide.dec_lt i size)
        where
          go : Dec (i < size) → take size ws ! i ≡ 0
          go (yes h) = get_or-take size ws i 0 h ∙ zeros i h
          go (no h) = get_or-eq_default (take size ws) 0 (omega (arith, sized))

  -- what the search shows is the verdict, with the workspace cleared
  pub decides_holds : {ws : List ℕ} → OuterIn x size ws 0 → (lent track : List ℕ)
      → Decides x.parts lent track (Ok None) (cleared x.parts lent) track
  decides_holds o lent track = record { holds = holds_in x o; workspace_cleared = refl; track_untouched = refl }

  pub decides_violated : {ws : List ℕ} {outer inner at k stem repeat : ℕ} → MetIn x ws outer inner at → Lowest ws size at k
      → Folds (run_in ws size outer) k (outer + inner - 1 - k) stem repeat
      → {track track' : List ℕ} → Wrote ws size outer (stem + repeat) track track'
      → 2 * size ≤ length track → (lent : List ℕ)
      → HasBroken x.parts lent track (cleared x.parts lent) track' stem repeat
  decides_violated m low folded {track} {track'} wrote room lent = record {
    violates = met_violates x m low folded wrote room;
    workspace_cleared = refl;
    rest_untouched = wrote.behind;
    track_length = wrote.long;
  }

-- ---- clearing

-- an entry below n is 0 once the first n are cleared
pub clear_zero : (n : ℕ) (ws : List ℕ) (i : ℕ) → i < n → (replicate n 0 ++ drop n ws) ! i ≡ 0
clear_zero n ws i h =
    get_or-append (replicate n 0) (drop n ws) 0 i (omega (arith, length-replicate {A = ℕ} n 0)) ∙ get_or-replicate n i 0 0 h

-- cleared, kept beyond, and cleared again
pub clear_twice : (p : Parts) (size : ℕ) (ws cleared_once searched : List ℕ) → size ≡ places p
    → cleared_once ≡ replicate (6 * size) 0 ++ drop (6 * size) ws → Kept (places p) cleared_once searched
    → replicate (6 * size) 0 ++ drop (6 * size) searched ≡ cleared p ws
clear_twice p size ws cleared_once searched is once kept =
    rw (is, kept.beyond, once, is, drop_at (replicate (6 * places p) 0) (drop (6 * places p) ws) (6 * places p) (length-replicate (6 * places p) 0))

-- ---- room

module _ (p : Parts) (ws track : List ℕ) (size : ℕ) (is : size ≡ places p) where
  pub short_workspace : length ws < 6 * size
      → Searches (ltb (length ws) (workspace_needs p)) (ltb (length track) (track_needs p)) p ws track (Err (SearchRefusal.Workspace (6 * size))) ws track
  short_workspace h =
      rw (is, lt-ltb (length ws) (workspace_needs p) (rw is at h))
      (record { answered = refl; workspace_as_lent = refl; track_as_lent = refl })

  pub short_track : 6 * size ≤ length ws → length track < 2 * size
      → Searches (ltb (length ws) (workspace_needs p)) (ltb (length track) (track_needs p)) p ws track (Err (SearchRefusal.Track (2 * size))) ws track
  short_track l h =
      rw (is, le-ltb (length ws) (workspace_needs p) (rw is at l), lt-ltb (length track) (track_needs p) (rw is at h))
      (record { answered = refl; workspace_as_lent = refl; track_as_lent = refl })

  -- room enough: the verdict, with the workspace cleared
  pub room_enough : (answer : SearchAnswer) {ws' : List ℕ} (track' : List ℕ) → 6 * size ≤ length ws → 2 * size ≤ length track
      → ws' ≡ cleared p ws → Decides p ws track answer (cleared p ws) track'
      → Searches (ltb (length ws) (workspace_needs p)) (ltb (length track) (track_needs p)) p ws track answer ws' track'
  room_enough answer {ws'} track' l h e d =
      rw (le-ltb (length ws) (workspace_needs p) (rw is at l), le-ltb (length track) (track_needs p) (rw is at h), e) d
