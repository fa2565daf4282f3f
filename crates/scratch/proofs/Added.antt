-- Adding node n's bit to entries that are the values of the first n nodes makes them those of the first n+1, whichever of the three
-- ways the node takes. Assumes nothing.
use Prim.Native.Nat.{ℕ, suc, ◌+◌, ◌-◌, ◌≤◌, ◌<◌}
use mathlib.Core.Path.{◌≡◌, refl, ap, ◌∙◌}
use mathlib.Core.Bool.{Bool}
use mathlib.Core.List.{List}
use native.Mathlib.Omega.{arith}
use lib.ListN.{length}
use borrow.Author.Tests.{lt-ltb, le-ltb, eq-eqb, ne_eqb}
use Rattle.bits.specs.Bits.{bit}
use Rattle.meaning.specs.Table.{Node}
use Rattle.meaning.specs.Laws.{now, stay, greatest}
use Rattle.meaning.specs.Runs.{position}
use Rattle.rule.specs.declared.Temporal as T
use Rattle.rule.specs.declared.Temporal.TheVariants.{X, F, G, U, R, W}
use Rattle.rule.specs.Operator.{temporal_code}
use Rattle.rule.proofs.Values.{truth}
use Rattle.meaning.proofs.Positions.{position_below}
use Rattle.rule.proofs.Passes.{pass, pass_same, seed, lasting}
use Rattle.rule.proofs.Entries.{now_at, stay_at, ahead, entries, entries_below}
use Rattle.scratch.proofs.Scratch.{width, at, added, now_in, stay_in, plain_in, AddedTo, Adding}

-- a temporal operator that is not X takes two passes
pub takes_passes : (operator : T.Temporal) → (operator ≡ X → ⊥) → 7 ≤ temporal_code operator
takes_passes X h = absurd (h refl)
takes_passes F h = omega arith
takes_passes G h = omega arith
takes_passes U h = omega arith
takes_passes R h = omega arith
takes_passes W h = omega arith

-- node n's bit can be added to the values of the nodes below it
pub adding : (node : ℕ → Node) (labels : ℕ → ℕ) (k m n : ℕ) (before : List ℕ) → n < width
    → ((i : ℕ) → i < length before → at before i ≡ entries node labels k m n i) → Adding n before
adding node labels k m n before h values = record { narrow = h; below = λ i l. rw (values i l) (entries_below node labels k m n i) }

-- x is node n
module _ (node : ℕ → Node) (labels : ℕ → ℕ) (k m n : ℕ) (x : Node) (is : x ≡ node n) (loop : 1 ≤ m) (before : List ℕ)
    (whole : length before ≡ k + m) (values : (i : ℕ) → i < length before → at before i ≡ entries node labels k m n i) where
  abbrev E : ℕ → ℕ
  E = entries node labels k m n

  -- an entry with the node's own truth
  own : ℕ → ℕ → ℕ
  own i w = added w n (truth x (labels i) (ahead k m x E i) w)

  own_is : (i : ℕ) → i < length before → own i (at before i) ≡ entries node labels k m (suc n) i
  unfolding own entries
  own_is i h = rw is (ap (λ (w : ℕ). added w n (truth (node n) (labels i) (ahead k m (node n) E i) w)) (values i h))

  -- a guessed truth, added
  guessed_entry : 6 ≤ x.operator → (b : Bool) (i : ℕ) → i < length before → b ≡ ahead k m x E i
      → added (at before i) n b ≡ entries node labels k m (suc n) i
  unfolding own truth
  guessed_entry t b i h e = ap (added (at before i) n) e ∙ (rw (le-ltb x.operator 6 t) at own_is i h)

  now_valued : (i : ℕ) → i < length before → now_in x before i ≡ now_at x E i
  now_valued i h = ap (λ (w : ℕ). now x.operator (bit w x.first) (bit w x.second)) (values i h)

  stay_valued : (i : ℕ) → i < length before → stay_in x before i ≡ stay_at x E i
  stay_valued i h = ap (λ (w : ℕ). stay x.operator (bit w x.first) (bit w x.second)) (values i h)

  -- a pass over the entries, read from the list or from the values
  pass_valued : (s : Bool) (i d : ℕ) → i + d ≤ length before → pass (now_in x before) (stay_in x before) s i d ≡ pass (now_at x E) (stay_at x E) s i d
  pass_valued s i d h =
      pass_same (now_in x before) (stay_in x before) (now_at x E) (stay_at x E) s d i
      (λ j a b. now_valued j (omega arith)) (λ j a b. stay_valued j (omega arith))

  module _ (after : List ℕ) where
    abbrev Left : Type 0
    Left = (i : ℕ) → i < length before → at after i ≡ entries node labels k m (suc n) i

    pub left_by_plain : x.operator < 6 → AddedTo n (plain_in x labels before) before after → Left
    unfolding own truth
    left_by_plain p s i h = s i h ∙ (rw (lt-ltb x.operator 6 p) at own_is i h)

    pub left_by_next : x.operator ≡ 6 → AddedTo n (λ i. bit (at before (position k m (suc i))) x.first) before after → Left
    unfolding ahead
    left_by_next e s i h =
        s i h
        ∙ guessed_entry (omega arith) (bit (at before (position k m (suc i))) x.first) i h
        (rw (eq-eqb x.operator 6 e)
        (ap (λ (w : ℕ). bit w x.first) (values (position k m (suc i)) (omega (arith, position_below k m loop (suc i))))))

    pub left_by_passes : 7 ≤ x.operator → (b : Bool) → b ≡ seed (now_in x before) (stay_in x before) (greatest x.operator) k m
        → AddedTo n (λ i. pass (now_in x before) (stay_in x before) b i (length before - i)) before after → Left
    unfolding ahead lasting seed
    left_by_passes t b e s i h =
        s i h
        ∙ guessed_entry (omega arith) (pass (now_in x before) (stay_in x before) b i (length before - i)) i h
        (pass_valued b i (length before - i) (omega arith)
        ∙ (rw whole
        (ap (λ (c : Bool). pass (now_at x E) (stay_at x E) c i (k + m - i)) (e ∙ pass_valued (greatest x.operator) k m (omega arith))
        ∙ rw (ne_eqb x.operator 6 (λ q. omega arith)))))
