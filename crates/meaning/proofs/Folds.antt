-- Folding a run: a shorter stem and loop over the same entries whose endless path is the same. What the longer run breaks the shorter
-- one breaks. Assumes nothing.
use Prim.Native.Nat.{ℕ, zero, suc, ◌+◌, ◌-◌, ◌≤◌, ◌<◌}
use native.Mathlib.Omega.{arith}
use native.Mathlib.Decide.{dec_lt, ℕ_discrete}
use mathlib.Core.Path.{◌≡◌, sym, ◌∙◌, ap, subst, subst₂}
use mathlib.Core.List.{List}
use lib.Dec.{T}
use lib.ListN.{length, get_or}
use Rattle.meaning.specs.Formula.{Formula}
use Rattle.meaning.specs.Table.{Table}
use Rattle.meaning.specs.Runs.{position, path_of, Violates}
use Rattle.meaning.proofs.Loops.{Repeats, position_in, position_loop, position_repeats, by_lower}
use Rattle.meaning.proofs.Positions.{position_closes, position_below, position_next}
use Rattle.meaning.proofs.Ahead.{at_ahead}

-- the endless path of entries f, with stem k and loop m
abbrev pub along : {A : Type 0} → (ℕ → A) → ℕ → ℕ → ℕ → A
along f k m i = f (position k m i)

-- stem k' and loop m' of the same entries: no more of them, and the path repeats so
pub record Folds (f : ℕ → ℕ) (k m k' m' : ℕ) : Type 0 where
  pub loops : 1 ≤ m'
  pub within : k' + m' ≤ k + m
  pub repeats : Repeats (along f k m) k' m'

-- paths that repeat alike and begin alike are alike
same_all : {A : Type 0} (f g : ℕ → A) (k m : ℕ) → 1 ≤ m → Repeats f k m → Repeats g k m → ((i : ℕ) → i < k + m → f i ≡ g i) → (i : ℕ) → f i ≡ g i
same_all f g k m loops r s begin = by_lower (λ i. f i ≡ g i) λ i lower. near i lower (dec_lt i (k + m))
  where
    near : (i : ℕ) → ((j : ℕ) → j < i → f j ≡ g j) → Dec (i < k + m) → f i ≡ g i
    near i lower (yes h) = begin i h
    near i lower (no h) =
        let back : i - m + m ≡ i = omega arith in
        ap f (sym back) ∙ (r (i - m) (omega arith) ∙ (lower (i - m) (omega arith) ∙ (sym (s (i - m) (omega arith)) ∙ ap g back)))

-- the folded path is the path
pub folds_same : {f : ℕ → ℕ} {k m k' m' : ℕ} → Folds f k m k' m' → (i : ℕ) → along f k' m' i ≡ along f k m i
folds_same {f} {k} {m} {k'} {m'} o =
    same_all (along f k' m') (along f k m) k' m' o.loops (λ i h. ap f (position_repeats k' m' i h)) o.repeats
    (λ i h. ap f (position_in k' m' i h ∙ sym (position_in k m i (omega (arith, o.within)))))

-- entries that are the same fold alike
pub folds_along : {f g : ℕ → ℕ} {k m k' m' : ℕ} → 1 ≤ m → ((i : ℕ) → i < k + m → g i ≡ f i) → Folds f k m k' m' → Folds g k m k' m'
folds_along {k = k} {m = m} {k' = k'} {m' = m'} loops same o = record {
  loops = o.loops;
  within = o.within;
  repeats = λ i h.
      same (position k m (i + m')) (position_below k m loops (i + m'))
      ∙ (o.repeats i h ∙ sym (same (position k m i) (position_below k m loops i)));
}

module _ {t : Table} {φ : Formula} {track : List ℕ} {k m : ℕ} (v : Violates t φ track k m) where
  abbrev f : ℕ → ℕ
  f i = get_or track i 0

  -- an entry has an edge to the next position's
  edge_on : (j : ℕ) → suc j ≤ k + m → T (t.edge (f j) (along f k m (suc j)))
  edge_on j h = go (dec_lt (suc j) (k + m))
    where
      go : Dec (suc j < k + m) → T (t.edge (f j) (along f k m (suc j)))
      go (yes l) = subst (λ (e : ℕ). T (t.edge (f j) (f e))) (sym (position_in k m (suc j) l)) (v.run.steps j l)
      go (no l) =
          let last : k + m - 1 ≡ j = omega arith in
          let ends : k + m ≡ suc j = omega arith in
          subst₂ (λ (d e : ℕ). T (t.edge (f d) (f e))) last
          (sym (position_closes k m v.run.loops) ∙ ap (position k m) ends) v.run.closes

  -- a track that holds the entries of the folded run
  pub violates_folded : {k' m' : ℕ} → Folds f k m k' m' → {track' : List ℕ} → k' + m' ≤ length track'
      → ((i : ℕ) → i < k' + m' → get_or track' i 0 ≡ f i) → Violates t φ track' k' m'
  violates_folded {k'} {m'} o {track'} stored holds = record {
    run = record {
      loops = o.loops;
      stored = stored;
      states = λ i h. subst (λ (s : ℕ). s < t.states) (sym (holds i h)) (v.run.states i (omega (arith, o.within)));
      begins = subst (λ (s : ℕ). T (t.initial s)) (sym (holds 0 (omega (arith, o.loops)))) v.run.begins;
      steps = λ i h.
          subst₂ (λ (d e : ℕ). T (t.edge d e)) (sym (holds i (omega arith))) (sym (holds (suc i) h))
          (v.run.steps i (omega (arith, o.within)));
      closes =
          let last : suc (k' + m' - 1) ≡ k' + m' = omega (arith, o.loops) in
          subst₂ (λ (d e : ℕ). T (t.edge d e)) (sym (holds (k' + m' - 1) (omega (arith, o.loops))))
          (ap (along f k m) last
          ∙ (o.repeats k' (omega arith)
          ∙ (ap f (position_in k m k' (omega (arith, o.loops, o.within))) ∙ sym (holds k' (omega (arith, o.loops))))))
          (edge_on (k' + m' - 1) (omega (arith, o.loops, o.within)));
    };
    breaks = λ u.
        v.breaks
        (at_ahead (path_of t track' k' m') (path_of t track k m) φ 0 0
        (record {
          same = λ d.
              ap t.label
              (holds (position k' m' (0 + d)) (position_below k' m' o.loops (0 + d)) ∙ folds_same o (0 + d));
        })
        u);
  }

-- ---- when a run folds

-- from a position's entry, p positions on
position_on : (k m : ℕ) → 1 ≤ m → (i p : ℕ) → position k m (position k m i + p) ≡ position k m (i + p)
position_on k m loops i zero =
    ap (position k m) (omega arith) ∙ (position_in k m (position k m i) (position_below k m loops i) ∙ ap (position k m) (omega arith))
position_on k m loops i (suc p) =
    ap (position k m) (omega arith)
    ∙ (sym (position_next k m loops (position k m i + p))
    ∙ (ap (λ (e : ℕ). position k m (suc e)) (position_on k m loops i p)
    ∙ (position_next k m loops (i + p) ∙ ap (position k m) (omega arith))))

-- the loop is the same again p further round
abbrev pub Rotates : (ℕ → ℕ) → ℕ → ℕ → ℕ → Type 0
Rotates f k m p = (j : ℕ) → k ≤ j → j < k + m → f j ≡ f (position k m (j + p))

-- a whole turn further round it is
pub turn_rotates : (f : ℕ → ℕ) (k m : ℕ) → Rotates f k m m
turn_rotates f k m j h l = ap f (sym (position_repeats k m j h ∙ position_in k m j l))

-- the last entries of the stem are those p further on
abbrev pub StemEnds : (ℕ → ℕ) → ℕ → ℕ → ℕ → Type 0
StemEnds f s k p = (j : ℕ) → s ≤ j → j < k → f j ≡ f (j + p)

-- one more entry of the stem
pub stem_ends_more : (f : ℕ → ℕ) (s k p : ℕ) → 0 < s → f (s - 1) ≡ f (s + p - 1) → StemEnds f s k p → StemEnds f (s - 1) k p
stem_ends_more f s k p some here later j h l = go (ℕ_discrete j (s - 1))
  where
    go : Dec (j ≡ s - 1) → f j ≡ f (j + p)
    go (yes q) = ap f q ∙ (here ∙ ap f (let z : s + p - 1 ≡ j + p = omega arith in z))
    go (no q) = later j (omega arith) l

pub folds : (f : ℕ → ℕ) (k m s p : ℕ) → 1 ≤ p → p ≤ m → s ≤ k → Rotates f k m p → StemEnds f s k p → Folds f k m s p
folds f k m s p loops short low round behind = record { loops = loops; within = omega arith; repeats = λ i h. near i h (dec_lt i k) }
  where
    near : (i : ℕ) → s ≤ i → Dec (i < k) → along f k m (i + p) ≡ along f k m i
    near i h (yes l) =
        ap f (position_in k m (i + p) (omega arith)) ∙ (sym (behind i h l) ∙ ap f (sym (position_in k m i (omega arith))))
    near i h (no l) =
        ap f (sym (position_on k m (omega arith) i p))
        ∙ sym (round (position k m i) (omega (arith, position_loop k m i (omega arith))) (position_below k m (omega arith) i))
