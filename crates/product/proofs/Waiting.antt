-- The waiting number, over any list of promises. Where the top recurs, every promise below it is met again and again, since the
-- waiting number passes them all on its way up; and where every promise is met again and again, the top recurs, by the distance
-- from the top. Assumes nothing.
use Prim.Native.Nat.{ℕ, zero, suc, ◌+◌, ◌-◌, ◌≤◌, ◌<◌}
use native.Mathlib.Omega.{arith}
use native.Mathlib.Decide.{dec_lt}
use mathlib.Core.Path.{◌≡◌, refl, subst, subst₂}
use mathlib.Core.Bool.{Bool, true, false, cond, not}
use lib.Dec.{T, ltb, T_not}
use borrow.Author.Tests.{ltb-true, ltb-false}

-- at some position from i on
abbrev pub From : (ℕ → Type 0) → ℕ → Type 0
From P i = (j : ℕ) × (i ≤ j) × P j

-- again and again
abbrev pub Recurs : (ℕ → Type 0) → Type 0
Recurs P = (i : ℕ) → From P i

pub from_earlier : (P : ℕ → Type 0) (i : ℕ) {j : ℕ} → i ≤ j → From P j → From P i
from_earlier P i h (x, l, p) = (x, omega arith, p)

-- how the waiting number moves from w to v at a place that meets promise w, or does not
pub data Move (top : ℕ) (meets : Bool) (w v : ℕ) : Type 0 where
  rises : w < top → T meets → v ≡ suc w → Move top meets w v
  stays : w < top → T (not meets) → v ≡ w → Move top meets w v
  restarts : top ≤ w → v ≡ 0 → Move top meets w v

pub move : (top : ℕ) (meets : Bool) (w : ℕ) → Move top meets w (cond (ltb w top) (cond meets (suc w) w) 0)
move top meets w = go (ltb w top) refl meets
  where
    go : (below : Bool) → ltb w top ≡ below → (m : Bool) → Move top m w (cond below (cond m (suc w) w) 0)
    go true e true = rises (ltb-true w top e) tt refl
    go true e false = stays (ltb-true w top e) tt refl
    go false e m = restarts (ltb-false w top e) refl

-- met e i: the place at position i meets promise e; w i: its waiting number
module _ (top : ℕ) (met : ℕ → ℕ → Bool) (w : ℕ → ℕ) (moves : (i : ℕ) → Move top (met (w i) i) (w i) (w (suc i))) where
  restarted : (i : ℕ) → top ≤ w i → w (suc i) ≡ 0
  restarted i h = go (moves i)
    where
      go : Move top (met (w i) i) (w i) (w (suc i)) → w (suc i) ≡ 0
      go (rises l m e) = omega arith
      go (stays l m e) = omega arith
      go (restarts l e) = e

  -- what is passed is met
  passed : (i e : ℕ) → w i ≤ e → e < w (suc i) → T (met e i)
  passed i e h l = go (moves i)
    where
      go : Move top (met (w i) i) (w i) (w (suc i)) → T (met e i)
      go (rises b m v) = subst (λ (x : ℕ). T (met x i)) (omega arith) m
      go (stays b m v) = absurd (omega arith)
      go (restarts b v) = absurd (omega arith)

  passed_between : (d i j e : ℕ) → i + d ≡ j → w i ≤ e → e < w j → From (λ x. T (met e x)) i
  passed_between zero i j e p h l =
      let q : j ≡ i = omega arith in
      absurd (omega (arith, subst (λ (x : ℕ). e < w x) q l))
  passed_between (suc d) i j e p h l =
      go (dec_lt e (w (suc i))) (λ k. passed_between d (suc i) j e (omega arith) k l)
    where
      go : Dec (e < w (suc i)) → (w (suc i) ≤ e → From (λ x. T (met e x)) (suc i)) → From (λ x. T (met e x)) i
      go (yes c) later = (i, omega arith, passed i e h c)
      go (no c) later = from_earlier _ i (omega arith) (later (omega arith))

  -- where the top recurs, each promise below it is met again and again: from one mark the number starts at 0 and has to pass e
  -- before the next
  pub top_recurs→met_recurs : Recurs (λ i. w i ≡ top) → (e : ℕ) → e < top → Recurs (λ i. T (met e i))
  top_recurs→met_recurs marks e h i = first (marks i)
    where
      second : (j : ℕ) → i ≤ j → w j ≡ top → From (λ x. w x ≡ top) (suc j) → From (λ x. T (met e x)) i
      second j a p (l, b, q) =
          let zeroed : w (suc j) ≡ 0 = restarted j (omega arith) in
          from_earlier _ i {j = suc j} (omega arith)
          (passed_between (l - suc j) (suc j) l e (omega arith) (omega arith) (omega arith))

      first : From (λ x. w x ≡ top) i → From (λ x. T (met e x)) i
      first (j, a, p) = second j a p (marks (suc j))

  pub below_top : w 0 ≤ top → (i : ℕ) → w i ≤ top
  below_top h zero = h
  below_top h (suc i) = go (moves i) (below_top h i)
    where
      go : Move top (met (w i) i) (w i) (w (suc i)) → w i ≤ top → w (suc i) ≤ top
      go (rises b m v) l = omega arith
      go (stays b m v) l = omega arith
      go (restarts b v) l = omega arith

  -- a promise that is waited for and met at j has let the number rise by then
  risen : (d i j e : ℕ) → i + d ≡ j → w i ≡ e → e < top → T (met e j) → From (λ x. w x ≡ suc e) i
  risen zero i j e p h l m = go (moves i)
    where
      here : T (met (w i) i)
      here =
          let q : e ≡ w i = omega arith in
          let r : j ≡ i = omega arith in
          subst₂ (λ (x y : ℕ). T (met x y)) q r m

      go : Move top (met (w i) i) (w i) (w (suc i)) → From (λ x. w x ≡ suc e) i
      go (rises b n v) = (suc i, omega arith, omega arith)
      go (stays b n v) = absurd (T_not (met (w i) i) n here)
      go (restarts b v) = absurd (omega arith)
  risen (suc d) i j e p h l m = go (moves i) (λ k. risen d (suc i) j e (omega arith) k l m)
    where
      go : Move top (met (w i) i) (w i) (w (suc i)) → (w (suc i) ≡ e → From (λ x. w x ≡ suc e) (suc i))
          → From (λ x. w x ≡ suc e) i
      go (rises b n v) later = (suc i, omega arith, omega arith)
      go (stays b n v) later = from_earlier _ i (omega arith) (later (omega arith))
      go (restarts b v) later = absurd (omega arith)

  module _ (recurs : (e : ℕ) → e < top → Recurs (λ i. T (met e i))) where
    climbs : (n i : ℕ) → w i + n ≡ top → From (λ j. w j ≡ top) i
    climbs zero i p = (i, omega arith, omega arith)
    climbs (suc n) i p = on (recurs (w i) (omega arith) i) (climbs n)
      where
        up : ((x : ℕ) → w x + n ≡ top → From (λ j. w j ≡ top) x) → From (λ x. w x ≡ suc (w i)) i → From (λ j. w j ≡ top) i
        up rest (x, b, v) = from_earlier _ i b (rest x (omega arith))

        on : From (λ j. T (met (w i) j)) i → ((x : ℕ) → w x + n ≡ top → From (λ j. w j ≡ top) x) → From (λ j. w j ≡ top) i
        on (j, a, m) rest = up rest (risen (j - i) i j (w i) (omega arith) refl (omega arith) m)

    -- where each promise is met again and again, the top recurs
    pub met_recurs→top_recurs : w 0 ≤ top → Recurs (λ i. w i ≡ top)
    met_recurs→top_recurs h i = climbs (top - w i) i (omega (arith, below_top h i))
