-- Scans, and a stack with its cursors: what a paint, a push and a pop keep. Both searches go by these, with the limits 1 and 3.
-- Assumes nothing.
use Prim.Native.Nat.{ℕ, suc, ◌+◌, ◌≤◌, ◌<◌}
use native.Mathlib.Omega.{arith}
use native.Mathlib.Decide.{ℕ_discrete, dec_lt}
use mathlib.Core.Path.{◌≡◌, refl, sym, ap, ◌∙◌, subst}
use mathlib.Core.Logic.{◌≢◌, inl, inr}
use mathlib.Core.List.{List, [], ◌∷◌}
use mathlib.Core.Option.{some}
use lib.ListN.{length, set, take, length-set}
use lib.Seq.{get_or_at, get_or-set_same, get_or-set_other}
use Rattle.graph.proofs.Graph.{◌!◌, Graph, Step}
use Rattle.graph.proofs.Machine.{push, onward, Skips, Finds, Stack}
use Rattle.graph.proofs.Paths.{step_inside}
use Rattle.graph.proofs.Lists.{length_push, kept_pushed, Pushed, pushed, length_pop, popped, paint_keeps}

module _ {g : Graph} {limit : ℕ} {colour : List ℕ} where
  -- ---- scans

  pub skips_none : (x c : ℕ) → Skips g limit colour x c c
  skips_none x c = record { skips = λ a y from low h. absurd (omega arith) }

  pub skips_one : {x c e : ℕ} → Skips g limit colour x c e → ((y : ℕ) → g.cand x e ≡ some y → limit ≤ colour ! y) → Skips g limit colour x c (e + 1)
  skips_one {x} {c} {e} s last = record { skips = λ a y from low h. go a y from low h (dec_lt a e) }
    where
      go : (a y : ℕ) → c ≤ a → a < e + 1 → g.cand x a ≡ some y → Dec (a < e) → limit ≤ colour ! y
      go a y from low h (yes l) = s.skips a y from l h
      go a y from low h (no n) = last y (ap (g.cand x) (let q : e ≡ a = omega arith in q) ∙ h)

  pub skips_on : {x a b c : ℕ} → Skips g limit colour x a b → Skips g limit colour x b c → Skips g limit colour x a c
  skips_on {x} {a} {b} {c} s t = record { skips = λ e y from low h. go e y from low h (dec_lt e b) }
    where
      go : (e y : ℕ) → a ≤ e → e < c → g.cand x e ≡ some y → Dec (e < b) → limit ≤ colour ! y
      go e y from low h (yes l) = s.skips e y from l h
      go e y from low h (no n) = t.skips e y (omega arith) low h

  pub skips_paint : {x c e : ℕ} (y v : ℕ) → limit ≤ v → Skips g limit colour x c e → Skips g limit (set colour y v) x c e
  skips_paint y v p s = record { skips = λ a z from low h. paint_keeps colour y v z p (s.skips a z from low h) }

  -- where a scan of the whole row finds none, every step leads to a colour of the limit or above
  pub skips_step : {x y : ℕ} → Skips g limit colour x 0 g.D → Step g x y → limit ≤ colour ! y
  skips_step {y = y} s t = s.skips t.cursor y (omega arith) t.below t.leads

  pub finds_step : {x c e y : ℕ} → Finds g limit colour x c e y → Step g x y
  finds_step {e = e} f = record { cursor = e; below = f.low; leads = f.leads }

-- ---- a stack with its cursors

module _ {g : Graph} {limit : ℕ} {colour : List ℕ} where
  pub stack_start : (x : ℕ) → x < g.P → Stack g limit colour (x ∷ []) (0 ∷ [])
  stack_start x h = record {
    paired = refl;
    places = λ i l. let e : i ≡ 0 = omega arith in subst (λ (k : ℕ). (x ∷ []) ! k < g.P) (sym e) h;
    within = λ i l. let e : i ≡ 0 = omega arith in subst (λ (k : ℕ). (0 ∷ []) ! k ≤ g.D) (sym e) (omega arith);
    steps = λ i l. absurd (omega arith);
    passed = λ i l. let e : i ≡ 0 = omega arith in
        subst (λ (k : ℕ). Skips g limit colour ((x ∷ []) ! k) 0 ((0 ∷ []) ! k)) (sym e) (skips_none x 0);
  }

  module _ {stack cursors : List ℕ} (s : Stack g limit colour stack cursors) where
    pub stack_paint : (y v : ℕ) → limit ≤ v → Stack g limit (set colour y v) stack cursors
    stack_paint y v p = record {
      paired = s.paired;
      places = s.places;
      within = s.within;
      steps = s.steps;
      passed = λ i l. skips_paint y v p (s.passed i l);
    }

    module _ {d : ℕ} (deep : length stack ≡ suc d) where
      pub top_inside : stack ! d < g.P
      top_inside = s.places d (omega arith)

      pub finds_inside : {c y : ℕ} → Finds g limit colour (stack ! d) (cursors ! d) c y → y < g.P
      finds_inside f = step_inside top_inside (finds_step f)

      -- a scan from the top's cursor that finds none: the top leads to nothing below the limit
      pub top_exhausted : Skips g limit colour (stack ! d) (cursors ! d) g.D → (y : ℕ) → Step g (stack ! d) y → limit ≤ colour ! y
      top_exhausted n y t = skips_step (skips_on (s.passed d (omega arith)) n) t

      pub stack_pop : Stack g limit colour (take d stack) (take d cursors)
      stack_pop = record {
        paired = length_pop cursors d (s.paired ∙ deep) ∙ sym (length_pop stack d deep);
        places = λ i l. let h : i < d = omega (arith, length_pop stack d deep) in omega (arith, popped stack d i h, s.places i (omega arith));
        within = λ i l. let h : i < d = omega (arith, length_pop stack d deep) in omega (arith, popped cursors d i h, s.within i (omega arith));
        steps = λ i l. let h : suc i < d = omega (arith, length_pop stack d deep) in
            rw (popped stack d i (omega arith), popped stack d (suc i) h) (s.steps i (omega arith));
        passed = λ i l. let h : i < d = omega (arith, length_pop stack d deep) in
            rw (popped stack d i h, popped cursors d i h) (s.passed i (omega arith));
      }

      -- ---- a push of what a scan from the top found, painted v: the top's cursor passes it, and the new one starts at 0

      module _ {c y : ℕ} (f : Finds g limit colour (stack ! d) (cursors ! d) c y) (sized : length colour ≡ g.P) (v : ℕ) (high : limit ≤ v) where
        low : y < length colour
        low = omega (arith, finds_inside f)

        top_passed : Skips g limit (set colour y v) (stack ! d) 0 (c + 1)
        top_passed =
            skips_one
            (skips_paint y v high (skips_on (s.passed d (omega arith)) f.before))
            (λ z h. let e : y ≡ z = cc f.leads in subst (λ (k : ℕ). limit ≤ set colour y v ! k) e (omega (arith, get_or-set_same colour y v 0 low)))

        length_moved : length (set cursors d (c + 1)) ≡ suc d
        length_moved = length-set cursors d (c + 1) ∙ s.paired ∙ deep

        -- the cursors afterwards: the top's, those below it, and the new one
        moved_top : onward cursors d c ! d ≡ c + 1
        moved_top =
            kept_pushed (set cursors d (c + 1)) 0 d (omega (arith, length_moved))
            ∙ get_or-set_same cursors d (c + 1) 0 (omega (arith, s.paired))

        moved_other : (i : ℕ) → i < suc d → i ≢ d → onward cursors d c ! i ≡ cursors ! i
        moved_other i l n = kept_pushed (set cursors d (c + 1)) 0 i (omega (arith, length_moved)) ∙ get_or-set_other cursors d i (c + 1) 0 n

        moved_new : onward cursors d c ! suc d ≡ 0
        moved_new = get_or_at (set cursors d (c + 1)) 0 [] 0 (suc d) length_moved

        pushed_within : (i : ℕ) → i < length (push stack y) → Dec (i ≡ d) → Dec (i < suc d) → onward cursors d c ! i ≤ g.D
        pushed_within i l (yes e) b = omega (arith, f.low, moved_top, ap (λ (k : ℕ). onward cursors d c ! k) e)
        pushed_within i l (no n) (yes under) = omega (arith, moved_other i under n, s.within i (omega arith))
        pushed_within i l (no n) (no m) =
            let e : i ≡ suc d = omega (arith, length_push stack y) in
            omega (arith, moved_new, ap (λ (k : ℕ). onward cursors d c ! k) e)

        pushed_passed : (i : ℕ) → i < length (push stack y) → Dec (i ≡ d) → Dec (i < suc d)
            → Skips g limit (set colour y v) (push stack y ! i) 0 (onward cursors d c ! i)
        pushed_passed i l (yes e) b =
            rw e
            (rw (moved_top, kept_pushed stack y d (let q : d < length stack = omega arith in q)) top_passed)
        pushed_passed i l (no n) (yes under) =
            rw (moved_other i under n, kept_pushed stack y i (let q : i < length stack = omega arith in q))
            (skips_paint y v high (s.passed i (omega arith)))
        pushed_passed i l (no n) (no m) =
            let e : i ≡ suc d = omega (arith, length_push stack y) in
            rw (e, moved_new) (record { skips = λ a z from low h. absurd (omega arith) })

        pushed_steps : (i : ℕ) → suc i < length (push stack y) → Dec (suc i < length stack) → Step g (push stack y ! i) (push stack y ! suc i)
        pushed_steps i l (yes under) =
            rw (kept_pushed stack y i (omega arith), kept_pushed stack y (suc i) under) (s.steps i under)
        pushed_steps i l (no n) =
            let e : i ≡ d = omega (arith, length_push stack y) in
            rw (e, kept_pushed stack y d (omega arith), get_or_at stack y [] 0 (suc d) deep) (finds_step f)

        pushed_places : (i : ℕ) → Pushed stack y i → push stack y ! i < g.P
        pushed_places i (inl p) = omega (arith, s.places i p.0)
        pushed_places i (inr p) = omega (arith, low)

        pub stack_push : Stack g limit (set colour y v) (push stack y) (onward cursors d c)
        stack_push = record {
          paired = omega (arith, length_push (set cursors d (c + 1)) 0, length_moved, length_push stack y);
          places = λ i l. pushed_places i (pushed stack y i l);
          within = λ i l. pushed_within i l (ℕ_discrete i d) (dec_lt i (suc d));
          steps = λ i l. pushed_steps i l (dec_lt (suc i) (length stack));
          passed = λ i l. pushed_passed i l (ℕ_discrete i d) (dec_lt i (suc d));
        }
