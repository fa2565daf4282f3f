-- The turns of an inner search as the code takes them, from the push of its first place to the outer top left red. Assumes nothing.
use Prim.Native.Nat.{ℕ, zero, suc, ◌+◌, ◌-◌, ◌*◌, ◌%◌, ◌≤◌, ◌<◌}
use native.Mathlib.Nat.{not-suc-le-zero}
use native.Mathlib.Omega.{arith}
use mathlib.Core.Path.{◌≡◌, refl, sym, ap, ◌∙◌, subst}
use mathlib.Core.Logic.{◌≢◌}
use mathlib.Core.List.{List}
use lib.ListN.{length, set, take}
use lib.Seq.{get_or-take}
use Rattle.graph.proofs.Graph.{◌!◌}
use Rattle.graph.proofs.Machine.{blue, cyan, red, below, Finds}
use Rattle.workspace.proofs.Setting.{number_in, Coded, Setting, Topped, top_code}
use Rattle.workspace.proofs.Case.{coded_small}
use Rattle.workspace.proofs.Views.{Kept, kept_same, kept_set, fuel, outer_fuel}
use Rattle.workspace.proofs.ViewsIn.{cursors_in, graph_in, number-below, OuterIn, ExhaustedIn, InnerIn, MetIn, OuterOn, InnerOn}
use Rattle.workspace.proofs.TurnsIn.{Paints, Advances, pushed, advanced, ScanFinds, ScanSkips, scan_finds, scan_skips, outer_exhausted, coded_paints, below_unmarked, top_marked, advanced_is, cursors_few}
use Rattle.workspace.proofs.Stores
use Rattle.workspace.proofs.Turns
use Rattle.workspace.proofs.InnerTurns

module _ {edges lanes starts : List ℕ} {guesses ones top size : ℕ} (x : Setting edges lanes starts guesses ones top size) where
  pub inner_topped : {r w d : ℕ} {was ws : List ℕ} {depth : ℕ} → InnerIn x r w d was ws depth → 1 ≤ depth → Topped x.parts ws (3 * size) depth
  inner_topped {depth = zero} n h = absurd (not-suc-le-zero h)
  inner_topped {ws = ws} {depth = suc e} n h = record {
    some_place = h;
    colours_lie = omega (arith, n.at.lent, x.size_is);
    stack_lies = omega (arith, n.at.lent, n.at.fits, x.size_is);
    coded = subst (λ (k : ℕ). Coded x.parts (ws ! k)) (let q : 3 * size + e ≡ 3 * size + suc e - 1 = omega arith in q) (n.at.coded e (omega arith));
  }

  -- a cyan candidate: the loop is found
  pub inner_met : {r w d : ℕ} {was ws : List ℕ} {depth c code : ℕ} → InnerIn x r w d was ws depth → 1 ≤ depth → Coded x.parts code
      → ScanFinds x ws (3 * size) depth red c code → ws ! number_in guesses top code ≡ cyan → MetIn x ws (suc d) depth code
  inner_met {depth = zero} n h new f is = absurd (not-suc-le-zero h)
  inner_met {r} {w} {d} {was} {ws} {depth = suc e} {c} {code} n h new f is = record {
    r = r;
    w = w;
    d = d;
    e = e;
    cursor = c;
    outer_is = refl;
    inner_is = refl;
    at = n.at;
    coded = new;
    finds = scan_finds x ws (3 * size) e red c code f;
    meets = get_or-take size ws (number_in guesses top code) 0 (number-below x new) ∙ is;
  }

  -- a blue candidate is painted red and pushed
  pub record InnerAdvanced (r w d : ℕ) (was ws : List ℕ) (depth c code : ℕ) : Type 0 where
    pub asked : Advances guesses top size ws (3 * size) depth c code
    pub kept : Kept size ws (advanced guesses top size (3 * size) depth c code red ws)
    pub on : InnerOn x r w d was ws depth (advanced guesses top size (3 * size) depth c code red ws) (depth + 1)

  pub inner_advanced : {r w d : ℕ} {was ws : List ℕ} {depth c code : ℕ} → InnerIn x r w d was ws depth → 1 ≤ depth → Coded x.parts code
      → ScanFinds x ws (3 * size) depth red c code → ws ! number_in guesses top code ≢ cyan → InnerAdvanced r w d was ws depth c code
  inner_advanced {depth = zero} n h new f other = absurd (not-suc-le-zero h)
  inner_advanced {r} {w} {d} {was} {ws} {depth = suc e} {c} {code} n h new f other = record {
    asked = record {
      paints = coded_paints x (omega (arith, n.at.lent)) new;
      pushes = record { code_low = coded_small x.parts x.admitted new; lies = omega (arith, n.at.lent, small) };
      some_place = h;
      cursor_low = omega (arith, found.low, cursors_few x);
    };
    kept =
        rw (← advanced_is x (3 * size) e c code red ws)
        (Stores.advanced_kept (graph_in x) (number_in guesses top) (3 * size) e c code red ws (omega arith) (omega (arith, n.at.lent)) small (number-below x new) (omega arith));
    on =
        rw (← advanced_is x (3 * size) e c code red ws)
        (subst (InnerOn x r w d was ws (suc e) (Stores.advanced (graph_in x) (number_in guesses top) (3 * size) e c code red ws)) (let q : suc (suc e) ≡ suc e + 1 = omega arith in q)
        (record {
          at = record {
            at = InnerTurns.push_at n.at new found plain;
            same_cursors = InnerTurns.push_outer n.at new found plain ∙ n.same_cursors;
            same_top = InnerTurns.push_top n.at new found plain ∙ n.same_top;
          };
          falls = InnerTurns.push_fuel n.at new found plain;
        }));
  }
    where
      found : Finds (graph_in x) red (take size ws) (number_in guesses top (ws ! (3 * size + e))) (ws ! (3 * size + size + e)) c (number_in guesses top code)
      found = scan_finds x ws (3 * size) e red c code f

      plain : take size ws ! number_in guesses top code ≢ cyan
      plain q = other (sym (get_or-take size ws (number_in guesses top code) 0 (number-below x new)) ∙ q)

      small : suc e < size
      small = InnerTurns.push_fits n.at new found plain

  -- no candidate: the top is popped
  pub inner_back : {r w d : ℕ} {was ws : List ℕ} {depth : ℕ} → InnerIn x r w d was ws depth → 1 ≤ depth → ScanSkips x ws (3 * size) depth red
      → InnerOn x r w d was ws depth ws (depth - 1)
  inner_back {depth = zero} n h f = absurd (not-suc-le-zero h)
  inner_back {r} {w} {d} {was} {ws} {depth = suc e} n h f =
      subst (InnerOn x r w d was ws (suc e) ws) (let q : e ≡ suc e - 1 = omega arith in q)
      (record {
        at = record {
          at = InnerTurns.pop_at n.at (scan_skips x ws (3 * size) e red f);
          same_cursors = n.same_cursors;
          same_top = n.same_top;
        };
        falls = InnerTurns.pop_fuel n.at (scan_skips x ws (3 * size) e red f);
      })

  -- ---- leaving the top of the outer stack

  -- the outer stack has d + 1 places, the top is this code's, and its successors are exhausted
  pub record Leaving (r : ℕ) (ws : List ℕ) (d code : ℕ) : Type 0 where
    pub exhausted : ExhaustedIn x r ws d
    pub code_is : code ≡ ws ! (size + d)

  -- a scan of the outer top found nothing
  pub outer_leaving : {r : ℕ} {ws : List ℕ} {depth : ℕ} → OuterIn x r ws depth → 1 ≤ depth → ScanSkips x ws size depth blue
      → Leaving r ws (depth - 1) (top_code ws size depth)
  outer_leaving {ws = ws} {depth = depth} o h f = record {
    exhausted = outer_exhausted x o h f;
    code_is = ap (λ (k : ℕ). ws ! k) (let q : size + depth - 1 ≡ size + (depth - 1) = omega arith in q);
  }

  module _ {r : ℕ} {ws : List ℕ} {d code : ℕ} (l : Leaving r ws d code) where
    pub top_coded : Coded x.parts code
    top_coded = subst (Coded x.parts) (sym l.code_is) (l.exhausted.at.coded d (omega arith))

    pub top_lent : 6 * size ≤ length ws
    top_lent = l.exhausted.at.lent

    pub paint_kept : (colour : ℕ) → Kept size ws (set ws (number_in guesses top code) colour)
    paint_kept colour = kept_set (kept_same size ws) (number_in guesses top code) colour (omega (arith, number-below x top_coded))

    pub left_blue : code % 8 < top → OuterOn x r ws (suc d) (set ws (number_in guesses top code) blue) d
    left_blue low =
        rw l.code_is
        (record {
          at = Turns.leave_blue_at l.exhausted plain;
          falls = Turns.leave_blue_fuel l.exhausted plain;
        })
      where
        plain : lib.Dec.T ((graph_in x).marked (number_in guesses top (ws ! (size + d)))) → ⊥
        plain t = below_unmarked x (l.exhausted.at.coded d (omega arith)) (omega (arith, ap (λ (k : ℕ). k % 8) l.code_is)) t

    begun_is : Stores.begun (graph_in x) (number_in guesses top) (3 * size) (ws ! (size + d)) ws ≡ pushed size (3 * size) 0 code ws
    begun_is =
        ap (λ (k : ℕ). set (set ws (3 * size) k) (3 * size + size) 0) (sym l.code_is)
        ∙ ap (λ (k : ℕ). set (set ws k code) (3 * size + size) 0) (let q : 3 * size ≡ 3 * size + 0 = omega arith in q)
        ∙ ap (λ (k : ℕ). set (set ws (3 * size + 0) code) k 0) (let q : 3 * size + size ≡ 3 * size + size + 0 = omega arith in q)

    pub inner_kept : Kept size ws (pushed size (3 * size) 0 code ws)
    inner_kept =
        kept_set (kept_set (kept_same size ws) (3 * size + 0) code (omega (arith, l.exhausted.at.fits))) (3 * size + size + 0) 0
        (omega (arith, l.exhausted.at.fits))

    pub inner_begun : top ≤ code % 8 → InnerIn x r (below blue (take size ws)) d ws (pushed size (3 * size) 0 code ws) 1
    inner_begun high =
        rw (← begun_is)
        (record {
          at = Turns.begin_at l.exhausted (top_marked x (l.exhausted.at.coded d (omega arith)) (omega (arith, ap (λ (k : ℕ). k % 8) l.code_is)));
          same_cursors = Stores.before_begun (graph_in x) (number_in guesses top) (3 * size) (ws ! (size + d)) ws (omega (arith, top_lent)) (omega (arith, l.exhausted.at.fits)) (size + size) (suc d) (omega (arith, l.exhausted.at.fits));
          same_top = Stores.entry_begun (graph_in x) (number_in guesses top) (3 * size) (ws ! (size + d)) ws (omega (arith, top_lent)) (omega (arith, l.exhausted.at.fits)) (size + d) (omega (arith, l.exhausted.at.fits));
        })

    -- after an inner search that found nothing
    pub left_red : {ws' : List ℕ} → InnerIn x r (below blue (take size ws)) d ws ws' 0 → OuterOn x r ws (suc d) (set ws' (number_in guesses top code) red) d
    left_red {ws'} n =
        rw (l.code_is ∙ sym n.same_top)
        (record {
          at = InnerTurns.leave_red_at n.at;
          falls =
              subst (λ (c : List ℕ). outer_fuel (cursors_in edges) size (set ws' (number_in guesses top (ws' ! (size + d))) red) d < fuel (cursors_in edges) c (below blue (take size ws)))
              n.same_cursors (InnerTurns.leave_red_fuel n.at);
        })

    pub red_paints : {ws' : List ℕ} → Kept size ws ws' → Paints guesses top ws' code
    red_paints k = coded_paints x (omega (arith, top_lent, k.long)) top_coded

    pub red_kept : {ws' : List ℕ} → Kept size ws ws' → Kept size ws (set ws' (number_in guesses top code) red)
    red_kept k = kept_set k (number_in guesses top code) red (omega (arith, number-below x top_coded))
