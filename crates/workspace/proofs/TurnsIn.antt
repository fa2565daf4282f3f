-- The turns as the code takes them: what its small functions ask, the lists that they leave, and that a turn on them is one of the machine's.
-- Assumes nothing.
use Prim.Native.Nat.{ℕ, zero, suc, ◌+◌, ◌-◌, ◌%◌, ◌≤◌, ◌<◌}
use native.Mathlib.Nat.{not-suc-le-zero}
use native.Mathlib.Omega.{arith}
use mathlib.Core.Path.{◌≡◌, sym, ap, ◌∙◌, subst}
use mathlib.Core.List.{List}
use lib.Dec.{T, eqb, eqb→eq, eqb_refl}
use lib.ListN.{length, set, take}
use Rattle.reading.specs.Parts.{places}
use Rattle.product.specs.Places.{Place}
use Rattle.product.specs.Product.{place, marked}
use Rattle.graph.proofs.Graph.{◌!◌, Graph}
use Rattle.graph.proofs.Machine.{blue, cyan, Skips, Finds}
use Rattle.workspace.proofs.Setting.{product_of, cursors_of, number_of, number_in, Coded, Setting, Topped, top_code, top_cursor}
use Rattle.workspace.proofs.Case.{graph_of, top_is as case_top, coded_small, coded_place}
use Rattle.workspace.proofs.Views.{Kept, outer_fuel}
use Rattle.workspace.proofs.ViewsIn.{cursors_in, graph_in, graph_is, number_is, number-below, OuterIn, ExhaustedIn, OuterOn}
use Rattle.workspace.proofs.Stores
use Rattle.workspace.proofs.Turns

-- ---- what the small functions ask

-- a code can be painted
pub record Paints (guesses top : ℕ) (ws : List ℕ) (code : ℕ) : Type 0 where
  pub code_low : code < 8192
  pub inside : number_in guesses top code < length ws

-- a code can be pushed on the stack that starts at `base` and has `depth` places
pub record Pushes (size : ℕ) (ws : List ℕ) (base depth code : ℕ) : Type 0 where
  pub code_low : code < 8192
  pub lies : base + size + depth < length ws

-- its top can be passed, for a code at cursor c
pub record Advances (guesses top size : ℕ) (ws : List ℕ) (base depth c code : ℕ) : Type 0 where
  pub paints : Paints guesses top ws code
  pub pushes : Pushes size ws base depth code
  pub some_place : 1 ≤ depth
  pub cursor_low : c + 1 < 65536

-- ---- and what they leave

abbrev pub pushed : ℕ → ℕ → ℕ → ℕ → List ℕ → List ℕ
pushed size base depth code ws = set (set ws (base + depth) code) (base + size + depth) 0

abbrev pub advanced : ℕ → ℕ → ℕ → ℕ → ℕ → ℕ → ℕ → ℕ → List ℕ → List ℕ
advanced guesses top size base depth c code colour ws =
    pushed size base depth code (set (set ws (base + size + depth - 1) (c + 1)) (number_in guesses top code) colour)

-- ---- what a scan says

finds_along : {g : Graph} {limit e : ℕ} {colour colour' : List ℕ} {y y' c c' z z' : ℕ} → colour ≡ colour' → y ≡ y' → c ≡ c' → z ≡ z'
    → Finds g limit colour y c e z → Finds g limit colour' y' c' e z'
finds_along p q r s f = rw (← p, ← q, ← r, ← s) f

skips_along : {g : Graph} {limit e : ℕ} {colour colour' : List ℕ} {y y' c c' : ℕ} → colour ≡ colour' → y ≡ y' → c ≡ c'
    → Skips g limit colour y c e → Skips g limit colour' y' c' e
skips_along p q r f = rw (← p, ← q, ← r) f

module _ {edges lanes starts : List ℕ} {guesses ones top size : ℕ} (x : Setting edges lanes starts guesses ones top size) where
  -- the next candidate of the top with a colour below the limit
  abbrev pub ScanFinds : List ℕ → ℕ → ℕ → ℕ → ℕ → ℕ → Type 0
  ScanFinds ws base depth limit cursor code =
      Finds (graph_of x.parts x.admitted) limit (take (places x.parts) ws) (number_of x.parts (top_code ws base depth))
      (top_cursor x.parts ws base depth) cursor (number_of x.parts code)

  -- there is none
  abbrev pub ScanSkips : List ℕ → ℕ → ℕ → ℕ → Type 0
  ScanSkips ws base depth limit =
      Skips (graph_of x.parts x.admitted) limit (take (places x.parts) ws) (number_of x.parts (top_code ws base depth))
      (top_cursor x.parts ws base depth) (cursors_of x.parts)

  module _ (ws : List ℕ) (base d limit : ℕ) where
    colour_is : take (places x.parts) ws ≡ take size ws
    colour_is = ap (λ (n : ℕ). take n ws) (sym x.size_is)

    top_is : number_of x.parts (top_code ws base (suc d)) ≡ number_in guesses top (ws ! (base + d))
    top_is = sym (number_is x (top_code ws base (suc d))) ∙ ap (λ (k : ℕ). number_in guesses top (ws ! k)) (omega arith)

    cursor_is : top_cursor x.parts ws base (suc d) ≡ ws ! (base + size + d)
    cursor_is = ap (λ (k : ℕ). ws ! k) (omega (arith, x.size_is))

    pub scan_finds : (cursor code : ℕ) → ScanFinds ws base (suc d) limit cursor code
        → Finds (graph_in x) limit (take size ws) (number_in guesses top (ws ! (base + d))) (ws ! (base + size + d)) cursor (number_in guesses top code)
    scan_finds cursor code f =
        finds_along colour_is top_is cursor_is (sym (number_is x code))
        (subst (λ (g : Graph). Finds g limit (take (places x.parts) ws) (number_of x.parts (top_code ws base (suc d))) (top_cursor x.parts ws base (suc d)) cursor (number_of x.parts code)) (sym (graph_is x)) f)

    pub scan_skips : ScanSkips ws base (suc d) limit
        → Skips (graph_in x) limit (take size ws) (number_in guesses top (ws ! (base + d))) (ws ! (base + size + d)) (cursors_in edges)
    scan_skips f =
        skips_along colour_is top_is cursor_is
        (subst (λ (g : Graph). Skips g limit (take (places x.parts) ws) (number_of x.parts (top_code ws base (suc d))) (top_cursor x.parts ws base (suc d)) g.D) (sym (graph_is x)) f)

  -- ---- codes of the case

  pub coded_paints : {ws : List ℕ} {code : ℕ} → size ≤ length ws → Coded x.parts code → Paints guesses top ws code
  coded_paints {ws} {code} h is = record {
    code_low = coded_small x.parts x.admitted is;
    inside = omega (arith, number-below x is);
  }

  waiting_is : {code : ℕ} → Coded x.parts code → (place (product_of x.parts) (number_in guesses top code)).waiting ≡ code % 8
  waiting_is {code} is =
      ap (λ (n : ℕ). (place (product_of x.parts) n).waiting) (number_is x code) ∙ ap (λ (q : Place). q.waiting) (coded_place x.parts x.admitted is)

  -- the top waiting number is the mark
  pub below_unmarked : {code : ℕ} → Coded x.parts code → code % 8 < top → T ((graph_in x).marked (number_in guesses top code)) → ⊥
  unfolding marked
  below_unmarked {code} is low t =
      omega (arith, eqb→eq (place (product_of x.parts) (number_in guesses top code)).waiting (Rattle.product.specs.Product.top (product_of x.parts)) t, waiting_is is, x.top_is, case_top x.parts x.admitted)

  pub top_marked : {code : ℕ} → Coded x.parts code → top ≤ code % 8 → T ((graph_in x).marked (number_in guesses top code))
  unfolding marked
  top_marked {code} is high =
      let e : (place (product_of x.parts) (number_in guesses top code)).waiting ≡ Rattle.product.specs.Product.top (product_of x.parts) =
      omega (arith, waiting_is is, x.top_is, case_top x.parts x.admitted, is.waiting_within) in
      subst (λ (k : ℕ). T (eqb (place (product_of x.parts) (number_in guesses top code)).waiting k)) e (eqb_refl (place (product_of x.parts) (number_in guesses top code)).waiting)

  -- ---- the outer search's turns

  pub outer_topped : {r : ℕ} {ws : List ℕ} {depth : ℕ} → OuterIn x r ws depth → 1 ≤ depth → Topped x.parts ws size depth
  outer_topped {depth = zero} o h = absurd (not-suc-le-zero h)
  outer_topped {ws = ws} {depth = suc d} o h = record {
    some_place = h;
    colours_lie = omega (arith, o.lent, x.size_is);
    stack_lies = omega (arith, o.lent, o.fits, x.size_is);
    coded = subst (λ (k : ℕ). Coded x.parts (ws ! k)) (let q : size + d ≡ size + suc d - 1 = omega arith in q) (o.coded d (omega arith));
  }

  pub outer_exhausted : {r : ℕ} {ws : List ℕ} {depth : ℕ} → OuterIn x r ws depth → 1 ≤ depth → ScanSkips ws size depth blue → ExhaustedIn x r ws (depth - 1)
  outer_exhausted {depth = zero} o h f = absurd (not-suc-le-zero h)
  outer_exhausted {r} {ws} {depth = suc d} o h f =
      subst (ExhaustedIn x r ws) (let q : d ≡ suc d - 1 = omega arith in q) (record { at = o; none = scan_skips ws size d blue f })

  -- a store's first index, as the code computes it
  pub advanced_is : (base d c code colour : ℕ) (ws : List ℕ)
      → Stores.advanced (graph_in x) (number_in guesses top) base d c code colour ws ≡ advanced guesses top size base (suc d) c code colour ws
  advanced_is base d c code colour ws =
      ap (λ (k : ℕ). pushed size base (suc d) code (set (set ws k (c + 1)) (number_in guesses top code) colour))
      (let q : base + size + d ≡ base + size + suc d - 1 = omega arith in q)

  pub cursors_few : cursors_in edges < 65535
  cursors_few = omega (arith, ap length x.edges_are, x.admitted.few_edges)

  -- a white candidate is painted and pushed
  pub record OuterAdvanced (r : ℕ) (ws : List ℕ) (depth c code : ℕ) : Type 0 where
    pub asked : Advances guesses top size ws size depth c code
    pub kept : Kept size ws (advanced guesses top size size depth c code cyan ws)
    pub on : OuterOn x r ws depth (advanced guesses top size size depth c code cyan ws) (depth + 1)

  pub outer_advanced : {r : ℕ} {ws : List ℕ} {depth c code : ℕ} → OuterIn x r ws depth → 1 ≤ depth → Coded x.parts code
      → ScanFinds ws size depth blue c code → OuterAdvanced r ws depth c code
  outer_advanced {depth = zero} o h new f = absurd (not-suc-le-zero h)
  outer_advanced {r} {ws} {depth = suc d} {c} {code} o h new f = record {
    asked = record {
      paints = coded_paints (omega (arith, o.lent)) new;
      pushes = record { code_low = coded_small x.parts x.admitted new; lies = omega (arith, o.lent, small) };
      some_place = h;
      cursor_low = omega (arith, found.low, cursors_few);
    };
    kept =
        rw (← advanced_is size d c code cyan ws)
        (Stores.advanced_kept (graph_in x) (number_in guesses top) size d c code cyan ws (omega arith) (omega (arith, o.lent)) small (number-below x new) (omega arith));
    on = record {
      at =
          rw (← advanced_is size d c code cyan ws)
          (subst (OuterIn x r (Stores.advanced (graph_in x) (number_in guesses top) size d c code cyan ws)) deeper (Turns.advance_at o new found));
      falls =
          rw (← advanced_is size d c code cyan ws)
          (subst (λ (k : ℕ). outer_fuel (cursors_in edges) size (Stores.advanced (graph_in x) (number_in guesses top) size d c code cyan ws) k < outer_fuel (cursors_in edges) size ws (suc d)) deeper
          (Turns.advance_fuel o new found));
    };
  }
    where
      found : Finds (graph_in x) blue (take size ws) (number_in guesses top (ws ! (size + d))) (ws ! (size + size + d)) c (number_in guesses top code)
      found = scan_finds ws size d blue c code f

      small : suc d < size
      small = Turns.advance_fits o new found

      deeper : suc (suc d) ≡ suc d + 1
      deeper = omega arith
