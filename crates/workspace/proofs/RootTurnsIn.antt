-- The root loop as the code takes it: by state and then by bits, each with waiting number 0. Places between two of them have another waiting
-- number, so none is initial. Assumes nothing.
use Prim.Native.Nat.{ℕ, zero, suc, ◌+◌, ◌-◌, ◌*◌, ◌%◌, ◌≤◌, ◌<◌}
use native.Mathlib.Omega.{arith}
use mathlib.Core.Path.{◌≡◌, refl, sym, ap, ap₂, ◌∙◌, subst}
use mathlib.Core.Bool.{true, false}
use mathlib.Core.List.{List}
use lib.Arith.{digits_mod}
use lib.Dec.{T}
use lib.ListN.{set, take}
use lib.Seq.{get_or-take}
use borrow.Author.Tests.{lt-ltb}
use Rattle.product.specs.Places.{place_of}
use Rattle.product.specs.Product.{place, initial}
use Rattle.product.proofs.Steps.{initial→}
use Rattle.product.proofs.Numbers.{code_state, code_bits, code_waiting}
use Rattle.graph.proofs.Graph.{◌!◌}
use Rattle.graph.proofs.Machine.{white, cyan}
use Rattle.workspace.proofs.Setting.{product_of, code_of, number_in, Coded, Setting}
use Rattle.workspace.proofs.Case.{guesses_within, top_is, code_coded}
use Rattle.workspace.proofs.Roots.{root_at, root_initial}
use Rattle.workspace.proofs.Views.{Kept, kept_same, kept_set}
use Rattle.workspace.proofs.ViewsIn.{graph_in, number_is, number-below, OuterIn}
use Rattle.workspace.proofs.TurnsIn.{pushed}
use Rattle.workspace.proofs.Stores
use Rattle.workspace.proofs.RootTurns

-- the number of the place of state s and bits b with waiting number 0
abbrev pub root_number : ℕ → ℕ → ℕ → ℕ → ℕ
root_number guesses top s b = (s * guesses + b) * (top + 1)

-- past the last bits comes the next state
pub root_row : (guesses top s : ℕ) → root_number guesses top s guesses ≡ root_number guesses top (s + 1) 0
root_row guesses top s = ap (λ (k : ℕ). k * (top + 1)) (omega (arith, native.Mathlib.Nat.add-mul s 1 guesses))

module _ {edges lanes starts : List ℕ} {guesses ones top size : ℕ} (x : Setting edges lanes starts guesses ones top size) where
  pub guesses_few : guesses ≤ 16
  guesses_few = omega (arith, x.guesses_are, guesses_within x.parts x.admitted)

  pub root_end : root_number guesses top x.parts.states 0 ≡ size
  root_end =
      ap (λ (k : ℕ). k * (top + 1)) (let q : x.parts.states * guesses + 0 ≡ x.parts.states * guesses = omega arith in q)
      ∙ ap₂ (λ (g t : ℕ). x.parts.states * g * (t + 1)) x.guesses_are x.top_is
      ∙ sym x.size_is

  module _ (s b : ℕ) (state : s < x.parts.states) (bits : b < guesses) where
    pub root_coded : Coded x.parts (code_of s b 0)
    root_coded = code_coded x.parts x.admitted s b 0 state (omega (arith, x.guesses_are)) (omega arith)

    pub root_number_lem : number_in guesses top (code_of s b 0) ≡ root_number guesses top s b
    root_number_lem =
        let small : b < 16 = omega (arith, guesses_few) in
        let none : 0 < 8 = omega arith in
        rw (code_state s b 0 small none, code_bits s b 0 small none, code_waiting s b 0 small none) (omega arith)

    -- the code's test is the graph's
    pub root_tested : (graph_in x).initial (root_number guesses top s b) ≡ root_at x.parts guesses s b
    root_tested =
        ap (graph_in x).initial (sym root_number_lem ∙ number_is x (code_of s b 0))
        ∙ root_initial x.parts x.admitted s b state (omega (arith, x.guesses_are))
        ∙ sym (rw (lt-ltb b guesses bits))

  -- a place with another waiting number is not initial
  later_none : (n k : ℕ) → 0 < k → k ≤ top → T ((graph_in x).initial (n * (top + 1) + k)) → ⊥
  unfolding place place_of
  later_none n k some h t =
      let w : (n * (top + 1) + k) % (Rattle.product.specs.Product.top (product_of x.parts) + 1) ≡ 0 =
      (initial→ (product_of x.parts) (place (product_of x.parts) (n * (top + 1) + k)) t).waits_first in
      let e : (n * (top + 1) + k) % (Rattle.product.specs.Product.top (product_of x.parts) + 1) ≡ k =
      rw (top_is x.parts x.admitted, ← x.top_is) (digits_mod n (omega arith)) in
      omega arith

  module _ (s b : ℕ) where
    between_none : (y : ℕ) → root_number guesses top s b < y → y < root_number guesses top s b + (top + 1) → T ((graph_in x).initial y) → ⊥
    between_none y h l t =
        later_none (s * guesses + b) (y - root_number guesses top s b) (omega arith) (omega arith)
        (subst (λ (k : ℕ). T ((graph_in x).initial k)) (let q : y ≡ root_number guesses top s b + (y - root_number guesses top s b) = omega arith in q) t)

    next_root : root_number guesses top s b + (top + 1) ≡ root_number guesses top s (b + 1)
    next_root = omega (arith, native.Mathlib.Nat.add-mul (s * guesses + b) 1 (top + 1), ap (λ (k : ℕ). k * (top + 1)) (let q : s * guesses + (b + 1) ≡ s * guesses + b + 1 = omega arith in q))

    -- the place itself is not initial, or not white
    pub root_passed : {ws : List ℕ} → OuterIn x (root_number guesses top s b) ws 0 → (T ((graph_in x).initial (root_number guesses top s b)) → white < take size ws ! root_number guesses top s b)
        → OuterIn x (root_number guesses top s (b + 1)) ws 0
    root_passed {ws} o known =
        subst (λ (k : ℕ). OuterIn x k ws 0) next_root
        (RootTurns.pass_at o (top + 1) (λ y h l t. go y h l t (native.Mathlib.Decide.ℕ_discrete y (root_number guesses top s b))))
      where
        go : (y : ℕ) → root_number guesses top s b ≤ y → y < root_number guesses top s b + (top + 1) → T ((graph_in x).initial y) → Dec (y ≡ root_number guesses top s b)
            → white < take size ws ! y
        go y h l t (yes e) =
            subst (λ (k : ℕ). white < take size ws ! k) (sym e) (known (subst (λ (k : ℕ). T ((graph_in x).initial k)) e t))
        go y h l t (no n) = absurd (between_none y (omega arith) l t)

    -- it was searched from
    pub root_searched : {ws : List ℕ} → OuterIn x (root_number guesses top s b + 1) ws 0 → OuterIn x (root_number guesses top s (b + 1)) ws 0
    root_searched {ws} o =
        subst (λ (k : ℕ). OuterIn x k ws 0) (let q : root_number guesses top s b + 1 + top ≡ root_number guesses top s b + (top + 1) = omega arith in q ∙ next_root)
        (RootTurns.pass_at o top (λ y h l t. absurd (between_none y (omega arith) (omega arith) t)))

  -- ---- the search from a root

  -- a white initial place, where the root loop has come to it
  pub record Root (ws : List ℕ) (root : ℕ) : Type 0 where
    pub at : OuterIn x (number_in guesses top root) ws 0
    pub coded : Coded x.parts root
    pub starts_here : T ((graph_in x).initial (number_in guesses top root))
    pub is_white : ws ! number_in guesses top root ≡ white

  module _ {ws : List ℕ} {root : ℕ} (o : Root ws root) where
    pub root_kept : Kept size ws (pushed size size 0 root (set ws (number_in guesses top root) cyan))
    root_kept =
        let some : 1 ≤ size = omega (arith, number-below x o.coded) in
        kept_set
        (kept_set (kept_set (kept_same size ws) (number_in guesses top root) cyan (omega (arith, number-below x o.coded))) (size + 0) root (omega arith))
        (size + size + 0) 0 (omega arith)

    pub root_begun : OuterIn x (number_in guesses top root + 1) (pushed size size 0 root (set ws (number_in guesses top root) cyan)) 1
    root_begun =
        subst (λ (l : List ℕ). OuterIn x (number_in guesses top root + 1) l 1) begun_is
        (RootTurns.root_at_lem o.at o.coded (number-below x o.coded) o.starts_here o.is_white)
      where
        begun_is : Stores.begun (graph_in x) (number_in guesses top) size root (set ws (number_in guesses top root) cyan)
            ≡ pushed size size 0 root (set ws (number_in guesses top root) cyan)
        begun_is =
            ap (λ (k : ℕ). set (set (set ws (number_in guesses top root) cyan) k root) (size + size) 0) (let q : size ≡ size + 0 = omega arith in q)
            ∙ ap (λ (k : ℕ). set (set (set ws (number_in guesses top root) cyan) (size + 0) root) k 0) (let q : size + size ≡ size + size + 0 = omega arith in q)

  -- ---- a root as the root loop meets it

  module _ (s b root : ℕ) (state : s < x.parts.states) (bits : b < guesses) (is : root ≡ code_of s b 0) where
    pub met_coded : Coded x.parts root
    met_coded = subst (Coded x.parts) (sym is) (root_coded s b state bits)

    met_number : number_in guesses top root ≡ root_number guesses top s b
    met_number = ap (number_in guesses top) is ∙ root_number_lem s b state bits

    -- initial and white: it is searched from, and then passed
    pub met_root : {ws : List ℕ} → OuterIn x (root_number guesses top s b) ws 0 → root_at x.parts guesses s b ≡ true → ws ! number_in guesses top root ≡ white → Root ws root
    met_root {ws} o begins was = record {
      at = subst (λ (k : ℕ). OuterIn x k ws 0) (sym met_number) o;
      coded = met_coded;
      starts_here = subst T (sym (ap (graph_in x).initial met_number ∙ root_tested s b state bits ∙ begins)) tt;
      is_white = was;
    }

    pub met_searched : {ws' : List ℕ} → OuterIn x (number_in guesses top root + 1) ws' 0 → OuterIn x (root_number guesses top s (b + 1)) ws' 0
    met_searched {ws'} o = root_searched s b (subst (λ (k : ℕ). OuterIn x (k + 1) ws' 0) met_number o)

    -- not white, or not initial: it is passed
    pub met_coloured : {ws : List ℕ} → OuterIn x (root_number guesses top s b) ws 0 → (ws ! number_in guesses top root ≡ white → ⊥) → OuterIn x (root_number guesses top s (b + 1)) ws 0
    met_coloured {ws} o other =
        root_passed s b o
        (λ t.
        let low : root_number guesses top s b < size = omega (arith, met_number, number-below x met_coded) in
        omega (
          arith,
          get_or-take size ws (root_number guesses top s b) 0 low,
          coloured (ws ! root_number guesses top s b) (λ e. other (ap (λ (k : ℕ). ws ! k) met_number ∙ e)),
        ))
      where
        coloured : (n : ℕ) → (n ≡ 0 → ⊥) → 0 < n
        coloured zero h = absurd (h refl)
        coloured (suc n) h = omega arith

    pub met_other : {ws : List ℕ} → OuterIn x (root_number guesses top s b) ws 0 → root_at x.parts guesses s b ≡ false → OuterIn x (root_number guesses top s (b + 1)) ws 0
    met_other o no_root = root_passed s b o (λ t. absurd (subst T (root_tested s b state bits ∙ no_root) t))
