-- The same in the setting of a search: the graph of the case with P and D as the code has them, and what the code's contracts say of the
-- workspace. Assumes nothing.
use Prim.Native.Nat.{ℕ, suc, ◌+◌, ◌*◌, ◌<◌}
use native.Mathlib.Omega.{arith}
use native.Mathlib.Bridge.{le_prop}
use mathlib.Core.Path.{◌≡◌, sym, ap, ◌∙◌}
use mathlib.Core.HLevel.{Π_prop, is_prop→PathP}
use mathlib.Core.List.{List}
use mathlib.Core.Option.{some}
use Rattle.reading.specs.Parts.{edge_count}
use Rattle.product.specs.Product.{place, marked, initial}
use Rattle.graph.proofs.Graph.{◌!◌, Graph}
use Rattle.graph.proofs.Parts.{part}
use Rattle.workspace.proofs.Setting.{product_of, cand_of, cursors_of, number_of, number_in, Coded, Setting}
use Rattle.workspace.proofs.Case.{graph_of, number_in_lem, coded_below, code_injective}
use Rattle.workspace.proofs.Views.{OuterAt, InnerAt, ExhaustedAt, MetAt, outer_fuel, inner_fuel}

-- D, as the code's edges have it
abbrev pub cursors_in : List ℕ → ℕ
cursors_in edges = 16 * (edge_count edges + 1)

module _ {edges lanes starts : List ℕ} {guesses ones top size : ℕ} (x : Setting edges lanes starts guesses ones top size) where
  cursors_are : cursors_in edges ≡ cursors_of x.parts
  cursors_are = ap (λ (l : List ℕ). 16 * (edge_count l + 1)) x.edges_are

  pub inside_in : (y c z : ℕ) → y < size → c < cursors_in edges → cand_of x.parts y c ≡ some z → z < size
  inside_in y c z h l e =
      omega (arith, x.size_is, (graph_of x.parts x.admitted).inside y c z (omega (arith, x.size_is)) (omega (arith, cursors_are)) e)

  abbrev pub graph_in : Graph
  graph_in = record {
    P = size;
    D = cursors_in edges;
    cand = cand_of x.parts;
    marked = λ y. marked (product_of x.parts) (place (product_of x.parts) y);
    initial = λ y. initial (product_of x.parts) (place (product_of x.parts) y);
    inside = inside_in;
  }

  -- it is the graph of the case
  pub graph_is : graph_in ≡ graph_of x.parts x.admitted
  graph_is = λ i. record {
    P = x.size_is i;
    D = cursors_are i;
    cand = cand_of x.parts;
    marked = λ y. marked (product_of x.parts) (place (product_of x.parts) y);
    initial = λ y. initial (product_of x.parts) (place (product_of x.parts) y);
    inside =
        is_prop→PathP
        (λ j. (y c z : ℕ) → y < x.size_is j → c < cursors_are j → cand_of x.parts y c ≡ some z → z < x.size_is j)
        (λ j. Π_prop (λ y. Π_prop (λ c. Π_prop (λ z. Π_prop (λ h. Π_prop (λ l. Π_prop (λ e. le_prop)))))))
        inside_in
        (graph_of x.parts x.admitted).inside i;
  }

  pub number_is : (code : ℕ) → number_in guesses top code ≡ number_of x.parts code
  number_is code = number_in_lem x.parts x.admitted guesses top code x.guesses_are x.top_is

  pub number-below : {code : ℕ} → Coded x.parts code → number_in guesses top code < size
  number-below {code} is = omega (arith, number_is code, x.size_is, coded_below x.parts x.admitted is)

  pub number-once : {code other : ℕ} → Coded x.parts code → Coded x.parts other → number_in guesses top code ≡ number_in guesses top other → code ≡ other
  number-once {code} {other} is is' e =
      code_injective x.parts x.admitted is is' (sym (number_is code) ∙ e ∙ number_is other)

  -- ---- what holds of the workspace

  -- between inner searches
  abbrev pub OuterIn : ℕ → List ℕ → ℕ → Type 0
  OuterIn r ws depth = OuterAt graph_in (number_in guesses top) (Coded x.parts) r ws depth

  -- the top of the outer stack of d + 1 places has no white candidate left
  abbrev pub ExhaustedIn : ℕ → List ℕ → ℕ → Type 0
  ExhaustedIn r ws d = ExhaustedAt graph_in (number_in guesses top) (Coded x.parts) r ws d

  -- in an inner search, which found the workspace as `was`: it leaves the outer stack as it is
  pub record InnerIn (r w d : ℕ) (was ws : List ℕ) (depth : ℕ) : Type 0 where
    pub at : InnerAt graph_in (number_in guesses top) (Coded x.parts) r w d ws depth
    pub same_cursors : part (size + size) (suc d) ws ≡ part (size + size) (suc d) was
    pub same_top : ws ! (size + d) ≡ was ! (size + d)

  -- an inner search met a place of the outer stack again
  abbrev pub MetIn : List ℕ → ℕ → ℕ → ℕ → Type 0
  MetIn ws outer inner code = MetAt graph_in (number_in guesses top) (Coded x.parts) ws outer inner code

  -- ---- what a turn comes to

  pub record OuterOn (r : ℕ) (was : List ℕ) (before : ℕ) (ws : List ℕ) (depth : ℕ) : Type 0 where
    pub at : OuterIn r ws depth
    pub falls : outer_fuel (cursors_in edges) size ws depth < outer_fuel (cursors_in edges) size was before

  pub record InnerOn (r w d : ℕ) (first was : List ℕ) (before : ℕ) (ws : List ℕ) (depth : ℕ) : Type 0 where
    pub at : InnerIn r w d first ws depth
    pub falls : inner_fuel (cursors_in edges) size ws depth < inner_fuel (cursors_in edges) size was before
