-- The run that is written out: where a met place stands on the outer stack, what the track holds then, and that it violates the rule; and that
-- a search through all roots shows that the rule holds. Assumes nothing.
use Prim.Native.Nat.{ℕ, zero, suc, ◌+◌, ◌-◌, ◌*◌, ◌/◌, ◌≤◌, ◌<◌}
use native.Mathlib.Omega.{arith}
use native.Mathlib.Decide.{dec_lt, ℕ_discrete}
use mathlib.Core.Path.{◌≡◌, refl, sym, ap, ◌∙◌, subst}
use mathlib.Core.List.{List, [], ◌∷◌, ◌++◌}
use mathlib.Core.Bool.{cond}
use lib.Dec.{ltb}
use borrow.Author.Tests.{lt-ltb, le-ltb}
use lib.ListN.{length, take, drop, length-append, get_or-append}
use lib.Seq.{get_or-append-add, get_or_at, get_or-drop}
use Rattle.meaning.specs.Runs.{Violates, Holds}
use Rattle.meaning.proofs.Folds.{Folds, folds_along, violates_folded}
use Rattle.reading.specs.Parts.{table_of, rule_of}
use Rattle.product.specs.Places.{Place}
use Rattle.product.specs.Product.{place}
use Rattle.graph.proofs.Graph.{◌!◌, Graph, Lasso}
use Rattle.graph.proofs.Machine.{Outer}
use Rattle.graph.proofs.Conclusions.{found_on, found}
use Rattle.workspace.proofs.Setting.{product_of, number_in, Coded, Setting}
use Rattle.workspace.proofs.Case.{coded_place}
use Rattle.workspace.proofs.Bridges.{found_violates, nothing_holds}
use Rattle.workspace.proofs.Views.{stack_at}
use Rattle.workspace.proofs.ViewsIn.{graph_in, graph_is, number_is, number-once, OuterIn, MetIn}
use Rattle.workspace.proofs.Stores.{stack_length, stack_at_lem}
use Rattle.workspace.proofs.Turns.{finds_top}

-- ---- nothing is found

pub holds_in : {edges lanes starts : List ℕ} {guesses ones top size : ℕ} (x : Setting edges lanes starts guesses ones top size) {ws : List ℕ}
    → OuterIn x size ws 0 → Holds (table_of x.parts) (rule_of x.parts)
holds_in {size = size} x {ws} o =
    nothing_holds x.parts x.admitted size (take size ws)
    (subst (λ (g : Graph). Outer g size (take size ws) [] []) (graph_is x) o.outer)
    (omega (arith, x.size_is))

-- ---- where a code stands

-- the code stands on the stack that starts at `base`, at this index
pub record Stands (ws : List ℕ) (base code : ℕ) : Type 0 where
  pub index : ℕ
  pub lies : base + index < length ws
  pub is : ws ! (base + index) ≡ code

-- its lowest index there
pub record Lowest (ws : List ℕ) (base code at : ℕ) : Type 0 where
  pub here : ws ! (base + at) ≡ code
  pub first : (s : Stands ws base code) → at ≤ s.index

-- ---- what is written

-- the state at index i of the run that the stacks hold: the outer stack, `outer` places deep, then the inner stack above its first place
abbrev pub run_in : List ℕ → ℕ → ℕ → ℕ → ℕ
run_in ws size outer i = cond (ltb i outer) (ws ! (size + i)) (ws ! (3 * size + 1 + (i - outer))) / 128

-- n states of it lie there
abbrev pub Stacked : List ℕ → ℕ → ℕ → ℕ → Type 0
Stacked ws size outer n = (size + outer ≤ length ws) × (3 * size + 1 + n ≤ length ws + outer)

-- n states of it stand in the track, and the rest is as it was
pub record Wrote (ws : List ℕ) (size outer n : ℕ) (track track' : List ℕ) : Type 0 where
  pub long : length track' ≡ length track
  pub states : (i : ℕ) → i < n → track' ! i ≡ run_in ws size outer i
  pub behind : drop n track' ≡ drop n track

-- the first n values of f, as a list
values : (ℕ → ℕ) → ℕ → List ℕ
values f zero = []
values f (suc n) = values f n ++ (f n ∷ [])

values_length : (f : ℕ → ℕ) (n : ℕ) → length (values f n) ≡ n
unfolding values
values_length f zero = refl
values_length f (suc n) = length-append (values f n) (f n ∷ []) ∙ omega (arith, values_length f n)

values_at : (f : ℕ → ℕ) (n i : ℕ) → i < n → values f n ! i ≡ f i
unfolding values
values_at f zero i h = elim h [ ]
values_at f (suc n) i h = go (ℕ_discrete i n) (values_at f n i)
  where
    go : Dec (i ≡ n) → (i < n → values f n ! i ≡ f i) → (values f n ++ (f n ∷ [])) ! i ≡ f i
    go (yes q) earlier = get_or_at (values f n) (f n) [] 0 i (values_length f n ∙ sym q) ∙ ap f (sym q)
    go (no q) earlier =
        get_or-append (values f n) (f n ∷ []) 0 i (omega (arith, values_length f n)) ∙ earlier (omega arith)

-- ---- a loop is found

module _ {edges lanes starts : List ℕ} {guesses ones top size : ℕ} (x : Setting edges lanes starts guesses ones top size)
    {ws : List ℕ} {outer inner code : ℕ} (m : MetIn x ws outer inner code) where
  outer_lies : size + suc m.d ≤ length ws
  outer_lies = omega (arith, m.at.lent, m.at.outer_fits)

  inner_lies : 3 * size + suc m.e ≤ length ws
  inner_lies = omega (arith, m.at.lent, m.at.fits)

  -- the place met again stands on the outer stack
  pub met_stands : (s : Stands ws size code) × (s.index < outer)
  met_stands =
      let on =
      found_on m.at.inner (stack_length (number_in guesses top) (3 * size) (suc m.e) ws inner_lies)
      (finds_top (graph_in x) (number_in guesses top) (3 * size) m.e ws (omega (arith, m.at.lent, m.at.fits)) m.finds) m.meets in
      let low : on.index < suc m.d = omega (arith, on.low, stack_length (number_in guesses top) size (suc m.d) ws outer_lies) in (
        record {
          index = on.index;
          lies = omega (arith, outer_lies);
          is =
              number-once x (m.at.outer_coded on.index low) m.coded
              (sym (stack_at_lem (number_in guesses top) size (suc m.d) ws outer_lies on.index low) ∙ on.is);
        },
        omega (arith, m.outer_is),
      )

  -- the run lies on both stacks, and is no longer than they are together
  pub met_room : (1 ≤ inner) × Stacked ws size outer (outer + inner - 1) × (outer + inner ≤ 2 * size + 1)
  met_room = (
    omega (arith, m.inner_is),
    (omega (arith, m.outer_is, outer_lies), omega (arith, m.outer_is, m.inner_is, inner_lies)),
    omega (arith, m.outer_is, m.inner_is, m.at.outer_fits, m.at.fits),
  )

  -- with k its lowest index
  module _ {k : ℕ} (low : Lowest ws size code k) where
    abbrev entries : List ℕ
    entries =
        stack_at (number_in guesses top) size (suc m.d) ws ++ drop 1 (stack_at (number_in guesses top) (3 * size) (suc m.e) ws)

    below_outer : k < suc m.d
    below_outer = omega (arith, low.first met_stands.0, met_stands.1, m.outer_is)

    lasso : Lasso (graph_in x) entries k (suc m.d + m.e - k)
    lasso =
        subst (λ (n : ℕ). Lasso (graph_in x) entries k (n + m.e - k)) (stack_length (number_in guesses top) size (suc m.d) ws outer_lies)
        (found m.at.inner (stack_length (number_in guesses top) (3 * size) (suc m.e) ws inner_lies)
        (finds_top (graph_in x) (number_in guesses top) (3 * size) m.e ws (omega (arith, m.at.lent, m.at.fits)) m.finds) k
        (omega (arith, below_outer, stack_length (number_in guesses top) size (suc m.d) ws outer_lies))
        (stack_at_lem (number_in guesses top) size (suc m.d) ws outer_lies k below_outer ∙ ap (number_in guesses top) low.here))

    -- a state of the run is the state of the entry's place
    abbrev Tracked : ℕ → Type 0
    Tracked i = run_in ws size outer i ≡ (place (product_of x.parts) (entries ! i)).state

    entry : (i c : ℕ) → Coded x.parts c → entries ! i ≡ number_in guesses top c → run_in ws size outer i ≡ c / 128 → Tracked i
    entry i c is e f =
        f ∙ sym (ap (λ (n : ℕ). (place (product_of x.parts) n).state) (e ∙ number_is x c) ∙ ap (λ (p : Place). p.state) (coded_place x.parts x.admitted is))

    tracked : (i : ℕ) → i < k + (suc m.d + m.e - k) → Dec (i < suc m.d) → Tracked i
    tracked i h (yes l) =
        entry i (ws ! (size + i)) (m.at.outer_coded i l)
        (get_or-append (stack_at (number_in guesses top) size (suc m.d) ws) _ 0 i (omega (arith, stack_length (number_in guesses top) size (suc m.d) ws outer_lies))
        ∙ stack_at_lem (number_in guesses top) size (suc m.d) ws outer_lies i l)
        (rw (lt-ltb i outer (omega (arith, m.outer_is))))
    tracked i h (no n) = go (i - suc m.d) (omega arith)
      where
        go : (j : ℕ) → i ≡ suc m.d + j → Tracked i
        go j q =
            let l : suc j < suc m.e = omega (arith, below_outer) in
            entry i (ws ! (3 * size + suc j)) (m.at.coded (suc j) l)
            (ap (λ (k : ℕ). entries ! k) (q ∙ ap (λ (k : ℕ). k + j) (sym (stack_length (number_in guesses top) size (suc m.d) ws outer_lies)))
            ∙ get_or-append-add (stack_at (number_in guesses top) size (suc m.d) ws) (drop 1 (stack_at (number_in guesses top) (3 * size) (suc m.e) ws)) j 0
            ∙ get_or-drop 1 (stack_at (number_in guesses top) (3 * size) (suc m.e) ws) j 0
            ∙ ap (λ (k : ℕ). stack_at (number_in guesses top) (3 * size) (suc m.e) ws ! k) (let z : 1 + j ≡ suc j = omega arith in z)
            ∙ stack_at_lem (number_in guesses top) (3 * size) (suc m.e) ws inner_lies (suc j) l)
            (let after : 3 * size + 1 + (i - outer) ≡ 3 * size + suc j = omega (arith, m.outer_is) in
            rw (le-ltb i outer (omega (arith, m.outer_is)), after))

    -- the run as it was found, in a list of its own
    whole : List ℕ
    whole = values (run_in ws size outer) (suc m.d + m.e)

    whole_violates : Violates (table_of x.parts) (rule_of x.parts) whole k (suc m.d + m.e - k)
    unfolding whole
    whole_violates =
        found_violates x.parts x.admitted entries whole k (suc m.d + m.e - k)
        (subst (λ (g : Graph). Lasso g entries k (suc m.d + m.e - k)) (graph_is x) lasso)
        (omega (arith, values_length (run_in ws size outer) (suc m.d + m.e), below_outer))
        (λ i h.
        values_at (run_in ws size outer) (suc m.d + m.e) i (omega (arith, below_outer))
        ∙ tracked i h (dec_lt i (suc m.d)))

    -- and folded, in the track
    module _ {s p : ℕ} (folded : Folds (run_in ws size outer) k (outer + inner - 1 - k) s p) {track track' : List ℕ}
        (wrote : Wrote ws size outer (s + p) track track') (room : 2 * size ≤ length track) where
      pub met_violates : Violates (table_of x.parts) (rule_of x.parts) track' s p
      unfolding whole
      met_violates =
          violates_folded whole_violates (folds_along (omega (arith, below_outer)) (λ i h. same i (omega (arith, below_outer))) (subst (λ (n : ℕ). Folds (run_in ws size outer) k n s p) repeat_is folded))
          (omega (arith, wrote.long, short, m.at.outer_fits, m.at.fits))
          (λ i h. wrote.states i h ∙ sym (same i (omega (arith, short))))
        where
          repeat_is : outer + inner - 1 - k ≡ suc m.d + m.e - k
          repeat_is = omega (arith, m.outer_is, m.inner_is)

          short : s + p ≤ suc m.d + m.e
          short = omega (arith, folded.within, m.outer_is, m.inner_is, below_outer)

          same : (i : ℕ) → i < suc m.d + m.e → whole ! i ≡ run_in ws size outer i
          same = values_at (run_in ws size outer) (suc m.d + m.e)
