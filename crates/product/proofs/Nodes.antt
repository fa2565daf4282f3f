-- The numbering of the nodes from an operator on: the node x among the first n has as its number how many such nodes stand before
-- it, and entry t of the list is the node whose number is t. Once for the temporal nodes (from 6) and the promises (from 7).
-- Assumes nothing.
use Prim.Native.Nat.{ℕ, zero, suc, ◌+◌, ◌≤◌, ◌<◌}
use native.Mathlib.Omega.{arith}
use native.Mathlib.Nat.{eq-or-lt_of_le}
use native.Mathlib.Decide.{dec_lt}
use mathlib.Core.Path.{◌≡◌, refl, sym, ap, ap₂, ◌∙◌, subst}
use mathlib.Core.Bool.{Bool, true, false, cond, ◌&&◌, and-true}
use mathlib.Core.Logic.{◌⊎◌, inl, inr}
use mathlib.Core.List.{[], ◌∷◌}
use lib.Dec.{leb}
use lib.ListN.{length, get_or, length-append, get_or-append}
use lib.Seq.{get_or-append_seam}
use borrow.Author.Tests.{leb-true, le-leb}
use Rattle.meaning.specs.Table.{Node}
use Rattle.product.specs.Product.{nodes_from}

module _ (operator : ℕ) (node : ℕ → Node) where
  abbrev rank : ℕ → ℕ
  rank n = length (nodes_from operator node n)

  none_first : length (nodes_from operator node zero) ≡ 0
  unfolding nodes_from
  none_first = refl

  -- the length counts the nodes: T from 6, E from 7
  pub nodes_from_length : (n : ℕ)
      → length (nodes_from operator node (suc n)) ≡ length (nodes_from operator node n) + cond (leb operator (node n).operator) 1 0
  unfolding nodes_from
  nodes_from_length n =
      length-append (nodes_from operator node n) _ ∙ ap (λ (x : ℕ). rank n + x) (go (leb operator (node n).operator))
    where
      go : (here : Bool) → length (cond here (n ∷ []) []) ≡ cond here 1 0
      go true = refl
      go false = refl

  -- so it is what any count of the nodes with operators up to 11 gives, where there is no higher one
  pub nodes_from_counts : (count : ℕ → ℕ) → count 0 ≡ 0
      → ((i : ℕ) → count (suc i) ≡ count i + cond (leb operator (node i).operator && leb (node i).operator 11) 1 0)
      → (n : ℕ) → ((i : ℕ) → i < n → (node i).operator < 12) → length (nodes_from operator node n) ≡ count n
  nodes_from_counts count none more zero known = none_first ∙ sym none
  nodes_from_counts count none more (suc n) known =
      nodes_from_length n
      ∙ (ap₂ (λ (x : ℕ) (b : Bool). x + cond b 1 0) (nodes_from_counts count none more n (λ i l. known i (omega arith))) (sym up_to)
      ∙ sym (more n))
    where
      up_to : (leb operator (node n).operator && leb (node n).operator 11) ≡ leb operator (node n).operator
      up_to = rw (le-leb (node n).operator 11 (omega (arith, known n (omega arith)))) (and-true (leb operator (node n).operator))

  -- node x is number t among the first n: t such nodes stand before it, and it is entry t
  pub record Numbered (n x t : ℕ) : Type 0 where
    pub below : x < n
    pub reaches : operator ≤ (node x).operator
    pub before : length (nodes_from operator node x) ≡ t
    pub within : t < length (nodes_from operator node n)
    pub entry : get_or (nodes_from operator node n) t 0 ≡ x

  numbered_later : (n x t : ℕ) → Numbered n x t → Numbered (suc n) x t
  unfolding nodes_from
  numbered_later n x t h =
      record {
        below = omega arith;
        reaches = h.reaches;
        before = h.before;
        within = omega (arith, nodes_from_length n);
        entry = get_or-append (nodes_from operator node n) _ 0 t h.within ∙ h.entry;
      }

  entry_last : (n : ℕ) → leb operator (node n).operator ≡ true
      → get_or (nodes_from operator node (suc n)) (length (nodes_from operator node n)) 0 ≡ n
  unfolding nodes_from
  entry_last n here = rw here (get_or-append_seam (nodes_from operator node n) n [] 0)

  numbered_last : (n : ℕ) → operator ≤ (node n).operator → Numbered (suc n) n (length (nodes_from operator node n))
  numbered_last n h =
      record {
        below = omega arith;
        reaches = h;
        before = refl;
        within = omega (arith, rw here at (nodes_from_length n));
        entry = entry_last n here;
      }
    where
      here : leb operator (node n).operator ≡ true
      here = le-leb operator (node n).operator h

  -- each such node has a number
  pub numbered : (n x : ℕ) → x < n → operator ≤ (node x).operator → Numbered n x (length (nodes_from operator node x))
  numbered zero x l h = elim l [ ]
  numbered (suc n) x l h = go (eq-or-lt_of_le l) (λ k. numbered n x k h)
    where
      go : (suc x ≡ suc n) ⊎ (suc x < suc n) → (x < n → Numbered n x (rank x)) → Numbered (suc n) x (rank x)
      go (inl e) below =
          let p : n ≡ x = omega arith in
          subst (λ (y : ℕ). operator ≤ (node y).operator → Numbered (suc n) y (rank y)) p (numbered_last n) h
      go (inr k) below = numbered_later n x (rank x) (below (omega arith))

  -- each number below the length is a node's
  pub numbered_entry : (n t : ℕ) → t < length (nodes_from operator node n) → (x : ℕ) × Numbered n x t
  numbered_entry zero t l = absurd (omega (arith, none_first))
  numbered_entry (suc n) t l = go (dec_lt t (rank n)) (leb operator (node n).operator) refl (numbered_entry n t)
    where
      later : (x : ℕ) × Numbered n x t → (x : ℕ) × Numbered (suc n) x t
      later (x, h) = (x, numbered_later n x t h)

      go : Dec (t < rank n) → (here : Bool) → leb operator (node n).operator ≡ here → (t < rank n → (x : ℕ) × Numbered n x t)
          → (x : ℕ) × Numbered (suc n) x t
      go (yes k) here e before = later (before k)
      go (no k) true e before =
          let p : rank n ≡ t = omega (arith, rw e at (nodes_from_length n)) in
          (n, subst (Numbered (suc n) n) p (numbered_last n (leb-true _ _ e)))
      go (no k) false e before = absurd (omega (arith, rw e at (nodes_from_length n)))
