-- A stack or the colours as a part of a longer list, and as codes of places: what a store, a push and a pop are there. Assumes nothing.
use Prim.Native.Nat.{ℕ, zero, suc, ◌+◌, ◌-◌, ◌≤◌, ◌<◌}
use native.Mathlib.Nat.{not-suc-le-zero, le_of_suc-le-suc}
use native.Mathlib.Omega.{arith}
use mathlib.Core.Path.{◌≡◌, refl, sym, ap, ◌∙◌}
use mathlib.Core.List.{List, [], ◌∷◌, ◌++◌, map}
use lib.ListN.{length, set, take, drop, length-drop}
use lib.Seq.{length-take-le, get_or-take, get_or-drop, take-take, take-set-le, take-set-lt, take-suc-set, drop-set-add, drop-set-lt}
use Rattle.graph.proofs.Graph.{◌!◌}

-- the n entries from base on
abbrev pub part : ℕ → ℕ → List ℕ → List ℕ
part base n ws = take n (drop base ws)

module _ (base n : ℕ) (ws : List ℕ) where
  pub length_part : base + n ≤ length ws → length (part base n ws) ≡ n
  length_part h = length-take-le n (drop base ws) (omega (arith, length-drop base ws))

  pub part_at : (i : ℕ) → i < n → part base n ws ! i ≡ ws ! (base + i)
  part_at i h = get_or-take n (drop base ws) i 0 h ∙ get_or-drop base ws i 0

  -- a store in the part, and one before or behind it
  pub part_set : (i v : ℕ) → i < n → part base n (set ws (base + i) v) ≡ set (part base n ws) i v
  part_set i v h = ap (take n) (drop-set-add base ws i v) ∙ take-set-lt n (drop base ws) i v h

  pub part_before : (j v : ℕ) → j < base → part base n (set ws j v) ≡ part base n ws
  part_before j v h = ap (take n) (drop-set-lt base ws j v h)

  pub part_behind : (j v : ℕ) → base + n ≤ j → part base n (set ws j v) ≡ part base n ws
  part_behind j v h =
      ap (λ (k : ℕ). part base n (set ws k v)) (let q : j ≡ base + (j - base) = omega arith in q)
      ∙ ap (take n) (drop-set-add base ws (j - base) v)
      ∙ take-set-le n (drop base ws) (j - base) v (omega arith)

  -- a store just behind the part, which grows by it: a push
  pub part_push : (v : ℕ) → base + n < length ws → part base (suc n) (set ws (base + n) v) ≡ part base n ws ++ (v ∷ [])
  part_push v h = ap (take (suc n)) (drop-set-add base ws n v) ∙ take-suc-set (drop base ws) n v (omega (arith, length-drop base ws))

  -- a part that shrinks: a pop
  pub part_pop : (d : ℕ) → d ≤ n → part base d ws ≡ take d (part base n ws)
  part_pop d h = sym (take-take d n (drop base ws) h)

-- ---- codes of places

module _ (place : ℕ → ℕ) where
  pub places_at : (l : List ℕ) (i : ℕ) → i < length l → map place l ! i ≡ place (l ! i)
  places_at [] i h = absurd (not-suc-le-zero h)
  places_at (x ∷ l) zero h = refl
  places_at (x ∷ l) (suc i) h = places_at l i (le_of_suc-le-suc h)

  pub places_push : (l : List ℕ) (x : ℕ) → map place (l ++ (x ∷ [])) ≡ map place l ++ (place x ∷ [])
  places_push [] x = refl
  places_push (y ∷ l) x = ap (λ (r : List ℕ). place y ∷ r) (places_push l x)

  pub places_pop : (l : List ℕ) (d : ℕ) → map place (take d l) ≡ take d (map place l)
  places_pop l zero = refl
  places_pop [] (suc d) = refl
  places_pop (x ∷ l) (suc d) = ap (λ (r : List ℕ). place x ∷ r) (places_pop l d)
