-- Lists of numbers after a push, a pop and a paint, and sums over them. Assumes nothing.
use Prim.Native.Nat.{ℕ, zero, suc, ◌+◌, ◌≤◌, ◌<◌}
use native.Mathlib.Nat.{not-suc-le-zero, le_of_suc-le-suc}
use native.Mathlib.Omega.{arith}
use native.Mathlib.Decide.{ℕ_discrete, dec_lt}
use mathlib.Core.Path.{◌≡◌, refl, sym, ap, ◌∙◌}
use mathlib.Core.Logic.{◌≢◌, ◌⊎◌, inl, inr}
use mathlib.Core.Bool.{Bool, cond, true, false}
use mathlib.Core.List.{List, [], ◌∷◌}
use lib.Dec.{T, ltb, lt→ltb, ltb→lt}
use lib.ListN.{length, set, take, length-append, get_or-append, replicate}
use lib.Seq.{get_or_at, get_or-take, get_or-set_same, get_or-set_other, length-take-le}
use Rattle.graph.proofs.Graph.{◌!◌}
use Rattle.graph.proofs.Machine.{push, total, below}

-- ---- a push

pub length_push : (l : List ℕ) (y : ℕ) → length (push l y) ≡ suc (length l)
length_push l y = omega (arith, length-append l (y ∷ []))

pub kept_pushed : (l : List ℕ) (y i : ℕ) → i < length l → push l y ! i ≡ l ! i
kept_pushed l y i h = get_or-append l (y ∷ []) 0 i h

-- an entry after a push is an old one, or the one pushed
abbrev pub Pushed : List ℕ → ℕ → ℕ → Type 0
Pushed l y i = ((i < length l) × (push l y ! i ≡ l ! i)) ⊎ ((i ≡ length l) × (push l y ! i ≡ y))

pub pushed : (l : List ℕ) (y i : ℕ) → i < length (push l y) → Pushed l y i
pushed l y i h = go (dec_lt i (length l))
  where
    go : Dec (i < length l) → Pushed l y i
    go (yes low) = inl (low, kept_pushed l y i low)
    go (no high) =
        let e : i ≡ length l = omega (arith, length_push l y) in
        inr (e, get_or_at l y [] 0 i (sym e))

-- ---- a pop

pub length_pop : (l : List ℕ) (d : ℕ) → length l ≡ suc d → length (take d l) ≡ d
length_pop l d e = length-take-le d l (omega arith)

pub popped : (l : List ℕ) (d i : ℕ) → i < d → take d l ! i ≡ l ! i
popped l d i h = get_or-take d l i 0 h

-- ---- a paint

-- the colour of y after x is painted v is v, or what it was
abbrev pub Painted : List ℕ → ℕ → ℕ → ℕ → Type 0
Painted l x v y = ((y ≡ x) × (set l x v ! y ≡ v)) ⊎ ((y ≢ x) × (set l x v ! y ≡ l ! y))

pub painted : (l : List ℕ) (x v y : ℕ) → x < length l → Painted l x v y
painted l x v y h = go (ℕ_discrete y x)
  where
    go : Dec (y ≡ x) → Painted l x v y
    go (yes e) = inl (e, ap (λ (k : ℕ). set l x v ! k) e ∙ get_or-set_same l x v 0 h)
    go (no n) = inr (n, get_or-set_other l x y v 0 n)

-- a colour of at least the limit stays one, where the paint is one
pub paint_keeps : {limit : ℕ} (l : List ℕ) (x v y : ℕ) → limit ≤ v → limit ≤ l ! y → limit ≤ set l x v ! y
paint_keeps [] x v y p h = h
paint_keeps (a ∷ l) zero v zero p h = p
paint_keeps (a ∷ l) zero v (suc y) p h = h
paint_keeps (a ∷ l) (suc x) v zero p h = h
paint_keeps (a ∷ l) (suc x) v (suc y) p h = paint_keeps l x v y p h

-- a list of zeros
pub blank : (n x : ℕ) → replicate n 0 ! x ≡ 0
blank zero x = refl
blank (suc n) zero = refl
blank (suc n) (suc x) = blank n x

-- ---- sums

module _ (f : ℕ → ℕ) where
  pub total_push : (l : List ℕ) (y : ℕ) → total f (push l y) ≡ total f l + f y
  unfolding total
  total_push [] y = omega arith
  total_push (a ∷ l) y = omega (arith, total_push l y)

  pub total_set : (l : List ℕ) (x v : ℕ) → x < length l → total f (set l x v) + f (l ! x) ≡ total f l + f v
  unfolding total
  total_set [] x v h = absurd (not-suc-le-zero h)
  total_set (a ∷ l) zero v h = omega arith
  total_set (a ∷ l) (suc x) v h = omega (arith, total_set l x v (le_of_suc-le-suc h))

  pub total_pop : (l : List ℕ) (d : ℕ) → length l ≡ suc d → total f l ≡ total f (take d l) + f (l ! d)
  unfolding total
  total_pop [] d e = omega arith
  total_pop (a ∷ []) zero e = omega arith
  total_pop (a ∷ b ∷ l) zero e = omega arith
  total_pop (a ∷ l) (suc d) e = omega (arith, total_pop l d (omega arith))

  pub total_at : (l : List ℕ) (x : ℕ) → x < length l → f (l ! x) ≤ total f l
  unfolding total
  total_at [] x h = absurd (not-suc-le-zero h)
  total_at (a ∷ l) zero h = omega arith
  total_at (a ∷ l) (suc x) h = omega (arith, total_at l x (le_of_suc-le-suc h))

-- ---- how many colours are below a limit

one_if : (b : Bool) → T b → ◌≡◌ {A = ℕ} (cond b 1 0) 1
one_if false t = elim t [ ]
one_if true t = refl

none_if : (b : Bool) → (T b → ⊥) → ◌≡◌ {A = ℕ} (cond b 1 0) 0
none_if true n = absurd (n tt)
none_if false n = refl

at_most_one : (b : Bool) → cond b 1 0 ≤ 1
at_most_one true = omega arith
at_most_one false = omega arith

module _ (limit : ℕ) where
  counted : (c : ℕ) → c < limit → ◌≡◌ {A = ℕ} (cond (ltb c limit) 1 0) 1
  counted c h = one_if (ltb c limit) (lt→ltb c limit h)

  uncounted : (c : ℕ) → limit ≤ c → ◌≡◌ {A = ℕ} (cond (ltb c limit) 1 0) 0
  uncounted c h = none_if (ltb c limit) (λ t. omega (arith, ltb→lt c limit t))

  -- a paint out of the colours below the limit takes one away; one above it changes nothing
  pub below_falls : (l : List ℕ) (x v : ℕ) → x < length l → l ! x < limit → limit ≤ v → suc (below limit (set l x v)) ≡ below limit l
  below_falls l x v h low high =
      omega (arith, total_set (λ c. cond (ltb c limit) 1 0) l x v h, counted (l ! x) low, uncounted v high)

  pub below_stays : (l : List ℕ) (x v : ℕ) → x < length l → limit ≤ l ! x → limit ≤ v → below limit (set l x v) ≡ below limit l
  below_stays l x v h high high' =
      omega (arith, total_set (λ c. cond (ltb c limit) 1 0) l x v h, uncounted (l ! x) high, uncounted v high')

  pub below_some : (l : List ℕ) (x : ℕ) → x < length l → l ! x < limit → 1 ≤ below limit l
  below_some l x h low = omega (arith, total_at (λ c. cond (ltb c limit) 1 0) l x h, counted (l ! x) low)

  pub below_length : (l : List ℕ) → below limit l ≤ length l
  unfolding total
  below_length [] = omega arith
  below_length (a ∷ l) = omega (arith, below_length l, at_most_one (ltb a limit))
