-- What a paint leaves standing of what holds at every turn: of the cyan places, of `seen`, of `clear`, and of red's closure.
-- Assumes nothing.
use Prim.Native.Nat.{ℕ, suc, ◌≤◌, ◌<◌}
use native.Mathlib.Omega.{arith}
use native.Mathlib.Decide.{ℕ_discrete, dec_lt}
use mathlib.Core.Path.{◌≡◌, refl, sym, ap, ◌∙◌, subst}
use mathlib.Core.Logic.{◌≢◌, inl, inr}
use mathlib.Core.List.{List, []}
use lib.Dec.{T}
use lib.ListN.{length, set, take}
use lib.Seq.{get_or_at, get_or-set_same, get_or-set_other}
use Rattle.graph.proofs.Graph.{◌!◌, Graph, Step, Leads}
use Rattle.graph.proofs.Machine.{push, white, cyan, red, Finished, On, OnStack, Seen, Clear, Closed}
use Rattle.graph.proofs.Lists.{length_push, kept_pushed, Pushed, pushed, length_pop, popped, Painted, painted, paint_keeps}

-- ---- membership

pub on_pushed : {l : List ℕ} {x : ℕ} (y : ℕ) → On l x → On (push l y) x
on_pushed {l} y o = record {
  index = o.index;
  low = omega (arith, o.low, length_push l y);
  is = kept_pushed l y o.index o.low ∙ o.is;
}

pub on_top : (l : List ℕ) (y : ℕ) → On (push l y) y
on_top l y = record { index = length l; low = omega (arith, length_push l y); is = get_or_at l y [] 0 (length l) refl }

-- what stands on a stack and is not its top stands below the top
pub on_popped : {l : List ℕ} {x : ℕ} (d : ℕ) → length l ≡ suc d → x ≢ l ! d → On l x → On (take d l) x
on_popped {l} {x} d deep n o = record { index = o.index; low = omega (arith, low, length_pop l d deep); is = popped l d o.index low ∙ o.is }
  where
    low : o.index < d
    low = go (ℕ_discrete o.index d)
      where
        go : Dec (o.index ≡ d) → o.index < d
        go (yes e) = absurd (n (sym o.is ∙ ap (λ (k : ℕ). l ! k) e))
        go (no m) = omega (arith, o.low)

module _ {g : Graph} {colour : List ℕ} where
  -- ---- the cyan places

  module _ {outer : List ℕ} (o : OnStack g colour outer) where
    pub on_stack_paint : (y v : ℕ) → y < length colour → colour ! y ≢ cyan → v ≢ cyan → OnStack g (set colour y v) outer
    on_stack_paint y v inside other out = record {
      cyans = λ i l. still i l (painted colour y v (outer ! i) inside);
      stands = λ x h. stood x h (painted colour y v x inside);
      once = o.once;
      begins = o.begins;
    }
      where
        still : (i : ℕ) → i < length outer
            → Painted colour y v (outer ! i)
            → set colour y v ! (outer ! i) ≡ cyan
        still i l (inl p) = absurd (other (ap (λ (k : ℕ). colour ! k) (sym p.0) ∙ o.cyans i l))
        still i l (inr p) = p.1 ∙ o.cyans i l

        stood : (x : ℕ) → set colour y v ! x ≡ cyan → Painted colour y v x → On outer x
        stood x h (inl p) = absurd (out (sym p.1 ∙ h))
        stood x h (inr p) = o.stands x (sym p.1 ∙ h)

    pub on_stack_push : (y : ℕ) → y < length colour → colour ! y ≡ white → (length outer ≡ 0 → T (g.initial y)) → OnStack g (set colour y cyan) (push outer y)
    on_stack_push y inside was first = record {
      cyans = λ i l. still i (pushed outer y i l);
      stands = λ x h. stood x h (painted colour y cyan x inside);
      once = λ i j below l. twice i j below l (pushed outer y j l);
      begins = λ h. started (dec_lt 0 (length outer));
    }
      where
        still : (i : ℕ) → Pushed outer y i
            → set colour y cyan ! (push outer y ! i) ≡ cyan
        still i (inl p) =
            ap (λ (k : ℕ). set colour y cyan ! k) p.1
            ∙ get_or-set_other colour y (outer ! i) cyan 0 (λ e. omega (arith, o.cyans i p.0, ap (λ (k : ℕ). colour ! k) e))
            ∙ o.cyans i p.0
        still i (inr p) = ap (λ (k : ℕ). set colour y cyan ! k) p.1 ∙ get_or-set_same colour y cyan 0 inside

        stood : (x : ℕ) → set colour y cyan ! x ≡ cyan → Painted colour y cyan x
            → On (push outer y) x
        stood x h (inl p) = subst (On (push outer y)) (sym p.0) (on_top outer y)
        stood x h (inr p) = on_pushed y (o.stands x (sym p.1 ∙ h))

        twice : (i j : ℕ) → i < j → j < length (push outer y)
            → Pushed outer y j
            → push outer y ! i ≢ push outer y ! j
        twice i j below l (inl p) e = o.once i j below p.0 (sym (kept_pushed outer y i (omega arith)) ∙ e ∙ p.1)
        twice i j below l (inr p) e =
            let low : i < length outer = omega arith in
            let same : outer ! i ≡ y = sym (kept_pushed outer y i low) ∙ e ∙ p.1 in
            omega (arith, o.cyans i low, ap (λ (k : ℕ). colour ! k) same)

        started : Dec (0 < length outer) → T (g.initial (push outer y ! 0))
        started (yes h) = rw (kept_pushed outer y 0 h) (o.begins h)
        started (no n) =
            let e : length outer ≡ 0 = omega arith in
            rw (get_or_at outer y [] 0 0 e) (first e)

    pub on_stack_pop : (d v : ℕ) → length outer ≡ suc d → outer ! d < length colour → v ≢ cyan → OnStack g (set colour (outer ! d) v) (take d outer)
    on_stack_pop d v deep inside out = record {
      cyans = λ i l. still i (omega (arith, length_pop outer d deep));
      stands = λ x h. stood x h (painted colour (outer ! d) v x inside);
      once = λ i j below l e.
          let low : j < d = omega (arith, length_pop outer d deep) in
          o.once i j below (omega arith) (sym (popped outer d i (omega arith)) ∙ e ∙ popped outer d j low);
      begins = λ h.
          let low : 0 < d = omega (arith, length_pop outer d deep) in
          rw (popped outer d 0 low) (o.begins (omega arith));
    }
      where
        still : (i : ℕ) → i < d → set colour (outer ! d) v ! (take d outer ! i) ≡ cyan
        still i low =
            ap (λ (k : ℕ). set colour (outer ! d) v ! k) (popped outer d i low)
            ∙ get_or-set_other colour (outer ! d) (outer ! i) v 0 (o.once i d low (omega arith))
            ∙ o.cyans i (omega arith)

        stood : (x : ℕ) → set colour (outer ! d) v ! x ≡ cyan
            → Painted colour (outer ! d) v x
            → On (take d outer) x
        stood x h (inl p) = absurd (out (sym p.1 ∙ h))
        stood x h (inr p) = on_popped d deep p.0 (o.stands x (sym p.1 ∙ h))

-- ---- what finished places lead to

module _ (g : Graph) (colour : List ℕ) where
  pub seen_paint : Seen g colour → (t v : ℕ) → t < length colour → white < v → (v ≢ cyan → (y : ℕ) → Step g t y → white < colour ! y)
      → Seen g (set colour t v)
  seen_paint seen t v inside met new x y f s = go (painted colour t v x inside)
    where
      go : Painted colour t v x → white < set colour t v ! y
      go (inl p) = paint_keeps colour t v y met (new (λ e. f.left (p.1 ∙ e)) y (subst (λ (k : ℕ). Step g k y) p.0 s))
      go (inr p) = paint_keeps colour t v y met (seen x y (subst Finished p.1 f) s)

  pub clear_paint : Clear g colour → (t v : ℕ) → t < length colour → (v ≢ cyan → T (g.marked t) → Leads g t t → ⊥) → Clear g (set colour t v)
  clear_paint clear t v inside new x f m s = go (painted colour t v x inside)
    where
      go : Painted colour t v x → ⊥
      go (inl p) =
          new (λ e. f.left (p.1 ∙ e)) (subst (λ (k : ℕ). T (g.marked k)) p.0 m)
          (subst (λ (k : ℕ). Leads g k k) p.0 s)
      go (inr p) = clear x (subst Finished p.1 f) m s

  -- a place that is not red is painted another colour than red
  pub closed_paint : Closed g colour → (t v : ℕ) → t < length colour → colour ! t < red → v < red → Closed g (set colour t v)
  closed_paint closed t v inside was new x y h s = go (painted colour t v x inside)
    where
      go : Painted colour t v x → red ≤ set colour t v ! y
      go (inl p) = absurd (omega arith)
      go (inr p) = after (closed x y (omega arith) s) (painted colour t v y inside)
        where
          after : red ≤ colour ! y → Painted colour t v y → red ≤ set colour t v ! y
          after r (inl q) = absurd (omega (arith, ap (λ (k : ℕ). colour ! k) q.0))
          after r (inr q) = omega arith

pub colours_paint : (colour : List ℕ) → ((x : ℕ) → colour ! x ≤ red) → (t v : ℕ) → t < length colour → v ≤ red → (x : ℕ) → set colour t v ! x ≤ red
colours_paint colour all t v inside h x = go (painted colour t v x inside)
  where
    go : Painted colour t v x → set colour t v ! x ≤ red
    go (inl p) = omega arith
    go (inr p) = omega (arith, all x)
