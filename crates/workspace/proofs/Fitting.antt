-- A place's bits follow another's exactly where no bit fails at once and, for each temporal node that is needed, what is carried is its
-- bit; and bit j of the fitting lane says the latter, of the bits j. By the four values of now and stay. Assumes nothing.
use Prim.Native.Nat.{ℕ, zero, suc, ◌+◌, ◌-◌, ◌*◌, ◌≤◌, ◌<◌}
use native.Mathlib.Omega.{arith}
use native.Mathlib.Decide.{dec_lt, ℕ_discrete}
use mathlib.Core.Path.{◌≡◌, refl, sym, ap, ◌∙◌, subst}
use mathlib.Core.Bool.{Bool, true, false, cond, not, ◌&&◌, ◌||◌, xor, true≢false}
use mathlib.Core.List.{List}
use mathlib.Core.Logic.{◌↔◌}
use lib.Bits.{bit_and}
use lib.Dec.{T}
use lib.ListN.{get_or}
use Rattle.bits.specs.Bits.{bit}
use Rattle.bits.proofs.Bit.{bit_of_zero}
use Rattle.bits.proofs.Words.{bit-and, bit_complement}
use Rattle.meaning.specs.Table.{Table, Node}
use Rattle.reading.specs.Parts.{Parts, table_of, node_count, node_of}
use Rattle.product.specs.Places.{Place}
use Rattle.product.specs.Product.{width, temporal_node, truth, now_at, stay_at, carried, agree}
use Rattle.product.proofs.Lanes.{Words16, needs, fails, Lanes}
use Rattle.product.proofs.Steps.{Law, LawOf, agree↔laws}
use Rattle.product.proofs.Words.{truth_of_bit}
use Rattle.workspace.proofs.Setting.{product_of}
use Rattle.workspace.proofs.Scanning.{narrowed_in, narrowed_by, fitting_in}

-- ---- one lane

and_both : (a b : Bool) → (a && b) ≡ true → (a ≡ true) × (b ≡ true)
and_both true b e = (refl, e)
and_both false b e = absurd (true≢false (sym e))

both_and : (a b : Bool) → a ≡ true → b ≡ true → (a && b) ≡ true
both_and a b e f = rw (e, f)

not_true→ : (a : Bool) → not a ≡ true → a ≡ false
not_true→ true e = absurd (true≢false (sym e))
not_true→ false e = refl

module _ (lanes : List ℕ) (words : Words16 lanes) (s b next j : ℕ) (small : j < 16) where
  -- temporal node number t is carried on: where it is needed, the lane's bit j is its bit
  abbrev pub Carried : ℕ → Type 0
  Carried t = bit (get_or lanes (s * 16 + t) 0) b ≡ true → bit (get_or lanes (next * 16 + 4 + t) 0) j ≡ bit b t

  -- bit j of the lane, or of its contrary, is set exactly where it is bit t
  chosen : (t : ℕ) (v : Bool)
      → bit (cond v (get_or lanes (next * 16 + 4 + t) 0) (65535 - get_or lanes (next * 16 + 4 + t) 0)) j ≡ true
      ↔ bit (get_or lanes (next * 16 + 4 + t) 0) j ≡ v
  chosen t true = (λ e. e, λ e. e)
  chosen t false = (λ e. not_true→ _ (sym contrary ∙ e), λ e. contrary ∙ ap not e)
    where
      contrary : bit (65535 - get_or lanes (next * 16 + 4 + t) 0) j ≡ not (bit (get_or lanes (next * 16 + 4 + t) 0) j)
      contrary = bit_complement 16 (get_or lanes (next * 16 + 4 + t) 0) j (words (next * 16 + 4 + t)) small

  pub narrowed_keeps : (fit t : ℕ)
      → (bit (narrowed_in lanes fit s b next t) j ≡ true) ↔ ((bit fit j ≡ true) × Carried t)
  unfolding narrowed_in
  narrowed_keeps fit t = go (bit (get_or lanes (s * 16 + t) 0) b) refl
    where
      lane : ℕ
      lane = cond (bit b t) (get_or lanes (next * 16 + 4 + t) 0) (65535 - get_or lanes (next * 16 + 4 + t) 0)

      go : (need : Bool) → bit (get_or lanes (s * 16 + t) 0) b ≡ need
          → (bit (cond need (bit_and fit lane) fit) j ≡ true) ↔ ((bit fit j ≡ true) × Carried t)
      go true e = (
        λ h. let both = and_both (bit fit j) (bit lane j) (sym (bit-and fit lane j) ∙ h) in (both.0, λ n. (chosen t (bit b t)).0 both.1),
        λ h. bit-and fit lane j ∙ both_and (bit fit j) (bit lane j) h.0 ((chosen t (bit b t)).1 (h.1 e)),
      )
      go false e = (λ h. (h, λ n. absurd (true≢false (sym n ∙ e))), λ h. h.0)

  narrowed_by_keeps : (ones n : ℕ)
      → (bit (narrowed_by lanes ones s b next n) j ≡ true) ↔ ((bit ones j ≡ true) × ((t : ℕ) → t < n → Carried t))
  narrowed_by_keeps ones zero = (λ h. (h, λ t l. absurd (omega arith)), λ h. h.0)
  narrowed_by_keeps ones (suc n) = (
    λ h.
        let last = (narrowed_keeps _ n).0 h in
        let earlier = (narrowed_by_keeps ones n).0 last.0 in
        (earlier.0, λ t l. go t l earlier.1 last.1 (ℕ_discrete t n)),
    λ h. (narrowed_keeps _ n).1 ((narrowed_by_keeps ones n).1 (h.0, λ t l. h.1 t (omega arith)), h.1 n (omega arith)),
  )
    where
      go : (t : ℕ) → t < suc n → ((k : ℕ) → k < n → Carried k) → Carried n → Dec (t ≡ n) → Carried t
      go t l earlier here (yes e) = subst Carried (sym e) here
      go t l earlier here (no m) = earlier t (omega arith)

  pub fitting_keeps : (ones : ℕ)
      → (bit (fitting_in lanes ones s b next) j ≡ true) ↔ ((bit ones j ≡ true) × ((t : ℕ) → t < 4 → Carried t))
  unfolding fitting_in
  fitting_keeps ones = narrowed_by_keeps ones 4

-- ---- one law

law_from : (v now stay carry : Bool) → (not (stay && not now) && xor v now) ≡ false → ((stay && not now) ≡ true → carry ≡ v)
    → v ≡ (now || (stay && carry))
unfolding xor
law_from true true stay carry f h = refl
law_from false true true carry f h = absurd (true≢false f)
law_from false true false carry f h = absurd (true≢false f)
law_from v false true carry f h = sym (h refl)
law_from true false false carry f h = absurd (true≢false f)
law_from false false false carry f h = refl

law_to : (v now stay carry : Bool) → v ≡ (now || (stay && carry))
    → ((not (stay && not now) && xor v now) ≡ false) × ((stay && not now) ≡ true → carry ≡ v)
unfolding xor
law_to true true true carry e = (refl, λ h. absurd (true≢false (sym h)))
law_to true true false carry e = (refl, λ h. absurd (true≢false (sym h)))
law_to false true stay carry e = absurd (true≢false (sym e))
law_to v false true carry e = (refl, λ h. sym e)
law_to true false false carry e = absurd (true≢false e)
law_to false false false carry e = (refl, λ h. absurd (true≢false (sym h)))

module _ (table : Table) (node : ℕ → Node) (x s b s' b' : ℕ) where
  -- the law of node x: it does not fail, and where it is needed it is carried on
  law_holds : fails table node x s b ≡ false → (needs table node x s b ≡ true → carried table node x s' b' ≡ truth table node x s b)
      → Law table node x s b s' b'
  law_holds = law_from (truth table node x s b) (now_at table node x s b) (stay_at table node x s b) (carried table node x s' b')

  law_says : Law table node x s b s' b'
      → (fails table node x s b ≡ false) × (needs table node x s b ≡ true → carried table node x s' b' ≡ truth table node x s b)
  law_says = law_to (truth table node x s b) (now_at table node x s b) (stay_at table node x s b) (carried table node x s' b')

-- ---- all of them

module _ (p : Parts) (lanes : List ℕ) (of : Lanes (table_of p) (node_of p.node_list) (node_count p.node_list) lanes) (few : width (product_of p) ≤ 4)
    (s b s' b' : ℕ) (s_below : s < p.states) (b_below : b < 16) (s'_below : s' < p.states) (b'_below : b' < 16) where
  abbrev from : ℕ → Place
  from w = record { state = s; bits = b; waiting = w }

  abbrev to : ℕ → Place
  to w = record { state = s'; bits = b'; waiting = w }

  pub carried_agree : (w w' : ℕ) → bit (get_or lanes (s * 16 + 12) 0) b ≡ false
      → ((t : ℕ) → t < 4 → Carried lanes of.words s b s' b' b'_below t) → T (agree (product_of p) (from w) (to w'))
  unfolding width
  carried_agree w w' none on =
      (agree↔laws (product_of p) (from w) (to w')).1
      (λ t l.
      law_holds (table_of p) (node_of p.node_list) (temporal_node (product_of p) t) s b s' b' (of.no_fail s b s_below b_below none t l)
      (λ h.
      sym (of.carry t s' b' l s'_below b'_below)
      ∙ on t (omega arith) (of.need t s b l s_below b_below ∙ h)
      ∙ sym (truth_of_bit (product_of p) s b t l)))

  pub agree_carried : (w w' : ℕ) → T (agree (product_of p) (from w) (to w'))
      → (bit (get_or lanes (s * 16 + 12) 0) b ≡ false) × ((t : ℕ) → t < 4 → Carried lanes of.words s b s' b' b'_below t)
  unfolding width
  agree_carried w w' agrees = (none (bit (get_or lanes (s * 16 + 12) 0) b) refl, λ t h. carry t h (dec_lt t (width (product_of p))))
    where
      laws : (t : ℕ) → t < width (product_of p) → LawOf (product_of p) (from w) (to w') t
      laws = (agree↔laws (product_of p) (from w) (to w')).0 agrees

      none : (v : Bool) → bit (get_or lanes (s * 16 + 12) 0) b ≡ v → v ≡ false
      none false e = refl
      none true e = go (of.fail s b s_below b_below e)
        where
          go : (t : ℕ) × (t < width (product_of p)) × (fails (table_of p) (node_of p.node_list) (temporal_node (product_of p) t) s b ≡ true) → true ≡ false
          go (t, l, f) = sym f ∙ (law_says (table_of p) (node_of p.node_list) (temporal_node (product_of p) t) s b s' b' (laws t l)).0

      carry : (t : ℕ) → t < 4 → Dec (t < width (product_of p)) → Carried lanes of.words s b s' b' b'_below t
      carry t h (yes l) need =
          of.carry t s' b' l s'_below b'_below
          ∙ (law_says (table_of p) (node_of p.node_list) (temporal_node (product_of p) t) s b s' b' (laws t l)).1 (sym (of.need t s b l s_below b_below) ∙ need)
          ∙ truth_of_bit (product_of p) s b t l
      carry t h (no n) need =
          absurd (true≢false (sym need ∙ ap (λ (x : ℕ). bit x b) (of.need_no_more t s (omega arith) h s_below) ∙ bit_of_zero b))
