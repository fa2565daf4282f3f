-- A step's laws as the code tests them, on words whose bit t speaks of temporal node number t. For masks `now`, `stay` and
-- need = stay and not now: b agrees with every law exactly where b without need is now, and carry and b are the same within need.
-- Bit by bit, by the four values of now and stay. Assumes nothing.
use Prim.Native.Nat.{ℕ, ◌^◌, ◌<◌}
use native.Mathlib.Nat.{lt_of_le_of_lt}
use mathlib.Core.Path.{◌≡◌, sym, ap, ap₂, ◌∙◌}
use mathlib.Core.Bool.{Bool, true, false, not, ◌&&◌, ◌||◌, and-true, and-false}
use mathlib.Core.Logic.{◌↔◌}
use lib.Bits.{bit_and, and_le_l, and_le_r}
use lib.Dec.{T}
use Rattle.bits.specs.Bits.{bit}
use Rattle.bits.proofs.Number.{equal_by_bits}
use Rattle.bits.proofs.Words.{bit-and}
use Rattle.product.specs.Places.{Place}
use Rattle.product.specs.Product.{Product, temporal_node, truth, now_at, stay_at, carried, width, next, agree, successor}
use Rattle.product.proofs.Nodes.{Numbered, numbered_entry}
use Rattle.product.proofs.Truth.{truth_temporal}
use Rattle.product.proofs.Steps.{agree↔laws, successor↔tests}

-- for one bit
bit-law : (b now stay carry : Bool)
    → (b ≡ (now || (stay && carry)))
    ↔ (((b && not (stay && not now)) ≡ now) × ((carry && (stay && not now)) ≡ (b && (stay && not now))))
bit-law b true true carry =
    (λ e. (and-true b ∙ e, and-false carry ∙ sym (and-false b)), λ h. sym (and-true b) ∙ h.0)
bit-law b true false carry =
    (λ e. (and-true b ∙ e, and-false carry ∙ sym (and-false b)), λ h. sym (and-true b) ∙ h.0)
bit-law b false true carry =
    (λ e. (and-false b, and-true carry ∙ (sym e ∙ sym (and-true b))), λ h. sym (and-true b) ∙ (sym h.1 ∙ and-true carry))
bit-law b false false carry =
    (λ e. (and-true b ∙ e, and-false carry ∙ sym (and-false b)), λ h. sym (and-true b) ∙ h.0)

-- for words of w bits: `rest` is need's complement, as far as b reaches
module _ (w b now stay need rest : ℕ) (b_below : b < 2 ^ w) (now_below : now < 2 ^ w) (need_below : need < 2 ^ w)
    (needs : (t : ℕ) → t < w → bit need t ≡ (bit stay t && not (bit now t)))
    (rests : (t : ℕ) → t < w → bit rest t ≡ not (bit need t)) where
  bit-rest : (t : ℕ) → t < w → bit (bit_and b rest) t ≡ (bit b t && not (bit stay t && not (bit now t)))
  bit-rest t l = bit-and b rest t ∙ ap (λ (x : Bool). bit b t && x) (rests t l ∙ ap not (needs t l))

  bit-need : (x t : ℕ) → t < w → bit (bit_and x need) t ≡ (bit x t && (bit stay t && not (bit now t)))
  bit-need x t l = bit-and x need t ∙ ap (λ (y : Bool). bit x t && y) (needs t l)

  -- every law holds exactly where b fits `now` without need, and carry is b within need
  pub laws↔words : (carry : ℕ)
      → ((t : ℕ) → t < w → bit b t ≡ (bit now t || (bit stay t && bit carry t)))
      ↔ ((bit_and b rest ≡ now) × (bit_and carry need ≡ bit_and b need))
  laws↔words carry = (λ f. (fits f, same f), back)
    where
      law : (t : ℕ)
          → (bit b t ≡ (bit now t || (bit stay t && bit carry t)))
          ↔ (((bit b t && not (bit stay t && not (bit now t))) ≡ bit now t)
          × ((bit carry t && (bit stay t && not (bit now t))) ≡ (bit b t && (bit stay t && not (bit now t)))))
      law t = bit-law (bit b t) (bit now t) (bit stay t) (bit carry t)

      fits : ((t : ℕ) → t < w → bit b t ≡ (bit now t || (bit stay t && bit carry t))) → bit_and b rest ≡ now
      fits f =
          equal_by_bits w (bit_and b rest) now (lt_of_le_of_lt (and_le_l b rest) b_below) now_below
          (λ t l. bit-rest t l ∙ ((law t).0 (f t l)).0)

      same : ((t : ℕ) → t < w → bit b t ≡ (bit now t || (bit stay t && bit carry t))) → bit_and carry need ≡ bit_and b need
      same f =
          equal_by_bits w (bit_and carry need) (bit_and b need) (lt_of_le_of_lt (and_le_r carry need) need_below)
          (lt_of_le_of_lt (and_le_r b need) need_below)
          (λ t l. bit-need carry t l ∙ (((law t).0 (f t l)).1 ∙ sym (bit-need b t l)))

      back : (bit_and b rest ≡ now) × (bit_and carry need ≡ bit_and b need) → (t : ℕ) → t < w
          → bit b t ≡ (bit now t || (bit stay t && bit carry t))
      back (p, q) t l =
          (law t).1 (
            sym (bit-rest t l) ∙ ap (λ (x : ℕ). bit x t) p,
            sym (bit-need carry t l) ∙ (ap (λ (x : ℕ). bit x t) q ∙ bit-need b t l),
          )

-- temporal node number t is true where bit t is
pub truth_of_bit : (g : Product) (s b t : ℕ) → t < width g → truth g.table g.node (temporal_node g t) s b ≡ bit b t
unfolding width
truth_of_bit g s b t l = go (numbered_entry 6 g.node g.count t l)
  where
    go : (x : ℕ) × Numbered 6 g.node g.count x t → truth g.table g.node (temporal_node g t) s b ≡ bit b t
    go (x, n) =
        ap (λ (y : ℕ). truth g.table g.node y s b) n.entry
        ∙ (truth_temporal g.table g.node s b x n.reaches ∙ ap (bit b) n.before)

-- the masks of a place: bit t of each is temporal node t's `now`, `stay`, stay and not now, and the contrary of that
pub record Masks (g : Product) (p : Place) (now stay need rest : ℕ) : Type 0 where
  pub bits_below : p.bits < 2 ^ width g
  pub now_below : now < 2 ^ width g
  pub need_below : need < 2 ^ width g
  pub nows : (t : ℕ) → t < width g → bit now t ≡ now_at g.table g.node (temporal_node g t) p.state p.bits
  pub stays : (t : ℕ) → t < width g → bit stay t ≡ stay_at g.table g.node (temporal_node g t) p.state p.bits
  pub needs : (t : ℕ) → t < width g → bit need t ≡ (bit stay t && not (bit now t))
  pub rests : (t : ℕ) → t < width g → bit rest t ≡ not (bit need t)

-- what a place hands back: bit t is what temporal node t reads of it
pub record Carries (g : Product) (q : Place) (carry : ℕ) : Type 0 where
  pub carries : (t : ℕ) → t < width g → bit carry t ≡ carried g.table g.node (temporal_node g t) q.state q.bits

module _ (g : Product) (p q : Place) {now stay need rest carry : ℕ} (masks : Masks g p now stay need rest) (of : Carries g q carry) where
  words : ((t : ℕ) → t < width g → bit p.bits t ≡ (bit now t || (bit stay t && bit carry t)))
      ↔ ((bit_and p.bits rest ≡ now) × (bit_and carry need ≡ bit_and p.bits need))
  words =
      laws↔words (width g) p.bits now stay need rest masks.bits_below masks.now_below masks.need_below masks.needs
      masks.rests carry

  right : (t : ℕ) → t < width g
      → (bit now t || (bit stay t && bit carry t))
      ≡ (now_at g.table g.node (temporal_node g t) p.state p.bits
      || (stay_at g.table g.node (temporal_node g t) p.state p.bits
      && carried g.table g.node (temporal_node g t) q.state q.bits))
  right t l = ap₂ ◌||◌ (masks.nows t l) (ap₂ ◌&&◌ (masks.stays t l) (of.carries t l))

  pub agree↔words : T (agree g p q) ↔ ((bit_and p.bits rest ≡ now) × (bit_and carry need ≡ bit_and p.bits need))
  agree↔words = (
    λ h.
        words.0 (λ t l. sym (truth_of_bit g p.state p.bits t l) ∙ ((agree↔laws g p q).0 h t l ∙ sym (right t l))),
    λ h.
        (agree↔laws g p q).1 (λ t l. truth_of_bit g p.state p.bits t l ∙ (words.1 h t l ∙ right t l)),
  )

  -- so the successors of p: none unless its bits without need are `now`; otherwise the places with an edge, bits below 2^T, the same
  -- carry as bits within need, and the next waiting number
  pub successor↔words :
      T (successor g p q)
      ↔ ((bit_and p.bits rest ≡ now)
      × T (g.table.edge p.state q.state)
      × (q.bits < 2 ^ width g)
      × (bit_and carry need ≡ bit_and p.bits need)
      × (q.waiting ≡ next g p))
  successor↔words = (
    λ t.
        let h = (successor↔tests g p q).0 t in
        let a = agree↔words.0 h.2 in
        (a.0, h.0, h.1, a.1, h.3),
    λ h. (successor↔tests g p q).1 (h.1, h.2, agree↔words.1 (h.0, h.3), h.4),
  )
