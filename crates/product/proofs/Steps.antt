-- What a step of the product says, node by node: an edge, bits below 2^T, the expansion law of every temporal node, and the move
-- of the waiting number; that these are all of it; and what an initial place says. Assumes nothing.
use Prim.Native.Nat.{ℕ, zero, suc, ◌-◌, ◌^◌, ◌≤◌, ◌<◌}
use native.Mathlib.Omega.{arith}
use native.Mathlib.Nat.{eq-or-lt_of_le}
use mathlib.Core.Path.{◌≡◌, refl, sym, subst}
use mathlib.Core.Bool.{Bool, true, false, cond, not, ◌&&◌, ◌||◌, beq}
use mathlib.Core.Logic.{◌⊎◌, inl, inr, ◌↔◌}
use lib.Dec.{T, ltb, eqb, ltb→lt, lt→ltb, eqb→eq}
use lib.ListN.{length}
use borrow.Author.Tests.{eq-eqb, ne_eqb}
use Rattle.meaning.specs.Table.{Table, Node}
use Rattle.meaning.specs.Laws.{now, stay}
use Rattle.meaning.proofs.Truths.{T-along, T_and, and_T}
use Rattle.product.specs.Places.{Place}
use Rattle.product.specs.Product.{Product, temporal, every}
use Rattle.product.specs.Product.{truth, now_at, stay_at, carried, agrees, width, temporal_node, top, met, next, agree, successor, initial}
use Rattle.product.proofs.Nodes.{Numbered, numbered, numbered_entry}
use Rattle.product.proofs.Waiting.{Move, move}

pub T-every : (test : ℕ → Bool) (n : ℕ) → T (every test n) → (i : ℕ) → i < n → T (test i)
unfolding every
T-every test zero t i h = absurd (omega arith)
T-every test (suc n) t i h = go (eq-or-lt_of_le h) (T_and (every test n) (test n) t) (T-every test n)
  where
    go : (suc i ≡ suc n) ⊎ (suc i < suc n) → T (every test n) × T (test n) → (T (every test n) → (i : ℕ) → i < n → T (test i))
        → T (test i)
    go (inl e) both below = subst (λ (x : ℕ). T (test x)) (omega arith) both.1
    go (inr l) both below = below both.0 i (omega arith)

pub every_T : (test : ℕ → Bool) (n : ℕ) → ((i : ℕ) → i < n → T (test i)) → T (every test n)
unfolding every
every_T test zero f = tt
every_T test (suc n) f =
    and_T (every test n) (test n) (every_T test n (λ i h. f i (omega arith))) (f n (omega arith))

beq→eq : (a b : Bool) → T (beq a b) → a ≡ b
beq→eq true true t = refl
beq→eq true false t = absurd t
beq→eq false true t = absurd t
beq→eq false false t = refl

eq→beq : (a b : Bool) → a ≡ b → T (beq a b)
eq→beq a b e = subst (λ (x : Bool). T (beq a x)) e (same a)
  where
    same : (a : Bool) → T (beq a a)
    same true = tt
    same false = tt

T-four : (a b c d : Bool) → T (a && b && c && d) → T a × T b × T c × T d
T-four true true true d t = (tt, tt, tt, t)
T-four true true false d t = absurd t
T-four true false c d t = absurd t
T-four false b c d t = absurd t

four_T : (a b c d : Bool) → T a × T b × T c × T d → T (a && b && c && d)
four_T a b c d h = and_T (a && b && c) d (and_T (a && b) c (and_T a b h.0 h.1) h.2) h.3

-- the expansion law of node x from (s, b) to (s', b')
abbrev pub Law : Table → (ℕ → Node) → ℕ → (s b s' b' : ℕ) → Type 0
Law table node x s b s' b' =
    truth table node x s b
    ≡ (now_at table node x s b || (stay_at table node x s b && carried table node x s' b'))

module _ (table : Table) (node : ℕ → Node) (x s b s' b' : ℕ) where
  -- of X: its operand at the next place
  pub law_next : (node x).operator ≡ 6
      → (Law table node x s b s' b') ↔ (truth table node x s b ≡ truth table node (node x).first s' b')
  unfolding carried
  law_next e = (subst Read e, subst Read (sym e))
    where
      Read : ℕ → Type 0
      Read o =
          truth table node x s b
          ≡ (now o (truth table node (node x).first s b) (truth table node (node x).second s b)
          || (stay o (truth table node (node x).first s b) (truth table node (node x).second s b)
          && truth table node (cond (eqb o 6) (node x).first x) s' b'))

-- operators 7 to 11 read themselves
pub carried_own : (table : Table) (node : ℕ → Node) (x s b : ℕ) → 7 ≤ (node x).operator
    → carried table node x s b ≡ truth table node x s b
unfolding carried
carried_own table node x s b h = rw (ne_eqb (node x).operator 6 (λ e. omega arith))

module _ (g : Product) where
  -- what a step says
  pub record Stepped (p q : Place) : Type 0 where
    pub edge : T (g.table.edge p.state q.state)
    pub below : q.bits < 2 ^ width g
    pub laws : (x : ℕ) → x < g.count → 6 ≤ (g.node x).operator
        → Law g.table g.node x p.state p.bits q.state q.bits
    pub waits : q.waiting ≡ next g p

  -- the law of temporal node number t
  abbrev pub LawOf : Place → Place → ℕ → Type 0
  LawOf p q t = Law g.table g.node (temporal_node g t) p.state p.bits q.state q.bits

  pub agree↔laws : (p q : Place) → T (agree g p q) ↔ ((t : ℕ) → t < width g → LawOf p q t)
  unfolding agree agrees
  agree↔laws p q =
      (λ h t l. beq→eq _ _ (T-every _ (width g) h t l), λ f. every_T _ (width g) (λ t l. eq→beq _ _ (f t l)))

  agree→laws : (p q : Place) → T (agree g p q) → (x : ℕ) → x < g.count → 6 ≤ (g.node x).operator
      → Law g.table g.node x p.state p.bits q.state q.bits
  unfolding width
  agree→laws p q h x l o =
      let n = numbered 6 g.node g.count x l o in
      subst (λ (y : ℕ). Law g.table g.node y p.state p.bits q.state q.bits) n.entry
      ((agree↔laws p q).0 h (length (temporal g.node x)) n.within)

  laws→agree : (p q : Place)
      → ((x : ℕ) → x < g.count → 6 ≤ (g.node x).operator → Law g.table g.node x p.state p.bits q.state q.bits)
      → T (agree g p q)
  unfolding width
  laws→agree p q f = (agree↔laws p q).1 (λ t l. go t (numbered_entry 6 g.node g.count t l))
    where
      go : (t : ℕ) → (x : ℕ) × Numbered 6 g.node g.count x t → LawOf p q t
      go t (x, n) =
          subst (λ (y : ℕ). Law g.table g.node y p.state p.bits q.state q.bits) (sym n.entry)
          (f x n.below n.reaches)

  -- the four tests of a step
  pub successor↔tests : (p q : Place)
      → T (successor g p q)
      ↔ (T (g.table.edge p.state q.state) × (q.bits < 2 ^ width g) × T (agree g p q) × (q.waiting ≡ next g p))
  unfolding successor
  successor↔tests p q = (
    λ t.
        let h = T-four (g.table.edge p.state q.state) (ltb q.bits (2 ^ width g)) (agree g p q) (eqb q.waiting (next g p)) t in
        (h.0, ltb→lt _ _ h.1, h.2, eqb→eq _ _ h.3),
    λ h.
        four_T (g.table.edge p.state q.state) (ltb q.bits (2 ^ width g)) (agree g p q) (eqb q.waiting (next g p))
        (h.0, lt→ltb _ _ h.1, h.2, T-along (sym (eq-eqb _ _ h.3)) tt),
  )

  pub successor→stepped : (p q : Place) → T (successor g p q) → Stepped p q
  successor→stepped p q t =
      let h = (successor↔tests p q).0 t in
      record { edge = h.0; below = h.1; laws = agree→laws p q h.2; waits = h.3 }

  pub stepped→successor : (p q : Place) → Stepped p q → T (successor g p q)
  stepped→successor p q h = (successor↔tests p q).1 (h.edge, h.below, laws→agree p q h.laws, h.waits)

  pub stepped_moves : (p q : Place) → Stepped p q
      → Move (top g) (met g p.waiting p.state p.bits) p.waiting q.waiting
  unfolding next
  stepped_moves p q h =
      subst (Move (top g) (met g p.waiting p.state p.bits) p.waiting) (sym h.waits)
      (move (top g) (met g p.waiting p.state p.bits) p.waiting)

  -- what an initial place says
  pub record Initial (p : Place) : Type 0 where
    pub begins : T (g.table.initial p.state)
    pub false_there : T (not (truth g.table g.node (g.count - 1) p.state p.bits))
    pub waits_first : p.waiting ≡ 0

  pub initial→ : (p : Place) → T (initial g p) → Initial p
  unfolding initial
  initial→ p t =
      let h =
      T-four true (g.table.initial p.state) (not (truth g.table g.node (g.count - 1) p.state p.bits))
      (eqb p.waiting 0) t
      in
      record { begins = h.1; false_there = h.2; waits_first = eqb→eq _ _ h.3 }

  pub initial← : (p : Place) → Initial p → T (initial g p)
  unfolding initial
  initial← p h =
      four_T true (g.table.initial p.state) (not (truth g.table g.node (g.count - 1) p.state p.bits))
      (eqb p.waiting 0)
      (tt, h.begins, h.false_there, T-along (sym (eq-eqb _ _ h.waits_first)) tt)
