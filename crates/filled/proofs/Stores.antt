-- Four stores add a temporal node to a state's block: its need and what it is carried on by as the next number's, its promise as
-- the next promise's, and its failing to that of the others. Assumes nothing.
use Prim.Native.Nat.{ℕ, suc, ◌+◌, ◌*◌, ◌≤◌, ◌<◌}
use native.Mathlib.Omega.{arith}
use native.Mathlib.Decide.{dec_lt}
use mathlib.Core.Path.{◌≡◌, refl, sym, ap, ◌∙◌, subst}
use mathlib.Core.Logic.{◌⊎◌, inl, inr, ⊎_elim}
use mathlib.Core.Bool.{Bool, true, false, ◌||◌}
use mathlib.Core.List.{List}
use lib.Bits.{bit_or, or_lt}
use lib.ListN.{length, get_or, set, length-set}
use lib.Seq.{get_or-set_same, get_or-set_other}
use Rattle.bits.specs.Bits.{bit}
use Rattle.bits.proofs.Words.{bit-or}
use Rattle.meaning.specs.Table.{Table, Node}
use Rattle.product.specs.Product.{temporal, promised, nodes_from, meets, carried}
use Rattle.product.proofs.Lanes.{Words16, needs, fails}
use Rattle.filled.proofs.Lane.{Lane}
use Rattle.filled.proofs.Filling.{Counted, NodeLanes, Block, BlockAdded}
use Rattle.filled.proofs.Nodes.{list_same, length_more, entry_early, entry_last, promises_fewer}
use Rattle.filled.proofs.Rows.{words_set}

-- ---- the four stores

-- state s's failing joined, and its words for temporal node number T and promise number E stored
abbrev pub stores : (T E s need carry met fail : ℕ) → List ℕ → List ℕ
stores T E s need carry met fail lanes =
    set
    (set (set (set lanes (s * 16 + 12) (bit_or (get_or lanes (s * 16 + 12) 0) fail)) (s * 16 + T) need) (s * 16 + (4 + T)) carry)
    (s * 16 + (8 + E))
    met

-- what they leave
record Stored (T E s need carry met fail : ℕ) (lanes lanes' : List ℕ) : Type 0 where
  need_there : get_or lanes' (s * 16 + T) 0 ≡ need
  carry_there : get_or lanes' (s * 16 + 4 + T) 0 ≡ carry
  met_there : get_or lanes' (s * 16 + 8 + E) 0 ≡ met
  fail_there : get_or lanes' (s * 16 + 12) 0 ≡ bit_or (get_or lanes (s * 16 + 12) 0) fail
  others : (i : ℕ) → (i ≡ s * 16 + T → ⊥) → (i ≡ s * 16 + 4 + T → ⊥) → (i ≡ s * 16 + 8 + E → ⊥) → (i ≡ s * 16 + 12 → ⊥)
      → get_or lanes' i 0 ≡ get_or lanes i 0

module _ (T E s need carry met fail : ℕ) (lanes : List ℕ) where
  abbrev joined : ℕ
  joined = bit_or (get_or lanes (s * 16 + 12) 0) fail

  abbrev one : List ℕ
  one = set lanes (s * 16 + 12) joined

  abbrev two : List ℕ
  two = set one (s * 16 + T) need

  abbrev three : List ℕ
  three = set two (s * 16 + (4 + T)) carry

  at_group : (a k : ℕ) (l : List ℕ) → get_or l (s * 16 + a + k) 0 ≡ get_or l (s * 16 + (a + k)) 0
  at_group a k l = ap (λ (i : ℕ). get_or l i 0) (omega arith)

  module _ (few : T < 4) (fewer : E < 4) (fits : s * 16 + 16 ≤ length lanes) where
    stored : Stored T E s need carry met fail lanes (stores T E s need carry met fail lanes)
    stored =
        record {
          need_there =
              get_or-set_other three (s * 16 + (8 + E)) (s * 16 + T) met 0 (λ e. omega arith)
              ∙ (get_or-set_other two (s * 16 + (4 + T)) (s * 16 + T) carry 0 (λ e. omega arith)
              ∙ get_or-set_same one (s * 16 + T) need 0 (simp length-set (omega arith)));
          carry_there =
              at_group 4 T (set three (s * 16 + (8 + E)) met)
              ∙ (get_or-set_other three (s * 16 + (8 + E)) (s * 16 + (4 + T)) met 0 (λ e. omega arith)
              ∙ get_or-set_same two (s * 16 + (4 + T)) carry 0 (simp length-set (omega arith)));
          met_there =
              at_group 8 E (set three (s * 16 + (8 + E)) met)
              ∙ get_or-set_same three (s * 16 + (8 + E)) met 0 (simp length-set (omega arith));
          fail_there =
              get_or-set_other three (s * 16 + (8 + E)) (s * 16 + 12) met 0 (λ e. omega arith)
              ∙ (get_or-set_other two (s * 16 + (4 + T)) (s * 16 + 12) carry 0 (λ e. omega arith)
              ∙ (get_or-set_other one (s * 16 + T) (s * 16 + 12) need 0 (λ e. omega arith)
              ∙ get_or-set_same lanes (s * 16 + 12) joined 0 (omega arith)));
          others = λ i a b c d.
              get_or-set_other three (s * 16 + (8 + E)) i met 0 (λ e. c (omega arith))
              ∙ (get_or-set_other two (s * 16 + (4 + T)) i carry 0 (λ e. b (omega arith))
              ∙ (get_or-set_other one (s * 16 + T) i need 0 a
              ∙ get_or-set_other lanes (s * 16 + 12) i joined 0 d));
        }

    stored_words : need < 65536 → carry < 65536 → met < 65536 → fail < 65536 → Words16 lanes
        → Words16 (stores T E s need carry met fail lanes)
    stored_words n c m f words =
        words_set three (s * 16 + (8 + E)) met (simp length-set (omega arith)) m
        (words_set two (s * 16 + (4 + T)) carry (simp length-set (omega arith)) c
        (words_set one (s * 16 + T) need (simp length-set (omega arith)) n
        (words_set lanes (s * 16 + 12) joined (omega arith) (or_lt 16 (get_or lanes (s * 16 + 12) 0) fail (words (s * 16 + 12)) f) words)))

-- ---- a temporal node added to a block

or_true_either : (x y : Bool) → (x || y) ≡ true → (x ≡ true) ⊎ (y ≡ true)
or_true_either true y e = inl refl
or_true_either false y e = inr e

or_false_both : (x y : Bool) → (x || y) ≡ false → (x ≡ false) × (y ≡ false)
or_false_both true y e = absurd (let z : ◌≡◌ {A = ℕ} 0 1 = cc in omega arith)
or_false_both false y e = (refl, e)

-- one word more of a kind, for node n: the words before it stay, and its own is its lane
grown : (low : ℕ) (node : ℕ → Node) (n : ℕ) (at : ℕ → ℕ) (value : ℕ → ℕ → Bool) (lanes lanes' : List ℕ)
    → low ≤ (node n).operator
    → ((t b : ℕ) → t < length (nodes_from low node n) → b < 16
    → bit (get_or lanes (at t) 0) b ≡ value (get_or (nodes_from low node n) t 0) b)
    → ((t : ℕ) → t < length (nodes_from low node n) → get_or lanes' (at t) 0 ≡ get_or lanes (at t) 0)
    → Lane (value n) (get_or lanes' (at (length (nodes_from low node n))) 0)
    → (t b : ℕ) → t < length (nodes_from low node (suc n)) → b < 16
    → bit (get_or lanes' (at t) 0) b ≡ value (get_or (nodes_from low node (suc n)) t 0) b
grown low node n at value lanes lanes' here old kept new t b k m = go (dec_lt t (length (nodes_from low node n)))
  where
    go : Dec (t < length (nodes_from low node n))
        → bit (get_or lanes' (at t) 0) b ≡ value (get_or (nodes_from low node (suc n)) t 0) b
    go (yes l) = rw (entry_early low node n t l, kept t l) (old t b l m)
    go (no l) =
        let e : t ≡ length (nodes_from low node n) = omega (arith, length_more low node n here) in
        rw (e, entry_last low node n here) (new.bits b m)

module _ (table : Table) (node : ℕ → Node) (n s need carry met fail : ℕ) (lanes lanes' : List ℕ)
    (here : 6 ≤ (node n).operator) (few : length (temporal node n) < 4)
    (new : NodeLanes table node n s need carry met fail)
    (put : Stored (length (temporal node n)) (length (promised node n)) s need carry met fail lanes lanes')
    (old : Block table node n s lanes) where
  abbrev T : ℕ
  T = length (temporal node n)

  abbrev E : ℕ
  E = length (promised node n)

  fewer : E < 4
  fewer = omega (arith, promises_fewer node n)

  more : length (temporal node (suc n)) ≡ T + 1
  more = length_more 6 node n here

  need_more : (t b : ℕ) → t < length (temporal node (suc n)) → b < 16
      → bit (get_or lanes' (s * 16 + t) 0) b ≡ needs table node (get_or (temporal node (suc n)) t 0) s b
  need_more =
      grown 6 node n (λ t. s * 16 + t) (λ x. needs table node x s) lanes lanes' here old.need
      (λ t l.
      put.others (s * 16 + t) (λ e. omega arith) (λ e. omega arith) (λ e. omega arith) (λ e. omega arith))
      (rw put.need_there new.need_is)

  carry_more : (t b : ℕ) → t < length (temporal node (suc n)) → b < 16
      → bit (get_or lanes' (s * 16 + 4 + t) 0) b ≡ carried table node (get_or (temporal node (suc n)) t 0) s b
  carry_more =
      grown 6 node n (λ t. s * 16 + 4 + t) (λ x. carried table node x s) lanes lanes' here old.carry
      (λ t l.
      put.others (s * 16 + 4 + t) (λ e. omega arith) (λ e. omega arith) (λ e. omega arith) (λ e. omega arith))
      (rw put.carry_there new.carry_is)

  met_kept : (e : ℕ) → e < E → get_or lanes' (s * 16 + 8 + e) 0 ≡ get_or lanes (s * 16 + 8 + e) 0
  met_kept e l =
      put.others (s * 16 + 8 + e) (λ q. omega arith) (λ q. omega arith) (λ q. omega arith) (λ q. omega (arith, fewer))

  met_more : (e b : ℕ) → e < length (promised node (suc n)) → b < 16
      → bit (get_or lanes' (s * 16 + 8 + e) 0) b ≡ meets table node (get_or (promised node (suc n)) e 0) s b
  met_more e b k m = go (dec_lt (node n).operator 7)
    where
      go : Dec ((node n).operator < 7)
          → bit (get_or lanes' (s * 16 + 8 + e) 0) b ≡ meets table node (get_or (promised node (suc n)) e 0) s b
      go (yes l) =
          let e_old : e < E = subst (λ (x : List ℕ). e < length x) (list_same 7 node n l) k in
          rw (list_same 7 node n l, met_kept e e_old) (old.met e b e_old m)
      go (no l) =
          grown 7 node n (λ e. s * 16 + 8 + e) (λ x. meets table node x s) lanes lanes' (omega arith) old.met met_kept
          (rw put.met_there new.met_is) e b k m

  -- bit b of the last word
  failing : (b : ℕ) → b < 16
      → bit (get_or lanes' (s * 16 + 12) 0) b ≡ (bit (get_or lanes (s * 16 + 12) 0) b || fails table node n s b)
  failing b m =
      rw put.fail_there
      (bit-or (get_or lanes (s * 16 + 12) 0) fail b
      ∙ ap (λ (x : Bool). bit (get_or lanes (s * 16 + 12) 0) b || x) (new.fail_is.bits b m))

  abbrev Fails : ℕ → ℕ → Type 0
  Fails m b = (t : ℕ) × (t < length (temporal node m)) × (fails table node (get_or (temporal node m) t 0) s b ≡ true)

  fail_more : (b : ℕ) → b < 16 → bit (get_or lanes' (s * 16 + 12) 0) b ≡ true → Fails (suc n) b
  fail_more b m e =
      go (or_true_either (bit (get_or lanes (s * 16 + 12) 0) b) (fails table node n s b) (sym (failing b m) ∙ e))
    where
      early : Fails n b → Fails (suc n) b
      early (t, l, q) = (t, omega (arith, more), rw (entry_early 6 node n t l) q)

      go : (bit (get_or lanes (s * 16 + 12) 0) b ≡ true) ⊎ (fails table node n s b ≡ true) → Fails (suc n) b
      go (inl q) = early (old.fail b m q)
      go (inr q) = (T, omega (arith, more), rw (entry_last 6 node n here) q)

  no_fail_more : (b : ℕ) → b < 16 → bit (get_or lanes' (s * 16 + 12) 0) b ≡ false
      → (t : ℕ) → t < length (temporal node (suc n)) → fails table node (get_or (temporal node (suc n)) t 0) s b ≡ false
  no_fail_more b m e t k = go (dec_lt t T)
    where
      both : (bit (get_or lanes (s * 16 + 12) 0) b ≡ false) × (fails table node n s b ≡ false)
      both = or_false_both (bit (get_or lanes (s * 16 + 12) 0) b) (fails table node n s b) (sym (failing b m) ∙ e)

      go : Dec (t < T) → fails table node (get_or (temporal node (suc n)) t 0) s b ≡ false
      go (yes l) = rw (entry_early 6 node n t l) (old.no_fail b m both.0 t l)
      go (no l) = let q : t ≡ T = omega (arith, more) in rw (q, entry_last 6 node n here) both.1

  block_more : Block table node (suc n) s lanes'
  block_more =
      record {
        need = need_more;
        need_no_more = λ t k m.
            put.others (s * 16 + t) (λ e. omega (arith, more)) (λ e. omega arith) (λ e. omega arith) (λ e. omega arith)
            ∙ old.need_no_more t (omega (arith, more)) m;
        carry = carry_more;
        met = met_more;
        fail = fail_more;
        no_fail = no_fail_more;
      }

-- so the four stores add node n in state s
module _ (table : Table) (node : ℕ → Node) (n s need carry met fail : ℕ) (lanes : List ℕ) (here : 6 ≤ (node n).operator)
    (fits : s * 16 + 16 ≤ length lanes) (new : NodeLanes table node n s need carry met fail) where
  pub block_added : (T E : ℕ) → Counted node n T E → T < 4
      → BlockAdded table node n s lanes (stores T E s need carry met fail lanes)
  block_added T E counts few =
      record {
        words =
            stored_words T E s need carry met fail lanes few fewer fits new.need_is.within new.carry_is.within new.met_is.within
            new.fail_is.within;
        others = λ i out.
            ⊎_elim
            (λ l. put.others i (λ e. omega arith) (λ e. omega arith) (λ e. omega arith) (λ e. omega arith))
            (λ l.
            put.others i (λ e. omega arith) (λ e. omega arith) (λ e. omega (arith, fewer)) (λ e. omega arith))
            out;
        block =
            block_more table node n s need carry met fail lanes (stores T E s need carry met fail lanes) here
            (omega (arith, counts.temporals_are)) new at_lengths;
      }
    where
      fewer : E < 4
      fewer = omega (arith, counts.temporals_are, counts.promises_are, promises_fewer node n)

      put : Stored T E s need carry met fail lanes (stores T E s need carry met fail lanes)
      put = stored T E s need carry met fail lanes few fewer fits

      at_lengths : Stored (length (temporal node n)) (length (promised node n)) s need carry met fail lanes
          (stores T E s need carry met fail lanes)
      at_lengths =
          subst
          (λ (x : ℕ). Stored x (length (promised node n)) s need carry met fail lanes (stores T E s need carry met fail lanes))
          counts.temporals_are
          (subst (λ (x : ℕ). Stored T x s need carry met fail lanes (stores T E s need carry met fail lanes))
          counts.promises_are put)
