-- The published promises, and any list that begins with them: promise e is that of the node that entry e of the promised nodes names,
-- and each node with an operator 7 to 11 is named. Assumes nothing.
use Prim.Native.Nat.{ℕ, zero, suc, ◌+◌, ◌≤◌, ◌<◌}
use native.Mathlib.Omega.{arith}
use mathlib.Core.Path.{◌≡◌, refl, sym, ap, subst}
use mathlib.Core.Bool.{Bool, false}
use mathlib.Core.List.{List, [], ◌∷◌, ◌++◌, map, append-nil}
use lib.ListN.{length, get_or, length-append, length-map}
use Rattle.meaning.specs.Table.{Table, Node}
use Rattle.product.specs.Product.{Product, published, promised, meets, top, met}
use Rattle.product.proofs.Nodes.{Numbered, numbered, numbered_entry}

-- promise e is node x's
abbrev pub Promise : Product → ℕ → ℕ → Type 0
Promise g e x = (s b : ℕ) → met g e s b ≡ meets g.table g.node x s b

-- every node with an operator 7 to 11 has its promise listed
pub record Listed (g : Product) : Type 0 where
  pub promise : (x : ℕ) → x < g.count → 7 ≤ (g.node x).operator → ℕ
  pub listed : (x : ℕ) (l : x < g.count) (h : 7 ≤ (g.node x).operator) → promise x l h < top g
  pub is : (x : ℕ) (l : x < g.count) (h : 7 ≤ (g.node x).operator) → Promise g (promise x l h) x

module _ (g : Product) (more : List (ℕ → ℕ → Bool))
    (begins : g.promises ≡ map (meets g.table g.node) (promised g.node g.count) ++ more) where
  abbrev names : List ℕ
  names = promised g.node g.count

  getD_named : (l : List ℕ) (e : ℕ) (d : ℕ → ℕ → Bool) → e < length l
      → get_or (map (meets g.table g.node) l ++ more) e d ≡ meets g.table g.node (get_or l e 0)
  getD_named [] e d h = absurd (omega arith)
  getD_named (x ∷ l) zero d h = refl
  getD_named (x ∷ l) (suc e) d h = getD_named l e d (omega arith)

  named_promise : (e x : ℕ) → e < length names → get_or names e 0 ≡ x → Promise g e x
  unfolding met
  named_promise e x h p s b =
      rw begins (rw (getD_named names e (λ s b. false) h) (ap (λ (y : ℕ). meets g.table g.node y s b) p))

  top_counts : top g ≡ length names + length more
  unfolding top
  top_counts = rw begins (rw length-append (rw length-map))

  -- each node's promise is listed, under its number among the promised nodes
  pub listed_from_the_first : Listed g
  listed_from_the_first =
      record {
        promise = λ x l h. length (promised g.node x);
        listed = λ x l h. omega (arith, top_counts, (numbered 7 g.node g.count x l h).within);
        is = λ x l h.
            let n = numbered 7 g.node g.count x l h in
            named_promise (length (promised g.node x)) x n.within n.entry;
      }

  -- promise e is some node's
  pub promise_is : (e : ℕ) → e < length (promised g.node g.count)
      → (x : ℕ) × (x < g.count) × (7 ≤ (g.node x).operator) × Promise g e x
  promise_is e h = go (numbered_entry 7 g.node g.count e h)
    where
      go : (x : ℕ) × Numbered 7 g.node g.count x e → (x : ℕ) × (x < g.count) × (7 ≤ (g.node x).operator) × Promise g e x
      go (x, n) = (x, n.below, n.reaches, named_promise e x n.within n.entry)

module _ (table : Table) (node : ℕ → Node) (count : ℕ) where
  begins_with_itself : (published table node count).promises ≡ map (meets table node) (promised node count) ++ []
  begins_with_itself = sym (append-nil (map (meets table node) (promised node count)))

  pub published_listed : Listed (published table node count)
  published_listed = listed_from_the_first (published table node count) [] begins_with_itself

  -- E counts the nodes with operators 7 to 11
  pub published_top : top (published table node count) ≡ length (promised node count)
  unfolding top
  published_top = length-map (promised node count) (meets table node)

  pub published_promise : (e : ℕ) → e < top (published table node count)
      → (x : ℕ) × (x < count) × (7 ≤ (node x).operator) × Promise (published table node count) e x
  published_promise e h =
      promise_is (published table node count) [] begins_with_itself e (subst (λ (n : ℕ). e < n) published_top h)
