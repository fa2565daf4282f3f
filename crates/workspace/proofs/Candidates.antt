-- What the arrays of a setting say of a place's candidates: the start of its edges, its successors' waiting number, and that a cursor
-- has a candidate exactly where it lies below the end and its bits fit. Assumes nothing.
use Prim.Native.Nat.{ℕ, zero, suc, ◌+◌, ◌-◌, ◌*◌, ◌/◌, ◌%◌, ◌^◌, ◌≤◌, ◌<◌}
use native.Mathlib.Omega.{arith}
use native.Mathlib.Numerals.{add-one}
use native.Mathlib.Decide.{dec_lt}
use mathlib.Core.Path.{◌≡◌, refl, sym, ap, ◌∙◌}
use mathlib.Core.Bool.{Bool, true, false, cond, true≢false}
use mathlib.Core.List.{List, [], ◌∷◌, map}
use lib.Dec.{ltb}
use lib.ListN.{length, get_or}
use lib.Pow.{ones_lt}
use borrow.Author.Tests.{ltb-true}
use Rattle.bits.specs.Bits.{bit}
use Rattle.bits.proofs.Bit.{bit_high}
use Rattle.bits.proofs.Words.{bit-ones}
use Rattle.meaning.specs.Table.{Table, Node}
use Rattle.reading.specs.Parts.{table_of, edge_count, to_of, node_count, node_of, eventualities}
use Rattle.product.specs.Product.{promised, meets, width, met, next, numbering}
use Rattle.product.proofs.Promises.{published_top}
use Rattle.product.proofs.Steps.{successor↔tests}
use Rattle.workspace.proofs.Setting.{product_of, start_of, edge_at, candidate, decoded, Coded, Setting}
use Rattle.workspace.proofs.Case.{width_is, top_is as top_counts, Leads, start_within}
use Rattle.workspace.proofs.Edges.{start_is, edge_leaves, edge_there}
use Rattle.workspace.proofs.Scanning.{next_in, cursors_in, Line, line_of, to_at, fits_at, index_at}
use Rattle.workspace.proofs.Fitting.{Carried, fitting_keeps, carried_agree, agree_carried}

-- promise e is that of the node that entry e of the promised nodes names
met_named : (table : Table) (node : ℕ → Node) (names : List ℕ) (e : ℕ) (d : ℕ → ℕ → Bool) → e < length names
    → get_or (map (meets table node) names) e d ≡ meets table node (get_or names e 0)
met_named table node [] e d h = absurd (omega arith)
met_named table node (x ∷ names) zero d h = refl
met_named table node (x ∷ names) (suc e) d h = met_named table node names e d (omega arith)

-- what the end of the cursors says
pub end_open : (lanes : List ℕ) (edges s b a : ℕ) → a < cursors_in lanes edges s b
    → (bit (get_or lanes (s * 16 + 12) 0) b ≡ false) × (a < edges * 16)
end_open lanes edges s b a h = go (bit (get_or lanes (s * 16 + 12) 0) b) h
  where
    go : (v : Bool) → a < cond v 0 (edges * 16) → (v ≡ false) × (a < edges * 16)
    go true l = absurd (omega arith)
    go false l = (refl, l)

module _ {edges lanes starts : List ℕ} {guesses ones top' size : ℕ} (c : Setting edges lanes starts guesses ones top' size) where
  pub start_at : (s : ℕ) → s ≤ c.parts.states → get_or starts s 0 ≡ start_of c.parts.edge_list s
  start_at s h =
      let is = rw c.edges_are at c.starts_are in
      start_is c.parts c.admitted s (get_or starts s 0) (is.within s h) (λ e l. is.lower s e h l) (λ e l m. is.higher s e h l m)

  -- the waiting number that the lanes give
  pub next_is : (s b w : ℕ) → s < c.parts.states → b < 16
      → next_in lanes top' s b w ≡ next (product_of c.parts) (record { state = s; bits = b; waiting = w })
  unfolding next met
  next_is s b w h l = rw (c.top_is, top_counts c.parts c.admitted) (go (ltb w (eventualities c.parts)) refl)
    where
      go : (v : Bool) → ltb w (eventualities c.parts) ≡ v
          → cond v (cond (bit (get_or lanes (s * 16 + 8 + w) 0) b) (w + 1) w) 0
          ≡ cond v (cond (met (product_of c.parts) w s b) (suc w) w) 0
      go false e = refl
      go true e =
          let node = node_of c.parts.node_list in
          let count = node_count c.parts.node_list in
          let k : w < length (promised node count) =
          omega (arith, ltb-true w (eventualities c.parts) e, top_counts c.parts c.admitted, published_top (table_of c.parts) node count) in
          let same = c.lanes_are.met w s b k h l in
          let named = ap (λ (f : ℕ → ℕ → Bool). f s b) (met_named (table_of c.parts) node (promised node count) w (λ s b. false) k) in
          rw (same, named, add-one w)

  module _ (code : ℕ) (is : Coded c.parts code) where
    -- the cursors of the code's place, and where they end
    abbrev pub line_here : Line
    line_here =
        line_of edges lanes guesses ones top' (code / 128) (code / 8 % 16) (next_in lanes top' (code / 128) (code / 8 % 16) (code % 8))
        (get_or starts (code / 128) 0)

    abbrev pub end_here : ℕ
    end_here = cursors_in lanes (get_or starts (code / 128 + 1) 0 - get_or starts (code / 128) 0) (code / 128) (code / 8 % 16)

    pub first_is : get_or starts (code / 128) 0 ≡ start_of c.parts.edge_list (code / 128)
    first_is = start_at (code / 128) (omega (arith, is.state_below))

    pub after_is : get_or starts (code / 128 + 1) 0 ≡ start_of c.parts.edge_list (suc (code / 128))
    after_is = ap (λ (s : ℕ). get_or starts s 0) (add-one (code / 128)) ∙ start_at (suc (code / 128)) is.state_below

    pub to_is : (a : ℕ) → to_at line_here a ≡ to_of c.parts.edge_list (edge_at c.parts (decoded code) a)
    to_is a = rw (c.edges_are, first_is)

    pub next_here : line_here.next ≡ next (product_of c.parts) (decoded code)
    next_here = next_is (code / 128) (code / 8 % 16) (code % 8) is.state_below (omega arith)

    pub index_is : (a : ℕ) → index_at line_here a ≡ numbering (product_of c.parts) (candidate c.parts (decoded code) a)
    unfolding numbering Rattle.product.specs.Places.number_of
    index_is a =
        rw (next_here, to_is a, c.guesses_are, c.top_is, width_is c.parts c.admitted, top_counts c.parts c.admitted)

    few : width (product_of c.parts) ≤ 4
    few = omega (arith, width_is c.parts c.admitted, c.admitted.few_temporals)

    -- the state that the edge at cursor a enters
    abbrev there : ℕ → ℕ
    there a = to_of c.parts.edge_list (edge_at c.parts (decoded code) a)

    -- bits fit only below 2 to the power T
    pub bits_low : (j : ℕ) → bit ones j ≡ true → j < guesses
    bits_low j e = go (dec_lt j guesses)
      where
        go : Dec (j < guesses) → j < guesses
        go (yes l) = l
        go (no n) =
            absurd (true≢false (sym e ∙ ap (λ (x : ℕ). bit x j) c.ones_are ∙ bit_high (2 ^ guesses - 1) guesses j (ones_lt guesses) (omega arith)))

    -- a cursor below the end that fits has a candidate
    pub line_leads : (a : ℕ) → a < end_here → fits_at line_here a ≡ true → Leads c.parts (decoded code) a (index_at line_here a)
    line_leads a h f =
        record {
          edge_below = below;
          follows =
              (successor↔tests (product_of c.parts) (decoded code) (candidate c.parts (decoded code) a)).1 (
                rw (edge_leaves c.parts c.admitted (code / 128) e (omega arith) below) at (edge_there c.parts.edge_list e e_below),
                rw (width_is c.parts c.admitted) (omega (arith, c.guesses_are, bits_low (a % 16) kept.0)),
                carried_agree c.parts lanes c.lanes_are few (code / 128) (code / 8 % 16) (there a) (a % 16) is.state_below (omega arith)
                    (c.admitted.to_states e e_below) small (code % 8) (next (product_of c.parts) (decoded code)) opens.0 kept.1,
                refl,
              );
          numbered_so = sym (index_is a);
        }
      where
        e : ℕ
        e = edge_at c.parts (decoded code) a

        small : a % 16 < 16
        small = omega arith

        opens : (bit (get_or lanes (code / 128 * 16 + 12) 0) (code / 8 % 16) ≡ false)
            × (a < (get_or starts (code / 128 + 1) 0 - get_or starts (code / 128) 0) * 16)
        opens = end_open lanes (get_or starts (code / 128 + 1) 0 - get_or starts (code / 128) 0) (code / 128) (code / 8 % 16) a h

        below : e < start_of c.parts.edge_list (suc (code / 128))
        below = omega (arith, opens.1, first_is, after_is)

        e_below : e < edge_count c.parts.edge_list
        e_below = omega (arith, below, start_within c.parts.edge_list (suc (code / 128)))

        kept : (bit ones (a % 16) ≡ true)
            × ((t : ℕ) → t < 4 → Carried lanes c.lanes_are.words (code / 128) (code / 8 % 16) (there a) (a % 16) small t)
        kept =
            (fitting_keeps lanes c.lanes_are.words (code / 128) (code / 8 % 16) (there a) (a % 16) small ones).0 (rw (to_is a) at f)

    -- and no other has one
    pub record Lies (a y : ℕ) : Type 0 where
      pub low : a < end_here
      pub fits : fits_at line_here a ≡ true
      pub lies : index_at line_here a ≡ y

    pub leads_line : (a y : ℕ) → Leads c.parts (decoded code) a y → Lies a y
    leads_line a y l =
        record {
          low = rw carried.0 (omega (arith, l.edge_below, first_is, after_is));
          fits =
              rw (to_is a)
              ((fitting_keeps lanes c.lanes_are.words (code / 128) (code / 8 % 16) (there a) (a % 16) small ones).1 (set, carried.1));
          lies = index_is a ∙ l.numbered_so;
        }
      where
        small : a % 16 < 16
        small = omega arith

        e_below : edge_at c.parts (decoded code) a < edge_count c.parts.edge_list
        e_below = omega (arith, l.edge_below, start_within c.parts.edge_list (suc (code / 128)))

        carried : (bit (get_or lanes (code / 128 * 16 + 12) 0) (code / 8 % 16) ≡ false)
            × ((t : ℕ) → t < 4 → Carried lanes c.lanes_are.words (code / 128) (code / 8 % 16) (there a) (a % 16) small t)
        carried =
            agree_carried c.parts lanes c.lanes_are few (code / 128) (code / 8 % 16) (there a) (a % 16) is.state_below (omega arith)
            (c.admitted.to_states _ e_below) small (code % 8) (next (product_of c.parts) (decoded code))
            ((successor↔tests (product_of c.parts) (decoded code) (candidate c.parts (decoded code) a)).0 l.follows).2

        set : bit ones (a % 16) ≡ true
        set =
            let low = rw (width_is c.parts c.admitted) at
            ((successor↔tests (product_of c.parts) (decoded code) (candidate c.parts (decoded code) a)).0 l.follows).1 in
            ap (λ (x : ℕ). bit x (a % 16)) c.ones_are ∙ bit-ones guesses (a % 16) (omega (arith, c.guesses_are))
