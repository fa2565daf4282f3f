-- A turn of a scan at one edge of a row: where its candidates' colours lie, and what it has found when it stops. Assumes nothing.
use Prim.Native.Nat.{ℕ, ◌+◌, ◌*◌, ◌/◌, ◌%◌, ◌≤◌, ◌<◌}
use native.Mathlib.Omega.{arith}
use native.Mathlib.Decide.{dec_lt}
use mathlib.Core.Path.{◌≡◌, sym, ap, ◌∙◌, subst}
use mathlib.Core.Bool.{true}
use mathlib.Core.List.{List}
use lib.ListN.{length, get_or}
use Rattle.bits.specs.Bits.{bit}
use Rattle.reading.specs.Parts.{to_of}
use Rattle.workspace.proofs.Setting.{code_of}
use Rattle.workspace.proofs.Scanning.{fitting_in, LowestUnder, index_in, Line, fits_at, index_at, Passed, Stops, Scannable}

module _ (l : Line) (ws : List ℕ) (limit end cursor : ℕ) (of : Scannable l ws end) where
  -- a turn at the edge with this number, which enters state s, and with the fitting lane `fit`, from these bits on
  module _ (edge bits s fit : ℕ) (low : edge < end / 16) (few : bits < 16) (s_is : s ≡ to_of l.edges (l.first + edge))
      (fit_is : fit ≡ fitting_in l.lanes l.ones l.state l.bits s) where
    abbrev colour : ℕ → ℕ
    colour j = get_or ws (index_in l.guesses l.top s l.next j) 0

    -- bit j of the fitting lane speaks of the cursor of this edge and the bits j
    fits_is : (a : ℕ) → a / 16 ≡ edge → fits_at l a ≡ bit fit (a % 16)
    fits_is a e = rw (e, fit_is, s_is)

    index_is : (a : ℕ) → a / 16 ≡ edge → index_at l a ≡ index_in l.guesses l.top s l.next (a % 16)
    index_is a e = rw (e, s_is)

    module _ (j : ℕ) (h : j < 16) where
      edge_at : (edge * 16 + j) / 16 ≡ edge
      edge_at = omega arith

      bits_at : (edge * 16 + j) % 16 ≡ j
      bits_at = omega arith

      fits_at_lem : fits_at l (edge * 16 + j) ≡ bit fit j
      fits_at_lem = fits_is (edge * 16 + j) edge_at ∙ ap (bit fit) bits_at

      index_at_lem : index_at l (edge * 16 + j) ≡ index_in l.guesses l.top s l.next j
      index_at_lem = index_is (edge * 16 + j) edge_at ∙ ap (index_in l.guesses l.top s l.next) bits_at

      low_at : edge * 16 + j < end
      low_at = omega arith

    pub turn_inside : (j : ℕ) → j < 16 → bit fit j ≡ true → index_in l.guesses l.top s l.next j < length ws
    turn_inside j h e =
        subst (λ (i : ℕ). i < length ws) (index_at_lem j h) (of.inside (edge * 16 + j) (low_at j h) (fits_at_lem j h ∙ e))

    module _ (past : Passed l ws limit cursor (edge * 16 + bits)) (r : ℕ) (u : LowestUnder fit (λ j. colour j) limit bits r) where
      pub turn_passed : (e : ℕ) → e ≤ edge * 16 + r → e ≤ edge * 16 + 16 → Passed l ws limit cursor e
      turn_passed e by_r by_edge = record { passes = λ a from under f. go a from under f (dec_lt a (edge * 16 + bits)) }
        where
          go : (a : ℕ) → cursor ≤ a → a < e → fits_at l a ≡ true → Dec (a < edge * 16 + bits) → limit ≤ get_or ws (index_at l a) 0
          go a from under f (yes before) = past.passes a from before f
          go a from under f (no n) =
              let here : a / 16 ≡ edge = omega arith in
              rw (index_is a here) (u.spared (a % 16) (omega arith) (omega arith) (sym (fits_is a here) ∙ f))

      pub turn_stops : r < 16 → cursor ≤ edge * 16 + bits → Stops l ws limit end cursor (edge * 16 + r) (code_of s r l.next)
      turn_stops h from =
          record {
            from = omega (arith, u.from);
            low = low_at r h;
            fits = fits_at_lem r h ∙ u.set;
            is = rw (edge_at r h, bits_at r h, s_is);
            under = rw (index_at_lem r h) u.under;
            before = turn_passed (edge * 16 + r) (omega arith) (omega arith);
          }
