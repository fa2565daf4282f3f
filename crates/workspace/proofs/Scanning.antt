-- What a scan reads and answers, on the arrays themselves: contracts of the code cite these definitions, and `Fitting` and `Found`
-- show that they speak of the case's graph.
use Prim.Native.Nat.{ℕ, zero, suc, ◌+◌, ◌-◌, ◌*◌, ◌/◌, ◌%◌, ◌≤◌, ◌<◌}
use mathlib.Core.Path.{◌≡◌}
use mathlib.Core.Bool.{Bool, true, false, cond}
use mathlib.Core.List.{List}
use lib.Bits.{bit_and}
use lib.Dec.{ltb}
use lib.ListN.{length, get_or}
use Rattle.bits.specs.Bits.{bit}
use Rattle.reading.specs.Parts.{to_of}
use Rattle.workspace.proofs.Setting.{code_of}

-- the waiting number after a place of state s, bits b and waiting number w
abbrev pub next_in : List ℕ → ℕ → ℕ → ℕ → ℕ → ℕ
next_in lanes top s b w =
    cond (ltb w top) (cond (bit (get_or lanes (s * 16 + 8 + w) 0) b) (w + 1) w) 0

-- the cursors of a place: 16 for each edge of its state, or none where nothing follows
abbrev pub cursors_in : List ℕ → ℕ → ℕ → ℕ → ℕ
cursors_in lanes edges s b = cond (bit (get_or lanes (s * 16 + 12) 0) b) 0 (edges * 16)

-- the cursors of the place of a code: its state and bits, its successors' waiting number, its first edge, and where its cursors end
pub record RowIn (lanes starts : List ℕ) (top code state bits next first end : ℕ) : Type 0 where
  pub state_is : state ≡ code / 128
  pub bits_is : bits ≡ code / 8 % 16
  pub next_is : next ≡ next_in lanes top (code / 128) (code / 8 % 16) (code % 8)
  pub first_is : first ≡ get_or starts (code / 128) 0
  pub end_is : end ≡ cursors_in lanes (get_or starts (code / 128 + 1) 0 - get_or starts (code / 128) 0) (code / 128) (code / 8 % 16)

-- the bits that fit, cut down by temporal node number t: where the place (s, b) needs it, it is carried on as it is
unfoldable pub narrowed_in : List ℕ → ℕ → ℕ → ℕ → ℕ → ℕ → ℕ
narrowed_in lanes fit s b next t =
    let lane = get_or lanes (next * 16 + 4 + t) 0 in
    cond (bit (get_or lanes (s * 16 + t) 0) b) (bit_and fit (cond (bit b t) lane (65535 - lane))) fit

-- the same, by each of the first n temporal nodes
abbrev pub narrowed_by : List ℕ → ℕ → ℕ → ℕ → ℕ → ℕ → ℕ
narrowed_by lanes ones s b next zero = ones
narrowed_by lanes ones s b next (suc n) = narrowed_in lanes (narrowed_by lanes ones s b next n) s b next n

-- the bits with which state `next` follows the place (s, b), as a lane
unfoldable pub fitting_in : List ℕ → ℕ → ℕ → ℕ → ℕ → ℕ
fitting_in lanes ones s b next = narrowed_by lanes ones s b next 4

-- no bit of a lane from b to below e is set
abbrev pub Clear : ℕ → ℕ → ℕ → Type 0
Clear lane b e = (j : ℕ) → b ≤ j → j < e → bit lane j ≡ false

-- r is the lowest bit from b on that is set in a lane
pub record LowestSet (lane b r : ℕ) : Type 0 where
  pub from : b ≤ r
  pub low : r < 16
  pub clear : Clear lane b r
  pub set : bit lane r ≡ true

-- each bit of a lane from b to below e that is set has a colour of the limit or above
abbrev pub Spared : ℕ → (ℕ → ℕ) → ℕ → ℕ → ℕ → Type 0
Spared lane colour limit b e = (j : ℕ) → b ≤ j → j < e → bit lane j ≡ true → limit ≤ colour j

-- r is the lowest bit from b on that is set in a lane and has a colour below the limit
pub record LowestUnder (lane : ℕ) (colour : ℕ → ℕ) (limit b r : ℕ) : Type 0 where
  pub from : b ≤ r
  pub spared : Spared lane colour limit b r
  pub set : bit lane r ≡ true
  pub under : colour r < limit

-- where the colour of the place of state s, bits j and waiting number `next` lies
abbrev pub index_in : ℕ → ℕ → ℕ → ℕ → ℕ → ℕ
index_in guesses top s next j = (s * guesses + j) * (top + 1) + next

-- the cursors of one place: its state and bits, its successors' waiting number and its first edge, with what the code reads
pub record Line : Type 0 where
  pub edges : List ℕ
  pub lanes : List ℕ
  pub guesses : ℕ
  pub ones : ℕ
  pub top : ℕ
  pub state : ℕ
  pub bits : ℕ
  pub next : ℕ
  pub first : ℕ

abbrev pub line_of : List ℕ → List ℕ → ℕ → ℕ → ℕ → ℕ → ℕ → ℕ → ℕ → Line
line_of edges lanes guesses ones top state bits next first =
    record { edges = edges; lanes = lanes; guesses = guesses; ones = ones; top = top; state = state; bits = bits; next = next; first = first }

module _ (l : Line) where
  -- at cursor a: the successor's state, whether its bits fit, and where its colour lies
  abbrev pub to_at : ℕ → ℕ
  to_at a = to_of l.edges (l.first + a / 16)

  abbrev pub fits_at : ℕ → Bool
  fits_at a = bit (fitting_in l.lanes l.ones l.state l.bits (to_at a)) (a % 16)

  abbrev pub index_at : ℕ → ℕ
  index_at a = index_in l.guesses l.top (to_at a) l.next (a % 16)

  -- every cursor from c to below e that fits has a colour of the limit or above
  pub record Passed (ws : List ℕ) (limit c e : ℕ) : Type 0 where
    pub passes : (a : ℕ) → c ≤ a → a < e → fits_at a ≡ true → limit ≤ get_or ws (index_at a) 0

  -- e is the lowest cursor from c on that fits and has a colour below the limit, and `code` the place there
  pub record Stops (ws : List ℕ) (limit end c e code : ℕ) : Type 0 where
    pub from : c ≤ e
    pub low : e < end
    pub fits : fits_at e ≡ true
    pub is : code ≡ code_of (to_at e) (e % 16) l.next
    pub under : get_or ws (index_at e) 0 < limit
    pub before : Passed ws limit c e

  -- every index of a scan lies in its array
  pub record Scannable (ws : List ℕ) (end : ℕ) : Type 0 where
    pub next_below : l.next < 8
    pub end_below : end ≤ 8192
    pub end_whole : end % 16 ≡ 0
    pub edges_lie : (e : ℕ) → e < end / 16 → 2 * (l.first + e) + 1 < length l.edges
    pub to_below : (e : ℕ) → e < end / 16 → to_of l.edges (l.first + e) < 64
    pub inside : (a : ℕ) → a < end → fits_at a ≡ true → index_at a < length ws
