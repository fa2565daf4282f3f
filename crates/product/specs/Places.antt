-- Places of the product and their numbers.
use Rattle.std.specs.Prelude.{ℕ, ◌+◌, ◌*◌, ◌/◌, ◌%◌, ◌^◌}

-- "A place is a state, a truth bit for each temporal node, and a waiting number from 0 to E": bit t of `bits` is the truth of
-- temporal node number t, "the lowest as the lowest bit".
pub record Place : Type 0 where
  pub state : ℕ
  pub bits : ℕ
  pub waiting : ℕ

-- "P = S · 2^T · (E+1)"
unfoldable pub places : ℕ → ℕ → ℕ → ℕ
places S T E = S * 2 ^ T * (E + 1)

-- a place's number: "by state, then bits, then waiting number"
unfoldable pub number_of : ℕ → ℕ → Place → ℕ
number_of T E p = (p.state * 2 ^ T + p.bits) * (E + 1) + p.waiting

-- the place that has this number
unfoldable pub place_of : ℕ → ℕ → ℕ → Place
place_of T E x =
    record { state = x / (E + 1) / 2 ^ T; bits = x / (E + 1) % 2 ^ T; waiting = x % (E + 1) }
