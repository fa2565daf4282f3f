-- What the bench program prints: 01, "The night update, byte for byte".
use Rattle.std.specs.Prelude.{ℕ, zero, suc, ◌+◌, ◌/◌, ◌%◌, ◌≤◌, ◌<◌, cond, List, [], ◌∷◌, ◌++◌, ◌≡◌, ltb, length, get_or, drop}
use Prim.Native.Char.{code}
use Prim.Native.String.{String, [] as none, ◌∷◌ as ◌then◌}

-- the bytes of a text in ASCII
abbrev pub bytes : String → List ℕ
bytes none = []
bytes (c then text) = code c ∷ bytes text

-- a number in decimal, with no leading zero: its last digit, after the digits of its tenth unless it is below ten. A number has fewer tenths
-- than it counts, so that the steps never run out.
unfoldable pub digits_in : ℕ → ℕ → List ℕ
digits_in zero n = []
digits_in (suc steps) n = cond (ltb n 10) [] (digits_in steps (n / 10)) ++ ((48 + n % 10) ∷ [])

unfoldable pub digits : ℕ → List ℕ
digits n = digits_in (suc n) n

-- "each state is preceded by one space"
unfoldable pub states_text : List ℕ → List ℕ
states_text [] = []
states_text (s ∷ states) = bytes " " ++ digits s ++ states_text states

-- "An empty stem prints the word alone", "every line ends in a line feed"
unfoldable pub violated_text : List ℕ → List ℕ → List ℕ
violated_text stem loop = bytes "violated\nstem" ++ states_text stem ++ bytes "\nloop" ++ states_text loop ++ bytes "\n"

-- "Other verdicts are one line: `holds`, or `refused 23 at 2`"
unfoldable pub holds_text : List ℕ
holds_text = bytes "holds\n"

unfoldable pub refused_text : ℕ → ℕ → List ℕ
refused_text number place = bytes "refused " ++ digits number ++ bytes " at " ++ digits place ++ bytes "\n"

-- what the whole text leaves: its bytes, `filled` of them, and after them what stood there before
pub record Printed (text before after : List ℕ) (filled : ℕ) : Type 0 where
  pub stored : after ≡ text ++ drop filled before
  pub counts : filled ≡ length text

-- a run that fits the longest text: at most 10,240 states of at most two digits
pub record Shown (run : List ℕ) : Type 0 where
  pub few : length run ≤ 10240
  pub states : (i : ℕ) → i < length run → get_or run i 0 < 64
