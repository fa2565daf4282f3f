-- Laws of the text: parts that are added one behind the other are one part; a number's digits are those of its tenth and its last; a state's text
-- is at most three bytes. Assumes nothing.
use Rattle.std.proofs.Common.{ℕ, zero, suc, ◌+◌, ◌*◌, ◌/◌, ◌%◌, ◌^◌, ◌≤◌, ◌<◌, Bool, cond, List, [], ◌∷◌, ◌++◌, ◌≡◌, refl, ap, ◌∙◌, arith, length, get_or, take, append_assoc, append-nil, length-append, take-append-drop}
use Rattle.std.proofs.Math.Seq.{take_all}
use Rattle.std.proofs.lemmas.List.{take_more}
use Rattle.std.proofs.lemmas.List.Edits.{paste-paste}
use native.Mathlib.Decide.{dec_lt}
use native.Mathlib.Nat.{pow-suc}
use borrow.Author.Tests.{lt-ltb, le-ltb}
use Rattle.text.specs.Text.{digits_in, digits, states_text, refused_text, violated_text, Printed, Shown}
use Rattle.text.specs.Parts.{Adds}
use Rattle.text.specs.declared.Text.{Text}

-- two parts, one behind the other, are one part
pub adds_both : {a b : List ℕ} {x y z : Text} → Adds a x y → Adds b y z → Adds (a ++ b) x z
adds_both {a} {b} {x} {y} {z} p q =
    let joined = paste-paste x.out.now x.filled a b (length a) (length b) refl refl (omega arith) in
    record {
      stored = simp (length-append, q.stored, p.stored, p.filled) joined;
      filled = omega (arith, length-append a b);
      same_array = q.same_array ∙ p.same_array;
    }

-- a part that is added to nothing is the whole text
pub adds_printed : {text : List ℕ} {x z : Text} → x.filled ≡ 0 → Adds text x z → Printed text x.out.now z.out.now z.filled
adds_printed {text} {x} {z} empty w =
    record {
      stored = simp (w.stored, w.filled, empty, take_all (length text) text (omega arith));
      counts = omega arith;
    }

-- and so are five parts, one behind the other
pub five_printed : {a b c d e : List ℕ} {u v w x y z : Text} → u.filled ≡ 0
    → Adds a u v → Adds b v w → Adds c w x → Adds d x y → Adds e y z → Printed (a ++ b ++ c ++ d ++ e) u.out.now z.out.now z.filled
five_printed empty p q r s t = adds_printed empty (adds_both (adds_both (adds_both (adds_both p q) r) s) t)

-- what is filled lies within the array
pub printed_within : {text before after : List ℕ} {filled : ℕ} → Printed text before after filled → filled ≤ length after
printed_within {text} {before} {after} {filled} p = omega (arith, simp length-append at (ap length p.stored))

-- steps beyond the number change nothing
steps_enough : (f g n : ℕ) → n < f → n < g → digits_in f n ≡ digits_in g n
unfolding digits_in
steps_enough zero g n p q = elim p [ ]
steps_enough (suc f) zero n p q = elim q [ ]
steps_enough (suc f) (suc g) n p q = go (dec_lt n 10) (λ h. steps_enough f g (n / 10) (omega arith) (omega arith))
  where
    go : Dec (n < 10) → (10 ≤ n → digits_in f (n / 10) ≡ digits_in g (n / 10)) → digits_in (suc f) n ≡ digits_in (suc g) n
    go (yes h) tenth = rw (lt-ltb n 10 h)
    go (no h) tenth = rw (le-ltb n 10 (omega arith), tenth (omega arith))

pub digits_below_ten : (n : ℕ) → n < 10 → digits n ≡ (48 + n % 10) ∷ []
unfolding digits digits_in
digits_below_ten n h = rw (lt-ltb n 10 h)

pub digits_from_ten : (n : ℕ) → 10 ≤ n → digits n ≡ digits (n / 10) ++ ((48 + n % 10) ∷ [])
unfolding digits digits_in
digits_from_ten n h =
    ap (λ (b : Bool). cond b [] (digits_in n (n / 10)) ++ ((48 + n % 10) ∷ [])) (le-ltb n 10 h)
    ∙ ap (λ (l : List ℕ). l ++ ((48 + n % 10) ∷ [])) (steps_enough n (suc (n / 10)) (n / 10) (omega arith) (omega arith))

pub tenth_shorter : (n : ℕ) → 10 ≤ n → length (digits (n / 10)) + 1 ≡ length (digits n)
tenth_shorter n h = rw (digits_from_ten n h, length-append)

-- a number below 10 ^ (k + 1) has at most k + 1 digits
pub digits_few : (k n : ℕ) → n < 10 ^ suc k → length (digits n) ≤ suc k
digits_few zero n h = rw (digits_below_ten n h) (omega arith)
digits_few (suc k) n h = go (dec_lt n 10) (digits_few k (n / 10) (omega (arith, pow-suc 10 (suc k))))
  where
    go : Dec (n < 10) → length (digits (n / 10)) ≤ suc k → length (digits n) ≤ suc (suc k)
    go (yes small) tenth = rw (digits_below_ten n small) (omega arith)
    go (no large) tenth = rw (digits_from_ten n (omega arith), length-append) (omega arith)

pub word_digits : (n : ℕ) → n < 2 ^ 64 → length (digits n) ≤ 20
word_digits n h = digits_few 19 n (omega arith)

pub states_append : (a b : List ℕ) → states_text (a ++ b) ≡ states_text a ++ states_text b
unfolding states_text
states_append [] b = refl
states_append (s ∷ a) b = rw (states_append a b, append_assoc)

-- one state more: a space and its digits
pub states_more : (states : List ℕ) (i : ℕ) → i < length states → states_text (take (i + 1) states) ≡ states_text (take i states) ++ (32 ∷ []) ++ digits (get_or states i 0)
unfolding states_text
states_more states i h = rw (take_more states i 0 h, states_append) (simp (append-nil, append_assoc))

-- the states passed and the next take no more than all of them
pub states_room : (states : List ℕ) (i : ℕ) → i < length states → length (states_text (take i states)) + 1 + length (digits (get_or states i 0)) ≤ length (states_text states)
states_room states i h =
    let whole = ap (λ (l : List ℕ). length (states_text l)) (take-append-drop (i + 1) states) in
    omega (arith, simp (states_append, states_more states i h, length-append) at whole)

-- a state of two digits takes at most three bytes
pub states_short : (states : List ℕ) → ((i : ℕ) → i < length states → get_or states i 0 < 64) → length (states_text states) ≤ 3 * length states
unfolding states_text
states_short [] low = omega arith
states_short (s ∷ states) low =
    let first : s < 64 = low 0 (omega arith) in
    let few : length (digits s) ≤ 2 = digits_few 1 s (omega arith) in
    rw length-append (omega (arith, states_short states (λ i h. low (suc i) (omega arith))))

-- how long the texts are
pub refused_length : (number place : ℕ) → length (refused_text number place) ≡ 13 + length (digits number) + length (digits place)
unfolding refused_text
refused_length number place = simp length-append (omega arith)

pub violated_length : (stem loop : List ℕ) → length (violated_text stem loop) ≡ 19 + length (states_text stem) + length (states_text loop)
unfolding violated_text
violated_length stem loop = simp length-append (omega arith)

-- a run that can be shown fits the longest text
pub run_room : (stem loop : List ℕ) → Shown (stem ++ loop) → 19 + length (states_text stem) + length (states_text loop) ≤ 30739
run_room stem loop shown =
    let short = states_short (stem ++ loop) shown.states in
    omega (arith, length-append stem loop, simp (states_append, length-append) at short)

pub shown_fits : (stem loop : List ℕ) → Shown (stem ++ loop) → length (violated_text stem loop) ≤ 30739
shown_fits stem loop shown = omega (arith, violated_length stem loop, run_room stem loop shown)
