-- What the stores of a turn are to the parts of the workspace: an advance of the stack that starts at `base`, and a paint. Assumes nothing.
use Prim.Native.Nat.{ℕ, suc, ◌+◌, ◌*◌, ◌≤◌, ◌<◌}
use native.Mathlib.Omega.{arith}
use native.Mathlib.Decide.{dec_lt}
use mathlib.Core.Path.{◌≡◌, sym, ap, ◌∙◌, subst}
use mathlib.Core.List.{List, [], ◌∷◌, map}
use lib.ListN.{length, set, length-set, length-map}
use lib.Seq.{take-set-lt, take-set-le, get_or-set_same, get_or-set_other}
use Rattle.graph.proofs.Graph.{◌!◌, Graph}
use Rattle.graph.proofs.Machine.{push, onward}
use Rattle.graph.proofs.Parts.{part, length_part, part_at, part_set, part_before, part_behind, part_push, places_at, places_push}
use Rattle.workspace.proofs.Views.{colours, stack_at, cursors_at, Kept, kept_same, kept_set}

-- ---- a stack's length and top

module _ (place : ℕ → ℕ) (base depth : ℕ) (ws : List ℕ) (lies : base + depth ≤ length ws) where
  pub stack_length : length (stack_at place base depth ws) ≡ depth
  stack_length = length-map (part base depth ws) place ∙ length_part base depth ws lies

  pub stack_at_lem : (i : ℕ) → i < depth → stack_at place base depth ws ! i ≡ place (ws ! (base + i))
  stack_at_lem i h =
      places_at place (part base depth ws) i (omega (arith, length_part base depth ws lies))
      ∙ ap place (part_at base depth ws i h)

-- ---- an advance: the top's cursor, the colour, the new top and its cursor

module _ (g : Graph) (place : ℕ → ℕ) (base d c code colour : ℕ) (ws : List ℕ) where
  abbrev passed : List ℕ
  passed = set ws (base + g.P + d) (c + 1)

  abbrev painted : List ℕ
  painted = set (set ws (base + g.P + d) (c + 1)) (place code) colour

  abbrev pushed : List ℕ
  pushed = set (set (set ws (base + g.P + d) (c + 1)) (place code) colour) (base + suc d) code

  abbrev pub advanced : List ℕ
  advanced =
      set (set (set (set ws (base + g.P + d) (c + 1)) (place code) colour) (base + suc d) code) (base + g.P + suc d) 0

  module _ (after : g.P ≤ base) (lies : base + g.P + g.P ≤ length ws) (small : suc d < g.P) (inside : place code < g.P) where
    pub colours_advanced : colours g advanced ≡ set (colours g ws) (place code) colour
    colours_advanced =
        let a : g.P ≤ base + g.P + d = omega arith in
        let b : g.P ≤ base + suc d = omega arith in
        let e : g.P ≤ base + g.P + suc d = omega arith in
        simp (take-set-lt, take-set-le)

    long : length painted ≡ length ws
    long = length-set passed (place code) colour ∙ length-set ws (base + g.P + d) (c + 1)

    longer : length pushed ≡ length ws
    longer = length-set painted (base + suc d) code ∙ long

    pub stack_advanced : stack_at place base (suc (suc d)) advanced ≡ push (stack_at place base (suc d) ws) (place code)
    stack_advanced =
        let a : base + suc (suc d) ≤ base + g.P + suc d = omega arith in
        let b : base + suc d < length painted = omega (arith, long) in
        let e : place code < base = omega arith in
        let h : base + suc d ≤ base + g.P + d = omega arith in
        simp (part_before, part_behind, part_push, places_push)

    pub cursors_advanced : cursors_at g base (suc (suc d)) advanced ≡ onward (cursors_at g base (suc d) ws) d c
    cursors_advanced =
        let a : place code < base + g.P = omega arith in
        let b : base + suc d < base + g.P = omega arith in
        let e : d < suc d = omega arith in
        let h : base + g.P + suc d < length pushed = omega (arith, longer) in
        simp (part_before, part_push, part_set)

    -- what lies behind the colours and before the stack
    pub before_advanced : (from n : ℕ) → g.P ≤ from → from + n ≤ base → part from n advanced ≡ part from n ws
    before_advanced from n h l =
        let a : from + n ≤ base + g.P + d = omega arith in
        let b : place code < from = omega arith in
        let e : from + n ≤ base + suc d = omega arith in
        let h : from + n ≤ base + g.P + suc d = omega arith in
        simp (part_before, part_behind)

    pub entry_advanced : (i : ℕ) → g.P ≤ i → i < base + suc d → advanced ! i ≡ ws ! i
    entry_advanced i h l =
        get_or-set_other pushed (base + g.P + suc d) i 0 0 (omega arith)
        ∙ get_or-set_other painted (base + suc d) i code 0 (omega arith)
        ∙ get_or-set_other passed (place code) i colour 0 (omega arith)
        ∙ get_or-set_other ws (base + g.P + d) i (c + 1) 0 (omega arith)

    pub top_advanced : advanced ! (base + suc d) ≡ code
    top_advanced =
        get_or-set_other pushed (base + g.P + suc d) (base + suc d) 0 0 (omega arith)
        ∙ get_or-set_same painted (base + suc d) code 0 (omega (arith, long))

    pub coded_advanced : (Code : ℕ → Type 0) → Code code → ((i : ℕ) → i < suc d → Code (ws ! (base + i)))
        → (i : ℕ) → i < suc (suc d) → Code (advanced ! (base + i))
    coded_advanced Code new old i h = go (dec_lt i (suc d))
      where
        go : Dec (i < suc d) → Code (advanced ! (base + i))
        go (yes l) = subst Code (sym (entry_advanced (base + i) (omega arith) (omega arith))) (old i l)
        go (no l) =
            let q : i ≡ suc d = omega arith in
            subst (λ (k : ℕ). Code (advanced ! (base + k))) (sym q) (subst Code (sym top_advanced) new)

    pub advanced_long : length advanced ≡ length ws
    advanced_long = length-set pushed (base + g.P + suc d) 0 ∙ longer

    pub advanced_kept : base ≤ 4 * g.P → Kept g.P ws advanced
    advanced_kept low =
        kept_set
        (kept_set (kept_set (kept_set (kept_same g.P ws) (base + g.P + d) (c + 1) (omega arith)) (place code) colour (omega arith)) (base + suc d) code (omega arith))
        (base + g.P + suc d) 0 (omega arith)

-- ---- a paint

module _ (g : Graph) (x colour : ℕ) (ws : List ℕ) (inside : x < g.P) where
  pub colours_painted : colours g (set ws x colour) ≡ set (colours g ws) x colour
  colours_painted = take-set-lt g.P ws x colour inside

  pub part_painted : (from n : ℕ) → g.P ≤ from → part from n (set ws x colour) ≡ part from n ws
  part_painted from n h = part_before from n ws x colour (omega arith)

  pub entry_painted : (i : ℕ) → g.P ≤ i → set ws x colour ! i ≡ ws ! i
  entry_painted i h = get_or-set_other ws x i colour 0 (omega arith)

-- ---- the first place of an empty stack: its code and its cursor

module _ (g : Graph) (place : ℕ → ℕ) (base code : ℕ) (ws : List ℕ) where
  abbrev pub begun : List ℕ
  begun = set (set ws base code) (base + g.P) 0

  module _ (lies : base + g.P + g.P ≤ length ws) (some : 1 ≤ g.P) where
    pub stack_begun : stack_at place base 1 begun ≡ place code ∷ []
    stack_begun =
        ap (map place)
        (part_behind base 1 (set ws base code) (base + g.P) 0 (omega arith)
        ∙ ap (λ (k : ℕ). part base 1 (set ws k code)) (let q : base ≡ base + 0 = omega arith in q)
        ∙ part_push base 0 ws code (omega arith))

    pub cursors_begun : cursors_at g base 1 begun ≡ 0 ∷ []
    cursors_begun =
        ap (λ (k : ℕ). part (base + g.P) 1 (set (set ws base code) k 0)) (let q : base + g.P ≡ base + g.P + 0 = omega arith in q)
        ∙ part_push (base + g.P) 0 (set ws base code) 0 (omega (arith, length-set ws base code))

    pub before_begun : (from n : ℕ) → from + n ≤ base → part from n begun ≡ part from n ws
    before_begun from n h =
        part_behind from n (set ws base code) (base + g.P) 0 (omega arith) ∙ part_behind from n ws base code h

    pub colours_begun : g.P ≤ base → colours g begun ≡ colours g ws
    colours_begun h = take-set-le g.P (set ws base code) (base + g.P) 0 (omega arith) ∙ take-set-le g.P ws base code h

    pub entry_begun : (i : ℕ) → i < base → begun ! i ≡ ws ! i
    entry_begun i h = get_or-set_other (set ws base code) (base + g.P) i 0 0 (omega arith) ∙ get_or-set_other ws base i code 0 (omega arith)

    pub top_begun : begun ! base ≡ code
    top_begun =
        get_or-set_other (set ws base code) (base + g.P) base 0 0 (omega arith) ∙ get_or-set_same ws base code 0 (omega arith)

    pub begun_long : length begun ≡ length ws
    begun_long = length-set (set ws base code) (base + g.P) 0 ∙ length-set ws base code
