-- Words for the contracts between the parts of the search: that what they go by is read from one admitted case, and what a scan of it reads.
-- No promise of an entry rests on them.
use Prim.Native.Nat.{ℕ}
use mathlib.Core.List.{List}
use lib.ListN.{get_or}
use Rattle.workspace.proofs.Setting.{Setting as CaseSetting}
use Rattle.workspace.proofs.Roots.{Rooting}
use Rattle.workspace.proofs.Scanning.{index_in, Line, line_of}
use Rattle.graph.proofs.Machine.{white, blue, cyan, red}
use Rattle.scans.specs.declared.Cursors.{Cursors}
use Rattle.scans.specs.declared.Setting.{Setting}
use Rattle.scans.specs.declared.places.Colour.{Colour}
use Rattle.scans.specs.declared.places.Colour.TheVariants.{White, Blue, Cyan, Red}
use Rattle.scans.specs.declared.places.Place.{Place}
use Rattle.scans.specs.declared.roots.Roots.{Roots}

abbrev pub OfCase : Setting → Type 0
OfCase s = CaseSetting s.edges.now s.lanes.now s.starts.now s.sizes.guesses s.sizes.ones s.sizes.top s.sizes.places

abbrev pub RootsOfCase : Roots → Type 0
RootsOfCase r = Rooting r.states.now r.rows.now r.last r.guesses

-- a colour as the workspace has it
abbrev pub shade : Colour → ℕ
shade White = white
shade Blue = blue
shade Cyan = cyan
shade Red = red

-- where the colour of a place lies, but with the bits j
abbrev pub index_with : Setting → Place → ℕ → ℕ
index_with s p j = index_in s.sizes.guesses s.sizes.top p.state p.waiting j

abbrev pub colour_with : Setting → List ℕ → Place → ℕ → ℕ
colour_with s ws p j = get_or ws (index_with s p j) 0

-- the cursors of a place
abbrev pub line : Setting → Cursors → Line
line s at =
    line_of s.edges.now s.lanes.now s.sizes.guesses s.sizes.ones s.sizes.top at.place.state at.place.bits at.next at.first
