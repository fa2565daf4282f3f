-- `search::turns::inner_turn` meets its contract: what the scan says of the inner top is one of the machine's turns. Assumes nothing.
use Prim.Native.Nat.{ℕ}
use native.Mathlib.Omega.{arith}
use mathlib.Core.List.{List}
use Rattle.workspace.proofs.ViewsIn.{InnerIn}
use Rattle.workspace.proofs.TurnsIn.{coded_paints}
use Rattle.workspace.proofs.InnerTurnsIn.{inner_topped, inner_met, InnerAdvanced, inner_advanced, inner_back}
use Rattle.scans.specs.Cases.{OfCase}
use Rattle.search.proofs.turns.inner_turn.Goals as goal
use Rattle.search.proofs.turns.inner_turn.Goals.{Else-colour_of}

pub scan_top-requires : goal.scan_top-requires
scan_top-requires c =
    let p = c.requires.inside in
    (p.0, inner_topped p.0 p.5 c.requires.deep)

-- ---- where a candidate is found

pub colour_of-requires : goal.colour_of-requires
colour_of-requires c =
    let p = c.requires.inside in
    let topped = inner_topped p.0 p.5 c.requires.deep in
    coded_paints p.0 (omega (arith, p.5.at.lent)) (c.in-Some.ensures.coded p.0 topped)

pub returns-then-colour_of-clause-turned : goal.returns-then-colour_of-clause-turned
returns-then-colour_of-clause-turned c x r w d first n =
    let topped = inner_topped x n c.requires.deep in
    inner_met x n c.requires.deep (c.in-Some.ensures.coded x topped) (c.in-Some.ensures.scanned x topped) (rw c.colour_of.ensures at c.if-colour_of.true)

-- and where it is not cyan, the search goes on to it

advanced : (c : Else-colour_of) (x : OfCase c.args.setting.now) (r w d : ℕ) (first : List ℕ)
    → InnerIn x r w d first c.args.workspace.now c.args.depth
    → InnerAdvanced x r w d first c.args.workspace.now c.args.depth c.in-Some.found.cursor c.in-Some.found.code
advanced c x r w d first n =
    let topped = inner_topped x n c.requires.deep in
    inner_advanced x n c.requires.deep (c.in-Some.ensures.coded x topped) (c.in-Some.ensures.scanned x topped) (rw c.colour_of.ensures at c.if-colour_of.false)

pub advance-requires : goal.advance-requires
advance-requires c =
    let p = c.requires.inside in
    (advanced (goal.at.advance-requires c).Else-colour_of p.0 _ _ _ _ p.5).asked

pub returns-else-colour_of-clause-kept : goal.returns-else-colour_of-clause-kept
returns-else-colour_of-clause-kept c =
    let p = c.requires.inside in
    rw c.advance.ensures (advanced (goal.at.returns-else-colour_of-clause-kept c).Else-colour_of p.0 _ _ _ _ p.5).kept

pub returns-else-colour_of-clause-turned : goal.returns-else-colour_of-clause-turned
returns-else-colour_of-clause-turned c x r w d first n =
    rw c.advance.ensures (advanced (goal.at.returns-else-colour_of-clause-turned c).Else-colour_of x r w d first n).on

-- ---- where nothing is found

pub returns-in-None-clause-turned : goal.returns-in-None-clause-turned
returns-in-None-clause-turned c x r w d first n =
    inner_back x n c.requires.deep (c.in-None.ensures.scanned x (inner_topped x n c.requires.deep))
