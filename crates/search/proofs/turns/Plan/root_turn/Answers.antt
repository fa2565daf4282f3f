-- `search::turns::Plan::root_turn` meets its contract: the place is searched from, or it is not white or not initial, and passed. Assumes nothing.
use Prim.Native.Nat.{◌<◌}
use native.Mathlib.Omega.{arith}
use mathlib.Core.Path.{sym, ◌∙◌}
use Rattle.workspace.proofs.ViewsIn.{OuterIn}
use Rattle.workspace.proofs.TurnsIn.{coded_paints}
use Rattle.workspace.proofs.RootTurnsIn.{Root, met_coded, met_root, met_coloured, met_other}
use Rattle.search.specs.Searching.{root_in, OneCase}
use Rattle.search.proofs.Roots.{state_there, tested, searched}
use Rattle.search.proofs.turns.Plan.root_turn.Goals as goal
use Rattle.search.proofs.turns.Plan.root_turn.Goals.{Then-colour_of, else-is_initial-via-then-is_initial+else-colour_of, else-is_initial-via-else-is_initial}

pub is_initial-requires : goal.is_initial-requires
is_initial-requires c =
    let p = c.requires.inside in
    (p.0.roots_are, state_there p.0 p.1)

pub colour_of-requires : goal.colour_of-requires
colour_of-requires c =
    let p = c.requires.inside in
    coded_paints p.0.case (omega (arith, p.2.lent)) (met_coded p.0.case c.args.s c.args.b _ p.1 c.requires.guess c.code-root.ensures)

-- ---- a root that is searched from

root : (c : Then-colour_of) (x : OneCase c.args.self.now) → c.args.s < x.case.parts.states
    → OuterIn x.case (root_in c.args.self.now.setting c.args.s c.args.b) c.args.workspace.now 0
    → Root x.case c.args.workspace.now c.code-root.result
root c x state o =
    met_root x.case c.args.s c.args.b _ state c.requires.guess c.code-root.ensures o
    (sym (c.is_initial.ensures x.roots_are (state_there x state) ∙ tested x c.args.s c.args.b) ∙ c.if-is_initial.true)
    (rw c.colour_of.ensures at c.if-colour_of.true)

pub outer_search-requires : goal.outer_search-requires
outer_search-requires c =
    let p = c.requires.inside in
    (p.0.case, root (goal.at.outer_search-requires c).Then-colour_of p.0 p.1 p.2)

pub returns-then-colour_of-clause-searched : goal.returns-then-colour_of-clause-searched
returns-then-colour_of-clause-searched c x state o =
    searched x _ _ _ state c.requires.guess c.code-root.ensures _ c.outer_search.result
    (c.outer_search.ensures.searched x.case (root (goal.at.returns-then-colour_of-clause-searched c).Then-colour_of x state o))

-- ---- one that is passed

pub returns-clause-searched : goal.returns-clause-searched
returns-clause-searched c x state o =
    elim c.else-is_initial.branch [
      | else-is_initial-via-then-is_initial+else-colour_of w ↦
          met_coloured x.case c.args.s c.args.b _ state c.requires.guess c.code-root.ensures o
          (rw w.colour_of.ensures at w.if-colour_of.false)
      | else-is_initial-via-else-is_initial w ↦
          met_other x.case c.args.s c.args.b _ state c.requires.guess c.code-root.ensures o
          (sym (c.is_initial.ensures x.roots_are (state_there x state) ∙ tested x c.args.s c.args.b) ∙ w.if-is_initial.false)
    ]
