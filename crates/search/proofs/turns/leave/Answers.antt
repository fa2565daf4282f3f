-- `search::turns::leave` meets its contract: blue where the place is not marked; red after an inner search that met nothing. Assumes nothing.
use Prim.Native.Nat.{◌%◌, ◌<◌}
use native.Mathlib.Omega.{arith}
use mathlib.Core.Path.{sym, ◌∙◌}
use borrow.Author.Tests.{leb-false}
use Rattle.workspace.proofs.InnerTurnsIn.{paint_kept, left_blue, red_paints, red_kept, left_red}
use Rattle.search.proofs.turns.leave.Goals as goal

pub returns-then-not-is_marked-clause-kept : goal.returns-then-not-is_marked-clause-kept
returns-then-not-is_marked-clause-kept c = rw c.paint.ensures (paint_kept c.requires.0 c.requires.3 1)

pub returns-then-not-is_marked-clause-left : goal.returns-then-not-is_marked-clause-left
returns-then-not-is_marked-clause-left c x r d leaving =
    let waits : c.args.code % 8 < c.args.setting.now.sizes.top =
    omega (arith, leb-false _ _ (sym c.is_marked.ensures ∙ c.if-not-is_marked.true)) in
    rw c.paint.ensures (left_blue x leaving waits)

pub returns-in_err-inner_search-clause-left : goal.returns-in_err-inner_search-clause-left
returns-in_err-inner_search-clause-left c x r d leaving =
    rw c.from_residual.ensures (c.in_err-inner_search.ensures.searched x r d leaving)

pub paint-requires-2 : goal.paint-requires-2
paint-requires-2 c = red_paints c.requires.0 c.requires.3 c.inner_search.ensures.kept

pub returns-clause-kept : goal.returns-clause-kept
returns-clause-kept c = rw c.paint-2.ensures (red_kept c.requires.0 c.requires.3 c.inner_search.ensures.kept)

pub returns-clause-left : goal.returns-clause-left
returns-clause-left c x r d leaving =
    rw c.paint-2.ensures (left_red x leaving (c.in_ok-inner_search.ensures.searched x r d leaving))
