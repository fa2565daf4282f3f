-- `search::verdict` meets its contract: the arrays that it fills are the setting of a search over the case, and what the search shows there
-- is the verdict. Assumes nothing.
use Prim.Native.Nat.{◌-◌, ◌*◌}
use native.Mathlib.Omega.{arith}
use mathlib.Core.Path.{refl}
use Rattle.filled.proofs.Rows.{blank_zeros}
use Rattle.workspace.proofs.Setting.{Setting}
use Rattle.workspace.proofs.Roots.{Rooting}
use Rattle.workspace.proofs.ViewsIn.{OuterIn}
use Rattle.search.proofs.Prepared as prepared
use Rattle.search.proofs.verdict.Goals as goal
use Rattle.search.proofs.verdict.Goals.{After-sizes_of-sizes}

pub fill-requires : goal.fill-requires
fill-requires c = record {
  filling = prepared.filling _ _ c.args.case.now.admitted c.states-states.ensures c.nodes.ensures;
  blank_rows = blank_zeros 2048;
  blank_lanes = blank_zeros 1024;
}

pub fill-requires-2 : goal.fill-requires-2
fill-requires-2 c = prepared.edges_leaving _ _ c.args.case.now.admitted c.edges-edges.ensures

pub overflow_sub-roots : goal.overflow_sub-roots
overflow_sub-roots c = (prepared.some_node _ _ c.args.case.now.admitted).0

pub overflow_mul-roots : goal.overflow_mul-roots
overflow_mul-roots c = omega (arith, prepared.some_node _ _ c.args.case.now.admitted)

-- ---- the search's setting, and what it starts from

abbrev case_in : (c : After-sizes_of-sizes)
    → let sizes = c.sizes_of-sizes.result in
    Setting c.edges-edges.result.now c.fill.new.lanes c.fill-2.new.starts sizes.guesses sizes.ones sizes.top sizes.places
case_in c =
    let known = c.args.case.now.admitted in
    let filled = c.fill.ensures (prepared.filling _ _ known c.states-states.ensures c.nodes.ensures) in
    let sizes = c.sizes_of-sizes.ensures in
    prepared.setting _ _ known c.edges-edges.ensures filled.all_lanes c.fill-2.ensures sizes.guesses sizes.ones sizes.top sizes.places

abbrev roots_in : (c : After-sizes_of-sizes)
    → Rooting c.states-states.result.now c.fill.new.rows ((c.args.case.now.shape.nodes - 1) * 64) c.sizes_of-sizes.result.guesses
roots_in c =
    let known = c.args.case.now.admitted in
    let filled = c.fill.ensures (prepared.filling _ _ known c.states-states.ensures c.nodes.ensures) in
    prepared.rooting _ _ known c.states-states.ensures filled.all_rows c.sizes_of-sizes.ensures.guesses

begun : (c : After-sizes_of-sizes) → OuterIn (case_in c) 0 c.args.workspace.now 0
begun c =
    let places = c.sizes_of-sizes.ensures.places in
    prepared.started (case_in c) c.args.workspace.now (omega (arith, places, c.requires.room)) (λ i h. c.requires.cleared i (omega (arith, places)))

pub search-requires : goal.search-requires
search-requires c =
    let was = (goal.at.search-requires c).After-sizes_of-sizes in
    (record { case = case_in was; roots_are = roots_in was; same = refl }, begun was)

-- ---- what it shows

pub show-requires : goal.show-requires
show-requires c =
    let was = (goal.at.show-requires c).After-sizes_of-sizes in
    record {
      met = (
        case_in was,
        c.in-Break.ensures.searched (record { case = case_in was; roots_are = roots_in was; same = refl }) (begun was),
      );
      room = omega (arith, c.sizes_of-sizes.ensures.places, c.requires.track_room);
    }

pub returns-in-Continue : goal.returns-in-Continue
returns-in-Continue c =
    let was = (goal.at.returns-in-Continue c).After-sizes_of-sizes in
    record {
      kept = rw c.sizes_of-sizes.ensures.places at c.search.ensures.kept;
      decides = λ lent.
          prepared.decides_holds (case_in was)
          (c.in-Continue.ensures.searched (record { case = case_in was; roots_are = roots_in was; same = refl }) (begun was)) lent _;
    }

pub returns-in-Break : goal.returns-in-Break
returns-in-Break c =
    let was = (goal.at.returns-in-Break c).After-sizes_of-sizes in
    record {
      kept = rw c.sizes_of-sizes.ensures.places at c.search.ensures.kept;
      decides =
          c.show.ensures (case_in was)
          (c.in-Break.ensures.searched (record { case = case_in was; roots_are = roots_in was; same = refl }) (begun was));
    }
