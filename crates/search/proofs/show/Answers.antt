-- `search::show` meets its contract: a loop that was met is a run that lies on the stacks, and folded it breaks the rule too. Assumes nothing.
use Prim.Native.Nat.{◌<◌}
use native.Mathlib.Omega.{arith}
use Rattle.workspace.proofs.Tracks.{met_stands, met_room}
use Rattle.search.proofs.Prepared.{places_within, decides_violated}
use Rattle.search.proofs.show.Goals as goal

pub find-stem-requires : goal.find-stem-requires
find-stem-requires c = (met_stands c.requires.met.0 c.requires.met.1).0

pub overflow_sub-found-2 : goal.overflow_sub-found-2
overflow_sub-found-2 c =
    let s = met_stands c.requires.met.0 c.requires.met.1 in
    omega (arith, c.find-stem.ensures.first s.0, s.1)

pub invariant_of-found : goal.invariant_of-found
invariant_of-found c =
    let p = c.requires.met in
    let s = met_stands p.0 p.1 in
    let low : c.find-stem.result < c.args.hit.outer = omega (arith, c.find-stem.ensures.first s.0, s.1) in
    let room = met_room p.0 p.1 in
    record {
      outer_lies = room.1.0;
      run_lies = omega (arith, room.1.1);
      some_loop = omega (arith, room.0);
    }

pub returns : goal.returns
returns c x met =
    let run = c.folded-run.ensures in
    decides_violated x met c.find-stem.ensures run.folds (rw (run.workspace, run.places, run.outer) at c.write.ensures) c.requires.room
