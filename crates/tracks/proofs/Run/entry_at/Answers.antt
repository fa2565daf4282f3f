-- `tracks::Run::entry_at` meets its contract: within the entries it is the position's own, and after them the one a turn before. Assumes
-- nothing.
use Prim.Native.Nat.{◌+◌, ◌-◌}
use native.Mathlib.Omega.{arith}
use mathlib.Core.Path.{◌≡◌, sym, ap, ◌∙◌}
use Rattle.meaning.specs.Runs.{position}
use Rattle.meaning.proofs.Loops.{position_in, position_repeats}
use Rattle.tracks.proofs.Run.entry_at.Goals as goal

pub returns-then-i-self-clause-position : goal.returns-then-i-self-clause-position
returns-then-i-self-clause-position c = sym (position_in _ _ _ c.if-i-self.true)

pub returns-clause-position : goal.returns-clause-position
returns-clause-position c =
    let k = c.args.self.now.stem in
    let m = c.args.self.now.repeat in
    let back : c.args.i - m + m ≡ c.args.i = omega arith in
    sym
    (ap (position k m) (sym back)
    ∙ (position_repeats k m (c.args.i - m) (omega arith) ∙ position_in k m (c.args.i - m) (omega arith)))
