-- A word for the contracts of the folding: the states of a stored run. No promise of an entry rests on it.
use Prim.Native.Nat.{ℕ}
use Rattle.workspace.proofs.Tracks.{run_in}
use Rattle.tracks.specs.declared.Run.{Run}

abbrev pub entries : Run → ℕ → ℕ
entries r = run_in r.workspace.now r.places r.outer
