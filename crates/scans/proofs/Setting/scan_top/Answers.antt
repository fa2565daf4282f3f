-- `scans::Setting::scan_top` meets its contract: the top's code and cursor are read, and the scan of its cursors is the graph's. Assumes
-- nothing.
use Prim.Native.Nat.{ℕ, ◌+◌, ◌-◌}
use mathlib.Core.Path.{◌≡◌, ap, ◌∙◌}
use lib.ListN.{get_or}
use Rattle.std.specs.Prelude.{Option, Some, None, MatchOption}
use Rattle.workspace.proofs.Setting.{top_cursor}
use Rattle.workspace.proofs.Tops.{top_rises, top_scannable, top_coded, top_finds, top_skips}
use Rattle.scans.specs.Cases.{OfCase}
use Rattle.scans.specs.declared.Candidate.{Candidate}
use Rattle.scans.proofs.Setting.scan_top.Goals as goal
use Rattle.scans.proofs.Setting.scan_top.Goals.{After-scan}

pub cursors_of-requires-clause-rises : goal.cursors_of-requires-clause-rises
cursors_of-requires-clause-rises c = top_rises c.requires.0 c.requires.1 _ c.from-code.ensures

pub scan-requires : goal.scan-requires
scan-requires c = top_scannable c.requires.0 c.requires.1 _ c.from-code.ensures c.cursors_of.ensures

-- the cursor that is read is the top's
cursor_is : (c : After-scan) (of : OfCase c.args.self.now)
    → c.from-cursor.result ≡ top_cursor of.parts c.args.workspace.now c.args.stack.base c.args.stack.depth
cursor_is c of =
    c.from-cursor.ensures ∙ ap (λ (n : ℕ). get_or c.args.workspace.now (c.args.stack.base + n + c.args.stack.depth - 1) 0) of.size_is

-- what follows from each answer
each : {P Q : Type 0} {F G : Candidate → Type 0} (found : Option Candidate) → (P → Q) → ((x : Candidate) → F x → G x)
    → MatchOption found P F → MatchOption found Q G
each None p f m = p m
each (Some x) p f m = f x m

pub returns-clause-coded : goal.returns-clause-coded
returns-clause-coded c of t =
    each c.scan.result (λ _. tt)
    (λ _ stops. top_coded of t _ c.from-code.ensures c.cursors_of.ensures (cursor_is c of) stops)
    c.scan.ensures

pub returns-clause-scanned : goal.returns-clause-scanned
returns-clause-scanned c of t =
    each c.scan.result (λ passed. top_skips of t _ c.from-code.ensures c.cursors_of.ensures (cursor_is c of) passed)
    (λ _ stops. top_finds of t _ c.from-code.ensures c.cursors_of.ensures (cursor_is c of) stops)
    c.scan.ensures
