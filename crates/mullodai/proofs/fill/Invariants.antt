-- The first s records are field 02's, and the others are as they were lent.
use Rattle.std.proofs.Common.{◌≡◌}
use Rattle.reading.specs.Refusals.{parts_of}
use Rattle.mullodai.proofs.StateLists.{mid}
use Rattle.mullodai.proofs.fill.Given as goal

abbrev pub invariant-loop-s : goal.invariant-loop-s
invariant-loop-s l = l.record-items ≡ mid (parts_of l.fn.bytes).state_list l.initial.record-items l.s
