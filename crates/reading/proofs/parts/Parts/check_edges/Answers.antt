-- The first bad edge, by the first of its two rows, or none.
use Rattle.std.proofs.Common.{sym, ◌∙◌, arith, cond}
use Rattle.reading.specs.Refusals.{edges_refusal, bad_end, not_above}
use Rattle.reading.specs.declared.CaseRefusal.TheVariants.{End, Order}
use Rattle.reading.proofs.Rows.{refused_first, refused_second, none_refused}
use Rattle.reading.proofs.parts.Parts.check_edges.Goals as goal

pub returns-then-bad_end : goal.returns-then-bad_end
unfolding edges_refusal bad_end
returns-then-bad_end c = refused_first (bad_end c.args.self.now.states c.args.self.now.edge_list.now) (not_above c.args.self.now.edge_list.now) _ End Order _ c.loop-e-test.true c.loop-e.invariant (rw (c.edge_at.ensures.from, c.edge_at.ensures.to) at (sym c.bad_end.ensures ∙ c.if-bad_end.true))

pub returns-then-not_above : goal.returns-then-not_above
unfolding edges_refusal bad_end
returns-then-not_above c =
    refused_second (bad_end c.args.self.now.states c.args.self.now.edge_list.now) (not_above c.args.self.now.edge_list.now) _ End Order _ c.loop-e-test.true c.loop-e.invariant (rw (c.edge_at.ensures.from, c.edge_at.ensures.to) at (sym c.bad_end.ensures ∙ c.if-bad_end.false)) (sym c.not_above.ensures ∙ c.if-not_above.true)

pub returns : goal.returns
unfolding edges_refusal
returns c = none_refused _ _ (λ j. cond (bad_end c.args.self.now.states c.args.self.now.edge_list.now j) (End j) (Order j)) (λ j h. c.loop-e.invariant j (omega (arith, h, c.loop-e-test.false)))
