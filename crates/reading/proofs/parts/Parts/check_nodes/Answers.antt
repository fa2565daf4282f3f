-- The first bad node, by the first of its two rows, or none.
use Rattle.std.proofs.Common.{refl, sym, ◌∙◌, arith, cond}
use borrow.Author.Tests.{lt-ltb, le-ltb}
use Rattle.reading.specs.Refusals.{nodes_refusal, unknown, wrong_byte}
use Rattle.reading.specs.declared.CaseRefusal.TheVariants.{Operator, Operand}
use Rattle.reading.proofs.Rows.{refused_first, refused_second, none_refused}
use Rattle.reading.proofs.parts.Parts.check_nodes.Goals as goal

pub returns-in_default : goal.returns-in_default
unfolding nodes_refusal unknown
returns-in_default c =
    refused_first (unknown c.args.self.now.node_list.now) (wrong_byte c.args.self.now.atoms c.args.self.now.node_list.now) _ Operator Operand _ c.loop-n-test.true c.loop-n.invariant
    (lt-ltb _ _ (c.in_default.ensures.unknown.0 refl))

pub returns-then-wrong_byte : goal.returns-then-wrong_byte
unfolding nodes_refusal unknown wrong_byte
returns-then-wrong_byte c =
    refused_second (unknown c.args.self.now.node_list.now) (wrong_byte c.args.self.now.atoms c.args.self.now.node_list.now) _ Operator Operand _ c.loop-n-test.true c.loop-n.invariant
    (le-ltb _ _ (grind (arith, c.in-Ok.ensures.unknown)))
    (rw (← c.in-Ok.ensures.ok) (sym c.wrong_byte.ensures ∙ c.if-wrong_byte.true))

pub returns : goal.returns
unfolding nodes_refusal
returns c =
    none_refused _ _
    (λ j. cond (unknown c.args.self.now.node_list.now j) (Operator j) (Operand j))
    (λ j h. c.loop-n.invariant j (omega (arith, h, c.loop-n-test.false)))
