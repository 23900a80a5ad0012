use borrow.Author.Tests.{eq-eqb, ne_eqb}
use Rattle.std.proofs.Common.{rules}
use Rattle.engine.specs.Strides.{left_from, right_from}
use Rattle.engine.proofs.strided.lay_turned.Goals as goal

pub returns-then-madctl-ne0-3 : goal.returns-then-madctl-ne0-3
returns-then-madctl-ne0-3 g c = λ pixels r.
    simp (eq-eqb _ _ c.if-madctl-ne0.false, ne_eqb _ _ c.if-madctl-ne0-3.true)
    (c.lay_each-then-madctl-ne0-3.ensures (left_from c.args.stretch.first) pixels (record { each = λ k i h e. search rules }) r)

pub returns-else-madctl-ne0-3 : goal.returns-else-madctl-ne0-3
returns-else-madctl-ne0-3 g c = λ pixels r.
    simp (eq-eqb _ _ c.if-madctl-ne0.false, eq-eqb _ _ c.if-madctl-ne0-3.false)
    (c.lay_each-else-madctl-ne0-3.ensures (right_from c.args.stretch.first) pixels (record { each = λ k i h e. search rules }) r)
