use Rattle.std.proofs.Common.{◌≡◌, ℕ, List}
use Rattle.engine.specs.Rows.{laid, Leads, Reads}
use Rattle.engine.proofs.strided.lay_each.Given as goal

abbrev pub invariant-loop-k : goal.invariant-loop-k
invariant-loop-k g l =
    (f : ℕ → ℕ) (pixels : List ℕ) → Leads (goal.C-post g l.cell) f l.n → Reads (goal.P-post g l.pixel) pixels l.j l.n →
    l.memory ≡ laid f l.initial.memory pixels l.j l.k
