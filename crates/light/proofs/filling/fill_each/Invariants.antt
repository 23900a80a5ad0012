use Rattle.std.proofs.Common.{ℕ, ◌≡◌}
use Rattle.lists.proofs.Mapping.{Mapped}
use Rattle.light.proofs.filling.fill_each.Given as goal

abbrev pub invariant-loop-i : goal.invariant-loop-i
invariant-loop-i g l = (f : ℕ → ℕ) → ((raw v : ℕ) → goal.F-post g l.see raw v → v ≡ f raw) → Mapped f l.from l.to l.i
