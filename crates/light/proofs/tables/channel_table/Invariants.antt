use Rattle.std.proofs.Common.{ℕ, ◌+◌, ◌≡◌, ◌<◌, ◌≤◌, length, get_or}
use Rattle.light.specs.Looks.{placed}
use Rattle.light.proofs.tables.channel_table.Given as goal

abbrev pub invariant-loop-k : goal.invariant-loop-k
invariant-loop-k l = record {
  within : l.k ≤ l.most + 1;
  long : length l.table ≡ 64;
  each : (j : ℕ) → j < l.k → get_or l.table j 0 ≡ placed l.light l.most l.times j;
}
