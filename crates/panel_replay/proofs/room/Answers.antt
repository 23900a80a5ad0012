use Rattle.std.proofs.Common.{ℕ, ◌≡◌, sym, length, replicate}
use lib.ListN.{length-replicate}
use Rattle.panel_replay.proofs.room.Goals as goal

filled-long : (n : ℕ) → n ≡ length {A = ℕ} (replicate n 0)
filled-long n = sym (length-replicate n 0)

pub returns : goal.returns
returns c = filled-long 1048577
