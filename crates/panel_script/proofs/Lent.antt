-- A part that is lent has the length it is lent with.
use Rattle.std.proofs.Common.{◌≡◌, ℕ, length, replicate, sym}
use lib.ListN.{length-replicate}

-- An array of one number, so many times.
pub filled-long : (n : ℕ) → n ≡ length {A = ℕ} (replicate n 0)
filled-long n = sym (length-replicate n 0)
