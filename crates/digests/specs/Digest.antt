-- Rules: docs/SCRIPTS.md, "Digests". 01 has none.
use Rattle.std.specs.Prelude.{ℕ, ◌+◌, ◌*◌, ◌%◌}
use mathlib.Core.List.{List, foldl}
use Rattle.digests.specs.declared.Halves.{Halves}

-- "becomes (h x K + v + 1) mod M"
abbrev pub mixed : ℕ → ℕ → ℕ → ℕ → ℕ
mixed k m h v = (h * k + v + 1) % m

-- "each begins at 0 and becomes (h x K + v + 1) mod M for each number v in order, with K = 1000003 and M = 4294967291 for the
-- first, K = 998244353 and M = 4294967279 for the second"
unfoldable pub digested : List ℕ → Halves
digested numbers =
    record {
      first = foldl (mixed 1000003 4294967291) 0 numbers;
      second = foldl (mixed 998244353 4294967279) 0 numbers;
    }
