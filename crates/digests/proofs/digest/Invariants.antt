use Rattle.std.proofs.Common.{◌≡◌, ◌<◌, take}
use mathlib.Core.List.{foldl}
use Rattle.digests.specs.Digest.{mixed}
use Rattle.digests.proofs.digest.Given as goal

abbrev pub invariant-loop-n : goal.invariant-loop-n
invariant-loop-n l =
    record {
      first : l.first ≡ foldl (mixed 1000003 4294967291) 0 (take l.n-index l.numbers);
      second : l.second ≡ foldl (mixed 998244353 4294967279) 0 (take l.n-index l.numbers);
      first_small : l.first < 4294967291;
      second_small : l.second < 4294967279;
    }
