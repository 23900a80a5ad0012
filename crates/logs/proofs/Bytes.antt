-- Lists of bytes, and their parts.
use Prim.Native.Nat.{ℕ, zero, suc, ◌+◌, ◌<◌}
use mathlib.Core.List.{List, [], ◌∷◌, ◌++◌}
use native.Mathlib.Omega.{arith}
use lib.ListN.{take, drop}
use lib.Seq.{get_or-drop}
use Rattle.logs.specs.Stored.{Bytes}

pub bytes-none : Bytes []
bytes-none i = omega arith

pub bytes_drop : (n : ℕ) (l : List ℕ) → Bytes l → Bytes (drop n l)
bytes_drop n l h i = rw get_or-drop (h (n + i))

pub bytes_take : (n : ℕ) (l : List ℕ) → Bytes l → Bytes (take n l)
bytes_take zero l h i = omega arith
bytes_take (suc n) [] h i = omega arith
bytes_take (suc n) (b ∷ l) h zero = h 0
bytes_take (suc n) (b ∷ l) h (suc i) = bytes_take n l (λ j. h (suc j)) i

pub bytes-append : (l m : List ℕ) → Bytes l → Bytes m → Bytes (l ++ m)
bytes-append [] m h k i = k i
bytes-append (b ∷ l) m h k zero = h 0
bytes-append (b ∷ l) m h k (suc i) = bytes-append l m (λ j. h (suc j)) k i

pub bytes_one : {b : ℕ} (l : List ℕ) → b < 256 → Bytes l → Bytes (b ∷ l)
bytes_one l low h zero = low
bytes_one l low h (suc i) = h i
