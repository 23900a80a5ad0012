-- The transfer without memory: its refusals, its state and its totals are those of the full transfer over memory of the right length.
use Prim.Native.Nat.{ℕ}
use mathlib.Core.Path.{◌≡◌, ap}
use mathlib.Core.Bool.{Bool}
use mathlib.Core.List.{List}
use lib.ListN.{length}
use Rattle.pixels.specs.Run.{no_totals}
use Rattle.st7789.specs.Data.{totals_in}
use Rattle.st7789.specs.Refusals.{transfer_refusal, bare_refusal}
use Rattle.st7789.specs.Entries.{moved, transferred, transfer_totals, bare_transferred, bare_totals}
use Rattle.status.specs.Numbers.{unless_refused}
use Rattle.st7789.specs.declared.St7789p3.{St7789p3}
use Rattle.st7789.proofs.Accepted.{bare}

pub same-refusal : (s : St7789p3) (n : ℕ) → transfer_refusal s 76800 n ≡ bare_refusal s n
same-refusal s n = bare s n

pub same-state :
    (t : ℕ) (dc : Bool) (bytes : List ℕ) (cs : Bool) (s : St7789p3) → transferred t dc bytes cs 76800 s ≡ bare_transferred t dc bytes cs s
unfolding transferred bare_transferred
same-state t dc bytes cs s = ap (λ n. unless_refused n (moved t dc bytes cs s) s) (bare s (length bytes))

pub same-totals : (dc : Bool) (bytes : List ℕ) (s : St7789p3) → transfer_totals dc bytes 76800 s ≡ bare_totals dc bytes s
unfolding transfer_totals bare_totals
same-totals dc bytes s = ap (λ n. unless_refused n (totals_in dc bytes s.controller) no_totals) (bare s (length bytes))
