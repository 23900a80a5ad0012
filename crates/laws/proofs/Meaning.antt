-- What the lists mean: the used part after a command, and after data for it.
use Rattle.std.specs.Prelude.{Some}
use Prim.Native.Nat.{ℕ, ◌≤◌, ◌<◌}
use mathlib.Core.Path.{◌≡◌, refl, ap, ap₂, ◌∙◌}
use mathlib.Core.List.{List, [], ◌∷◌, ◌++◌}
use lib.Dec.{ltb}
use lib.ListN.{length, take, set, get_or}
use lib.Seq.{take-set-lt}
use native.Mathlib.Omega.{arith}
use Rattle.lists.specs.Fixed.{places, used}
use Rattle.lists.proofs.Fixed.{used_all}
use Rattle.st7789.specs.Parts.{trace_of, warnings_of}
use Rattle.st7789.specs.Command.{warnings_for, linted, begun_record, begun}
use Rattle.st7789.specs.Data.{no_record, on_current, ran, taken, record_data, data_in}
use Rattle.st7789.specs.declared.St7789p3.{St7789p3}
use Rattle.laws.proofs.DataKinds.{by_kind}
use Rattle.laws.proofs.Stays.{warned-by, traced-by}

module _ (s : St7789p3) where
  -- Warnings: those of the broken rules behind the old ones, and no more than 128.
  pub warnings-mean :
      (c t : ℕ) → s.controller.logs.warned ≤ places → length s.warnings ≡ places →
      used (warnings_of (begun c t s)) ≡ take places (used (warnings_of s) ++ warnings_for c t s.controller)
  unfolding begun
  warnings-mean c t few long =
      ap (λ n. take n (linted c t s).places) (warned-by c t s (ltb s.controller.logs.traced places))
      ∙ used_all places (warnings_of s) _ few (omega arith)

  -- Trace: the new record behind the old ones, and no more than 128.
  pub trace-means :
      (c t : ℕ) → s.controller.logs.traced ≤ places → length s.records ≡ places →
      used (trace_of (begun c t s)) ≡ take places (used (trace_of s) ++ (begun_record c t ∷ []))
  unfolding begun
  trace-means c t few long =
      ap (λ n. take n (begun c t s).records) (traced-by c t s (ltb s.controller.logs.traced places))
      ∙ used_all places (trace_of s) (begun_record c t ∷ []) few (omega arith)

  -- Data changes the current record and no other.
  pub current-means :
      (bytes : List ℕ) (i : ℕ) → s.controller.logs.current ≡ Some i → i < s.controller.logs.traced →
      used (trace_of (data_in bytes s)) ≡ set (used (trace_of s)) i (record_data bytes s.controller (get_or s.records i no_record))
  unfolding data_in ran taken
  current-means bytes i e h =
      let f = record_data bytes s.controller in
      ap₂ (λ n k. take n (on_current f k s.records)) traced e
      ∙ take-set-lt s.controller.logs.traced s.records i (f (get_or s.records i no_record)) h
    where
      traced : (data_in bytes s).controller.logs.traced ≡ s.controller.logs.traced
      traced = by_kind bytes s (λ run r. r.controller.logs.traced ≡ s.controller.logs.traced) (λ f. refl) refl (λ c. refl)
