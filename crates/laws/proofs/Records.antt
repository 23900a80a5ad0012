-- The current record in two parts of data: what each part adds is what the whole adds.
use Rattle.std.specs.Prelude.{Option, Some, None}
use Prim.Native.Nat.{ℕ}
use mathlib.Core.Path.{◌≡◌, refl, sym, ap, ◌∙◌}
use mathlib.Core.Bool.{Bool, true, false}
use mathlib.Core.List.{List, ◌++◌}
use native.Mathlib.Omega.{arith}
use borrow.Author.Tests.{ltb-true, ltb-false}
use lib.Dec.{ltb}
use lib.ListN.{length, get_or, set, length-append}
use lib.Seq.{set-set, set_out, get_or-set_same}
use Rattle.lists.specs.declared.TraceRecord.{TraceRecord}
use Rattle.lists.proofs.Cuts.{filled-cut}
use Rattle.st7789.specs.Data.{no_record, on_current, more_pixels, more_params}

-- The current record changed twice.
pub current-twice :
    (f g h : TraceRecord → TraceRecord) → ((r : TraceRecord) → g (f r) ≡ h r) → (k : Option ℕ) (l : List TraceRecord) →
    on_current g k (on_current f k l) ≡ on_current h k l
current-twice f g h e None l = refl
current-twice f g h e (Some i) l = set-set l i (f r) (g (get_or (set l i (f r)) i no_record)) ∙ go (ltb i (length l)) refl
  where
    r : TraceRecord
    r = get_or l i no_record

    go : (b : Bool) → ltb i (length l) ≡ b → set l i (g (get_or (set l i (f r)) i no_record)) ≡ set l i (h r)
    go true t = ap (λ x. set l i x) (ap g (get_or-set_same l i (f r) no_record (ltb-true i (length l) t)) ∙ e r)
    go false t =
        let out = ltb-false i (length l) t in
        set_out l i (g (get_or (set l i (f r)) i no_record)) out ∙ sym (set_out l i (h r) out)

module _ (a b : List ℕ) (k : Option ℕ) (l : List TraceRecord) where
  pub pixels-twice :
      on_current (more_pixels (length b)) k (on_current (more_pixels (length a)) k l) ≡ on_current (more_pixels (length (a ++ b))) k l
  pixels-twice = current-twice (more_pixels (length a)) (more_pixels (length b)) (more_pixels (length (a ++ b))) one k l
    where
      one : (r : TraceRecord) → more_pixels (length b) (more_pixels (length a) r) ≡ more_pixels (length (a ++ b)) r
      one r = ap (λ n. record { at = r.at; pixel_bytes = n; params = r.params; cmd = r.cmd }) (rw length-append (omega arith))

  pub params-twice : on_current (more_params b) k (on_current (more_params a) k l) ≡ on_current (more_params (a ++ b)) k l
  params-twice = current-twice (more_params a) (more_params b) (more_params (a ++ b)) one k l
    where
      one : (r : TraceRecord) → more_params b (more_params a r) ≡ more_params (a ++ b) r
      one r =
          ap (λ p. record { at = r.at; pixel_bytes = r.pixel_bytes; params = p; cmd = r.cmd }) (sym (filled-cut r.params a b))
