-- No counter runs over: a transfer of n bytes adds at most n to each, so after an accepted one none is above 2^63 + 65,536; and none is
-- after a refused one, if none was before.
use Rattle.std.specs.Prelude.{Option, Some, None}
use Prim.Native.Nat.{ℕ, ◌+◌, ◌^◌, ◌≤◌, max}
use mathlib.Core.Path.{◌≡◌, refl, ap}
use mathlib.Core.Bool.{Bool, true, false, cond}
use mathlib.Core.List.{List, [], ◌∷◌}
use native.Mathlib.Omega.{arith}
use borrow.Author.Tests.{eqb-true, eqb-false, ltb-true, ltb-false}
use lib.Dec.{ltb, eqb}
use lib.ListN.{length, set, get_or}
use lib.Seq.{set_out, get_or-set_same, get_or-set_other}
use Rattle.chip.specs.Site.{site_of}
use Rattle.pixels.proofs.Laws.{counted-few}
use Rattle.pixels.proofs.Sums.{totals-few}
use Rattle.codes.specs.Codes.{kind_of, is}
use Rattle.codes.specs.declared.Kind.TheVariants.{Ramwr}
use Rattle.lists.specs.Fixed.{places}
use Rattle.lists.specs.declared.TraceRecord.{TraceRecord}
use Rattle.lists.proofs.Somes.{each-fails}
use Rattle.status.specs.Tests.{high}
use Rattle.st7789.specs.Command.{begun_record, begun, begun_all, controller_released, released}
use Rattle.st7789.specs.Data.{no_record, on_current, more_pixels, more_params, ran, taken, data_in}
use Rattle.st7789.specs.Refusals.{pixels_held, counts_of, transfer_refusal}
use Rattle.st7789.specs.Room.{Placed}
use Rattle.st7789.specs.Entries.{moved, transferred}
use Rattle.st7789.specs.declared.St7789p3.{St7789p3}
use Rattle.st7789.proofs.Tests.{current-placed}
use Rattle.st7789.proofs.Accepted.{none-refused}
use Rattle.laws.specs.Valid.{Good, held_by, held_at, Bounded}
use Rattle.laws.proofs.DataKinds.{by_kind}
use Rattle.laws.proofs.Stays.{logs_by, trace_by, begun-good}

pub record Grown (n : ℕ) (s r : St7789p3) : Type 0 where
  pub commands : r.controller.counts.commands ≤ s.controller.counts.commands + n
  pub ramwrs : r.controller.counts.ramwr_count ≤ s.controller.counts.ramwr_count + n
  pub pixels : r.controller.counts.pixels_written ≤ s.controller.counts.pixels_written + n
  pub dropped : r.controller.counts.dropped_params ≤ s.controller.counts.dropped_params + n
  pub inverted : r.controller.counts.inverted ≤ s.controller.counts.inverted + n
  pub unmapped : r.controller.counts.unmapped ≤ s.controller.counts.unmapped + n
  pub held : held_by r ≤ held_by s + n
  pub each : (i : ℕ) → held_at i r ≤ max (held_at i s) (held_by s + n)

-- A record put into the list: each place holds what it held, or what is put.
put-each :
    (l : List TraceRecord) (j : ℕ) (r : TraceRecord) (n : ℕ) → r.pixel_bytes ≤ n → (i : ℕ) →
    (get_or (set l j r) i no_record).pixel_bytes ≤ max (get_or l i no_record).pixel_bytes n
put-each l j r n h i = go (eqb i j) refl (ltb j (length l)) refl
  where
    go : (a : Bool) → eqb i j ≡ a → (b : Bool) → ltb j (length l) ≡ b → (get_or (set l j r) i no_record).pixel_bytes ≤ max (get_or l i no_record).pixel_bytes n
    go true e true f =
        rw (eqb-true i j e, get_or-set_same l j r no_record (ltb-true j (length l) f)) (omega (arith, h))
    go true e false f = rw (set_out l j r (ltb-false j (length l) f)) (omega arith)
    go false e b f = rw (get_or-set_other l j i r no_record (eqb-false i j e)) (omega arith)

-- A command begins: its record has no pixel bytes yet.
begun-held : (c t : ℕ) (s : St7789p3) → Good s → held_by (begun c t s) ≡ 0
unfolding begun
begun-held c t s g = go (ltb s.controller.logs.traced places) refl
  where
    go : (b : Bool) → ltb s.controller.logs.traced places ≡ b → pixels_held (logs_by c t s b).current (trace_by c t s b).places ≡ 0
    go true e =
        ap (λ r. r.pixel_bytes)
        (get_or-set_same s.records s.controller.logs.traced (begun_record c t) no_record
        (omega (arith, ltb-true s.controller.logs.traced places e, g.sized.records)))
    go false e = refl

begun-grown : (c t : ℕ) (s : St7789p3) → Good s → Grown 1 s (begun c t s)
unfolding begun
begun-grown c t s g =
    let h = begun-held c t s g in
    record {
      commands = omega arith;
      ramwrs = one_more (is (kind_of c) Ramwr) s.controller.counts.ramwr_count;
      pixels = omega arith;
      dropped = omega arith;
      inverted = omega arith;
      unmapped = omega arith;
      held = omega (arith, h);
      each = λ i. begun-each i (ltb s.controller.logs.traced places);
    }
  where
    begun-each : (i : ℕ) (b : Bool) → (get_or (trace_by c t s b).places i no_record).pixel_bytes ≤ max (held_at i s) (held_by s + 1)
    begun-each i true = put-each s.records s.controller.logs.traced (begun_record c t) (held_by s + 1) (omega arith) i
    begun-each i false = omega arith

    one_more : (b : Bool) (n : ℕ) → cond b (n + 1) n ≤ n + 1
    one_more true n = omega arith
    one_more false n = omega arith

pub all_grown : (t : ℕ) (bytes : List ℕ) (s : St7789p3) → Good s → Grown (length bytes) s (begun_all t bytes s)
all_grown t [] s g =
    record {
      commands = omega arith;
      ramwrs = omega arith;
      pixels = omega arith;
      dropped = omega arith;
      inverted = omega arith;
      unmapped = omega arith;
      held = omega arith;
      each = λ i. omega arith;
    }
all_grown t (c ∷ bytes) s g =
    let one = begun-grown c t s g in
    let rest = all_grown t bytes (begun c t s) (begun-good c t s g) in
    record {
      commands = omega (arith, one.commands, rest.commands);
      ramwrs = omega (arith, one.ramwrs, rest.ramwrs);
      pixels = omega (arith, one.pixels, rest.pixels);
      dropped = omega (arith, one.dropped, rest.dropped);
      inverted = omega (arith, one.inverted, rest.inverted);
      unmapped = omega (arith, one.unmapped, rest.unmapped);
      held = omega (arith, one.held, rest.held);
      each = λ i. omega (arith, one.each i, rest.each i, one.held);
    }

-- Data: the current record grows by the length in a run, and keeps its pixel bytes otherwise.
held_after :
    (f : TraceRecord → TraceRecord) (k : Option ℕ) (l : List TraceRecord) (n : ℕ) → length l ≡ places → Placed k →
    ((r : TraceRecord) → (f r).pixel_bytes ≤ r.pixel_bytes + n) → pixels_held k (on_current f k l) ≤ pixels_held k l + n
held_after f None l n long h grows = omega arith
held_after f (Some i) l n long h grows =
    let e : (get_or (set l i (f (get_or l i no_record))) i no_record).pixel_bytes ≡ (f (get_or l i no_record)).pixel_bytes =
    ap (λ r. r.pixel_bytes) (get_or-set_same l i (f (get_or l i no_record)) no_record (omega (arith, long, h)))
    in
    omega (arith, e, grows (get_or l i no_record))

each_after :
    (f : TraceRecord → TraceRecord) (k : Option ℕ) (l : List TraceRecord) (n : ℕ) → ((r : TraceRecord) → (f r).pixel_bytes ≤ r.pixel_bytes + n) →
    (i : ℕ) → (get_or (on_current f k l) i no_record).pixel_bytes ≤ max (get_or l i no_record).pixel_bytes (pixels_held k l + n)
each_after f None l n grows i = omega arith
each_after f (Some j) l n grows i = put-each l j (f (get_or l j no_record)) ((get_or l j no_record).pixel_bytes + n) (grows (get_or l j no_record)) i

data-grown : (bytes : List ℕ) (s : St7789p3) → Good s → Grown (length bytes) s (data_in bytes s)
unfolding ran taken
data-grown bytes s g =
    by_kind bytes s (λ run r. Grown (length bytes) s r)
    (λ f.
    record {
      commands = omega arith;
      ramwrs = omega arith;
      pixels = omega (arith, counted-few (site_of s.controller.cfg.formats s.controller.chip) s.controller.chip.walk bytes);
      dropped = omega arith;
      inverted = omega (arith, totals-few (site_of s.controller.cfg.formats s.controller.chip) s.controller.chip.walk bytes);
      unmapped = omega (arith, totals-few (site_of s.controller.cfg.formats s.controller.chip) s.controller.chip.walk bytes);
      held = held (more_pixels (length bytes)) (λ r. omega arith);
      each = each (more_pixels (length bytes)) (λ r. omega arith);
    })
    (record {
      commands = omega arith;
      ramwrs = omega arith;
      pixels = omega arith;
      dropped = omega arith;
      inverted = omega arith;
      unmapped = omega arith;
      held = held (λ r. r) (λ r. omega arith);
      each = each (λ r. r) (λ r. omega arith);
    })
    (λ c.
    record {
      commands = omega arith;
      ramwrs = omega arith;
      pixels = omega arith;
      dropped = omega arith;
      inverted = omega arith;
      unmapped = omega arith;
      held = held (more_params bytes) (λ r. omega arith);
      each = each (more_params bytes) (λ r. omega arith);
    })
  where
    -- The current record, whatever the data is for.
    held :
        (f : TraceRecord → TraceRecord) → ((r : TraceRecord) → (f r).pixel_bytes ≤ r.pixel_bytes + length bytes) →
        pixels_held s.controller.logs.current (on_current f s.controller.logs.current s.records) ≤ held_by s + length bytes
    held f grows =
        held_after f s.controller.logs.current s.records (length bytes) g.sized.records (current-placed s g.fine) grows

    each :
        (f : TraceRecord → TraceRecord) → ((r : TraceRecord) → (f r).pixel_bytes ≤ r.pixel_bytes + length bytes) →
        (i : ℕ) → (get_or (on_current f s.controller.logs.current s.records) i no_record).pixel_bytes ≤ max (held_at i s) (held_by s + length bytes)
    each f grows = each_after f s.controller.logs.current s.records (length bytes) grows

-- After a release no record is current.
released-grown : (n : ℕ) (s r : St7789p3) → Grown n s r → Grown n s (released r)
unfolding controller_released
released-grown n s r h =
    record {
      commands = h.commands;
      ramwrs = h.ramwrs;
      pixels = h.pixels;
      dropped = h.dropped;
      inverted = h.inverted;
      unmapped = h.unmapped;
      held = omega arith;
      each = h.each;
    }

pub moved-grown : (t : ℕ) (dc : Bool) (bytes : List ℕ) (cs : Bool) (s : St7789p3) → Good s → Grown (length bytes) s (moved t dc bytes cs s)
unfolding moved
moved-grown t dc bytes cs s g = go dc cs
  where
    last : (cs : Bool) (r : St7789p3) → Grown (length bytes) s r → Grown (length bytes) s (cond cs (released r) r)
    last true r h = released-grown (length bytes) s r h
    last false r h = h

    go :
        (dc cs : Bool) →
        Grown (length bytes) s
        (cond cs (released (cond dc (data_in bytes s) (begun_all t bytes s))) (cond dc (data_in bytes s) (begun_all t bytes s)))
    go true cs = last cs (data_in bytes s) (data-grown bytes s g)
    go false cs = last cs (begun_all t bytes s) (all_grown t bytes s g)

pub never-over :
    (t : ℕ) (dc : Bool) (bytes : List ℕ) (cs : Bool) (cells : ℕ) (s : St7789p3) → Good s → Bounded s → transfer_refusal s cells (length bytes) ≡ 0 →
    Bounded (moved t dc bytes cs s)
never-over t dc bytes cs cells s g w e =
    let r = none-refused s cells (length bytes) e in
    let n : length bytes ≤ 65536 = ltb-false 65536 (length bytes) (r 2) in
    let low : (i : ℕ) → get_or (counts_of s) i 0 ≤ 2 ^ 63 = λ i. ltb-false (2 ^ 63) (get_or (counts_of s) i 0) (each-fails high (counts_of s) (r 3) i 0 refl) in
    let h = moved-grown t dc bytes cs s g in
    record {
      commands = omega (arith, h.commands, low 0);
      ramwrs = omega (arith, h.ramwrs, low 1);
      pixels = omega (arith, h.pixels, low 2);
      dropped = omega (arith, h.dropped, low 3);
      inverted = omega (arith, h.inverted, low 4);
      unmapped = omega (arith, h.unmapped, low 5);
      held = λ i. omega (arith, h.each i, low 6, w.held i);
    }

pub transferred-bounded :
    (t : ℕ) (dc : Bool) (bytes : List ℕ) (cs : Bool) (cells : ℕ) (s : St7789p3) → Good s → Bounded s → Bounded (transferred t dc bytes cs cells s)
unfolding transferred
transferred-bounded t dc bytes cs cells s g w = go (eqb (transfer_refusal s cells (length bytes)) 0) refl
  where
    go : (b : Bool) → eqb (transfer_refusal s cells (length bytes)) 0 ≡ b → Bounded (cond b (moved t dc bytes cs s) s)
    go true e = never-over t dc bytes cs cells s g w (eqb-true (transfer_refusal s cells (length bytes)) 0 e)
    go false e = w
