-- The trace in a good state: no used record is too long, and the current one is the last used, with the parameters in force.
use Rattle.std.specs.Prelude.{Option, Some, None}
use Prim.Native.Nat.{ℕ, ◌+◌, ◌≤◌, ◌<◌}
use mathlib.Core.Path.{◌≡◌, refl, ap, ◌∙◌}
use mathlib.Core.Bool.{Bool, true, false, not}
use mathlib.Core.List.{List, [], ◌∷◌}
use native.Mathlib.Numerals.{add-one}
use native.Mathlib.Omega.{arith}
use borrow.Author.Tests.{eq-eqb, eqb-true, eqb-false, ltb-false, le-ltb, not-false}
use lib.Dec.{eqb}
use lib.ListN.{length, get_or, set, take, length-set}
use lib.Seq.{take-suc-set, take-set-lt, get_or-set_same, get_or-set_other, get_or-take}
use Rattle.lists.specs.Fixed.{Fixed, places, used}
use Rattle.lists.specs.Params.{differ}
use Rattle.lists.specs.Entries.{some, record_long}
use Rattle.lists.specs.declared.Params.{Params}
use Rattle.lists.specs.declared.TraceRecord.{TraceRecord}
use Rattle.std.proofs.lemmas.Bool.{or_parts}
use Rattle.lists.proofs.Somes.{each-fails, none-append, none-set}
use Rattle.st7789.specs.Data.{no_record, on_current}
use Rattle.st7789.specs.Refusals.{count_bad, current_bad}

-- Every place of the trace has room for 14 bytes.
abbrev pub Roomy : List TraceRecord → Type 0
Roomy l = (i : ℕ) → i < places → length (get_or l i no_record).params.bytes ≡ 14

roomy-set : (l : List TraceRecord) (k : ℕ) (r : TraceRecord) → length l ≡ places → length r.params.bytes ≡ 14 → Roomy l → Roomy (set l k r)
roomy-set l k r long fits roomy i h = go (eqb i k) refl
  where
    go : (b : Bool) → eqb i k ≡ b → length (get_or (set l k r) i no_record).params.bytes ≡ 14
    go true e =
        let s : i ≡ k = eqb-true i k e in
        ap (λ j. length (get_or (set l k r) j no_record).params.bytes) s
        ∙ ap (λ x. length x.params.bytes) (get_or-set_same l k r no_record (omega (arith, long)))
        ∙ fits
    go false e = ap (λ x. length x.params.bytes) (get_or-set_other l k i r no_record (eqb-false i k e)) ∙ roomy i h

-- A trace with its current record that is as a good state has it beside the parameters p in force.
pub record Lined (k : Option ℕ) (f : Fixed TraceRecord) (p : Params) : Type 0 where
  pub long : length f.places ≡ places
  pub roomy : Roomy f.places
  pub short : some record_long (used f) ≡ false
  pub few : count_bad f.count ≡ false
  pub current : current_bad k f p ≡ false

module _ {k : Option ℕ} {f : Fixed TraceRecord} {p : Params} (v : Lined k f p) where
  -- No record is current.
  pub unwatched : (q : Params) → Lined None f q
  unwatched q = record { long = v.long; roomy = v.roomy; short = v.short; few = v.few; current = refl }

  -- One record more, which is the current one.
  pub pushed :
      (r : TraceRecord) (q : Params) → f.count < places → record_long r ≡ false → length r.params.bytes ≡ 14 → differ r.params q ≡ false →
      Lined (Some f.count) (record { count = f.count + 1; places = set f.places f.count r }) q
  pushed r q free e fits d =
      let n = f.count in
      let l = f.places in
      record {
        long = length-set l n r ∙ v.long;
        roomy = roomy-set l n r v.long fits v.roomy;
        short = rw (add-one n, take-suc-set l n r (omega (arith, free, v.long))) (none-append record_long (take n l) (r ∷ []) v.short (rw e refl));
        few = le-ltb places (n + 1) (omega (arith, free));
        current = rw (eq-eqb (n + 1) (n + 1) refl, get_or-set_same l n r no_record (omega (arith, free, v.long))) d;
      }

-- What is known of the current record: it is the last used one, short enough, with the parameters in force.
pub record Lasting (f : Fixed TraceRecord) (p : Params) (i : ℕ) : Type 0 where
  pub last : i + 1 ≡ f.count
  pub few : f.count ≤ places
  pub short : record_long (get_or f.places i no_record) ≡ false
  pub room : length (get_or f.places i no_record).params.bytes ≡ 14
  pub alike : differ (get_or f.places i no_record).params p ≡ false

pub lasting : {f : Fixed TraceRecord} {p : Params} {i : ℕ} → Lined (Some i) f p → Lasting f p i
lasting {f} {p} {i} v =
    let n = f.count in
    let l = f.places in
    let t = or_parts (not (eqb (i + 1) n)) (differ (get_or l i no_record).params p) v.current in
    let last : i + 1 ≡ n = eqb-true (i + 1) n (not-false (eqb (i + 1) n) t.0) in
    let h : i < n = omega (arith, last) in
    let b : n ≤ places = ltb-false places n v.few in
    record {
      last = last;
      few = b;
      short = rw (get_or-take n l i no_record h) at (each-fails record_long (take n l) v.short i no_record refl);
      room = v.roomy i (omega (arith, h, b));
      alike = t.1;
    }

-- The current record changed: it stays short enough, and goes with what is now in force.
module _
    (g : TraceRecord → TraceRecord) (f : Fixed TraceRecord) (p q : Params)
    (keeps : (r : TraceRecord) → record_long r ≡ false → record_long (g r) ≡ false)
    (goes : (r : TraceRecord) → record_long r ≡ false → length r.params.bytes ≡ 14 → differ r.params p ≡ false → differ (g r).params q ≡ false)
    (fits : (r : TraceRecord) → length r.params.bytes ≡ 14 → length (g r).params.bytes ≡ 14)
  where
    pub changed : (k : Option ℕ) → Lined k f p → Lined k (record { count = f.count; places = on_current g k f.places }) q
    changed None v = unwatched v q
    changed (Some i) v =
        let n = f.count in
        let l = f.places in
        let r = get_or l i no_record in
        let c = lasting v in
        let h : i < n = omega (arith, c.last) in
        record {
          long = length-set l i (g r) ∙ v.long;
          roomy = roomy-set l i (g r) v.long (fits r c.room) v.roomy;
          short = rw (take-set-lt n l i (g r) h) (none-set record_long (take n l) i (g r) v.short (keeps r c.short));
          few = v.few;
          current =
              rw (eq-eqb (i + 1) n c.last, get_or-set_same l i (g r) no_record (omega (arith, h, c.few, v.long)))
              (goes r c.short c.room c.alike);
        }
