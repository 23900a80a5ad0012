-- What is done to a list, told by its content alone: entries pushed onto it, and the current record changed.
use Rattle.std.specs.Prelude.{Option, Some, None}
use Prim.Native.Nat.{ℕ, ◌+◌, ◌-◌, ◌≤◌, ◌<◌, min}
use mathlib.Core.Path.{◌≡◌, refl, sym, ap, ◌∙◌}
use mathlib.Core.Bool.{false}
use mathlib.Core.List.{List, ◌++◌, map}
use lib.ListN.{length, take, set, get_or}
use lib.Seq.{take-set-lt}
use native.Mathlib.Omega.{arith}
use Rattle.lists.specs.Fixed.{Fixed, used, push_all}
use Rattle.lists.specs.Params.{fixed, filled}
use Rattle.lists.specs.Entries.{record_long}
use Rattle.lists.specs.declared.Params.{Params}
use Rattle.lists.specs.declared.TraceRecord.{TraceRecord}
use Rattle.lists.proofs.Fixed.{used_all, count-all}
use Rattle.lists.proofs.Filling.{filled-all}
use Rattle.std.proofs.lemmas.List.{map-set}
use Rattle.st7789.specs.Data.{no_record, on_current}
use Rattle.laws.specs.Same.{InUse, in_use, Entry, entry}
use Rattle.laws.proofs.Traces.{Lined, lasting}
use Rattle.laws.proofs.Contents.{no_entry, entry_at}

-- Entries pushed onto a list, and so bytes onto parameters.
abbrev pub pushed_in : {A : Type 0} → ℕ → List A → InUse A → InUse A
pushed_in most xs u = record { count = u.count + min (length xs) (most - u.count); part = take most (u.part ++ xs) }

pub pushed-content :
    {A : Type 0} (most : ℕ) (f : Fixed A) (xs : List A) → f.count ≤ most → most ≤ length f.places →
    in_use (push_all most f xs) ≡ pushed_in most xs (in_use f)
pushed-content most f xs few long i = record { count = count-all most f xs i; part = used_all most f xs few long i }

pub filled-content :
    (p : Params) (bytes : List ℕ) → p.count ≤ 14 → length p.bytes ≡ 14 →
    in_use (fixed (filled p bytes)) ≡ pushed_in 14 bytes (in_use (fixed p))
filled-content p bytes few long =
    ap (λ q. in_use (fixed q)) (filled-all p bytes) ∙ pushed-content 14 (fixed p) bytes few (omega arith)

-- The current record changed.
abbrev pub on_entry : (Entry → Entry) → Option ℕ → List Entry → List Entry
on_entry g None es = es
on_entry g (Some i) es = set es i (g (get_or es i no_entry))

pub current-content :
    (f : TraceRecord → TraceRecord) (g : Entry → Entry) →
    ((x : TraceRecord) → record_long x ≡ false → length x.params.bytes ≡ 14 → entry (f x) ≡ g (entry x)) →
    (k : Option ℕ) (t : Fixed TraceRecord) (p : Params) → Lined k t p →
    map entry (take t.count (on_current f k t.places)) ≡ on_entry g k (map entry (used t))
current-content f g e None t p v = refl
current-content f g e (Some i) t p v =
    let n = t.count in
    let l = t.places in
    let r = get_or l i no_record in
    let c = lasting v in
    let h : i < n = omega (arith, c.last) in
    ap (map entry) (take-set-lt n l i (f r) h)
    ∙ map-set entry (take n l) i (f r)
    ∙ ap (set (map entry (take n l)) i) (e r c.short c.room ∙ ap g (sym (entry_at t i h)))
