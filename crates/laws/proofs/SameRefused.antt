-- Same states are refused alike: the content tells the number.
use Rattle.std.specs.Prelude.{Some, None, Option}
use Prim.Native.Nat.{ℕ, ◌+◌, ◌<◌}
use mathlib.Core.Path.{◌≡◌, refl, sym, ap, ◌∙◌}
use mathlib.Core.Bool.{Bool, true, false, cond, not, ◌&&◌, ◌||◌}
use mathlib.Core.List.{List, map}
use native.Mathlib.Omega.{arith}
use borrow.Author.Tests.{eqb-true, not-false}
use lib.Dec.{eqb, ltb}
use lib.ListN.{get_or}
use Rattle.lists.specs.Fixed.{Fixed, used}
use Rattle.lists.specs.Params.{fixed, too_long, same_numbers, differ}
use Rattle.lists.specs.Entries.{some, stored_long, record_long}
use Rattle.lists.specs.declared.Params.{Params}
use Rattle.lists.specs.declared.Stored.{Stored}
use Rattle.lists.specs.declared.TraceRecord.{TraceRecord}
use Rattle.std.proofs.lemmas.Bool.{or_parts}
use Rattle.lists.proofs.Maps.{some-told}
use Rattle.status.specs.Tests.{first, transfer_row}
use Rattle.st7789.specs.Parts.{trace_of}
use Rattle.st7789.specs.Data.{no_record}
use Rattle.st7789.specs.Refusals.{current_bad, itself, clauses, bad_state, pixels_held, counted, counts_of, transfer_refusal, bare_refusal}
use Rattle.st7789.specs.declared.St7789p3.{St7789p3}
use Rattle.st7789.proofs.Tests.{clause}
use Rattle.st7789.proofs.Accepted.{bare}
use Rattle.laws.specs.Same.{InUse, in_use, stored_content, Entry, entry, Content, content, Same}
use Rattle.laws.proofs.Contents.{no_entry, entry_at}

-- The clauses of BAD_STATE that look into a list.
abbrev long_in : Option (InUse ℕ) → Bool
long_in None = false
long_in (Some u) = ltb 14 u.count

abbrev entry_long : Entry → Bool
entry_long x = ltb 14 x.params.count

abbrev current_in : Option ℕ → ℕ → List Entry → InUse ℕ → Bool
current_in None n es u = false
current_in (Some i) n es u =
    not (eqb (i + 1) n)
    || (not (eqb (get_or es i no_entry).params.count u.count) || not (same_numbers (get_or es i no_entry).params.part u.part))

stored-told : (e : Stored) → stored_long e ≡ long_in (stored_content e)
stored-told e = go e.present
  where
    go : (b : Bool) → b && too_long e.params ≡ long_in (cond b (Some (in_use (fixed e.params))) None)
    go true = refl
    go false = refl

current-told :
    (k : Option ℕ) (t : Fixed TraceRecord) (p : Params) → current_bad k t p ≡ current_in k t.count (map entry (used t)) (in_use (fixed p))
unfolding differ
current-told None t p = refl
current-told (Some i) t p = by-test (eqb (i + 1) t.count) refl
  where
    by-entry : Bool → Entry → Bool
    by-entry b x =
        not b || (not (eqb x.params.count p.count) || not (same_numbers x.params.part (in_use (fixed p)).part))

    by-test :
        (b : Bool) → eqb (i + 1) t.count ≡ b →
        by-entry b (entry (get_or t.places i no_record)) ≡ by-entry b (get_or (map entry (used t)) i no_entry)
    by-test true eb =
        let last : i + 1 ≡ t.count = eqb-true (i + 1) t.count eb in
        let h : i < t.count = omega (arith, last) in
        ap (by-entry true) (sym (entry_at t i h))
    by-test false eb = refl

abbrev bad_in : Content → Bool
bad_in v =
    some itself
    (clauses v.fields (some long_in v.stored) (some entry_long v.trace)
    (current_in v.fields.logs.current v.fields.logs.traced v.trace v.params))

bad-told : (s : St7789p3) → bad_state s ≡ bad_in (content s)
unfolding bad_state
bad-told s i =
    some itself
    (clauses s.controller (some-told stored_content stored_long long_in stored-told s.stored i)
    (some-told entry record_long entry_long (λ x. refl) (used (trace_of s)) i)
    (current-told s.controller.logs.current (trace_of s) s.controller.chip.decoder.params i))

pub bad-same : (s r : St7789p3) → Same s r → bad_state s ≡ bad_state r
bad-same s r e = bad-told s ∙ ap bad_in e ∙ sym (bad-told r)

-- The pixel bytes that COUNT_HIGH looks at.
abbrev held_in : Option ℕ → List Entry → ℕ
held_in None es = 0
held_in (Some i) es = (get_or es i no_entry).pixels

held-told :
    (k : Option ℕ) (t : Fixed TraceRecord) (p : Params) → current_bad k t p ≡ false → pixels_held k t.places ≡ held_in k (map entry (used t))
held-told None t p e = refl
held-told (Some i) t p e =
    let last : i + 1 ≡ t.count = eqb-true (i + 1) t.count (not-false (eqb (i + 1) t.count) (or_parts _ _ e).0) in
    let h : i < t.count = omega (arith, last) in
    ap (λ (x : Entry). x.pixels) (sym (entry_at t i h))

pub refusal_in : Content → ℕ → ℕ → ℕ
refusal_in v cells n = first (transfer_row (bad_in v) cells n (counted v.fields (held_in v.fields.logs.current v.trace)))

pub refusal-told : (s : St7789p3) (cells n : ℕ) → transfer_refusal s cells n ≡ refusal_in (content s) cells n
unfolding transfer_refusal refusal_in
refusal-told s cells n = by-test (bad_state s) refl
  where
    by-test : (b : Bool) → bad_state s ≡ b → transfer_refusal s cells n ≡ refusal_in (content s) cells n
    by-test true e =
        ap (λ b. first (transfer_row b cells n (counts_of s))) e
        ∙ sym (ap (λ b. first (transfer_row b cells n (counted s.controller (held_in s.controller.logs.current (content s).trace)))) (sym (bad-told s) ∙ e))
    by-test false e = λ i.
        first
        (transfer_row (bad-told s i) cells n
        (counted s.controller (held-told s.controller.logs.current (trace_of s) s.controller.chip.decoder.params (clause s e 8) i)))

pub refusal-same : (s r : St7789p3) → Same s r → (cells n : ℕ) → transfer_refusal s cells n ≡ transfer_refusal r cells n
refusal-same s r e cells n = refusal-told s cells n ∙ ap (λ v. refusal_in v cells n) e ∙ sym (refusal-told r cells n)

pub bare-same : (s r : St7789p3) → Same s r → (n : ℕ) → bare_refusal s n ≡ bare_refusal r n
bare-same s r e n = sym (bare s n) ∙ refusal-same s r e 76800 n ∙ bare r n
