-- The offset that BAD_LOG gives: before it stand good records, and from it on the log begins with a bad one.
use Prim.Native.Nat.{ℕ, ◌-◌, ◌<◌}
use mathlib.Core.Path.{◌≡◌, refl, sym, ap, ap₂, ◌∙◌}
use mathlib.Core.Bool.{Bool, true, false, cond, true≢false}
use mathlib.Core.List.{List, [], ◌∷◌, ◌++◌, append_assoc}
use native.Mathlib.Omega.{arith}
use borrow.Author.Tests.{eqb-false}
use lib.Dec.{ltb, eqb}
use lib.ListN.{length, drop, length-append, take-append-drop}
use lib.Seq.{drop_at}
use Rattle.logs.specs.Log.{Segment, encoded, log_of, record_length, segment_of, record_bad, from_bad, log_refusal, bad_offset}
use Rattle.logs.specs.Stored.{Bytes, Storable, Each, BadAt}
use Rattle.logs.proofs.Bytes.{bytes_drop}
use Rattle.logs.proofs.Records.{whole, bad-here, bad-later, bad-never, by-records}
use Rattle.logs.proofs.Stored.{stored-good}
use Rattle.logs.proofs.Readback.{stored-again, segment-fits}

-- The log up to its first bad record is stored segments, and the bytes from there on begin with that record.
record Found (log : List ℕ) : Type 0 where
  before : List Segment
  storable : Each Storable before
  splits : log ≡ log_of before ++ from_bad log
  bad : 0 < length (from_bad log) → record_bad (from_bad log) ≡ true

found_none : Found []
found_none = record { before = []; storable = tt; splits = sym bad-never; bad = λ h. absurd (omega (arith, ap length bad-never)) }

found_here : (rest : List ℕ) → from_bad rest ≡ rest → record_bad rest ≡ true → Found rest
found_here rest here e = record { before = []; storable = tt; splits = sym here; bad = λ h. ap record_bad here ∙ e }

found-later : (rest : List ℕ) → 0 < length rest → Bytes rest → record_bad rest ≡ false → Found (drop (record_length rest) rest) → Found rest
found-later rest some bytes good f =
    let later = bad-later rest some good in
    let behind = drop (record_length rest) rest in
    let all : rest ≡ encoded (segment_of rest) ++ (log_of f.before ++ from_bad behind) =
    sym (take-append-drop (record_length rest) rest) ∙ ap₂ (λ m n. m ++ n) (sym (stored-again rest bytes (whole rest good))) f.splits
    in
    record {
      before = segment_of rest ∷ f.before;
      storable = (segment-fits rest bytes, f.storable);
      splits =
          all
          ∙ sym (append_assoc (encoded (segment_of rest)) (log_of f.before) (from_bad behind))
          ∙ ap (λ l. (encoded (segment_of rest) ++ log_of f.before) ++ l) (sym later);
      bad = λ h. ap record_bad later ∙ f.bad (omega (arith, ap length later));
    }

found : (log : List ℕ) → Bytes log → Found log
found =
    by-records (λ log. Bytes log → Found log) (λ bytes. found_none)
    (λ rest some left bytes. one rest some bytes (left (bytes_drop (record_length rest) rest bytes)) (record_bad rest) refl)
  where
    one :
        (rest : List ℕ) → 0 < length rest → Bytes rest → Found (drop (record_length rest) rest) → (b : Bool) → record_bad rest ≡ b → Found rest
    one rest some bytes f true e = found_here rest (bad-here rest some e) e
    one rest some bytes f false e = found-later rest some bytes e f

bad-at : (log : List ℕ) → Found log → 0 < length (from_bad log) → BadAt log (length log - length (from_bad log))
bad-at log f some =
    let at = length log - length (from_bad log) in
    let long : length log ≡ length (log_of f.before ++ from_bad log) = ap length f.splits in
    let offset : length (log_of f.before) ≡ at = omega (arith, long, length-append (log_of f.before) (from_bad log)) in
    let last : drop at log ≡ from_bad log = ap (drop at) f.splits ∙ drop_at (log_of f.before) (from_bad log) at offset in
    let bad : record_bad (drop at log) ≡ true = ap record_bad last ∙ f.bad some in
    record {
      before = f.before;
      storable = f.storable;
      splits = f.splits ∙ ap (λ l. log_of f.before ++ l) (sym last);
      offset = offset;
      inside = omega (arith, some, long, length-append (log_of f.before) (from_bad log));
      bad = bad;
      none = λ s behind fits e. true≢false (sym bad ∙ sym (ap record_bad e) ∙ stored-good s behind fits);
    }

pub offset-bad : (log : List ℕ) → Bytes log → log_refusal log ≡ 7 → BadAt log (bad_offset log)
unfolding log_refusal bad_offset
offset-bad log bytes e = go (ltb 65536 (length log)) (eqb (length (from_bad log)) 0) refl refl e
  where
    go :
        (long none : Bool) → ltb 65536 (length log) ≡ long → eqb (length (from_bad log)) 0 ≡ none →
        cond {A = ℕ} long 6 (cond none 0 7) ≡ 7 → BadAt log (bad_offset log)
    go true none p q z = absurd (omega arith)
    go false true p q z = absurd (omega arith)
    go false false p q z = rw (p, q) (bad-at log (found log bytes) (omega (arith, eqb-false (length (from_bad log)) 0 q)))
