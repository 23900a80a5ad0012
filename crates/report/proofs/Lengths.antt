-- How long the report can get: 17,801 bytes hold it in every state that is not bad.
use Rattle.std.specs.Prelude.{Option, Some, None}
use Prim.Native.Nat.{ℕ, ◌+◌, ◌*◌, ◌≤◌}
use mathlib.Core.Path.{◌≡◌}
use mathlib.Core.Bool.{Bool, true, false, cond}
use mathlib.Core.List.{List, [], ◌∷◌}
use native.Mathlib.Nat.{mul-suc}
use native.Mathlib.Omega.{arith}
use borrow.Author.Tests.{ltb-false}
use lib.Dec.{eqb}
use lib.ListN.{length, length-append, length-take}
use Rattle.geometry.specs.declared.Window.{Window}
use Rattle.geometry.specs.declared.Pointer.{Pointer}
use Rattle.marks.specs.Rows.{span_of}
use Rattle.lists.specs.Fixed.{used}
use Rattle.lists.specs.Params.{listed}
use Rattle.lists.specs.Entries.{some, record_long}
use Rattle.lists.specs.declared.TraceRecord.{TraceRecord}
use Rattle.lists.specs.declared.Warning.{Warning}
use Rattle.std.proofs.lemmas.Bool.{or_parts}
use Rattle.chip.specs.declared.Registers.{Registers}
use Rattle.st7789.specs.Parts.{trace_of, warnings_of}
use Rattle.st7789.specs.Refusals.{bad_state}
use Rattle.st7789.specs.declared.Counts.{Counts}
use Rattle.st7789.specs.declared.St7789p3.{St7789p3}
use Rattle.st7789.proofs.Tests.{clause}
use Rattle.boot.specs.Boot.{compared, step_of}
use Rattle.text.proofs.Meaning.{decimal-most, length-hex}
use Rattle.text.specs.Numbers.{decimal, hex_digits}
use Rattle.lines.specs.Lines.{ascii, texts, number, hex_byte, numbers, hex_bytes, line}
use Rattle.listing.specs.Listing.{warning_line, trace_line}
use Rattle.report.specs.Report.{flag, regs_line, win_line, cnt_line, dirty_line, boot_line, state_lines, report}

-- Entries of at most k bytes each.
pub texts-most :
    {A : Type 0} (f : A → List ℕ) (k : ℕ) → ((x : A) → length (f x) ≤ k) → (l : List A) → length (texts f l) ≤ k * length l
unfolding texts
texts-most f k h [] = omega arith
texts-most f k h (x ∷ l) =
    let rest = texts-most f k h l in
    let one = h x in
    rw (length-append (f x) (texts f l), mul-suc k (length l)) (omega arith)

number-most : (n : ℕ) → length (number n) ≤ 21
number-most n = let h = decimal-most n in rw (length-append (ascii " ") (decimal n)) (omega arith)

hex-most : (b : ℕ) → length (hex_byte b) ≤ 3
hex-most b = let h = length-hex 2 b in rw (length-append (ascii " ") (hex_digits 2 b)) (omega arith)

pub numbers-most : (ns : List ℕ) → length (numbers ns) ≤ 21 * length ns
numbers-most ns = texts-most number 21 number-most ns

pub bytes_most : (bs : List ℕ) → length (hex_bytes bs) ≤ 3 * length bs
bytes_most bs = texts-most hex_byte 3 hex-most bs

pub line-most : (word ns : List ℕ) → length (line word ns) ≤ length word + 21 * length ns + 1
line-most word ns = let h = numbers-most ns in simp (length-append) (omega arith)

-- Line by line.
regs-most : (r : Registers) → length (regs_line r) ≤ 80
unfolding regs_line
regs-most r =
    let a = numbers-most (flag r.sleeping ∷ flag r.display_on ∷ flag r.inverted ∷ []) in
    let b = bytes_most (r.madctl ∷ r.colmod ∷ r.ramctrl0 ∷ r.ramctrl1 ∷ []) in
    simp (length-append) (omega arith)

win-most : (w : Window) (p : Pointer) → length (win_line w p) ≤ 130
unfolding win_line
win-most w p = let h = line-most (ascii "win") (w.xs ∷ w.xe ∷ w.ys ∷ w.ye ∷ p.x ∷ p.y ∷ []) in omega arith

cnt-most : (n : Counts) (warned : ℕ) → length (cnt_line n warned) ≤ 109
unfolding cnt_line
cnt-most n warned =
    let h = line-most (ascii "cnt") (n.commands ∷ n.ramwr_count ∷ n.pixels_written ∷ n.dropped_params ∷ warned ∷ []) in
    omega arith

dirty-most : (d : Option (ℕ × ℕ)) → length (dirty_line d) ≤ 48
unfolding dirty_line
dirty-most None = let h = line-most (ascii "dirty none") [] in omega arith
dirty-most (Some (first, last)) = let h = line-most (ascii "dirty") (first ∷ last ∷ []) in omega arith

boot-most : (step : ℕ) → length (boot_line step) ≤ 26
unfolding boot_line
boot-most step = go (eqb step 0)
  where
    go : (b : Bool) → length (cond b (line (ascii "boot ok") []) (line (ascii "boot") (step ∷ []))) ≤ 26
    go true = let h = line-most (ascii "boot ok") [] in omega arith
    go false = let h = line-most (ascii "boot") (step ∷ []) in omega arith

warning-most : (w : Warning) → length (warning_line w) ≤ 47
unfolding warning_line
warning-most w =
    let a = numbers-most (w.rule ∷ []) in
    let b = bytes_most (w.cmd ∷ []) in
    let d = numbers-most (w.at ∷ []) in
    simp (length-append) (omega arith)

trace-most : (r : TraceRecord) → record_long r ≡ false → length (trace_line r) ≤ 89
unfolding trace_line
trace-most r e =
    let n = ltb-false 14 r.params.count e in
    let k = length-take r.params.count r.params.bytes in
    let a = bytes_most (r.cmd ∷ []) in
    let b = numbers-most (r.at ∷ r.pixel_bytes ∷ []) in
    let d = bytes_most (listed r.params) in
    simp (length-append) (omega arith)

traces-most : (l : List TraceRecord) → some record_long l ≡ false → length (texts trace_line l) ≤ 89 * length l
unfolding texts
traces-most [] e = omega arith
traces-most (r ∷ l) e =
    let h = or_parts (record_long r) (some record_long l) e in
    let one = trace-most r h.0 in
    let rest = traces-most l h.1 in
    simp (length-append) (omega arith)

pub report-most : (s : St7789p3) → bad_state s ≡ false → length (report s) ≤ 17801
unfolding report state_lines
report-most s e =
    let a = regs-most s.controller.chip.registers in
    let b = win-most s.controller.chip.window s.controller.chip.walk.pointer in
    let c = cnt-most s.controller.counts s.controller.logs.warned in
    let d = dirty-most (span_of s.controller.marks) in
    let k = boot-most (step_of (compared (used (trace_of s))).check) in
    let w = texts-most warning_line 47 warning-most (used (warnings_of s)) in
    let t = traces-most (used (trace_of s)) (clause s e 4) in
    let wn = length-take s.controller.logs.warned s.warnings in
    let tn = length-take s.controller.logs.traced s.records in
    let wm = ltb-false 128 s.controller.logs.warned (clause s e 6) in
    let tm = ltb-false 128 s.controller.logs.traced (clause s e 5) in
    simp (length-append) (omega arith)
