-- Every public operation of text, lines, listing, report, boot, logs and replay: its promise, which is its contract, leaves no room.
use mathlib.Core.Path.{◌≡◌, refl}
use seplogic.Ra.Ura.{Ura}
use base.Logic.{SProp}
use prog.Memory.{Memory}
use prog.Routine.{Routine}
use types.Logic.{Logic}
use contract.Lifetimes.{Lfts}
use contract.Monad.{Fun, fact}
use denote.Triple.Entry.{Args, Res}
use denote.Triple.Clauses.{AtExit}
use Rattle.text.specs.contracts.put_byte as put_byte
use Rattle.text.proofs.put_byte.Reads as put_byte-reads
use Rattle.text.specs.contracts.put_bytes as put-bytes
use Rattle.text.proofs.put_bytes.Reads as put-bytes-reads
use Rattle.text.specs.contracts.put_decimal as put-decimal
use Rattle.text.proofs.put_decimal.Reads as put-decimal-reads
use Rattle.text.specs.contracts.put_hex as put-hex
use Rattle.text.proofs.put_hex.Reads as put-hex-reads
use Rattle.lines.specs.contracts.put_numbers as put-numbers
use Rattle.lines.proofs.put_numbers.Reads as put-numbers-reads
use Rattle.lines.specs.contracts.put_hex_bytes as put-hex-bytes
use Rattle.lines.proofs.put_hex_bytes.Reads as put-hex-bytes-reads
use Rattle.lines.specs.contracts.put_line as put-line
use Rattle.lines.proofs.put_line.Reads as put-line-reads
use Rattle.listing.specs.contracts.put_params as put-params
use Rattle.listing.proofs.put_params.Reads as put-params-reads
use Rattle.listing.specs.contracts.put_record as put_record
use Rattle.listing.proofs.put_record.Reads as put_record-reads
use Rattle.listing.specs.contracts.put_trace as put-trace
use Rattle.listing.proofs.put_trace.Reads as put-trace-reads
use Rattle.listing.specs.contracts.put_warnings as put-warnings
use Rattle.listing.proofs.put_warnings.Reads as put-warnings-reads
use Rattle.report.specs.contracts.write_report as write-report
use Rattle.report.proofs.write_report.Reads as write-report-reads
use Rattle.sequence.specs.contracts.BootStep.at as at
use Rattle.sequence.proofs.BootStep.at.Reads as at-reads
use Rattle.boot.specs.contracts.BootCheck.number as step-number
use Rattle.boot.proofs.BootCheck.number.Reads as step-number-reads
use Rattle.boot.specs.contracts.judge as judge
use Rattle.boot.proofs.judge.Reads as judge-reads
use Rattle.boot.specs.contracts.boot_mismatch as boot-mismatch
use Rattle.boot.specs.contracts.trace_mismatch as trace-mismatch
use Rattle.boot.proofs.trace_mismatch.Reads as trace-mismatch-reads
use Rattle.logs.specs.contracts.check as check
use Rattle.logs.proofs.check.Reads as check-reads
use Rattle.logs.specs.contracts.head_at as head_at
use Rattle.logs.proofs.head_at.Reads as head_at-reads
use Rattle.replay.specs.contracts.replay as replay
use Rattle.replay.proofs.replay.Reads as replay-reads
use Rattle.replay.specs.contracts.print_log as print-log
use Rattle.replay.proofs.print_log.Reads as print-log-reads
use Rattle.no_room.specs.Only.{Only, compares}
use Rattle.no_room.proofs.Only.{same, told-check}

pub put-byte-one : Only put_byte.ended put_byte-reads.Learnt
put-byte-one κs args x y u v p q = (same p.0 q.0, λ i. (same p.1 q.1 i, (tt, (tt, tt))))

pub put-bytes-one : Only put-bytes.ended put-bytes-reads.Learnt
put-bytes-one κs args x y u v p q = (same p.0 q.0, λ i. (same p.1 q.1 i, (tt, (tt, tt))))

pub put-decimal-one : Only put-decimal.ended put-decimal-reads.Learnt
put-decimal-one κs args x y u v p q = (same p.0 q.0, λ i. (same p.1 q.1 i, (tt, (tt, tt))))

pub put-hex-one : Only put-hex.ended put-hex-reads.Learnt
put-hex-one κs args x y u v p q = (same p.0 q.0, λ i. (same p.1 q.1 i, (tt, (tt, (tt, tt)))))

pub put-numbers-one : Only put-numbers.ended put-numbers-reads.Learnt
put-numbers-one κs args x y u v p q = (same p.0 q.0, λ i. (same p.1 q.1 i, (tt, (tt, tt))))

pub put-hex-bytes-one : Only put-hex-bytes.ended put-hex-bytes-reads.Learnt
put-hex-bytes-one κs args x y u v p q = (same p.0 q.0, λ i. (same p.1 q.1 i, (tt, (tt, tt))))

pub put-line-one : Only put-line.ended put-line-reads.Learnt
put-line-one κs args x y u v p q = (same p.0 q.0, λ i. (same p.1 q.1 i, (tt, (tt, (tt, tt)))))

pub put-params-one : Only put-params.ended put-params-reads.Learnt
put-params-one κs args x y u v p q = (same p.0 q.0, λ i. (same p.1 q.1 i, (tt, (tt, tt))))

pub put-record-one : Only put_record.ended put_record-reads.Learnt
put-record-one κs args x y u v p q = (same p.0 q.0, λ i. (same p.1 q.1 i, (tt, (tt, tt))))

pub put-trace-one : Only put-trace.ended put-trace-reads.Learnt
put-trace-one κs args x y u v p q = (same p.0 q.0, λ i. (same p.1 q.1 i, (tt, (tt, (tt, tt)))))

pub put-warnings-one : Only put-warnings.ended put-warnings-reads.Learnt
put-warnings-one κs args x y u v p q = (same p.0 q.0, λ i. (same p.1 q.1 i, (tt, (tt, (tt, tt)))))

pub write-report-one : Only write-report.ended write-report-reads.Learnt
write-report-one κs args x y u v p q = (same p.0 q.0, λ i. (tt, (same p.1 q.1 i, tt)))

pub at_one : Only at.ended at-reads.Learnt
at_one κs args x y u v p q = (same p q, refl)

pub step-number-one : Only step-number.ended step-number-reads.Learnt
step-number-one κs args x y u v p q = (same p q, refl)

pub judge-one : Only judge.ended judge-reads.Learnt
judge-one κs args x y u v p q = (same p q, refl)

-- The comparison over a slice of records: its promise as it is written out is its contract.
pub boot-mismatch-says :
    {M : Type 1} {𝓤 : Ura M} (𝓛 : Logic 𝓤) (mem : Memory → SProp 𝓤) (run : Routine → Fun 𝓤) (κs : Lfts 1)
    (args : Args (boot-mismatch.ended).signature κs) (x : Res (boot-mismatch.ended).signature κs) (e : AtExit boot-mismatch.ended κs) →
    (boot-mismatch.clauses 𝓛 mem run κs args).ensures tt x e ≡ fact 𝓤 (compares κs args x e)
boot-mismatch-says 𝓛 mem run κs args x e = refl

pub boot-mismatch-one : Only boot-mismatch.ended compares
boot-mismatch-one κs args x y u v p q = (same p q, refl)

pub trace-mismatch-one : Only trace-mismatch.ended trace-mismatch-reads.Learnt
trace-mismatch-one κs args x y u v p q = (same p q, refl)

pub check-one : Only check.ended check-reads.Learnt
check-one κs args x y u v p q = (told-check x y p.0 q.0 p.1 q.1, refl)

pub head-at-one : Only head_at.ended head_at-reads.Learnt
head-at-one κs args x y u v p q = (same p q, refl)

pub replay-one : Only replay.ended replay-reads.Learnt
replay-one κs args x y u v p q = (
  λ i. record { panel = same p.1.1 q.1.1 i; checked = told-check x.checked y.checked p.0 q.0 p.1.0 q.1.0 i },
  refl,
)

pub print-log-one : Only print-log.ended print-log-reads.Learnt
print-log-one κs args x y u v p q = (same p.0 q.0, λ i. (tt, (same p.1 q.1 i, tt)))
