-- Every public operation of st7789, light, views and publishing: its promise, which is its contract, leaves no room.
use Prim.Native.Nat.{ℕ}
use mathlib.Core.Path.{◌≡◌, refl}
use mathlib.Core.List.{List}
use Rattle.status.specs.Numbers.{number}
use Rattle.st7789.specs.declared.Answer.{Answer}
use Rattle.st7789.specs.declared.St7789p3.{St7789p3}
use Rattle.st7789.specs.contracts.Controller.fresh as controller-fresh
use Rattle.st7789.proofs.Controller.fresh.Reads as controller-fresh-reads
use Rattle.st7789.specs.contracts.St7789p3.fresh as fresh
use Rattle.st7789.proofs.St7789p3.fresh.Reads as fresh-reads
use Rattle.st7789.specs.contracts.Controller.set_powered as set-powered
use Rattle.st7789.proofs.Controller.set_powered.Reads as set-powered-reads
use Rattle.st7789.specs.contracts.Controller.set_invon_shows_ram as set-invon-shows-ram
use Rattle.st7789.proofs.Controller.set_invon_shows_ram.Reads as set-invon-shows-ram-reads
use Rattle.st7789.specs.contracts.Controller.set_brightness as set-brightness
use Rattle.st7789.proofs.Controller.set_brightness.Reads as set-brightness-reads
use Rattle.st7789.specs.contracts.Controller.mark_all_dirty as mark-all-dirty
use Rattle.st7789.proofs.Controller.mark_all_dirty.Reads as mark-all-dirty-reads
use Rattle.st7789.specs.contracts.St7789p3.take_warnings as take-warnings
use Rattle.st7789.proofs.St7789p3.take_warnings.Reads as take-warnings-reads
use Rattle.st7789.specs.contracts.St7789p3.transfer as transfer
use Rattle.st7789.proofs.St7789p3.transfer.Reads as transfer-reads
use Rattle.st7789.specs.contracts.St7789p3.reset as reset
use Rattle.st7789.proofs.St7789p3.reset.Reads as reset-reads
use Rattle.st7789.specs.contracts.St7789p3.new as new
use Rattle.st7789.proofs.St7789p3.new.Reads as new-reads
use Rattle.st7789.specs.contracts.St7789p3.bad_state as bad-state
use Rattle.st7789.proofs.St7789p3.bad_state.Reads as bad-state-reads
use Rattle.light.specs.contracts.dim as dim
use Rattle.light.proofs.dim.Reads as dim-reads
use Rattle.light.specs.contracts.seen as seen
use Rattle.light.proofs.seen.Reads as seen-reads
use Rattle.light.specs.contracts.fill as fill
use Rattle.light.proofs.fill.Reads as fill-reads
use Rattle.views.specs.contracts.pixel as pixel
use Rattle.views.proofs.pixel.Reads as pixel-reads
use Rattle.views.specs.contracts.frame as frame
use Rattle.views.proofs.frame.Reads as frame-reads
use Rattle.views.specs.contracts.row as row
use Rattle.views.proofs.row.Reads as row-reads
use Rattle.publishing.specs.contracts.publish as publish
use Rattle.publishing.proofs.publish.Reads as publish-reads
use Rattle.no_room.specs.Only.{Only, OnlyAs}
use Rattle.no_room.proofs.Only.{same, told, told-value}

-- An answer is a panel and a status.
answered :
    (x y : Answer) {n : ℕ} {s : St7789p3} → number x.status ≡ n → number y.status ≡ n → x.panel ≡ s → y.panel ≡ s → x ≡ y
answered x y p q e f i = record { panel = same e f i; status = told x.status y.status p q i }

pub controller-fresh-one : Only controller-fresh.ended controller-fresh-reads.Learnt
controller-fresh-one κs args x y u v p q = (same p q, refl)

pub fresh-one : Only fresh.ended fresh-reads.Learnt
fresh-one κs args x y u v p q = (same p q, refl)

pub set-powered-one : Only set-powered.ended set-powered-reads.Learnt
set-powered-one κs args x y u v p q = (same p q, refl)

pub set-invon-shows-ram-one : Only set-invon-shows-ram.ended set-invon-shows-ram-reads.Learnt
set-invon-shows-ram-one κs args x y u v p q = (same p q, refl)

pub set-brightness-one : Only set-brightness.ended set-brightness-reads.Learnt
set-brightness-one κs args x y u v p q = (same p q, refl)

pub mark-all-dirty-one : Only mark-all-dirty.ended mark-all-dirty-reads.Learnt
mark-all-dirty-one κs args x y u v p q = (same p q, refl)

pub take-warnings-one : Only take-warnings.ended take-warnings-reads.Learnt
take-warnings-one κs args x y u v p q = (same p q, refl)

pub transfer-one : Only transfer.ended transfer-reads.Learnt
transfer-one κs args x y u v p q = (
  λ i.
      record {
        panel = same p.1.0 q.1.0 i;
        totals = same p.1.1.0 q.1.1.0 i;
        status = told x.status y.status p.0 q.0 i;
      },
  λ i. (tt, (tt, (tt, (tt, (tt, (tt, (same p.1.1.1 q.1.1.1 i, tt))))))),
)

pub reset-one : Only reset.ended reset-reads.Learnt
reset-one κs args x y u v p q = (
  answered x y p.0 q.0 p.1.0 q.1.0,
  λ i. (tt, (tt, (same p.1.1 q.1.1 i, tt))),
)

pub new-one : Only new.ended new-reads.Learnt
new-one κs args x y u v p q = (
  answered x y p.0 q.0 p.1.0 q.1.0,
  λ i. (tt, (same p.1.1 q.1.1 i, tt)),
)

pub bad-state-one : Only bad-state.ended bad-state-reads.Learnt
bad-state-one κs args x y u v p q = (same p q, refl)

pub dim-one : Only dim.ended dim-reads.Learnt
dim-one κs args x y u v p q = (same p q, refl)

pub seen_one : Only seen.ended seen-reads.Learnt
seen_one κs args x y u v p q = (same p q, refl)

pub fill_one : Only fill.ended fill-reads.Learnt
fill_one κs args x y u v p q = (refl, λ i. (tt, (tt, (tt, (same p q i, tt)))))

pub pixel-one : Only pixel.ended pixel-reads.Learnt
pixel-one κs args x y u v p q = (told-value x y p.0 q.0 p.1 q.1, refl)

pub frame-one : Only frame.ended frame-reads.Learnt
frame-one κs args x y u v p q = (told x y p.0 q.0, λ i. (tt, (tt, (tt, (same p.1 q.1 i, tt)))))

-- A lent part is told by its numbers; where it stands is the borrow's to say.
pub row_one : OnlyAs row.ended (λ κs. List ℕ) (λ κs r. r.now) row-reads.Learnt
row_one κs args x y u v p q = (same p q, refl)

pub publish-one : Only publish.ended publish-reads.Learnt
publish-one κs args x y u v p q = (
  λ i. record {
    panel = same p.1.0 q.1.0 i;
    span = same p.1.1.0 q.1.1.0 i;
    flags = same p.1.1.1.0 q.1.1.1.0 i;
    status = told x.status y.status p.0 q.0 i;
  },
  λ i. (tt, (tt, (same p.1.1.1.1 q.1.1.1.1 i, tt))),
)
