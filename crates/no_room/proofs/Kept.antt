-- What keeps the promise of a transfer or of dimming leaves or answers what the definitions say; and something keeps each promise.
use mathlib.Core.Path.{◌≡◌, refl}
use mathlib.Core.Bool.{Bool, true, false, cond, not}
use mathlib.Core.List.{List, [], ◌∷◌}
use borrow.Author.Tests.{eqb-true, not-false}
use lib.Dec.{eqb}
use lib.ListN.{length}
use Rattle.status.specs.Numbers.{number}
use Rattle.status.specs.Tests.{Test, first, transfer_row, publish_row}
use Rattle.lists.specs.Entries.{some}
use Rattle.std.proofs.lemmas.Bool.{or_parts}
use Rattle.st7789.specs.Refusals.{bad_state, counts_of, transfer_refusal}
use Rattle.light.specs.Light.{dimmed}
use Rattle.publishing.specs.Publish.{publish_refusal}
use Rattle.no_room.specs.Panels.{after}
use Rattle.no_room.specs.Kept.{Transfer, KeepsTransfer, left_by, KeepsPublish, Dim, KeepsDim}
use Rattle.no_room.specs.Promised.{status_of, promised_transfer, promised_publish}

pub as-promised : (f : Transfer) → KeepsTransfer f → left_by f ≡ after
as-promised f keeps i p c = record { state = (keeps p c).1.0 i; memory = (keeps p c).1.1.1 i }

pub dim-as-promised : (f : Dim) → KeepsDim f → f ≡ dimmed
dim-as-promised f keeps i pixel level scale = keeps pixel level scale i

-- Whether a test's number is none of 01's.
abbrev nameless : Test → Bool
nameless x = not (eqb (number (status_of x.number)) x.number)

-- Something keeps each: what the definitions compute, with the status read off its number. A row of tests gives one of 01's numbers.
pub numbered : (l : List Test) → some nameless l ≡ false → number (status_of (first l)) ≡ first l
numbered [] e = refl
numbered (x ∷ l) e =
    let t = or_parts (nameless x) (some nameless l) e in
    by-test x.refuses (eqb-true (number (status_of x.number)) x.number (not-false _ t.0)) (numbered l t.1)
  where
    by-test :
        (b : Bool) → number (status_of x.number) ≡ x.number → number (status_of (first l)) ≡ first l →
        number (status_of (cond b x.number (first l))) ≡ cond b x.number (first l)
    by-test true e rest = e
    by-test false e rest = rest

pub transfer-kept : KeepsTransfer promised_transfer
unfolding promised_transfer transfer_refusal
transfer-kept p c =
    (numbered (transfer_row (bad_state p.state) (length p.memory) (length c.bytes) (counts_of p.state)) refl, (refl, (refl, refl)))

pub publish-kept : KeepsPublish promised_publish
unfolding promised_publish publish_refusal
publish-kept p frame =
    (numbered (publish_row (bad_state p.state) (length p.memory) (length frame)) refl, (refl, (refl, (refl, refl))))

pub dim-kept : KeepsDim dimmed
dim-kept pixel level scale = refl
