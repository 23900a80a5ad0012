-- Rules: anything of the type of a transfer, of publishing or of dimming, and what it is for it to keep the promise. 01's "Four impostors
-- are tried." is said of the first two, and its worked examples of a transfer and of dimming.
use Rattle.std.specs.Prelude.{ℕ, List, []}
use Rattle.std.specs.Borrow.{Bor, MutBor}
use denote.Triple.Entry.{Args}
use denote.Triple.Clauses.{at_exit}
use Rattle.st7789.specs.declared.Transferred.{Transferred}
use Rattle.st7789.specs.declared.PanelMemory.TheVariants.{Lent}
use Rattle.st7789.specs.contracts.St7789p3.transfer as transfer
use Rattle.st7789.proofs.St7789p3.transfer.Reads as transfer-reads
use Rattle.publishing.specs.declared.Published.{Published}
use Rattle.publishing.specs.contracts.publish as publish
use Rattle.publishing.proofs.publish.Reads as publish-reads
use Rattle.light.specs.contracts.dim as dim
use Rattle.light.proofs.dim.Reads as dim-reads
use Rattle.no_room.specs.Panels.{Call, Panel}

-- Lent numbers, wherever they stand: to be read,
abbrev pub lent : List ℕ → Bor (List ℕ)
lent numbers = record { ref_ptr = (0, 0); now = numbers }

-- and to be written.
abbrev pub lent_to_write : List ℕ → MutBor (List ℕ)
lent_to_write numbers = record { ref_ptr = (0, 0); ghost_name = 0; now = numbers }

-- What a transfer leaves: the answer, and memory.
pub record Sent : Type 0 where
  pub answer : Transferred
  pub memory : List ℕ

-- Anything of the type of a transfer.
abbrev pub Transfer : Type 0
Transfer = Panel → Call → Sent

-- A panel and a call as the arguments of `transfer`, panel memory lent.
abbrev transfer_args : Panel → Call → Args transfer.signature ([], ([], tt))
transfer_args p c = (p.state, (c.time, (c.dc, (lent c.bytes, (c.release, (Lent, (lent_to_write p.memory, tt)))))))

-- It keeps the promise of `transfer`, which is the contract.
abbrev pub KeepsTransfer : Transfer → Type 0
KeepsTransfer f =
    (p : Panel) (c : Call) →
    transfer-reads.Learnt ([], ([], tt)) (transfer_args p c) (f p c).answer
    (at_exit transfer.ended ([], ([], tt)) (transfer_args p c) (tt, (tt, (tt, (tt, (tt, (tt, ((f p c).memory, tt))))))))

-- The panel that it leaves.
abbrev pub left_by : Transfer → Panel → Call → Panel
left_by f p c = record { state = (f p c).answer.panel; memory = (f p c).memory }

-- What publishing leaves: the answer, and the frame.
pub record Shown : Type 0 where
  pub answer : Published
  pub frame : List ℕ

-- Anything of the type of publishing.
abbrev pub Publish : Type 0
Publish = Panel → List ℕ → Shown

-- A panel and a frame as the arguments of `publish`.
abbrev publish_args : Panel → List ℕ → Args publish.signature ([], ([], tt))
publish_args p frame = (p.state, (lent p.memory, (lent_to_write frame, tt)))

-- It keeps the promise of `publish`, which is the contract.
abbrev pub KeepsPublish : Publish → Type 0
KeepsPublish f =
    (p : Panel) (frame : List ℕ) →
    publish-reads.Learnt ([], ([], tt)) (publish_args p frame) (f p frame).answer
    (at_exit publish.ended ([], ([], tt)) (publish_args p frame) (tt, (tt, ((f p frame).frame, tt))))

-- Anything of the type of dimming: a pixel, a level and a scale give a pixel.
abbrev pub Dim : Type 0
Dim = ℕ → ℕ → ℕ → ℕ

-- It keeps the promise of `dim`, which is the contract.
abbrev pub KeepsDim : Dim → Type 0
KeepsDim f =
    (pixel level scale : ℕ) →
    dim-reads.Learnt tt (pixel, (level, (scale, tt))) (f pixel level scale)
    (at_exit dim.ended tt (pixel, (level, (scale, tt))) (tt, (tt, (tt, tt))))
