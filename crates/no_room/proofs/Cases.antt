-- Every case of publishing and of a whole view is given its number, by computing them; and a pixel and a reset are refused by memory alone.
use Prim.Native.Nat.{ℕ}
use mathlib.Core.Path.{◌≡◌, refl}
use mathlib.Core.Bool.{true}
use mathlib.Core.List.{List}
use contract.Lifetimes.{Lfts}
use Rattle.std.specs.Borrow.{Bor, MutBor}
use denote.Triple.Clauses.{AtExit}
use lib.ListN.{length}
use Rattle.status.specs.Numbers.{number}
use Rattle.status.specs.Tests.{memory_refusal}
use Rattle.marks.specs.Rows.{of_span}
use Rattle.board.specs.declared.BoardDomain.{BoardDomain}
use Rattle.light.specs.declared.FrameView.{FrameView}
use Rattle.st7789.specs.declared.Answer.{Answer}
use Rattle.st7789.specs.declared.Controller.{Controller}
use Rattle.st7789.specs.declared.St7789p3.{St7789p3}
use Rattle.st7789.specs.contracts.St7789p3.reset as reset
use Rattle.st7789.proofs.St7789p3.reset.Reads as reset-reads
use Rattle.std.specs.Prelude.{Result}
use Rattle.status.specs.declared.Refusal.{Refusal}
use Rattle.views.specs.contracts.pixel as pixel
use Rattle.views.proofs.pixel.Reads as pixel-reads
use Rattle.laws.specs.Cases.{state_limits, count_limits, all_given}
use Rattle.no_room.specs.Cases.{cases}
use Rattle.no_room.proofs.Model.{model}

pub publish-and-view-given : all_given cases ≡ true
unfolding state_limits count_limits cases of_span model
publish-and-view-given = refl

-- Whatever the panel, the view and the pixel, in the panel or outside it.
pub pixel-by-memory :
    (κs : Lfts (pixel.signature).lifetimes) (k : Controller) (view : FrameView) (x y : ℕ) (memory : Bor (List ℕ)) (r : Result ℕ Refusal)
    (e : AtExit pixel.ended κs) →
    pixel-reads.Learnt κs (k, (view, (x, (y, (memory, tt))))) r e → number r ≡ memory_refusal (length memory.now)
pixel-by-memory κs k view x y memory r e promised = promised.0

-- Whatever the panel and the domain.
pub reset-by-memory :
    (κs : Lfts (reset.signature).lifetimes) (s : St7789p3) (domain : BoardDomain) (memory : MutBor (List ℕ)) (r : Answer)
    (e : AtExit reset.ended κs) →
    reset-reads.Learnt κs (s, (domain, (memory, tt))) r e → number r.status ≡ memory_refusal (length memory.now)
reset-by-memory κs s domain memory r e promised = promised.0
