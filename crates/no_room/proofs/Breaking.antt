-- Two impostors of 01 contradict what demand 3 promises, each by a computed run of two hosts; and something keeps all the promises.
use Prim.Native.Nat.{ℕ}
use mathlib.Core.Path.{◌≡◌, refl}
use mathlib.Core.Bool.{true}
use mathlib.Core.List.{List, [], ◌∷◌}
use lib.ListN.{length, get_or}
use Rattle.std.specs.Prelude.{Bool, false, cond, not, eqb, Result, Ok, Err}
use Rattle.status.specs.Numbers.{number, value_of}
use Rattle.status.specs.declared.Refusal.{Refusal}
use Rattle.status.specs.declared.Refusal.TheVariants.{BadMemory}
use Rattle.light.specs.declared.FrameView.{FrameView}
use Rattle.st7789.specs.declared.Controller.{Controller}
use Rattle.views.specs.Views.{pixel_seen}
use Rattle.status.specs.Tests.{memory_row, memory_refusal, view_row}
use Rattle.board.specs.Board.{switched_to}
use Rattle.st7789.specs.Entries.{new_memory}
use Rattle.publishing.specs.Publish.{published_span, published_flags}
use Rattle.hosts.specs.Calls.{Accepted}
use Rattle.hosts.specs.Hosts.{Makes, done, same, sends, rest, part, between, last_published, TwoHosts}
use Rattle.no_room.specs.Functions.{KeepAll}
use Rattle.no_room.specs.Promised.{promised, promised_transfer, promised_publish}
use Rattle.no_room.specs.Impostors.{idler, once_only, whole, halved, published_between}
use Rattle.no_room.proofs.Model.{model}
use Rattle.no_room.proofs.Kept.{numbered, transfer-kept, publish-kept}
use Rattle.no_room.proofs.Impostors.{apart}

-- A pixel, by the test of memory.
module _ (k : Controller) (v : FrameView) (x y : ℕ) (memory : List ℕ) where
  abbrev seen_by : Bool → Result ℕ Refusal
  seen_by b = cond b (Ok (pixel_seen v k x y memory)) (Err BadMemory)

  pixel-kept :
      (number (seen_by (eqb (length memory) 76800)) ≡ memory_refusal (length memory))
      × (value_of (seen_by (eqb (length memory) 76800)) ≡ pixel_seen v k x y memory)
  unfolding pixel_seen
  pixel-kept = by-test (eqb (length memory) 76800) refl
    where
      by-test :
          (b : Bool) → eqb (length memory) 76800 ≡ b →
          (number (seen_by b) ≡ memory_refusal (length memory)) × (value_of (seen_by b) ≡ pixel_seen v k x y memory)
      by-test true e = (rw e, refl)
      by-test false e = (rw e, rw e)

pub promised-kept : KeepAll promised
promised-kept =
    record {
      new = λ cfg memory. (numbered (memory_row (length memory)) refl, (refl, refl));
      transfer = transfer-kept;
      publish = publish-kept;
      reset = λ p domain. (numbered (memory_row (length p.memory)) refl, (refl, refl));
      set_powered = λ k on. refl;
      set_invon_shows_ram = λ k on. refl;
      set_brightness = λ k level scale duty. refl;
      mark_all_dirty = λ k. refl;
      pixel = λ k v x y memory. pixel-kept k v x y memory;
      frame = λ k v memory buffer. (numbered (view_row (length memory) (length buffer)) refl, refl);
    }

whole-made : Makes whole whole
whole-made = same refl (sends rest done)

halved_made : Makes whole halved
halved_made = same refl (sends (part {bytes = 0xF8 ∷ 0x00 ∷ []} rest) done)

between-made : Makes whole published_between
between-made = same refl (sends (part {bytes = 0xF8 ∷ 0x00 ∷ []} (between refl rest)) done)

-- Number 1 of a memory or a frame: the second pixel.
abbrev second_in : List ℕ → ℕ
second_in numbers = get_or numbers 1 0

-- The second half is lost where it comes as a segment of its own.
whole-accepted : Accepted idler (idler.fresh (switched_to true)) whole
unfolding model promised_transfer new_memory
whole-accepted = (refl, (refl, tt))

halved-accepted : Accepted idler (idler.fresh (switched_to true)) halved
unfolding model promised_transfer new_memory
halved-accepted = (refl, (refl, (refl, tt)))

whole-stored : second_in (last_published idler (switched_to true) whole).memory ≡ 0x07E0
unfolding model promised_transfer promised_publish published_span published_flags new_memory
whole-stored = refl

half-lost : second_in (last_published idler (switched_to true) halved).memory ≡ 0
unfolding model promised_transfer promised_publish published_span published_flags new_memory
half-lost = refl

pub idler-breaks : TwoHosts idler idler → ⊥
idler-breaks two =
    apart second_in 0x07E0 0 whole-stored half-lost refl
    (two (switched_to true) whole whole halved whole-made halved_made whole-accepted halved-accepted).agree.memory

-- The last publish is lost where one came before it.
between-accepted : Accepted once_only (once_only.fresh (switched_to true)) published_between
unfolding model promised_transfer promised_publish published_span published_flags new_memory
between-accepted = (refl, (refl, (refl, (refl, tt))))

between-stored : second_in (last_published once_only (switched_to true) published_between).memory ≡ 0x07E0
unfolding model promised_transfer promised_publish published_span published_flags new_memory
between-stored = refl

between-lost : second_in (last_published once_only (switched_to true) published_between).frame ≡ 0
unfolding model promised_transfer promised_publish published_span published_flags new_memory
between-lost = refl

pub once-breaks : TwoHosts once_only once_only → ⊥
once-breaks two =
    apart second_in 0 0x07E0 between-lost between-stored refl
    (two (switched_to true) whole published_between published_between between-made between-made between-accepted between-accepted).agree.frame-a
