-- Rules: what the definitions compute, as functions, with the status read off its number: that the promises can be kept is said of these.
use Rattle.std.specs.Prelude.{ℕ, [], ◌∷◌, length, get_or, cond, eqb, Ok, Err}
use Rattle.status.specs.Tests.{memory_refusal}
use Rattle.status.specs.Numbers.{Status}
use Rattle.status.specs.declared.Refusal.TheVariants.{BadState, BadMemory, BadFrame, TooLong, CountHigh, LogLong, BadLog}
use Rattle.st7789.specs.Refusals.{transfer_refusal}
use Rattle.st7789.specs.Entries.{fresh_panel, transfer_totals, new_memory, reset_state, reset_memory, powered_set, shows_set, brightness_set, all_marked}
use Rattle.views.specs.Views.{pixel_seen, frame_refusal, frame_seen}
use Rattle.publishing.specs.Publish.{publish_refusal, published, published_span, published_flags, published_frame}
use Rattle.no_room.specs.Panels.{after}
use Rattle.no_room.specs.Kept.{Transfer, Publish}
use Rattle.no_room.specs.Functions.{Functions}

-- "No. | Name", read the other way.
abbrev pub status_of : ℕ → Status
status_of n =
    get_or
    (Ok tt ∷ Err BadState ∷ Err BadMemory ∷ Err BadFrame ∷ Err TooLong ∷ Err CountHigh ∷ Err LogLong ∷ Err BadLog ∷ [])
    n (Ok tt)

-- A transfer.
unfoldable pub promised_transfer : Transfer
promised_transfer p c =
    record {
      answer =
          record {
            panel = (after p c).state;
            totals = transfer_totals c.dc c.bytes (length p.memory) p.state;
            status = status_of (transfer_refusal p.state (length p.memory) (length c.bytes));
          };
      memory = (after p c).memory;
    }

-- A publish.
unfoldable pub promised_publish : Publish
promised_publish p frame =
    let n : ℕ = publish_refusal p.state (length p.memory) (length frame) in
    record {
      answer =
          record {
            panel = published n p.state;
            span = published_span n p.state;
            flags = published_flags n p.state;
            status = status_of n;
          };
      frame = published_frame n p.state p.memory frame;
    }

-- All that a host calls, with any transfer and any publish.
abbrev pub promised_but : Transfer → Publish → Functions
promised_but transfer publish =
    record {
      new = λ cfg memory.
          record { answer = record { panel = fresh_panel cfg; status = status_of (memory_refusal (length memory)) }; memory = new_memory memory };
      transfer = transfer;
      publish = publish;
      reset = λ p domain.
          record {
            answer =
                record { panel = reset_state domain (length p.memory) p.state; status = status_of (memory_refusal (length p.memory)) };
            memory = reset_memory domain p.memory;
          };
      set_powered = λ k on. powered_set on k;
      set_invon_shows_ram = λ k on. shows_set on k;
      set_brightness = λ k level scale duty. brightness_set level scale duty k;
      mark_all_dirty = λ k. all_marked k;
      pixel = λ k v x y memory. cond (eqb (length memory) 76800) (Ok (pixel_seen v k x y memory)) (Err BadMemory);
      frame = λ k v memory buffer.
          record { status = status_of (frame_refusal (length memory) (length buffer)); buffer = frame_seen v k memory buffer };
    }

-- And with those of the definitions.
abbrev pub promised : Functions
promised = promised_but promised_transfer promised_publish
