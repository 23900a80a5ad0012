-- Rules: 01, when two states are the same.
use Rattle.std.specs.Prelude.{ℕ, ◌≡◌, cond, List, [], map, Option, Some, None}
use Rattle.lists.specs.Fixed.{Fixed, used}
use Rattle.lists.specs.Params.{fixed}
use Rattle.lists.specs.declared.Stored.{Stored}
use Rattle.lists.specs.declared.TraceRecord.{TraceRecord}
use Rattle.lists.specs.declared.Warning.{Warning}
use Rattle.st7789.specs.Parts.{trace_of, warnings_of, with_chip}
use Rattle.st7789.specs.declared.Controller.{Controller}
use Rattle.st7789.specs.declared.St7789p3.{St7789p3}

-- A list as far as it counts: how many are used, and "the used part".
pub record InUse (A : Type 0) : Type 0 where
  pub count : ℕ
  pub part : List A

-- That of a fixed list.
abbrev pub in_use : {A : Type 0} → Fixed A → InUse A
in_use f = record { count = f.count; part = used f }

-- A stored command's list, if it has one.
abbrev pub stored_content : Stored → Option (InUse ℕ)
stored_content e = cond e.present (Some (in_use (fixed e.params))) None

-- What counts of a trace record.
pub record Entry : Type 0 where
  pub cmd : ℕ
  pub at : ℕ
  pub pixels : ℕ
  pub params : InUse ℕ

-- That of a record.
abbrev pub entry : TraceRecord → Entry
entry r = record { cmd = r.cmd; at = r.at; pixels = r.pixel_bytes; params = in_use (fixed r.params) }

-- The controller but for the bytes of the list in force. The counts of all lists are among its fields.
abbrev pub fields_of : Controller → Controller
fields_of k =
    with_chip
    (record {
      registers = k.chip.registers;
      window = k.chip.window;
      walk = k.chip.walk;
      decoder =
          record {
            cmd = k.chip.decoder.cmd;
            params = record { bytes = []; count = k.chip.decoder.params.count };
            applied = k.chip.decoder.applied;
            in_pixels = k.chip.decoder.in_pixels;
          };
      times = k.chip.times;
    })
    k

-- "their fields and the used part of each list"
pub record Content : Type 0 where
  pub fields : Controller
  pub params : InUse ℕ
  pub stored : List (Option (InUse ℕ))
  pub trace : List Entry
  pub warnings : List Warning

-- Those of a state.
abbrev pub content : St7789p3 → Content
content s =
    record {
      fields = fields_of s.controller;
      params = in_use (fixed s.controller.chip.decoder.params);
      stored = map stored_content s.stored;
      trace = map entry (used (trace_of s));
      warnings = used (warnings_of s);
    }

-- "Two states are the same when their fields and the used part of each list are."
abbrev pub Same : St7789p3 → St7789p3 → Type 0
Same s r = content s ≡ content r
