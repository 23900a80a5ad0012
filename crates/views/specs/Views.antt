-- Rules: 01, "Fresh panel, views, publishing": one pixel of a view, a whole view, and a row lent out of memory.
use Rattle.std.specs.Prelude.{ℕ, ◌+◌, ◌*◌, Bool, cond, not, ◌&&◌, List, [], map, length, get_or, take, drop, ltb, eqb}
use Rattle.std.specs.Bool.{beq}
use Rattle.status.specs.Tests.{first, view_row, memory_refusal}
use Rattle.status.specs.Numbers.{unless_refused}
use Rattle.st7789.specs.declared.Controller.{Controller}
use Rattle.light.specs.Light.{viewed}
use Rattle.light.specs.declared.FrameView.{FrameView}
use Rattle.light.specs.declared.Light.{Light}
use Rattle.views.specs.declared.Memory.{Memory}
use Rattle.views.specs.declared.Memory.TheVariants.{Panel, Frame}

-- What a view goes by: whether the panel is "powered, awake and on", whether "inversion equals the switch", and the brightness pair.
unfoldable pub light_of : Controller → Light
light_of s =
    record {
      lit = s.power.powered && (not s.chip.registers.sleeping && s.chip.registers.display_on);
      plain = beq s.chip.registers.inverted s.cfg.invon_shows_ram;
      level = s.power.level;
      scale = s.power.scale;
    }

-- "A pixel asked for outside the panel is 0, not refused."; refused, "no value (0 where a number is due)".
unfoldable pub pixel_seen : FrameView → Controller → ℕ → ℕ → List ℕ → ℕ
pixel_seen view s x y memory =
    unless_refused (memory_refusal (length memory))
    (cond (ltb x 240 && ltb y 320) (viewed view (light_of s) (get_or memory (y * 240 + x) 0)) 0) 0

-- The refusal of a whole view.
abbrev pub frame_refusal : ℕ → ℕ → ℕ
frame_refusal cells room = first (view_row cells room)

-- A whole view, pixel by pixel; refused, "every lent number as before".
unfoldable pub frame_seen : FrameView → Controller → List ℕ → List ℕ → List ℕ
frame_seen view s memory buffer = unless_refused (frame_refusal (length memory) (length buffer)) (map (viewed view (light_of s)) memory) buffer

-- "of the panel or of the frame, as they pick"
abbrev pub picked : Memory → List ℕ → List ℕ → List ℕ
picked Panel panel frame = panel
picked Frame panel frame = frame

-- "exactly when either isn't 76,800 long or the row is above 319"
abbrev pub row_refused : ℕ → ℕ → ℕ → Bool
row_refused row panel frame = not (eqb panel 76800 && (eqb frame 76800 && ltb row 320))

-- "a row of the panel or of the frame, .. lent straight out of that memory and not copied; an empty part exactly when" it is refused.
unfoldable pub row_seen : Memory → ℕ → List ℕ → List ℕ → List ℕ
row_seen memory row panel frame = cond (row_refused row (length panel) (length frame)) [] (take 240 (drop (row * 240) (picked memory panel frame)))
