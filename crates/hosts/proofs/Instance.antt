-- The two hosts of the instance meet every premise of demand 3, by computing their calls.
use mathlib.Core.Path.{◌≡◌, refl}
use mathlib.Core.Bool.{Bool, true, ◌&&◌}
use mathlib.Core.List.{List, [], ◌∷◌}
use borrow.Author.Tests.{eqb-true}
use lib.Dec.{eqb}
use Rattle.formats.specs.Bytes.{arrival}
use Rattle.geometry.specs.Place.{map_of, outcome, next}
use Rattle.marks.specs.Rows.{no_rows, all_rows, mark, span_of, marks_bad}
use Rattle.pixels.specs.Run.{stores, walk_after, pixels_counted, totals_of}
use Rattle.codes.specs.Codes.{kind_of, need_of}
use Rattle.std.proofs.lemmas.Bool.{and_parts}
use Rattle.lists.specs.Params.{filled, differ}
use Rattle.timing.specs.Lint.{broken_by, times_after}
use Rattle.board.specs.Board.{switched_to, formats_set}
use Rattle.board.specs.declared.PanelConfig.{PanelConfig}
use Rattle.chip.specs.Begin.{fresh_chip, chip_begun, chip_released}
use Rattle.chip.specs.Apply.{applied_if_due, chip_taken}
use Rattle.st7789.specs.Command.{begun, controller_released}
use Rattle.st7789.specs.Data.{ran, taken, data_in}
use Rattle.st7789.specs.Refusals.{bad_state, transfer_refusal}
use Rattle.st7789.specs.Entries.{fresh_controller, empty_lists, moved, transferred, transfer_memory, reset_state, reset_memory}
use Rattle.publishing.specs.Publish.{publish_refusal, published, published_frame}
use Rattle.hosts.specs.Calls.{Host, Call, Accepted, fresh_host, refusal, step, defined, run}
use Rattle.hosts.specs.Hosts.{rest, part, between, Makes, done, besides, same, sends, Demand3}
use Rattle.hosts.specs.Instance.{plan, first, second, pixel_plan, pixel_whole, pixel_cut, left_over}
use Rattle.hosts.proofs.Hosts.{two-hosts}

first-makes : Makes plan first
first-makes =
    same refl (same refl (besides refl (same refl (sends rest (besides refl (same refl (same refl (sends rest (besides refl
    (same refl (same refl (sends rest (same refl (sends rest done))))))))))))))

second-makes : Makes plan second
second-makes =
    same refl (same refl (same refl
    (sends (part {bytes = 0xF8 ∷ []} (between refl (part {bytes = []} (part {bytes = 0x00 ∷ 0x07 ∷ []} (between refl rest)))))
    (same refl (same refl (sends (part {bytes = 0x05 ∷ []} rest) (same refl (same refl
    (sends (part {bytes = 0x00 ∷ 0x09 ∷ 0x01 ∷ []} (between refl rest))
    (besides refl (same refl (sends rest (besides refl done)))))))))))))

-- No call is refused, as one computed test.
abbrev passes : Host → List Call → Bool
passes h [] = true
passes h (c ∷ calls) = eqb (refusal h c) 0 && passes (step h c) calls

passed : (h : Host) (calls : List Call) → passes h calls ≡ true → Accepted defined h calls
passed h [] e = tt
passed h (c ∷ calls) e =
    let b = and_parts (eqb (refusal h c) 0) (passes (step h c) calls) e in
    (eqb-true (refusal h c) 0 b.0, passed (step h c) calls b.1)

-- One name that opens every definition, for what is computed.
unfoldable opened : Bool
unfolding kind_of need_of map_of outcome next no_rows all_rows mark span_of marks_bad arrival stores walk_after pixels_counted totals_of filled differ broken_by times_after fresh_chip chip_begun chip_released applied_if_due chip_taken begun controller_released ran taken data_in bad_state transfer_refusal fresh_controller empty_lists moved transferred transfer_memory reset_state reset_memory publish_refusal published published_frame refusal step
opened = true

-- Both panels have the switch on.
abbrev shown : Host
shown = fresh_host (switched_to true)

first_passes : passes shown first ≡ true
unfolding opened
first_passes = refl

second-passes : passes shown second ≡ true
unfolding opened
second-passes = refl

pub first-and-second : Demand3 defined defined (switched_to true) first second
first-and-second =
    two-hosts (switched_to true) plan first second first-makes second-makes (passed shown first first_passes) (passed shown second second-passes)

second-left : left_over (run defined shown second) ≡ true
unfolding opened
second-left = refl

-- The same of two panels that read the formats: a fresh COLMOD names 18 bits.
abbrev reads : PanelConfig
reads = formats_set true (switched_to true)

whole-passes : passes (fresh_host reads) pixel_whole ≡ true
unfolding opened
whole-passes = refl

cut-passes : passes (fresh_host reads) pixel_cut ≡ true
unfolding opened
cut-passes = refl

pub eighteen-bits : Demand3 defined defined reads pixel_whole pixel_cut
eighteen-bits =
    two-hosts reads pixel_plan pixel_whole pixel_cut (same refl (sends rest done))
    (same refl (sends (part {bytes = 0xFC ∷ 0x00 ∷ []} (between refl rest)) done))
    (passed (fresh_host reads) pixel_whole whole-passes) (passed (fresh_host reads) pixel_cut cut-passes)
