-- One name that opens every definition with which the examples compute.
use Rattle.formats.specs.Bytes.{arrival}
use Rattle.geometry.specs.Place.{map_of, outcome, next}
use Rattle.marks.specs.Rows.{no_rows, all_rows, mark, span_of, marks_bad}
use Rattle.pixels.specs.Run.{stores, walk_after, pixels_counted, totals_of}
use Rattle.codes.specs.Codes.{kind_of, need_of}
use Rattle.lists.specs.Params.{filled, differ}
use Rattle.boot.specs.Boot.{fits, compared_from}
use Rattle.timing.specs.Lint.{broken_by, times_after}
use Rattle.chip.specs.Begin.{fresh_chip, chip_begun, chip_released}
use Rattle.chip.specs.Apply.{applied_if_due, chip_taken}
use Rattle.st7789.specs.Command.{begun, controller_released}
use Rattle.st7789.specs.Data.{ran, taken, data_in}
use Rattle.st7789.specs.Refusals.{bad_state, transfer_refusal}
use Rattle.st7789.specs.Entries.{fresh_controller, empty_lists, moved, transferred, transfer_totals, transfer_memory}
use Rattle.light.specs.Light.{dimmed}
use Rattle.publishing.specs.Publish.{publish_refusal, published, published_frame}

unfoldable pub model : Unit {0}
unfolding kind_of need_of map_of outcome next no_rows all_rows mark span_of marks_bad arrival stores walk_after pixels_counted totals_of filled differ fits compared_from broken_by times_after fresh_chip chip_begun chip_released applied_if_due chip_taken begun controller_released ran taken data_in bad_state transfer_refusal fresh_controller empty_lists moved transferred transfer_totals transfer_memory dimmed publish_refusal published published_frame
model = tt
