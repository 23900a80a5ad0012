-- Every public operation of digests, status, formats, geometry, marks, pixels, engine, lists, codes, timing, board and chip: its promise, which is its contract, leaves no room.
use mathlib.Core.Path.{refl}
use Rattle.digests.specs.contracts.digest as digest
use Rattle.digests.proofs.digest.Reads as digest-reads
use Rattle.status.specs.contracts.number as number
use Rattle.status.proofs.number.Reads as number-reads
use Rattle.status.specs.contracts.accepted as accepted
use Rattle.status.proofs.accepted.Reads as accepted-reads
use Rattle.status.specs.contracts.some_high as some-high
use Rattle.status.proofs.some_high.Reads as some-high-reads
use Rattle.status.specs.contracts.memory_status as memory-status
use Rattle.status.proofs.memory_status.Reads as memory-status-reads
use Rattle.status.specs.contracts.view_status as view-status
use Rattle.status.proofs.view_status.Reads as view-status-reads
use Rattle.status.specs.contracts.transfer_status as transfer-status
use Rattle.status.proofs.transfer_status.Reads as transfer-status-reads
use Rattle.formats.specs.contracts.bytewise.joined as joined
use Rattle.formats.proofs.bytewise.joined.Reads as joined-reads
use Rattle.formats.specs.contracts.bytewise.first_of_two as first-of-two
use Rattle.formats.proofs.bytewise.first_of_two.Reads as first-of-two-reads
use Rattle.formats.specs.contracts.bytewise.second_of_two as second-of-two
use Rattle.formats.proofs.bytewise.second_of_two.Reads as second-of-two-reads
use Rattle.formats.specs.contracts.bytewise.from_eighteen as from-eighteen
use Rattle.formats.proofs.bytewise.from_eighteen.Reads as from-eighteen-reads
use Rattle.formats.specs.contracts.bytewise.arrive as arrive
use Rattle.formats.proofs.bytewise.arrive.Reads as arrive-reads
use Rattle.formats.specs.contracts.in_force.is_other as is-other
use Rattle.formats.proofs.in_force.is_other.Reads as is-other-reads
use Rattle.formats.specs.contracts.in_force.format_of as format-of
use Rattle.formats.proofs.in_force.format_of.Reads as format-of-reads
use Rattle.formats.specs.contracts.in_force.carry_bad as carry-bad
use Rattle.formats.proofs.in_force.carry_bad.Reads as carry-bad-reads
use Rattle.geometry.specs.contracts.col_max as col-max
use Rattle.geometry.proofs.col_max.Reads as col-max-reads
use Rattle.geometry.specs.contracts.row_max as row-max
use Rattle.geometry.proofs.row_max.Reads as row-max-reads
use Rattle.geometry.specs.contracts.map as map
use Rattle.geometry.proofs.map.Reads as map-reads
use Rattle.geometry.specs.contracts.place as place
use Rattle.geometry.proofs.place.Reads as place-reads
use Rattle.geometry.specs.contracts.advance as advance
use Rattle.geometry.proofs.advance.Reads as advance-reads
use Rattle.geometry.specs.contracts.window_bad as window-bad
use Rattle.geometry.proofs.window_bad.Reads as window-bad-reads
use Rattle.geometry.specs.contracts.pointer_bad as pointer-bad
use Rattle.geometry.proofs.pointer_bad.Reads as pointer-bad-reads
use Rattle.geometry.specs.contracts.row_at as row_at
use Rattle.geometry.proofs.row_at.Reads as row_at-reads
use Rattle.marks.specs.contracts.Marks.none as marks-none
use Rattle.marks.proofs.Marks.none.Reads as marks-none-reads
use Rattle.marks.specs.contracts.Marks.all as marks-all
use Rattle.marks.proofs.Marks.all.Reads as marks-all-reads
use Rattle.marks.specs.contracts.Marks.of_span as of-span
use Rattle.marks.proofs.Marks.of_span.Reads as of-span-reads
use Rattle.marks.specs.contracts.Marks.mark_row as mark-row
use Rattle.marks.proofs.Marks.mark_row.Reads as mark-row-reads
use Rattle.marks.specs.contracts.Marks.mark_rows as mark-rows
use Rattle.marks.proofs.Marks.mark_rows.Reads as mark-rows-reads
use Rattle.marks.specs.contracts.Marks.span as span
use Rattle.marks.proofs.Marks.span.Reads as span-reads
use Rattle.marks.specs.contracts.Marks.bad as marks-bad
use Rattle.marks.proofs.Marks.bad.Reads as marks-bad-reads
use Rattle.pixels.specs.contracts.Totals.none as totals-none
use Rattle.pixels.proofs.Totals.none.Reads as totals-none-reads
use Rattle.pixels.specs.contracts.store_at as store_at
use Rattle.pixels.proofs.store_at.Reads as store_at-reads
use Rattle.pixels.specs.contracts.write_pixels as write_bytes
use Rattle.pixels.proofs.write_pixels.Reads as write_bytes-reads
use Rattle.pixels.specs.contracts.clear as clear
use Rattle.pixels.proofs.clear.Reads as clear-reads
use Rattle.engine.specs.contracts.write_pixels as write-pixels
use Rattle.engine.proofs.write_pixels.Reads as write-pixels-reads
use Rattle.lists.specs.contracts.Params.empty as empty
use Rattle.lists.proofs.Params.empty.Reads as empty-reads
use Rattle.lists.specs.contracts.Params.append as append
use Rattle.lists.proofs.Params.append.Reads as append-reads
use Rattle.lists.specs.contracts.Params.differs as differs
use Rattle.lists.proofs.Params.differs.Reads as differs-reads
use Rattle.lists.specs.contracts.Params.excess as excess
use Rattle.lists.proofs.Params.excess.Reads as excess-reads
use Rattle.lists.specs.contracts.free as free
use Rattle.lists.proofs.free.Reads as free-reads
use Rattle.lists.specs.contracts.is_latest as is-latest
use Rattle.lists.proofs.is_latest.Reads as is-latest-reads
use Rattle.lists.specs.contracts.over as over
use Rattle.lists.proofs.over.Reads as over-reads
use Rattle.lists.specs.contracts.stored_long as stored-long
use Rattle.lists.proofs.stored_long.Reads as stored-long-reads
use Rattle.lists.specs.contracts.copy as copy
use Rattle.lists.proofs.copy.Reads as copy-reads
use Rattle.codes.specs.contracts.table as table
use Rattle.codes.proofs.table.Reads as table-reads
use Rattle.codes.specs.contracts.decode as decode
use Rattle.codes.proofs.decode.Reads as decode-reads
use Rattle.codes.specs.contracts.KindFromU16.from as kind-from
use Rattle.codes.proofs.KindFromU16.from.Reads as kind-from-reads
use Rattle.codes.specs.contracts.Kind.is as kind-is
use Rattle.codes.proofs.Kind.is.Reads as kind-is-reads
use Rattle.codes.specs.contracts.Kind.starts_run as starts-run
use Rattle.codes.proofs.Kind.starts_run.Reads as starts-run-reads
use Rattle.codes.specs.contracts.Kind.has_effect as has-effect
use Rattle.codes.proofs.Kind.has_effect.Reads as has-effect-reads
use Rattle.codes.specs.contracts.Command.place as command-place
use Rattle.codes.proofs.Command.place.Reads as command-place-reads
use Rattle.timing.specs.contracts.lint as lint
use Rattle.timing.proofs.lint.Reads as lint-reads
use Rattle.timing.specs.contracts.Broken.count as count
use Rattle.timing.proofs.Broken.count.Reads as count-reads
use Rattle.timing.specs.contracts.Broken.rule as rule
use Rattle.timing.proofs.Broken.rule.Reads as rule-reads
use Rattle.timing.specs.contracts.Times.fresh as times-fresh
use Rattle.timing.proofs.Times.fresh.Reads as times-fresh-reads
use Rattle.timing.specs.contracts.Times.anew as times-anew
use Rattle.timing.proofs.Times.anew.Reads as times-anew-reads
use Rattle.timing.specs.contracts.Times.after as after
use Rattle.timing.proofs.Times.after.Reads as after-reads
use Rattle.board.specs.contracts.PanelConfig.new as config-new
use Rattle.board.proofs.PanelConfig.new.Reads as config-new-reads
use Rattle.board.specs.contracts.PanelConfig.with_strict as config-strict
use Rattle.board.proofs.PanelConfig.with_strict.Reads as config-strict-reads
use Rattle.board.specs.contracts.PanelConfig.with_formats as config-formats
use Rattle.board.proofs.PanelConfig.with_formats.Reads as config-formats-reads
use Rattle.board.specs.contracts.PanelConfig.set_invon_shows_ram as config-set
use Rattle.board.proofs.PanelConfig.set_invon_shows_ram.Reads as config-set-reads
use Rattle.board.specs.contracts.Power.fresh as power-fresh
use Rattle.board.proofs.Power.fresh.Reads as power-fresh-reads
use Rattle.board.specs.contracts.Power.set_powered as power-set-powered
use Rattle.board.proofs.Power.set_powered.Reads as power-set-powered-reads
use Rattle.board.specs.contracts.Power.set_brightness as power-set-brightness
use Rattle.board.proofs.Power.set_brightness.Reads as power-set-brightness-reads
use Rattle.board.specs.contracts.is_board_rail as is-board-rail
use Rattle.board.proofs.is_board_rail.Reads as is-board-rail-reads
use Rattle.chip.specs.contracts.Chip.fresh as chip-fresh
use Rattle.chip.proofs.Chip.fresh.Reads as chip-fresh-reads
use Rattle.chip.specs.contracts.Chip.site as site
use Rattle.chip.proofs.Chip.site.Reads as site-reads
use Rattle.chip.specs.contracts.Chip.begin as begin
use Rattle.chip.proofs.Chip.begin.Reads as begin-reads
use Rattle.chip.specs.contracts.Chip.take as take
use Rattle.chip.proofs.Chip.take.Reads as take-reads
use Rattle.chip.specs.contracts.Chip.release as release
use Rattle.chip.proofs.Chip.release.Reads as release-reads
use Rattle.no_room.specs.Only.{Only}
use Rattle.no_room.proofs.Only.{same, told}

pub digest-one : Only digest.ended digest-reads.Learnt
digest-one κs args x y u v p q = (same p q, refl)

pub number-one : Only number.ended number-reads.Learnt
number-one κs args x y u v p q = (same p q, refl)

pub accepted-one : Only accepted.ended accepted-reads.Learnt
accepted-one κs args x y u v p q = (same p q, refl)

pub some-high-one : Only some-high.ended some-high-reads.Learnt
some-high-one κs args x y u v p q = (same p q, refl)

pub memory-status-one : Only memory-status.ended memory-status-reads.Learnt
memory-status-one κs args x y u v p q = (told x y p q, refl)

pub view-status-one : Only view-status.ended view-status-reads.Learnt
view-status-one κs args x y u v p q = (told x y p q, refl)

pub transfer-status-one : Only transfer-status.ended transfer-status-reads.Learnt
transfer-status-one κs args x y u v p q = (told x y p q, refl)

pub col-max-one : Only col-max.ended col-max-reads.Learnt
col-max-one κs args x y u v p q = (same p q, refl)

pub row-max-one : Only row-max.ended row-max-reads.Learnt
row-max-one κs args x y u v p q = (same p q, refl)

pub map-one : Only map.ended map-reads.Learnt
map-one κs args x y u v p q = (same p q, refl)

pub place-one : Only place.ended place-reads.Learnt
place-one κs args x y u v p q = (same p q, refl)

pub advance-one : Only advance.ended advance-reads.Learnt
advance-one κs args x y u v p q = (same p q, refl)

pub window-bad-one : Only window-bad.ended window-bad-reads.Learnt
window-bad-one κs args x y u v p q = (same p q, refl)

pub pointer-bad-one : Only pointer-bad.ended pointer-bad-reads.Learnt
pointer-bad-one κs args x y u v p q = (same p q, refl)

pub row-at-one : Only row_at.ended row_at-reads.Learnt
row-at-one κs args x y u v p q = (same p q, refl)

pub marks-none-one : Only marks-none.ended marks-none-reads.Learnt
marks-none-one κs args x y u v p q = (same p q, refl)

pub marks-all-one : Only marks-all.ended marks-all-reads.Learnt
marks-all-one κs args x y u v p q = (same p q, refl)

pub of-span-one : Only of-span.ended of-span-reads.Learnt
of-span-one κs args x y u v p q = (same p q, refl)

pub mark-row-one : Only mark-row.ended mark-row-reads.Learnt
mark-row-one κs args x y u v p q = (same p q, refl)

pub mark-rows-one : Only mark-rows.ended mark-rows-reads.Learnt
mark-rows-one κs args x y u v p q = (same p q, refl)

pub span-one : Only span.ended span-reads.Learnt
span-one κs args x y u v p q = (same p q, refl)

pub marks-bad-one : Only marks-bad.ended marks-bad-reads.Learnt
marks-bad-one κs args x y u v p q = (same p q, refl)

pub totals-none-one : Only totals-none.ended totals-none-reads.Learnt
totals-none-one κs args x y u v p q = (same p q, refl)

pub joined-one : Only joined.ended joined-reads.Learnt
joined-one κs args x y u v p q = (same p q, refl)

pub first-of-two-one : Only first-of-two.ended first-of-two-reads.Learnt
first-of-two-one κs args x y u v p q = (same p q, refl)

pub second-of-two-one : Only second-of-two.ended second-of-two-reads.Learnt
second-of-two-one κs args x y u v p q = (same p q, refl)

pub from-eighteen-one : Only from-eighteen.ended from-eighteen-reads.Learnt
from-eighteen-one κs args x y u v p q = (same p q, refl)

pub arrive-one : Only arrive.ended arrive-reads.Learnt
arrive-one κs args x y u v p q = (same p q, refl)

pub is-other-one : Only is-other.ended is-other-reads.Learnt
is-other-one κs args x y u v p q = (same p q, refl)

pub format-of-one : Only format-of.ended format-of-reads.Learnt
format-of-one κs args x y u v p q = (same p q, refl)

pub carry-bad-one : Only carry-bad.ended carry-bad-reads.Learnt
carry-bad-one κs args x y u v p q = (same p q, refl)

pub site-one : Only site.ended site-reads.Learnt
site-one κs args x y u v p q = (same p q, refl)

pub store-at-one : Only store_at.ended store_at-reads.Learnt
store-at-one κs args x y u v p q = (refl, λ i. (same p q i, (tt, (tt, tt))))

pub write-bytes-one : Only write_bytes.ended write_bytes-reads.Learnt
write-bytes-one κs args x y u v p q = (same p.0 q.0, λ i. (tt, (tt, (tt, (tt, (same p.1 q.1 i, tt))))))

pub write-pixels-one : Only write-pixels.ended write-pixels-reads.Learnt
write-pixels-one κs args x y u v p q = (same p.0 q.0, λ i. (tt, (tt, (tt, (tt, (same p.1 q.1 i, tt))))))

pub clear-one : Only clear.ended clear-reads.Learnt
clear-one κs args x y u v p q = (refl, λ i. (same p q i, tt))

pub empty-one : Only empty.ended empty-reads.Learnt
empty-one κs args x y u v p q = (same p q, refl)

pub append-one : Only append.ended append-reads.Learnt
append-one κs args x y u v p q = (same p q, refl)

pub differs-one : Only differs.ended differs-reads.Learnt
differs-one κs args x y u v p q = (same p q, refl)

pub excess-one : Only excess.ended excess-reads.Learnt
excess-one κs args x y u v p q = (same p q, refl)

pub free_one : Only free.ended free-reads.Learnt
free_one κs args x y u v p q = (same p q, refl)

pub is-latest-one : Only is-latest.ended is-latest-reads.Learnt
is-latest-one κs args x y u v p q = (same p q, refl)

pub over-one : Only over.ended over-reads.Learnt
over-one κs args x y u v p q = (same p q, refl)

pub stored-long-one : Only stored-long.ended stored-long-reads.Learnt
stored-long-one κs args x y u v p q = (same p q, refl)

pub copy-one : Only copy.ended copy-reads.Learnt
copy-one κs args x y u v p q = (refl, λ i. (tt, (same p q i, tt)))

pub table-one : Only table.ended table-reads.Learnt
table-one κs args x y u v p q = (same p q, refl)

pub decode-one : Only decode.ended decode-reads.Learnt
decode-one κs args x y u v p q = (same p q, refl)

pub kind-from-one : Only kind-from.ended kind-from-reads.Learnt
kind-from-one κs args x y u v p q = (same p q, refl)

pub kind-is-one : Only kind-is.ended kind-is-reads.Learnt
kind-is-one κs args x y u v p q = (same p q, refl)

pub starts-run-one : Only starts-run.ended starts-run-reads.Learnt
starts-run-one κs args x y u v p q = (same p q, refl)

pub has-effect-one : Only has-effect.ended has-effect-reads.Learnt
has-effect-one κs args x y u v p q = (same p q, refl)

pub command-place-one : Only command-place.ended command-place-reads.Learnt
command-place-one κs args x y u v p q = (same p q, refl)

pub lint-one : Only lint.ended lint-reads.Learnt
lint-one κs args x y u v p q = (same p q, refl)

pub count-one : Only count.ended count-reads.Learnt
count-one κs args x y u v p q = (same p q, refl)

pub rule-one : Only rule.ended rule-reads.Learnt
rule-one κs args x y u v p q = (same p q, refl)

pub times-fresh-one : Only times-fresh.ended times-fresh-reads.Learnt
times-fresh-one κs args x y u v p q = (same p q, refl)

pub times-anew-one : Only times-anew.ended times-anew-reads.Learnt
times-anew-one κs args x y u v p q = (same p q, refl)

pub after_one : Only after.ended after-reads.Learnt
after_one κs args x y u v p q = (same p q, refl)

pub config-new-one : Only config-new.ended config-new-reads.Learnt
config-new-one κs args x y u v p q = (same p q, refl)

pub config-strict-one : Only config-strict.ended config-strict-reads.Learnt
config-strict-one κs args x y u v p q = (same p q, refl)

pub config-formats-one : Only config-formats.ended config-formats-reads.Learnt
config-formats-one κs args x y u v p q = (same p q, refl)

pub config-set-one : Only config-set.ended config-set-reads.Learnt
config-set-one κs args x y u v p q = (same p q, refl)

pub power-fresh-one : Only power-fresh.ended power-fresh-reads.Learnt
power-fresh-one κs args x y u v p q = (same p q, refl)

pub power-set-powered-one : Only power-set-powered.ended power-set-powered-reads.Learnt
power-set-powered-one κs args x y u v p q = (same p q, refl)

pub power-set-brightness-one : Only power-set-brightness.ended power-set-brightness-reads.Learnt
power-set-brightness-one κs args x y u v p q = (same p q, refl)

pub is-board-rail-one : Only is-board-rail.ended is-board-rail-reads.Learnt
is-board-rail-one κs args x y u v p q = (same p q, refl)

pub chip-fresh-one : Only chip-fresh.ended chip-fresh-reads.Learnt
chip-fresh-one κs args x y u v p q = (same p q, refl)

pub begin-one : Only begin.ended begin-reads.Learnt
begin-one κs args x y u v p q = (same p q, refl)

pub take-one : Only take.ended take-reads.Learnt
take-one κs args x y u v p q = (same p q, refl)

pub release-one : Only release.ended release-reads.Learnt
release-one κs args x y u v p q = (same p q, refl)
