use Rattle.std.proofs.Common.{refl}
use Rattle.codes.specs.Codes.{kind_of, need_of}
use Rattle.codes.specs.Table.{table}
use Rattle.codes.proofs.numbers.table.Goals as goal

pub returns : goal.returns
unfolding table kind_of need_of
returns c = record { answer = refl }
