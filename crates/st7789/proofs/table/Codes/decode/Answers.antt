use Rattle.std.proofs.Common.{rules, ◌∙◌}
use Rattle.codes.proofs.Bytes.{decoded-byte}
use Rattle.st7789.proofs.table.Codes.decode.Goals as goal

pub returns : goal.returns
returns c = c.decode.ensures.answer ∙ decoded-byte c.args.c c.args.self.now.told (search rules)
