use Rattle.st7789.proofs.Tests.{refused}
use Rattle.st7789.proofs.St7789p3.judged.Goals as goal

pub returns : goal.returns
returns c = refused c.args.self.now c.args.cells c.args.bytes c.place.ensures.value c.bad.ensures c.held-held.ensures c.judged.ensures
