use Rattle.panel_script.proofs.Scanning.{word-turn}
use Rattle.panel_script.proofs.words.word.Goals as goal

pub loop-preserved : goal.loop-preserved
loop-preserved c =
    word-turn c.args.k c.loop.counter _ c.loop-test.true c.unspaced-spaced.ensures c.until.ensures c.tail-rest.ensures c.loop.invariant
