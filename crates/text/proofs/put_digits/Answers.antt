use Rattle.text.proofs.Text.{put_same}
use Rattle.text.proofs.Making.{making-next, making-last}
use Rattle.text.proofs.put_digits.Goals as goal

pub loop-i-preserved : goal.loop-i-preserved
loop-i-preserved c = making-next c.loop-i.invariant c.loop-i-test.true c.digit_code.ensures

pub returns : goal.returns
returns c = put_same _ _ (making-last c.loop-i.invariant c.loop-i-test.false) (c.put_bytes.ensures.answer, c.put_bytes.ensures.lent)
