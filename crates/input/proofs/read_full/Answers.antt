use Rattle.std.proofs.Common.{rules, ◌-◌, length, sym, subst}
use Rattle.std.specs.Io.KnownBytes.{Consumes}
use Rattle.std.proofs.KnownBytes.{Consumes-trans}
use Rattle.input.proofs.Filling.{front-filled}
use Rattle.input.proofs.read_full.Goals as goal

pub loop-done-preserved : goal.loop-done-preserved
loop-done-preserved g c =
    let inv = c.loop-done.invariant in
    let came = c.in_ok-n.ensures in
    record {
      within = search rules;
      same = search rules;
      bytes =
          subst (Consumes _ _) (sym (front-filled _ (length c.loop-done.buf - c.loop-done.done) _ _ _ inv.within came.bound.0))
          (Consumes-trans _ _ _ _ _ inv.bytes came.bytes.0);
    }
