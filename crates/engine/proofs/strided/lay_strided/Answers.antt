use Rattle.std.proofs.Common.{rules, ◌≡◌, ◌∙◌, ap}
use Rattle.engine.specs.Strides.{cell_of, on_from}
use Rattle.engine.proofs.Strides.{cell-on}
use Rattle.engine.proofs.strided.lay_strided.Goals as goal

pub returns : goal.returns
returns g c = λ pixels r.
    let a = c.args.stretch in
    let s = c.of-stride in
    c.lay_each.ensures (on_from a.madctl a.first) pixels
    (record {
      each = λ k i h e.
          let n : i ≡ cell_of s.result k = search rules in
          n ∙ ap (λ t. cell_of t k) s.ensures ∙ cell-on a.madctl a.first k;
    })
    r
