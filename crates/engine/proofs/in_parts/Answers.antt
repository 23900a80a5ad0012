use Rattle.std.proofs.Common.{length, refl, arith}
use Rattle.engine.proofs.Segments.{parts, middle-ready, two-few, three, three-few, three-memory}
use Rattle.engine.proofs.in_parts.Goals as goal

pub stretches-b-requires : goal.stretches-b-requires
stretches-b-requires c =
    let a = c.args in
    middle-ready a.site a.walk a.marks a.bytes.now (length a.memory.now) c.head_bytes-head.result c.rest_bytes.result c.head_bytes-head.ensures
    c.rest_bytes.ensures c.requires c.write_pixels-a.result c.write_pixels-a.ensures.answer a.memory.now _ refl c.write_pixels-a.ensures.lent

pub sum-requires : goal.sum-requires
sum-requires c =
    let a = c.args in
    let p =
    parts a.site a.walk a.marks a.bytes.now (length a.memory.now) c.head_bytes-head.result c.rest_bytes.result c.head_bytes-head.ensures
    c.rest_bytes.ensures c.requires c.write_pixels-a.result c.write_pixels-a.ensures.answer c.stretches-b.result c.stretches-b.ensures.value in
    omega (arith, two-few p)

pub sum-requires-2 : goal.sum-requires-2
sum-requires-2 c =
    let a = c.args in
    let p =
    parts a.site a.walk a.marks a.bytes.now (length a.memory.now) c.head_bytes-head.result c.rest_bytes.result c.head_bytes-head.ensures
    c.rest_bytes.ensures c.requires c.write_pixels-a.result c.write_pixels-a.ensures.answer c.stretches-b.result c.stretches-b.ensures.value in
    omega (arith, three-few p c.write_pixels-c.ensures.answer c.sum.ensures)

pub returns : goal.returns
returns c =
    let a = c.args in
    let p =
    parts a.site a.walk a.marks a.bytes.now (length a.memory.now) c.head_bytes-head.result c.rest_bytes.result c.head_bytes-head.ensures
    c.rest_bytes.ensures c.requires c.write_pixels-a.result c.write_pixels-a.ensures.answer c.stretches-b.result c.stretches-b.ensures.value in
    record {
      value = three p c.write_pixels-c.ensures.answer c.sum.ensures c.sum-2.ensures;
      memory_after = three-memory p _ _ _ _ c.write_pixels-a.ensures.lent c.stretches-b.ensures.memory_after c.write_pixels-c.ensures.lent;
    }
