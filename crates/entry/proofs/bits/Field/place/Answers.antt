use Rattle.std.proofs.Common.{◌^◌, ◌<◌, arith}
use Rattle.std.proofs.lemmas.Nat.{one_shl, shl_whole}
use Rattle.entry.proofs.bits.Field.place.Goals as goal

pub returns-then-value-self : goal.returns-then-value-self
returns-then-value-self c =
    let f = c.args.self in
    let small : c.args.value < 2 ^ f.width = omega (arith, one_shl f.width 32 f.width_below) in
    (small, shl_whole c.args.value f.width f.low 32 small f.within)
