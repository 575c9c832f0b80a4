use Rattle.std.proofs.Common.{arith}
use Rattle.std.proofs.lemmas.Bool.Decides.{nat_tests}
use Rattle.entry.proofs.Bitwise.{agree_masked, masked_agree}
use Rattle.entry.proofs.bus.breakpoint_matches.Goals as goal

pub returns-clause-bits : goal.returns-clause-bits
returns-clause-bits c =
    let a = c.args in (
      λ is. masked_agree a.address a.breakpoint a.mask (grind (arith, nat_tests)),
      λ agree. let same = agree_masked a.address a.breakpoint a.mask agree in grind (arith, nat_tests),
    )
