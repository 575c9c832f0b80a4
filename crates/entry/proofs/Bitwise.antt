-- Bits and fields of numbers joined by `bit_or` or masked by `bit_and`.
use Rattle.std.proofs.Common.{◌≡◌, ℕ, arith}
use lib.Bits.{bit_and, bit_or, or_zero_r}
use Rattle.std.proofs.lemmas.Nat.{and_mod, and_shr, or_mod, or_shr}
use Rattle.std.proofs.lemmas.Nat.Bits.{bit_at-lt, bit_at_and, same_from_bits}
use Rattle.entry.specs.Bits.{field}
use Rattle.entry.specs.Bus.{Agrees}

-- a field of a join is the join of the fields
pub or_field : (low width a b : ℕ) → field low width (bit_or a b) ≡ bit_or (field low width a) (field low width b)
or_field low width a b = rw (or_shr, or_mod)

-- a field of a masked number is the field under the mask's field
pub and_field : (low width a b : ℕ) → field low width (bit_and a b) ≡ bit_and (field low width a) (field low width b)
and_field low width a b = rw (and_shr, and_mod)

-- a field where b has no bit is not altered by joining b
pub beside : (low width a b : ℕ) → field low width b ≡ 0 → field low width (bit_or a b) ≡ field low width a
beside low width a b none = rw (or_field low width a b, none, or_zero_r)

-- numbers that are equal in every bit under the mask are equal under it, and the other way round
pub agree_masked : (a b mask : ℕ) → Agrees a b mask → bit_and a mask ≡ bit_and b mask
agree_masked a b mask agree = same_from_bits (bit_and a mask) (bit_and b mask) (λ k. let h = agree k in grind (arith, bit_at_and, bit_at-lt))

pub masked_agree : (a b mask : ℕ) → bit_and a mask ≡ bit_and b mask → Agrees a b mask
masked_agree a b mask same k set = grind (arith, bit_at_and a mask k, bit_at_and b mask k, bit_at-lt)
