-- Bytes chosen by a mask, and the match of a breakpoint.
use Rattle.std.specs.Prelude.{◌≡◌, ℕ, ◌+◌, ◌*◌, ◌^◌, Bool, if◌then◌else◌, Some, None, Option, ◌==◌, bit_and, nat_le}
use Rattle.entry.specs.Bits.{bit, byte, flag}

-- byte i of the new value where bit i of the mask is set, else byte i of the old one
abbrev pub chosen_byte : ℕ → ℕ → ℕ → ℕ → ℕ
chosen_byte old new mask i = if flag i mask then byte i new else byte i old

abbrev pub merged : ℕ → ℕ → ℕ → ℕ
merged old new mask =
    chosen_byte old new mask 0 + chosen_byte old new mask 1 * 2 ^ 8 + chosen_byte old new mask 2 * 2 ^ 16 + chosen_byte old new mask 3 * 2 ^ 24

-- a mask has four bits; a wider one is refused
abbrev pub merge_answer : ℕ → ℕ → ℕ → Option ℕ
merge_answer old new mask = if nat_le mask 15 then Some (merged old new mask) else None

-- equal in every bit that the mask sets
abbrev pub Agrees : ℕ → ℕ → ℕ → Type 0
Agrees address breakpoint mask = (k : ℕ) → bit k mask ≡ 1 → bit k address ≡ bit k breakpoint

abbrev pub breakpoint_match : ℕ → ℕ → ℕ → Bool
breakpoint_match address breakpoint mask = bit_and address mask == bit_and breakpoint mask
