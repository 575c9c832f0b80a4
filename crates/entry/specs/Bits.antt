-- Bits, fields and bytes of a double-word. Bit 0 is the lowest.
use Rattle.std.specs.Prelude.{◌≡◌, ℕ, ◌*◌, ◌/◌, ◌%◌, ◌^◌, Bool, true, false, ◌==◌, ◌≢◌}

-- bit k of w
abbrev pub bit : ℕ → ℕ → ℕ
bit k w = w / 2 ^ k % 2

-- whether bit k of w is set
abbrev pub flag : ℕ → ℕ → Bool
flag k w = bit k w == 1

-- the field of w that has its lowest bit at `low`, and `width` bits
abbrev pub field : ℕ → ℕ → ℕ → ℕ
field low width w = w / 2 ^ low % 2 ^ width

-- byte i of w, byte 0 the lowest
abbrev pub byte : ℕ → ℕ → ℕ
byte i w = field (8 * i) 8 w

-- a flag as a number
abbrev pub as_bit : Bool → ℕ
as_bit true = 1
as_bit false = 0

-- an operation that marks bit k: it leaves that bit set, clears nothing, alters no other bit,
-- does nothing more the second time, and nothing at all where the bit is set already
pub record Marks (k : ℕ) (mark : ℕ → ℕ) : Type 0 where
  pub sets : (w : ℕ) → bit k (mark w) ≡ 1
  pub clears_nothing : (w j : ℕ) → bit j w ≡ 1 → bit j (mark w) ≡ 1
  pub alters_no_other : (w j : ℕ) → (j ≢ k) → bit j (mark w) ≡ bit j w
  pub twice_is_once : (w : ℕ) → mark (mark w) ≡ mark w
  pub marked_stays : (w : ℕ) → bit k w ≡ 1 → mark w ≡ w
