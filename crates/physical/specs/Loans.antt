-- What a memory was lent: the byte slices under it, which no call exchanges for others.
use Rattle.std.specs.Prelude.{ℕ, List, length, ◌==◌, if◌then◌else◌}
use Rattle.physical.specs.Checks.{range_rule}

pub data Loans : Type 0 where
  -- nothing that is known of
  none : Loans
  -- a slice that lies from the address start on, by the name of its loan, with its length
  laid_out : (name length start : ℕ) → Loans
  -- a slice that is not used, with its bytes, which therefore stay
  left_alone : (name : ℕ) → (bytes : List ℕ) → Loans
  -- the loans of two memories
  both : Loans → Loans → Loans

-- the loan of bytes from an address on: laid out where the check passes, left alone where it does not
abbrev pub loan_checked : ℕ → ℕ → List ℕ → Loans
loan_checked start name bs = if range_rule start (length bs) == 0 then laid_out name (length bs) start else left_alone name bs
