-- What the checks of lengths, starts and boundaries answer.
use Rattle.std.specs.Prelude.{ℕ, ◌+◌, ◌-◌, ◌/◌, ◌%◌, Bool, List, codes, not, ◌&&◌, Some, None, Ok, Err, Option, Result, ◌==◌, if◌then◌else◌, nat_le}
use Rattle.physical.specs.declared.checks.AssemblyError.{AssemblyError}
use Rattle.physical.specs.declared.checks.AssemblyError.TheVariants.{Length, Placement, Boundary}

-- lengths, starts, splits and shifts are multiples of this many bytes
abbrev pub granule : ℕ
granule = 4

-- the number of each refusal
abbrev pub assembly_number : AssemblyError → ℕ
assembly_number Length = 1
assembly_number Placement = 2
assembly_number Boundary = 3

-- the words for each refusal
abbrev pub assembly_error_text : AssemblyError → List ℕ
assembly_error_text Length = codes "the length is zero, no multiple of the granule, or above the longest"
assembly_error_text Placement = codes "the start is no multiple of the granule, or the bytes would end above 2^32"
assembly_error_text Boundary = codes "the split or the shift is no multiple of the granule"

-- the number that a check answers: 0 where it passes
abbrev pub check_number : Result (Unit {0}) AssemblyError → ℕ
check_number (Ok u) = 0
check_number (Err e) = assembly_number e

-- a multiple of the granule
abbrev pub is_multiple : ℕ → Bool
is_multiple n = n % granule == 0

-- a length: not zero, a multiple of the granule, at most 16,777,216
abbrev pub length_ok : ℕ → Bool
length_ok n = not (n == 0) && (is_multiple n && nat_le n 16777216)

-- a start for a length: a multiple of the granule, and the last byte below 2^32
abbrev pub start_ok : ℕ → ℕ → Bool
start_ok s n = is_multiple s && nat_le (s + n) 4294967296

-- 1 for the length, then 2 for the start
abbrev pub range_rule : ℕ → ℕ → ℕ
range_rule s n = if length_ok n then (if start_ok s n then 0 else 2) else 1

-- the start of n bytes, where the check passes them
abbrev pub start_checked : ℕ → ℕ → Option ℕ
start_checked s n = if range_rule s n == 0 then Some s else None

-- a start as it was given, `Ok` where the check passes it
abbrev pub given_start : Result ℕ ℕ → ℕ
given_start (Ok s) = s
given_start (Err s) = s

-- 3 for a split or a shift
abbrev pub boundary_rule : ℕ → ℕ
boundary_rule a = if is_multiple a then 0 else 3

-- the double-word at which a split or a shift lies, once the bits below the granule are cleared
abbrev pub boundary_dword : ℕ → ℕ
boundary_dword a = (a - a % granule) / 4
