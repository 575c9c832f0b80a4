-- What a look-up by reading both entries finds. It asks only that they are there and valid, and marks nothing.
use Rattle.std.specs.Prelude.{ℕ, if◌then◌else◌, List, codes, Some, None, Ok, Err, Option, Result}
use Rattle.physical.specs.Stores.{Values, dword}
use Rattle.entry.specs.NS32382.{ns32382}
use Rattle.lookup.specs.declared.Step.{Step}
use Rattle.lookup.specs.declared.Found.{Found}
use Rattle.lookup.specs.declared.Miss.{Miss}
use Rattle.lookup.specs.declared.Miss.TheVariants.{Absent, Invalid}

-- the entry at an address, if it is there and valid
abbrev pub step_of : Option ℕ → ℕ → Result Step Miss
step_of None a = Err (Absent a)
step_of (Some e) a = if ns32382.valid e then Ok (record { address = a; entry = e }) else Err (Invalid a)

-- the second entry, once the first is found, and the physical address
abbrev pub found_of : ℕ → Step → Result Step Miss → Result Found Miss
found_of va first (Ok second) = Ok (record { first = first; second = second; physical = ns32382.physical (ns32382.frame second.entry) (ns32382.offset va) })
found_of va first (Err e) = Err e

abbrev pub second_of : Values → ℕ → Result Step Miss → Result Found Miss
second_of m va (Ok first) =
    let a = ns32382.second_entry (ns32382.frame first.entry) (ns32382.page va) in
    found_of va first (step_of (m (dword a)) a)
second_of m va (Err e) = Err e

abbrev pub looked_up : Values → ℕ → ℕ → Result Found Miss
looked_up m base va = let a = ns32382.first_entry base (ns32382.page va) in second_of m va (step_of (m (dword a)) a)

-- the words for each reason why a look-up stops
abbrev pub miss_text : Miss → List ℕ
miss_text (Absent a) = codes "an entry is absent"
miss_text (Invalid a) = codes "an entry is invalid"
