-- Access levels, and which protection level lets them pass.
use Rattle.std.specs.Prelude.{ℕ, ◌+◌, min, Bool, true, false, if◌then◌else◌, not, ◌&&◌, nat_le}
use Rattle.entry.specs.declared.access.Mode.{Mode}
use Rattle.entry.specs.declared.access.Mode.TheVariants.{Supervisor, User}
use Rattle.entry.specs.declared.access.AccessKind.{AccessKind}
use Rattle.entry.specs.declared.access.AccessKind.TheVariants.{Read, Write, ReadModifyWrite}

abbrev pub is_user : Mode → Bool
is_user Supervisor = false
is_user User = true

abbrev pub is_plain_read : AccessKind → Bool
is_plain_read Read = true
is_plain_read Write = false
is_plain_read ReadModifyWrite = false

-- 2 for a user whose access is not overridden, else 0, and 1 more unless it is a plain read
abbrev pub access_level : Mode → Bool → AccessKind → ℕ
access_level mode override kind = (if is_user mode && not override then 2 else 0) + (if is_plain_read kind then 0 else 1)

-- an access passes an entry whose protection level is not below its access level
abbrev pub permits : ℕ → ℕ → Bool
permits protection level = nat_le level protection

-- of two entries on the way, the smaller protection level counts
abbrev pub effective_protection : ℕ → ℕ → ℕ
effective_protection first second = min first second
