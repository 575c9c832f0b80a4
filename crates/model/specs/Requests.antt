-- Accesses and validations before anything kept is looked for: what they ask, by the registers.
use Rattle.std.specs.Prelude.{ℕ, Bool, true, false, ◌&&◌, Some, None, Ok, Err, Option, Result, if◌then◌else◌, ◌==◌}
use Rattle.entry.specs.Access.{access_level, is_user}
use Rattle.entry.specs.Bus.{breakpoint_match}
use Rattle.entry.specs.Layout.{Layout}
use Rattle.entry.specs.declared.access.AccessKind.{AccessKind}
use Rattle.entry.specs.declared.access.AccessKind.TheVariants.{Read, Write, ReadModifyWrite}
use Rattle.entry.specs.declared.access.Mode.{Mode}
use Rattle.entry.specs.declared.access.Mode.TheVariants.{Supervisor, User}
use Rattle.model.specs.declared.call.Request.{Request}
use Rattle.model.specs.declared.refusal.Abort.TheVariants.{Breakpoint}
use Rattle.model.specs.declared.refusal.Refusal.{Refusal}
use Rattle.model.specs.declared.refusal.Refusal.TheVariants.{Aborted, BadAccess}
use Rattle.model.specs.declared.registers.Registers.{Registers}
use Rattle.model.specs.declared.translation.Tag.{Tag}
use Rattle.model.specs.Refusals.{is_write, noted}
use Rattle.model.specs.Registers.{access_override, break_on_read, break_on_write, dual_space, translate_supervisor, translate_user}
use Rattle.model.specs.Tlb.{tag_of}

abbrev pub mode_of : ℕ → Option Mode
mode_of n = if n == 0 then Some Supervisor else if n == 1 then Some User else None

abbrev pub kind_of : ℕ → Option AccessKind
kind_of n = if n == 0 then Some Read else if n == 1 then Some Write else if n == 2 then Some ReadModifyWrite else None

-- what an access asks, or the refusal of a mode or a kind that does not exist
abbrev pub checked_request : Option Mode → Option AccessKind → ℕ → Result Request Refusal
checked_request (Some m) (Some k) address = Ok (record { mode = m; kind = k; address = address })
checked_request _ _ address = Err BadAccess

abbrev pub access_request : ℕ → ℕ → ℕ → Result Request Refusal
access_request mode kind address = checked_request (mode_of mode) (kind_of kind) address

-- what a validation asks, as a user: 0 validates a read, 1 a write
abbrev pub validation_request : ℕ → ℕ → Result Request Refusal
validation_request kind address =
    if kind == 0 then Ok (record { mode = User; kind = Read; address = address })
    else if kind == 1 then Ok (record { mode = User; kind = Write; address = address })
    else Err BadAccess

-- the kinds that mark the page modified
abbrev pub marks_modified : AccessKind → Bool
marks_modified Write = true
marks_modified _ = false

-- whether the breakpoint is met: BW for a write, BR for the others
abbrev pub breaks : Registers → Request → Bool
breaks r q = (if is_write q.kind then break_on_write r else break_on_read r) && breakpoint_match q.address r.bar r.bmr

-- whether addresses of that mode are translated
abbrev pub translates : Registers → Mode → Bool
translates r Supervisor = translate_supervisor r
translates r User = translate_user r

-- space 1 is a user's with DS set; all else is in space 0
abbrev pub space_of : Registers → Mode → ℕ
space_of r mode = if dual_space r && is_user mode then 1 else 0

-- the tag under which the page of the request is looked for
abbrev pub sought : Layout → Registers → Request → Tag
sought l r q = tag_of r (space_of r q.mode) (l.page q.address)

abbrev pub level_of : Registers → Request → ℕ
level_of r q = access_level q.mode (access_override r) q.kind

-- how far an access or a validation comes before anything kept is looked for
pub data Gate : Type 0 where
  -- it is refused, and leaves these registers
  stopped : Refusal → Registers → Gate
  -- its address is not translated
  untranslated : Request → Gate
  -- its page is looked for
  looking : Request → Gate

abbrev pub translate_gate : Registers → Request → Gate
translate_gate r q = if translates r q.mode then looking q else untranslated q

-- mode and kind, then the breakpoint, then the translate bits
abbrev pub asked_access : Registers → Result Request Refusal → Gate
asked_access r (Err x) = stopped x r
asked_access r (Ok q) = if breaks r q then stopped (Aborted Breakpoint) (noted Breakpoint q r) else translate_gate r q

abbrev pub access_gate : Registers → ℕ → ℕ → ℕ → Gate
access_gate r mode kind address = asked_access r (access_request mode kind address)

-- the kind, then the translate bit; breakpoints play no part
abbrev pub asked_validation : Registers → Result Request Refusal → Gate
asked_validation r (Err x) = stopped x r
asked_validation r (Ok q) = translate_gate r q

abbrev pub validation_gate : Registers → ℕ → ℕ → Gate
validation_gate r kind address = asked_validation r (validation_request kind address)

-- the tag that is looked for, by an access or a validation that comes so far
abbrev pub seeks_at : Layout → Registers → Gate → Option Tag
seeks_at l r (looking q) = Some (sought l r q)
seeks_at l r _ = None

abbrev pub access_seeks : Layout → Registers → ℕ → ℕ → ℕ → Option Tag
access_seeks l r mode kind address = seeks_at l r (access_gate r mode kind address)

abbrev pub validation_seeks : Layout → Registers → ℕ → ℕ → Option Tag
validation_seeks l r kind address = seeks_at l r (validation_gate r kind address)
