-- A validation: whether a user's access would be stopped by protection. It writes nothing, keeps nothing, drops nothing.
use Rattle.std.specs.Prelude.{ℕ, Bool, true, false, not, Some, None, Ok, Err, Option, Result, if◌then◌else◌}
use Rattle.entry.specs.Access.{permits}
use Rattle.entry.specs.Layout.{Layout}
use Rattle.entry.specs.declared.TableLevel.TheVariants.{First, Second}
use Rattle.physical.specs.Stores.{Values, dword}
use Rattle.physical.specs.declared.MemoryError.TheVariants.{Absent}
use Rattle.model.specs.declared.call.Request.{Request}
use Rattle.model.specs.declared.refusal.Abort.{Abort}
use Rattle.model.specs.declared.refusal.Abort.TheVariants.{InvalidEntry, EntryRefused}
use Rattle.model.specs.declared.refusal.Refusal.{Refusal}
use Rattle.model.specs.declared.registers.Registers.{Registers}
use Rattle.model.specs.declared.translation.Hit.{Hit}
use Rattle.model.specs.declared.translation.Tag.{Tag}
use Rattle.model.specs.Access.{aborted}
use Rattle.model.specs.Requests.{Gate, stopped, untranslated, looking, level_of, sought, validation_gate}
use Rattle.model.specs.States.{Effect, Outcome, State, answered}
use Rattle.model.specs.Tlb.{Slots, base_of, find, rest}

-- done: the flag, set where protection stops the access
abbrev pub Validated : Type 0
Validated = Result Bool Refusal

-- the second table, whose entry lies at b: PL alone is asked
abbrev pub examine_second : Layout → ℕ → ℕ → Option ℕ → Result Bool Abort
examine_second l level b None = Err (EntryRefused Second b Absent)
examine_second l level b (Some f) = Ok (not (permits (l.protection f) level))

-- the first, whose entry lies at a: PL is asked before V
abbrev pub examine_first : Layout → ℕ → Tag → ℕ → Option ℕ → Values → Result Bool Abort
examine_first l level tag a None m = Err (EntryRefused First a Absent)
examine_first l level tag a (Some e) m =
    let b = l.second_entry (l.frame e) tag.page in
    if not (permits (l.protection e) level) then Ok true
    else if not (l.valid e) then Err (InvalidEntry First a)
    else examine_second l level b (m (dword b))

-- both entries are read as in a walk
abbrev pub examine : Layout → ℕ → Tag → ℕ → Values → Result Bool Abort
examine l level tag base m =
    let a = l.first_entry base tag.page in
    examine_first l level tag a (m (dword a)) m

abbrev pub examined : Request → Registers → Values → Result Bool Abort → Outcome Validated
examined q r m (Ok flag) = answered (Ok flag) r m
examined q r m (Err x) = aborted x q r m

-- the page is not kept
abbrev pub validate_reading : Layout → Request → Registers → Values → Outcome Validated
validate_reading l q r m = examined q r m (examine l (level_of r q) (sought l r q) (base_of r (sought l r q)) m)

-- on registers and a readable store, with nothing kept
abbrev pub uncached_validate_through : Layout → Gate → Registers → Values → Outcome Validated
uncached_validate_through l (stopped x r') r m = answered (Err x) r' m
uncached_validate_through l (untranslated q) r m = answered (Ok false) r m
uncached_validate_through l (looking q) r m = validate_reading l q r m

abbrev pub uncached_validate : Layout → ℕ → ℕ → Registers → Values → Outcome Validated
uncached_validate l kind address r m = uncached_validate_through l (validation_gate r kind address) r m

-- its page is looked for among those kept, and found or not
abbrev pub validate_found : Layout → Request → Option Hit → Registers → Values → Outcome Validated
validate_found l q None r m = validate_reading l q r m
validate_found l q (Some h) r m = answered (Ok (not (permits h.translation.protection (level_of r q)))) r m

abbrev pub validate_sought : Layout → Request → Registers → Slots → Values → Outcome Validated
validate_sought l q r xs m = validate_found l q (find (sought l r q) xs) r m

abbrev pub validate_through : Layout → Gate → Registers → Slots → Values → Outcome Validated
validate_through l (stopped x r') r xs m = answered (Err x) r' m
validate_through l (untranslated q) r xs m = answered (Ok false) r m
validate_through l (looking q) r xs m = validate_sought l q r xs m

abbrev pub validate : Layout → ℕ → ℕ → State → Effect Validated
validate l kind address s = record {
  outcome = validate_through l (validation_gate s.registers kind address) s.registers s.tlb.slots s.values;
  action = rest;
}
