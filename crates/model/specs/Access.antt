-- An access: of the unit, and of the machine that keeps nothing.
use Rattle.std.specs.Prelude.{ℕ, Bool, false, not, ◌&&◌, Some, None, Ok, Err, Option, Result, if◌then◌else◌}
use Rattle.entry.specs.Access.{permits}
use Rattle.entry.specs.Layout.{Layout}
use Rattle.physical.specs.Stores.{Values, Writable}
use Rattle.model.specs.declared.call.Request.{Request}
use Rattle.model.specs.declared.refusal.Abort.{Abort}
use Rattle.model.specs.declared.refusal.Abort.TheVariants.{Protection}
use Rattle.model.specs.declared.refusal.Refusal.{Refusal}
use Rattle.model.specs.declared.refusal.Refusal.TheVariants.{Aborted}
use Rattle.model.specs.declared.registers.Registers.{Registers}
use Rattle.model.specs.declared.translation.Hit.{Hit}
use Rattle.model.specs.declared.translation.Translation.{Translation}
use Rattle.model.specs.Refusals.{noted}
use Rattle.model.specs.Requests.{Gate, stopped, untranslated, looking, access_gate, level_of, marks_modified, sought}
use Rattle.model.specs.States.{Effect, Outcome, State, answered, only_answers}
use Rattle.model.specs.Tlb.{TlbAction, rest, hit, drop, fill, base_of, find, of_tag}
use Rattle.model.specs.NextSlot.{named_slot}
use Rattle.model.specs.Walk.{walk}

-- done: the physical address with the cache-inhibit bit
abbrev pub Accessed : Type 0
Accessed = Result (ℕ × Bool) Refusal

abbrev pub physical_of : Layout → Translation → ℕ → ℕ × Bool
physical_of l t address = (l.physical t.frame (l.offset address), t.inhibit)

-- an abort answers, and notes itself in the registers
abbrev pub aborted : {A : Type 0} → Abort → Request → Registers → Values → Outcome (Result A Refusal)
aborted x q r m = answered (Err (Aborted x)) (noted x q r) m

-- the walk of a request
abbrev pub walked : Layout → Request → Registers → Values → Writable → Result Translation Abort × Values
walked l q r m w = walk l (level_of r q) (marks_modified q.kind) (sought l r q) (base_of r (sought l r q)) m w

-- what the walk's end makes of the access
abbrev pub walk_outcome : Layout → Request → Registers → Result Translation Abort × Values → Outcome Accessed
walk_outcome l q r (Ok t, m) = answered (Ok (physical_of l t q.address)) r m
walk_outcome l q r (Err x, m) = aborted x q r m

-- a finished walk is kept; one that stopped leaves its page dropped
abbrev pub walk_action : Layout → Request → State → Result Translation Abort → TlbAction
walk_action l q s (Ok t) = fill (named_slot s.tlb.next) t
walk_action l q s (Err x) = drop (of_tag (sought l s.registers q))

abbrev pub access_walking : Layout → Request → State → Writable → Effect Accessed
access_walking l q s w =
    let end = walked l q s.registers s.values w in
    record { outcome = walk_outcome l q s.registers end; action = walk_action l q s end.0 }

-- whether a page that is kept has to be walked for all the same: it is to be marked modified, and is not known to be
abbrev pub needs_mark : Request → Translation → Bool
needs_mark q t = marks_modified q.kind && not t.modified

-- its page is kept: PL is asked, then whether it has to be marked
abbrev pub access_kept : Layout → Request → Hit → State → Writable → Effect Accessed
access_kept l q h s w =
    if not (permits h.translation.protection (level_of s.registers q)) then record { outcome = aborted Protection q s.registers s.values; action = rest }
    else if needs_mark q h.translation then access_walking l q s w
    else record { outcome = answered (Ok (physical_of l h.translation q.address)) s.registers s.values; action = hit h }

-- its page is looked for, and found to be kept or not
abbrev pub access_found : Layout → Request → Option Hit → State → Writable → Effect Accessed
access_found l q None s w = access_walking l q s w
access_found l q (Some h) s w = access_kept l q h s w

abbrev pub access_sought : Layout → Request → State → Writable → Effect Accessed
access_sought l q s w = access_found l q (find (sought l s.registers q) s.tlb.slots) s w

-- an access, from how far it comes
abbrev pub access_through : Layout → Gate → State → Writable → Effect Accessed
access_through l (stopped x r) s w = record { outcome = answered (Err x) r s.values; action = rest }
access_through l (untranslated q) s w = only_answers (Ok (q.address, false)) s
access_through l (looking q) s w = access_sought l q s w

abbrev pub access : Layout → ℕ → ℕ → ℕ → State → Writable → Effect Accessed
access l mode kind address s w = access_through l (access_gate s.registers mode kind address) s w

-- the machine that keeps nothing comes as far, and walks for every page that it would look for
abbrev pub uncached_through : Layout → Gate → Registers → Values → Writable → Outcome Accessed
uncached_through l (stopped x r') r m w = answered (Err x) r' m
uncached_through l (untranslated q) r m w = answered (Ok (q.address, false)) r m
uncached_through l (looking q) r m w = walk_outcome l q r (walked l q r m w)

abbrev pub uncached_access : Layout → ℕ → ℕ → ℕ → Registers → Values → Writable → Outcome Accessed
uncached_access l mode kind address r m w = uncached_through l (access_gate r mode kind address) r m w
