-- Where what is kept is current, the unit and the machine that keeps nothing have the same outcomes.
use Rattle.std.proofs.Common.{◌≡◌, ℕ, min, Bool, true, false, not, Some, None, Ok, Err, Option, refl, arith}
use Rattle.std.proofs.lemmas.Bool.{eq-eqb}
use Rattle.std.proofs.lemmas.Bool.Decides.{nat_tests}
use Rattle.entry.specs.Access.{permits}
use Rattle.entry.specs.Layout.{Layout, Lawful}
use Rattle.entry.specs.declared.TableLevel.{TableLevel}
use Rattle.entry.specs.declared.TableLevel.TheVariants.{First, Second}
use Rattle.physical.specs.Stores.{Values, Writable}
use Rattle.model.specs.declared.call.Request.{Request}
use Rattle.model.specs.declared.refusal.Abort.TheVariants.{Protection}
use Rattle.model.specs.declared.translation.Hit.{Hit}
use Rattle.model.specs.declared.translation.Tag.{Tag}
use Rattle.model.specs.declared.translation.Translation.{Translation}
use Rattle.model.specs.Access.{access, access_found, access_kept, access_sought, access_through, uncached_access, uncached_through, walk_outcome, walked}
use Rattle.model.specs.Requests.{Gate, stopped, untranslated, looking, access_gate, access_seeks, level_of, marks_modified, seeks_at, sought, validation_gate, validation_seeks}
use Rattle.model.specs.States.{Outcome, State, answered}
use Rattle.model.specs.Tlb.{Holds, base_of, find}
use Rattle.model.specs.Validation.{examine, uncached_validate, uncached_validate_through, validate, validate_found, validate_reading, validate_through}
use Rattle.model.specs.Walk.{found, marked, touched, walk}
use Rattle.laws.specs.Outcomes.{SameOutcome}
use Rattle.laws.proofs.Currents.{Current, Used}
use Rattle.laws.proofs.Marking.{marked_again}
use Rattle.laws.proofs.Slots.{found_holds}

pub same_outcome : {A : Type 0} (w : Writable) (x y : Outcome A) → x ≡ y → SameOutcome w w x y
same_outcome w x y e = rw e (record { answer = refl; registers = refl; memory = λ q _. refl })

touched_clean : (l : Layout) (t : TableLevel) (b : Bool) (a e : ℕ) (m : Values) (w : Writable) → marked l t b e ≡ e → touched l t b a e m w ≡ (Ok e, m)
touched_clean l t b a e m w same = rw (eq-eqb (marked l t b e) e same, touched)

module _ (l : Layout) (laws : Lawful l) (w : Writable) (m : Values) (tag : Tag) (base : ℕ) (e f : ℕ)
    (u : Used l (l.first_entry base tag.page) m e) (v : Used l (l.second_entry (l.frame e) tag.page) m f) where
  clean_first : touched l First false (l.first_entry base tag.page) e m w ≡ (Ok e, m)
  clean_first = touched_clean l First false (l.first_entry base tag.page) e m w (marked_again l laws First false e u.referenced (λ z. absurd cc))

  -- over two entries that are used already, a walk marks nothing
  pub walk_bars : (level : ℕ) (b : Bool) → permits (min (l.protection e) (l.protection f)) level ≡ false → walk l level b tag base m w ≡ (Err Protection, m)
  walk_bars level b h = let c = clean_first in grind (arith, nat_tests)

  pub walk_finds : (level : ℕ) (b : Bool) → permits (min (l.protection e) (l.protection f)) level ≡ true → (b ≡ true → l.modified Second f ≡ true) →
      walk l level b tag base m w ≡ (Ok (found l tag (l.first_entry base tag.page) e (l.second_entry (l.frame e) tag.page) f), m)
  walk_finds level b h modified =
      let c = clean_first in
      let clean = touched_clean l Second b (l.second_entry (l.frame e) tag.page) f m w (marked_again l laws Second b f v.referenced modified) in
      grind (arith, nat_tests)

  -- and a validation tells what the smaller protection level says
  pub examine_tells : (level : ℕ) → examine l level tag base m ≡ Ok (not (permits (min (l.protection e) (l.protection f)) level))
  examine_tells level = grind (arith, nat_tests)

-- the translations kept under a tag are current
abbrev pub KeptCurrent : Layout → State → Tag → Type 0
KeptCurrent l s tag = (i : ℕ) (t : Translation) → Holds s.tlb.slots i t → t.tag ≡ tag → Current l (base_of s.registers t.tag) s.values t

module _ (l : Layout) (laws : Lawful l) (w : Writable) (s : State) (q : Request) (h : Hit) (tagged : h.translation.tag ≡ sought l s.registers q)
    (c : Current l (base_of s.registers h.translation.tag) s.values h.translation) where
  -- a walk for the page of the request has the outcome of what is kept
  pub kept_same : (access_kept l q h s w).outcome ≡ walk_outcome l q s.registers (walked l q s.registers s.values w)
  kept_same =
      let tag = h.translation.tag in
      let level = level_of s.registers q in
      let bars = walk_bars l laws w s.values tag (base_of s.registers tag) c.first c.second c.first_used c.second_used level (marks_modified q.kind) in
      let finds = walk_finds l laws w s.values tag (base_of s.registers tag) c.first c.second c.first_used c.second_used level (marks_modified q.kind) in
      grind (arith, nat_tests)

  -- and so has a validation that reads the tables
  pub validate_same : answered (Ok (not (permits h.translation.protection (level_of s.registers q)))) s.registers s.values ≡ validate_reading l q s.registers s.values
  validate_same =
      let tag = h.translation.tag in
      let tells = examine_tells l laws w s.values tag (base_of s.registers tag) c.first c.second c.first_used c.second_used (level_of s.registers q) in
      grind arith

-- every access, and every validation, if what is kept under the tag that it looks for is current
module _ (l : Layout) (laws : Lawful l) (w : Writable) (s : State) where
  found_current : (q : Request) → KeptCurrent l s (sought l s.registers q) → (h : Hit) → find (sought l s.registers q) s.tlb.slots ≡ Some h →
      (h.translation.tag ≡ sought l s.registers q) × Current l (base_of s.registers h.translation.tag) s.values h.translation
  found_current q kept h e =
      let (i, held, tagged) = found_holds 0 (sought l s.registers q) s.tlb.slots h e in
      (tagged, kept i h.translation held tagged)

  sought_same : (q : Request) → KeptCurrent l s (sought l s.registers q) → (access_sought l q s w).outcome ≡ walk_outcome l q s.registers (walked l q s.registers s.values w)
  sought_same q kept = on (find (sought l s.registers q) s.tlb.slots) refl
    where
      on : (o : Option Hit) → find (sought l s.registers q) s.tlb.slots ≡ o → (access_found l q o s w).outcome ≡ walk_outcome l q s.registers (walked l q s.registers s.values w)
      on None e = refl
      on (Some h) e = let (tagged, c) = found_current q kept h e in kept_same l laws w s q h tagged c

  pub access_same : (mode kind address : ℕ) → ((tag : Tag) → access_seeks l s.registers mode kind address ≡ Some tag → KeptCurrent l s tag) →
      (access l mode kind address s w).outcome ≡ uncached_access l mode kind address s.registers s.values w
  access_same mode kind address = on (access_gate s.registers mode kind address)
    where
      on : (g : Gate) → ((tag : Tag) → seeks_at l s.registers g ≡ Some tag → KeptCurrent l s tag) → (access_through l g s w).outcome ≡ uncached_through l g s.registers s.values w
      on (stopped x r) kept = refl
      on (untranslated q) kept = refl
      on (looking q) kept = sought_same q (kept (sought l s.registers q) refl)

  pub validation_same : (kind address : ℕ) → ((tag : Tag) → validation_seeks l s.registers kind address ≡ Some tag → KeptCurrent l s tag) →
      (validate l kind address s).outcome ≡ uncached_validate l kind address s.registers s.values
  validation_same kind address = on (validation_gate s.registers kind address)
    where
      on_find : (q : Request) → KeptCurrent l s (sought l s.registers q) → (o : Option Hit) → find (sought l s.registers q) s.tlb.slots ≡ o →
          validate_found l q o s.registers s.values ≡ validate_reading l q s.registers s.values
      on_find q kept None e = refl
      on_find q kept (Some h) e = let (tagged, c) = found_current q kept h e in validate_same l laws w s q h tagged c

      on : (g : Gate) → ((tag : Tag) → seeks_at l s.registers g ≡ Some tag → KeptCurrent l s tag) →
          validate_through l g s.registers s.tlb.slots s.values ≡ uncached_validate_through l g s.registers s.values
      on (stopped x r) kept = refl
      on (untranslated q) kept = refl
      on (looking q) kept = on_find q (kept (sought l s.registers q) refl) _ refl
