-- Where the unit and the machine that keeps nothing have the same outcomes, what is kept is current: accesses and
-- validations under a few settings tell all that is in it.
use Rattle.std.specs.Prelude.{if◌then◌else◌}
use Rattle.std.proofs.Common.{◌≡◌, ℕ, zero, suc, ◌*◌, ◌^◌, ◌<◌, ◌≤◌, min, Bool, true, false, not, ◌&&◌, Some, Ok, Err, Result, sym, refl, ap, ◌∙◌, subst, mul-lt-mul_of_pos_right, arith, lit<}
use Rattle.std.proofs.lemmas.Bool.Decides.{nat_tests}
use Rattle.entry.specs.Access.{access_level, permits}
use Rattle.entry.specs.Bits.{flag}
use Rattle.entry.specs.Layout.{DistinctFrames, Layout, Lawful}
use Rattle.entry.specs.declared.TableLevel.TheVariants.{First, Second}
use Rattle.entry.specs.declared.access.AccessKind.{AccessKind}
use Rattle.entry.specs.declared.access.AccessKind.TheVariants.{Read, Write}
use Rattle.entry.specs.declared.access.Mode.TheVariants.{User}
use Rattle.physical.specs.Stores.{Values, Writable, dword}
use Rattle.model.specs.declared.call.Request.{Request}
use Rattle.model.specs.declared.refusal.Abort.{Abort}
use Rattle.model.specs.declared.refusal.Refusal.{Refusal}
use Rattle.model.specs.declared.registers.Registers.{Registers}
use Rattle.model.specs.declared.translation.Hit.{Hit}
use Rattle.model.specs.declared.translation.Tag.{Tag}
use Rattle.model.specs.declared.translation.Translation.{Translation}
use Rattle.model.specs.Access.{access_kept, access_sought, access_through, needs_mark, physical_of, uncached_through, walk_outcome, walked}
use Rattle.model.specs.Requests.{looking, access_gate, access_seeks, level_of, marks_modified, seeks_at, sought, translate_gate, validation_gate, validation_seeks}
use Rattle.model.specs.States.{State, answered}
use Rattle.model.specs.Tlb.{base_of, find}
use Rattle.model.specs.Validation.{examine, examined, uncached_validate_through, validate_reading, validate_sought, validate_through}
use Rattle.laws.specs.Outcomes.{SameOutcome}
use Rattle.laws.specs.Transparency.{Nameable, Setting, Transparent, set_to, under}
use Rattle.laws.proofs.Currents.{Current, Sized, Used}
use Rattle.laws.proofs.Hits.{examine_tells}
use Rattle.laws.proofs.Marking.{marked_for_write, marked_referenced, marked_valid, same_entry}
use Rattle.laws.proofs.Memories.{dword_small, seen_value}
use Rattle.laws.proofs.Walks.{Finished, Walks, halts, ends, walks}

-- what a walk that finished and left the memory as it was tells of the two entries
record Ended (l : Layout) (level : ℕ) (b : Bool) (tag : Tag) (base : ℕ) (m : Values) (frame : ℕ) (inhibit : Bool) (address : ℕ) : Type 0 where
  first : ℕ
  second : ℕ
  first_used : Used l (l.first_entry base tag.page) m first
  second_used : Used l (l.second_entry (l.frame first) tag.page) m second
  placed : l.physical (l.frame second) (l.offset address) ≡ l.physical frame (l.offset address)
  inhibits : l.inhibit Second second ≡ inhibit
  modifies : b ≡ true → l.modified Second second ≡ true

ended : (l : Layout) → Lawful l → (level : ℕ) (b : Bool) (tag : Tag) (base : ℕ) (m : Values) (t : Translation) (p : Values) (frame : ℕ) (inhibit : Bool) (address : ℕ) → Finished l level b tag base m t p →
    ((a : ℕ) → m (dword a) ≡ p (dword a)) → physical_of l t address ≡ (l.physical frame (l.offset address), inhibit) → Ended l level b tag base m frame inhibit address
ended l laws level b tag base m t p frame inhibit address f same told =
    let a = l.first_entry base tag.page in
    let x = f.first_touched in
    let y = f.second_touched in
    let later = y.grown (dword a) f.first_left x.stands in
    let first : later.entry ≡ f.first = same_entry later.entry f.first (m (dword a)) (same a ∙ later.reads) f.first_passes.reads in
    let left_referenced : l.referenced f.first_left ≡ true = ap l.referenced x.left ∙ marked_referenced l laws First false f.first in
    let frames : l.frame f.first_left ≡ l.frame f.first = sym later.frame ∙ ap l.frame first in
    let c = l.second_entry (l.frame f.first_left) tag.page in
    let told' = ap (λ z. physical_of l z address) (sym f.finds) ∙ told in
    record {
      first = f.first;
      second = f.second_left;
      first_used = record { reads = f.first_passes.reads; valid = f.first_passes.valid; referenced = ap l.referenced (sym first) ∙ later.referenced left_referenced };
      second_used = rw (← frames) (record {
        reads = same c ∙ y.stands;
        valid = ap l.valid y.left ∙ marked_valid l laws Second b f.second ∙ f.second_passes.valid;
        referenced = ap l.referenced y.left ∙ marked_referenced l laws Second b f.second;
      });
      placed = ap (λ z. z.0) told';
      inhibits = ap (λ z. z.1) told';
      modifies = λ h. ap (l.modified Second) y.left ∙ marked_for_write l laws b f.second h;
    }

-- the settings that probe: translation on, breakpoints off, the space of the tag, with the override or without
record Probe (space : ℕ) (override : Bool) : Type 0 where
  setting : Setting
  translates : flag 0 setting.mcr ≡ true
  spaces : (if flag 2 setting.mcr && true then 1 else 0) ≡ space
  overrides : flag 3 setting.mcr ≡ override
  no_read_break : flag 4 setting.mcr ≡ false
  no_write_break : flag 5 setting.mcr ≡ false

probe_of : (v : ℕ) → v < 2 ^ 6 → (space : ℕ) (override : Bool) → flag 0 v ≡ true → (if flag 2 v && true then 1 else 0) ≡ space → flag 3 v ≡ override → flag 4 v ≡ false → flag 5 v ≡ false → Probe space override
probe_of v small space override a b c d e = record { setting = record { mcr = v; six_bits = small }; translates = a; spaces = b; overrides = c; no_read_break = d; no_write_break = e }

probe : (space : ℕ) (override : Bool) → space ≤ 1 → Probe space override
probe zero true small = probe_of 9 (lit< tt) 0 true refl refl refl refl refl
probe zero false small = probe_of 1 (lit< tt) 0 false refl refl refl refl refl
probe (suc zero) true small = probe_of 13 (lit< tt) 1 true refl refl refl refl refl
probe (suc zero) false small = probe_of 5 (lit< tt) 1 false refl refl refl refl refl
probe (suc (suc n)) override small = absurd (omega arith)

-- an access that the unit serves from what is kept, and in which it agrees with a walk
hit_ended : (l : Layout) → Lawful l → (w : Writable) (q : Request) (r : Registers) (m : Values) (frame : ℕ) (inhibit : Bool) →
    SameOutcome w w (answered (Ok (l.physical frame (l.offset q.address), inhibit)) r m) (walk_outcome l q r (walked l q r m w)) →
    Ended l (level_of r q) (marks_modified q.kind) (sought l r q) (base_of r (sought l r q)) m frame inhibit q.address
hit_ended l laws w q r m frame inhibit same = on (walked l q r m w) (walks l laws (level_of r q) (marks_modified q.kind) (sought l r q) (base_of r (sought l r q)) m w) same
  where
    apart : (x : ℕ × Bool) (y : Refusal) → Ok x ≡ Err y → ⊥
    apart x y h = cc

    inner : (x y : ℕ × Bool) → ◌≡◌ {A = Result (ℕ × Bool) Refusal} (Ok x) (Ok y) → x ≡ y
    inner x y h = cc

    on : (x : Result Translation Abort × Values) → Walks l (level_of r q) (marks_modified q.kind) (sought l r q) (base_of r (sought l r q)) m x →
        SameOutcome w w (answered (Ok (l.physical frame (l.offset q.address), inhibit)) r m) (walk_outcome l q r x) →
        Ended l (level_of r q) (marks_modified q.kind) (sought l r q) (base_of r (sought l r q)) m frame inhibit q.address
    on x (halts y n g) e = absurd (apart _ _ e.answer)
    on x (ends t p f) e =
        ended l laws (level_of r q) (marks_modified q.kind) (sought l r q) (base_of r (sought l r q)) m t p frame inhibit q.address f
        (λ a. seen_value (m (dword a)) (p (dword a)) (w (dword a)) (w (dword a)) (e.memory (dword a) (dword_small a)))
        (inner _ _ (sym e.answer))

module _ (l : Layout) (laws : Lawful l) (frames : DistinctFrames l) (w : Writable) (s : State) (tag : Tag) (nameable : Nameable l tag) (h : Hit) (kept : find tag s.tlb.slots ≡ Some h)
    (transparent : Transparent l w s tag) where
  abbrev address : ℕ
  address = tag.page * l.page_size

  addressable : tag.page * l.page_size < l.page_count * l.page_size
  addressable = mul-lt-mul_of_pos_right nameable.1 (let some = laws.offset_small 0 in omega arith)

  abbrev asks : AccessKind → Request
  asks kind = record { mode = User; kind = kind; address = address }

  module _ (override : Bool) (p : Probe tag.space override) where
    abbrev r : Registers
    r = set_to p.setting s.registers

    sought_here : (kind : AccessKind) → sought l r (asks kind) ≡ tag
    sought_here kind = let page = laws.page_start tag.page in let space = p.spaces in λ i. record { space = space i; page = page i }

    read_gate : access_gate r 1 0 address ≡ looking (asks Read)
    read_gate = rw (p.no_read_break, access_gate, p.translates)

    write_gate : access_gate r 1 1 address ≡ looking (asks Write)
    write_gate = rw (p.no_write_break, access_gate, p.translates)

    validate_read_gate : validation_gate r 0 address ≡ looking (asks Read)
    validate_read_gate = rw (p.translates, translate_gate)

    validate_write_gate : validation_gate r 1 address ≡ looking (asks Write)
    validate_write_gate = rw (p.translates, translate_gate)

    found_here : (kind : AccessKind) → find (sought l r (asks kind)) s.tlb.slots ≡ Some h
    found_here kind = ap (λ g. find g s.tlb.slots) (sought_here kind) ∙ kept

    level_here : (kind : AccessKind) → level_of r (asks kind) ≡ access_level User override kind
    level_here kind = ap (λ o. access_level User o kind) p.overrides

    -- what is kept serves
    served : (kind : AccessKind) → permits h.translation.protection (level_of r (asks kind)) ≡ true → needs_mark (asks kind) h.translation ≡ false →
        (access_sought l (asks kind) (under p.setting s) w).outcome ≡ answered (Ok (physical_of l h.translation address)) r s.values
    served kind b d = rw (found_here kind, access_sought, b, access_kept, d)

    -- a read under this setting, and a write
    accessed : (number : ℕ) (kind : AccessKind) → access_gate r 1 number address ≡ looking (asks kind) →
        permits h.translation.protection (level_of r (asks kind)) ≡ true → needs_mark (asks kind) h.translation ≡ false →
        SameOutcome w w (answered (Ok (physical_of l h.translation address)) r s.values) (walk_outcome l (asks kind) r (walked l (asks kind) r s.values w))
    accessed number kind gate b d =
        let seeks : access_seeks l r 1 number address ≡ Some tag = ap (seeks_at l r) gate ∙ ap Some (sought_here kind) in
        let whole = transparent.accesses p.setting 1 number address addressable seeks in
        let looked : SameOutcome w w (access_sought l (asks kind) (under p.setting s) w).outcome (walk_outcome l (asks kind) r (walked l (asks kind) r s.values w))
        = subst (λ g. SameOutcome w w (access_through l g (under p.setting s) w).outcome (uncached_through l g r s.values w)) gate whole in
        subst (λ x. SameOutcome w w x (walk_outcome l (asks kind) r (walked l (asks kind) r s.values w))) (served kind b d) looked

    accessed_ended : (number : ℕ) (kind : AccessKind) → access_gate r 1 number address ≡ looking (asks kind) →
        permits h.translation.protection (level_of r (asks kind)) ≡ true → needs_mark (asks kind) h.translation ≡ false →
        Ended l (level_of r (asks kind)) (marks_modified kind) tag (base_of s.registers tag) s.values h.translation.frame h.translation.inhibit address
    accessed_ended number kind gate b d =
        subst (λ g. Ended l (level_of r (asks kind)) (marks_modified kind) g (base_of r g) s.values h.translation.frame h.translation.inhibit address) (sought_here kind)
        (hit_ended l laws w (asks kind) r s.values h.translation.frame h.translation.inhibit (accessed number kind gate b d))

    -- a validation under this setting
    validated : (number : ℕ) (kind : AccessKind) → validation_gate r number address ≡ looking (asks kind) → (e f : ℕ) →
        Used l (l.first_entry (base_of s.registers tag) tag.page) s.values e → Used l (l.second_entry (l.frame e) tag.page) s.values f →
        not (permits h.translation.protection (access_level User override kind)) ≡ not (permits (min (l.protection e) (l.protection f)) (access_level User override kind))
    validated number kind gate e f u v =
        let seeks : validation_seeks l r number address ≡ Some tag = ap (seeks_at l r) gate ∙ ap Some (sought_here kind) in
        let whole = transparent.validations p.setting number address addressable seeks in
        let looked : SameOutcome w w (validate_sought l (asks kind) r s.tlb.slots s.values) (validate_reading l (asks kind) r s.values)
        = subst (λ g. SameOutcome w w (validate_through l g r s.tlb.slots s.values) (uncached_validate_through l g r s.values)) gate whole in
        let flag : (validate_sought l (asks kind) r s.tlb.slots s.values).answer ≡ Ok (not (permits h.translation.protection (level_of r (asks kind)))) = rw (found_here kind, validate_sought) in
        let examined_here : examine l (level_of r (asks kind)) (sought l r (asks kind)) (base_of r (sought l r (asks kind))) s.values ≡ Ok (not (permits (min (l.protection e) (l.protection f)) (level_of r (asks kind))))
        = subst (λ g. examine l (level_of r (asks kind)) g (base_of r g) s.values ≡ Ok (not (permits (min (l.protection e) (l.protection f)) (level_of r (asks kind))))) (sym (sought_here kind))
        (examine_tells l laws w s.values tag (base_of s.registers tag) e f u v (level_of r (asks kind))) in
        let same : Ok (not (permits h.translation.protection (level_of r (asks kind)))) ≡ (examined (asks kind) r s.values (Ok (not (permits (min (l.protection e) (l.protection f)) (level_of r (asks kind)))))).answer
        = sym flag ∙ looked.answer ∙ ap (λ x. (examined (asks kind) r s.values x).answer) examined_here in
        subst (λ n. not (permits h.translation.protection n) ≡ not (permits (min (l.protection e) (l.protection f)) n)) (level_here kind) (inner _ _ same)
      where
        inner : (x y : Bool) → ◌≡◌ {A = Result Bool Refusal} (Ok x) (Ok y) → x ≡ y
        inner x y z = cc

  -- validations of levels 1, 2 and 3 tell a protection level
  levels : (x y : ℕ) → x ≤ 3 → y ≤ 3 → not (permits x 1) ≡ not (permits y 1) → not (permits x 2) ≡ not (permits y 2) → not (permits x 3) ≡ not (permits y 3) → x ≡ y
  levels x y a b c d e = grind (arith, nat_tests)

  pub probed : Sized l h.translation → h.translation.tag ≡ tag → Current l (base_of s.registers tag) s.values h.translation
  probed size tagged =
      let over = probe tag.space true nameable.0 in
      let plain = probe tag.space false nameable.0 in
      let n = accessed_ended true over 0 Read (read_gate true over) (rw (level_here true over Read) (any_permits h.translation.protection)) refl in
      let v1 = validated true over 1 Write (validate_write_gate true over) n.first n.second n.first_used n.second_used in
      let v2 = validated false plain 0 Read (validate_read_gate false plain) n.first n.second n.first_used n.second_used in
      let v3 = validated false plain 1 Write (validate_write_gate false plain) n.first n.second n.first_used n.second_used in
      let small = laws.protection_small n.first in
      let framed = size.framed in
      record {
        first = n.first;
        second = n.second;
        first_used = subst (λ g. Used l (l.first_entry (base_of s.registers tag) g.page) s.values n.first) (sym tagged) n.first_used;
        second_used = subst (λ g. Used l (l.second_entry (l.frame n.first) g.page) s.values n.second) (sym tagged) n.second_used;
        protection = levels h.translation.protection (min (l.protection n.first) (l.protection n.second)) size.small (omega arith) v1 v2 v3;
        frame = framed ∙ frames size.entry n.second address (ap (λ x. l.physical x (l.offset address)) (sym framed) ∙ sym n.placed);
        inhibit = sym n.inhibits;
        modified = λ d above.
            let y = accessed_ended true over 1 Write (write_gate true over) (rw (level_here true over Write) (one_permits h.translation.protection above)) (ap not d) in
            let first : y.first ≡ n.first = same_entry y.first n.first _ y.first_used.reads n.first_used.reads in
            let reads = subst (λ z. s.values (dword (l.second_entry (l.frame z) tag.page)) ≡ Some y.second) first y.second_used.reads in
            let second : y.second ≡ n.second = same_entry y.second n.second _ reads n.second_used.reads in
            ap (l.modified Second) (sym second) ∙ y.modifies refl;
      }
    where
      any_permits : (x : ℕ) → permits x 0 ≡ true
      any_permits x = grind (arith, nat_tests)

      one_permits : (x : ℕ) → 0 < x → permits x 1 ≡ true
      one_permits x above = grind (arith, nat_tests)
