-- Transparent exactly where nothing stale is kept.
use Rattle.std.proofs.Common.{◌≡◌, Some, None, Option, sym, refl, ap, ◌∙◌, subst}
use Rattle.std.proofs.lemmas.Option.{none-some, same_Some}
use Rattle.entry.specs.Layout.{DistinctFrames, Layout, Lawful}
use Rattle.physical.specs.Stores.{Writable}
use Rattle.model.specs.declared.translation.Tag.{Tag}
use Rattle.model.specs.Calls.{after, start}
use Rattle.model.specs.States.{State}
use Rattle.model.specs.Tlb.{base_of, rest}
use Rattle.model.specs.Access.{access_through, uncached_through}
use Rattle.model.specs.Requests.{Gate, stopped, untranslated, looking, access_gate, seeks_at, validation_gate}
use Rattle.model.specs.Validation.{uncached_validate_through, validate_through}
use Rattle.laws.specs.Transparency.{Nameable, NoneStale, Setting, Transparent, TransparentIffNoneStale, UnsoughtAlike, under}
use Rattle.laws.proofs.Currents.{Current, Sized, current_tells, tells_current}
use Rattle.laws.proofs.Hits.{KeptCurrent, access_same, same_outcome, validation_same}
use Rattle.laws.proofs.Invariant.{Invariant, invariant_run}
use Rattle.laws.proofs.Probes.{probed}
use Rattle.laws.proofs.Slots.{kept_found}

pub transparent : (l : Layout) → Lawful l → (w : Writable) (s : State) (tag : Tag) → NoneStale l s tag → Transparent l w s tag
transparent l laws w s tag none = record {
  accesses = λ v mode kind address _ seeks. same_outcome w _ _ (access_same l laws w (under v s) mode kind address (λ g e. kept v g (seeks_only seeks e)));
  validations = λ v kind address _ seeks. same_outcome w _ _ (validation_same l laws w (under v s) kind address (λ g e. kept v g (seeks_only seeks e)));
}
  where
    seeks_only : {o : Option Tag} {g : Tag} → o ≡ Some tag → o ≡ Some g → g ≡ tag
    seeks_only {o} {g} h e = same_Some g tag (sym e ∙ h)

    kept : (v : Setting) (g : Tag) → g ≡ tag → KeptCurrent l (under v s) g
    kept v g same i t h e = current_tells l s.registers s.values t (none i t h (e ∙ same))

pub none_stale : (l : Layout) → Lawful l → DistinctFrames l → (w : Writable) (s : State) → Invariant l s.tlb.slots → (tag : Tag) → Nameable l tag → Transparent l w s tag → NoneStale l s tag
none_stale l laws frames w s v tag nameable clear i t h e =
    let (y, found, same) = kept_found s.tlb.slots v.unique i t tag h e in
    let c = probed l laws frames w s tag nameable y found clear (subst (λ z. Sized l z) (sym same) (v.sized i t h)) (ap (λ z. z.tag) same ∙ e) in
    let d : Current l (base_of s.registers tag) s.values t = subst (λ z. Current l (base_of s.registers tag) s.values z) same c in
    tells_current l s.registers s.values t (subst (λ g. Current l (base_of s.registers g) s.values t) (sym e) d)

pub transparent_iff_none_stale : (l : Layout) → Lawful l → DistinctFrames l → TransparentIffNoneStale l
transparent_iff_none_stale l laws frames w m calls tag nameable =
    (transparent l laws w (after l w calls (start m)).unit tag, none_stale l laws frames w (after l w calls (start m)).unit (invariant_run l laws w m calls) tag nameable)

pub unsought_alike : (l : Layout) → UnsoughtAlike l
unsought_alike l = record {
  accesses = λ w s mode kind address. access_on w s (access_gate s.registers mode kind address);
  validations = λ s kind address. validation_on s (validation_gate s.registers kind address);
}
  where
    access_on : (w : Writable) (s : State) (g : Gate) → seeks_at l s.registers g ≡ None → ((access_through l g s w).outcome ≡ uncached_through l g s.registers s.values w) × ((access_through l g s w).action ≡ rest)
    access_on w s (stopped x r) e = (refl, refl)
    access_on w s (untranslated q) e = (refl, refl)
    access_on w s (looking q) e = absurd (none-some _ (sym e))

    validation_on : (s : State) (g : Gate) → seeks_at l s.registers g ≡ None →
        (validate_through l g s.registers s.tlb.slots s.values ≡ uncached_validate_through l g s.registers s.values) × (rest ≡ rest)
    validation_on s (stopped x r) e = (refl, refl)
    validation_on s (untranslated q) e = (refl, refl)
    validation_on s (looking q) e = absurd (none-some _ (sym e))
