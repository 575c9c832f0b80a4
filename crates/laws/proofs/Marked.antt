-- A write that is done leaves its page marked modified.
use Rattle.std.proofs.Common.{◌≡◌, ℕ, Bool, true, Some, Ok, Err, Result, sym, ap, ◌∙◌, subst}
use Rattle.std.proofs.lemmas.Option.{none-some, same_Some}
use Rattle.entry.specs.Layout.{Layout, Lawful}
use Rattle.entry.specs.declared.TableLevel.TheVariants.{Second}
use Rattle.physical.specs.Stores.{Values, Writable}
use Rattle.model.specs.declared.call.Reply.TheVariants.{Translated}
use Rattle.model.specs.declared.call.Request.{Request}
use Rattle.model.specs.declared.refusal.Abort.{Abort}
use Rattle.model.specs.declared.refusal.Refusal.{Refusal}
use Rattle.model.specs.declared.registers.Registers.{Registers}
use Rattle.model.specs.declared.translation.Tag.{Tag}
use Rattle.model.specs.declared.translation.Translation.{Translation}
use Rattle.model.specs.Access.{Accessed, access, uncached_through, walk_outcome, walked}
use Rattle.model.specs.Calls.{reply, translation_reply}
use Rattle.model.specs.Currency.{found_now}
use Rattle.model.specs.Requests.{Gate, looking, access_gate, access_request, access_seeks, level_of, marks_modified, seeks_at, sought}
use Rattle.model.specs.States.{Outcome}
use Rattle.model.specs.Tlb.{base_of}
use Rattle.laws.specs.Transparency.{WritesMarkPages, says_modified}
use Rattle.laws.proofs.Currents.{Grounded, current_found, current_tells, finished_grounded, finished_tag}
use Rattle.laws.proofs.Hits.{KeptCurrent, access_same}
use Rattle.laws.proofs.Marking.{marked_for_write}
use Rattle.laws.proofs.Ways.{AccessWay, access_refused, access_breaks, access_passes, access_looks, access_way}
use Rattle.laws.proofs.Walks.{Finished, Walks, halts, ends, walks}

-- a finished walk that marks leaves the second entry marked, where a walk finds it now
finished_marks : (l : Layout) → Lawful l → (level : ℕ) (b : Bool) (tag : Tag) (r : Registers) (m : Values) (t : Translation) (p : Values) → b ≡ true →
    Finished l level b tag (base_of r tag) m t p → says_modified (found_now l tag (base_of r tag) p) ≡ true
finished_marks l laws level b tag r m t p marks f =
    let same = finished_tag l level b tag (base_of r tag) m t p f in
    let g : Grounded l (base_of r t.tag) p t = subst (λ x. Grounded l (base_of r x) p t) (sym same) (finished_grounded l laws level b tag (base_of r tag) m t p f) in
    let set : t.modified ≡ true = ap (λ x. x.modified) f.finds ∙ ap (l.modified Second) f.second_touched.left ∙ marked_for_write l laws b f.second marks in
    subst (λ x. says_modified (found_now l x (base_of r x) p) ≡ true) same (ap says_modified (current_found l r p t g.now) ∙ g.modified set)

walk_marks : (l : Layout) → Lawful l → (w : Writable) (q : Request) (r : Registers) (m : Values) (a : ℕ) (inhibit : Bool) → marks_modified q.kind ≡ true →
    reply translation_reply (walk_outcome l q r (walked l q r m w)).answer ≡ Ok (Translated a inhibit) →
    says_modified (found_now l (sought l r q) (base_of (walk_outcome l q r (walked l q r m w)).registers (sought l r q)) (walk_outcome l q r (walked l q r m w)).values) ≡ true
walk_marks l laws w q r m a inhibit marks = on (walked l q r m w) (walks l laws (level_of r q) (marks_modified q.kind) (sought l r q) (base_of r (sought l r q)) m w)
  where
    apart : (x : Refusal) → Err x ≡ Ok (Translated a inhibit) → ⊥
    apart x h = cc

    on : (x : Result Translation Abort × Values) → Walks l (level_of r q) (marks_modified q.kind) (sought l r q) (base_of r (sought l r q)) m x →
        reply translation_reply (walk_outcome l q r x).answer ≡ Ok (Translated a inhibit) →
        says_modified (found_now l (sought l r q) (base_of (walk_outcome l q r x).registers (sought l r q)) (walk_outcome l q r x).values) ≡ true
    on x (halts y n g) h = absurd (apart _ h)
    on x (ends t p f) h = finished_marks l laws (level_of r q) (marks_modified q.kind) (sought l r q) r m t p marks f

-- what looks for a tag came to look for the page of its request
looks : (l : Layout) (r : Registers) (mode kind address : ℕ) (q : Request) (tag : Tag) → access_request mode kind address ≡ Ok q → access_seeks l r mode kind address ≡ Some tag →
    (access_gate r mode kind address ≡ looking q) × (sought l r q ≡ tag)
looks l r mode kind address q tag e = on _ (access_way mode kind address r)
  where
    on : (g : Gate) → AccessWay mode kind address r g → seeks_at l r g ≡ Some tag → (g ≡ looking q) × (sought l r q ≡ tag)
    on _ (access_refused _) h = absurd (none-some tag h)
    on _ (access_breaks _ _) h = absurd (none-some tag h)
    on _ (access_passes _ _) h = absurd (none-some tag h)
    on _ (access_looks x a) h =
        let same : x ≡ q = cc (a.request) in
        (ap looking same, ap (sought l r) (sym same) ∙ same_Some _ tag h)

pub writes_mark_pages : (l : Layout) → Lawful l → WritesMarkPages l
writes_mark_pages l laws w m calls s mode kind address a inhibit q tag _ e marks seeks none done =
    let r = s.unit.registers in
    let n = s.unit.values in
    let (gate, same) = looks l r mode kind address q tag e seeks in
    let kept : (g : Tag) → access_seeks l r mode kind address ≡ Some g → KeptCurrent l s.unit g = λ g h i t held f. current_tells l r n t (none i t held (f ∙ same_Some g tag (sym h ∙ seeks))) in
    let whole = access_same l laws w s.unit mode kind address kept ∙ ap (λ g. uncached_through l g r n w) gate in
    let done' : reply translation_reply (walk_outcome l q r (walked l q r n w)).answer ≡ Ok (Translated a inhibit) = ap (λ x. reply translation_reply x.answer) (sym whole) ∙ done in
    let marked = walk_marks l laws w q r n a inhibit marks done' in
    let marked' = subst (λ (x : Outcome Accessed). says_modified (found_now l (sought l r q) (base_of x.registers (sought l r q)) x.values) ≡ true) (sym whole) marked in
    let x = (access l mode kind address s.unit w).outcome in
    subst (λ g. says_modified (found_now l g (base_of x.registers g) x.values) ≡ true) same marked'
