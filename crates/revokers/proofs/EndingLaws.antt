-- The parts of an epoch's end, step by step.
use Rattle.std.proofs.Common.{◌≡◌, ◌∙◌, ◌+◌, ◌*◌, ◌^◌, ◌<◌, ◌≤◌, ◌++◌, ◌&&◌, ℕ, Bool, true, false, cond, eq-eqb, eqb, not, Option, Some, None, inl, inr, List, [], ◌∷◌, length, get_or, refl, sym, ap, subst, arith}
use Rattle.std.specs.Prelude.{nat_lt, slice_set}
use Rattle.std.proofs.lemmas.Bool.{cases_eq, cases_lt, true≢false}
use Rattle.std.proofs.lemmas.Bool.Decides.{nat_tests}
use Rattle.std.proofs.lemmas.List.{append-nil, append_assoc, get_or-set_other, get_or-set_same, get_or_past, length-set}
use Rattle.std.proofs.lemmas.List.Elements.{All-from_get_or}
use Rattle.heap_model.specs.Blocks.{Span}
use Rattle.heap_model.specs.Sweep.{is_revoked, swept_cell, swept_granule, takes_tag}
use Rattle.sweep_masks.specs.Tasks.{Cut}
use Rattle.tag_memory.specs.Cells.{Cell, is_dirty_at, null_cell}
use Rattle.heap_machine.specs.Storage.{MachineState}
use Rattle.machine_steps.specs.State.{State}
use Rattle.machine_steps.specs.Step.{Step}
use Rattle.revoker_steps.specs.ChangedLaws.{get_or-changed, length-changed}
use Rattle.revoker_steps.specs.declared.command.RevokerCommand.TheVariants.{Release, UntagRegister, Visit}
use Rattle.revoker_steps.specs.declared.command.RevokerReply.{RevokerReply}
use Rattle.revoker_steps.specs.declared.command.RevokerReply.TheVariants.{Released}
use Rattle.revoker_steps.specs.declared.command.RevokerTrap.{RevokerTrap}
use Rattle.revoker_steps.specs.declared.command.RevokerTrap.TheVariants as trap
use Rattle.revoker_steps.specs.Events.{Event, IsAmong, Runs, cleared_by, cleared_in, register_untags, visits}
use Rattle.revoker_steps.specs.Events.Event.{Revoked}
use Rattle.revoker_steps.specs.Revoker.{RevokerStep, RevokerStepAfter, after_untag, after_untag_registers, first_failed_check, is_in_page, is_register, revoker_checks}
use Rattle.revoker_steps.specs.RevokerDirty.{revoker_dirty_after, revoker_dirty_by}
use Rattle.revoker_steps.specs.Tracked.{AreClean}
use Rattle.revokers.specs.Acts.{untag_act, untag_acts, visit_acts}
use Rattle.revokers.specs.declared.acts.Act.{Act}
use Rattle.revokers.specs.Ending.{Finishes, HasUntagged, IsUntagged, Untags, Visits}
use Rattle.revokers.specs.Looks.{IsVisited, Looks}
use Rattle.revokers.proofs.ListLaws.{Runs-append, Among-last, Among-still, Among-which, cleared-push, told-push, untag_acts-push, untags-push, visit_acts-push, visits-push}

-- ---- one step in an open epoch

pub register_passes : (s : State) (r : ℕ) → s.heap.is_open ≡ true → first_failed_check (revoker_checks s (UntagRegister r)) ≡ None
register_passes s r opened = ap (λ b. first_failed_check ((b, trap.NotOpen) ∷ [])) opened

pub visit_passes : (s : State) (page : ℕ) → s.heap.is_open ≡ true → 256 * page < length s.granules → first_failed_check (revoker_checks s (Visit page)) ≡ None
visit_passes s page opened inside =
    let within : nat_lt (256 * page) (length s.granules) ≡ true = grind (arith, nat_tests, inside) in
    ap (λ b. first_failed_check ((b, trap.NotOpen) ∷ (nat_lt (256 * page) (length s.granules), trap.Bounds) ∷ [])) opened
    ∙ ap (λ b. first_failed_check ((b, trap.Bounds) ∷ [])) within

pub Register-leaves : (s : State) (r : ℕ) (reply : RevokerReply) (new : State) → s.heap.is_open ≡ true → RevokerStep s (UntagRegister r) reply new → new ≡ after_untag_registers (is_register r) s
Register-leaves s r reply new opened step = (subst (λ (t : Option RevokerTrap). RevokerStepAfter t s (UntagRegister r) reply new) (register_passes s r opened) step).1

pub Visit-leaves : (s : State) (page : ℕ) (reply : RevokerReply) (new : State) → s.heap.is_open ≡ true → 256 * page < length s.granules → RevokerStep s (Visit page) reply new → new ≡ after_untag (is_in_page page) s
Visit-leaves s page reply new opened inside step = (subst (λ (t : Option RevokerTrap). RevokerStepAfter t s (Visit page) reply new) (visit_passes s page opened inside) step).1

pub Visit-cleans : (s : State) (page : ℕ) (dirty : List Bool) → s.heap.is_open ≡ true → 256 * page < length s.granules → revoker_dirty_after s (Visit page) dirty ≡ slice_set dirty page false
Visit-cleans s page dirty opened inside = ap (λ (t : Option RevokerTrap). revoker_dirty_by t (Visit page) dirty) (visit_passes s page opened inside)

-- ---- registers

-- The registers below n have lost their tags, which took so many.
pub record UntagsBelow (old : MachineState) (before : List Act) (n cleared : ℕ) (now : MachineState) (after : List Act) : Type 0 where
  pub registers : List (ℕ × RevokerReply)
  pub steps : Runs Step old.state (register_untags registers) now.state
  pub all : (r : ℕ) → r < n → IsAmong registers r
  pub count : cleared ≡ cleared_in registers
  pub few : cleared ≤ n * 2 ^ 32
  pub untagged : (r : ℕ) → r < n → takes_tag now.state.heap.painted (get_or now.state.registers r null_cell) ≡ false
  pub length_is : length now.state.registers ≡ length old.state.registers
  pub is_open : now.state.heap.is_open ≡ true
  pub dirty : now.dirty ≡ old.dirty
  pub cutting : now.cutting ≡ old.cutting
  pub told : after ≡ before ++ untag_acts registers

spared : (held : List Span) (c : Cell) → takes_tag held (swept_cell held c) ≡ false
spared held c = none c.1 (is_revoked held c.0) where
  none : (t r : Bool) → ((t && not r) && r) ≡ false
  none true true = refl
  none true false = refl
  none false r = refl

-- Whether it loses its tag or not, a cell that has none to lose has none after it.
stays : (held : List Span) (b : Bool) (c : Cell) → takes_tag held c ≡ false → takes_tag held (cond b (swept_cell held c) c) ≡ false
stays held true c none = spared held c
stays held false c none = none

goes : (held : List Span) (b : Bool) (c : Cell) → b ≡ true → takes_tag held (cond b (swept_cell held c) c) ≡ false
goes held true c is = spared held c
goes held false c is = absurd (true≢false (sym is))

register-after : (s : State) (n r : ℕ) → get_or (after_untag_registers (is_register n) s).registers r null_cell ≡ cond (is_register n r) (swept_cell s.heap.painted (get_or s.registers r null_cell)) (get_or s.registers r null_cell)
register-after s n r = get_or-changed (swept_cell s.heap.painted) null_cell refl (is_register n) s.registers r

untagged-below : (s : State) (n : ℕ) → ((r : ℕ) → r < n → takes_tag s.heap.painted (get_or s.registers r null_cell) ≡ false) → (r : ℕ) → r < n + 1
    → takes_tag s.heap.painted (get_or (after_untag_registers (is_register n) s).registers r null_cell) ≡ false
untagged-below s n below r lt =
    ap (takes_tag s.heap.painted) (register-after s n r) ∙ (elim (cases_eq r n) [
      | inl same ↦ goes s.heap.painted (is_register n r) (get_or s.registers r null_cell) (eq-eqb r n same)
      | inr other ↦ stays s.heap.painted (is_register n r) (get_or s.registers r null_cell) (below r (omega (arith, lt, other)))
    ])

pub UntagsBelow-next : (old : MachineState) (before : List Act) (n cleared more : ℕ) (now : MachineState) (told : List Act) (new : MachineState) (after : List Act) → UntagsBelow old before n cleared now told
    → IsUntagged n now.state told more new.state after → new.dirty ≡ now.dirty → new.cutting ≡ now.cutting → more < 2 ^ 32
    → UntagsBelow old before (n + 1) (cleared + more) new after
UntagsBelow-next old before n cleared more now told new after below done dirty cutting few =
    let reply = done.reply in
    let step = done.step in
    let is = Register-leaves now.state n reply new.state below.is_open step in
    let them : List (ℕ × RevokerReply) = below.registers ++ (n, reply) ∷ [] in
    record {
      registers = them;
      steps = untags-push old.state now.state new.state below.registers n reply below.steps step;
      all = λ r lt. elim (cases_eq r n) [
        | inl same ↦ subst (IsAmong them) (sym same) (Among-last below.registers (n, reply))
        | inr other ↦ Among-still below.registers (n, reply) r (below.all r (omega (arith, lt, other)))
      ];
      count = omega (arith, below.count, done.count, cleared-push below.registers (n, reply));
      few = omega (arith, below.few, few);
      untagged = subst (λ (s : State). (r : ℕ) → r < n + 1 → takes_tag s.heap.painted (get_or s.registers r null_cell) ≡ false) (sym is) (untagged-below now.state n below.untagged);
      length_is = ap (λ (s : State). length s.registers) is ∙ length-changed (swept_cell now.state.heap.painted) (is_register n) now.state.registers ∙ below.length_is;
      is_open = ap (λ (s : State). s.heap.is_open) is ∙ below.is_open;
      dirty = dirty ∙ below.dirty;
      cutting = cutting ∙ below.cutting;
      told = told-push before told after (untag_acts below.registers) (untag_acts them) (untag_act n reply) below.told done.told (untag_acts-push below.registers n reply);
    }

pub UntagsBelow-untags : (old : MachineState) (before : List Act) (cleared : ℕ) (now : MachineState) (after : List Act) → UntagsBelow old before 32 cleared now after → Untags old.state before cleared now.state after
UntagsBelow-untags old before cleared now after below = record {
  registers = below.registers;
  steps = below.steps;
  all = below.all;
  count = below.count;
  told = below.told;
}

pub UntagsBelow-untagged : (old : MachineState) (before : List Act) (cleared : ℕ) (now : MachineState) (after : List Act) → length old.state.registers ≡ 32 → UntagsBelow old before 32 cleared now after → HasUntagged now.state
UntagsBelow-untagged old before cleared now after count below r =
    elim (cases_lt r 32) [
      | inl lt ↦ below.untagged r lt
      | inr past ↦ ap (takes_tag now.state.heap.painted) (get_or_past now.state.registers r null_cell (omega (arith, past, below.length_is, count)))
    ]

-- ---- pages

-- The pages below n that pass the test were visited, and no others, which took so many tags.
pub record VisitsBelow (test : ℕ → Bool) (old : State) (before : List Act) (n cleared : ℕ) (now : State) (after : List Act) : Type 0 where
  pub pages : List (ℕ × RevokerReply)
  pub steps : Runs Step old (visits pages) now
  pub all : (page : ℕ) → page < n → test page ≡ true → IsAmong pages page
  pub only : (page : ℕ) → IsAmong pages page → test page ≡ true
  pub count : cleared ≡ cleared_in pages
  pub few : cleared ≤ n * 2 ^ 32
  pub granules : length now.granules ≡ length old.granules
  pub is_open : now.heap.is_open ≡ true
  pub told : after ≡ before ++ visit_acts pages

pub VisitsBelow-none : (test : ℕ → Bool) (old : State) (before : List Act) → old.heap.is_open ≡ true → VisitsBelow test old before 0 0 old before
VisitsBelow-none test old before opened = record {
  pages = [];
  steps = refl;
  all = λ page lt. absurd (omega (arith, lt));
  only = λ page among. elim among [ ];
  count = refl;
  few = omega arith;
  granules = refl;
  is_open = opened;
  told = sym (append-nil before);
}

pub VisitsBelow-next : (test : ℕ → Bool) (old : State) (before : List Act) (n cleared more : ℕ) (now : State) (told : List Act) (reply : RevokerReply) (new : State) (after : List Act) → VisitsBelow test old before n cleared now told
    → test n ≡ true → 256 * n < length old.granules → RevokerStep now (Visit n) reply new → more ≡ cleared_by reply → more < 2 ^ 32
    → after ≡ told ++ record { command = Visit n; reply = reply } ∷ [] → VisitsBelow test old before (n + 1) (cleared + more) new after
VisitsBelow-next test old before n cleared more now told reply new after below passes inside step counted few tells =
    let is = Visit-leaves now n reply new below.is_open (omega (arith, inside, below.granules)) step in
    let them : List (ℕ × RevokerReply) = below.pages ++ (n, reply) ∷ [] in
    record {
      pages = them;
      steps = visits-push old now new below.pages n reply below.steps step;
      all = λ page lt tested. elim (cases_eq page n) [
        | inl same ↦ subst (IsAmong them) (sym same) (Among-last below.pages (n, reply))
        | inr other ↦ Among-still below.pages (n, reply) page (below.all page (omega (arith, lt, other)) tested)
      ];
      only = λ page among. elim (Among-which below.pages (n, reply) page among) [
        | inl before ↦ below.only page before
        | inr same ↦ subst (λ (k : ℕ). test k ≡ true) same passes
      ];
      count = omega (arith, below.count, counted, cleared-push below.pages (n, reply));
      few = omega (arith, below.few, few);
      granules = ap (λ (s : State). length s.granules) is ∙ length-changed (swept_granule now.heap.painted) (is_in_page n) now.granules ∙ below.granules;
      is_open = ap (λ (s : State). s.heap.is_open) is ∙ below.is_open;
      told = told-push before told after (visit_acts below.pages) (visit_acts them) (record { command = Visit n; reply = reply } ∷ []) below.told tells (visit_acts-push below.pages n reply);
    }

pub VisitsBelow-passed : (test : ℕ → Bool) (old : State) (before : List Act) (n cleared : ℕ) (now : State) (after : List Act) → VisitsBelow test old before n cleared now after → test n ≡ false
    → VisitsBelow test old before (n + 1) cleared now after
VisitsBelow-passed test old before n cleared now after below fails = record {
  pages = below.pages;
  steps = below.steps;
  all = λ page lt tested. elim (cases_eq page n) [
    | inl same ↦ absurd (true≢false (sym tested ∙ ap test same ∙ fails))
    | inr other ↦ below.all page (omega (arith, lt, other)) tested
  ];
  only = below.only;
  count = below.count;
  few = omega (arith, below.few);
  granules = below.granules;
  is_open = below.is_open;
  told = below.told;
}

pub VisitsBelow-visits : (test : ℕ → Bool) (old : State) (before : List Act) (n cleared : ℕ) (now : State) (after : List Act) → VisitsBelow test old before n cleared now after → ((page : ℕ) → n ≤ page → test page ≡ false)
    → Visits test old before cleared now after
VisitsBelow-visits test old before n cleared now after below past = record {
  pages = below.pages;
  steps = below.steps;
  all = λ page tested. elim (cases_lt page n) [
    | inl lt ↦ below.all page lt tested
    | inr le ↦ absurd (true≢false (sym tested ∙ past page le))
  ];
  only = below.only;
  count = below.count;
  told = below.told;
}

-- ---- the whole

pub finishes : (test : ℕ → Bool) (old visited untagged new : State) (in_memory in_registers bytes : ℕ) (before one two after : List Act) → Visits test old before in_memory visited one → Untags visited one in_registers untagged two
    → RevokerStep untagged Release (Released bytes) new → after ≡ two ++ record { command = Release; reply = Released bytes } ∷ []
    → Finishes test old before (record { cleared = in_memory + in_registers; bytes = bytes }) new after
finishes test old visited untagged new in_memory in_registers bytes before one two after first then step tells =
    let act : Act = record { command = Release; reply = Released bytes } in
    let last : List Event = Revoked Release (Released bytes) ∷ [] in
    record {
      pages = first.pages;
      registers = then.registers;
      steps = Runs-append Step old untagged new (visits first.pages ++ register_untags then.registers) last
          (Runs-append Step old visited untagged (visits first.pages) (register_untags then.registers) first.steps then.steps) (new, step, refl);
      all_pages = first.all;
      only_pages = first.only;
      all_registers = then.all;
      cleared = omega (arith, first.count, then.count);
      told = tells ∙ ap (λ (acts : List Act). acts ++ act ∷ []) (then.told ∙ ap (λ (acts : List Act). acts ++ untag_acts then.registers) first.told)
          ∙ append_assoc (before ++ visit_acts first.pages) (untag_acts then.registers) (act ∷ []) ∙ append_assoc before (visit_acts first.pages) (untag_acts then.registers ++ act ∷ []);
    }
